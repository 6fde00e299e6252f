use Rattle.pm_model.proofs.AnswerLaws.{leaves_object, leaves_next, leaves_name, leaves_register, leaves_settled, leaves_saving, leaves_watches}
use Rattle.pm_model.proofs.lasting.commands_leave_the_rest.Goals as goal

pub returns-clause-object : goal.returns-clause-object
returns-clause-object c world client cmd id new other = leaves_object world client cmd id new other

pub returns-clause-next : goal.returns-clause-next
returns-clause-next c world client cmd is = leaves_next world client cmd is

pub returns-clause-name : goal.returns-clause-name
returns-clause-name c world client cmd name other = leaves_name world client cmd name other

pub returns-clause-register : goal.returns-clause-register
returns-clause-register c world client cmd register is = leaves_register world client cmd client register (λ same. is)

pub returns-clause-others : goal.returns-clause-others
returns-clause-others c world client cmd other register apart = leaves_register world client cmd other register (λ same. absurd (apart same))

pub returns-clause-settled : goal.returns-clause-settled
returns-clause-settled c world client cmd is = leaves_settled world client cmd is

pub returns-clause-saving : goal.returns-clause-saving
returns-clause-saving c world client cmd is = leaves_saving world client cmd is

pub returns-clause-watches : goal.returns-clause-watches
returns-clause-watches c world client cmd is = leaves_watches world client cmd is
