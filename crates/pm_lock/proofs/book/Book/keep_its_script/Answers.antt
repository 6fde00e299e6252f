use Rattle.std.proofs.Common.{◌∙◌}
use Rattle.std.specs.Coded.{Coded-set, coded_list, coded_ℕ, coded_option}
use Rattle.std.proofs.Math.Logic.{∥∥₁_map}
use Rattle.pm_types.specs.contracts.Cmd as cmd_type
use Rattle.pm_engine.proofs.EventsLemmas.Lines.{told_once}
use Rattle.pm_lock.proofs.Laws.{below_once, number_once, splits_lines, splits_once}
use Rattle.pm_lock.proofs.book.Book.keep_its_script.Goals as goal

pub returns-clause-legal : goal.returns-clause-legal
returns-clause-legal g c = c.keep_their_images.ensures.legal

pub returns-clause-settled : goal.returns-clause-settled
returns-clause-settled g c = λ none. c.keep_their_images.ensures.settled (splits_once (Coded-set (coded_option coded_ℕ) _ _) (∥∥₁_map c.args.self.now.kept (λ is. is.engine.stopped)) ∙ none)

pub returns-clause-lines : goal.returns-clause-lines
returns-clause-lines g c = splits_lines c.args.self.now.script.value (∥∥₁_map c.args.self.now.kept (λ is. is.script.lines_are))

pub returns-clause-parts : goal.returns-clause-parts
returns-clause-parts g c = λ client. splits_once (Coded-set (coded_list cmd_type.the_row.coded) _ _) (∥∥₁_map c.args.self.now.kept (λ is. is.script.parts client))

pub returns-clause-answered : goal.returns-clause-answered
returns-clause-answered g c = splits_once (number_once _ _) (∥∥₁_map c.args.self.now.kept (λ is. is.script.answered))

pub returns-clause-steps : goal.returns-clause-steps
returns-clause-steps g c = splits_once (number_once _ _) (∥∥₁_map c.args.self.now.kept (λ is. is.script.steps))

pub returns-clause-events : goal.returns-clause-events
returns-clause-events g c = splits_once (number_once _ _) (∥∥₁_map c.args.self.now.kept (λ is. is.script.events))

pub returns-clause-few : goal.returns-clause-few
returns-clause-few g c = splits_once (below_once _ _) (∥∥₁_map c.args.self.now.kept (λ is. is.script.few))

pub returns-clause-told : goal.returns-clause-told
returns-clause-told g c = splits_once (told_once _) (∥∥₁_map c.args.self.now.kept (λ is. is.script.told))
