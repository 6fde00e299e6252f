use Rattle.std.proofs.Common.{refl}
use Rattle.pm_law_copies.proofs.WalksLemmas.Walked.{names_led, root_kept, field_kept, holds, lies, least}
use Rattle.pm_law_copies.proofs.walks.laws.a_copy_is_walked_by_addresses.Goals as goal

pub returns-clause-names : goal.returns-clause-names
returns-clause-names c = λ view name law. names_led view law name

pub returns-clause-next : goal.returns-clause-next
returns-clause-next c = λ view. refl

pub returns-clause-root : goal.returns-clause-root
returns-clause-root c = λ view name bound law. root_kept view law name bound

pub returns-clause-field : goal.returns-clause-field
returns-clause-field c = λ view a object index to law. field_kept view law a object index to

pub returns-clause-holds : goal.returns-clause-holds
returns-clause-holds c = λ view a object index field. holds view a object index field

pub returns-clause-lies : goal.returns-clause-lies
returns-clause-lies c = λ view id law. lies view law id

pub returns-clause-least : goal.returns-clause-least
returns-clause-least c = λ view inside law. least view law inside
