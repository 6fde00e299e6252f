use Rattle.pm_model.proofs.JournalLaws.{after_both, legal_both, legal_parts, chain_both, part_both, first_parts}
use Rattle.pm_model.proofs.laws.journals_go_one_behind_the_other.Goals as goal

pub returns-clause-after : goal.returns-clause-after
returns-clause-after c world one two = after_both world one two

pub returns-clause-legal : goal.returns-clause-legal
returns-clause-legal c world one two legal later = legal_both world one two legal later

pub returns-clause-parts : goal.returns-clause-parts
returns-clause-parts c world one two legal = legal_parts world one two legal

pub returns-clause-chain : goal.returns-clause-chain
returns-clause-chain c world one two = chain_both world one two

pub returns-clause-part : goal.returns-clause-part
returns-clause-part c client one two = part_both client one two

pub returns-clause-first : goal.returns-clause-first
returns-clause-first c client journal asked first = first_parts client journal asked first
