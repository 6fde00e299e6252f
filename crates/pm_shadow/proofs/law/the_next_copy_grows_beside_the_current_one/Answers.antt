use Rattle.pm_shadow.proofs.CopyLemmas.{lowest_unused, claimed_keeps, kept_keeps, abandoned_keeps, listed_idle, abandoned_idle, published_idle}
use Rattle.pm_shadow.proofs.law.the_next_copy_grows_beside_the_current_one.Goals as goal

pub returns-clause-lowest : goal.returns-clause-lowest
returns-clause-lowest c = lowest_unused

pub returns-clause-claimed : goal.returns-clause-claimed
returns-clause-claimed c = claimed_keeps

pub returns-clause-kept : goal.returns-clause-kept
returns-clause-kept c = kept_keeps

pub returns-clause-abandoned : goal.returns-clause-abandoned
returns-clause-abandoned c = abandoned_keeps

pub returns-clause-listed : goal.returns-clause-listed
returns-clause-listed c s pages uses listed = listed_idle pages uses listed

pub returns-clause-given_up : goal.returns-clause-given_up
returns-clause-given_up c = abandoned_idle

pub returns-clause-published : goal.returns-clause-published
returns-clause-published c = published_idle
