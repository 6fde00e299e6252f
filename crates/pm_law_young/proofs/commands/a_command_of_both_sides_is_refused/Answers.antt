use Rattle.pm_law_young.proofs.commands.a_command_of_both_sides_is_refused.Goals as goal
use Rattle.pm_law_young.proofs.Mixed.{store_fieldless, store_unheld, swap_fieldless, swap_held, swap_null, swap_unheld}

pub returns-clause-store_no_handle : goal.returns-clause-store_no_handle
returns-clause-store_no_handle c = λ within world nursery client reg index value is none. store_unheld within world nursery is client reg index value none

pub returns-clause-store_no_field : goal.returns-clause-store_no_field
returns-clause-store_no_field c = λ within world nursery client reg index value id other object is one two here none.
    store_fieldless within world nursery is client reg index value id other object one two here none

pub returns-clause-swap_no_handle : goal.returns-clause-swap_no_handle
returns-clause-swap_no_handle c = λ within world nursery client reg index old value is none. swap_unheld within world nursery is client reg index old value none

pub returns-clause-swap_no_field : goal.returns-clause-swap_no_field
returns-clause-swap_no_field c = λ within world nursery client reg index old value id was other object is one two three here none.
    swap_fieldless within world nursery is client reg index old value id was other object one two three here none

pub returns-clause-swap_null : goal.returns-clause-swap_null
returns-clause-swap_null c = λ within world nursery client reg index old value id was other object is one two three here null.
    swap_null within world nursery is client reg index old value id was other object one two three here null

pub returns-clause-swap_held : goal.returns-clause-swap_held
returns-clause-swap_held c = λ within world nursery client reg index old value id was other found object is one two three here is_held apart.
    swap_held within world nursery is client reg index old value id was other object one two three here found is_held apart
