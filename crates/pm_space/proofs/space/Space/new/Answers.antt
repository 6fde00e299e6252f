use Rattle.std.proofs.Common.{refl, sym, subst}
use Rattle.pm_view.specs.Law.{HeapLaw}
use Rattle.pm_space.proofs.Fresh.{fresh_view}
use Rattle.pm_space.proofs.space.Space.new.Goals as goal

pub returns-clause-view : goal.returns-clause-view
returns-clause-view g c =
    fresh_view c.args.place c.new-3.result c.new-4.result c.in_ok-trains.trains c.new-5.result c.in_ok-handles.handles c.new-6.result
    c.new-3.ensures.current c.new-4.ensures c.in_ok-trains.ensures.trains c.new-5.ensures c.in_ok-handles.ensures c.new-6.ensures

pub invariant_of-result : goal.invariant_of-result
invariant_of-result g c =
    let seen =
    fresh_view c.args.place c.new-3.result c.new-4.result c.in_ok-trains.trains c.new-5.result c.in_ok-handles.handles c.new-6.result
    c.new-3.ensures.current c.new-4.ensures c.in_ok-trains.ensures.trains c.new-5.ensures c.in_ok-handles.ensures c.new-6.ensures in
    record { kept = subst HeapLaw (sym seen) c.a_new_space_stands_for_nothing.ensures.law; still = λ train is. refl; sole = tt }
