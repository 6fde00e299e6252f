use Rattle.std.proofs.Common.{◌≡◌, ◌≤◌, ◌+◌, ℕ, List, get_or, length, ap, subst, ◌∙◌, rules}
use Rattle.std.specs.Ordering.{nat_cmp}
use Rattle.std.specs.Map.{keys_of}
use Rattle.std.specs.FinMap.{insert}
use Rattle.pm_model.specs.Heap.{Object, with_bytes}
use Rattle.pm_nursery.specs.Rows.{IsAt, IsGap}
use Rattle.pm_nursery.proofs.Alone.{kept_listed, written_alone}
use Rattle.pm_nursery.proofs.Changed.{asked, none_there, same_young, written}
use Rattle.pm_nursery.proofs.objects.Objects.set_bytes.Goals as goal

pub returns-in_default : goal.returns-in_default
returns-in_default c = λ object there.
    let es = c.self.inside.young.items in
    let gap : IsGap nat_cmp (keys_of es) c.args.id c.in_default.field-0 = subst (λ (xs : List (ℕ × Object)). IsGap nat_cmp (keys_of xs) c.args.id c.in_default.field-0) c.deref.ensures.value c.in_default.ensures.absent in
    absurd (none_there es c.args.self.now c.self.view_is c.self.invariant.rise c.args.id c.in_default.field-0 gap object there)

pub set_bytes-requires : goal.set_bytes-requires
set_bytes-requires c =
    let es = c.self.inside.young.items in
    let is : IsAt (keys_of es) c.args.id c.in-Ok.place = subst (λ (xs : List (ℕ × Object)). IsAt (keys_of xs) c.args.id c.in-Ok.place) c.deref.ensures.value c.in-Ok.ensures.found in
    let e : ℕ × Object = c.index_mut.result.now in
    let read : e ≡ get_or es c.in-Ok.place e = search rules in
    asked es c.args.self.now c.self.view_is c.self.invariant.rise c.args.id c.in-Ok.place e is read (λ object. c.args.at + length c.args.from.now ≤ length object.bytes) c.requires

pub returns : goal.returns
returns c = λ object there.
    let es = c.self.inside.young.items in
    let is : IsAt (keys_of es) c.args.id c.in-Ok.place = subst (λ (xs : List (ℕ × Object)). IsAt (keys_of xs) c.args.id c.in-Ok.place) c.deref.ensures.value c.in-Ok.ensures.found in
    let e : ℕ × Object = c.index_mut.result.now in
    let read : e ≡ get_or es c.in-Ok.place e = search rules in
    written es c.args.self.now c.self.view_is c.self.invariant.rise c.args.id c.in-Ok.place e is read c.set_bytes.new.self
    ∙ ap (insert c.args.self.now c.args.id)
    (c.set_bytes.ensures ∙ ap (λ (o : Object). with_bytes o c.args.at c.args.from.now) (same_young es c.args.self.now c.self.view_is c.self.invariant.rise c.args.id c.in-Ok.place e is read object there))

pub invariant_of-self : goal.invariant_of-self
invariant_of-self c =
    let es = c.self.inside.young.items in
    let is : IsAt (keys_of es) c.args.id c.in-Ok.place = subst (λ (xs : List (ℕ × Object)). IsAt (keys_of xs) c.args.id c.in-Ok.place) c.deref.ensures.value c.in-Ok.ensures.found in
    let e : ℕ × Object = c.index_mut.result.now in
    let read : e ≡ get_or es c.in-Ok.place e = search rules in
    kept_listed es c.args.self.now c.self.view_is c.args.id c.in-Ok.place e is read c.self.inside.may_hold c.self.invariant c.set_bytes.new.self
    (λ there alone. written_alone c.args.self.now c.args.id e.1 c.set_bytes.new.self there (ap (λ (o : Object). o.fields) c.set_bytes.ensures) alone)
