use Rattle.std.proofs.Common.{◌≡◌, ◌<◌, ℕ, List, get_or, length, sym, ap, subst, ◌∙◌, rules}
use Rattle.std.specs.Ordering.{nat_cmp}
use Rattle.std.specs.Map.{keys_of}
use Rattle.std.specs.FinMap.{insert}
use Rattle.pm_model.specs.Heap.{Object, with_field}
use Rattle.pm_nursery.specs.Rows.{IsAt, IsGap}
use Rattle.pm_nursery.specs.Walking.{HoldsNothing}
use Rattle.pm_nursery.proofs.Alone.{kept_listed, nulled_alone, told_listed}
use Rattle.pm_nursery.proofs.Changed.{asked, none_there, same_young, written}
use Rattle.pm_nursery.proofs.objects.Objects.set_field.Goals as goal

pub returns-in_default : goal.returns-in_default
returns-in_default c = λ object there.
    let es = c.self.inside.young.items in
    let gap : IsGap nat_cmp (keys_of es) c.args.id c.in_default.field-0 = subst (λ (xs : List (ℕ × Object)). IsGap nat_cmp (keys_of xs) c.args.id c.in_default.field-0) c.deref.ensures.value c.in_default.ensures.absent in
    absurd (none_there es c.args.self.now c.self.view_is c.self.invariant.rise c.args.id c.in_default.field-0 gap object there)

pub set_field-requires : goal.set_field-requires
set_field-requires c =
    let es = c.self.inside.young.items in
    let is : IsAt (keys_of es) c.args.id c.in-Ok.at = subst (λ (xs : List (ℕ × Object)). IsAt (keys_of xs) c.args.id c.in-Ok.at) c.deref.ensures.value c.in-Ok.ensures.found in
    let e : ℕ × Object = c.index_mut.result.now in
    let read : e ≡ get_or es c.in-Ok.at e = search rules in
    asked es c.args.self.now c.self.view_is c.self.invariant.rise c.args.id c.in-Ok.at e is read (λ object. c.args.index < length object.fields) c.requires

pub returns-then-is_some : goal.returns-then-is_some
returns-then-is_some c = λ object there.
    let es = c.self.inside.young.items in
    let is : IsAt (keys_of es) c.args.id c.in-Ok.at = subst (λ (xs : List (ℕ × Object)). IsAt (keys_of xs) c.args.id c.in-Ok.at) c.deref.ensures.value c.in-Ok.ensures.found in
    let e : ℕ × Object = c.index_mut.result.now in
    let read : e ≡ get_or es c.in-Ok.at e = search rules in
    written es c.args.self.now c.self.view_is c.self.invariant.rise c.args.id c.in-Ok.at e is read c.set_field.new.self
    ∙ ap (insert c.args.self.now c.args.id)
    (c.set_field.ensures ∙ ap (λ (o : Object). with_field o c.args.index c.args.value) (same_young es c.args.self.now c.self.view_is c.self.invariant.rise c.args.id c.in-Ok.at e is read object there))

pub returns-else-is_some : goal.returns-else-is_some
returns-else-is_some c = λ object there.
    let es = c.self.inside.young.items in
    let is : IsAt (keys_of es) c.args.id c.in-Ok.at = subst (λ (xs : List (ℕ × Object)). IsAt (keys_of xs) c.args.id c.in-Ok.at) c.deref.ensures.value c.in-Ok.ensures.found in
    let e : ℕ × Object = c.index_mut.result.now in
    let read : e ≡ get_or es c.in-Ok.at e = search rules in
    written es c.args.self.now c.self.view_is c.self.invariant.rise c.args.id c.in-Ok.at e is read c.set_field.new.self
    ∙ ap (insert c.args.self.now c.args.id)
    (c.set_field.ensures ∙ ap (λ (o : Object). with_field o c.args.index c.args.value) (same_young es c.args.self.now c.self.view_is c.self.invariant.rise c.args.id c.in-Ok.at e is read object there))

pub invariant_of-self : goal.invariant_of-self
invariant_of-self c =
    let es = c.self.inside.young.items in
    let is : IsAt (keys_of es) c.args.id c.in-Ok.at = subst (λ (xs : List (ℕ × Object)). IsAt (keys_of xs) c.args.id c.in-Ok.at) c.deref.ensures.value c.in-Ok.ensures.found in
    let e : ℕ × Object = c.index_mut.result.now in
    let read : e ≡ get_or es c.in-Ok.at e = search rules in
    told_listed es c.args.self.now c.self.view_is c.args.id c.in-Ok.at e is read c.self.inside.may_hold c.self.invariant c.set_field.new.self

pub invariant_of-self-else-is_some : goal.invariant_of-self-else-is_some
invariant_of-self-else-is_some c =
    let es = c.self.inside.young.items in
    let is : IsAt (keys_of es) c.args.id c.in-Ok.at = subst (λ (xs : List (ℕ × Object)). IsAt (keys_of xs) c.args.id c.in-Ok.at) c.deref.ensures.value c.in-Ok.ensures.found in
    let e : ℕ × Object = c.index_mut.result.now in
    let read : e ≡ get_or es c.in-Ok.at e = search rules in
    kept_listed es c.args.self.now c.self.view_is c.args.id c.in-Ok.at e is read c.self.inside.may_hold c.self.invariant c.set_field.new.self
    (λ there alone. subst (λ (o : Object). HoldsNothing (insert c.args.self.now c.args.id o)) (sym c.set_field.ensures) (nulled_alone c.args.self.now c.args.id e.1 there c.args.index c.args.value (search rules) alone))
