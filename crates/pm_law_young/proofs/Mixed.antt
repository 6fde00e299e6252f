-- `store` and `swap` whose registers lie on both sides are refused by what is read there.
use Rattle.std.proofs.Common.{◌≡◌, ◌⊎◌, inl, inr, ⊎_elim, ℕ, zero, suc, Bool, true, false, if◌then◌else◌, nat_eq, nat_lt, List, [], ◌∷◌, length, Option, Some, None, refl, ap, ◌∙◌, arith}
use Rattle.std.specs.List.{slice_get}
use Rattle.std.specs.FinMap.{get}
use Rattle.std.proofs.lemmas.Bool.Decides.{nat_tests}
use Rattle.pm_types.specs.declared.command.Cmd.TheVariants.{Store, Swap}
use Rattle.pm_types.specs.declared.reply.Reply.TheVariants.{Done, NoHandle, NoField, Null, Held}
use Rattle.pm_model.specs.Heap.{Object, field_of, with_field}
use Rattle.pm_model.specs.World.{World, held, changing}
use Rattle.pm_model.specs.Answer.{answer, refused, writing, swapping, answer_store, answer_swap}
use Rattle.pm_nursery.specs.Young.{NurseryView, IsYoung}
use Rattle.pm_nursery.specs.Answering.{held_in_either, object_in_either, object_or_else}

past_end : {X : Type 0} (xs : List X) (index : ℕ) → slice_get xs index ≡ None → nat_lt index (length xs) ≡ false
past_end [] index is = grind (arith, nat_tests)
past_end (x ∷ xs) zero is = cc is
past_end (x ∷ xs) (suc index) is = let before = past_end xs index is in grind (arith, nat_tests, before)

-- where there is no such field it is not written
pub not_written : (world : World) (id index : ℕ) (value : Option ℕ) (o : Option Object) → field_of o index ≡ None → writing world id index value o ≡ (NoField, world)
not_written world id index value None none = refl
not_written world id index value (Some object) none = by (nat_lt index (length object.fields)) (past_end object.fields index none)
  where
    by : (b : Bool) → b ≡ false
        → (if b then (Done, changing world id (with_field object index value)) else refused world NoField) ≡ (NoField, world)
    by true is = cc is
    by false is = refl

no_first : (world : World) (index : ℕ) (h v : Option ℕ) → (h ≡ None) ⊎ (v ≡ None) → answer_store world index h v ≡ (NoHandle, world)
no_first world index None v none = refl
no_first world index (Some id) None none = refl
no_first world index (Some id) (Some value) none = ⊎_elim (λ (never : Some id ≡ None). cc never) (λ (never : Some value ≡ None). cc never) none

no_one : (world : World) (index : ℕ) (h o v : Option ℕ) → ((h ≡ None) ⊎ ((o ≡ None) ⊎ (v ≡ None))) → answer_swap world index h o v ≡ (NoHandle, world)
no_one world index None o v none = refl
no_one world index (Some id) None v none = refl
no_one world index (Some id) (Some old) None none = refl
no_one world index (Some id) (Some old) (Some value) none =
    ⊎_elim (λ (never : Some id ≡ None). cc never) (λ rest. ⊎_elim (λ (never : Some old ≡ None). cc never) (λ (never : Some value ≡ None). cc never) rest) none

other_number : (m n : ℕ) → (m ≡ n → ⊥) → nat_eq m n ≡ false
other_number m n apart = grind (arith, nat_tests, apart)

module _ (within world : World) (nursery : NurseryView) (is : IsYoung within nursery world) (client : ℕ) where
  same_held : (reg : ℕ) → held world client reg ≡ held_in_either within nursery client reg
  same_held reg = is.registers (client, reg)

  -- an object that is on either side is the world's
  same_object : (id : ℕ) (object : Object) → object_in_either within nursery id ≡ Some object → get world.heap id ≡ Some object
  same_object id object here = by (get nursery.objects id) (get within.heap id) refl refl here
    where
      by : (n w : Option Object) → get nursery.objects id ≡ n → get within.heap id ≡ w → object_or_else n w ≡ Some object → get world.heap id ≡ Some object
      by None w n_is w_is found = is.inside id object (w_is ∙ found)
      by (Some x) w n_is w_is found = is.young id object (n_is ∙ found)

  pub store_unheld : (reg index value : ℕ) → (held_in_either within nursery client reg ≡ None) ⊎ (held_in_either within nursery client value ≡ None) → answer world client (Store reg index value) ≡ (NoHandle, world)
  unfolding answer
  store_unheld reg index value none =
      no_first world index (held world client reg) (held world client value)
      (⊎_elim (λ (first : held_in_either within nursery client reg ≡ None). inl (same_held reg ∙ first)) (λ (second : held_in_either within nursery client value ≡ None). inr (same_held value ∙ second)) none)

  pub store_fieldless : (reg index value id other : ℕ) (object : Object) → held_in_either within nursery client reg ≡ Some id → held_in_either within nursery client value ≡ Some other
      → object_in_either within nursery id ≡ Some object → slice_get object.fields index ≡ None → answer world client (Store reg index value) ≡ (NoField, world)
  unfolding answer
  store_fieldless reg index value id other object one two here none =
      (λ i. answer_store world index ((same_held reg ∙ one) i) ((same_held value ∙ two) i))
      ∙ not_written world id index (Some other) (get world.heap id) (ap (λ (o : Option Object). field_of o index) (same_object id object here) ∙ none)

  pub swap_unheld : (reg index old value : ℕ) → ((held_in_either within nursery client reg ≡ None) ⊎ ((held_in_either within nursery client old ≡ None) ⊎ (held_in_either within nursery client value ≡ None)))
      → answer world client (Swap reg index old value) ≡ (NoHandle, world)
  unfolding answer
  swap_unheld reg index old value none =
      no_one world index (held world client reg) (held world client old) (held world client value)
      (⊎_elim
      (λ (first : held_in_either within nursery client reg ≡ None). inl (same_held reg ∙ first))
      (λ rest. inr (⊎_elim (λ (second : held_in_either within nursery client old ≡ None). inl (same_held old ∙ second)) (λ (third : held_in_either within nursery client value ≡ None). inr (same_held value ∙ third)) rest))
      none)

  -- what `swap` answers where all three are held, by the object's field
  swap_by_field : (reg index old value id was other : ℕ) (object : Object) → held_in_either within nursery client reg ≡ Some id → held_in_either within nursery client old ≡ Some was
      → held_in_either within nursery client value ≡ Some other → object_in_either within nursery id ≡ Some object
      → answer world client (Swap reg index old value) ≡ swapping world id index was other (slice_get object.fields index)
  unfolding answer
  swap_by_field reg index old value id was other object one two three here =
      (λ i. answer_swap world index ((same_held reg ∙ one) i) ((same_held old ∙ two) i) ((same_held value ∙ three) i))
      ∙ ap (λ (o : Option Object). swapping world id index was other (field_of o index)) (same_object id object here)

  module _ (reg index old value id was other : ℕ) (object : Object) (one : held_in_either within nursery client reg ≡ Some id) (two : held_in_either within nursery client old ≡ Some was)
      (three : held_in_either within nursery client value ≡ Some other) (here : object_in_either within nursery id ≡ Some object) where
    pub swap_fieldless : slice_get object.fields index ≡ None → answer world client (Swap reg index old value) ≡ (NoField, world)
    swap_fieldless none = swap_by_field reg index old value id was other object one two three here ∙ ap (swapping world id index was other) none

    pub swap_null : slice_get object.fields index ≡ Some None → answer world client (Swap reg index old value) ≡ (Null, world)
    swap_null null = swap_by_field reg index old value id was other object one two three here ∙ ap (swapping world id index was other) null

    pub swap_held : (found : ℕ) → slice_get object.fields index ≡ Some (Some found) → (found ≡ was → ⊥) → answer world client (Swap reg index old value) ≡ (Held found, world)
    swap_held found is_held apart =
        swap_by_field reg index old value id was other object one two three here ∙ ap (swapping world id index was other) is_held
        ∙ ap (λ b. if b then writing world id index (Some other) (get world.heap id) else (Held found, world)) (other_number found was apart)
