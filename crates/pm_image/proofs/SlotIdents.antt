-- What stands at the front of a slot that was read: its kind and its identity.
use Rattle.std.proofs.Common.{◌≡◌, ℕ, ◌+◌, ◌-◌, ◌<◌, Bool, true, false, cond, eqb, ltb, leb, List, length, get_or, Option, Result, Ok, Err, sym, ap, ◌∙◌, inl, inr}
use Rattle.std.specs.List.{slice_range}
use Rattle.std.proofs.lemmas.Bool.{leb-false}
use Rattle.pm_types.specs.declared.address.Addr.{Addr}
use Rattle.pm_types.specs.declared.object.Object.{Object}
use Rattle.pm_types.specs.declared.object.Slot.{Slot}
use Rattle.pm_types.specs.declared.object.Slot.TheVariants.{Live, Moved}
use Rattle.pm_layout.specs.declared.fault.LayoutFault.{LayoutFault}
use Rattle.pm_layout.specs.declared.fault.LayoutFault.TheVariants.{Short, Kind}
use Rattle.pm_types.specs.Results.{◌>>=◌}
use Rattle.pm_layout.specs.Reading.{number_from, end_at, ident_at, field_count_at, byte_count_at, fields_at, live_at, target_at, moved_at, slot_at}
use Rattle.pm_layout.proofs.Steps.{chosen}
use Rattle.pm_types.proofs.Results.{bind_ok, ok_same, if_ok, wanted_ok}
use Rattle.pm_layout.proofs.Slots.{ident_takes}

-- the kind and the identity of a slot; a Moved one has no identity
abbrev pub kind_of : Slot → ℕ
kind_of (Live o) = 1
kind_of (Moved to) = 2

abbrev pub ident_of : Slot → ℕ
ident_of (Live o) = o.id
ident_of (Moved to) = 0

abbrev pub is_live_slot : Slot → Bool
is_live_slot (Live o) = true
is_live_slot (Moved to) = false

live_made : (o : Object) (end : ℕ) (x : Slot × ℕ) → ◌≡◌ {A = Result (Slot × ℕ) LayoutFault} (Ok (Live o, end)) (Ok x) → (is_live_slot x.0 ≡ true) × (o.id ≡ ident_of x.0)
live_made o end x e =
    let made : Slot × ℕ = (Live o, end) in
    let is = ok_same made x e in
    (ap (λ (y : Slot × ℕ). is_live_slot y.0) (sym is), ap (λ (y : Slot × ℕ). ident_of y.0) is)

live_front : (most : ℕ) (bytes : List ℕ) (at : ℕ) (x : Slot × ℕ) → live_at most bytes at ≡ Ok x → (is_live_slot x.0 ≡ true) × (number_from 8 bytes (at + 1) ≡ ident_of x.0)
unfolding live_at
live_front most bytes at x read =
    let made : ℕ → ℕ → ℕ → List (Option Addr) → Slot × ℕ = λ end id count fs. (Live (record { id = id; fields = fs; bytes = slice_range bytes (end - count) end }), end) in
    let a = bind_ok (end_at bytes at) (λ end. ident_at bytes (at + 1) >>= λ id. field_count_at most bytes (at + 9) >>= λ n. byte_count_at bytes (at + 11) >>= λ count. fields_at bytes n (at + 13) >>= λ fs. Ok (made end id count fs)) x read in
    let b = bind_ok (ident_at bytes (at + 1)) (λ id. field_count_at most bytes (at + 9) >>= λ n. byte_count_at bytes (at + 11) >>= λ count. fields_at bytes n (at + 13) >>= λ fs. Ok (made a.0 id count fs)) x a.2 in
    let c = bind_ok (field_count_at most bytes (at + 9)) (λ n. byte_count_at bytes (at + 11) >>= λ count. fields_at bytes n (at + 13) >>= λ fs. Ok (made a.0 b.0 count fs)) x b.2 in
    let d = bind_ok (byte_count_at bytes (at + 11)) (λ count. fields_at bytes c.0 (at + 13) >>= λ fs. Ok (made a.0 b.0 count fs)) x c.2 in
    let f = bind_ok (fields_at bytes c.0 (at + 13)) (λ fs. Ok (made a.0 b.0 d.0 fs)) x d.2 in
    let object : Object = record { id = b.0; fields = f.0; bytes = slice_range bytes (a.0 - d.0) a.0 } in
    let is = live_made object a.0 x f.2 in
    (is.0, (ident_takes bytes (at + 1) b.0 b.1).0 ∙ is.1)

moved_front : (bytes : List ℕ) (at : ℕ) (x : Slot × ℕ) → moved_at bytes at ≡ Ok x → is_live_slot x.0 ≡ false
unfolding moved_at
moved_front bytes at x read =
    let made : Addr → Slot × ℕ = λ to. (Moved to, at + 13) in
    let g = if_ok (ltb (length bytes) (at + 13)) (Short at) (target_at bytes (at + 1) >>= λ to. Ok (made to)) x read in
    let a = bind_ok (target_at bytes (at + 1)) (λ to. Ok (made to)) x g.1 in
    ap (λ (y : Slot × ℕ). is_live_slot y.0) (sym (ok_same (made a.0) x a.2))

-- the kind that a slot was read by, and the identity that stands there if it is Live
pub record Front (bytes : List ℕ) (at : ℕ) (slot : Slot) : Type 0 where
  pub inside : at < length bytes
  pub kind : eqb (get_or bytes at 0) 1 ≡ is_live_slot slot
  pub ident : is_live_slot slot ≡ true → number_from 8 bytes (at + 1) ≡ ident_of slot

pub slot_front : (most : ℕ) (bytes : List ℕ) (at : ℕ) (x : Slot × ℕ) → slot_at most bytes at ≡ Ok x → Front bytes at x.0
unfolding slot_at
slot_front most bytes at x read =
    let kind = get_or bytes at 0 in
    let g = if_ok (leb (length bytes) at) (Short at) (cond (eqb kind 1) (live_at most bytes at) (cond (eqb kind 2) (moved_at bytes at) (Err (Kind at kind)))) x read in
    let way = chosen (eqb kind 1) (live_at most bytes at) (cond (eqb kind 2) (moved_at bytes at) (Err (Kind at kind))) (Ok x) g.1 in
    elim way [
      | inl live ↦
          let f = live_front most bytes at x live.1 in
          record { inside = leb-false _ _ g.0; kind = live.0 ∙ sym f.0; ident = λ is. f.1 }
      | inr other ↦
          let h = wanted_ok (eqb kind 2) (Kind at kind) (moved_at bytes at) x other.1 in
          let moved = moved_front bytes at x h.1 in
          record { inside = leb-false _ _ g.0; kind = other.0 ∙ sym moved; ident = λ is. let no : true ≡ false = sym is ∙ moved in absurd cc }
    ]
