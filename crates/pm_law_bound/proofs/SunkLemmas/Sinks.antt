-- A set that is sunk stays so where a source is set to what is not of it.
use Rattle.std.proofs.Common.{◌≡◌, ◌<◌, ◌≤◌, ℕ, Bool, true, false, cond, not, refl, ap, sym, subst, ◌∙◌, Option, Some}
use Rattle.std.specs.Option.{IsSomeAnd}
use Rattle.std.proofs.lemmas.Bool.{cond-true, cond-false}
use Rattle.pm_types.specs.declared.address.Addr.{Addr}
use Rattle.pm_types.specs.declared.object.Object.{Object}
use Rattle.pm_types.specs.declared.source.RefSource.{RefSource}
use Rattle.pm_types.specs.declared.source.RefSource.TheVariants.{Root, Handle, Field}
use Rattle.pm_trains.specs.Trains.{Trains, train_of}
use Rattle.pm_view.specs.Sources.{same_source}
use Rattle.pm_view.specs.View.{SpaceView}
use Rattle.pm_view.specs.Reading.{stored, is_kept, SourceStands}
use Rattle.pm_view.specs.Represents.{names}
use Rattle.pm_view.specs.Rows.{with_stored, spread, HasValue}
use Rattle.pm_view.specs.Commands.{register}
use Rattle.pm_law_commands.proofs.RowLemmas.SameSource.{same-true}
use Rattle.pm_law_commands.proofs.RowLemmas.Stored.{stored_after}
use Rattle.pm_law_commands.proofs.RowLemmas.Spread.{stored_news}
use Rattle.pm_law_commands.proofs.RowLemmas.Built.{IsReshaped, aside_same}
use Rattle.pm_law_commands.proofs.RowLemmas.Meaning.{id_same, names_same}
use Rattle.pm_law_commands.proofs.RowLemmas.SpreadKept.{reshaped_spread}
use Rattle.pm_law_commands.proofs.Held.{LeadsTo, named}
use Rattle.pm_view.specs.Sinking.{IsOf, IsFieldOf, Sunk}

module _ (view t : SpaceView) (Of : ℕ → Type 0) (n : ℕ) (same : IsReshaped view t) where
  of_then : (a : Addr) → IsOf view Of a → IsOf t Of a
  of_then a is = subst (λ o. IsSomeAnd o Of) (sym (id_same view t same a)) is

  of_before : (a : Addr) → IsOf t Of a → IsOf view Of a
  of_before a is = subst (λ o. IsSomeAnd o Of) (id_same view t same a) is

  field_then : (x : RefSource) → IsFieldOf view Of x → IsFieldOf t Of x
  field_then (Root k) is = is
  field_then (Handle c r) is = is
  field_then (Field a i) is = of_then a is

  kept_same : (x : RefSource) → is_kept t x ≡ is_kept view x
  kept_same (Root k) = refl
  kept_same (Handle c r) = refl
  kept_same (Field a i) = ap not (aside_same view t same a.car)

  pub sunk_reshaped : Sunk view Of n → ((x : RefSource) (id : ℕ) → is_kept view x ≡ true → names view (stored t x) ≡ Some id → Of id → IsFieldOf view Of x) → Sunk t Of n
  sunk_reshaped sunk named = record {
    given = λ id is. subst (λ m. id < m) (sym same.next) (sunk.given id is);
    named = λ x id up name is. field_then x (named x id (sym (kept_same x) ∙ up) (sym (names_same view t same (stored t x)) ∙ name) is);
    low = λ a is. subst (λ (s : Trains). IsSomeAnd (train_of s.trains a.car) (λ train. train ≤ n)) (sym same.trains) (sunk.low a (of_before a is));
    anchored = λ a to stands is. sunk.anchored a to (sym same.anchor ∙ stands) (of_before a is);
  }

module _ (view : SpaceView) (Of : ℕ → Type 0) (n : ℕ) (sunk : Sunk view Of n) where
  pub spread_sinks : (x : RefSource) (to : Option Addr) → SourceStands view x → HasValue x to → ((id : ℕ) → names view to ≡ Some id → Of id → IsFieldOf view Of x) → Sunk (spread view x to) Of n
  spread_sinks x to stands has may = sunk_reshaped view (spread view x to) Of n (reshaped_spread view x to) sunk (λ y id up name is. by_source y id up is (same_source x y) refl name)
    where
      stores : (y : RefSource) → stored (spread view x to) y ≡ cond (same_source x y) to (stored view y)
      stores y = stored_news (with_stored view x to) x (stored view x) to y ∙ stored_after view x to stands has y

      by_source : (y : RefSource) (id : ℕ) → is_kept view y ≡ true → Of id → (b : Bool) → same_source x y ≡ b → names view (stored (spread view x to) y) ≡ Some id → IsFieldOf view Of y
      by_source y id up is true one name =
          subst (IsFieldOf view Of) (same-true x y one) (may id (ap (names view) (sym (cond-true _ _ _ one)) ∙ ap (names view) (sym (stores y)) ∙ name) is)
      by_source y id up is false other name = sunk.named y id up (ap (names view) (sym (cond-false _ _ _ other)) ∙ ap (names view) (sym (stores y)) ∙ name) is

  -- what a register leads to is not of the set
  pub not_held : (client reg : ℕ) (b : Addr) (object : Object) → register view client reg ≡ Some b → LeadsTo view b object → Of object.id → ⊥
  not_held client reg b object is leads of = sunk.named (Handle client reg) object.id refl (ap (names view) is ∙ named view b object leads) of
