-- What is seen of a space after a source was set by the write barrier.
use Rattle.std.proofs.Common.{◌≡◌, ℕ, Bool, cond, not, ◌&&◌, Option, Some, None}
use Rattle.pm_types.specs.declared.address.Addr.{Addr}
use Rattle.pm_types.specs.declared.source.RefSource.{RefSource}
use Rattle.pm_view.specs.Sources.{same_source, outside, slot_in}
use Rattle.pm_view.specs.Seen.{Seen}

-- the change for a source that names the one slot of a car and named the other: none, the slot to put, or to take out
abbrev pub by_slots : Option ℕ → Option ℕ → Option (Option ℕ)
by_slots (Some n) o = Some (Some n)
by_slots None (Some m) = Some None
by_slots None None = None

-- whether a car hears of a source
abbrev pub hears : (ℕ → Bool) → RefSource → ℕ → Bool
hears aside x e = outside e x && not (aside e)

-- the change that a car hears, if any
abbrev pub heard_change : (ℕ → Bool) → RefSource → Option Addr → Option Addr → ℕ → Option (Option ℕ)
heard_change aside x old new e = cond (hears aside x e) (by_slots (slot_in e new) (slot_in e old)) None

abbrev pub change : Seen → RefSource → Option Addr → ℕ → Option (Option ℕ)
change s x to e = heard_change s.aside x (s.stored x) to e

-- what a set gives for the source after a change
abbrev pub changed : Option (Option ℕ) → Option ℕ → Option ℕ
changed None o = o
changed (Some w) o = w

-- t is s after the source x was set
pub record IsSpread (s t : Seen) (x : RefSource) (to : Option Addr) : Type 0 where
  pub stored : (y : RefSource) → t.stored y ≡ cond (same_source x y) to (s.stored y)
  pub aside : (e : ℕ) → t.aside e ≡ s.aside e
  pub look : (a : Addr) → t.look a ≡ s.look a
  pub from : (e : ℕ) → t.from e ≡ s.from e
  pub effective : (e : ℕ) (y : RefSource) → t.effective e y ≡ cond (same_source x y) (changed (change s x to e) (s.effective e y)) (s.effective e y)
