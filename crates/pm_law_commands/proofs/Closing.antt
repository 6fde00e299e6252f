-- The command that empties all registers of a client.
use Rattle.std.proofs.Common.{◌≡◌, ℕ, ◌<◌, ◌≤◌, ◌==◌, ◌&&◌, ◌||◌, nat_lt, nat_eq, Bool, true, false, cond, not, refl, ap, sym, subst, ◌∙◌, Option, Some, None, arith, zero, suc}
use Rattle.std.specs.Option.{IsSome}
use Rattle.std.specs.FinMap.{get, remove, retain_keys, get-remove, get-retain_keys, same_map}
use Rattle.std.specs.declared.cmp.Ordering.TheVariants.{Equal}
use Rattle.std.proofs.lemmas.Bool.{cond-true, cond-false, false_from_ne_true, ltb-true, lt-ltb}
use Rattle.std.proofs.lemmas.Bool.Decides.{nat_tests}
use Rattle.pm_types.specs.Orders.{place_cmp}
use Rattle.pm_types.proofs.Orders.{places_total, places_antisymmetric}
use Rattle.pm_types.specs.declared.limits.TheConstants.{CLIENTS, REGISTERS}
use Rattle.pm_types.specs.declared.address.Addr.{Addr}
use Rattle.pm_types.specs.declared.source.RefSource.TheVariants.{Handle}
use Rattle.pm_types.specs.declared.reply.Reply.TheVariants.{Done}
use Rattle.pm_model.specs.World.{World, Registers, closing}
use Rattle.pm_view.specs.View.{SpaceView}
use Rattle.pm_view.specs.Law.{HeapLaw}
use Rattle.pm_view.specs.Represents.{names, Represents}
use Rattle.pm_view.specs.Commands.{emptied, row_close}
use Rattle.pm_law_commands.proofs.RowLemmas.SameSource.{place_ties}
use Rattle.pm_law_commands.proofs.RowLemmas.SpreadKept.{spread_keeps_law}
use Rattle.pm_law_commands.proofs.RowLemmas.SpreadMeans.{register_stands}
use Rattle.pm_law_commands.specs.Served.{IsServed}

-- the registers without those of this client below a number
abbrev stripped : Registers → ℕ → ℕ → Registers
stripped registers client zero = registers
stripped registers client (suc n) = remove (stripped registers client n) (client, n)

-- a register goes where it is the one, or went before
either_goes : (c e b : Bool) (o : Option ℕ) → cond (c && e) None (cond (c && b) None o) ≡ cond (c && (b || e)) None o
either_goes true true true o = refl
either_goes true true false o = refl
either_goes true false true o = refl
either_goes true false false o = refl
either_goes false e b o = refl

one_more : (s n : ℕ) → (nat_lt s n || (s == n)) ≡ nat_lt s (suc n)
one_more s n = grind (arith, nat_tests)

pub get_stripped : (registers : Registers) (client n d s : ℕ) → get (stripped registers client n) (d, s) ≡ cond ((d == client) && nat_lt s n) None (get registers (d, s))
get_stripped registers client zero d s = by_case (d == client)
  where
    none_below : nat_lt s 0 ≡ false
    none_below = false_from_ne_true (nat_lt s 0) (λ less. let below = ltb-true s 0 less in omega (arith, below))

    by_case : (c : Bool) → get registers (d, s) ≡ cond (c && nat_lt s 0) None (get registers (d, s))
    by_case true = sym (cond-false _ _ _ none_below)
    by_case false = refl
get_stripped registers client (suc n) d s =
    get-remove places_total (stripped registers client n) (client, n) (d, s)
    ∙ (λ i. cond (place_ties d s client n i) None (get_stripped registers client n d s i))
    ∙ either_goes (d == client) (s == n) (nat_lt s n) (get registers (d, s))
    ∙ ap (λ b. cond ((d == client) && b) None (get registers (d, s))) (one_more s n)

module _ (view : SpaceView) (world : World) (client : ℕ) (law : HeapLaw view) (stands : Represents view world) (few : client < CLIENTS) where
  abbrev world_at : ℕ → World
  world_at n = record world { registers = stripped world.registers client n }

  nothing_known : (id : ℕ) → None ≡ Some id → IsSome (get world.heap id)
  nothing_known id is = cc

  emptied_stands : (n : ℕ) → n ≤ REGISTERS → HeapLaw (emptied view client n) × Represents (emptied view client n) (world_at n)
  emptied_stands zero within = (law, stands)
  emptied_stands (suc n) within =
      let before = emptied_stands n (omega (arith, within)) in
      let at : n < REGISTERS = omega (arith, within) in (
        spread_keeps_law (emptied view client n) (Handle client n) None before.0 (few, at) tt tt,
        register_stands (emptied view client n) (world_at n) client n None before.0 before.1 (few, at) tt nothing_known,
      )

  -- each register of the world is below the limit
  below_limit : (d s : ℕ) (o : Option ℕ) → get world.registers (d, s) ≡ o → cond ((d == client) && nat_lt s REGISTERS) None o ≡ cond (not (nat_eq d client)) o None
  below_limit d s None is = by_case (d == client) (nat_lt s REGISTERS) (not (nat_eq d client))
    where
      by_case : (b c e : Bool) → ◌≡◌ {A = Option ℕ} (cond (b && c) None None) (cond e None None)
      by_case true true true = refl
      by_case true true false = refl
      by_case true false true = refl
      by_case true false false = refl
      by_case false c true = refl
      by_case false c false = refl
  below_limit d s (Some id) is = by_case (d == client)
    where
      in_space : (o : Option Addr) → get view.registers (d, s) ≡ o → names view o ≡ Some id → s < REGISTERS
      in_space None has named = cc
      in_space (Some a) has named = (law.named.registers d s a has).1

      small : nat_lt s REGISTERS ≡ true
      small = lt-ltb s REGISTERS (in_space (get view.registers (d, s)) refl (sym (stands.registers (d, s)) ∙ is))

      by_case : (b : Bool) → cond (b && nat_lt s REGISTERS) None (Some id) ≡ cond (not b) (Some id) None
      by_case true = cond-true _ _ _ small
      by_case false = refl

  closed_is : world_at REGISTERS ≡ closing world client
  closed_is = λ i. record world { registers = same i }
    where
      alike : (q x : ℕ × ℕ) → place_cmp q x ≡ Equal → not (nat_eq x.0 client) ≡ not (nat_eq q.0 client)
      alike q x tie = ap (λ (p : ℕ × ℕ). not (nat_eq p.0 client)) (sym (places_antisymmetric q x tie))

      same : stripped world.registers client REGISTERS ≡ retain_keys world.registers (λ place. not (nat_eq place.0 client))
      same = same_map places_total places_antisymmetric _ _ (λ q.
          get_stripped world.registers client REGISTERS q.0 q.1
          ∙ below_limit q.0 q.1 (get world.registers q) refl
          ∙ sym (get-retain_keys world.registers (λ place. not (nat_eq place.0 client)) q (λ x tie. alike q x tie)))

  -- `close`
  pub close_serves : IsServed (row_close view client) (Done, closing world client)
  close_serves =
      let all = emptied_stands REGISTERS (omega arith) in
      record { reply = refl; law = all.0; world = subst (Represents (emptied view client REGISTERS)) closed_is all.1 }
