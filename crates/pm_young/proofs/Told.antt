-- What is told of a command on the space or the nursery beside what holds.
use Rattle.std.proofs.Common.{◌≡◌, ⊎_elim, inl, inr, ℕ, ◌≤◌, true, false, List, [], ◌++◌, Option, Some, None, refl, sym, ap, subst, ◌∙◌, arith, append-nil}
use Rattle.std.proofs.Math.Logic.{∥∥₁_map}
use Rattle.std.specs.Option.{IsSome}
use Rattle.std.specs.FinMap.{get}
use Rattle.pm_types.specs.declared.command.Cmd.{Cmd}
use Rattle.pm_types.specs.declared.command.Cmd.TheVariants.{Save, Settle, Unsave, Watch}
use Rattle.pm_types.specs.declared.reply.Reply.{Reply}
use Rattle.pm_types.specs.declared.reply.Reply.TheVariants.{Saved}
use Rattle.pm_disk.specs.declared.disk.Disk.{Ghosts}
use Rattle.pm_model.specs.Frames.{is_settle, saves, sets_watch}
use Rattle.pm_model.specs.Journal.{says_saved}
use Rattle.pm_view.specs.Commands.{is_act}
use Rattle.pm_engine.specs.Works.Clauses.{Face, IsDropped, SettlesAs}
use Rattle.pm_model.specs.World.{World}
use Rattle.pm_view.specs.View.{SpaceView}
use Rattle.pm_nursery.specs.Young.{NurseryView, no_nursery}
use Rattle.pm_young.specs.Entering.{KeepsEntered}
use Rattle.pm_young.proofs.Answered.{no_order}
use Rattle.pm_young.proofs.Opened.{no_young, none_young}
use Rattle.pm_young.specs.declared.engine.YoungEngine.{YoungEngine}
use Rattle.pm_young.specs.Calls.{YoungGoesOn}
use Rattle.pm_young.specs.Parts.{AreFirstEscaping, ComesYoung, StaysOrIsBorn}
use Rattle.pm_young.specs.Seen.{entered_in, serving, young_in}

-- a command on the space or the nursery does not settle
pub settles_not : (cmd : Cmd) → is_act cmd ≡ true → is_settle cmd ≡ false
settles_not Settle act = cc act
settles_not cmd act = refl

module _ {D : Type 0} {g : Ghosts D} (old new : Face g) where
  pub settles_none : (reply : Reply) → says_saved reply ≡ false → SettlesAs old new reply
  settles_none (Saved number) other = cc other
  settles_none reply other = tt

  pub drops_none : (cmd : Cmd) (reply : Reply) → is_act cmd ≡ true → IsDropped cmd old new reply
  drops_none Unsave reply act = cc act
  drops_none cmd reply act = tt

module _ {D : Type 0} {F : Type 0} {g : Ghosts D} where
  -- an engine goes on where young objects came in, and what is young was so or is born
  pub goes_coming : (old new : YoungEngine D F g) (ids : List ℕ) → (serving new).opened ≡ (serving old).opened → ComesYoung (serving old).view (serving new).view (young_in old) ids → entered_in new ≡ entered_in old ++ ids
      → ((id : ℕ) → IsSome (get (young_in new).objects id) → StaysOrIsBorn (serving old).view (serving new).view (young_in old) ids id) → YoungGoesOn old new
  goes_coming old new ids opened comes entered stays = record {
    opened = opened;
    more = ids;
    entered = entered;
    late = λ id is. inl (comes.young id is);
    young = λ id is. ⊎_elim (λ was. inl was.0) (λ born. inr born.0) (stays id is);
    next = comes.next;
  }

  -- where space, nursery and what entered stay
  pub goes_still : (old new : YoungEngine D F g) → (serving new).opened ≡ (serving old).opened → (serving new).view ≡ (serving old).view → young_in new ≡ young_in old → entered_in new ≡ entered_in old → YoungGoesOn old new
  goes_still old new opened viewed young entered = record {
    opened = opened;
    more = [];
    entered = entered ∙ sym (append-nil (entered_in old));
    late = λ id never. absurd (cc never);
    young = λ id is. inl (subst (λ (n : NurseryView). IsSome (get n.objects id)) young is);
    next = let same = ap (λ (v : SpaceView). v.next) viewed in omega (arith, same);
  }

  -- or nothing is young any more
  pub goes_dropped : (old new : YoungEngine D F g) → (serving new).opened ≡ (serving old).opened → (serving new).view ≡ (serving old).view → entered_in new ≡ entered_in old → young_in new ≡ no_nursery → YoungGoesOn old new
  goes_dropped old new opened viewed entered none = record {
    opened = opened;
    more = [];
    entered = entered ∙ sym (append-nil (entered_in old));
    late = λ id never. absurd (cc never);
    young = λ id is. absurd (none_young id (subst (λ (n : NurseryView). IsSome (get n.objects id)) none is));
    next = let same = ap (λ (v : SpaceView). v.next) viewed in omega (arith, same);
  }

-- ---- what entered stays

module _ (opened v w : SpaceView) (nursery : NurseryView) (entered : List ℕ) (same : w ≡ v) where
  pub keeps_viewed : ∥ KeepsEntered opened v nursery entered ∥₁ → ∥ KeepsEntered opened w nursery entered ∥₁
  keeps_viewed known = subst (λ (u : SpaceView). ∥ KeepsEntered opened u nursery entered ∥₁) (sym same) known

  pub keeps_dropped : ∥ KeepsEntered opened v nursery entered ∥₁ → ∥ KeepsEntered opened w no_nursery entered ∥₁
  keeps_dropped known = ∥∥₁_map (keeps_viewed known) (λ keeps. record {
    present = keeps.present;
    once = keeps.once;
    apart = λ id is. no_young id;
    given = keeps.given;
    young = λ id is. absurd (none_young id is);
  })

-- no first part of what escapes
pub first_nothing : (world : World) (nursery : NurseryView) (client : ℕ) (cmd : Cmd) → AreFirstEscaping world nursery client cmd []
first_nothing world nursery client cmd = record { ascending = no_order; each = λ id never. absurd (cc never); before = λ id other never. absurd (cc never) }
