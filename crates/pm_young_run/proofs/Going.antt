-- What parts of a run do to whichever engine and its disk, one behind another.
use Rattle.std.proofs.Common.{◌≡◌, ◌⊎◌, ⊎_elim, inl, inr, ℕ, ◌+◌, ◌≤◌, length, length-append, arith, true, false, List, [], ◌∷◌, ◌++◌, Option, Some, None, Ok, refl, ap, sym, subst, ◌∙◌}
use Rattle.std.specs.List.{Contains}
use Rattle.std.specs.Option.{IsSome, is_some}
use Rattle.pm_types.specs.Memory.{no_memory}
use Rattle.pm_types.specs.Counts.{Rose}
use Rattle.pm_types.specs.declared.command.Cmd.{Cmd}
use Rattle.pm_types.specs.declared.entry.Entry.{Entry}
use Rattle.pm_types.specs.declared.reply.Reply.{Reply}
use Rattle.pm_disk.specs.declared.disk.Disk.{Ghosts}
use Rattle.pm_disk.specs.Disk.{LeavesOnly}
use Rattle.pm_disk.proofs.RunLemmas.{joined, started, weaker}
use Rattle.pm_model.specs.World.{World, Copy}
use Rattle.pm_model.specs.Journal.{IsLegal, chain, settled_in}
use Rattle.pm_saving.specs.Serving.{KeepsOpening, Serving, opening, world}
use Rattle.pm_saving.specs.Images.{IsCopyInProgress, IsLast, IsOfChain, IsOfRun, IsSettledCopy, IsTold}
use Rattle.pm_saving.specs.Events.{Serves}
use Rattle.pm_engine.specs.Works.Clauses.{Face, LeavesCopies}
use Rattle.pm_engine.specs.Works.Copies.{MayStand}
use Rattle.pm_engine.specs.declared.events.stop.Stop.{Stop}
use Rattle.pm_engine.specs.declared.events.stop.Stop.TheVariants.{Memory, Writing, Device}
use Rattle.pm_engine.specs.Events.Causes.{CountsDisk}
use Rattle.pm_engine.proofs.EventsLemmas.Going.{answered_of_run, more_chain, same_chain, same_world}
use Rattle.pm_engine.proofs.EventsLemmas.Journals.{end_in_chain, no_end}
use Rattle.pm_young_run.specs.Stepping.{FaceGoesOn}

-- ---- what is served

not_stopped : (it : Serving) → it.stopped ≡ None → IsSome it.stopped → ⊥
not_stopped it none some = let never : false ≡ true = sym (ap is_some none) ∙ some in cc never

-- while no call has answered that the disk failed an image is of the chain, and stays so
stays_of_run : (old new : Serving) → old.stopped ≡ None → ((kept : ℕ × Copy)
    → Contains (chain (opening old) old.journal) kept → Contains (chain (opening new) new.journal) kept)
    → (left : List ℕ) → IsOfRun old left → IsOfRun new left
stays_of_run old new none grows left of = ⊎_elim (λ (kept : IsOfChain (opening old) old.journal left). inl
    (kept.0, grows kept.0 kept.1, kept.2)) (λ begun. absurd (not_stopped old none begun.0)) of

-- what has settled is of the chain
settled_of_run : (old new : Serving) → IsLegal (opening old) old.journal
    → ((kept : ℕ × Copy) → Contains (chain (opening old) old.journal) kept
    → Contains (chain (opening new) new.journal) kept) → (left : List ℕ) → IsSettledCopy (world old) left
    → IsOfRun new left
settled_of_run old new legal grows left is = inl (
  settled_in (world old),
  grows (settled_in (world old))
      (end_in_chain (opening old) old.journal legal),
  is,
)

-- an entry took the room of one
room_of_one : (room_old room_new : ℕ) (old new : List Entry) (entry : Entry) → new ≡ old ++ entry ∷ []
    → room_old ≤ room_new + 1 → room_old + length old ≤ room_new + length new
room_of_one room_old room_new old new entry is within =
    let long : length new ≡ length old + 1 = ap length is ∙ length-append old (entry ∷ []) in
    omega (arith, long, within)

-- and none took any
room_of_none : (room_old room_new : ℕ) (old new : List Entry) → new ≡ old → room_old ≤ room_new
    → room_old + length old ≤ room_new + length new
room_of_none room_old room_new old new is within = let long = ap length is in omega (arith, long, within)

counts_then : (stop : Option Stop) (before mid end : ℕ) → mid ≡ before → CountsDisk stop mid end
    → CountsDisk stop before end
counts_then stop before mid end same cause = subst (λ (n : ℕ). CountsDisk stop n end) same cause

-- ---- an event

-- the copy that had settled may stand, or the one in progress
abbrev pub MayStandThen : World → List ℕ → Type 0
MayStandThen it left = IsSettledCopy it left ⊎ IsCopyInProgress it left

module _ {D : Type 0} {g : Ghosts D} (old new : Face g) (keeps : KeepsOpening old.serving new.serving)
    (opened : new.opened ≡ old.opened) (legal : IsLegal (opening old.serving) old.serving.journal)
    (past : (g.made new.disk).past ≡ (g.made old.disk).past)
    (idle : old.serving.saving.progress ≡ None → new.disk ≡ old.disk) where
  -- a command was answered
  pub answered : (client : ℕ) (cmd : Cmd) (reply : Reply) → Serves client cmd old.serving new.serving reply
      → old.serving.stopped ≡ None → g.count new.disk ≡ g.count old.disk → LeavesCopies cmd old new (Ok reply)
      → old.room ≤ new.room + 1 → FaceGoesOn old new None
  answered client cmd reply serves running counted leaves within = record {
    start = keeps;
    opened = opened;
    room = room_of_one old.room new.room old.serving.journal new.serving.journal
        (record { client = client; cmd = cmd; reply = reply }) serves.appends.journal within;
    grows = more_chain client cmd old.serving new.serving reply legal serves;
    leaves = λ told. weaker g.moment g.since old.disk new.disk (MayStand cmd old.serving (Ok reply))
        (IsOfRun new.serving) (leaves running told) (answered_of_run client cmd old.serving new.serving reply legal
        serves);
    last = λ of. absurd of;
    going = λ _. serves.appends.stopped ∙ running;
    cause = counted;
    past = past;
    idle = λ none. absurd (no_end old.serving.journal (record { client = client; cmd = cmd; reply = reply })
        (sym serves.appends.journal ∙ none));
  }

  -- nothing was answered, and no copy was begun
  module _ (journal : new.serving.journal ≡ old.serving.journal)
      (still : old.serving.saving.progress ≡ None → new.serving.saving.progress ≡ None) (within : old.room ≤ new.room)
    where
      same_members : (kept : ℕ × Copy) → Contains (chain (opening old.serving) old.serving.journal) kept
          → Contains (chain (opening new.serving) new.serving.journal) kept
      same_members = same_chain old.serving new.serving keeps journal

      -- what settled before stands, and no call of the disk failed
      module _ (going : new.serving.stopped ≡ None) (counted : g.count new.disk ≡ g.count old.disk)
          (leaves : IsTold (g.contents old.opened) → LeavesOnly g.moment g.since old.disk new.disk
          (IsSettledCopy (world old.serving))) where
        of_run : IsTold (g.contents old.opened) → LeavesOnly g.moment g.since old.disk new.disk (IsOfRun new.serving)
        of_run told = weaker g.moment g.since old.disk new.disk (IsSettledCopy (world old.serving)) (IsOfRun new.serving)
            (leaves told) (settled_of_run old.serving new.serving legal same_members)

        -- an event was made
        pub eventful : FaceGoesOn old new None
        eventful = record {
          start = keeps;
          opened = opened;
          room = room_of_none old.room new.room old.serving.journal new.serving.journal journal within;
          grows = same_members;
          leaves = of_run;
          last = λ of. absurd of;
          going = λ _. going;
          cause = counted;
          past = past;
          idle = λ none. record { none = sym journal ∙ none; still = still; disk = idle };
        }

        -- or memory ran out
        pub no_room : FaceGoesOn old new (Some (Memory no_memory))
        no_room = record {
          start = keeps;
          opened = opened;
          room = room_of_none old.room new.room old.serving.journal new.serving.journal journal within;
          grows = same_members;
          leaves = of_run;
          last = λ of. absurd of;
          going = λ _. going;
          cause = counted;
          past = past;
          idle = λ none. record { none = sym journal ∙ none; still = still; disk = idle };
        }

      -- the disk failed
      pub device : (count : ℕ) → new.serving.stopped ≡ Some count → Rose (g.count old.disk) (g.count new.disk)
          → ((left : List ℕ) → g.image new.disk left → g.moment old.disk ≤ g.moment new.disk
          → g.since new.disk (g.moment old.disk) left)
          → (IsTold (g.contents old.opened) → LeavesOnly g.moment g.since old.disk new.disk
          (MayStandThen (world old.serving))) → FaceGoesOn old new (Some Device)
      device count stopped rose counts leaves =
          let some : IsSome new.serving.stopped = ap is_some stopped in
          let same : world new.serving ≡ world old.serving = same_world old.serving new.serving keeps journal in
          record {
            start = keeps;
            opened = opened;
            room = room_of_none old.room new.room old.serving.journal new.serving.journal journal within;
            grows = same_members;
            leaves = λ told.
                weaker g.moment g.since old.disk new.disk (MayStandThen (world old.serving)) (IsOfRun new.serving)
                (leaves told)
                (λ left may. ⊎_elim (settled_of_run old.serving new.serving legal same_members left)
                (λ begun. inr (some, subst (λ (w : World). IsCopyInProgress w left) (sym same) begun)) may);
            last = λ of told left here.
                let each = leaves told in
                ⊎_elim (λ (settled : IsSettledCopy (world old.serving) left). inl
                (subst (λ (w : World). IsSettledCopy w left) (sym same) settled))
                (λ begun. inr (some, subst (λ (w : World). IsCopyInProgress w left) (sym same) begun))
                (each.each left (counts left here each.later));
            going = λ not. absurd (not tt);
            cause = rose;
            past = past;
            idle = λ none. record { none = sym journal ∙ none; still = still; disk = idle };
          }

module _ {D : Type 0} {g : Ghosts D} where
  -- where the disk was not called what stood stands
  pub leaves_still : (old new : Face g) → new.disk ≡ old.disk
      → (IsTold (g.contents old.opened) → (left : List ℕ) → g.image old.disk left
      → IsSettledCopy (world old.serving) left)
      → ((left : List ℕ) → g.since old.disk (g.moment old.disk) left → g.image old.disk left)
      → IsTold (g.contents old.opened) → LeavesOnly g.moment g.since old.disk new.disk
      (IsSettledCopy (world old.serving))
  leaves_still old new same settled now told =
      subst (λ (d : D). LeavesOnly g.moment g.since old.disk d (IsSettledCopy (world old.serving))) (sym same)
      (started g.moment g.since old.disk (IsSettledCopy (world old.serving))
      (λ left there. settled told left (now left there)))

  -- ---- one part behind another

  -- nothing was done yet
  pub goes_first : (it : Face g) → it.serving.stopped ≡ None → IsLegal (opening it.serving) it.serving.journal
      → (IsTold (g.contents it.opened) → (left : List ℕ) → g.image it.disk left → IsSettledCopy (world it.serving) left)
      → ((left : List ℕ) → g.since it.disk (g.moment it.disk) left → g.image it.disk left) → FaceGoesOn it it None
  goes_first it none legal settled now = record {
    start = record { number = refl; opened = refl };
    opened = refl;
    room = omega arith;
    grows = λ kept there. there;
    leaves = λ told. started g.moment g.since it.disk (IsOfRun it.serving)
        (λ left there. settled_of_run it.serving it.serving legal (λ kept in_chain. in_chain) left
        (settled told left (now left there)));
    last = λ of. absurd of;
    going = λ _. none;
    cause = refl;
    past = refl;
    idle = λ empty. record { none = empty; still = λ is. is; disk = λ _. refl };
  }

  told_then : (old new : Face g) → new.opened ≡ old.opened → IsTold (g.contents old.opened)
      → IsTold (g.contents new.opened)
  told_then old new same told = subst (λ (d : D). IsTold (g.contents d)) (sym same) told

  pub goes_then : (old mid new : Face g) (stop : Option Stop) → FaceGoesOn old mid None → FaceGoesOn mid new stop
      → FaceGoesOn old new stop
  goes_then old mid new stop one two = record {
    start = record { number = two.start.number ∙ one.start.number; opened = two.start.opened ∙ one.start.opened };
    opened = two.opened ∙ one.opened;
    room = let first = one.room in let second = two.room in omega (arith, first, second);
    grows = λ kept there. two.grows kept (one.grows kept there);
    leaves = λ told.
        joined g.moment g.since old.disk mid.disk new.disk (IsOfRun new.serving)
        (weaker g.moment g.since old.disk mid.disk (IsOfRun mid.serving) (IsOfRun new.serving) (one.leaves told)
        (stays_of_run mid.serving new.serving (one.going (λ of. of)) two.grows))
        (two.leaves (told_then old mid one.opened told));
    last = λ of told. two.last of (told_then old mid one.opened told);
    going = two.going;
    cause = counts_then stop (g.count old.disk) (g.count mid.disk) (g.count new.disk) one.cause two.cause;
    past = two.past ∙ one.past;
    idle = λ none.
        let second = two.idle none in
        let first = one.idle second.none in
        record {
          none = first.none;
          still = λ is. second.still (first.still is);
          disk = λ is. second.disk
              (first.still is) ∙ first.disk is;
        };
  }

  -- what went well goes on so where the sink fails
  pub goes_unwritten : (old new : Face g) → FaceGoesOn old new None → FaceGoesOn old new (Some Writing)
  goes_unwritten old new goes =
      record {
        start = goes.start;
        opened = goes.opened;
        room = goes.room;
        grows = goes.grows;
        leaves = goes.leaves;
        last = λ of. absurd of;
        going = goes.going;
        cause = goes.cause;
        past = goes.past;
        idle = goes.idle;
      }

  -- and where memory ran out before anything was asked
  pub goes_short : (old new : Face g) → FaceGoesOn old new None → FaceGoesOn old new (Some (Memory no_memory))
  goes_short old new goes =
      record {
        start = goes.start;
        opened = goes.opened;
        room = goes.room;
        grows = goes.grows;
        leaves = goes.leaves;
        last = λ of. absurd of;
        going = goes.going;
        cause = goes.cause;
        past = goes.past;
        idle = goes.idle;
      }

  -- ---- the whole run

  pub last_of : (old new : Face g) (stop : Option Stop) → FaceGoesOn old new stop
      → (new.serving.stopped ≡ None → IsTold (g.contents new.opened) → (left : List ℕ) → g.image new.disk left
      → IsSettledCopy (world new.serving) left)
      → IsTold (g.contents old.opened) → (left : List ℕ) → g.image new.disk left → IsLast new.serving left
  last_of old new None goes law told left here = inl (law (goes.going (λ of. of)) (told_then old new goes.opened told)
      left here)
  last_of old new (Some (Memory _)) goes law told left here = inl
      (law (goes.going (λ of. of)) (told_then old new goes.opened told) left here)
  last_of old new (Some Writing) goes law told left here = inl
      (law (goes.going (λ of. of)) (told_then old new goes.opened told) left here)
  last_of old new (Some Device) goes law told left here = goes.last tt told left here
