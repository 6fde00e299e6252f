use Rattle.std.proofs.Common.{Some, None, refl, ap, sym, subst, ℕ, Option, option_map, arith}
use Rattle.pm_types.specs.Mapped.{mapped}
use Rattle.pm_space.specs.Shown.{car_of, view}
use Rattle.pm_engine.specs.Works.Seen.{IsCrashSafe}
use Rattle.pm_nursery.specs.Young.{NurseryView}
use Rattle.pm_young.specs.declared.halt.Halt.{Halt}
use Rattle.pm_young.specs.declared.halt.HaltCause.TheVariants.{Memory}
use Rattle.pm_young.specs.Entering.{KeepsEntered}
use Rattle.pm_young.specs.Halts.{stopped_by}
use Rattle.pm_young.specs.Kept.{StandsYoung}
use Rattle.pm_young.proofs.Carried.{path_young, reached_young}
use Rattle.pm_young.proofs.Sound.{are_first_kept, are_kept, goes_entering, keeps_more, may_all_come, safe_moved, stands_apart, within_swept}
use Rattle.pm_young.proofs.engine.YoungEngine.sweep_running.Goals as goal

pub carry_reached-carried-requires-clause-may : goal.carry_reached-carried-requires-clause-may
carry_reached-carried-requires-clause-may g c =
    let it = c.args.self.now in
    may_all_come (view it.opening.space.value.parts) (view it.works.space.parts) it.nursery it.entered.items it.opening.space.value.kept it.comes_in

pub carry_reached-carried-requires-clause-stands : goal.carry_reached-carried-requires-clause-stands
carry_reached-carried-requires-clause-stands g c = let it = c.args.self.now in stands_apart it.opening it.works it.nursery (it.within c.requires.running)

pub invariant_of-self : goal.invariant_of-self
invariant_of-self g c =
    let it = c.args.self.now in
    let carries = c.in-Ok.ensures.ok in
    let space = c.carry_reached-carried.new.space in
    let later = c.carry_reached-carried.new.entered.items in
    let opened = view it.opening.space.value.parts in
    record {
      safe = safe_moved it.opening (stopped_by it.halted) it.works space c.saturating_add-self.result (ap (option_map (mapped car_of)) c.carry_reached-carried.ensures.rest.frozen) it.safe;
      within = λ running.
          subst (λ (n : NurseryView). ∥ StandsYoung it.opening (record it.works { space = space; events = c.saturating_add-self.result }) n ∥₁) (sym c.drop_all.ensures)
          (within_swept it.opening it.works space c.saturating_add-self.result it.nursery c.sound.ensures it.entered.items later carries (it.within running));
      comes_in =
          subst (λ (n : NurseryView). ∥ KeepsEntered opened (view space.parts) n later ∥₁) (sym c.drop_all.ensures)
          (keeps_more opened (view it.works.space.parts) (view space.parts) it.nursery it.entered.items later carries.ids carries.ascending (reached_young it.nursery carries.ids carries.reached c.sound.ensures) carries.enters it.comes_in);
      counted = it.counted;
      whole = it.whole;
    }

pub invariant_of-self-in-Err : goal.invariant_of-self-in-Err
invariant_of-self-in-Err g c =
    let it = c.args.self.now in
    let part = c.in-Err.ensures.part in
    let space = c.carry_reached-carried.new.space in
    let later = c.carry_reached-carried.new.entered.items in
    let opened = view it.opening.space.value.parts in
    record {
      safe =
          safe_moved it.opening None it.works space it.works.events (ap (option_map (mapped car_of)) c.carry_reached-carried.ensures.rest.frozen)
          (subst (λ (h : Option Halt). ∥ IsCrashSafe it.opening (stopped_by h) it.works ∥₁) c.requires.running it.safe);
      within = λ never. absurd (cc never);
      comes_in =
          subst (λ (n : NurseryView). ∥ KeepsEntered opened (view space.parts) n later ∥₁) (sym c.drop_all.ensures)
          (keeps_more opened (view it.works.space.parts) (view space.parts) it.nursery it.entered.items later part.ids part.first.ascending (λ id inside. path_young it.nursery c.sound.ensures id (part.first.each id inside)) part.enters it.comes_in);
      counted = it.counted;
      whole = it.whole;
    }

pub returns-in-Ok-clause-call : goal.returns-in-Ok-clause-call
returns-in-Ok-clause-call g c =
    let it = c.args.self.now in
    let carries = c.in-Ok.ensures.ok in
    let space = c.carry_reached-carried.new.space in
    let within = it.within c.requires.running in
    record {
      ok = record {
        running = c.requires.running;
        runs = c.requires.running;
        answers = record {
          opening = record { number = refl; opened = refl };
          frozen = ap (option_map (mapped car_of)) c.carry_reached-carried.ensures.rest.frozen;
          saving = refl;
          journal = refl;
          course = refl;
          watches = refl;
          steps = refl;
        };
        events = c.saturating_add-self.ensures;
        ids = carries.ids;
        kept = are_kept it.opening it.works space it.works.events it.nursery c.sound.ensures carries.ids carries.ascending carries.reached within;
        entered = carries.enters.entered;
        rows = carries.rows;
        young = c.drop_all.ensures;
      };
      fails = tt;
      still = refl;
      pages = refl;
      room = omega arith;
      goes = goes_entering it _ carries.ids refl carries.enters (reached_young it.nursery carries.ids carries.reached c.sound.ensures) c.drop_all.ensures;
    }

pub returns-in-Err-clause-call : goal.returns-in-Err-clause-call
returns-in-Err-clause-call g c =
    let it = c.args.self.now in
    let part = c.in-Err.ensures.part in
    let space = c.carry_reached-carried.new.space in
    let within = it.within c.requires.running in
    record {
      ok = tt;
      fails = record {
        running = c.requires.running;
        halts = ap (λ (count : ℕ). Some (record { cause = Memory; count = count })) c.faults.ensures;
        answers = record {
          opening = record { number = refl; opened = refl };
          frozen = ap (option_map (mapped car_of)) c.carry_reached-carried.ensures.rest.frozen;
          saving = refl;
          journal = refl;
          course = refl;
          watches = refl;
          steps = refl;
        };
        events = refl;
        ids = part.ids;
        kept = are_first_kept it.opening it.works space it.works.events it.nursery c.sound.ensures part.ids part.first within;
        entered = part.enters.entered;
        here = part.enters.adds.here;
        young = c.drop_all.ensures;
      };
      still = refl;
      pages = refl;
      room = omega arith;
      goes = goes_entering it _ part.ids refl part.enters (λ id inside. path_young it.nursery c.sound.ensures id (part.first.each id inside)) c.drop_all.ensures;
    }
