-- What enters in a run with a nursery, one line behind another.
use Rattle.std.proofs.Common.{◌≡◌, ℕ, List, [], ◌∷◌, ◌++◌, None, Result, Ok, Err, OnOk, refl, ap, sym, subst, ◌∙◌, append_assoc}
use Rattle.std.proofs.Math.Logic.{∥∥₁_elim, ∥∥₁_map, ∥∥₁_prop}
use Rattle.std.proofs.lemmas.List.{append-nil}
use Rattle.pm_types.specs.declared.command.Cmd.{Cmd}
use Rattle.pm_types.specs.declared.fault.EngineFault.{EngineFault}
use Rattle.pm_types.specs.declared.reply.Reply.{Reply}
use Rattle.pm_disk.specs.declared.disk.Disk.{Ghosts}
use Rattle.pm_model.specs.Answer.{answer}
use Rattle.pm_model.specs.Journal.{after}
use Rattle.pm_model.specs.World.{World}
use Rattle.pm_model.proofs.ChainLaws.{after_more}
use Rattle.pm_engine.proofs.EventsLemmas.Going.{same_world}
use Rattle.pm_nursery.specs.Young.{NurseryView, no_nursery}
use Rattle.pm_saving.specs.Events.{Serves}
use Rattle.pm_saving.specs.Serving.{KeepsOpening, Serving, opening, world}
use Rattle.pm_script.specs.declared.line.Line.TheVariants.{Client, Flush}
use Rattle.pm_script.specs.declared.line.YoungLine.{YoungLine}
use Rattle.pm_script.specs.declared.line.YoungLine.TheVariants.{Base, Young}
use Rattle.pm_young.specs.declared.engine.YoungEngine.{YoungEngine}
use Rattle.pm_young.specs.Calls.{Sweeps}
use Rattle.pm_young.specs.Clients.{AnswersYoungClient}
use Rattle.pm_young.specs.Kept.{IsYoungPart}
use Rattle.pm_young.specs.Seen.{BeginsYoung, KeepsNursery, entered_in, halt_in, serving, young_in}
use Rattle.pm_young_run.specs.Entered.{AreEntered, Enters, EntersAll, Lets, LetsNone}
use Rattle.pm_young_run.specs.Stepping.{line_of}
use Rattle.pm_young_run.specs.declared.kind.Kind.{Kind}
use Rattle.pm_young_run.specs.declared.kind.Kind.TheVariants as kinds

-- ---- worlds

-- the journal grew by a command that the world answers
next_world : (client : ℕ) (cmd : Cmd) (old new : Serving) (reply : Reply) → Serves client cmd old new reply
    → world new ≡ (answer (world old) client cmd).1
next_world client cmd old new reply serves =
    let opened = serves.appends.opening in
    (λ i. after (opening (record old { number = opened.number i; opened = opened.opened i }))
    (serves.appends.journal i))
    ∙ after_more (opening old) old.journal (record { client = client; cmd = cmd; reply = reply })

-- ---- a line

module _ {D : Type 0} {F : Type 0} {g : Ghosts D} (old new : YoungEngine D F g) where
  -- a command lets enter what escapes at it
  pub command_enters : (client : ℕ) (cmd : Cmd) (result : Result Reply EngineFault)
      → AnswersYoungClient client cmd old new result
      → (halt_in new ≡ None → ∥ IsYoungPart (world (serving new)) (young_in new) ∥₁)
      → OnOk result (Enters (Base (Client client cmd)) old new)
  command_enters client cmd (Ok reply) call part =
      let enters = call.enters in
      record {
        ids = enters.ids;
        entered = enters.entered;
        lets = ∥∥₁_elim enters.escaping ∥∥₁_prop (λ escaping. ∥∥₁_map (part call.runs) (λ is. record {
          escaping = escaping;
          world = next_world client cmd (serving old) (serving new) reply call.serves;
          young = enters.young;
          part = is;
        }));
      }
  command_enters client cmd (Err fault) call part = tt

  -- a sweep lets enter what is reached
  pub sweep_enters : (result : Result (Unit {0}) EngineFault) → Sweeps old new result
      → OnOk result (Enters Young old new)
  sweep_enters (Ok done) call =
      let swept = call.ok in
      record {
        ids = swept.ids;
        entered = swept.entered;
        lets = ∥∥₁_map swept.kept (λ kept. record {
          kept = kept;
          world = same_world (serving old) (serving new)
              swept.answers.opening swept.answers.journal;
          none = swept.young;
        });
      }
  sweep_enters (Err fault) call = tt

  -- the other events let nothing enter
  none_enters : KeepsOpening (serving old) (serving new) → (serving new).journal ≡ (serving old).journal
      → KeepsNursery old new → LetsNone (world (serving old)) (young_in old) [] (world (serving new)) (young_in new)
  none_enters opening journal keeps = record {
    none = refl;
    world = same_world (serving old) (serving new) opening
        journal;
    young = keeps.young;
  }

  pub events_enter : {T E : Type 0} (kind : Kind) (count : ℕ) (result : Result T E)
      → KeepsOpening (serving old) (serving new) → (serving new).journal ≡ (serving old).journal → KeepsNursery old new
      → OnOk result (Enters (Base (line_of kind count)) old new)
  events_enter kind count (Err fault) opening journal keeps = tt
  events_enter kinds.Collect count (Ok done) opening journal keeps = record {
    ids = [];
    entered = keeps.entered ∙ sym (append-nil (entered_in old));
    lets = ∣ none_enters opening journal
        keeps ∣₁;
  }
  events_enter kinds.Flush count (Ok done) opening journal keeps = record {
    ids = [];
    entered = keeps.entered ∙ sym (append-nil (entered_in old));
    lets = ∣ none_enters opening journal
        keeps ∣₁;
  }

-- ---- lines

-- the same, from a world and a nursery in other words
lets_from : (before mid : World) (nursery beyond : NurseryView) (line : YoungLine) (ids : List ℕ) (last : World)
    (later : NurseryView) → mid ≡ before → beyond ≡ nursery → Lets mid beyond line ids last later
    → Lets before nursery line ids last later
lets_from before mid nursery beyond line ids last later world same lets = subst
    (λ (both : World × NurseryView). Lets both.0 both.1 line ids last later) (λ i. (world i, same i)) lets

-- one line more was run
pub entered_push : (before : World) (nursery : NurseryView) (lines : List YoungLine) (line : YoungLine)
    (ids more : List ℕ) (mid : World) (beyond : NurseryView) (last : World) (later : NurseryView)
    → AreEntered before nursery lines ids mid beyond
    → Lets mid beyond line more last later → AreEntered before nursery (lines ++ line ∷ []) (ids ++ more) last later
entered_push before nursery [] line ids more mid beyond last later none lets = (
  more,
  [],
  last,
  later,
  ap (λ (xs : List ℕ). xs ++ more) none.none
      ∙ sym (append-nil more),
  lets_from before mid nursery beyond line more last later none.world none.young lets,
  record { none = refl; world = refl; young = refl },
)
entered_push before nursery (one ∷ lines) line ids more mid beyond last later entered lets = (
  entered.0,
  entered.1 ++ more,
  entered.2,
  entered.3,
  ap (λ (xs : List ℕ). xs ++ more) entered.4
      ∙ append_assoc entered.0 entered.1 more,
  entered.5,
  entered_push entered.2 entered.3 lines line entered.1 more
      mid beyond last later entered.6 lets,
)

module _ {D : Type 0} {F : Type 0} {g : Ghosts D} where
  -- no line was run yet
  pub enters_none : (it : YoungEngine D F g) → EntersAll [] it it
  enters_none it = record {
    ids = [];
    entered = sym (append-nil (entered_in it));
    lets = ∣ record
        { none = refl; world = refl; young = refl } ∣₁;
  }

  pub enters_more : (lines : List YoungLine) (line : YoungLine) (old mid new : YoungEngine D F g)
      → EntersAll lines old mid → Enters line mid new → EntersAll (lines ++ line ∷ []) old new
  enters_more lines line old mid new all one = record {
    ids = all.ids ++ one.ids;
    entered = one.entered ∙ ap (λ (xs : List ℕ). xs ++ one.ids) all.entered
        ∙ append_assoc (entered_in old) all.ids one.ids;
    lets = ∥∥₁_elim all.lets ∥∥₁_prop (λ before. ∥∥₁_map one.lets (λ then.
        entered_push (world (serving old)) (young_in old) lines line all.ids one.ids (world (serving mid))
        (young_in mid) (world (serving new)) (young_in new) before then));
  }

  -- ---- the whole run

  -- it began with nothing young, and nothing had entered
  pub entered_from_none : (lines : List YoungLine) (old ready new : YoungEngine D F g) → BeginsYoung old
      → (serving old).journal ≡ [] → serving ready ≡ serving old → young_in ready ≡ young_in old
      → entered_in ready ≡ entered_in old
      → EntersAll lines ready new → ∥ AreEntered (opening (serving old)) no_nursery lines (entered_in new)
      (world (serving new)) (young_in new) ∥₁
  entered_from_none lines old ready new begins empty same young entered all =
      let ids : all.ids ≡ entered_in new = sym (all.entered ∙ ap (λ (xs : List ℕ). xs ++ all.ids)
      (entered ∙ begins.entered)) in
      let first : world (serving ready) ≡ opening (serving old) = ap world same
      ∙ ap (after (opening (serving old))) empty in
      ∥∥₁_map all.lets (λ are.
      subst (λ (three : World × NurseryView × List ℕ). AreEntered three.0 three.1 lines three.2 (world (serving new))
      (young_in new)) (λ i. (first i, (young ∙ begins.young) i, ids i)) are)
