use Rattle.std.proofs.Common.{◌≡◌, ◌⊎◌, false, refl, sym, subst, ℕ, List, Option, Bor, map}
use Rattle.std.specs.Prelude.{IfNone, IfSome}
use Rattle.pm_words.specs.declared.asked.Asked.{Asked}
use Rattle.pm_words.specs.declared.asked.Asked.TheVariants.{Alone, Ship}
use Rattle.pm_words.specs.declared.command.Command.{Command}
use Rattle.pm_words.specs.Words.{Spells, SpellsNothing}
use Rattle.pm_runs.specs.declared.ends.ended.Alone.{Alone as OneEnd}
use Rattle.pm_runs.specs.declared.ends.ended.Detail.TheVariants.{Memory}
use Rattle.pm_runs.specs.Ends.Ends.{status_of}
use Rattle.pm_top.specs.Commands.{Does}
use Rattle.pm_runs.specs.Ends.Causes.{ShowsCauses}
use Rattle.pm_top.proofs.Complete.{complete}
use Rattle.pm_runs.proofs.EndsLemmas.Parts.{at_end}
use Rattle.pm_top.proofs.Performing.{untouched_does}
use Rattle.pm_top.proofs.Shipping.{none_shipped, ship_done, ship_left}
use Rattle.pm_top.proofs.top.pmos.Goals as goal
use Rattle.pm_types.specs.Memory.{no_memory}

pub returns-in-Ok-Some-Alone-clause-does : goal.returns-in-Ok-Some-Alone-clause-does
returns-in-Ok-Some-Alone-clause-does g c command spells =
    let it = c.in-Ok-Some-Alone in
    let words = map (λ (word : Bor (List ℕ)). word.now) c.args.words.now in
    let spelled : Spells words (Alone it.command) = subst (Spells words) it.field-0-0-is (subst (λ (o : Option Asked). IfSome o (Spells words)) it.field-0-is it.ensures.some) in
    let both = c.words_spell_one_command.ensures words (Alone command) (Alone it.command) spells spelled in
    let same : command ≡ it.command = cc both in (
      subst (λ (end : OneEnd g.row.D.Denot g.row.S.Denot g.row.K.Denot). Does g.D.Disk g.S.Source g.K.Sink c.args.place command c.args.disk c.args.source c.args.sink end) (sym c.beside.ensures.alone)
          (subst (λ (asked : Command). Does g.D.Disk g.S.Source g.K.Sink c.args.place asked c.args.disk c.args.source c.args.sink c.perform.result) (sym same) c.perform.ensures.does),
      c.beside.ensures.other,
    )

pub returns-in-Ok-Some-Alone-clause-complete : goal.returns-in-Ok-Some-Alone-clause-complete
returns-in-Ok-Some-Alone-clause-complete g c command spells needs none =
    let it = c.in-Ok-Some-Alone in
    let words = map (λ (word : Bor (List ℕ)). word.now) c.args.words.now in
    let spelled : Spells words (Alone it.command) = subst (Spells words) it.field-0-0-is (subst (λ (o : Option Asked). IfSome o (Spells words)) it.field-0-is it.ensures.some) in
    let both = c.words_spell_one_command.ensures words (Alone command) (Alone it.command) spells spelled in
    let same : command ≡ it.command = cc both in
    let status : c.beside.result.status ≡ status_of c.beside.result.detail =
    subst (λ (end : OneEnd g.row.D.Denot g.row.S.Denot g.row.K.Denot). end.status ≡ status_of end.detail) (sym c.beside.ensures.alone) c.perform.ensures.status in
    subst (λ (n : ℕ). (n ≡ 0) ⊎ (n ≡ 7)) (sym status)
    (complete g.D.Disk g.S.Source g.K.Sink c.args.place command c.args.disk c.args.source c.args.sink _
    (subst (λ (end : OneEnd g.row.D.Denot g.row.S.Denot g.row.K.Denot). Does g.D.Disk g.S.Source g.K.Sink c.args.place command c.args.disk c.args.source c.args.sink end) (sym c.beside.ensures.alone)
    (subst (λ (asked : Command). Does g.D.Disk g.S.Source g.K.Sink c.args.place asked c.args.disk c.args.source c.args.sink c.perform.result) (sym same) c.perform.ensures.does))
    (subst (λ (end : OneEnd g.row.D.Denot g.row.S.Denot g.row.K.Denot). ShowsCauses g.D.Disk g.S.Source g.K.Sink c.args.disk c.args.source c.args.sink end) (sym c.beside.ensures.alone) c.perform.ensures.causes)
    needs none)

pub returns-in-Ok-Some-Ship-clause-ship_complete : goal.returns-in-Ok-Some-Ship-clause-ship_complete
returns-in-Ok-Some-Ship-clause-ship_complete g c are may none stands =
    subst (λ (n : ℕ). (n ≡ 0) ⊎ (n ≡ 7)) (sym c.ship_store.ensures.status)
    (ship_done g.D.Disk g.E.Disk g.S.Source g.K.Sink c.args.disk c.args.other c.args.source c.args.sink c.ship_store.result c.ship_store.ensures.causes c.ship_store.ensures.other_causes may none stands
    c.ship_store.ensures.ships)

pub returns-in-Ok-None-clause-does : goal.returns-in-Ok-None-clause-does
returns-in-Ok-None-clause-does g c command spells =
    let words = map (λ (word : Bor (List ℕ)). word.now) c.args.words.now in
    absurd (subst (λ (o : Option Asked). IfNone o (SpellsNothing words)) c.in-Ok-None.field-0-is c.in-Ok-None.ensures.none (Alone command) spells)

pub returns-in-Ok-None-clause-complete : goal.returns-in-Ok-None-clause-complete
returns-in-Ok-None-clause-complete g c command spells needs none =
    let words = map (λ (word : Bor (List ℕ)). word.now) c.args.words.now in
    absurd (subst (λ (o : Option Asked). IfNone o (SpellsNothing words)) c.in-Ok-None.field-0-is c.in-Ok-None.ensures.none (Alone command) spells)

pub returns-in-Ok-None-clause-ships : goal.returns-in-Ok-None-clause-ships
returns-in-Ok-None-clause-ships g c are =
    let words = map (λ (word : Bor (List ℕ)). word.now) c.args.words.now in
    absurd (subst (λ (o : Option Asked). IfNone o (SpellsNothing words)) c.in-Ok-None.field-0-is c.in-Ok-None.ensures.none Ship are)

pub returns-in-Ok-None-clause-ship_complete : goal.returns-in-Ok-None-clause-ship_complete
returns-in-Ok-None-clause-ship_complete g c are may none stands =
    let words = map (λ (word : Bor (List ℕ)). word.now) c.args.words.now in
    absurd (subst (λ (o : Option Asked). IfNone o (SpellsNothing words)) c.in-Ok-None.field-0-is c.in-Ok-None.ensures.none Ship are)

pub returns-in-Err-clause-does : goal.returns-in-Err-clause-does
returns-in-Err-clause-does g c command spells =
    let it = c.end_unopened-in-Err.result in
    let e = c.end_unopened-in-Err.ensures in (
      subst (λ (end : OneEnd g.row.D.Denot g.row.S.Denot g.row.K.Denot). Does g.D.Disk g.S.Source g.K.Sink c.args.place command c.args.disk c.args.source c.args.sink end) (sym c.beside-in-Err.ensures.alone)
          (at_end (λ end. Does g.D.Disk g.S.Source g.K.Sink c.args.place command c.args.disk c.args.source c.args.sink end) it
          e.detail e.tally e.young e.disk e.source e.sink
          (untouched_does g.D.Disk g.S.Source g.K.Sink c.args.place command c.args.disk c.args.source c.args.sink it e.journal
          c.images_since_now.ensures (record { no_more = λ image is. is; no_fewer = λ image is. is }))),
      c.beside-in-Err.ensures.other,
    )

pub returns-in-Err-clause-ships : goal.returns-in-Err-clause-ships
returns-in-Err-clause-ships g c are =
    let e = c.end_unopened-in-Err.ensures in
    ship_left g.D.Disk g.E.Disk g.K.Sink c.args.disk c.args.other c.args.source c.args.sink c.args.sink _ (Memory false no_memory)
    (none_shipped g.D.Disk g.E.Disk c.args.disk c.args.other c.images_since_now.ensures c.images_since_now-2.ensures) refl refl
    c.beside-in-Err.result c.end_unopened-in-Err.result c.beside-in-Err.ensures.alone e.detail e.journal e.tally e.young e.disk e.source e.sink c.beside-in-Err.ensures.other
