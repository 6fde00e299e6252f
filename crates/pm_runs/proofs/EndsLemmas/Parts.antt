-- The parts of an end.
use Rattle.std.proofs.Common.{◌≡◌, Option, sym, subst}
use Rattle.pm_engine.specs.declared.tally.Tally.{Tally}
use Rattle.pm_young.specs.declared.tally.YoungTally.{YoungTally}
use Rattle.pm_runs.specs.declared.ends.ended.Detail.{Detail}
use Rattle.pm_runs.specs.declared.ends.ended.Alone.{Alone as Ended}

module _ {D S K : Type 0} where
  -- the end with these parts in place of its own
  abbrev pub with_parts : Ended D S K → Detail → Option Tally → Option YoungTally → D → S → K → Ended D S K
  with_parts it detail tally young disk source sink = record it { detail = detail; tally = tally; young = young; disk = disk; source = source; sink = sink }

  -- what holds of an end with the parts that it has holds of it
  pub at_end : (P : Ended D S K → Type 0) (it : Ended D S K) {detail : Detail} {tally : Option Tally} {young : Option YoungTally} {disk : D} {source : S} {sink : K}
      → it.detail ≡ detail → it.tally ≡ tally → it.young ≡ young → it.disk ≡ disk → it.source ≡ source → it.sink ≡ sink
      → P (with_parts it detail tally young disk source sink) → P it
  at_end P it {detail} {tally} {young} {disk} {source} {sink} is_detail is_tally is_young is_disk is_source is_sink holds =
      subst (λ (d : Detail). P (with_parts it d it.tally it.young it.disk it.source it.sink)) (sym is_detail)
      (subst (λ (t : Option Tally). P (with_parts it detail t it.young it.disk it.source it.sink)) (sym is_tally)
      (subst (λ (y : Option YoungTally). P (with_parts it detail tally y it.disk it.source it.sink)) (sym is_young)
      (subst (λ (d : D). P (with_parts it detail tally young d it.source it.sink)) (sym is_disk)
      (subst (λ (s : S). P (with_parts it detail tally young disk s it.sink)) (sym is_source)
      (subst (λ (k : K). P (with_parts it detail tally young disk source k)) (sym is_sink) holds)))))
