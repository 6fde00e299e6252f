use Rattle.std.proofs.Common.{◌≡◌, ◌∙◌, [], ◌∷◌, List, ℕ, None, inl, inr, refl, subst}
use Rattle.pm_engine.specs.Shown.{disk_in, serving}
use Rattle.pm_talk.specs.Ends.{disk_stop}
use Rattle.pm_talk.specs.Stepping.{TakesAll}
use Rattle.pm_talk.specs.Texts.{greeting}
use Rattle.pm_talk.specs.Wires.{TellsFirst, TellsLines, wire}
use Rattle.pm_talk.proofs.Finishing.{counts_peer_from}
use Rattle.pm_talk.proofs.Going.{talk_first, talk_runs}
use Rattle.pm_talk.proofs.talk.converse.Goals as goal

pub returns-in-Ok-clause-talks : goal.returns-in-Ok-clause-talks
returns-in-Ok-clause-talks g c =
    let w = wire g.P.Peer c.args.peer.now in
    let begun = wire g.P.Peer c.tell_line.new.peer in
    let new = wire g.P.Peer c.take_all-ended.new.peer in
    let line : c.as_slice.result.now ≡ greeting c.args.number = c.as_slice.ensures.value ∙ c.greeting.ensures in
    let all = subst (λ (kept : List ℕ). TakesAll c.args.events c.take_all-ended.result kept (serving c.args.engine.now) (serving c.take_all-ended.new.engine) begun new) c.requires.unheard c.take_all-ended.ensures.turns in
    inr (record {
      begun = begun;
      greets = subst (λ (told : List ℕ). TellsLines (told ∷ []) w begun) line c.in-Ok.ensures.all;
      turns = all.turns;
      behind = all.behind;
      it = all.it;
      mid = all.mid;
      has = all.has;
      ends = all.ends;
    })

pub returns-in-Ok-clause-disk : goal.returns-in-Ok-clause-disk
returns-in-Ok-clause-disk g c = talk_runs c.args.engine.now c.take_all-ended.new.engine (disk_stop c.take_all-ended.result) c.requires.fresh c.take_all-ended.ensures.engine c.keep_their_images-in-Ok.ensures.settled

pub returns-in-Ok-clause-start : goal.returns-in-Ok-clause-start
returns-in-Ok-clause-start g c = c.take_all-ended.ensures.engine.start

pub returns-in-Ok-clause-cause : goal.returns-in-Ok-clause-cause
returns-in-Ok-clause-cause g c =
    counts_peer_from c.take_all-ended.result (g.P.Peer.count c.args.peer.now) (g.P.Peer.count c.tell_line.new.peer) (g.P.Peer.count c.take_all-ended.new.peer) c.in-Ok.ensures.counted c.take_all-ended.ensures.cause

pub returns-in-Err-clause-talks : goal.returns-in-Err-clause-talks
returns-in-Err-clause-talks g c =
    let line : c.as_slice.result.now ≡ greeting c.args.number = c.as_slice.ensures.value ∙ c.greeting.ensures in
    inl (record { why = refl; still = refl; tells = subst (λ (told : List ℕ). TellsFirst (told ∷ []) (wire g.P.Peer c.args.peer.now) (wire g.P.Peer c.tell_line.new.peer)) line c.in-Err.ensures.part })

pub returns-in-Err-clause-disk : goal.returns-in-Err-clause-disk
returns-in-Err-clause-disk g c =
    let law = c.keep_their_images.ensures in
    talk_runs c.args.engine.now c.args.engine.now None c.requires.fresh (talk_first c.args.engine.now c.requires.fresh.stopped law.legal (law.settled c.requires.fresh.stopped) (g.met.D.Disk.only_now (disk_in c.args.engine.now))) law.settled

pub returns-in-Err-clause-start : goal.returns-in-Err-clause-start
returns-in-Err-clause-start g c =
    let law = c.keep_their_images.ensures in
    (talk_first c.args.engine.now c.requires.fresh.stopped law.legal (law.settled c.requires.fresh.stopped) (g.met.D.Disk.only_now (disk_in c.args.engine.now))).start
