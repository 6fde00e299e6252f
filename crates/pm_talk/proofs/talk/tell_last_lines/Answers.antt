use Rattle.std.proofs.Common.{◌≡◌, ◌∙◌, List, [], ◌∷◌, ℕ, map, subst}
use Rattle.std.proofs.lemmas.Result.{on_err_weaker, on_ok_weaker}
use Rattle.pm_model.specs.Text.{watch_line}
use Rattle.pm_engine.specs.Shown.{serving, tally_in}
use Rattle.pm_talk.specs.Texts.{end_of}
use Rattle.pm_talk.specs.Wires.{TellsFirst, TellsLines, wire}
use Rattle.pm_talk.proofs.Wiring.{breaks_before, breaks_then, tells_then}
use Rattle.pm_talk.proofs.talk.tell_last_lines.Goals as goal

pub returns-in-Ok-clause-all : goal.returns-in-Ok-clause-all
returns-in-Ok-clause-all g c =
    let w = wire g.P.Peer c.args.peer.now in
    let mid = wire g.P.Peer c.tell_line.new.peer in
    let new = wire g.P.Peer c.tell_each_watch.new.peer in
    let last = map watch_line (tally_in (serving c.args.engine.now)).lines in
    let first : c.as_slice.result.now ≡ end_of (tally_in (serving c.args.engine.now)) = c.as_slice.ensures.value ∙ c.end_text.ensures in
    on_ok_weaker c.tell_each_watch.result (λ told. subst (λ (line : List ℕ). TellsLines (line ∷ last) w new) first (tells_then (c.as_slice.result.now ∷ []) last w mid new c.in-Ok.ensures.all told)) c.tell_each_watch.ensures.all

pub returns-in-Ok-clause-part : goal.returns-in-Ok-clause-part
returns-in-Ok-clause-part g c =
    let w = wire g.P.Peer c.args.peer.now in
    let mid = wire g.P.Peer c.tell_line.new.peer in
    let new = wire g.P.Peer c.tell_each_watch.new.peer in
    let last = map watch_line (tally_in (serving c.args.engine.now)).lines in
    let first : c.as_slice.result.now ≡ end_of (tally_in (serving c.args.engine.now)) = c.as_slice.ensures.value ∙ c.end_text.ensures in
    on_err_weaker c.tell_each_watch.result (λ part. subst (λ (line : List ℕ). TellsFirst (line ∷ last) w new) first (breaks_then (c.as_slice.result.now ∷ []) last w mid new c.in-Ok.ensures.all part)) c.tell_each_watch.ensures.part

pub returns-in-Err-clause-part : goal.returns-in-Err-clause-part
returns-in-Err-clause-part g c =
    let w = wire g.P.Peer c.args.peer.now in
    let new = wire g.P.Peer c.tell_line.new.peer in
    let last = map watch_line (tally_in (serving c.args.engine.now)).lines in
    let first : c.as_slice.result.now ≡ end_of (tally_in (serving c.args.engine.now)) = c.as_slice.ensures.value ∙ c.end_text.ensures in
    subst (λ (line : List ℕ). TellsFirst (line ∷ last) w new) first (breaks_before (c.as_slice.result.now ∷ []) last w new c.in-Err.ensures.part)
