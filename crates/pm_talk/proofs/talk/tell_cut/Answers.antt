use Rattle.std.proofs.Common.{◌≡◌, ◌∙◌, List, [], ◌∷◌, ℕ, subst}
use Rattle.std.proofs.lemmas.Result.{on_err_weaker, on_ok_weaker}
use Rattle.pm_engine.specs.Shown.{serving, tally_in}
use Rattle.pm_talk.specs.Texts.{cut_line, last_lines}
use Rattle.pm_talk.specs.Wires.{TellsFirst, TellsLines, wire}
use Rattle.pm_talk.proofs.Wiring.{breaks_before, breaks_then, tells_then}
use Rattle.pm_talk.proofs.talk.tell_cut.Goals as goal

pub returns-in-Ok-clause-all : goal.returns-in-Ok-clause-all
returns-in-Ok-clause-all g c =
    let w = wire g.P.Peer c.args.peer.now in
    let mid = wire g.P.Peer c.tell_line.new.peer in
    let new = wire g.P.Peer c.tell_last_lines.new.peer in
    let last = last_lines (tally_in (serving c.args.engine.now)) in
    let first : c.as_slice.result.now ≡ cut_line = c.as_slice.ensures.value ∙ c.cut_line.ensures in
    on_ok_weaker c.tell_last_lines.result (λ told. subst (λ (line : List ℕ). TellsLines (line ∷ last) w new) first (tells_then (c.as_slice.result.now ∷ []) last w mid new c.in-Ok.ensures.all told)) c.tell_last_lines.ensures.all

pub returns-in-Ok-clause-part : goal.returns-in-Ok-clause-part
returns-in-Ok-clause-part g c =
    let w = wire g.P.Peer c.args.peer.now in
    let mid = wire g.P.Peer c.tell_line.new.peer in
    let new = wire g.P.Peer c.tell_last_lines.new.peer in
    let last = last_lines (tally_in (serving c.args.engine.now)) in
    let first : c.as_slice.result.now ≡ cut_line = c.as_slice.ensures.value ∙ c.cut_line.ensures in
    on_err_weaker c.tell_last_lines.result (λ part. subst (λ (line : List ℕ). TellsFirst (line ∷ last) w new) first (breaks_then (c.as_slice.result.now ∷ []) last w mid new c.in-Ok.ensures.all part)) c.tell_last_lines.ensures.part

pub returns-in-Err-clause-part : goal.returns-in-Err-clause-part
returns-in-Err-clause-part g c =
    let w = wire g.P.Peer c.args.peer.now in
    let new = wire g.P.Peer c.tell_line.new.peer in
    let last = last_lines (tally_in (serving c.args.engine.now)) in
    let first : c.as_slice.result.now ≡ cut_line = c.as_slice.ensures.value ∙ c.cut_line.ensures in
    subst (λ (line : List ℕ). TellsFirst (line ∷ last) w new) first (breaks_before (c.as_slice.result.now ∷ []) last w new c.in-Err.ensures.part)
