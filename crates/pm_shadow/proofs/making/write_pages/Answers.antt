use Rattle.std.proofs.Common.{◌≡◌, ◌∷◌, [], ℕ, List, Option, Some, None, length, ap, arith, ◌∙◌}
use Rattle.std.specs.Prelude.{option_map}
use Rattle.pm_disk.specs.Writes.{written}
use Rattle.pm_disk.proofs.MadeLemmas.{more_then, write_more}
use Rattle.pm_image.specs.Opening.{gate_place, open_gate}
use Rattle.pm_shadow.specs.Images.{place_of}
use Rattle.pm_shadow.proofs.OrderLemmas.{begins, early, ordered, then_runs, then_writes}
use Rattle.pm_shadow.proofs.making.write_pages.Goals as goal

-- one change behind another, of what is told
told_then : (f g : List ℕ → List ℕ) (old mid new : Option (List ℕ)) → mid ≡ option_map f old → new ≡ option_map g mid → new ≡ option_map (λ bytes. g (f bytes)) old
told_then f g None mid new one two = two ∙ ap (option_map g) one
told_then f g (Some bytes) mid new one two = two ∙ ap (option_map g) one

pub returns-clause-written : goal.returns-clause-written
returns-clause-written g c =
    let d = g.D.Disk in
    let d0 = d.contents c.args.disk.now in
    let d1 = d.contents c.write_at.new.self in
    let d2 = d.contents c.write_at-2.new.self in
    let d3 = d.contents c.write_and_sync.new.disk in
    let d4 = d.contents c.write_and_sync-2.new.disk in
    let zeroth = written 0 c.args.zeroth.now in
    let first = written (place_of 1) c.args.first.now in
    let second = written (place_of 2) c.args.second.now in
    let two = told_then zeroth first d0 d1 d2 c.in_ok-write_at.ensures.written c.in_ok-write_at-2.ensures.written in
    let three = told_then (λ (bytes : List ℕ). first (zeroth bytes)) second d0 d2 d3 two c.in_ok-write_and_sync.ensures.written in
    let four = told_then (λ (bytes : List ℕ). second (first (zeroth bytes))) (written c.gate_place.result (open_gate ∷ [])) d0 d3 d4 three c.in_ok-write_and_sync-2.ensures.written in
    four ∙ ap (λ (at : ℕ). option_map (λ (bytes : List ℕ). written at (open_gate ∷ []) (second (first (zeroth bytes)))) d0) c.gate_place.ensures

pub returns-in_err-write_at-clause-order : goal.returns-in_err-write_at-clause-order
returns-in_err-write_at-clause-order g c bytes told =
    let d = g.D.Disk in
    let d0 = c.args.disk.now in
    let d1 = c.write_at.new.self in
    let w0 = begins d d0 (g.met.D.Disk.only_now d0) in
    let w1 = then_writes d d0 d0 d1 0 (length c.args.zeroth.now) w0 (let len = c.requires.zeroth in omega arith) c.write_at.ensures.only_torn c.write_at.ensures.time in
    let one = write_more (d.made d0) (d.made d1) c.write_at.ensures.made in let one_more = one.writes in
    early d (written (place_of 2) c.args.second.now (written (place_of 1) c.args.first.now (written 0 c.args.zeroth.now bytes))) d0 d1 w1.leaves (omega arith)

pub returns-in_err-write_at-2-clause-order : goal.returns-in_err-write_at-2-clause-order
returns-in_err-write_at-2-clause-order g c bytes told =
    let d = g.D.Disk in
    let d0 = c.args.disk.now in
    let d1 = c.write_at.new.self in
    let d2 = c.write_at-2.new.self in
    let w0 = begins d d0 (g.met.D.Disk.only_now d0) in
    let w1 = then_writes d d0 d0 d1 0 (length c.args.zeroth.now) w0 (let len = c.requires.zeroth in omega arith) c.write_at.ensures.only_torn c.write_at.ensures.time in
    let w2 = then_writes d d0 d1 d2 (place_of 1) (length c.args.first.now) w1 (let len = c.requires.first in omega arith) c.write_at-2.ensures.only_torn c.write_at-2.ensures.time in
    let one = write_more (d.made d0) (d.made d1) c.write_at.ensures.made in let one_more = one.writes in
    let two = write_more (d.made d1) (d.made d2) c.write_at-2.ensures.made in let two_more = two.writes in
    early d (written (place_of 2) c.args.second.now (written (place_of 1) c.args.first.now (written 0 c.args.zeroth.now bytes))) d0 d2 w2.leaves (omega arith)

pub returns-in_err-write_and_sync-clause-order : goal.returns-in_err-write_and_sync-clause-order
returns-in_err-write_and_sync-clause-order g c bytes told =
    let d = g.D.Disk in
    let d0 = c.args.disk.now in
    let d1 = c.write_at.new.self in
    let d2 = c.write_at-2.new.self in
    let d3 = c.write_and_sync.new.disk in
    let w0 = begins d d0 (g.met.D.Disk.only_now d0) in
    let w1 = then_writes d d0 d0 d1 0 (length c.args.zeroth.now) w0 (let len = c.requires.zeroth in omega arith) c.write_at.ensures.only_torn c.write_at.ensures.time in
    let w2 = then_writes d d0 d1 d2 (place_of 1) (length c.args.first.now) w1 (let len = c.requires.first in omega arith) c.write_at-2.ensures.only_torn c.write_at-2.ensures.time in
    let w3 = then_runs d d0 d2 d3 (place_of 2) (length c.args.second.now) w2 (let len = c.requires.second in omega arith) c.write_and_sync.ensures.images c.write_and_sync.ensures.leaves in
    let one = write_more (d.made d0) (d.made d1) c.write_at.ensures.made in let one_more = one.writes in
    let two = write_more (d.made d1) (d.made d2) c.write_at-2.ensures.made in let two_more = two.writes in
    let three_more = c.write_and_sync.ensures.made.most.writes in
    early d (written (place_of 2) c.args.second.now (written (place_of 1) c.args.first.now (written 0 c.args.zeroth.now bytes))) d0 d3 w3.leaves (omega arith)

pub returns-in_err-write_and_sync-2-clause-order : goal.returns-in_err-write_and_sync-2-clause-order
returns-in_err-write_and_sync-2-clause-order g c bytes told =
    let d = g.D.Disk in
    let d0 = c.args.disk.now in
    let d1 = c.write_at.new.self in
    let d2 = c.write_at-2.new.self in
    let d3 = c.write_and_sync.new.disk in
    let d4 = c.write_and_sync-2.new.disk in
    let w0 = begins d d0 (g.met.D.Disk.only_now d0) in
    let w1 = then_writes d d0 d0 d1 0 (length c.args.zeroth.now) w0 (let len = c.requires.zeroth in omega arith) c.write_at.ensures.only_torn c.write_at.ensures.time in
    let w2 = then_writes d d0 d1 d2 (place_of 1) (length c.args.first.now) w1 (let len = c.requires.first in omega arith) c.write_at-2.ensures.only_torn c.write_at-2.ensures.time in
    let w3 = then_runs d d0 d2 d3 (place_of 2) (length c.args.second.now) w2 (let len = c.requires.second in omega arith) c.write_and_sync.ensures.images c.write_and_sync.ensures.leaves in
    let w4 = then_runs d d0 d3 d4 c.gate_place.result 1 w3 (let place = c.gate_place.ensures in omega arith) c.write_and_sync-2.ensures.images c.write_and_sync-2.ensures.leaves in
    let pages = (written (place_of 2) c.args.second.now (written (place_of 1) c.args.first.now (written 0 c.args.zeroth.now bytes))) in
    let made = more_then 2 0 0 1 1 0 (d.made d0) (d.made d2) (d.made d3)
    (more_then 1 0 0 1 0 0 (d.made d0) (d.made d1) (d.made d2) (write_more (d.made d0) (d.made d1) c.write_at.ensures.made) (write_more (d.made d1) (d.made d2) c.write_at-2.ensures.made))
    c.in_ok-write_and_sync.ensures.made.done in
    let shut : d.contents d3 ≡ Some pages =
    c.in_ok-write_and_sync.ensures.written ∙ ap (option_map (written (place_of 2) c.args.second.now))
    (c.in_ok-write_at-2.ensures.written ∙ ap (option_map (written (place_of 1) c.args.first.now)) (c.in_ok-write_at.ensures.written ∙ ap (option_map (written 0 c.args.zeroth.now)) told)) in
    ordered d d0 pages d3 d4 c.gate_place.result c.gate_place.ensures w3 w4 made shut (c.in_ok-write_and_sync.ensures.only pages shut) c.write_and_sync-2.ensures.leaves

pub returns-clause-order : goal.returns-clause-order
returns-clause-order g c bytes told =
    let d = g.D.Disk in
    let d0 = c.args.disk.now in
    let d1 = c.write_at.new.self in
    let d2 = c.write_at-2.new.self in
    let d3 = c.write_and_sync.new.disk in
    let d4 = c.write_and_sync-2.new.disk in
    let w0 = begins d d0 (g.met.D.Disk.only_now d0) in
    let w1 = then_writes d d0 d0 d1 0 (length c.args.zeroth.now) w0 (let len = c.requires.zeroth in omega arith) c.write_at.ensures.only_torn c.write_at.ensures.time in
    let w2 = then_writes d d0 d1 d2 (place_of 1) (length c.args.first.now) w1 (let len = c.requires.first in omega arith) c.write_at-2.ensures.only_torn c.write_at-2.ensures.time in
    let w3 = then_runs d d0 d2 d3 (place_of 2) (length c.args.second.now) w2 (let len = c.requires.second in omega arith) c.write_and_sync.ensures.images c.write_and_sync.ensures.leaves in
    let w4 = then_runs d d0 d3 d4 c.gate_place.result 1 w3 (let place = c.gate_place.ensures in omega arith) c.write_and_sync-2.ensures.images c.write_and_sync-2.ensures.leaves in
    let pages = (written (place_of 2) c.args.second.now (written (place_of 1) c.args.first.now (written 0 c.args.zeroth.now bytes))) in
    let made = more_then 2 0 0 1 1 0 (d.made d0) (d.made d2) (d.made d3)
    (more_then 1 0 0 1 0 0 (d.made d0) (d.made d1) (d.made d2) (write_more (d.made d0) (d.made d1) c.write_at.ensures.made) (write_more (d.made d1) (d.made d2) c.write_at-2.ensures.made))
    c.in_ok-write_and_sync.ensures.made.done in
    let shut : d.contents d3 ≡ Some pages =
    c.in_ok-write_and_sync.ensures.written ∙ ap (option_map (written (place_of 2) c.args.second.now))
    (c.in_ok-write_at-2.ensures.written ∙ ap (option_map (written (place_of 1) c.args.first.now)) (c.in_ok-write_at.ensures.written ∙ ap (option_map (written 0 c.args.zeroth.now)) told)) in
    ordered d d0 pages d3 d4 c.gate_place.result c.gate_place.ensures w3 w4 made shut (c.in_ok-write_and_sync.ensures.only pages shut) c.write_and_sync-2.ensures.leaves
