use Rattle.std.proofs.Common.{◌≡◌, ◌+◌, ℕ, List, take, drop, get_or, ap, sym, ◌∙◌, arith}
use Rattle.std.proofs.lemmas.List.{get_or-take, get_or-drop}
use Rattle.pm_disk.proofs.MadeLemmas.{within_counts}
use Rattle.pm_shadow.proofs.RunLemmas.{one_look, looks_then}
use Rattle.pm_shadow.proofs.looking.read_slot.Goals as goal

-- the one byte that was read
byte_read : (at : ℕ) (bytes one : List ℕ) → one ≡ take 1 (drop at bytes) → get_or one 0 0 ≡ get_or bytes at 0
byte_read at bytes one is = ap (λ (t : List ℕ). get_or t 0 0) is ∙ get_or-take 1 (drop at bytes) 0 0 (omega arith) ∙ get_or-drop at bytes 0 0 ∙ ap (λ (n : ℕ). get_or bytes n 0) (let same : at + 0 ≡ at = omega arith in same)

pub returns-in_err-read_at-clause-looks : goal.returns-in_err-read_at-clause-looks
returns-in_err-read_at-clause-looks g c =
    let d = g.D.Disk in
    let e = c.read_at.ensures in
    one_look d.contents d.image d.moment d.since c.args.disk.now c.read_at.new.self (g.met.D.Disk.only_now c.args.disk.now) e.contents e.images e.time

pub returns-in_err-read_at-2-clause-looks : goal.returns-in_err-read_at-2-clause-looks
returns-in_err-read_at-2-clause-looks g c =
    let d = g.D.Disk in
    let e = c.read_at.ensures in
    let f = c.read_at-2.ensures in
    looks_then d.contents d.image d.moment d.since c.args.disk.now c.read_at.new.self c.read_at-2.new.self
    (one_look d.contents d.image d.moment d.since c.args.disk.now c.read_at.new.self (g.met.D.Disk.only_now c.args.disk.now) e.contents e.images e.time)
    (one_look d.contents d.image d.moment d.since c.read_at.new.self c.read_at-2.new.self (g.met.D.Disk.only_now c.read_at.new.self) f.contents f.images f.time)

pub returns-clause-looks : goal.returns-clause-looks
returns-clause-looks g c =
    let d = g.D.Disk in
    let e = c.read_at.ensures in
    let f = c.read_at-2.ensures in
    looks_then d.contents d.image d.moment d.since c.args.disk.now c.read_at.new.self c.read_at-2.new.self
    (one_look d.contents d.image d.moment d.since c.args.disk.now c.read_at.new.self (g.met.D.Disk.only_now c.args.disk.now) e.contents e.images e.time)
    (one_look d.contents d.image d.moment d.since c.read_at.new.self c.read_at-2.new.self (g.met.D.Disk.only_now c.read_at.new.self) f.contents f.images f.time)

pub returns-clause-read : goal.returns-clause-read
returns-clause-read g c bytes told = record {
  body = c.in_ok-read_at.ensures.read bytes told;
  gate = byte_read c.gate_place.result bytes c.read_at-2.new.into (c.in_ok-read_at-2.ensures.read bytes (c.read_at.ensures.contents ∙ told)) ∙ ap (λ (n : ℕ). get_or bytes n 0) c.gate_place.ensures;
}

pub returns-in_err-read_at-clause-made : goal.returns-in_err-read_at-clause-made
returns-in_err-read_at-clause-made g c = c.read_at.ensures.made ∙ within_counts _ _ _ _ (λ bytes told. let long = c.requires.long bytes told in let slot = c.requires.slot in omega arith)

pub returns-in_err-read_at-2-clause-made : goal.returns-in_err-read_at-2-clause-made
returns-in_err-read_at-2-clause-made g c =
    c.read_at-2.ensures.made ∙ within_counts _ _ _ _ (λ bytes told. let long = c.requires.long bytes (sym c.read_at.ensures.contents ∙ told) in let slot = c.requires.slot in omega (arith, c.gate_place.ensures))
    ∙ c.read_at.ensures.made ∙ within_counts _ _ _ _ (λ bytes told. let long = c.requires.long bytes told in let slot = c.requires.slot in omega arith)

pub returns-clause-made : goal.returns-clause-made
returns-clause-made g c =
    c.read_at-2.ensures.made ∙ within_counts _ _ _ _ (λ bytes told. let long = c.requires.long bytes (sym c.read_at.ensures.contents ∙ told) in let slot = c.requires.slot in omega (arith, c.gate_place.ensures))
    ∙ c.read_at.ensures.made ∙ within_counts _ _ _ _ (λ bytes told. let long = c.requires.long bytes told in let slot = c.requires.slot in omega arith)
