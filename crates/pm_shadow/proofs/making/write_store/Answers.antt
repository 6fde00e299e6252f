use Rattle.std.proofs.Common.{ℕ, List, Some, ap, ◌∙◌, length}
use Rattle.std.specs.Prelude.{option_map}
use Rattle.pm_disk.specs.Writes.{written}
use Rattle.pm_image.specs.Opening.{open_gate}
use Rattle.pm_shadow.specs.Images.{place_of, with_gate}
use Rattle.pm_shadow.specs.Init.{shut_store}
use Rattle.pm_shadow.proofs.OrderLemmas.{order_of}
use Rattle.pm_shadow.proofs.BlankLemmas.{blank_made, shut_made}
use Rattle.pm_shadow.proofs.making.write_store.Goals as goal

pub returns-in-Ok-clause-blank : goal.returns-in-Ok-clause-blank
returns-in-Ok-clause-blank g c bytes told none =
    let z = c.deref-2.ensures.value in
    let f = c.deref-3.ensures.value in
    let s = c.deref-4.ensures.value in
    let pages = λ (was : List ℕ). with_gate 0 open_gate (written (place_of 2) c.deref-4.result.now (written (place_of 1) c.deref-3.result.now (written 0 c.deref-2.result.now was))) in
    c.in-Ok.ensures.written ∙ ap (option_map pages) told
    ∙ ap Some (blank_made bytes c.deref-2.result.now c.deref-3.result.now c.deref-4.result.now none
    (z ∙ c.in_ok-zeroth.ensures.items) (f ∙ c.in_ok-first.ensures.items) (s ∙ c.in_ok-second.ensures.items)
    (ap length z ∙ c.in_ok-zeroth.ensures.len) (ap length f ∙ c.in_ok-first.ensures.len) (ap length s ∙ c.in_ok-second.ensures.len))

pub returns-in-Ok-clause-order : goal.returns-in-Ok-clause-order
returns-in-Ok-clause-order g c bytes told none =
    let z = c.deref-2.ensures.value in
    let f = c.deref-3.ensures.value in
    let s = c.deref-4.ensures.value in
    order_of g.D.Disk (written (place_of 2) c.deref-4.result.now (written (place_of 1) c.deref-3.result.now (written 0 c.deref-2.result.now bytes))) shut_store c.args.disk.now c.write_pages.new.disk
    (shut_made bytes c.deref-2.result.now c.deref-3.result.now c.deref-4.result.now none
    (z ∙ c.in_ok-zeroth.ensures.items) (f ∙ c.in_ok-first.ensures.items) (s ∙ c.in_ok-second.ensures.items)
    (ap length z ∙ c.in_ok-zeroth.ensures.len) (ap length f ∙ c.in_ok-first.ensures.len) (ap length s ∙ c.in_ok-second.ensures.len))
    (c.write_pages.ensures.order bytes told)

pub returns-clause-order : goal.returns-clause-order
returns-clause-order g c bytes told none =
    let z = c.deref-2.ensures.value in
    let f = c.deref-3.ensures.value in
    let s = c.deref-4.ensures.value in
    order_of g.D.Disk (written (place_of 2) c.deref-4.result.now (written (place_of 1) c.deref-3.result.now (written 0 c.deref-2.result.now bytes))) shut_store c.args.disk.now c.write_pages.new.disk
    (shut_made bytes c.deref-2.result.now c.deref-3.result.now c.deref-4.result.now none
    (z ∙ c.in_ok-zeroth.ensures.items) (f ∙ c.in_ok-first.ensures.items) (s ∙ c.in_ok-second.ensures.items)
    (ap length z ∙ c.in_ok-zeroth.ensures.len) (ap length f ∙ c.in_ok-first.ensures.len) (ap length s ∙ c.in_ok-second.ensures.len))
    (c.write_pages.ensures.order bytes told)
