-- Closing the other gate, and publishing beside the pages.
use Rattle.std.proofs.Common.{◌≡◌, ◌⊎◌, inl, inr, ⊎_elim, ℕ, ◌+◌, ◌*◌, ◌≤◌, Bool, true, false, if◌then◌else◌, List, [], ◌∷◌, length, Option, Some, option_map, refl, sym, ap, ◌∙◌, subst, arith}
use Rattle.pm_types.specs.declared.limits.TheConstants.{PAGE_BYTES}
use Rattle.pm_layout.specs.declared.header.Header.{Header}
use Rattle.pm_layout.specs.Headers.{header_spelling}
use Rattle.pm_disk.specs.Disk.{IfTold}
use Rattle.pm_disk.specs.Writes.{Torn}
use Rattle.pm_disk.proofs.WriteLemmas.{torn_written}
use Rattle.pm_image.specs.Opening.{gate_place, open_gate, page_count, page_of}
use Rattle.pm_shadow.specs.State.{State, other}
use Rattle.pm_shadow.specs.Images.{Holds, Renews, place_of, with_gate, with_header, with_shut_gate}
use Rattle.pm_shadow.proofs.PageLemmas.{aside, page_stays}
use Rattle.pm_shadow.proofs.SlotLemmas.{count_le}
use Rattle.pm_save.specs.Writer.Settling.{ClosesFrom, PublishesFrom, StaysBesidePage}
use Rattle.pm_save.proofs.WriterLemmas.RunLemmas.{map_none, told_before, told_once}

-- a write within one page leaves the others
within_page : (page at m : ℕ) (was now : List ℕ) → place_of page ≤ at → at + m ≤ place_of page + PAGE_BYTES → Torn at m was now → StaysBesidePage page was now
within_page page at m was now low high torn = record {
  longer = count_le was now torn.no_shorter;
  same = λ other below apart. page_stays at m was now torn other below (⊎_elim
      (λ (before : PAGE_BYTES * other + PAGE_BYTES ≤ place_of page). inl (omega (arith, before, low)))
      (λ (behind : place_of page + PAGE_BYTES ≤ PAGE_BYTES * other). inr (omega (arith, behind, high)))
      (aside page other apart));
}

same_page : (page : ℕ) (a b : List ℕ) → a ≡ b → StaysBesidePage page a b
same_page page a b is = record {
  longer = subst (λ (bytes : List ℕ). page_count a ≤ page_count bytes) is (omega arith);
  same = λ other low apart. ap (λ (bytes : List ℕ). page_of bytes other) (sym is);
}

beside_then : (page : ℕ) (a b c : List ℕ) → StaysBesidePage page a b → StaysBesidePage page b c → StaysBesidePage page a c
beside_then page a b c one two = record {
  longer = let first = one.longer in let second = two.longer in omega (arith, first, second);
  same = λ other low apart. let first = one.longer in two.same other (omega (arith, low, first)) apart ∙ one.same other low apart;
}

pub gate_beside : (slot byte : ℕ) (was : List ℕ) → StaysBesidePage slot was (with_gate slot byte was)
gate_beside slot byte was = within_page slot (gate_place slot) 1 was (with_gate slot byte was) (omega arith) (omega arith) (torn_written (gate_place slot) (byte ∷ []) was)

pub header_beside : (slot : ℕ) (header : Header) (was : List ℕ) → length (header_spelling header) ≡ 96 → StaysBesidePage slot was (with_header slot header was)
header_beside slot header was len =
    within_page slot (place_of slot) (length (header_spelling header)) was (with_header slot header was) (omega arith) (omega (arith, len)) (torn_written (place_of slot) (header_spelling header) was)

either : (b : Bool) → (b ≡ true) ⊎ (b ≡ false)
either true = inl refl
either false = inr refl

pub closes_by : {D : Type 0} (contents : D → Option (List ℕ)) (s : State) (old new : D) → (s.closed ≡ true → new ≡ old) → (s.closed ≡ false → contents new ≡ option_map (with_gate (other s.slot) 0) (contents old))
    → IfTold (contents old) (λ before. IfTold (contents new) (Holds s before)) → IfTold (contents new) (ClosesFrom s (contents old))
closes_by contents s old new still wrote holds after now =
    ⊎_elim
    (λ (closed : s.closed ≡ true).
    let was : contents old ≡ Some after = ap contents (sym (still closed)) ∙ now in
    (after, was, holds after was after now, same_page (other s.slot) after after refl))
    (λ (open_ : s.closed ≡ false).
    let before = told_before (with_gate (other s.slot) 0) (contents old) (contents new) after (wrote open_) now in
    let put : after ≡ with_gate (other s.slot) 0 before.0 = told_once (contents new) after (with_gate (other s.slot) 0 before.0) now (wrote open_ ∙ ap (option_map (with_gate (other s.slot) 0)) before.1) in
    (before.0, before.1, holds before.0 before.1 after now, subst (StaysBesidePage (other s.slot) before.0) (sym put) (gate_beside (other s.slot) 0 before.0)))
    (either s.closed)

-- the gate is written only where it is open
pub shut_by : {D : Type 0} (contents : D → Option (List ℕ)) (s : State) (old new : D) → (s.closed ≡ true → new ≡ old) → (s.closed ≡ false → contents new ≡ option_map (with_gate (other s.slot) 0) (contents old))
    → contents new ≡ option_map (with_shut_gate s) (contents old)
shut_by contents s old new still wrote =
    ⊎_elim
    (λ (closed : s.closed ≡ true).
    ap contents (still closed) ∙ map_none (contents old) ∙ (λ i. option_map (λ (bytes : List ℕ). if sym closed i then bytes else with_gate (other s.slot) 0 bytes) (contents old)))
    (λ (open_ : s.closed ≡ false).
    wrote open_ ∙ (λ i. option_map (λ (bytes : List ℕ). if sym open_ i then bytes else with_gate (other s.slot) 0 bytes) (contents old)))
    (either s.closed)

pub publishes_by : {D : Type 0} (contents : D → Option (List ℕ)) (s : State) (header : Header) (old new : D) → length (header_spelling header) ≡ 96
    → contents new ≡ option_map (λ told. with_gate (other s.slot) open_gate (with_header (other s.slot) header told)) (contents old) → IfTold (contents old) (λ told. IfTold (contents new) (Renews s header told))
    → IfTold (contents new) (PublishesFrom s header (contents old))
publishes_by contents s header old new len wrote renews after now =
    let write : List ℕ → List ℕ = λ told. with_gate (other s.slot) open_gate (with_header (other s.slot) header told) in
    let before = told_before write (contents old) (contents new) after wrote now in
    let put : after ≡ write before.0 = told_once (contents new) after (write before.0) now (wrote ∙ ap (option_map write) before.1) in (
      before.0,
      before.1,
      renews before.0 before.1 after now,
      subst (StaysBesidePage (other s.slot) before.0) (sym put)
          (beside_then (other s.slot) before.0 (with_header (other s.slot) header before.0) (write before.0) (header_beside (other s.slot) header before.0 len) (gate_beside (other s.slot) open_gate (with_header (other s.slot) header before.0))),
    )
