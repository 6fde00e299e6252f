-- What is read is a header spelled so, and what is spelled so is read.
use Rattle.std.proofs.Common.{◌≡◌, ℕ, ◌+◌, ◌<◌, ◌≤◌, ◌^◌, Bool, true, false, cond, eqb, ltb, ◌||◌, List, [], ◌++◌, length, take, drop, Result, Ok, Err, refl, sym, ap, subst, ◌∙◌, arith, length-drop, length-append}
use Rattle.std.specs.List.{slice_range}
use Rattle.std.specs.Prelude.{IfOk}
use Rattle.std.specs.Str.{bytes_eq}
use Rattle.std.proofs.lemmas.Bool.{eqb-true, ltb-false, le-ltb}
use Rattle.std.proofs.lemmas.List.{append-nil, drop_all, take_at, take_all, take-append-drop}
use Rattle.std.proofs.lemmas.Slice.Eq.{bytes_eq-Decides}
use Rattle.byteorder.specs.Endian.{big_bytes}
use Rattle.sha2.specs.Sha256.{sha256}
use Rattle.sha2.proofs.Facts256.{length-sha256}
use Rattle.pm_layout.specs.declared.header.Header.{Header}
use Rattle.pm_layout.specs.declared.header.HeaderFault.{HeaderFault}
use Rattle.pm_layout.specs.declared.header.HeaderFault.TheVariants.{Magic, Version, Digest, Next}
use Rattle.pm_layout.specs.Spelling.{Stands}
use Rattle.pm_types.specs.Results.{◌>>=◌}
use Rattle.pm_layout.specs.Reading.{number_from}
use Rattle.pm_layout.specs.Headers.{HasHeaderSpelling, IsHeaderInRange, magic, header_numbers, header_body, header_spelling, magic_at, is_version, version_at, digest_kept, next_at, header_at}
use Rattle.pm_layout.proofs.Steps.{holds, passes, neither, not_zero, other_than_zero}
use Rattle.pm_types.proofs.Results.{bind_ok, ok_same, if_ok, wanted_ok}
use Rattle.pm_layout.proofs.Numbers.{IsBytes, wide_4, wide_8}
use Rattle.pm_layout.proofs.Texts.{Stands-then, Stands-split, Stands-end, number_stands, number_is, between_stands}

-- ---- what is read is spelled so

magic_takes : (bytes : List ℕ) (u : Unit {0}) → magic_at bytes ≡ Ok u → take 8 bytes ≡ magic
unfolding magic_at
magic_takes bytes u read =
    let g = wanted_ok (bytes_eq (take 8 bytes) magic) Magic (Ok tt) u read in
    (bytes_eq-Decides (take 8 bytes) magic).0 g.0

version_takes : (bytes : List ℕ) (v : ℕ) → version_at bytes ≡ Ok v → (number_from 4 bytes 8 ≡ v) × (is_version v ≡ true)
unfolding version_at
version_takes bytes v read =
    let n = number_from 4 bytes 8 in
    let g = wanted_ok (is_version n) (Version n) (Ok n) v read in
    let P : ℕ → Type 0 = λ k. (n ≡ k) × (is_version k ≡ true) in
    subst P (ok_same n v g.1) (refl, g.0)

digest_takes : (bytes : List ℕ) (u : Unit {0}) → digest_kept bytes ≡ Ok u → slice_range bytes 64 96 ≡ sha256 (take 64 bytes)
unfolding digest_kept
digest_takes bytes u read =
    let kept = slice_range bytes 64 96 in
    let found = sha256 (take 64 bytes) in
    let g = wanted_ok (bytes_eq kept found) (Digest kept found) (Ok tt) u read in
    (bytes_eq-Decides kept found).0 g.0

next_takes : (bytes : List ℕ) (n : ℕ) → next_at bytes ≡ Ok n → (number_from 8 bytes 16 ≡ n) × (0 < n) × (n ≤ 4294967296)
unfolding next_at
next_takes bytes n read =
    let m = number_from 8 bytes 16 in
    let g = if_ok (eqb m 0 || ltb 4294967296 m) Next (Ok m) n read in
    let both = neither (eqb m 0) (ltb 4294967296 m) g.0 in
    let P : ℕ → Type 0 = λ k. (m ≡ k) × (0 < k) × (k ≤ 4294967296) in
    subst P (ok_same m n g.1) (refl, not_zero m both.0, ltb-false 4294967296 m both.1)

-- the header whose numbers and digest stand in the bytes
abbrev header_of : List ℕ → ℕ → ℕ → Header
header_of bytes version next = record { version = version; epoch = number_from 4 bytes 12; next = next; first = number_from 8 bytes 24; digest = slice_range bytes 32 64 }

body_stands : (bytes : List ℕ) (version next : ℕ) → length bytes ≡ 96 → IsBytes bytes → take 8 bytes ≡ magic → number_from 4 bytes 8 ≡ version → number_from 8 bytes 16 ≡ next → Stands bytes 0 (header_body (header_of bytes version next)) 64
unfolding header_body header_numbers
body_stands bytes version next len fits is_magic version_is next_is =
    let epoch = number_from 4 bytes 12 in
    let first = number_from 8 bytes 24 in
    let kept = slice_range bytes 32 64 in
    let s0 : Stands bytes 0 magic 8 = record { inside = omega arith; parts = sym (take-append-drop 8 bytes) ∙ ap (λ (t : List ℕ). t ++ drop 8 bytes) is_magic } in
    let s1 : Stands bytes 8 (big_bytes 4 version) 12 = subst (λ (k : ℕ). Stands bytes 8 (big_bytes 4 k) 12) version_is (number_stands 4 wide_4 bytes 8 12 refl (omega arith) fits) in
    let s2 = number_stands 4 wide_4 bytes 12 16 refl (omega arith) fits in
    let s3 : Stands bytes 16 (big_bytes 8 next) 24 = subst (λ (k : ℕ). Stands bytes 16 (big_bytes 8 k) 24) next_is (number_stands 8 wide_8 bytes 16 24 refl (omega arith) fits) in
    let s4 = number_stands 8 wide_8 bytes 24 32 refl (omega arith) fits in
    let s5 = between_stands bytes 32 64 (omega arith) (omega arith) in
    let a = Stands-then bytes (big_bytes 4 version) (big_bytes 4 epoch) 8 12 16 s1 s2 in
    let b = Stands-then bytes (big_bytes 8 next) (big_bytes 8 first) 16 24 32 s3 s4 in
    let c = Stands-then bytes (big_bytes 4 version ++ big_bytes 4 epoch) (big_bytes 8 next ++ big_bytes 8 first) 8 16 32 a b in
    let d = Stands-then bytes ((big_bytes 4 version ++ big_bytes 4 epoch) ++ (big_bytes 8 next ++ big_bytes 8 first)) kept 8 32 64 c s5 in
    Stands-then bytes magic (((big_bytes 4 version ++ big_bytes 4 epoch) ++ (big_bytes 8 next ++ big_bytes 8 first)) ++ kept) 0 8 64 s0 d

-- bytes that begin with a body and go on with its digest are the spelling
whole_spelling : (bytes : List ℕ) (h : Header) → length bytes ≡ 96 → Stands bytes 0 (header_body h) 64 → slice_range bytes 64 96 ≡ sha256 (take 64 bytes) → bytes ≡ header_spelling h
unfolding header_spelling
whole_spelling bytes h len body kept =
    let long : 0 + length (header_body h) ≡ 64 = Stands-end bytes (header_body h) 0 64 (omega arith) body in
    let front : take 64 bytes ≡ header_body h = ap (λ (t : List ℕ). take 64 t) body.parts ∙ take_at (header_body h) (drop 64 bytes) 64 (omega arith) in
    let back : drop 64 bytes ≡ slice_range bytes 64 96 = sym (take_all 32 (drop 64 bytes) (omega (arith, length-drop 64 bytes))) in
    body.parts ∙ ap (λ (t : List ℕ). header_body h ++ t) (back ∙ kept ∙ ap (λ (t : List ℕ). sha256 t) front)

header_takes : (bytes : List ℕ) (h : Header) → length bytes ≡ 96 → IsBytes bytes → header_at bytes ≡ Ok h → HasHeaderSpelling h × (bytes ≡ header_spelling h)
unfolding header_at
header_takes bytes h len fits read =
    let a = bind_ok (magic_at bytes) (λ u. version_at bytes >>= λ version. digest_kept bytes >>= λ v. next_at bytes >>= λ next. Ok (header_of bytes version next)) h read in
    let b = bind_ok (version_at bytes) (λ version. digest_kept bytes >>= λ v. next_at bytes >>= λ next. Ok (header_of bytes version next)) h a.2 in
    let c = bind_ok (digest_kept bytes) (λ v. next_at bytes >>= λ next. Ok (header_of bytes b.0 next)) h b.2 in
    let d = bind_ok (next_at bytes) (λ next. Ok (header_of bytes b.0 next)) h c.2 in
    let version = version_takes bytes b.0 b.1 in
    let next = next_takes bytes d.0 d.1 in
    let body = body_stands bytes b.0 d.0 len fits (magic_takes bytes a.0 a.1) version.0 next.0 in
    let whole = whole_spelling bytes (header_of bytes b.0 d.0) len body (digest_takes bytes c.0 c.1) in
    let P : Header → Type 0 = λ x. HasHeaderSpelling x × (bytes ≡ header_spelling x) in
    subst P {x = header_of bytes b.0 d.0} (ok_same (header_of bytes b.0 d.0) h d.2) (record { version = version.1; some = next.1; last = next.2 }, whole)

-- what was answered is spelled so
pub header_found : (bytes : List ℕ) (r : Result Header HeaderFault) → length bytes ≡ 96 → IsBytes bytes → r ≡ header_at bytes → IfOk r (λ h. HasHeaderSpelling h × (bytes ≡ header_spelling h))
header_found bytes (Ok h) len fits given = header_takes bytes h len fits (sym given)
header_found bytes (Err e) len fits given = tt

-- ---- what is spelled so is read

same_bytes : (xs ys : List ℕ) → xs ≡ ys → bytes_eq xs ys ≡ true
same_bytes xs ys e = (bytes_eq-Decides xs ys).1 e

magic_again : (bytes : List ℕ) → take 8 bytes ≡ magic → magic_at bytes ≡ Ok tt
unfolding magic_at
magic_again bytes e = holds (bytes_eq (take 8 bytes) magic) (Ok tt) (Err Magic) (same_bytes _ _ e)

version_again : (bytes : List ℕ) (v : ℕ) → number_from 4 bytes 8 ≡ v → is_version v ≡ true → version_at bytes ≡ Ok v
unfolding version_at
version_again bytes v e known =
    let decided : ℕ → Result ℕ HeaderFault = λ k. cond (is_version k) (Ok k) (Err (Version k)) in
    ap decided e ∙ holds (is_version v) (Ok v) (Err (Version v)) known

-- a version that is read is a number of four bytes
small_version : (v : ℕ) → is_version v ≡ true → v < 2 ^ 32
small_version v known = by_old (eqb v 1) refl known
  where
    by_old : (b : Bool) → eqb v 1 ≡ b → (b || eqb v 2) ≡ true → v < 2 ^ 32
    by_old true is known = let e = eqb-true v 1 is in omega arith
    by_old false is known = let e = eqb-true v 2 known in omega arith

digest_again : (bytes : List ℕ) → slice_range bytes 64 96 ≡ sha256 (take 64 bytes) → digest_kept bytes ≡ Ok tt
unfolding digest_kept
digest_again bytes e = holds (bytes_eq (slice_range bytes 64 96) (sha256 (take 64 bytes))) (Ok tt) (Err (Digest (slice_range bytes 64 96) (sha256 (take 64 bytes)))) (same_bytes _ _ e)

next_again : (bytes : List ℕ) (n : ℕ) → number_from 8 bytes 16 ≡ n → 0 < n → n ≤ 4294967296 → next_at bytes ≡ Ok n
unfolding next_at
next_again bytes n e low high =
    let decided : ℕ → Result ℕ HeaderFault = λ k. cond (eqb k 0 || ltb 4294967296 k) (Err Next) (Ok k) in
    let right : (eqb n 0 || ltb 4294967296 n) ≡ false = ap (λ (b : Bool). b || ltb 4294967296 n) (other_than_zero n low) ∙ le-ltb _ _ high in
    ap decided e ∙ passes (eqb n 0 || ltb 4294967296 n) (Err Next) (Ok n) right

body_length : (h : Header) → length h.digest ≡ 32 → length (header_body h) ≡ 64
unfolding header_body header_numbers
body_length h len = omega arith

pub spelled_length : (h : Header) → length h.digest ≡ 32 → length (header_spelling h) ≡ 96
unfolding header_spelling
spelled_length h len = omega (arith, length-append (header_body h) (sha256 (header_body h)), body_length h len, length-sha256 (header_body h))

pub header_again : (bytes : List ℕ) (h : Header) → HasHeaderSpelling h → IsHeaderInRange h → bytes ≡ header_spelling h → header_at bytes ≡ Ok h
unfolding header_at header_spelling header_body header_numbers
header_again bytes h fits range e =
    let len : length bytes ≡ 96 = ap length e ∙ spelled_length h range.digest in
    let versions = big_bytes 4 h.version ++ big_bytes 4 h.epoch in
    let places = big_bytes 8 h.next ++ big_bytes 8 h.first in
    let body = header_body h in
    let sum = sha256 body in
    let nothing : drop 96 bytes ≡ [] = drop_all 96 bytes (omega arith) in
    let s : Stands bytes 0 (body ++ sum) 96 = record { inside = omega arith; parts = e ∙ sym (append-nil (body ++ sum)) ∙ ap (λ (t : List ℕ). (body ++ sum) ++ t) (sym nothing) } in
    let halves = Stands-split bytes body sum 0 64 96 (omega arith) (omega (arith, body_length h range.digest)) s in
    let b0 = Stands-split bytes magic ((versions ++ places) ++ h.digest) 0 8 64 (omega arith) refl halves.first in
    let b1 = Stands-split bytes (versions ++ places) h.digest 8 32 64 (omega arith) (omega arith) b0.second in
    let b2 = Stands-split bytes versions places 8 16 32 (omega arith) (omega arith) b1.first in
    let v = Stands-split bytes (big_bytes 4 h.version) (big_bytes 4 h.epoch) 8 12 16 (omega arith) (omega arith) b2.first in
    let p = Stands-split bytes (big_bytes 8 h.next) (big_bytes 8 h.first) 16 24 32 (omega arith) (omega arith) b2.second in
    let is_magic : take 8 bytes ≡ magic = ap (λ (t : List ℕ). take 8 t) b0.first.parts ∙ take_at magic (drop 8 bytes) 8 refl in
    let version_is : number_from 4 bytes 8 ≡ h.version = number_is 4 bytes 8 12 h.version (small_version h.version fits.version) v.first in
    let epoch_is : number_from 4 bytes 12 ≡ h.epoch = number_is 4 bytes 12 16 h.epoch range.epoch v.second in
    let next_is : number_from 8 bytes 16 ≡ h.next = number_is 8 bytes 16 24 h.next (let top = fits.last in omega arith) p.first in
    let first_is : number_from 8 bytes 24 ≡ h.first = number_is 8 bytes 24 32 h.first range.first p.second in
    let digest_is : slice_range bytes 32 64 ≡ h.digest = ap (λ (t : List ℕ). take 32 t) b1.second.parts ∙ take_at h.digest (drop 64 bytes) 32 range.digest in
    let front : take 64 bytes ≡ body = ap (λ (t : List ℕ). take 64 t) halves.first.parts ∙ take_at body (drop 64 bytes) 64 (body_length h range.digest) in
    let kept : slice_range bytes 64 96 ≡ sum = ap (λ (t : List ℕ). take 32 t) halves.second.parts ∙ take_at sum (drop 96 bytes) 32 (length-sha256 body) in
    let whole : slice_range bytes 64 96 ≡ sha256 (take 64 bytes) = kept ∙ ap (λ (t : List ℕ). sha256 t) (sym front) in
    let made : ℕ → ℕ → List ℕ → ℕ → Result Header HeaderFault = λ epoch first kept version. Ok (record { version = version; epoch = epoch; next = h.next; first = first; digest = kept }) in
    rw (magic_again bytes is_magic, version_again bytes h.version version_is fits.version, digest_again bytes whole, next_again bytes h.next next_is fits.some fits.last)
    (ap (λ (k : ℕ). made k (number_from 8 bytes 24) (slice_range bytes 32 64) h.version) epoch_is ∙ ap (λ (k : ℕ). made h.epoch k (slice_range bytes 32 64) h.version) first_is
    ∙ ap (λ (t : List ℕ). made h.epoch h.first t h.version) digest_is)

-- steps that did not fail make the header
pub header_made : (bytes : List ℕ) (u w : Unit {0}) (version epoch next first : ℕ) (kept : List ℕ) → magic_at bytes ≡ Ok u → version_at bytes ≡ Ok version → digest_kept bytes ≡ Ok w → next_at bytes ≡ Ok next
    → number_from 4 bytes 12 ≡ epoch → number_from 8 bytes 24 ≡ first → slice_range bytes 32 64 ≡ kept → header_at bytes ≡ Ok (record { version = version; epoch = epoch; next = next; first = first; digest = kept })
unfolding header_at
header_made bytes u w version epoch next first kept e0 e1 e2 e3 epoch_is first_is kept_is =
    let made : ℕ → ℕ → List ℕ → Result Header HeaderFault = λ x y t. Ok (record { version = version; epoch = x; next = next; first = y; digest = t }) in
    rw (e0, e1, e2, e3) (ap (λ (x : ℕ). made x (number_from 8 bytes 24) (slice_range bytes 32 64)) epoch_is ∙ ap (λ (y : ℕ). made epoch y (slice_range bytes 32 64)) first_is ∙ ap (λ (t : List ℕ). made epoch first t) kept_is)
