-- Parts of a buffer.
use Rattle.std.proofs.Common.{◌≡◌, ℕ, ◌+◌, ◌-◌, ◌<◌, ◌≤◌, List, [], ◌++◌, length, take, drop, Option, Some, sym, ap, ◌∙◌, arith, length-drop}
use Rattle.std.proofs.lemmas.List.{append-nil, drop-drop, drop-take, drop_all, drop_at, length-take, length-take-le, take-append-drop, take-take}
use Rattle.std.proofs.lemmas.Slice.{between_is}
use borrow.Rule.Slice.PartMut.{put_mid, post_of}
use Rattle.std.proofs.Math.Seq.{take-add}
use Rattle.std.specs.List.{slice_range}
use Rattle.pm_io.specs.Streams.{TakesFront}
use Rattle.pm_peer.specs.declared.said.Said.{Said}
use Rattle.pm_peer.specs.declared.buffer.TheConstants.{BUFFER_BYTES}
use Rattle.pm_peer.specs.Talk.{heard_more}
use Rattle.pm_peer.specs.Buffers.{HearsPiece}

-- how long a part is
pub length_part : (xs : List ℕ) (from to : ℕ) → from ≤ to → to ≤ length xs → length (slice_range xs from to) ≡ to - from
length_part xs from to order inside = omega (arith, length-take (to - from) (drop from xs), length-drop from xs)

from_there : (from at : ℕ) → at ≡ from + at - from
from_there from at = omega arith

-- the front of a part
pub front_part : (xs : List ℕ) (from to at : ℕ) → at ≤ to - from → take at (slice_range xs from to) ≡ slice_range xs from (from + at)
front_part xs from to at within = take-take at (to - from) (drop from xs) within ∙ ap (λ n. take n (drop from xs)) (from_there from at)

in_two : (from to at : ℕ) → at ≤ to - from → to - from ≡ at + (to - (from + at))
in_two from to at within = omega arith

-- the rest of a part
pub rest_part : (xs : List ℕ) (from to at : ℕ) → at ≤ to - from → drop at (slice_range xs from to) ≡ slice_range xs (from + at) to
rest_part xs from to at within =
    ap (λ n. drop at (take n (drop from xs))) (in_two from to at within) ∙ drop-take at (to - (from + at)) (drop from xs) ∙ ap (λ ys. take (to - (from + at)) ys) (drop-drop at from xs)

none_between : (from to : ℕ) → to ≤ from → to - from ≡ 0
none_between from to none = omega arith

-- no part
pub empty_part : (xs : List ℕ) (from to : ℕ) → to ≤ from → slice_range xs from to ≡ []
empty_part xs from to none = ap (λ n. take n (drop from xs)) (none_between from to none)

more_between : (from to n : ℕ) → from ≤ to → to + n - from ≡ to - from + n
more_between from to n order = omega (arith, order)

up_to : (from to : ℕ) → from ≤ to → from + (to - from) ≡ to
up_to from to order = omega (arith, order)

-- a part that has grown by what was put behind it
pub grown_part : (xs ys : List ℕ) (from to n : ℕ) → from ≤ to → take to ys ≡ take to xs → slice_range ys from (to + n) ≡ slice_range xs from to ++ take n (drop to ys)
grown_part xs ys from to n order same =
    ap (λ k. take k (drop from ys)) (more_between from to n order) ∙ take-add (to - from) n (drop from ys)
    ∙ ap (λ zs. zs ++ take n (drop (to - from) (drop from ys))) (between_is ys from to ∙ ap (λ zs. drop from zs) same ∙ sym (between_is xs from to))
    ∙ ap (λ zs. slice_range xs from to ++ take n zs) (drop-drop (to - from) from ys ∙ ap (λ k. drop k ys) (up_to from to order))

-- what was written to the end of a slice stands there
pub behind_mid : (xs ys : List ℕ) (to : ℕ) → to ≤ length xs → drop to (put_mid to (length xs - to) xs ys) ≡ ys
behind_mid xs ys to within =
    drop_at (take to xs) (ys ++ post_of to (length xs - to) xs) to (length-take-le to xs within)
    ∙ ap (λ zs. ys ++ zs) (drop_all (length xs - to) (drop to xs) (omega (arith, length-drop to xs))) ∙ append-nil ys

-- a piece that was heard behind a part
pub piece_heard : (xs held ys line : List ℕ) (from to n : ℕ) (left new_left : Option (List ℕ)) (talk new_talk : Option (List Said)) → held ≡ xs → from ≤ to → to ≤ BUFFER_BYTES → length held ≡ BUFFER_BYTES → length ys ≡ BUFFER_BYTES
    → take to ys ≡ take to held → n ≤ length held - to → ((bytes : List ℕ) → left ≡ Some bytes → TakesFront bytes n (drop to ys) new_left) → ((bytes : List ℕ) → left ≡ Some bytes → n ≡ 0 → 0 < length held - to → bytes ≡ [])
    → ((before : List Said) → talk ≡ Some before → new_talk ≡ Some (heard_more before (take n (drop to ys))))
    → HearsPiece n (record { kept = slice_range xs from to; line = line; room = BUFFER_BYTES - to }) (record { kept = slice_range ys from (to + n); line = slice_range ys 0 0; room = BUFFER_BYTES - (to + n) }) left new_left talk new_talk
piece_heard xs held ys line from to n left new_left talk new_talk is order within size new_size front fits taken end said = record {
  piece = take n (drop to ys);
  count = omega (arith, length-take n (drop to ys), length-drop to ys, size, new_size, fits);
  fits = omega (arith, size, fits);
  kept = grown_part xs ys from to n order (front ∙ ap (λ zs. take to zs) is);
  no_line = empty_part ys 0 0 (omega arith);
  room = omega (arith, fits, size);
  said = said;
  front = λ bytes told. let it = taken bytes told in (drop n bytes, sym (take-append-drop n bytes) ∙ ap (λ piece. piece ++ drop n bytes) (sym it.moved), it.rest);
  end = λ bytes told none room. end bytes told none (omega (arith, room, size));
}
