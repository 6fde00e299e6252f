-- A piece that was put behind what is gathered, and pieces one behind another.
use Rattle.std.proofs.Common.{subst, ◌≡◌, ℕ, ◌+◌, ◌≤◌, arith, List, [], ◌++◌, length, take, Option, Some, ap, sym, ◌∙◌, append_assoc}
use Rattle.std.proofs.Math.Nat.{min-le_right}
use Rattle.std.proofs.Math.Seq.{take-append-add}
use Rattle.std.proofs.lemmas.List.{append-nil, length-append, length-take, length-take-le, take-append-le}
use Rattle.pm_io.specs.Streams.{AppendsPart}
use Rattle.pm_script.specs.declared.reply.TheConstants.{REPLY_BYTES}
use Rattle.pm_serial.specs.declared.output.output.Output.{Output}
use Rattle.pm_serial.specs.declared.output.output.TheConstants.{BUFFER_BYTES}
use Rattle.pm_serial.specs.Output.Gathered.{gathered}
use Rattle.pm_serial.specs.Output.Writing.{GoesOn, IsNear, PutsPart}

no_longer : (n : ℕ) (free piece : List ℕ) → take n free ≡ piece → n ≡ length piece → n ≤ length free
no_longer n free piece is len = subst (λ (m : ℕ). m ≤ length free) (sym (length-take n free) ∙ ap length is ∙ sym len) (min-le_right n (length free))

-- the piece was written over the front of what was free behind what is gathered
pub gathered_on : (used n : ℕ) (bytes slice free rest piece : List ℕ) → slice ≡ bytes → used ≤ length bytes → take n free ≡ piece → n ≡ length piece → take (used + n) (take used slice ++ (free ++ rest)) ≡ take used bytes ++ piece
gathered_on used n bytes slice free rest piece same within is len =
    ap (λ (all : List ℕ). take (used + n) (take used all ++ (free ++ rest))) same
    ∙ ap (λ (at : ℕ). take (at + n) (take used bytes ++ (free ++ rest))) (sym (length-take-le used bytes within))
    ∙ take-append-add (take used bytes) (free ++ rest) n
    ∙ ap (λ (more : List ℕ). take used bytes ++ more) (take-append-le n free rest (no_longer n free piece is len) ∙ is)

-- the same of all bytes, of which a slice was lent for it
pub gathered_in : (used n : ℕ) (all slice before bytes piece : List ℕ) → all ≡ slice → before ≡ bytes → take n slice ≡ take used before ++ piece → take n all ≡ take used bytes ++ piece
gathered_in used n all slice before bytes piece is was text = ap (take n) is ∙ text ∙ ap (λ (some : List ℕ). take used some ++ piece) was

-- what is gathered grew by the piece
pub goes_on : (piece : List ℕ) (told now : Option (List ℕ)) (gathered mid later : List ℕ) → GoesOn [] told now gathered mid → later ≡ mid ++ piece → GoesOn piece told now gathered later
goes_on piece told now gathered mid later on is bytes known =
    let divided = on bytes known in
    record {
      done = divided.done;
      put = divided.put;
      rest = ap (λ (more : List ℕ). divided.done ++ more) is ∙ sym (append_assoc divided.done mid piece) ∙ ap (λ (text : List ℕ). text ++ piece) (divided.rest ∙ append-nil gathered);
    }

-- nothing was put behind what stood there
pub empty_piece : (told : Option (List ℕ)) (gathered : List ℕ) → GoesOn [] told told gathered gathered
empty_piece told gathered bytes known = record { done = []; put = known ∙ ap Some (sym (append-nil bytes)); rest = sym (append-nil gathered) }

-- a first part of the one is a first part of both
longer_part : (bytes one two : List ℕ) (now : Option (List ℕ)) → AppendsPart bytes one now → AppendsPart bytes (one ++ two) now
longer_part bytes one two now some =
    let within = some.within in
    let both = length-append one two in
    record {
      part = some.part;
      within = omega (arith, within, both);
      appended = some.appended ∙ ap (λ (more : List ℕ). Some (bytes ++ more)) (sym (take-append-le some.part one two within));
    }

-- what was put in two parts
pub part_behind : (bytes done more whole : List ℕ) (now : Option (List ℕ)) → done ++ more ≡ whole → AppendsPart (bytes ++ done) more now → AppendsPart bytes whole now
part_behind bytes done more whole now is some =
    let within = some.within in
    let both : length whole ≡ length done + length more = sym (ap length is) ∙ length-append done more in
    record {
      part = length done + some.part;
      within = omega (arith, within, both);
      appended =
          some.appended ∙ ap Some (append_assoc bytes done (take some.part more)
          ∙ ap (λ (rest : List ℕ). bytes ++ rest) (sym (take-append-add done more some.part) ∙ ap (take (length done + some.part)) is));
    }

-- what is gathered behind the part that was put, with a piece behind it
divided_then : (gathered done between one two : List ℕ) → done ++ between ≡ gathered ++ one → done ++ (between ++ two) ≡ gathered ++ (one ++ two)
divided_then gathered done between one two is =
    sym (append_assoc done between two) ∙ ap (λ (more : List ℕ). more ++ two) is ∙ append_assoc gathered one two

-- one piece was added behind another
pub goes_then : (one two : List ℕ) (told mid now : Option (List ℕ)) (gathered between later : List ℕ) → GoesOn one told mid gathered between → GoesOn two mid now between later → GoesOn (one ++ two) told now gathered later
goes_then one two told mid now gathered between later first second bytes known =
    let was = first bytes known in
    let then = second (bytes ++ was.done) was.put in
    record {
      done = was.done ++ then.done;
      put = then.put ∙ ap Some (append_assoc bytes was.done then.done);
      rest = append_assoc was.done then.done later ∙ ap (λ (more : List ℕ). was.done ++ more) then.rest ∙ divided_then gathered was.done between one two was.rest;
    }

-- the sink failed behind a piece that was added
pub part_then : (one two : List ℕ) (told mid now : Option (List ℕ)) (gathered between : List ℕ) → GoesOn one told mid gathered between → PutsPart mid now (between ++ two) → PutsPart told now (gathered ++ (one ++ two))
part_then one two told mid now gathered between first second bytes known =
    let was = first bytes known in
    part_behind bytes was.done (between ++ two) (gathered ++ (one ++ two)) now
    (divided_then gathered was.done between one two was.rest) (second (bytes ++ was.done) was.put)

-- a first part of what is gathered is one of that with a piece behind it
pub part_longer : (piece : List ℕ) (told now : Option (List ℕ)) (gathered : List ℕ) → PutsPart told now gathered → PutsPart told now (gathered ++ piece)
part_longer piece told now gathered some bytes known = longer_part bytes gathered piece now (some bytes known)

-- ---- what is missing

-- a text that is no longer than that is near, whatever was put of it
pub near_part : (text : List ℕ) (told now : Option (List ℕ)) → length text ≤ BUFFER_BYTES + REPLY_BYTES → PutsPart told now text → IsNear told now text
near_part text told now short some bytes all known is =
    let part = some bytes known in
    let same : ◌≡◌ {A = Option (List ℕ)} (Some (bytes ++ take part.part text)) (Some all) = sym part.appended ∙ is in
    let is_all : bytes ++ take part.part text ≡ all = cc same in
    let long : length all ≡ length bytes + length (take part.part text) = sym (ap length is_all) ∙ length-append bytes (take part.part text) in
    let both = length-append bytes text in
    omega (arith, short, long, both)

-- and so is one whose end is near, behind what was put
pub near_behind : (piece : List ℕ) (told mid now : Option (List ℕ)) (gathered later : List ℕ) → GoesOn piece told mid gathered later → IsNear mid now later → IsNear told now (gathered ++ piece)
near_behind piece told mid now gathered later on behind bytes all known is =
    let was = on bytes known in
    let near = behind (bytes ++ was.done) all was.put is in
    let one = length-append (bytes ++ was.done) later in
    let two = length-append bytes was.done in
    let three : length was.done + length later ≡ length (gathered ++ piece) = sym (length-append was.done later) ∙ ap length was.rest in
    let four = length-append bytes (gathered ++ piece) in
    omega (arith, near, one, two, three, four)

-- no more is gathered than the buffer has room for
pub gathered_within : (it : Output) → length (gathered it) ≤ BUFFER_BYTES
gathered_within it = let within = it.within in let long = length-take it.used it.bytes.items in omega (arith, within, long)

-- that and a reply line
pub gathered_line : (it : Output) (line : List ℕ) → length line ≤ REPLY_BYTES → length (gathered it ++ line) ≤ BUFFER_BYTES + REPLY_BYTES
gathered_line it line short = let some = gathered_within it in let both = length-append (gathered it) line in omega (arith, short, some, both)
