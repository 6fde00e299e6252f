-- How long reply lines are.
use Rattle.std.proofs.Common.{◌≡◌, ℕ, ◌+◌, ◌<◌, ◌≤◌, ◌^◌, List, ◌++◌, refl, arith, codes, decimal, length}
use Rattle.std.proofs.lemmas.List.{length-append}
use Rattle.pm_types.specs.Replies.{IsShortReply}
use Rattle.pm_types.specs.declared.entry.Entry.{Entry}
use Rattle.pm_types.specs.declared.reply.Reply.{Reply}
use Rattle.pm_types.specs.declared.reply.Reply.TheVariants.{Done, Ident, Null, Shown, Begun, Saved, Watching, TooLarge, IdsSpent, NoHandle, NoField, OutOfRange, TooManyRoots, NoRoot, Busy, SavesSpent, Idle, TooManyWatches, Dropped, Held}
use Rattle.pm_model.specs.Text.{reply_line, reply_words}
use Rattle.pm_script.proofs.TextLemmas.{client_long, number_short, pairs_short}
use Rattle.pm_serial.specs.Output.Numbers.{number_of}

-- words with a number behind them
numbered : (words : List ℕ) (number : ℕ) → length words ≤ 10 → number < 2 ^ 32 → length (words ++ decimal number) ≤ 8192
numbered words number few small = let digits = number_short number small in let both = length-append words (decimal number) in omega (arith, few, digits, both)

words_short : (reply : Reply) → number_of reply < 2 ^ 32 → IsShortReply reply → length (reply_words reply) ≤ 8192
words_short Done small short = omega arith
words_short (Ident number) small short = numbered (codes "ok ") number (omega arith) small
words_short Null small short = omega arith
words_short (Shown bytes) small short = pairs_short bytes short
words_short (Begun number) small short = numbered (codes "begun ") number (omega arith) small
words_short (Saved number) small short = numbered (codes "saved ") number (omega arith) small
words_short (Watching number) small short = numbered (codes "watching ") number (omega arith) small
words_short TooLarge small short = omega arith
words_short IdsSpent small short = omega arith
words_short NoHandle small short = omega arith
words_short NoField small short = omega arith
words_short OutOfRange small short = omega arith
words_short TooManyRoots small short = omega arith
words_short NoRoot small short = omega arith
words_short (Busy number) small short = numbered (codes "busy ") number (omega arith) small
words_short SavesSpent small short = omega arith
words_short Idle small short = omega arith
words_short TooManyWatches small short = omega arith
words_short (Dropped number) small short = numbered (codes "dropped ") number (omega arith) small
words_short (Held number) small short = numbered (codes "held ") number (omega arith) small

-- the line of an entry
pub line_short : (entry : Entry) → entry.client < 8 → number_of entry.reply < 2 ^ 32 → IsShortReply entry.reply → length (reply_line entry) ≤ 8195
line_short entry client small short =
    let first = client_long entry.client client in
    let words = words_short entry.reply small short in
    let front = decimal entry.client ++ codes " " in
    let one : length (reply_line entry) ≡ length (front ++ reply_words entry.reply) + length (codes "\n") = length-append (front ++ reply_words entry.reply) (codes "\n") in
    let two = length-append front (reply_words entry.reply) in
    let three = length-append (decimal entry.client) (codes " ") in
    let space : length (codes " ") ≡ 1 = refl in
    let newline : length (codes "\n") ≡ 1 = refl in
    omega (arith, first, words, one, two, three, space, newline)
