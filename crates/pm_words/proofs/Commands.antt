-- Words ask for one thing at most.
use Rattle.std.proofs.Common.{◌≡◌, ℕ, ◌+◌, ◌*◌, List, [], ◌∷◌, length, refl, ap, ap₂, sym, ◌∙◌, arith, codes, cond, nat_eq}
use Rattle.std.proofs.lemmas.Fmt.{decimal_injective}
use Rattle.pm_words.specs.declared.asked.Asked.{Asked}
use Rattle.pm_words.specs.declared.asked.Asked.TheVariants.{Alone, Ship}
use Rattle.pm_words.specs.declared.command.Command.{Command}
use Rattle.pm_words.specs.declared.command.Command.TheVariants.{Init, Run, RunThreads, RunSeats, RunYoung, Inspect, Dump, Restore, Why, Make, Trial}
use Rattle.pm_words.specs.Words.{IsNumber, IsTurns, AreMake, AreTrial, AreShip, AreWhy, Spells, SpellsAlone, SpellsNoneAlone, SpellsNothing}

-- how many letters of a word follow its first one, and that letter
letters_of : List ℕ → ℕ
letters_of [] = 0
letters_of (letter ∷ letters) = length letters + 10 * letter

-- those of the first word, and of a run those of the third too
tag : List (List ℕ) → ℕ
tag [] = 0
tag (verb ∷ []) = letters_of verb
tag (verb ∷ file ∷ []) = letters_of verb
tag (verb ∷ file ∷ mode ∷ words) = letters_of verb + cond (nat_eq (letters_of verb) 1142) (10000 * letters_of mode) 0

tag_of : Command → ℕ
tag_of Init = 1053
tag_of Run = 11551142
tag_of RunThreads = 11661142
tag_of RunSeats = 11541142
tag_of RunYoung = 12141142
tag_of Inspect = 1056
tag_of Dump = 1003
tag_of Restore = 1146
tag_of (Why id) = 1192
tag_of (Make seed turns) = 1093
tag_of (Trial seed turns) = 1164

tagged : (words : List (List ℕ)) (command : Command) → SpellsAlone words command → tag words ≡ tag_of command
unfolding letters_of tag tag_of
tagged words Init are = ap tag are.are
tagged words Run are = ap tag are.are
tagged words RunThreads are = ap tag are.are
tagged words RunSeats are = ap tag are.are
tagged words RunYoung are = ap tag are.are
tagged words Inspect are = ap tag are.are
tagged words Dump are = ap tag are.are
tagged words Restore are = ap tag are.are
tagged words (Why id) are = ap tag are.are
tagged words (Make seed turns) are = ap tag are.are
tagged words (Trial seed turns) are = ap tag are.are

-- a word is one number at most, and one number of turns
pub one_number : (word : List ℕ) (a b : ℕ) → IsNumber word a → IsNumber word b → a ≡ b
one_number word a b is_a is_b = decimal_injective a b (let s = is_a.small in omega arith) (let s = is_b.small in omega arith) (sym is_a.spelled ∙ is_b.spelled)

one_turns : (word : List ℕ) (a b : ℕ) → IsTurns word a → IsTurns word b → a ≡ b
one_turns word a b is_a is_b = decimal_injective a b (let s = is_a.few in omega arith) (let s = is_b.few in omega arith) (sym is_a.spelled ∙ is_b.spelled)

pub number_of_turns : (word : List ℕ) (turns : ℕ) → IsTurns word turns → IsNumber word turns
number_of_turns word turns is = record { small = let few = is.few in omega arith; spelled = is.spelled }

number_same : (v w : List ℕ) (a b : ℕ) → IsNumber v a → IsNumber w b → v ≡ w → a ≡ b
number_same v w a b is_a is_b same = one_number v a b is_a (record { small = is_b.small; spelled = same ∙ is_b.spelled })

turns_same : (v w : List ℕ) (a b : ℕ) → IsTurns v a → IsTurns w b → v ≡ w → a ≡ b
turns_same v w a b is_a is_b same = one_turns v a b is_a (record { few = is_b.few; spelled = same ∙ is_b.spelled })

make_same : (words : List (List ℕ)) (s n t m : ℕ) → AreMake words s n → AreMake words t m → Make s n ≡ Make t m
make_same words s n t m a b =
    let same : codes "make" ∷ a.first ∷ a.second ∷ [] ≡ codes "make" ∷ b.first ∷ b.second ∷ [] = sym a.are ∙ b.are in
    let first : a.first ≡ b.first = cc same in
    let second : a.second ≡ b.second = cc same in
    ap₂ Make (number_same a.first b.first s t a.is_seed b.is_seed first) (turns_same a.second b.second n m a.is_turns b.is_turns second)

trial_same : (words : List (List ℕ)) (s n t m : ℕ) → AreTrial words s n → AreTrial words t m → Trial s n ≡ Trial t m
trial_same words s n t m a b =
    let same : codes "trial" ∷ a.file ∷ a.first ∷ a.second ∷ [] ≡ codes "trial" ∷ b.file ∷ b.first ∷ b.second ∷ [] = sym a.are ∙ b.are in
    let first : a.first ≡ b.first = cc same in
    let second : a.second ≡ b.second = cc same in
    ap₂ Trial (number_same a.first b.first s t a.is_seed b.is_seed first) (turns_same a.second b.second n m a.is_turns b.is_turns second)

why_same : (words : List (List ℕ)) (i j : ℕ) → AreWhy words i → AreWhy words j → Why i ≡ Why j
why_same words i j a b =
    let same : codes "why" ∷ a.file ∷ a.word ∷ [] ≡ codes "why" ∷ b.file ∷ b.word ∷ [] = sym a.are ∙ b.are in
    let word : a.word ≡ b.word = cc same in
    ap Why (number_same a.word b.word i j a.is_identity.is_number b.is_identity.is_number word)

one_command : (words : List (List ℕ)) (one other : Command) → SpellsAlone words one → SpellsAlone words other → one ≡ other
unfolding tag_of
one_command words Init Init a b = refl
one_command words Run Run a b = refl
one_command words RunThreads RunThreads a b = refl
one_command words RunSeats RunSeats a b = refl
one_command words RunYoung RunYoung a b = refl
one_command words Inspect Inspect a b = refl
one_command words Dump Dump a b = refl
one_command words Restore Restore a b = refl
one_command words (Why i) (Why j) a b = why_same words i j a b
one_command words (Make s n) (Make t m) a b = make_same words s n t m a b
one_command words (Trial s n) (Trial t m) a b = trial_same words s n t m a b
one_command words one other a b = let same : tag_of one ≡ tag_of other = sym (tagged words one a) ∙ tagged words other b in absurd (omega (arith, same))

tagged_ship : (words : List (List ℕ)) → AreShip words → tag words ≡ 1153
unfolding letters_of tag
tagged_ship words are = ap tag are.are

apart : (command : Command) → tag_of command ≡ 1153 → ⊥
unfolding tag_of
apart Init same = absurd (omega (arith, same))
apart Run same = absurd (omega (arith, same))
apart RunThreads same = absurd (omega (arith, same))
apart RunSeats same = absurd (omega (arith, same))
apart RunYoung same = absurd (omega (arith, same))
apart Inspect same = absurd (omega (arith, same))
apart Dump same = absurd (omega (arith, same))
apart Restore same = absurd (omega (arith, same))
apart (Why id) same = absurd (omega (arith, same))
apart (Make seed turns) same = absurd (omega (arith, same))
apart (Trial seed turns) same = absurd (omega (arith, same))

-- no command has the words of a ship
ship_apart : (words : List (List ℕ)) (command : Command) → SpellsAlone words command → AreShip words → ⊥
ship_apart words command a b = apart command (sym (tagged words command a) ∙ tagged_ship words b)

pub one_asked : (words : List (List ℕ)) (one other : Asked) → Spells words one → Spells words other → one ≡ other
one_asked words (Alone one) (Alone other) a b = ap Alone (one_command words one other a b)
one_asked words (Alone one) Ship a b = absurd (ship_apart words one a b)
one_asked words Ship (Alone other) a b = absurd (ship_apart words other b a)
one_asked words Ship Ship a b = refl

-- words that ask for no command and no ship ask for nothing
pub nothing_asked : (words : List (List ℕ)) → (AreShip words → ⊥) → SpellsNoneAlone words → SpellsNothing words
nothing_asked words no_ship none (Alone command) are = none command are
nothing_asked words no_ship none Ship are = no_ship are
