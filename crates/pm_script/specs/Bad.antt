-- Why bytes are no script: too many of them, too many lines, or the first bad line with its first cause.
use Rattle.std.specs.Prelude.{◌≡◌, ℕ, ◌+◌, ◌<◌, ◌≤◌, ◌⊎◌, true, false, List, ◌∷◌, ◌++◌, length}
use Rattle.pm_types.specs.declared.limits.TheConstants.{SCRIPT_LINES, SOURCE_BYTES}
use Rattle.pm_script.specs.declared.limits.TheConstants.{LINE_BYTES}
use Rattle.pm_script.specs.declared.fault.Cause.{Cause}
use Rattle.pm_script.specs.declared.fault.Cause.TheVariants as cause
use Rattle.pm_script.specs.declared.fault.ScriptFault.{ScriptFault}
use Rattle.pm_script.specs.declared.fault.ScriptFault.TheVariants as fault
use Rattle.pm_script.specs.declared.verb.Dialect.{Dialect}
use Rattle.pm_script.specs.declared.verb.Dialect.TheVariants as dialect
use Rattle.pm_script.specs.declared.verb.Verb.{Verb}
use Rattle.pm_script.specs.declared.verb.Kind.{Kind}
use Rattle.pm_script.specs.declared.verb.First.{First}
use Rattle.pm_script.specs.Lines.{lines_of, is_silent, spoken, words_of}
use Rattle.pm_script.specs.Words.{word_of, kinds, belongs, first_word, IsFirst, Value, kind_of, kind_cause, IsSpelled}
use Rattle.pm_script.specs.Script.{StandFor, IsBody}
use Rattle.pm_script.specs.Young.{IsYoungBody}

-- the first word is neither a client nor an exclamation mark
abbrev pub LacksFirst : List (List ℕ) → Type 0
LacksFirst words = (f : First) (rest : List (List ℕ)) → IsFirst f → words ≡ first_word f ∷ rest → ⊥

-- the first word is one of these, and none follows that names what may be asked after it
pub record LacksVerb (dialect : Dialect) (words : List (List ℕ)) : Type 0 where
  pub first : First
  pub rest : List (List ℕ)
  pub is_first : IsFirst first
  pub begins : words ≡ first_word first ∷ rest
  pub none : (verb : Verb) (more : List (List ℕ)) → belongs dialect first verb ≡ true → rest ≡ word_of verb ∷ more → ⊥

-- the words begin so: a first word, and one that names what may be asked after it
pub record Asks (dialect : Dialect) (words : List (List ℕ)) (first : First) (verb : Verb) (rest : List (List ℕ)) : Type 0 where
  pub is_first : IsFirst first
  pub may : belongs dialect first verb ≡ true
  pub begins : words ≡ first_word first ∷ word_of verb ∷ rest

-- they go on with too few words or too many
pub record HasOtherCount (dialect : Dialect) (words : List (List ℕ)) : Type 0 where
  pub first : First
  pub verb : Verb
  pub rest : List (List ℕ)
  pub asks : Asks dialect words first verb rest
  pub other : length rest ≡ length (kinds verb) → ⊥

-- the word spells a value of the kind
pub record IsOfKind (kind : Kind) (word : List ℕ) : Type 0 where
  pub value : Value
  pub is_kind : kind_of value ≡ kind
  pub spelled : IsSpelled value word

-- from the left, each word spells a value of its kind up to one that spells none, and this is its cause
abbrev pub IsFirstWrong : List Kind → List (List ℕ) → Cause → Type 0
IsFirstWrong (kind ∷ kinds) (word ∷ words) cause = ((kind_cause kind ≡ cause) × (IsOfKind kind word → ⊥)) ⊎ (IsOfKind kind word × IsFirstWrong kinds words cause)
IsFirstWrong kinds words cause = ⊥

-- they go on with as many words as they should, and the first wrong one has this cause
pub record HasWrongWord (dialect : Dialect) (words : List (List ℕ)) (cause : Cause) : Type 0 where
  pub first : First
  pub verb : Verb
  pub rest : List (List ℕ)
  pub asks : Asks dialect words first verb rest
  pub count : length rest ≡ length (kinds verb)
  pub wrong : IsFirstWrong (kinds verb) rest cause

-- the cause is the first that applies to the line, in a dialect
abbrev pub IsCause : Dialect → Cause → List ℕ → Type 0
IsCause dialect cause.LineTooLong body = LINE_BYTES < length body
IsCause dialect cause.Client body = (length body ≤ LINE_BYTES) × LacksFirst (words_of body)
IsCause dialect cause.Word body = (length body ≤ LINE_BYTES) × LacksVerb dialect (words_of body)
IsCause dialect cause.Count body = (length body ≤ LINE_BYTES) × HasOtherCount dialect (words_of body)
IsCause dialect cause body = (length body ≤ LINE_BYTES) × HasWrongWord dialect (words_of body) cause

-- of these lines, the first of which has the number start, this one is bad, for this cause, and those before it are not
pub record IsBadAmong {L : Type 0} (says : List ℕ → L → Type 0) (why : Cause → List ℕ → Type 0) (start : ℕ) (bodies : List (List ℕ)) (number : ℕ) (cause : Cause) : Type 0 where
  pub before : List (List ℕ)
  pub body : List ℕ
  pub after : List (List ℕ)
  pub there : bodies ≡ before ++ body ∷ after
  pub counted : number ≡ start + length before
  pub lines : List L
  pub good : StandFor says (spoken before) lines
  pub speaks : is_silent body ≡ false
  pub is_bad : why cause body

-- the fault is the first that applies to the bytes, where bodies stand for lines so, and are bad for these causes
abbrev pub IsBadOf : {L : Type 0} → (List ℕ → L → Type 0) → (Cause → List ℕ → Type 0) → ScriptFault → List ℕ → Type 0
IsBadOf says why fault.TooLong bytes = SOURCE_BYTES < length bytes
IsBadOf says why fault.TooManyLines bytes = (length bytes ≤ SOURCE_BYTES) × (SCRIPT_LINES < length (lines_of bytes))
IsBadOf says why (fault.Line number cause) bytes = (length bytes ≤ SOURCE_BYTES) × (length (lines_of bytes) ≤ SCRIPT_LINES) × IsBadAmong says why 1 (lines_of bytes) number cause
IsBadOf says why (fault.Memory _) bytes = ⊥

-- the fault is the first that applies to the bytes
abbrev pub IsBad : ScriptFault → List ℕ → Type 0
IsBad fault bytes = IsBadOf IsBody (IsCause dialect.Plain) fault bytes

-- the same of a script for a run with a nursery
abbrev pub IsYoungBad : ScriptFault → List ℕ → Type 0
IsYoungBad fault bytes = IsBadOf IsYoungBody (IsCause dialect.Young) fault bytes
