-- The words of lines: which word names a command, what kinds of words follow it, and how each kind is spelled.
use Rattle.std.specs.Prelude.{◌≡◌, ℕ, ◌^◌, ◌<◌, ◌&&◌, Bool, true, false, not, List, [], ◌∷◌, codes, decimal}
use Rattle.hex.specs.Hex.{IsBytes}
use Rattle.pm_types.specs.declared.limits.TheConstants.{CLIENTS, REGISTERS}
use Rattle.pm_types.specs.Names.{IsName}
use Rattle.pm_model.specs.Text.{pairs}
use Rattle.pm_script.specs.declared.fault.Cause.{Cause}
use Rattle.pm_script.specs.declared.fault.Cause.TheVariants as cause
use Rattle.pm_script.specs.declared.verb.Dialect.{Dialect}
use Rattle.pm_script.specs.declared.verb.Dialect.TheVariants as dialect
use Rattle.pm_script.specs.declared.verb.Verb.{Verb}
use Rattle.pm_script.specs.declared.verb.Verb.TheVariants as verb
use Rattle.pm_script.specs.declared.verb.Kind.{Kind}
use Rattle.pm_script.specs.declared.verb.Kind.TheVariants as kind
use Rattle.pm_script.specs.declared.verb.First.{First}
use Rattle.pm_script.specs.declared.verb.First.TheVariants as first
use Rattle.pm_script.specs.HexDigits.{ArePairsOf}

-- the word that names what is asked
abbrev pub word_of : Verb → List ℕ
word_of verb.New = codes "new"
word_of verb.Load = codes "load"
word_of verb.Store = codes "store"
word_of verb.Clear = codes "clear"
word_of verb.Data = codes "data"
word_of verb.Put = codes "put"
word_of verb.Copy = codes "copy"
word_of verb.Id = codes "id"
word_of verb.Drop = codes "drop"
word_of verb.Root = codes "root"
word_of verb.Unroot = codes "unroot"
word_of verb.Find = codes "find"
word_of verb.Save = codes "save"
word_of verb.Settle = codes "settle"
word_of verb.Watch = codes "watch"
word_of verb.Close = codes "close"
word_of verb.Swap = codes "swap"
word_of verb.Unsave = codes "unsave"
word_of verb.Gc = codes "gc"
word_of verb.Flush = codes "flush"
word_of verb.Young = codes "young"

-- the kinds of the words after it
abbrev pub kinds : Verb → List Kind
kinds verb.New = kind.Register ∷ kind.Number ∷ kind.Hex ∷ []
kinds verb.Load = kind.Register ∷ kind.Register ∷ kind.Number ∷ []
kinds verb.Store = kind.Register ∷ kind.Number ∷ kind.Register ∷ []
kinds verb.Clear = kind.Register ∷ kind.Number ∷ []
kinds verb.Data = kind.Register ∷ []
kinds verb.Put = kind.Register ∷ kind.Number ∷ kind.Hex ∷ []
kinds verb.Copy = kind.Register ∷ kind.Register ∷ []
kinds verb.Id = kind.Register ∷ []
kinds verb.Drop = kind.Register ∷ []
kinds verb.Root = kind.Name ∷ kind.Register ∷ []
kinds verb.Unroot = kind.Name ∷ []
kinds verb.Find = kind.Register ∷ kind.Name ∷ []
kinds verb.Save = []
kinds verb.Settle = []
kinds verb.Watch = []
kinds verb.Close = []
kinds verb.Swap = kind.Register ∷ kind.Number ∷ kind.Register ∷ kind.Register ∷ []
kinds verb.Unsave = []
kinds verb.Gc = kind.Number ∷ []
kinds verb.Flush = kind.Number ∷ []
kinds verb.Young = []

-- all of them
abbrev pub verbs : List Verb
verbs =
    verb.New ∷ verb.Load ∷ verb.Store ∷ verb.Clear ∷ verb.Data ∷ verb.Put ∷ verb.Copy ∷ verb.Id ∷ verb.Drop ∷ verb.Root
    ∷ verb.Unroot ∷ verb.Find ∷ verb.Save ∷ verb.Settle ∷ verb.Watch ∷ verb.Close ∷ verb.Swap ∷ verb.Unsave ∷ verb.Gc ∷ verb.Flush ∷ verb.Young ∷ []

-- asked of the collector, of the checkpoint and of the nursery, and by no client
abbrev pub is_event : Verb → Bool
is_event verb.Gc = true
is_event verb.Flush = true
is_event verb.Young = true
is_event verb = false

-- what may be asked after such a first word
abbrev pub may_follow : First → Verb → Bool
may_follow (first.Client client) verb = not (is_event verb)
may_follow first.Bang verb = is_event verb

-- what is asked in a dialect: in the plain one all but `young`, in that of a run with a nursery all but `watch`
abbrev pub is_in : Dialect → Verb → Bool
is_in dialect.Plain verb.Young = false
is_in dialect.Plain verb = true
is_in dialect.Young verb.Watch = false
is_in dialect.Young verb = true

-- what may be asked after such a first word, in a dialect
abbrev pub belongs : Dialect → First → Verb → Bool
belongs dialect first verb = is_in dialect verb && may_follow first verb

-- the word that a line begins with
abbrev pub first_word : First → List ℕ
first_word (first.Client client) = decimal client
first_word first.Bang = codes "!"

-- a client is one of the eight
abbrev pub IsFirst : First → Type 0
IsFirst (first.Client client) = client < CLIENTS
IsFirst first.Bang = Unit {0}

-- what a word after the one that names a command stands for
pub data Value : Type 0 where
  Register : ℕ → Value
  Number : ℕ → Value
  Hex : List ℕ → Value
  Name : List ℕ → Value

-- the kind of a value
abbrev pub kind_of : Value → Kind
kind_of (Register register) = kind.Register
kind_of (Number number) = kind.Number
kind_of (Hex bytes) = kind.Hex
kind_of (Name name) = kind.Name

-- why a word is not of its kind
abbrev pub kind_cause : Kind → Cause
kind_cause kind.Register = cause.Number
kind_cause kind.Number = cause.Number
kind_cause kind.Hex = cause.Hex
kind_cause kind.Name = cause.Name

-- the word spells the bytes: a dash where there are none, and otherwise two hexadecimal digits for each, in either case
abbrev pub IsHexWord : List ℕ → List ℕ → Type 0
IsHexWord word [] = word ≡ codes "-"
IsHexWord word (byte ∷ bytes) = ArePairsOf (byte ∷ bytes) word

-- the word spells the value
abbrev pub IsSpelled : Value → List ℕ → Type 0
IsSpelled (Register register) word = (register < REGISTERS) × (word ≡ decimal register)
IsSpelled (Number number) word = (number < 2 ^ 32) × (word ≡ decimal number)
IsSpelled (Hex bytes) word = IsHexWord word bytes
IsSpelled (Name name) word = IsName name × (word ≡ name)

-- as many words as values, each of which spells the value in its place
abbrev pub AreSpelled : List Value → List (List ℕ) → Type 0
AreSpelled [] [] = Unit {0}
AreSpelled (value ∷ values) (word ∷ words) = IsSpelled value word × AreSpelled values words
AreSpelled values words = ⊥

-- a value that has a spelling
abbrev pub IsValue : Value → Type 0
IsValue (Register register) = register < REGISTERS
IsValue (Number number) = number < 2 ^ 32
IsValue (Hex bytes) = IsBytes bytes
IsValue (Name name) = IsName name

-- one word that spells it: bytes are spelled in lower case
abbrev pub value_word : Value → List ℕ
value_word (Register register) = decimal register
value_word (Number number) = decimal number
value_word (Hex bytes) = pairs bytes
value_word (Name name) = name
