-- The commands of a client among those of lines.
use Rattle.std.proofs.Common.{◌≡◌, ◌≢◌, ⊎_elim, ℕ, ◌+◌, ◌<◌, ◌≤◌, nat_eq, get_or, take, Bool, true, false, arith, List, [], ◌∷◌, ◌++◌, length, map, if◌then◌else◌, ap, sym, ◌∙◌, length-append, get_or-set_same, get_or-set_other}
use Rattle.std.specs.List.{filter}
use Rattle.std.proofs.lemmas.Bool.{cases_eq}
use Rattle.std.proofs.Math.ListN.{set}
use Rattle.std.proofs.lemmas.Grind.{flat_map-append}
use Rattle.std.proofs.lemmas.List.{append-nil, map-append, take_more}
use Rattle.std.proofs.lemmas.List.Elements.{filter-append}
use Rattle.pm_types.specs.declared.command.Cmd.{Cmd}
use Rattle.pm_model.specs.declared.request.Request.{Request}
use Rattle.pm_model.specs.Journal.{commands_of}
use Rattle.pm_script.specs.declared.line.Line.{Line}
use Rattle.pm_script.specs.Parted.Asked.{request_of, requests_asked}

pub commands_both : (client : ℕ) (one two : List Request) → commands_of client (one ++ two) ≡ commands_of client one ++ commands_of client two
commands_both client one two =
    ap (map (λ (request : Request). request.cmd)) (filter-append (λ (request : Request). nat_eq request.client client) one two)
    ∙ map-append (λ (request : Request). request.cmd) (filter (λ (request : Request). nat_eq request.client client) one) (filter (λ (request : Request). nat_eq request.client client) two)

eq-true : (a b : ℕ) → a ≡ b → nat_eq a b ≡ true
eq-true a b is = grind (arith, is)

eq-false : (a b : ℕ) → (a ≡ b → ⊥) → nat_eq a b ≡ false
eq-false a b apart = grind (arith, apart)

-- one request of this client, and of another
pub commands_here : (client asker : ℕ) (cmd : Cmd) → asker ≡ client → commands_of client (record { client = asker; cmd = cmd } ∷ []) ≡ cmd ∷ []
commands_here client asker cmd is = ap (λ (b : Bool). map (λ (request : Request). request.cmd) (if b then record { client = asker; cmd = cmd } ∷ [] else [])) (eq-true asker client is)

pub commands_elsewhere : (client asker : ℕ) (cmd : Cmd) → (asker ≡ client → ⊥) → commands_of client (record { client = asker; cmd = cmd } ∷ []) ≡ []
commands_elsewhere client asker cmd apart = ap (λ (b : Bool). map (λ (request : Request). request.cmd) (if b then record { client = asker; cmd = cmd } ∷ [] else [])) (eq-false asker client apart)

-- one request more of a client
pub counted_here : (client asker : ℕ) (cmd : Cmd) (asked : List Request) (count : ℕ) → asker ≡ client → count ≡ length (commands_of client asked) → count + 1 ≡ length (commands_of client (asked ++ record { client = asker; cmd = cmd } ∷ []))
counted_here client asker cmd asked count is was =
    let both = ap length (commands_both client asked (record { client = asker; cmd = cmd } ∷ []) ∙ ap (λ (cmds : List Cmd). commands_of client asked ++ cmds) (commands_here client asker cmd is)) in
    let grown = length-append (commands_of client asked) (cmd ∷ []) in
    omega (arith, both, grown, was)

pub counted_elsewhere : (client asker : ℕ) (cmd : Cmd) (asked : List Request) → (asker ≡ client → ⊥) → length (commands_of client asked) ≡ length (commands_of client (asked ++ record { client = asker; cmd = cmd } ∷ []))
counted_elsewhere client asker cmd asked apart =
    ap length (sym (append-nil (commands_of client asked)) ∙ ap (λ (cmds : List Cmd). commands_of client asked ++ cmds) (sym (commands_elsewhere client asker cmd apart)) ∙ sym (commands_both client asked (record { client = asker; cmd = cmd } ∷ [])))

-- ---- counts of the lines so far

-- what lines ask that are one more
pub requests_more : (lines : List Line) (i : ℕ) (line : Line) → i < length lines → line ≡ get_or lines i line → requests_asked (take (i + 1) lines) ≡ requests_asked (take i lines) ++ request_of line
requests_more lines i line lt is =
    ap requests_asked (take_more lines i line lt ∙ ap (λ (one : Line). take i lines ++ one ∷ []) (sym is)) ∙ flat_map-append request_of (take i lines) (line ∷ [])
    ∙ ap (λ (more : List Request). requests_asked (take i lines) ++ more) (append-nil (request_of line))

module _ (counts now : List ℕ) (client : ℕ) (is : now ≡ set counts client (get_or counts client 0 + 1)) (lt : client < length counts) where
  at_client : get_or now client 0 ≡ get_or counts client 0 + 1
  at_client = ap (λ (all : List ℕ). get_or all client 0) is ∙ get_or-set_same counts client (get_or counts client 0 + 1) 0 lt

  at_other : (one : ℕ) → one ≢ client → get_or now one 0 ≡ get_or counts one 0
  at_other one apart = ap (λ (all : List ℕ). get_or all one 0) is ∙ get_or-set_other counts client one (get_or counts client 0 + 1) 0 apart

  -- a client's command was counted
  pub count_goes : (asked : List Request) (cmd : Cmd) (one : ℕ) → get_or counts one 0 ≡ length (commands_of one asked) → get_or now one 0 ≡ length (commands_of one (asked ++ record { client = client; cmd = cmd } ∷ []))
  count_goes asked cmd one was =
      ⊎_elim (λ (same : one ≡ client). ap (λ (k : ℕ). get_or now k 0) same ∙ at_client ∙ ap (λ (k : ℕ). get_or counts k 0 + 1) (sym same) ∙ counted_here one client cmd asked (get_or counts one 0) (sym same) was)
      (λ apart. at_other one apart ∙ was ∙ counted_elsewhere one client cmd asked (λ same. apart (sym same))) (cases_eq one client)

  pub count_within : (most one : ℕ) → get_or counts one 0 ≤ most → get_or now one 0 ≤ most + 1
  count_within most one was =
      ⊎_elim (λ (same : one ≡ client). let now_is = ap (λ (k : ℕ). get_or now k 0) same in let was_is = ap (λ (k : ℕ). get_or counts k 0) same in let more = at_client in omega (arith, now_is, was_is, more, was))
      (λ apart. let still = at_other one apart in omega (arith, still, was)) (cases_eq one client)
