-- Lines of what is left of a script, of which each client's commands were parted from the rest.
use Rattle.std.proofs.Common.{◌≡◌, ⊎_elim, ℕ, suc, zero, ◌+◌, ◌<◌, ◌≤◌, List, [], ◌∷◌, ◌++◌, arith, refl, ap, sym, ◌∙◌}
use Rattle.std.specs.List.{sum_by}
use Rattle.std.proofs.lemmas.Bool.{cases_eq}
use Rattle.std.proofs.lemmas.List.{append-nil}
use Rattle.std.proofs.lemmas.List.Sums.{sum_by-append, sum_by-cons}
use Rattle.std.proofs.lemmas.Grind.{flat_map-append}
use Rattle.pm_types.specs.declared.command.Cmd.{Cmd}
use Rattle.pm_model.specs.Journal.{commands_of}
use Rattle.pm_script.specs.declared.line.Line.{Line}
use Rattle.pm_script.specs.declared.line.Line.TheVariants.{Client, Gc, Flush}
use Rattle.pm_script.specs.Parted.Asked.{flushes_asked, flushes_of, request_of, requests_asked, steps_asked, steps_of}
use Rattle.pm_script.specs.Parted.Lists.{list_of}
use Rattle.pm_script.proofs.PartedLemmas.Parting.{commands_both, commands_elsewhere, commands_here}

-- ---- lists

-- the lists of so many clients from this one on, where each client has one
abbrev pub lists_from : (ℕ → List Cmd) → ℕ → ℕ → List (List Cmd)
lists_from each client zero = []
lists_from each client (suc n) = each client ∷ lists_from each (suc client) n

their_list : (each : ℕ → List Cmd) (from n j client : ℕ) → client ≡ from + j → (from + n ≤ client → each client ≡ []) → list_of (lists_from each from n) j ≡ each client
their_list each from zero zero client is none = sym (none (omega (arith, is)))
their_list each from zero (suc j) client is none = sym (none (omega (arith, is)))
their_list each from (suc n) zero client is none = ap each (omega (arith, is))
their_list each from (suc n) (suc j) client is none = their_list each (suc from) n j client (omega (arith, is)) (λ most. none (omega (arith, most)))

-- each client has its own there, where those behind have none
pub own_list : (each : ℕ → List Cmd) (n : ℕ) → ((client : ℕ) → n ≤ client → each client ≡ []) → (client : ℕ) → list_of (lists_from each 0 n) client ≡ each client
own_list each n none client = their_list each 0 n client client (omega arith) (λ most. none client (omega (arith, most)))

-- ---- lines of one kind

-- a client's commands, as lines
abbrev pub client_lines : ℕ → List Cmd → List Line
client_lines client [] = []
client_lines client (cmd ∷ cmds) = Client client cmd ∷ client_lines client cmds

-- those of all clients from this one on
abbrev pub lines_from : ℕ → List (List Cmd) → List Line
lines_from client [] = []
lines_from client (list ∷ lists) = client_lines client list ++ lines_from (suc client) lists

-- lists without this client's
abbrev pub without : ℕ → List (List Cmd) → List (List Cmd)
without client [] = []
without zero (list ∷ lists) = [] ∷ lists
without (suc client) (list ∷ lists) = list ∷ without client lists

-- the lines of all clients, of which this one's come first
abbrev pub clients_lines : ℕ → List (List Cmd) → List Line
clients_lines first lists = client_lines first (list_of lists first) ++ lines_from 0 (without first lists)

-- so often the same line
abbrev pub repeated : Line → ℕ → List Line
repeated line zero = []
repeated line (suc n) = line ∷ repeated line n

-- ---- what they ask of the graph

pub asked_both : (one two : List Line) → requests_asked (one ++ two) ≡ requests_asked one ++ requests_asked two
asked_both one two = flat_map-append request_of one two

-- what a client asks in lines
abbrev asked_by : ℕ → List Line → List Cmd
asked_by client lines = commands_of client (requests_asked lines)

pub by_both : (client : ℕ) (one two : List Line) → asked_by client (one ++ two) ≡ asked_by client one ++ asked_by client two
by_both client one two = ap (commands_of client) (asked_both one two) ∙ commands_both client (requests_asked one) (requests_asked two)

by_client : (client who : ℕ) (cmds : List Cmd) → who ≡ client → asked_by client (client_lines who cmds) ≡ cmds
by_client client who [] is = refl
by_client client who (cmd ∷ cmds) is =
    commands_both client (record { client = who; cmd = cmd } ∷ []) (requests_asked (client_lines who cmds)) ∙ (λ i. commands_here client who cmd is i ++ by_client client who cmds is i)

by_other : (client who : ℕ) (cmds : List Cmd) → (who ≡ client → ⊥) → asked_by client (client_lines who cmds) ≡ []
by_other client who [] apart = refl
by_other client who (cmd ∷ cmds) apart =
    commands_both client (record { client = who; cmd = cmd } ∷ []) (requests_asked (client_lines who cmds)) ∙ (λ i. commands_elsewhere client who cmd apart i ++ by_other client who cmds apart i)

by_earlier : (client from : ℕ) (lists : List (List Cmd)) → client < from → asked_by client (lines_from from lists) ≡ []
by_earlier client from [] less = refl
by_earlier client from (list ∷ lists) less =
    by_both client (client_lines from list) (lines_from (suc from) lists)
    ∙ (λ i. by_other client from list (λ same. omega (arith, same, less)) i ++ by_earlier client (suc from) lists (omega (arith, less)) i)

by_later : (client from j : ℕ) (lists : List (List Cmd)) → client ≡ from + j → asked_by client (lines_from from lists) ≡ list_of lists j
by_later client from zero [] is = refl
by_later client from (suc j) [] is = refl
by_later client from zero (list ∷ lists) is =
    by_both client (client_lines from list) (lines_from (suc from) lists)
    ∙ (λ i. by_client client from list (omega (arith, is)) i ++ by_earlier client (suc from) lists (omega (arith, is)) i) ∙ append-nil list
by_later client from (suc j) (list ∷ lists) is =
    by_both client (client_lines from list) (lines_from (suc from) lists)
    ∙ (λ i. by_other client from list (λ same. omega (arith, same, is)) i ++ by_later client (suc from) j lists (omega (arith, is)) i)

without_own : (client : ℕ) (lists : List (List Cmd)) → list_of (without client lists) client ≡ []
without_own zero [] = refl
without_own (suc client) [] = refl
without_own zero (list ∷ lists) = refl
without_own (suc client) (list ∷ lists) = without_own client lists

without_other : (client other : ℕ) (lists : List (List Cmd)) → (other ≡ client → ⊥) → list_of (without client lists) other ≡ list_of lists other
without_other zero zero [] apart = refl
without_other zero (suc other) [] apart = refl
without_other (suc client) zero [] apart = refl
without_other (suc client) (suc other) [] apart = refl
without_other zero zero (list ∷ lists) apart = absurd (apart refl)
without_other zero (suc other) (list ∷ lists) apart = refl
without_other (suc client) zero (list ∷ lists) apart = refl
without_other (suc client) (suc other) (list ∷ lists) apart = without_other client other lists (λ same. apart (ap suc same))

pub by_all : (client first : ℕ) (lists : List (List Cmd)) → asked_by client (clients_lines first lists) ≡ list_of lists client
by_all client first lists =
    by_both client (client_lines first (list_of lists first)) (lines_from 0 (without first lists))
    ∙ ⊎_elim
    (λ (same : client ≡ first).
    (λ i. by_client client first (list_of lists first) (sym same) i ++ (by_later client 0 client (without first lists) (omega arith) ∙ ap (list_of (without first lists)) same ∙ without_own first lists) i)
    ∙ append-nil (list_of lists first) ∙ ap (list_of lists) (sym same))
    (λ apart. (λ i. by_other client first (list_of lists first) (λ same. apart (sym same)) i ++ (by_later client 0 client (without first lists) (omega arith) ∙ without_other first client lists apart) i))
    (cases_eq client first)

pub none_asked : (line : Line) (n : ℕ) → request_of line ≡ [] → requests_asked (repeated line n) ≡ []
none_asked line zero none = refl
none_asked line (suc n) none = (λ i. none i ++ none_asked line n none i)

-- ---- how many events they ask for

module _ (count : Line → ℕ) where
  client_none : (client : ℕ) (cmds : List Cmd) → ((cmd : Cmd) (who : ℕ) → count (Client who cmd) ≡ 0) → sum_by count (client_lines client cmds) ≡ 0
  client_none client [] none = refl
  client_none client (cmd ∷ cmds) none =
      let all = sum_by-cons count (Client client cmd) (client_lines client cmds) in
      let first = none cmd client in
      let more = client_none client cmds none in
      omega (arith, all, first, more)

  from_none : (client : ℕ) (lists : List (List Cmd)) → ((cmd : Cmd) (who : ℕ) → count (Client who cmd) ≡ 0) → sum_by count (lines_from client lists) ≡ 0
  from_none client [] none = refl
  from_none client (list ∷ lists) none =
      let all = sum_by-append count (client_lines client list) (lines_from (suc client) lists) in
      let first = client_none client list none in
      let more = from_none (suc client) lists none in
      omega (arith, all, first, more)

  pub clients_none : (first : ℕ) (lists : List (List Cmd)) → ((cmd : Cmd) (who : ℕ) → count (Client who cmd) ≡ 0) → sum_by count (clients_lines first lists) ≡ 0
  clients_none first lists none =
      let all = sum_by-append count (client_lines first (list_of lists first)) (lines_from 0 (without first lists)) in
      let own = client_none first (list_of lists first) none in
      let more = from_none 0 (without first lists) none in
      omega (arith, all, own, more)

  pub repeated_ones : (line : Line) (n : ℕ) → count line ≡ 1 → sum_by count (repeated line n) ≡ n
  repeated_ones line zero one = refl
  repeated_ones line (suc n) one =
      let all = sum_by-cons count line (repeated line n) in
      let more = repeated_ones line n one in
      omega (arith, all, one, more)

  pub repeated_none : (line : Line) (n : ℕ) → count line ≡ 0 → sum_by count (repeated line n) ≡ 0
  repeated_none line zero none = refl
  repeated_none line (suc n) none =
      let all = sum_by-cons count line (repeated line n) in
      let more = repeated_none line n none in
      omega (arith, all, none, more)

-- ---- where nothing is left

from_empty : (client : ℕ) (lists : List (List Cmd)) → ((who : ℕ) → list_of lists who ≡ []) → lines_from client lists ≡ []
from_empty client [] empty = refl
from_empty client (list ∷ lists) empty = (λ i. client_lines client (empty zero i) ++ from_empty (suc client) lists (λ who. empty (suc who)) i)

without_empty : (first : ℕ) (lists : List (List Cmd)) → ((who : ℕ) → list_of lists who ≡ []) → (who : ℕ) → list_of (without first lists) who ≡ []
without_empty first lists empty who =
    ⊎_elim (λ (same : who ≡ first). ap (list_of (without first lists)) same ∙ without_own first lists) (λ apart. without_other first who lists apart ∙ empty who) (cases_eq who first)

pub clients_empty : (first : ℕ) (lists : List (List Cmd)) → ((who : ℕ) → list_of lists who ≡ []) → clients_lines first lists ≡ []
clients_empty first lists empty = (λ i. client_lines first (empty first i) ++ from_empty 0 (without first lists) (without_empty first lists empty) i)

-- ---- all that is left

-- these lines ask for what is left: each client's commands, so many events of the collector and so many that write pages
pub record AreLeft (lines : List Line) (lists : List (List Cmd)) (collects flushes : ℕ) : Type 0 where
  pub clients : (client : ℕ) → commands_of client (requests_asked lines) ≡ list_of lists client
  pub steps : steps_asked lines ≡ collects
  pub flushes_are : flushes_asked lines ≡ flushes
  pub none : ((client : ℕ) → list_of lists client ≡ []) → collects ≡ 0 → flushes ≡ 0 → lines ≡ []

-- the events of the collector, and those that write pages
abbrev pub collecting : ℕ → List Line
collecting collects = repeated (Gc 1) collects

abbrev pub flushing : ℕ → List Line
flushing flushes = repeated (Flush 1) flushes

three_asked : (client : ℕ) (one two more : List Line) → asked_by client (one ++ (two ++ more)) ≡ asked_by client one ++ (asked_by client two ++ asked_by client more)
three_asked client one two more = by_both client one (two ++ more) ∙ ap (λ (c : List Cmd). asked_by client one ++ c) (by_both client two more)

three_counted : (count : Line → ℕ) (one two more : List Line) → sum_by count (one ++ (two ++ more)) ≡ sum_by count one + (sum_by count two + sum_by count more)
three_counted count one two more =
    let all = sum_by-append count one (two ++ more) in
    let behind = sum_by-append count two more in
    omega (arith, all, behind)

module _ (lists : List (List Cmd)) (collects flushes : ℕ) where
  by_collecting : (client : ℕ) → asked_by client (collecting collects) ≡ []
  by_collecting client = ap (commands_of client) (none_asked (Gc 1) collects refl)

  by_flushing : (client : ℕ) → asked_by client (flushing flushes) ≡ []
  by_flushing client = ap (commands_of client) (none_asked (Flush 1) flushes refl)

  module _ (first : ℕ) where
    all_steps : (steps_asked (clients_lines first lists) ≡ 0) × (steps_asked (collecting collects) ≡ collects) × (steps_asked (flushing flushes) ≡ 0)
    all_steps = (clients_none steps_of first lists (λ cmd who. refl), repeated_ones steps_of (Gc 1) collects refl, repeated_none steps_of (Flush 1) flushes refl)

    all_flushes : (flushes_asked (clients_lines first lists) ≡ 0) × (flushes_asked (collecting collects) ≡ 0) × (flushes_asked (flushing flushes) ≡ flushes)
    all_flushes = (clients_none flushes_of first lists (λ cmd who. refl), repeated_none flushes_of (Gc 1) collects refl, repeated_ones flushes_of (Flush 1) flushes refl)

    -- a client's commands first
    pub clients_first : AreLeft (clients_lines first lists ++ (collecting collects ++ flushing flushes)) lists collects flushes
    clients_first =
        let clients = clients_lines first lists in
        record {
          clients = λ client. three_asked client clients (collecting collects) (flushing flushes) ∙ (λ i. by_all client first lists i ++ (by_collecting client i ++ by_flushing client i)) ∙ append-nil (list_of lists client);
          steps =
              let all = three_counted steps_of clients (collecting collects) (flushing flushes) in
              let each = all_steps in
              omega (arith, all, each.0, each.1, each.2);
          flushes_are =
              let all = three_counted flushes_of clients (collecting collects) (flushing flushes) in
              let each = all_flushes in
              omega (arith, all, each.0, each.1, each.2);
          none = λ empty no_collects no_flushes. (λ i. clients_empty first lists empty i ++ (collecting (no_collects i) ++ flushing (no_flushes i)));
        }

    -- the collector's events first
    pub collecting_first : AreLeft (collecting collects ++ (clients_lines first lists ++ flushing flushes)) lists collects flushes
    collecting_first =
        let clients = clients_lines first lists in
        record {
          clients = λ client. three_asked client (collecting collects) clients (flushing flushes) ∙ (λ i. by_collecting client i ++ (by_all client first lists i ++ by_flushing client i)) ∙ append-nil (list_of lists client);
          steps =
              let all = three_counted steps_of (collecting collects) clients (flushing flushes) in
              let each = all_steps in
              omega (arith, all, each.0, each.1, each.2);
          flushes_are =
              let all = three_counted flushes_of (collecting collects) clients (flushing flushes) in
              let each = all_flushes in
              omega (arith, all, each.0, each.1, each.2);
          none = λ empty no_collects no_flushes. (λ i. collecting (no_collects i) ++ (clients_empty first lists empty i ++ flushing (no_flushes i)));
        }

    -- and those that write pages first
    pub flushing_first : AreLeft (flushing flushes ++ (clients_lines first lists ++ collecting collects)) lists collects flushes
    flushing_first =
        let clients = clients_lines first lists in
        record {
          clients = λ client. three_asked client (flushing flushes) clients (collecting collects) ∙ (λ i. by_flushing client i ++ (by_all client first lists i ++ by_collecting client i)) ∙ append-nil (list_of lists client);
          steps =
              let all = three_counted steps_of (flushing flushes) clients (collecting collects) in
              let each = all_steps in
              omega (arith, all, each.0, each.1, each.2);
          flushes_are =
              let all = three_counted flushes_of (flushing flushes) clients (collecting collects) in
              let each = all_flushes in
              omega (arith, all, each.0, each.1, each.2);
          none = λ empty no_collects no_flushes. (λ i. flushing (no_flushes i) ++ (clients_empty first lists empty i ++ collecting (no_collects i)));
        }
