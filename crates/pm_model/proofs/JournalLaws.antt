-- Journals one behind the other.
use Rattle.std.proofs.Common.{◌≡◌, ℕ, nat_eq, List, [], ◌∷◌, ◌++◌, map, refl, ap, sym, ◌∙◌, if◌then◌else◌, append_assoc}
use Rattle.std.specs.List.{filter}
use Rattle.std.proofs.lemmas.List.{map-append}
use Rattle.std.proofs.lemmas.List.Elements.{filter-append}
use Rattle.pm_types.specs.declared.entry.Entry.{Entry}
use Rattle.pm_model.specs.declared.request.Request.{Request}
use Rattle.pm_model.specs.World.{World}
use Rattle.pm_model.specs.Answer.{answer}
use Rattle.pm_model.specs.Journal.{IsLegal, after, chain, settled_in, settled_along, says_saved, requests_of, commands_of, part, IsFirstPart}

pub after_both : (world : World) (one two : List Entry) → after world (one ++ two) ≡ after (after world one) two
after_both world [] two = refl
after_both world (entry ∷ one) two = after_both (answer world entry.client entry.cmd).1 one two

pub legal_both : (world : World) (one two : List Entry) → IsLegal world one → IsLegal (after world one) two → IsLegal world (one ++ two)
legal_both world [] two legal later = later
legal_both world (entry ∷ one) two legal later = (legal.0, legal_both (answer world entry.client entry.cmd).1 one two legal.1 later)

pub legal_parts : (world : World) (one two : List Entry) → IsLegal world (one ++ two) → IsLegal world one × IsLegal (after world one) two
legal_parts world [] two legal = (tt, legal)
legal_parts world (entry ∷ one) two legal = let rest = legal_parts (answer world entry.client entry.cmd).1 one two legal.1 in ((legal.0, rest.0), rest.1)

along_both : (world : World) (one two : List Entry) → settled_along world (one ++ two) ≡ settled_along world one ++ settled_along (after world one) two
along_both world [] two = refl
along_both world (entry ∷ one) two =
    let next = (answer world entry.client entry.cmd).1 in
    let here = if says_saved entry.reply then settled_in next ∷ [] else [] in
    ap (λ rest. here ++ rest) (along_both next one two) ∙ sym (append_assoc here (settled_along next one) (settled_along (after next one) two))

pub chain_both : (world : World) (one two : List Entry) → chain world (one ++ two) ≡ chain world one ++ settled_along (after world one) two
chain_both world one two = ap (λ rest. settled_in world ∷ rest) (along_both world one two)

requests_both : (one two : List Entry) → requests_of (one ++ two) ≡ requests_of one ++ requests_of two
requests_both one two = map-append (λ (entry : Entry). record { client = entry.client; cmd = entry.cmd }) one two

commands_both : (client : ℕ) (one two : List Request) → commands_of client (one ++ two) ≡ commands_of client one ++ commands_of client two
commands_both client one two =
    ap (map (λ (request : Request). request.cmd)) (filter-append (λ (request : Request). nat_eq request.client client) one two)
    ∙ map-append (λ (request : Request). request.cmd) (filter (λ (request : Request). nat_eq request.client client) one) (filter (λ (request : Request). nat_eq request.client client) two)

pub part_both : (client : ℕ) (one two : List Entry) → part client (one ++ two) ≡ part client one ++ part client two
part_both client one two = ap (commands_of client) (requests_both one two) ∙ commands_both client (requests_of one) (requests_of two)

-- where a journal serves the first of what is asked, each client's part is a first part of what it asks
pub first_parts : (client : ℕ) (journal : List Entry) (asked : List Request) → IsFirstPart (requests_of journal) asked → IsFirstPart (part client journal) (commands_of client asked)
first_parts client journal asked first = (commands_of client first.0, sym (commands_both client (requests_of journal) first.0) ∙ ap (commands_of client) first.1)
