-- Journals that grow by an entry, and the copies that settle along them.
use Rattle.std.proofs.Common.{◌≡◌, ◌⊎◌, ⊎_elim, inl, inr, ℕ, true, List, [], ◌∷◌, ◌++◌, Option, Some, None, refl, ap, sym, subst, ◌∙◌}
use Rattle.std.specs.List.{Contains, last_or}
use Rattle.std.proofs.lemmas.List.Elements.{Contains-append_left}
use Rattle.std.proofs.lemmas.Option.{none-some, same_Some}
use Rattle.pm_types.specs.declared.command.Cmd.{Cmd}
use Rattle.pm_types.specs.declared.command.Cmd.TheVariants.{Settle}
use Rattle.pm_types.specs.declared.entry.Entry.{Entry}
use Rattle.pm_model.specs.World.{World, Copy}
use Rattle.pm_model.specs.Answer.{answer, answer_settle}
use Rattle.pm_model.specs.Frames.{is_settle}
use Rattle.pm_model.specs.Journal.{IsLegal, after, chain, settled_in}
use Rattle.pm_model.proofs.ChainLaws.{chain_ends, chain_more}
use Rattle.pm_model.proofs.Members.{at_first, in_rest}

-- a journal with an entry at its end is not empty
pub no_end : (journal : List Entry) (entry : Entry) → journal ++ entry ∷ [] ≡ [] → ⊥
no_end [] entry is = absurd (cc)
no_end (first ∷ journal) entry is = absurd (cc)

last_in : {X : Type 0} (xs : List X) (first : Option X) (x : X) → last_or first xs ≡ Some x → (first ≡ Some x) ⊎ Contains xs x
last_in [] first x is = inl is
last_in (y ∷ ys) first x is =
    ⊎_elim (λ (here : Some y ≡ Some x). inr (subst (Contains (y ∷ ys)) (same_Some y x here) (at_first y ys))) (λ (there : Contains ys x). inr (in_rest y x ys there)) (last_in ys (Some y) x is)

-- what has settled at the end of a legal journal is a member of its chain
pub end_in_chain : (world : World) (journal : List Entry) → IsLegal world journal → Contains (chain world journal) (settled_in (after world journal))
end_in_chain world journal legal =
    ⊎_elim (λ none. absurd (none-some (settled_in (after world journal)) none)) (λ there. there) (last_in (chain world journal) None (settled_in (after world journal)) (chain_ends world journal legal))

-- a chain has each member of that of the journal before it
pub chain_longer : (world : World) (journal : List Entry) (entry : Entry) (kept : ℕ × Copy) → Contains (chain world journal) kept → Contains (chain world (journal ++ entry ∷ [])) kept
chain_longer world journal entry kept there =
    subst (λ (members : List (ℕ × Copy)). Contains members kept) (sym (chain_more world journal entry)) (Contains-append_left (chain world journal) _ kept there)

-- `settle` is answered as it is
is_answered : (world : World) (client : ℕ) (cmd : Cmd) → is_settle cmd ≡ true → answer world client cmd ≡ answer_settle world world.saving
unfolding answer
is_answered world client Settle is = refl
is_answered world client cmd is = cc

-- after it the copy that was in progress has settled
pub settled_next : (world : World) (client : ℕ) (cmd : Cmd) (begun : ℕ × Copy) → is_settle cmd ≡ true → world.saving ≡ Some begun → settled_in (answer world client cmd).1 ≡ begun
settled_next world client cmd begun is saving =
    ap (λ answered. settled_in answered.1) (is_answered world client cmd is) ∙ ap (λ (s : Option (ℕ × Copy)). settled_in (answer_settle world s).1) saving
