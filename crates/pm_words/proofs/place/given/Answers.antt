use Rattle.std.proofs.Common.{◌≡◌, ◌∷◌, [], map, IfNone, ℕ, ◌<◌, ◌≤◌, List, Bor, length, slice_index_or, refl, subst, arith}
use Rattle.pm_words.specs.Words.{HasNoPlace}
use Rattle.pm_words.proofs.place.given.Goals as goal

-- a list of four is its four members
of_four : (words : List (Bor (List ℕ))) (other : Bor (List ℕ)) → 4 ≤ length words → length words < 5
    → (slice_index_or words 0 other).now ∷ (slice_index_or words 1 other).now ∷ (slice_index_or words 2 other).now ∷ (slice_index_or words 3 other).now ∷ []
    ≡ map (λ (word : Bor (List ℕ)). word.now) words
of_four (a ∷ b ∷ c ∷ d ∷ []) other up below = refl
of_four words other up below = absurd (omega (arith, up, below))

pub returns-in-len4-clause-none : goal.returns-in-len4-clause-none
returns-in-len4-clause-none c =
    subst (λ (words : List (List ℕ)). IfNone c.choice_of_four.result (HasNoPlace words))
    (of_four c.args.words.now _ c.in-len4.len_at_least c.in-len4.len_below) c.choice_of_four.ensures.none
