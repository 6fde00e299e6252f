use Rattle.std.proofs.Common.{◌≡◌, ℕ, suc, zero, ◌+◌, List, [], ◌∷◌, length, map, refl, ap, ◌∙◌, arith}
use Rattle.std.proofs.lemmas.List.Sums.{sum_by-cons}
use Rattle.pm_types.specs.declared.command.Cmd.{Cmd}
use Rattle.pm_script.specs.Parted.Lists.{count_left, list_of}
use Rattle.pm_script.proofs.parted.parts.Parts.split.Goals as goal

-- lists with nothing in them
none_of : (counts : List ℕ) (client : ℕ) → list_of (map (λ (count : ℕ). []) counts) client ≡ []
none_of [] client = refl
none_of (count ∷ counts) zero = refl
none_of (count ∷ counts) (suc client) = none_of counts client

none_at_all : (counts : List ℕ) → count_left (map (λ (count : ℕ). []) counts) ≡ 0
none_at_all [] = refl
none_at_all (count ∷ counts) =
    let first : count_left ([] ∷ map (λ (count : ℕ). []) counts) ≡ 0 + count_left (map (λ (count : ℕ). []) counts) = sum_by-cons (length {A = Cmd}) [] (map (λ (count : ℕ). []) counts) in
    let rest = none_at_all counts in
    omega (arith, first, rest)

pub fill-requires-clause-empty : goal.fill-requires-clause-empty
fill-requires-clause-empty c = λ client.
    ap (λ (lists : List (List Cmd)). list_of lists client) (ap (map _) c.as_mut_slice.ensures.value ∙ c.in_ok-queues.ensures.empty) ∙ none_of c.count_commands-counts.result client

pub fill-requires-clause-none : goal.fill-requires-clause-none
fill-requires-clause-none c = ap count_left (ap (map _) c.as_mut_slice.ensures.value ∙ c.in_ok-queues.ensures.empty) ∙ none_at_all c.count_commands-counts.result
