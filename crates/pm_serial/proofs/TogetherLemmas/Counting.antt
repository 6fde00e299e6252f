-- How long a list of requests is, by how many each client has in it.
use Rattle.std.proofs.Common.{◌≡◌, ℕ, suc, zero, ◌+◌, ◌<◌, ◌≤◌, Bool, true, false, nat_eq, List, [], ◌∷◌, length, arith, refl, ap}
use Rattle.std.specs.List.{AllByRecursion}
use Rattle.std.proofs.lemmas.List.{length-map}
use Rattle.pm_types.specs.declared.entry.Entry.{Entry}
use Rattle.pm_model.specs.declared.request.Request.{Request}
use Rattle.pm_model.specs.Journal.{commands_of, part, requests_of}

-- one where this is so
abbrev one_if : Bool → ℕ
one_if true = 1
one_if false = 0

-- how many are of the clients below this one
abbrev below : ℕ → List Request → ℕ
below zero requests = 0
below (suc n) requests = length (commands_of n requests) + below n requests

-- how many of the clients below this one this is
abbrev hits : ℕ → ℕ → ℕ
hits zero client = 0
hits (suc n) client = one_if (nat_eq client n) + hits n client

counts_one : (n : ℕ) (request : Request) (requests : List Request) → length (commands_of n (request ∷ requests)) ≡ one_if (nat_eq request.client n) + length (commands_of n requests)
counts_one n request requests = by (nat_eq request.client n) refl
  where
    by : (b : Bool) → nat_eq request.client n ≡ b → length (commands_of n (request ∷ requests)) ≡ one_if (nat_eq request.client n) + length (commands_of n requests)
    by true is = rw is (omega arith)
    by false is = rw is (omega arith)

counts_more : (n : ℕ) (request : Request) (requests : List Request) → below n (request ∷ requests) ≡ hits n request.client + below n requests
counts_more zero request requests = refl
counts_more (suc n) request requests = let one = counts_one n request requests in let more = counts_more n request requests in omega (arith, one, more)

-- a client is one of those below at most once, and is where it is below
hits_by : (n client : ℕ) (b : Bool) → nat_eq client n ≡ b → one_if (nat_eq client n) ≡ one_if b
hits_by n client b is = ap one_if is

beyond : (n client : ℕ) → n ≤ client → hits n client ≡ 0
beyond zero client less = refl
beyond (suc n) client less =
    let here = hits_by n client false (apart n client (omega (arith, less))) in
    let rest = beyond n client (omega (arith, less)) in
    omega (arith, here, rest)
  where
    apart : (n client : ℕ) → n < client → nat_eq client n ≡ false
    apart n client lt = grind (arith, lt)

hits_once : (n client : ℕ) → hits n client ≤ 1
hits_once zero client = omega arith
hits_once (suc n) client = by (hits_once n client) (nat_eq client n) refl
  where
    same : nat_eq client n ≡ true → client ≡ n
    same is = grind (arith, is)

    by : hits n client ≤ 1 → (b : Bool) → nat_eq client n ≡ b → hits (suc n) client ≤ 1
    by rest true is = let here = hits_by n client true is in let one = same is in let none = beyond n client (omega (arith, one)) in omega (arith, here, none)
    by rest false is = let here = hits_by n client false is in omega (arith, here, rest)

hits_below : (n client : ℕ) → client < n → hits n client ≡ 1
hits_below zero client lt = absurd (omega (arith, lt))
hits_below (suc n) client lt = by (λ less. hits_below n client less) (nat_eq client n) refl
  where
    same : nat_eq client n ≡ true → client ≡ n
    same is = grind (arith, is)

    apart : nat_eq client n ≡ false → client < n
    apart is = grind (arith, is, lt)

    by : (client < n → hits n client ≡ 1) → (b : Bool) → nat_eq client n ≡ b → hits (suc n) client ≡ 1
    by rest true is = let here = hits_by n client true is in let one = same is in let none = beyond n client (omega (arith, one)) in omega (arith, here, none)
    by rest false is = let here = hits_by n client false is in let less = rest (apart is) in omega (arith, here, less)

-- all below are counted once, and none more often
counted : (n : ℕ) (requests : List Request) → below n requests ≤ length requests
counted zero [] = omega arith
counted (suc n) [] = let rest = counted n [] in omega (arith, rest)
counted n (request ∷ requests) = let more = counts_more n request requests in let once = hits_once n request.client in let rest = counted n requests in omega (arith, more, once, rest)

-- those of clients that are all below this one
abbrev AreBelow : ℕ → List Request → Type 0
AreBelow n requests = AllByRecursion (λ (request : Request). request.client < n) requests

all_counted : (n : ℕ) (requests : List Request) → AreBelow n requests → length requests ≤ below n requests
all_counted n [] all = omega arith
all_counted n (request ∷ requests) all =
    let more = counts_more n request requests in
    let once = hits_below n request.client all.0 in
    let rest = all_counted n requests all.1 in
    omega (arith, more, once, rest)

asked_below : (n : ℕ) (journal : List Entry) → AllByRecursion (λ (entry : Entry). entry.client < n) journal → AreBelow n (requests_of journal)
asked_below n [] all = tt
asked_below n (entry ∷ journal) all = (all.0, asked_below n journal all.1)

no_more : (n : ℕ) (one two : List Request) → ((client : ℕ) → length (commands_of client one) ≤ length (commands_of client two)) → below n one ≤ below n two
no_more zero one two each = omega arith
no_more (suc n) one two each = let here = each n in let rest = no_more n one two each in omega (arith, here, rest)

-- ---- two lists

-- a list whose clients are all below this one is no longer than one in which each client has as many at least
not_longer : (n : ℕ) (one two : List Request) → AreBelow n one → ((client : ℕ) → length (commands_of client one) ≤ length (commands_of client two)) → length one ≤ length two
not_longer n one two all each =
    let first = all_counted n one all in
    let second = no_more n one two each in
    let third = counted n two in
    omega (arith, first, second, third)

-- and so is a journal
pub no_longer : (n : ℕ) (journal : List Entry) (asked : List Request) → AllByRecursion (λ (entry : Entry). entry.client < n) journal → ((client : ℕ) → length (part client journal) ≤ length (commands_of client asked)) → length journal ≤ length asked
no_longer n journal asked all each =
    let long : length (requests_of journal) ≡ length journal = length-map journal _ in
    let less = not_longer n (requests_of journal) asked (asked_below n journal all) each in
    omega (arith, long, less)

-- a number above all clients
abbrev pub above : List Request → ℕ
above [] = 0
above (request ∷ requests) = suc request.client + above requests

all_below : (n : ℕ) (requests : List Request) → above requests ≤ n → AreBelow n requests
all_below n [] most = tt
all_below n (request ∷ requests) most = (omega (arith, most), all_below n requests (omega (arith, most)))

-- two in which each client has the same are equally long
pub as_long : (one two : List Request) → ((client : ℕ) → commands_of client one ≡ commands_of client two) → length one ≡ length two
as_long one two same =
    let less = not_longer (above one) one two (all_below (above one) one (omega arith)) (λ client. let long = ap length (same client) in omega (arith, long)) in
    let more = not_longer (above two) two one (all_below (above two) two (omega arith)) (λ client. let long = ap length (same client) in omega (arith, long)) in
    omega (arith, less, more)

-- who is above all clients has none
pub none_above : (client : ℕ) (requests : List Request) → above requests ≤ client → commands_of client requests ≡ []
none_above client [] most = refl
none_above client (request ∷ requests) most = by (none_above client requests (omega (arith, most))) (apart request.client (omega (arith, most)))
  where
    apart : (n : ℕ) → n < client → nat_eq n client ≡ false
    apart n less = grind (arith, less)

    by : commands_of client requests ≡ [] → nat_eq request.client client ≡ false → commands_of client (request ∷ requests) ≡ []
    by rest is = rw is rest
