-- Whose entries those of a log are, where each worker has the entries of its number.
use Rattle.std.proofs.Common.{◌≡◌, ◌≢◌, ◌⊎◌, inl, inr, ⊎_elim, ℕ, ◌<◌, Bool, true, false, cond, if◌then◌else◌, nat_eq, List, [], ◌∷◌, ◌++◌, map, Option, None, arith, refl, ap, sym, subst, ◌∙◌}
use Rattle.std.specs.List.{AllByRecursion, filter}
use Rattle.std.specs.VecDeque.{deque_items}
use Rattle.std.proofs.lemmas.List.{append-nil}
use Rattle.pm_types.specs.declared.command.Cmd.{Cmd}
use Rattle.pm_types.specs.declared.entry.Entry.{Entry}
use Rattle.pm_types.specs.declared.limits.TheConstants.{CLIENTS}
use Rattle.pm_model.specs.Journal.{part}
use Rattle.pm_passes.specs.Views.{AreApart as NumbersApart, Has, calls_by}
use Rattle.pm_seats.specs.declared.fault.SeatFault.{SeatFault}
use Rattle.pm_seats.specs.Sharing.{entries_of}
use Rattle.pm_callers.specs.declared.task.Task.{Task}
use Rattle.pm_callers.specs.declared.task.Task.TheVariants.{Client, Collector, Flusher}
use Rattle.pm_callers.specs.Tasks.{AreApart, IsTask, calls_in, calls_left, who_of}
use Rattle.pm_callers.specs.Works.{Answers, Each}

abbrev pub Log : Type 0
Log = List (ℕ × Entry)

abbrev pub Pairs : Type 0
Pairs = List (ℕ × List Entry)

abbrev Mets : Type 0
Mets = List (Option SeatFault)

same-true : (a b : ℕ) → nat_eq a b ≡ true → a ≡ b
same-true a b is = grind (arith, is)

eq-true : (a b : ℕ) → a ≡ b → nat_eq a b ≡ true
eq-true a b is = grind (arith, is)

eq-false : (a b : ℕ) → (a ≡ b → ⊥) → nat_eq a b ≡ false
eq-false a b apart = grind (arith, apart)

apart-false : (a b : ℕ) → nat_eq a b ≡ false → a ≡ b → ⊥
apart-false a b is same = let yes = eq-true a b same in let never : true ≡ false = sym yes ∙ is in cc never

-- ---- what holds of each entry of each number holds of the log

pub all_front : (P : ℕ → Entry → Type 0) (front : Log) → ((n : ℕ) → AllByRecursion (P n) (calls_by n front)) → AllByRecursion (λ (x : ℕ × Entry). P x.0 x.1) front
all_front P [] known = tt
all_front P (x ∷ front) known = (here, all_front P front rest)
  where
    kept : (n : ℕ) (b : Bool) → nat_eq x.0 n ≡ b → calls_by n (x ∷ front) ≡ map (λ (y : ℕ × Entry). y.1) (cond b (x ∷ filter (λ (y : ℕ × Entry). nat_eq y.0 n) front) (filter (λ (y : ℕ × Entry). nat_eq y.0 n) front))
    kept n b is = ap (λ (c : Bool). map (λ (y : ℕ × Entry). y.1) (cond c (x ∷ filter (λ (y : ℕ × Entry). nat_eq y.0 n) front) (filter (λ (y : ℕ × Entry). nat_eq y.0 n) front))) is

    here : P x.0 x.1
    here = (subst (AllByRecursion (P x.0)) (kept x.0 true (eq-true x.0 x.0 refl)) (known x.0)).0

    rest_by : (n : ℕ) (b : Bool) → nat_eq x.0 n ≡ b → AllByRecursion (P n) (calls_by n front)
    rest_by n true is = (subst (AllByRecursion (P n)) (kept n true is) (known n)).1
    rest_by n false is = subst (AllByRecursion (P n)) (kept n false is) (known n)

    rest : (n : ℕ) → AllByRecursion (P n) (calls_by n front)
    rest n = rest_by n (nat_eq x.0 n) refl

module _ (P : ℕ → Entry → Type 0) (front : Log) where
  of_pairs : (pairs : Pairs) → AllByRecursion (λ (p : ℕ × List Entry). AllByRecursion (P p.0) p.1) pairs → AllByRecursion (λ (p : ℕ × List Entry). calls_by p.0 front ≡ p.1) pairs → (n : ℕ) → Has pairs n → AllByRecursion (P n) (calls_by n front)
  of_pairs [] all own n has = absurd has
  of_pairs (p ∷ pairs) all own n has =
      ⊎_elim (λ (is : p.0 ≡ n). subst (λ (m : ℕ). AllByRecursion (P m) (calls_by m front)) is (subst (AllByRecursion (P p.0)) (sym own.0) all.0)) (λ there. of_pairs pairs all.1 own.1 n there) has

  -- and so does what holds of the entries of each pair, where all numbers are those of pairs
  pub pairs_front : (pairs : Pairs) → AllByRecursion (λ (p : ℕ × List Entry). AllByRecursion (P p.0) p.1) pairs → AllByRecursion (λ (p : ℕ × List Entry). calls_by p.0 front ≡ p.1) pairs → ((n : ℕ) → (calls_by n front ≡ []) ⊎ Has pairs n) → AllByRecursion (λ (x : ℕ × Entry). P x.0 x.1) front
  pairs_front pairs all own covers = all_front P front by_number
    where
      by_number : (n : ℕ) → AllByRecursion (P n) (calls_by n front)
      by_number n = ⊎_elim (λ (none : calls_by n front ≡ []). subst (AllByRecursion (P n)) (sym none) tt) (λ has. of_pairs pairs all own n has) (covers n)

-- ---- the commands of a client, and those of numbers

abbrev pub commands_by : (ℕ → Bool) → Log → List Cmd
commands_by test front = map (λ (x : ℕ × Entry). x.1.cmd) (filter (λ (x : ℕ × Entry). test x.0) front)

none_by : (front : Log) → commands_by (λ _. false) front ≡ []
none_by [] = refl
none_by (x ∷ front) = none_by front

numbered_by : (n : ℕ) (front : Log) → commands_by (λ m. nat_eq m n) front ≡ map (λ (entry : Entry). entry.cmd) (calls_by n front)
numbered_by n [] = refl
numbered_by n (x ∷ front) = by (numbered_by n front) (nat_eq x.0 n) refl
  where
    by : commands_by (λ m. nat_eq m n) front ≡ map (λ (entry : Entry). entry.cmd) (calls_by n front) → (b : Bool) → nat_eq x.0 n ≡ b → commands_by (λ m. nat_eq m n) (x ∷ front) ≡ map (λ (entry : Entry). entry.cmd) (calls_by n (x ∷ front))
    by rest true is = rw is (ap (λ (l : List Cmd). x.1.cmd ∷ l) rest)
    by rest false is = rw is rest

pub part_by : (client : ℕ) (test : ℕ → Bool) (front : Log) → AllByRecursion (λ (x : ℕ × Entry). nat_eq x.1.client client ≡ test x.0) front → part client (entries_of front) ≡ commands_by test front
part_by client test [] agree = refl
part_by client test (x ∷ front) agree = by (part_by client test front agree.1) (test x.0) refl
  where
    by : part client (entries_of front) ≡ commands_by test front → (b : Bool) → test x.0 ≡ b → part client (entries_of (x ∷ front)) ≡ commands_by test (x ∷ front)
    by rest true is = rw (is, agree.0 ∙ is) (ap (λ (l : List Cmd). x.1.cmd ∷ l) rest)
    by rest false is = rw (is, agree.0 ∙ is) rest

-- ---- who has no task of a client

module _ (client : ℕ) where
  abbrev NotOf : List Task → Type 0
  NotOf tasks = AllByRecursion (λ (other : Task). client ≢ who_of other) tasks

  pub no_calls : (task left : Task) (entries : List Entry) → client ≢ who_of task → Answers task left entries → (calls_in client task ≡ []) × (calls_in client left ≡ [])
  no_calls (Client who commands) (Client same left) entries apart answers =
      let one = eq-false who client (λ is. apart (sym is)) in
      let two = eq-false same client (λ is. apart (sym is ∙ answers.0)) in
      (ap (λ (b : Bool). if b then deque_items commands else []) one, ap (λ (b : Bool). if b then deque_items left else []) two)
  no_calls (Client who commands) (Collector left) entries apart answers = absurd answers
  no_calls (Client who commands) (Flusher left) entries apart answers = absurd answers
  no_calls (Collector count) (Client same left) entries apart answers = absurd answers
  no_calls (Collector count) (Collector left) entries apart answers = (refl, refl)
  no_calls (Collector count) (Flusher left) entries apart answers = absurd answers
  no_calls (Flusher count) (Client same left) entries apart answers = absurd answers
  no_calls (Flusher count) (Collector left) entries apart answers = absurd answers
  no_calls (Flusher count) (Flusher left) entries apart answers = (refl, refl)

  -- a task of which nothing was done
  no_calls_in : (task : Task) → client ≢ who_of task → calls_in client task ≡ []
  no_calls_in (Client who commands) apart = ap (λ (b : Bool). if b then deque_items commands else []) (eq-false who client (λ is. apart (sym is)))
  no_calls_in (Collector count) apart = refl
  no_calls_in (Flusher count) apart = refl

  -- whose entries are another's
  others_entries : (task left : Task) (entries : List Entry) → client ≢ who_of task → Answers task left entries → AllByRecursion (λ (entry : Entry). nat_eq entry.client client ≡ false) entries
  others_entries (Client who commands) (Client same left) entries apart answers = walk entries answers.1
    where
      walk : (entries : List Entry) → AllByRecursion (λ (entry : Entry). entry.client ≡ who) entries → AllByRecursion (λ (entry : Entry). nat_eq entry.client client ≡ false) entries
      walk [] all = tt
      walk (entry ∷ entries) all = (eq-false entry.client client (λ is. apart (sym is ∙ all.0)), walk entries all.1)
  others_entries (Client who commands) (Collector left) entries apart answers = absurd answers
  others_entries (Client who commands) (Flusher left) entries apart answers = absurd answers
  others_entries (Collector count) (Client same left) entries apart answers = absurd answers
  others_entries (Collector count) (Collector left) entries apart answers = subst (AllByRecursion (λ (entry : Entry). nat_eq entry.client client ≡ false)) (sym answers.1) tt
  others_entries (Collector count) (Flusher left) entries apart answers = absurd answers
  others_entries (Flusher count) (Client same left) entries apart answers = absurd answers
  others_entries (Flusher count) (Collector left) entries apart answers = absurd answers
  others_entries (Flusher count) (Flusher left) entries apart answers = subst (AllByRecursion (λ (entry : Entry). nat_eq entry.client client ≡ false)) (sym answers.1) tt

  -- the client's own
  own_entries : (who : ℕ) (entries : List Entry) → who ≡ client → AllByRecursion (λ (entry : Entry). entry.client ≡ who) entries → AllByRecursion (λ (entry : Entry). nat_eq entry.client client ≡ true) entries
  own_entries who [] is all = tt
  own_entries who (entry ∷ entries) is all = (eq-true entry.client client (all.0 ∙ is), own_entries who entries is all.1)

  -- none of these tasks is the client's
  pub record NoneOf (tasks lefts : List Task) (pairs : Pairs) : Type 0 where
    pub was : calls_left client tasks ≡ []
    pub is : calls_left client lefts ≡ []
    pub entries : AllByRecursion (λ (p : ℕ × List Entry). AllByRecursion (λ (entry : Entry). nat_eq entry.client client ≡ false) p.1) pairs

  none_of : (tasks lefts : List Task) (mets : Mets) (pairs : Pairs) → NotOf tasks → Each tasks lefts mets pairs → NoneOf tasks lefts pairs
  none_of [] [] [] pairs apart each = record { was = refl; is = refl; entries = subst (AllByRecursion (λ (p : ℕ × List Entry). AllByRecursion (λ (entry : Entry). nat_eq entry.client client ≡ false) p.1)) (sym each) tt }
  none_of [] [] (m ∷ mets) pairs apart each = absurd each
  none_of [] (l ∷ lefts) mets pairs apart each = absurd each
  none_of (t ∷ tasks) [] mets pairs apart each = absurd each
  none_of (t ∷ tasks) (l ∷ lefts) [] pairs apart each = absurd each
  none_of (t ∷ tasks) (l ∷ lefts) (m ∷ mets) pairs apart each = ⊎_elim (taken (λ others of. none_of tasks lefts mets others apart.1 of)) (skipped (λ others of. none_of tasks lefts mets others apart.1 of)) each.1
    where
      taken : ((others : Pairs) → Each tasks lefts mets others → NoneOf tasks lefts others) → ((pair : ℕ × List Entry) × (others : Pairs) × (pairs ≡ pair ∷ others) × Answers t l pair.1 × Each tasks lefts mets others) → NoneOf (t ∷ tasks) (l ∷ lefts) pairs
      taken onward x =
          let rest = onward x.1 x.4 in
          let here = no_calls t l x.0.1 apart.0 x.3 in
          record {
            was = (λ i. here.0 i ++ rest.was i);
            is = (λ i. here.1 i ++ rest.is i);
            entries = subst (AllByRecursion (λ (p : ℕ × List Entry). AllByRecursion (λ (entry : Entry). nat_eq entry.client client ≡ false) p.1)) (sym x.2) (others_entries t l x.0.1 apart.0 x.3, rest.entries);
          }

      skipped : ((others : Pairs) → Each tasks lefts mets others → NoneOf tasks lefts others) → (l ≡ t) × Each tasks lefts mets pairs → NoneOf (t ∷ tasks) (l ∷ lefts) pairs
      skipped onward x =
          let rest = onward pairs x.1 in
          let here = no_calls_in t apart.0 in
          record { was = (λ i. here i ++ rest.was i); is = (λ i. (ap (calls_in client) x.0 ∙ here) i ++ rest.is i); entries = rest.entries }

  -- ---- the numbers whose entries are the client's

  -- a number is the client's where this test passes it
  pub record OfClient (front : Log) (tasks lefts : List Task) (pairs : Pairs) : Type 0 where
    pub test : ℕ → Bool
    pub only : (n : ℕ) → test n ≡ true → Has pairs n
    pub agrees : AllByRecursion (λ (p : ℕ × List Entry). AllByRecursion (λ (entry : Entry). nat_eq entry.client client ≡ test p.0) p.1) pairs
    pub said : commands_by test front ++ calls_left client lefts ≡ calls_left client tasks

  no_front : (xs ys : List Cmd) → xs ++ ys ≡ [] → xs ≡ []
  no_front [] ys is = refl
  no_front (x ∷ xs) ys is = absurd (cc is)

  -- nothing of the others is the client's
  beside_none : (front : Log) (tasks lefts : List Task) (a : List Cmd) (test : ℕ → Bool) → calls_left client tasks ≡ [] → calls_left client lefts ≡ [] → commands_by test front ++ calls_left client lefts ≡ calls_left client tasks → commands_by test front ++ (a ++ calls_left client lefts) ≡ a ++ calls_left client tasks
  beside_none front tasks lefts a test was is said =
      let none = no_front (commands_by test front) (calls_left client lefts) (said ∙ was) in
      (λ i. none i ++ (a ++ calls_left client lefts)) ∙ ap (λ (l : List Cmd). a ++ l) (is ∙ sym was)

  -- and nothing of this one is
  before_none : (front : Log) (tasks lefts : List Task) (a b : List Cmd) (test : ℕ → Bool) → a ≡ [] → b ≡ [] → commands_by test front ++ calls_left client lefts ≡ calls_left client tasks → commands_by test front ++ (b ++ calls_left client lefts) ≡ a ++ calls_left client tasks
  before_none front tasks lefts a b test nothing none said =
      ap (λ (l : List Cmd). commands_by test front ++ (l ++ calls_left client lefts)) none ∙ said ∙ ap (λ (l : List Cmd). l ++ calls_left client tasks) (sym nothing)

  -- the tests of a number that is of no pair, and of pairs of other numbers
  fails_at : (pairs : Pairs) (test : ℕ → Bool) (n : ℕ) → ((m : ℕ) → test m ≡ true → Has pairs m) → (Has pairs n → ⊥) → test n ≡ false
  fails_at pairs test n only apart = by (test n) refl
    where
      by : (b : Bool) → test n ≡ b → test n ≡ false
      by true is = absurd (apart (only n is))
      by false is = is

  others_fail : (n : ℕ) (pairs : Pairs) → (Has pairs n → ⊥) → AllByRecursion (λ (p : ℕ × List Entry). AllByRecursion (λ (entry : Entry). nat_eq entry.client client ≡ false) p.1) pairs → AllByRecursion (λ (p : ℕ × List Entry). AllByRecursion (λ (entry : Entry). nat_eq entry.client client ≡ nat_eq p.0 n) p.1) pairs
  others_fail n [] apart all = tt
  others_fail n (p ∷ pairs) apart all =
      (subst (λ (b : Bool). AllByRecursion (λ (entry : Entry). nat_eq entry.client client ≡ b) p.1) (sym (eq-false p.0 n (λ is. apart (inl is)))) all.0, others_fail n pairs (λ has. apart (inr has)) all.1)

  -- the client's own task, and its pair
  its_own : (front : Log) (who : ℕ) (was is : List Cmd) (n : ℕ) (entries : List Entry) (tasks lefts : List Task) (pairs : Pairs) → who ≡ client → AllByRecursion (λ (entry : Entry). entry.client ≡ who) entries → map (λ (entry : Entry). entry.cmd) entries ++ is ≡ was → calls_by n front ≡ entries → (Has pairs n → ⊥) → NoneOf tasks lefts pairs
      → (test : ℕ → Bool) × ((m : ℕ) → test m ≡ true → Has ((n, entries) ∷ pairs) m) × AllByRecursion (λ (p : ℕ × List Entry). AllByRecursion (λ (entry : Entry). nat_eq entry.client client ≡ test p.0) p.1) ((n, entries) ∷ pairs) × (commands_by test front ++ (is ++ calls_left client lefts) ≡ was ++ calls_left client tasks)
  its_own front who was is n entries tasks lefts pairs same all answered own apart none =
      let commands = map (λ (entry : Entry). entry.cmd) entries in
      let here : commands_by (λ m. nat_eq m n) front ≡ commands = numbered_by n front ∙ ap (λ (l : List Entry). map (λ (entry : Entry). entry.cmd) l) own in (
        (λ m. nat_eq m n),
        (λ m yes. inl (sym (same-true m n yes))),
        (subst (λ (b : Bool). AllByRecursion (λ (entry : Entry). nat_eq entry.client client ≡ b) entries) (sym (eq-true n n refl)) (own_entries who entries same all), others_fail n pairs apart none.entries),
        (λ i. here i ++ (is ++ none.is i)) ∙ ap (λ (l : List Cmd). commands ++ l) (append-nil is) ∙ answered ∙ sym (append-nil was) ∙ (λ i. was ++ sym none.was i),
      )

  module _ (front : Log) (task left : Task) (met : Option SeatFault) (tasks lefts : List Task) (pairs : Pairs) (n : ℕ) (entries : List Entry) (own : calls_by n front ≡ entries) (apart : Has pairs n → ⊥) (rest : OfClient front tasks lefts pairs) where
    -- one more task of another
    one_more : (calls_in client task ≡ []) × (calls_in client left ≡ []) → AllByRecursion (λ (entry : Entry). nat_eq entry.client client ≡ false) entries → OfClient front (task ∷ tasks) (left ∷ lefts) ((n, entries) ∷ pairs)
    one_more calls others = record {
      test = rest.test;
      only = λ m yes. inr (rest.only m yes);
      agrees = (subst (λ (b : Bool). AllByRecursion (λ (entry : Entry). nat_eq entry.client client ≡ b) entries) (sym (fails_at pairs rest.test n rest.only apart)) others, rest.agrees);
      said = before_none front tasks lefts (calls_in client task) (calls_in client left) rest.test calls.0 calls.1 rest.said;
    }

  module _ (front : Log) (tasks lefts : List Task) (mets : Mets) (pairs : Pairs) (n : ℕ) (entries : List Entry) (own : calls_by n front ≡ entries) (apart : Has pairs n → ⊥) (each : Each tasks lefts mets pairs) (rest : OfClient front tasks lefts pairs) where
    one_task : (task left : Task) → AllByRecursion (λ (other : Task). who_of task ≢ who_of other) tasks → Answers task left entries → OfClient front (task ∷ tasks) (left ∷ lefts) ((n, entries) ∷ pairs)
    one_task (Client who commands) (Client same left) differ answers = by (nat_eq who client) refl
      where
        by : (b : Bool) → nat_eq who client ≡ b → OfClient front (Client who commands ∷ tasks) (Client same left ∷ lefts) ((n, entries) ∷ pairs)
        by true is =
            let who_is = same-true who client is in
            let none = none_of tasks lefts mets pairs (subst (λ (c : ℕ). AllByRecursion (λ (other : Task). c ≢ who_of other) tasks) who_is differ) each in
            let x = its_own front who (deque_items commands) (deque_items left) n entries tasks lefts pairs who_is answers.1 answers.2 own apart none in
            let was = ap (λ (b : Bool). if b then deque_items commands else []) is in
            let now = ap (λ (b : Bool). if b then deque_items left else []) (eq-true same client (answers.0 ∙ who_is)) in
            record {
              test = x.0;
              only = x.1;
              agrees = x.2;
              said = (λ i. commands_by x.0 front ++ (now i ++ calls_left client lefts)) ∙ x.3 ∙ (λ i. sym was i ++ calls_left client tasks);
            }
        by false is =
            let other : client ≢ who = λ same_one. apart-false who client is (sym same_one) in
            one_more front (Client who commands) (Client same left) None tasks lefts pairs n entries own apart rest (no_calls (Client who commands) (Client same left) entries other answers) (others_entries (Client who commands) (Client same left) entries other answers)
    one_task (Client who commands) (Collector left) differ answers = absurd answers
    one_task (Client who commands) (Flusher left) differ answers = absurd answers
    one_task (Collector count) (Client same left) differ answers = absurd answers
    one_task (Collector count) (Collector left) differ answers = one_more front (Collector count) (Collector left) None tasks lefts pairs n entries own apart rest (refl, refl) (subst (AllByRecursion (λ (entry : Entry). nat_eq entry.client client ≡ false)) (sym answers.1) tt)
    one_task (Collector count) (Flusher left) differ answers = absurd answers
    one_task (Flusher count) (Client same left) differ answers = absurd answers
    one_task (Flusher count) (Collector left) differ answers = absurd answers
    one_task (Flusher count) (Flusher left) differ answers = one_more front (Flusher count) (Flusher left) None tasks lefts pairs n entries own apart rest (refl, refl) (subst (AllByRecursion (λ (entry : Entry). nat_eq entry.client client ≡ false)) (sym answers.1) tt)

  -- a task of which nothing was done
  one_skipped : (front : Log) (task left : Task) (tasks lefts : List Task) (mets : Mets) (pairs : Pairs) → left ≡ task → AllByRecursion (λ (other : Task). who_of task ≢ who_of other) tasks → Each tasks lefts mets pairs → OfClient front tasks lefts pairs → OfClient front (task ∷ tasks) (left ∷ lefts) pairs
  one_skipped front task left tasks lefts mets pairs same differ each rest = by (nat_eq (who_of task) client) refl
    where
      with_said : commands_by rest.test front ++ (calls_in client task ++ calls_left client lefts) ≡ calls_in client task ++ calls_left client tasks → OfClient front (task ∷ tasks) (left ∷ lefts) pairs
      with_said said = record { test = rest.test; only = rest.only; agrees = rest.agrees; said = ap (λ (t : Task). commands_by rest.test front ++ (calls_in client t ++ calls_left client lefts)) same ∙ said }

      by : (b : Bool) → nat_eq (who_of task) client ≡ b → OfClient front (task ∷ tasks) (left ∷ lefts) pairs
      by true is =
          let none = none_of tasks lefts mets pairs (subst (λ (c : ℕ). AllByRecursion (λ (other : Task). c ≢ who_of other) tasks) (same-true (who_of task) client is) differ) each in
          with_said (beside_none front tasks lefts (calls_in client task) rest.test none.was none.is rest.said)
      by false is =
          let gone = no_calls_in task (λ same_one. apart-false (who_of task) client is (sym same_one)) in
          with_said (before_none front tasks lefts (calls_in client task) (calls_in client task) rest.test gone gone rest.said)

  -- the same of the tasks behind the first
  abbrev Onward : Log → List Task → List Task → Mets → Type 0
  Onward front tasks lefts mets = (others : Pairs) → NumbersApart others → AllByRecursion (λ (p : ℕ × List Entry). calls_by p.0 front ≡ p.1) others → Each tasks lefts mets others → OfClient front tasks lefts others

  of_client : (front : Log) (tasks lefts : List Task) (mets : Mets) (pairs : Pairs) → AreApart tasks → NumbersApart pairs → AllByRecursion (λ (p : ℕ × List Entry). calls_by p.0 front ≡ p.1) pairs → Each tasks lefts mets pairs → OfClient front tasks lefts pairs
  of_client front [] [] [] pairs apart numbers own each = record {
    test = λ _. false;
    only = λ n yes. absurd (cc yes);
    agrees = subst (AllByRecursion (λ (p : ℕ × List Entry). AllByRecursion (λ (entry : Entry). nat_eq entry.client client ≡ false) p.1)) (sym each) tt;
    said = append-nil (commands_by (λ _. false) front) ∙ none_by front;
  }
  of_client front [] [] (m ∷ mets) pairs apart numbers own each = absurd each
  of_client front [] (l ∷ lefts) mets pairs apart numbers own each = absurd each
  of_client front (t ∷ tasks) [] mets pairs apart numbers own each = absurd each
  of_client front (t ∷ tasks) (l ∷ lefts) [] pairs apart numbers own each = absurd each
  of_client front (t ∷ tasks) (l ∷ lefts) (m ∷ mets) pairs apart numbers own each =
      let onward : Onward front tasks lefts mets = λ others numbered owned of. of_client front tasks lefts mets others apart.1 numbered owned of in
      ⊎_elim (taken onward) (skipped onward) each.1
    where
      taken : Onward front tasks lefts mets → ((pair : ℕ × List Entry) × (others : Pairs) × (pairs ≡ pair ∷ others) × Answers t l pair.1 × Each tasks lefts mets others) → OfClient front (t ∷ tasks) (l ∷ lefts) pairs
      taken onward x =
          let numbers_are : NumbersApart (x.0 ∷ x.1) = subst NumbersApart x.2 numbers in
          let owns = subst (AllByRecursion (λ (p : ℕ × List Entry). calls_by p.0 front ≡ p.1)) x.2 own in
          subst (OfClient front (t ∷ tasks) (l ∷ lefts)) (sym x.2)
          (one_task front tasks lefts mets x.1 x.0.0 x.0.1 owns.0 numbers_are.0 x.4 (onward x.1 numbers_are.1 owns.1 x.4) t l apart.0 x.3)

      skipped : Onward front tasks lefts mets → (l ≡ t) × Each tasks lefts mets pairs → OfClient front (t ∷ tasks) (l ∷ lefts) pairs
      skipped onward x = one_skipped front t l tasks lefts mets pairs x.0 apart.0 x.1 (onward pairs numbers own x.1)

  -- what was answered of a client, and what is left, are its commands
  pub its_part : (front : Log) (tasks lefts : List Task) (mets : Mets) (pairs : Pairs) → AreApart tasks → NumbersApart pairs → AllByRecursion (λ (p : ℕ × List Entry). calls_by p.0 front ≡ p.1) pairs → ((n : ℕ) → (calls_by n front ≡ []) ⊎ Has pairs n) → Each tasks lefts mets pairs
      → part client (entries_of front) ++ calls_left client lefts ≡ calls_left client tasks
  its_part front tasks lefts mets pairs apart numbers own covers each =
      let of = of_client front tasks lefts mets pairs apart numbers own each in
      let agree = pairs_front (λ n entry. nat_eq entry.client client ≡ of.test n) front pairs of.agrees own covers in
      ap (λ (l : List Cmd). l ++ calls_left client lefts) (part_by client of.test front agree) ∙ of.said

-- ---- that all are entries of clients

of_clients : (entries : List Entry) (client : ℕ) → client < CLIENTS → AllByRecursion (λ (entry : Entry). entry.client ≡ client) entries → AllByRecursion (λ (entry : Entry). entry.client < CLIENTS) entries
of_clients [] client below all = tt
of_clients (entry ∷ entries) client below all = (subst (λ (c : ℕ). c < CLIENTS) (sym all.0) below, of_clients entries client below all.1)

one_clients : (task left : Task) (entries : List Entry) → IsTask task → Answers task left entries → AllByRecursion (λ (entry : Entry). entry.client < CLIENTS) entries
one_clients (Client who commands) (Client same left) entries is answers = of_clients entries who is answers.1
one_clients (Client who commands) (Collector left) entries is answers = absurd answers
one_clients (Client who commands) (Flusher left) entries is answers = absurd answers
one_clients (Collector count) (Client same left) entries is answers = absurd answers
one_clients (Collector count) (Collector left) entries is answers = subst (AllByRecursion (λ (entry : Entry). entry.client < CLIENTS)) (sym answers.1) tt
one_clients (Collector count) (Flusher left) entries is answers = absurd answers
one_clients (Flusher count) (Client same left) entries is answers = absurd answers
one_clients (Flusher count) (Collector left) entries is answers = absurd answers
one_clients (Flusher count) (Flusher left) entries is answers = subst (AllByRecursion (λ (entry : Entry). entry.client < CLIENTS)) (sym answers.1) tt

each_clients : (tasks lefts : List Task) (mets : Mets) (pairs : Pairs) → AllByRecursion IsTask tasks → Each tasks lefts mets pairs → AllByRecursion (λ (p : ℕ × List Entry). AllByRecursion (λ (entry : Entry). entry.client < CLIENTS) p.1) pairs
each_clients [] [] [] pairs are each = subst (AllByRecursion (λ (p : ℕ × List Entry). AllByRecursion (λ (entry : Entry). entry.client < CLIENTS) p.1)) (sym each) tt
each_clients [] [] (m ∷ mets) pairs are each = absurd each
each_clients [] (l ∷ lefts) mets pairs are each = absurd each
each_clients (t ∷ tasks) [] mets pairs are each = absurd each
each_clients (t ∷ tasks) (l ∷ lefts) [] pairs are each = absurd each
each_clients (t ∷ tasks) (l ∷ lefts) (m ∷ mets) pairs are each =
    ⊎_elim
    (λ (x : (pair : ℕ × List Entry) × (others : Pairs) × (pairs ≡ pair ∷ others) × Answers t l pair.1 × Each tasks lefts mets others).
    subst (AllByRecursion (λ (p : ℕ × List Entry). AllByRecursion (λ (entry : Entry). entry.client < CLIENTS) p.1)) (sym x.2) (one_clients t l x.0.1 are.0 x.3, each_clients tasks lefts mets x.1 are.1 x.4))
    (λ (x : (l ≡ t) × Each tasks lefts mets pairs). each_clients tasks lefts mets pairs are.1 x.1) each.1

second_all : (P : Entry → Type 0) (front : Log) → AllByRecursion (λ (x : ℕ × Entry). P x.1) front → AllByRecursion P (entries_of front)
second_all P [] all = tt
second_all P (x ∷ front) all = (all.0, second_all P front all.1)

pub all_clients : (front : Log) (tasks lefts : List Task) (mets : Mets) (pairs : Pairs) → AllByRecursion IsTask tasks → AllByRecursion (λ (p : ℕ × List Entry). calls_by p.0 front ≡ p.1) pairs → ((n : ℕ) → (calls_by n front ≡ []) ⊎ Has pairs n) → Each tasks lefts mets pairs → AllByRecursion (λ (entry : Entry). entry.client < CLIENTS) (entries_of front)
all_clients front tasks lefts mets pairs are own covers each =
    second_all (λ (entry : Entry). entry.client < CLIENTS) front (pairs_front (λ n entry. entry.client < CLIENTS) front pairs (each_clients tasks lefts mets pairs are each) own covers)
