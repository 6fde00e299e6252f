-- What workers do together, where their passes meet.
use Rattle.std.proofs.Common.{◌≡◌, ◌⊎◌, inl, inr, ⊎_elim, ℕ, ◌+◌, ◌<◌, ◌≤◌, ◌-◌, ◌/◌, max, false, true, List, [], ◌∷◌, ◌++◌, length, Option, Some, None, IfSome, Bool, suc, ◌*◌, ◌==◌, ◌^◌, arith, refl, ap, sym, subst, ◌∙◌}
use lib.Pow.{pow_pos}
use native.Mathlib.Nat.{pow-suc}
use Rattle.std.specs.List.{AllByRecursion}
use Rattle.std.proofs.lemmas.List.{append-nil, append_assoc}
use Rattle.std.proofs.lemmas.Bool.Decides.{nat_tests}
use Rattle.pm_types.specs.declared.entry.Entry.{Entry}
use Rattle.pm_passes.specs.declared.view.View.{View}
use Rattle.pm_passes.specs.Numbering.{total}
use Rattle.pm_passes.specs.Passes.{FindsNoNumber, MeetsPass, SplitsPass}
use Rattle.pm_types.specs.declared.no_memory.NoMemory.{NoMemory}
use Rattle.pm_types.specs.declared.fault.EngineFault.TheVariants.{Memory}
use Rattle.pm_seats.specs.declared.fault.SeatFault.{SeatFault}
use Rattle.pm_seats.specs.declared.fault.SeatFault.TheVariants.{Engine as Answered}
use Rattle.pm_callers.specs.declared.task.Task.{Task}
use Rattle.pm_callers.specs.Tasks.{IsTask, collects_in, flushes_in}
use Rattle.pm_callers.specs.Faults.{is_disk, worse_of}
use Rattle.pm_callers.specs.Works.{Answers, Counts, Each, Ends, Told, Works, WorkTogether}
use Rattle.pm_callers.proofs.Stepping.{told_on}
use Rattle.pm_callers.proofs.Worst.{neither_disk, worse_none, worse_one, worst_more}

abbrev V : Type 0
V = View Entry

abbrev Mets : Type 0
Mets = List (Option SeatFault)

abbrev Pairs : Type 0
Pairs = List (ℕ × List Entry)

pub total_more : (f : Task → ℕ) (tasks : List Task) (task : Task) → total f (tasks ++ task ∷ []) ≡ total f tasks + f task
total_more f [] task = omega arith
total_more f (t ∷ tasks) task = let rest = total_more f tasks task in omega (arith, rest)

-- ---- one worker more

each_more : (tasks lefts : List Task) (mets : Mets) (pairs : Pairs) (task left : Task) (met : Option SeatFault) (more : Pairs) → Each tasks lefts mets pairs → Each (task ∷ []) (left ∷ []) (met ∷ []) more → Each (tasks ++ task ∷ []) (lefts ++ left ∷ []) (mets ++ met ∷ []) (pairs ++ more)
each_more [] [] [] pairs task left met more each one = subst (λ (p : Pairs). Each (task ∷ []) (left ∷ []) (met ∷ []) (p ++ more)) (sym each) one
each_more [] [] (m ∷ mets) pairs task left met more each one = absurd each
each_more [] (l ∷ lefts) mets pairs task left met more each one = absurd each
each_more (t ∷ tasks) [] mets pairs task left met more each one = absurd each
each_more (t ∷ tasks) (l ∷ lefts) [] pairs task left met more each one = absurd each
each_more (t ∷ tasks) (l ∷ lefts) (m ∷ mets) pairs task left met more each one = (each.0, ⊎_elim (taken (λ others of. each_more tasks lefts mets others task left met more of one)) (skipped (λ of. each_more tasks lefts mets pairs task left met more of one)) each.1)
  where
    taken : ((others : Pairs) → Each tasks lefts mets others → Each (tasks ++ task ∷ []) (lefts ++ left ∷ []) (mets ++ met ∷ []) (others ++ more)) → ((pair : ℕ × List Entry) × (others : Pairs) × (pairs ≡ pair ∷ others) × Answers t l pair.1 × Each tasks lefts mets others) → ((pair : ℕ × List Entry) × (others : Pairs) × (pairs ++ more ≡ pair ∷ others) × Answers t l pair.1 × Each (tasks ++ task ∷ []) (lefts ++ left ∷ []) (mets ++ met ∷ []) others) ⊎ ((l ≡ t) × Each (tasks ++ task ∷ []) (lefts ++ left ∷ []) (mets ++ met ∷ []) (pairs ++ more))
    taken onward x = inl (x.0, x.1 ++ more, ap (λ (p : Pairs). p ++ more) x.2, x.3, onward x.1 x.4)

    skipped : (Each tasks lefts mets pairs → Each (tasks ++ task ∷ []) (lefts ++ left ∷ []) (mets ++ met ∷ []) (pairs ++ more)) → (l ≡ t) × Each tasks lefts mets pairs → ((pair : ℕ × List Entry) × (others : Pairs) × (pairs ++ more ≡ pair ∷ others) × Answers t l pair.1 × Each (tasks ++ task ∷ []) (lefts ++ left ∷ []) (mets ++ met ∷ []) others) ⊎ ((l ≡ t) × Each (tasks ++ task ∷ []) (lefts ++ left ∷ []) (mets ++ met ∷ []) (pairs ++ more))
    skipped onward x = inr (x.0, onward x.1)

-- a worker with its pair, and one without
one_pair : (task left : Task) (met : Option SeatFault) (n : ℕ) (entries : List Entry) → Ends left met → Answers task left entries → Each (task ∷ []) (left ∷ []) (met ∷ []) ((n, entries) ∷ [])
one_pair task left met n entries ends answers = (ends, inl ((n, entries), [], refl, answers, refl))

no_pair : (task : Task) (met : Option SeatFault) → Ends task met → Each (task ∷ []) (task ∷ []) (met ∷ []) []
no_pair task met ends = (ends, inr (refl, refl))

-- ---- one worker by itself

pub alone : (base : ℕ) (task left : Task) (v w : V) (fault : Option SeatFault) → Works base task left v w fault → WorkTogether base (task ∷ []) (left ∷ []) v w fault
alone base task left v w fault works = record {
  entries = works.steps.entries;
  others = [];
  met = fault ∷ [];
  mine = works.steps.mine;
  ended = works.steps.ended ∙ sym (append-nil v.ended);
  each = one_pair task left fault v.number works.steps.entries works.ends works.steps.answers;
  worst = sym (worse_none fault);
  counts = works.steps.counts;
}

-- ---- two that meet

max_first : (a b : ℕ) → a ≤ max a b
max_first a b = omega arith

max_second : (a b : ℕ) → b ≤ max a b
max_second a b = omega arith

told_worse : (base : ℕ) (one two u : V) (f g : Option SeatFault) → Told base one f → Told base two g → one.struck ≤ u.struck → one.faults ≤ u.faults → one.events ≤ u.events → two.struck ≤ u.struck → two.faults ≤ u.faults → two.events ≤ u.events → Told base u (worse_of f g)
told_worse base one two u f g told_f told_g a b c d e h =
    ⊎_elim (λ (is : worse_of f g ≡ f). subst (Told base u) (sym is) (told_on base one u f told_f a b c)) (λ (is : worse_of f g ≡ g). subst (Told base u) (sym is) (told_on base two u g told_g d e h)) (worse_one f g)

module _ (base : ℕ) (tasks lefts : List Task) (task left : Task) (v v1 v2 one two u : V) (f g : Option SeatFault) (splits : SplitsPass v v1 v2) (together : WorkTogether base tasks lefts v1 one f) (works : Works base task left v2 two g) (meets : MeetsPass one two u) where
  counts_met : Counts base (tasks ++ task ∷ []) (lefts ++ left ∷ []) v u (worse_of f g)
  counts_met =
      let a = together.counts in
      let b = works.steps.counts in
      let first = splits.first in
      let second = splits.second in
      let met = meets.view in
      let half = v.shares / 2 in
      let shares_one = ap (λ (x : V). x.shares) first in
      let shares_two = ap (λ (x : V). x.shares) second in
      let shares_met = ap (λ (x : V). x.shares) met in
      let keep_one = a.shares in
      let keep_two = b.shares in
      let made_one = a.made in
      let made_two = b.made in
      let made_met = ap (λ (x : V). x.made) met in
      let made_v = ap (λ (x : V). x.made) first in
      let made_none = ap (λ (x : V). x.made) second in
      let flushed_one = a.flushed in
      let flushed_two = b.flushed in
      let flushed_met = ap (λ (x : V). x.flushed) met in
      let flushed_v = ap (λ (x : V). x.flushed) first in
      let flushed_none = ap (λ (x : V). x.flushed) second in
      let struck_met = ap (λ (x : V). x.struck) met in
      let struck_v = ap (λ (x : V). x.struck) first in
      let struck_none = ap (λ (x : V). x.struck) second in
      let strikes_one = a.strikes in
      let strikes_two = b.strikes in
      let faults_met = ap (λ (x : V). x.faults) met in
      let faults_v = ap (λ (x : V). x.faults) first in
      let faults_one = a.faults in
      let events_met = ap (λ (x : V). x.events) met in
      let events_v = ap (λ (x : V). x.events) first in
      let events_one = a.events in
      let collects_was = total_more collects_in tasks task in
      let collects_is = total_more collects_in lefts left in
      let flushes_was = total_more flushes_in tasks task in
      let flushes_is = total_more flushes_in lefts left in
      let f1 = max_first one.faults two.faults in
      let f2 = max_second one.faults two.faults in
      let e1 = max_first one.events two.events in
      let e2 = max_second one.events two.events in
      record {
        number = ap (λ (x : V). x.number) met ∙ a.number ∙ ap (λ (x : V). x.number) first;
        shares = omega (arith, shares_one, shares_two, shares_met, keep_one, keep_two);
        made = omega (arith, made_one, made_two, made_met, made_v, made_none, collects_was, collects_is);
        flushed = omega (arith, flushed_one, flushed_two, flushed_met, flushed_v, flushed_none, flushes_was, flushes_is);
        struck = λ none. let neither = neither_disk f g none in let s1 = a.struck neither.0 in let s2 = b.struck neither.1 in omega (arith, s1, s2, struck_met, struck_v, struck_none);
        strikes = omega (arith, strikes_one, struck_met, struck_v);
        faults = omega (arith, faults_met, faults_v, faults_one, f1);
        events = omega (arith, events_met, events_v, events_one, e1);
        told = told_worse base one two u f g a.told b.told (omega (arith, struck_met)) (omega (arith, faults_met, f1)) (omega (arith, events_met, e1)) (omega (arith, struck_met)) (omega (arith, faults_met, f2)) (omega (arith, events_met, e2));
      }

  pub joined : WorkTogether base (tasks ++ task ∷ []) (lefts ++ left ∷ []) v u (worse_of f g)
  joined =
      let last : ℕ × List Entry = (two.number, works.steps.entries) in
      let their_mine : two.mine ≡ works.steps.entries = works.steps.mine ∙ ap (λ (l : List Entry). l ++ works.steps.entries) (ap (λ (x : V). x.mine) splits.second) in
      let their_ended : two.ended ≡ [] = works.steps.ended ∙ ap (λ (x : V). x.ended) splits.second in
      record {
        entries = together.entries;
        others = together.others ++ last ∷ [];
        met = together.met ++ g ∷ [];
        mine = ap (λ (x : V). x.mine) meets.view ∙ together.mine ∙ ap (λ (l : List Entry). l ++ together.entries) (ap (λ (x : V). x.mine) splits.first);
        ended =
            ap (λ (x : V). x.ended) meets.view
            ∙ (λ i. (together.ended ∙ ap (λ (l : Pairs). l ++ together.others) (ap (λ (x : V). x.ended) splits.first)) i ++ (their_ended i ++ (two.number, their_mine i) ∷ []))
            ∙ append_assoc v.ended together.others (last ∷ []);
        each =
            subst (λ (n : ℕ). Each (tasks ++ task ∷ []) (lefts ++ left ∷ []) (together.met ++ g ∷ []) ((n, together.entries) ∷ (together.others ++ last ∷ []))) (ap (λ (x : V). x.number) splits.first)
            (each_more tasks lefts together.met ((v1.number, together.entries) ∷ together.others) task left g (last ∷ []) together.each (one_pair task left g two.number works.steps.entries works.ends works.steps.answers));
        worst = ap (λ (x : Option SeatFault). worse_of x g) together.worst ∙ sym (worst_more None together.met g);
        counts = counts_met;
      }

-- ---- one that got no pass

module _ (base : ℕ) (tasks lefts : List Task) (task : Task) (v v1 one : V) (f g : Option SeatFault) (none : FindsNoNumber v v1) (together : WorkTogether base tasks lefts v1 one f) (ends : Ends task g) (quiet : is_disk g ≡ false) (silent : Told base one g) where
  pub unjoined : WorkTogether base (tasks ++ task ∷ []) (lefts ++ task ∷ []) v one (worse_of f g)
  unjoined =
      let a = together.counts in
      let view = none.view in
      let made_one = a.made in
      let made_v = ap (λ (x : V). x.made) view in
      let flushed_one = a.flushed in
      let flushed_v = ap (λ (x : V). x.flushed) view in
      let struck_v = ap (λ (x : V). x.struck) view in
      let strikes = a.strikes in
      let faults_v = ap (λ (x : V). x.faults) view in
      let faults_one = a.faults in
      let events_v = ap (λ (x : V). x.events) view in
      let events_one = a.events in
      let collects_was = total_more collects_in tasks task in
      let collects_is = total_more collects_in lefts task in
      let flushes_was = total_more flushes_in tasks task in
      let flushes_is = total_more flushes_in lefts task in
      record {
        entries = together.entries;
        others = together.others;
        met = together.met ++ g ∷ [];
        mine = together.mine ∙ ap (λ (l : List Entry). l ++ together.entries) (ap (λ (x : V). x.mine) view);
        ended = together.ended ∙ ap (λ (l : Pairs). l ++ together.others) (ap (λ (x : V). x.ended) view);
        each =
            subst (λ (n : ℕ). Each (tasks ++ task ∷ []) (lefts ++ task ∷ []) (together.met ++ g ∷ []) ((n, together.entries) ∷ together.others)) (ap (λ (x : V). x.number) view)
            (subst (λ (p : Pairs). Each (tasks ++ task ∷ []) (lefts ++ task ∷ []) (together.met ++ g ∷ []) ((v1.number, together.entries) ∷ p)) (append-nil together.others)
            (each_more tasks lefts together.met ((v1.number, together.entries) ∷ together.others) task task g [] together.each (no_pair task g ends)));
        worst = ap (λ (x : Option SeatFault). worse_of x g) together.worst ∙ sym (worst_more None together.met g);
        counts = record {
          number = a.number ∙ ap (λ (x : V). x.number) view;
          shares = a.shares ∙ ap (λ (x : V). x.shares) view;
          made = omega (arith, made_one, made_v, collects_was, collects_is);
          flushed = omega (arith, flushed_one, flushed_v, flushes_was, flushes_is);
          struck = λ quiet_both. a.struck (neither_disk f g quiet_both).0 ∙ struck_v;
          strikes = omega (arith, strikes, struck_v);
          faults = omega (arith, faults_v, faults_one);
          events = omega (arith, events_v, events_one);
          told = ⊎_elim (λ (is : worse_of f g ≡ f). subst (Told base one) (sym is) a.told) (λ (is : worse_of f g ≡ g). subst (Told base one) (sym is) silent) (worse_one f g);
        };
      }

-- ---- the last task, cut from the others

all_parts : (rest : List Task) (task : Task) → AllByRecursion IsTask (rest ++ task ∷ []) → AllByRecursion IsTask rest × IsTask task
all_parts [] task all = (tt, all.0)
all_parts (t ∷ rest) task all = let more = all_parts rest task all.1 in ((all.0, more.0), more.1)

pub parts_are : (tasks rest : List Task) (task : Task) → tasks ≡ rest ++ task ∷ [] → AllByRecursion IsTask tasks → AllByRecursion IsTask rest × IsTask task
parts_are tasks rest task is all = all_parts rest task (subst (AllByRecursion IsTask) is all)

pub no_others : (tasks : List Task) (empty : Bool) → empty ≡ (length tasks == 0) → empty ≡ true → tasks ≡ []
no_others [] empty is is_true = refl
no_others (task ∷ tasks) empty is is_true =
    let test : (length (task ∷ tasks) == 0) ≡ true = sym is ∙ is_true in
    let none : length (task ∷ tasks) ≡ 0 = grind (arith, nat_tests) in
    absurd (omega (arith, none))

-- a half of the shares is enough for the others
twice : (n m : ℕ) → n + 1 ≡ m → 2 ^ m ≡ 2 ^ n * 2
twice n m is = let same : m ≡ suc n = omega (arith, is) in ap (λ (k : ℕ). 2 ^ k) same ∙ pow-suc 2 n

pub half_enough : (n m : ℕ) (v w o : V) → n + 1 ≡ m → 2 ^ m ≤ v.shares → SplitsPass v w o → 2 ^ n ≤ w.shares
half_enough n m v w o is enough splits =
    let double = twice n m is in
    let shares = ap (λ (x : V). x.shares) splits.first in
    omega (arith, double, enough, shares)

pub still_enough : (n m : ℕ) (v w : V) → n + 1 ≡ m → 2 ^ m ≤ v.shares → FindsNoNumber v w → 2 ^ n ≤ w.shares
still_enough n m v w is enough none =
    let double = twice n m is in
    let shares = ap (λ (x : V). x.shares) none.view in
    omega (arith, double, enough, shares)

pub two_at_least : (n m s : ℕ) → n + 1 ≡ m → 2 ^ m ≤ s → 2 ≤ s
two_at_least n m s is enough =
    let double = twice n m is in
    let some : 0 < 2 ^ n = pow_pos n in
    omega (arith, double, enough, some)

-- each pass was told what the first was
pub told_first : (base : ℕ) (v w o : V) → base ≤ v.faults → SplitsPass v w o → base ≤ w.faults
told_first base v w o told splits = let faults = ap (λ (x : V). x.faults) splits.first in omega (arith, told, faults)

pub told_second : (base : ℕ) (v w o : V) → base ≤ v.faults → SplitsPass v w o → base ≤ o.faults
told_second base v w o told splits = let faults = ap (λ (x : V). x.faults) splits.second in omega (arith, told, faults)

pub told_none : (base : ℕ) (v w : V) → base ≤ v.faults → FindsNoNumber v w → base ≤ w.faults
told_none base v w told none = let faults = ap (λ (x : V). x.faults) none.view in omega (arith, told, faults)

pub told_met : (base : ℕ) (v w u : V) → base ≤ v.faults → MeetsPass v w u → base ≤ u.faults
told_met base v w u told meets =
    let faults = ap (λ (x : V). x.faults) meets.view in
    let most = max_first v.faults w.faults in
    omega (arith, told, faults, most)

-- want of memory is no fault of the disk, and a pass is told nothing with it
short_quiet : (base : ℕ) (w : V) (m : NoMemory) (fault : Option SeatFault) → IfSome fault (λ f. f ≡ Answered (Memory m)) → (is_disk fault ≡ false) × Told base w fault
short_quiet base w m None is = (refl, tt)
short_quiet base w m (Some f) is = subst (λ (x : SeatFault). (is_disk (Some x) ≡ false) × Told base w (Some x)) (sym is) (refl, tt)

module _ (base : ℕ) (tasks lefts rest still : List Task) (task left : Task) (v u : V) (worst : Option SeatFault) (were : tasks ≡ rest ++ task ∷ []) (are : lefts ≡ still ++ left ∷ []) where
  as_lists : (fault : Option SeatFault) → worst ≡ fault → WorkTogether base (rest ++ task ∷ []) (still ++ left ∷ []) v u fault → WorkTogether base tasks lefts v u worst
  as_lists fault is it =
      subst (λ (x : Option SeatFault). WorkTogether base tasks lefts v u x) (sym is)
      (subst (λ (l : List Task). WorkTogether base l lefts v u fault) (sym were) (subst (λ (l : List Task). WorkTogether base (rest ++ task ∷ []) l v u fault) (sym are) it))

  pub spread_alone : rest ≡ [] → still ≡ [] → Works base task left v u worst → WorkTogether base tasks lefts v u worst
  spread_alone none is_none works =
      as_lists worst refl
      (subst (λ (l : List Task). WorkTogether base (l ++ task ∷ []) (still ++ left ∷ []) v u worst) (sym none)
      (subst (λ (l : List Task). WorkTogether base (task ∷ []) (l ++ left ∷ []) v u worst) (sym is_none) (alone base task left v u worst works)))

  pub spread_joined : (v1 v2 one two : V) (f g : Option SeatFault) → worst ≡ worse_of f g → SplitsPass v v1 v2 → WorkTogether base rest still v1 one f → Works base task left v2 two g → MeetsPass one two u → WorkTogether base tasks lefts v u worst
  spread_joined v1 v2 one two f g is splits together works meets = as_lists (worse_of f g) is (joined base rest still task left v v1 v2 one two u f g splits together works meets)

module _ (base : ℕ) (tasks lefts rest still : List Task) (task : Task) (v u : V) (worst : Option SeatFault) (were : tasks ≡ rest ++ task ∷ []) (are : lefts ≡ still ++ task ∷ []) where
  pub spread_unjoined : (v1 : V) (f g : Option SeatFault) (m : NoMemory) → worst ≡ worse_of f g → FindsNoNumber v v1 → WorkTogether base rest still v1 u f → Ends task g → IfSome g (λ fault. fault ≡ Answered (Memory m)) → WorkTogether base tasks lefts v u worst
  spread_unjoined v1 f g m is none together ends memory =
      let quiet = short_quiet base u m g memory in
      as_lists base tasks lefts rest still task task v u worst were are (worse_of f g) is (unjoined base rest still task v v1 u f g none together ends quiet.0 quiet.1)
