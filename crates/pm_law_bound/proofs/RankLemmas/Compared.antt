-- How the rank compares in two spaces, by what is held, the first train and the way.
use Rattle.std.proofs.Common.{◌≡◌, ◌≤◌, ◌<◌, ◌+◌, ◌-◌, ◌*◌, ℕ, ◌⊎◌, inl, inr, ⊎_elim, nat_eq, true, cond, refl, ap, sym, ◌∙◌, length, Option, Some, None, arith}
use Rattle.std.specs.List.{IsDistinct, sum_by}
use Rattle.std.proofs.lemmas.Bool.{cases_eq, cases_lt}
use Rattle.pm_types.specs.declared.address.Addr.{Addr}
use Rattle.pm_trains.specs.declared.trains.TheConstants.{BIRTHS}
use Rattle.pm_trains.specs.Trains.{is_among, train_of, youngest}
use Rattle.pm_view.specs.View.{SpaceView}
use Rattle.pm_view.specs.Reading.{object_at}
use Rattle.pm_view.specs.Counts.{IsStandingAt, IsPlaced, standing_in, old}
use Rattle.pm_view.specs.Law.{HeapLaw}
use Rattle.pm_law_collect.proofs.PhasesLemmas.Small.{some_same, none_some}
use Rattle.pm_law_collect.proofs.PhasesLemmas.Stays.{StandsToo}
use Rattle.pm_law_course.proofs.Kept.{KeepsCourse}
use Rattle.pm_law_course.specs.Count.UpTo.{cars_up_to}
use Rattle.pm_law_course.proofs.CountLemmas.Identities.{same_address}
use Rattle.pm_law_course.proofs.CountLemmas.Spaces.{no_more_stand, one_more_stands, one_fewer_stands}
use Rattle.pm_law_course.proofs.CountLemmas.Trains.{old_counted, up_to_once, up_to_home, home_up_to}
use Rattle.pm_view.specs.Ranking.{Fits, taking, content, way, place_of, is_emptying, up_to, value, rank_of, rank}
use Rattle.pm_view.specs.Bounded.{KeepsRank}
use Rattle.pm_law_bound.proofs.RankLemmas.Values as values
use Rattle.pm_law_bound.proofs.RankLemmas.Trains.{IsHead, IsLike, Grows, none_up_to, none_old, rise, head_old, rank_up, rank_over}
use Rattle.pm_law_bound.proofs.RankLemmas.Bounds.{first_given, anchor_among, content_few, way_few, way_some, rank_most}

-- No train is open that is older, and in the trains up to a number that was given are no more objects, with the births
-- that are still to come there.
pub record HoldsNoMore (view now : SpaceView) : Type 0 where
  pub young : youngest view.trains.trains ≤ youngest now.trains.trains
  pub held : (n : ℕ) → n ≤ youngest view.trains.trains → old now n + taking now n ≤ old view n + taking view n

-- What fits stays, and the rank has not risen; where something is done it has fallen, unless it was 0.
pub record Compares (view now : SpaceView) (Done : Type 0) : Type 0 where
  pub fits : (n m : ℕ) → Fits view n m → Fits now n m
  pub no_more : (n m : ℕ) → Fits view n m → rank now n m ≤ rank view n m
  pub falls : (n m : ℕ) → Fits view n m → Done → (rank view n m ≡ 0) ⊎ (rank now n m < rank view n m)

-- where a collection more is counted that is what is done
pub kept : (view now : SpaceView) → Compares view now (view.completed < now.completed) → KeepsRank view now
kept view now is = record { fits = is.fits; no_more = is.no_more; falls = is.falls }

-- a space that stays as it is, where nothing is done
pub unchanged : (view : SpaceView) (Done : Type 0) → (Done → ⊥) → Compares view view Done
unchanged view Done none = record { fits = λ n m fits. fits; no_more = λ n m fits. omega arith; falls = λ n m fits done. absurd (none done) }

-- a space that stays as it is
pub itself : (view : SpaceView) → KeepsRank view view
itself view = kept view view (unchanged view (view.completed < view.completed) (λ rose. omega (arith, rose)))

-- the object of this identity stands at an address, in a train up to this one
abbrev pub IsUpTo : SpaceView → ℕ → ℕ → Addr → Type 0
IsUpTo view n q a = IsStandingAt view q a × (is_among a.car (cars_up_to n view.trains.trains) ≡ true)

either : (o : Option ℕ) (q : ℕ) → (o ≡ Some q) ⊎ (o ≡ Some q → ⊥)
either None q = inr (none_some q)
either (Some id) q = ⊎_elim (λ (same : id ≡ q). inl (ap Some same)) (λ (other : id ≡ q → ⊥). inr (λ is. other (some_same id q is))) (cases_eq id q)

module _ (view now : SpaceView) (law : HeapLaw view) (then : HeapLaw now) where
  -- ---- what is held

  abbrev Was : ℕ → ℕ → Type 0
  Was n q = (b : Addr) × IsUpTo view n q b

  abbrev once : (n : ℕ) → IsDistinct nat_eq (cars_up_to n now.trains.trains)
  once n = up_to_once now.trains.trains then.built.trains.single n

  abbrev was : (n : ℕ) → old view n ≡ sum_by (standing_in view) (cars_up_to n view.trains.trains)
  was n = old_counted view n view.trains.trains

  abbrev is : (n : ℕ) → old now n ≡ sum_by (standing_in now) (cars_up_to n now.trains.trains)
  is n = old_counted now n now.trains.trains

  -- one object moves or is made, which goes to a train, and the others stand where they stood
  module _ (moving : Option ℕ) (goal : ℕ) (back : (q : ℕ) (a : Addr) → (moving ≡ Some q → ⊥) → IsStandingAt now q a → StandsToo now view q a) (lands : (q : ℕ) → moving ≡ Some q → IsPlaced now q goal) where
    -- that object is where it went
    landed : (n q : ℕ) (a : Addr) → moving ≡ Some q → IsUpTo now n q a → goal ≤ n
    landed n q a at up =
        let there = lands q at in
        let one = same_address now then there.0 a q (object_at now.cars there.0) (object_at now.cars a) refl refl there.1.here up.0.here in
        let home = up_to_home 0 n a.car now.trains.trains then.built.trains.rising up.1 in
        let same : goal ≡ home.0 = some_same goal home.0 (sym there.2 ∙ ap (λ (b : Addr). train_of now.trains.trains b.car) one ∙ home.1.0) in
        omega (arith, same, home.1.1)

    -- what stands in a train up to this one, and stood in the same train, stood in one
    stood : (n q : ℕ) (a : Addr) → (moving ≡ Some q → ⊥) → IsUpTo now n q a → Was n q
    stood n q a still up =
        let stays = back q a still up.0 in
        let home = up_to_home 0 n a.car now.trains.trains then.built.trains.rising up.1 in
        (a, (stays.0, home_up_to n a.car home.0 view.trains.trains (stays.1 ∙ home.1.0) home.1.1))

    -- what stands in a train up to this one stood in one, if the one that goes to such a train did
    before : (n : ℕ) → ((q : ℕ) → moving ≡ Some q → goal ≤ n → Was n q) → (q : ℕ) (a : Addr) → IsStandingAt now q a → is_among a.car (cars_up_to n now.trains.trains) ≡ true → Was n q
    before n left q a stands among = ⊎_elim (λ at. left q at (landed n q a at (stands, among))) (λ still. stood n q a still (stands, among)) (either moving q)

    pub no_older : (n : ℕ) → ((q : ℕ) → moving ≡ Some q → goal ≤ n → Was n q) → old now n ≤ old view n
    no_older n left = let few = no_more_stand view now law then (cars_up_to n view.trains.trains) (cars_up_to n now.trains.trains) (once n) (before n left) in omega (arith, few, was n, is n)

    -- one more at most where it is made, and one fewer where it leaves
    pub one_older : (n q : ℕ) → moving ≡ Some q → old now n ≤ old view n + 1
    one_older n q at =
        let few = one_more_stands view now law then (cars_up_to n view.trains.trains) (cars_up_to n now.trains.trains) (once n) q
        (λ p a other stands among. stood n p a (λ same. other (some_same p q (sym same ∙ at))) (stands, among)) in
        omega (arith, few, was n, is n)

    pub one_leaves : (n q : ℕ) (a : Addr) → moving ≡ Some q → IsUpTo view n q a → n < goal → old now n + 1 ≤ old view n
    one_leaves n q a at up over =
        let few = one_fewer_stands view now law then (cars_up_to n view.trains.trains) (cars_up_to n now.trains.trains) (once n) (before n (λ p same low. absurd (omega (arith, over, low)))) q a up.0 up.1
        (λ b stands among. let low = landed n q b at (stands, among) in omega (arith, over, low)) in
        omega (arith, few, was n, is n)

  -- a train is opened, or so many are born in the open one, which takes them; then no more is held
  abbrev pub Turned : ℕ → Type 0
  Turned e = (youngest now.trains.trains ≡ youngest view.trains.trains + 1) ⊎ ((youngest now.trains.trains ≡ youngest view.trains.trains) × (now.trains.births ≡ view.trains.births + e) × (e ≤ BIRTHS - view.trains.births))

  pub holds : (e : ℕ) → Turned e → ((n : ℕ) → (old now n ≤ old view n + e) × (n < youngest now.trains.trains → old now n ≤ old view n)) → HoldsNoMore view now
  holds e turned few = record {
    young = ⊎_elim (λ up. omega (arith, up)) (λ same. omega (arith, same.0)) turned;
    held = λ n given. values.held BIRTHS (youngest view.trains.trains) (youngest now.trains.trains) view.trains.births now.trains.births e n (old view n) (old now n) given turned (few n).0 (few n).1;
  }

  -- ---- the rank

  module _ (less : HoldsNoMore view now) (at : IsHead view.trains.trains) where
    fits_stay : (n m : ℕ) → Fits view n m → Fits now n m
    fits_stay n m fits = record { given = omega (arith, fits.given, less.young); few = omega (arith, fits.few, less.held n fits.given) }

    -- the first train has so many objects fewer where the trains up to it have
    pub content_falls : (like : IsLike view.trains.trains now.trains.trains at) (e : ℕ) → old now at.head.number + e + taking now at.head.number ≤ old view at.head.number + taking view at.head.number
        → content now like.first.head + e ≤ content view at.head
    content_falls like e fewer =
        let none = none_old view at.head.number at.head.number at.rest (rise view law at).1 (omega arith) in
        let two = head_old now then like.first at.head.number (omega (arith, like.number)) in
        let takes : taking now like.first.head.number ≡ taking now at.head.number = ap (taking now) like.number in
        omega (arith, head_old view law at at.head.number (omega arith), none, two, takes, fewer)

    content_no_more : (like : IsLike view.trains.trains now.trains.trains at) → content now like.first.head ≤ content view at.head
    content_no_more like = let held = less.held at.head.number (first_given view law at) in let falls = content_falls like 0 (omega (arith, held)) in omega (arith, falls)

    -- ---- where something is done, as a collection is completed

    module _ (Done : Type 0) where
      -- it falls by so much, or is none before and after; and by one at least where something is done
      keeps_by : (e : ℕ) → (Done → 1 ≤ e) → ((n m : ℕ) → n < at.head.number → rank now n m ≡ 0) → ((n m : ℕ) → Fits view n m → at.head.number ≤ n → rank now n m + e ≤ rank view n m) → Compares view now Done
      keeps_by e done over each = record {
        fits = fits_stay;
        no_more = λ n m fits. ⊎_elim (λ low. let none = over n m low in omega (arith, none)) (λ up. let most = each n m fits up in omega (arith, most)) (cases_lt n at.head.number);
        falls = λ n m fits so. ⊎_elim (λ low. inl (rank_over view law at n m low)) (λ up. let most = each n m fits up in let some = done so in inr (omega (arith, most, some))) (cases_lt n at.head.number);
      }

      -- the same train is the first: its way is shorter by so much, or it has fewer objects
      pub keeps_like : (like : IsLike view.trains.trains now.trains.trains at) (e : ℕ) → (Done → 1 ≤ e)
          → (way now like.first.head now.anchor + e ≤ way view at.head view.anchor) ⊎ ((e ≤ 1) × (content now like.first.head + 1 ≤ content view at.head)) → Compares view now Done
      keeps_like like e done which =
          keeps_by e done (λ n m over. rank_over now then like.first n m (omega (arith, like.number, over)))
          (λ n m fits low.
          let low_then : like.first.head.number ≤ n = omega (arith, like.number, low) in
          let few = content_few now then like.first n m (fits_stay n m fits) low_then in
          let value = values.lower m e (length (up_to n like.first.rest)) (content now like.first.head) (way now like.first.head now.anchor) (length (up_to n at.rest)) (content view at.head) (way view at.head view.anchor)
          (like.few n fits.given) (content_no_more like) (omega (arith, few, way_few now then like.first)) which in
          omega (arith, value, rank_up view law at n m low, rank_up now then like.first n m low_then))

      -- the first train goes
      pub keeps_trains : now.trains.trains ≡ at.rest → Compares view now Done
      keeps_trains gone =
          keeps_by 1 (λ so. omega arith) (λ n m over. ap (rank_of now m) (ap (up_to n) gone ∙ none_up_to at.head.number n at.rest (rise view law at).1 (omega (arith, over))))
          (λ n m fits low.
          let most = rank_most now then n m (fits_stay n m fits) in
          let as_many : length (up_to n now.trains.trains) * ((m + 2) * (m + 2)) ≡ length (up_to n at.rest) * ((m + 2) * (m + 2)) = ap (λ ts. length (up_to n ts) * ((m + 2) * (m + 2))) gone in
          let far = way_some view law at in
          let some : length (up_to n at.rest) * ((m + 2) * (m + 2)) + 1 ≤ value m (length (up_to n at.rest)) (content view at.head) (way view at.head view.anchor) = omega (arith, far) in
          omega (arith, most, as_many, some, rank_up view law at n m low))

      -- the anchor stays: its car is nearer by so much, and where none stands a car that went goes no more
      pub keeps_anchor : (like : IsLike view.trains.trains now.trains.trains at) (e : ℕ) → (Done → 1 ≤ e) → now.anchor ≡ view.anchor → cond (is_emptying now.phase) 1 0 + e ≤ cond (is_emptying view.phase) 1 0
          → ((a : Addr) (to : ℕ) → view.anchor ≡ Some (a, to) → place_of a.car like.first.head.cars + e ≤ place_of a.car at.head.cars) → Compares view now Done
      keeps_anchor like e done anchor going nearer = keeps_like like e done (inl (by_anchor view.anchor refl))
        where
          by_anchor : (o : Option (Addr × ℕ)) → view.anchor ≡ o → way now like.first.head now.anchor + e ≤ way view at.head o
          by_anchor None is =
              let one : way now like.first.head now.anchor ≡ content now like.first.head + cond (is_emptying now.phase) 1 0 = ap (way now like.first.head) (anchor ∙ is) in
              omega (arith, content_no_more like, one, going)
          by_anchor (Some a) is =
              let one : way now like.first.head now.anchor ≡ place_of a.0.car like.first.head.cars = ap (way now like.first.head) (anchor ∙ is) in
              omega (arith, nearer a.0 a.1 is, one)

      -- no train goes, no car of the first train changes its place, the anchor stays, and nothing is done
      pub keeps_calm : (Done → ⊥) → Grows view.trains.trains now.trains.trains at → now.anchor ≡ view.anchor → cond (is_emptying now.phase) 1 0 ≤ cond (is_emptying view.phase) 1 0 → Compares view now Done
      keeps_calm none grows anchor going =
          keeps_anchor grows.like 0 (λ so. absurd (none so)) anchor (omega (arith, going))
          (λ a to stands. let place = (grows.place a.car (anchor_among view law at a to stands)).1 in omega (arith, place))

      -- so it is where the course is kept
      pub keeps_course : (Done → ⊥) → Grows view.trains.trains now.trains.trains at → KeepsCourse view now → Compares view now Done
      keeps_course none grows keeps =
          let one : ◌≡◌ {A = ℕ} (cond (is_emptying now.phase) 1 0) (cond (is_emptying view.phase) 1 0) = ap (λ p. cond {A = ℕ} (is_emptying p) 1 0) keeps.phase in
          keeps_calm none grows keeps.anchor (omega (arith, one))
