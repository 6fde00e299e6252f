-- A field of a young object is set to an object within: it is made null, what is joined escapes, and it is set within.
use Rattle.std.proofs.Common.{◌≡◌, ⊎_elim, inl, inr, ℕ, zero, suc, ◌<◌, ◌≤◌, Bool, true, false, cond, if◌then◌else◌, nat_eq, List, [], ◌∷◌, ◌++◌, length, slice_set, Option, Some, None, refl, sym, ap, subst, ◌∙◌, is_some, arith}
use Rattle.std.specs.Option.{IsSome}
use Rattle.std.specs.Ordering.{nat_cmp, eq_by_cmp}
use Rattle.std.specs.Cmp.{nat_cmp_total}
use Rattle.std.specs.FinMap.{get, insert, get-insert}
use Rattle.std.proofs.lemmas.Bool.Decides.{nat_tests}
use Rattle.pm_types.specs.declared.command.Cmd.{Cmd}
use Rattle.pm_types.specs.declared.command.Cmd.TheVariants.{Store, Swap}
use Rattle.pm_types.specs.declared.reply.Reply.{Reply}
use Rattle.pm_types.specs.declared.reply.Reply.TheVariants.{Done}
use Rattle.pm_model.specs.Heap.{Object, Heap, with_field}
use Rattle.pm_model.specs.World.{World, changing, held}
use Rattle.pm_model.specs.Answer.{answer, answer_store, is_refusal}
use Rattle.pm_model.specs.Frames.{makes_object}
use Rattle.pm_view.specs.View.{SpaceView}
use Rattle.pm_view.specs.Objects.{KeepsObjects}
use Rattle.pm_view.specs.Represents.{Represents}
use Rattle.pm_nursery.specs.Young.{NurseryView, IsNursery, IsYoung, or_else}
use Rattle.pm_nursery.specs.Escaping.{AreEscaping, Escapes, SetsField}
use Rattle.pm_nursery.specs.Joined.{IsJoined}
use Rattle.pm_nursery.specs.Moving.{young_changing}
use Rattle.pm_nursery.specs.Sweeping.{among, carried, AreYoung, GoesOut}
use Rattle.pm_nursery.proofs.Parts.{found_of, is_there, none_some, picks, passes}
use Rattle.pm_nursery.proofs.Sound.{here}
use Rattle.pm_law_young.proofs.Carrying.{stays}
use Rattle.pm_law_young.proofs.Escaped.{object_back, object_to}
use Rattle.pm_law_young.proofs.Moves.{young_changed}
use Rattle.pm_law_young.proofs.Setting.{field_twice, set_old_value}
use Rattle.pm_law_young.proofs.Then.{young_on}
use Rattle.std.proofs.Math.Logic.{∥∥₁_elim, ∥∥₁_map}
use Rattle.std.proofs.Props.{props}
use Rattle.pm_young.specs.Bringing.{CarriesJoined, CarriesJoinedPart, MayYoungComeIn, StandsApart}
use Rattle.pm_young.specs.Parts.{AnswersSpace, ComesYoung, IsAccepted, IsAcceptedIn, LosesSpace, StandsFor, StandsForSome, StoresToo}
use Rattle.pm_young.proofs.Answered.{old_object}
use Rattle.pm_young.proofs.Crossed.{comes_then, comes_young}
use Rattle.pm_young.proofs.Judged.{written}

pub sets_makes_none : (cmd : Cmd) (reg index value : ℕ) → SetsField cmd reg index value → makes_object cmd ≡ false
sets_makes_none (Store r i v) reg index value sets = refl
sets_makes_none (Swap r i o v) reg index value sets = refl
sets_makes_none cmd reg index value sets = absurd sets

as_long : (fields : List (Option ℕ)) (index : ℕ) (value : Option ℕ) → length (slice_set fields index value) ≡ length fields
as_long [] index value = refl
as_long (field ∷ fields) zero value = refl
as_long (field ∷ fields) (suc index) value = let rest = as_long fields index value in omega (arith, rest)

-- what is young once an object of it is another one was so
young_still : (old : NurseryView) (id : ℕ) (known : Object) → get old.objects id ≡ Some known → (object : Object) (one : ℕ) → IsSome (get (young_changing old id object).objects one) → IsSome (get old.objects one)
young_still old id known known_is object one there = by (eq_by_cmp nat_cmp one id) refl (subst IsSome (get-insert nat_cmp_total old.objects id object one) there)
  where
    equal : (m n : ℕ) → eq_by_cmp nat_cmp m n ≡ true → m ≡ n
    equal m n same = grind (arith, nat_tests, same)

    by : (b : Bool) → eq_by_cmp nat_cmp one id ≡ b → IsSome (cond b (Some object) (get old.objects one)) → IsSome (get old.objects one)
    by true same is = subst (λ n. IsSome (get old.objects n)) (sym (equal one id same)) (is_there (get old.objects id) known known_is)
    by false other is = is

module _ (view : SpaceView) (old : NurseryView) (sound : IsNursery old) (client : ℕ) (cmd : Cmd) (reg index value : ℕ) (sets : SetsField cmd reg index value) (accepted : IsAcceptedIn view old client cmd reg index value) (id : ℕ) (holds : get old.registers (client, reg) ≡ Some id)
    (known : Object) (known_is : get old.objects id ≡ Some known) (none : get old.registers (client, value) ≡ None) where
  abbrev cleared : Object
  cleared = with_field known index None

  abbrev left : NurseryView
  left = young_changing old id cleared

  -- what is young there was so
  young_before : (one : ℕ) → IsSome (get left.objects one) → IsSome (get old.objects one)
  young_before one there = young_still old id known known_is cleared one there

  module _ (within world : World) (stands : StandsFor view old within world) where
    abbrev acc : IsAccepted world client cmd reg index value
    acc = accepted within world stands

    held_id : held world client reg ≡ Some id
    held_id = stands.young.registers (client, reg) ∙ ap (λ n. or_else n (get within.registers (client, reg))) holds

    held_value : get within.registers (client, value) ≡ Some acc.other
    held_value = sym (stands.young.registers (client, value) ∙ ap (λ n. or_else n (get within.registers (client, value))) none) ∙ acc.held_other

    other_old : get old.objects acc.other ≡ None
    other_old = old_object within world old stands.young client value acc.other none acc.held_other

    same_id : acc.object ≡ id
    same_id = let one = acc.held_object in let two = held_id in cc (one, two)

    same_known : acc.known ≡ known
    same_known = let one = acc.there in let two = stands.young.young id known known_is in let three = same_id in cc (one, two, three)

    done : is_refusal cmd (answer world client cmd).0 ≡ false
    done = ap (λ (a : Reply × World). is_refusal cmd a.0) acc.answer_is

    lets_to : (one : ℕ) → Escapes world old client cmd one → IsJoined left.objects id one
    lets_to one escapes = object_to world old client cmd reg index value id acc.other sets held_id acc.held_other known known_is other_old one escapes.1

    lets_back : (one : ℕ) → IsJoined left.objects id one → Escapes world old client cmd one
    lets_back one joined = (done, object_back world old client cmd reg index value id acc.other sets held_id acc.held_other known known_is other_old one joined)

  -- memory ran out in the escape
  pub loses_nulled : (after : SpaceView) (before later : List ℕ) → CarriesJoinedPart view left id before after later → LosesSpace client cmd view after old before later
  loses_nulled after before later part = record {
    ids = part.ids;
    entered = part.enters.entered;
    loses = record {
      comes = comes_young view after old before later part.ids part.first.ascending (λ one inside. young_before one (part.young one inside)) part.enters;
      first = λ within world stands. record {
        ascending = part.first.ascending;
        each = λ one inside. lets_back within world stands one (part.first.each one inside);
        before = λ one other there less escapes. part.first.before one other there less (lets_to within world stands one escapes);
      };
    };
  }

  module _ (mid : SpaceView) (between : NurseryView) (before later : List ℕ) (carries : CarriesJoined view left id before mid between later) where
    came : ComesYoung view mid old carries.ids
    came = comes_young view mid old before later carries.ids carries.ascending (λ one inside. young_before one (carries.young one inside)) carries.enters

    escaping : (within world : World) → StandsFor view old within world → AreEscaping world old client cmd carries.ids
    escaping within world stands = record {
      ascending = carries.ascending;
      each = λ one inside. lets_back within world stands one (carries.joined.each one inside);
      all = λ one escapes. carries.joined.all one (lets_to within world stands one escapes);
    }

    -- or behind it
    pub loses_stored : (after : SpaceView) → KeepsObjects mid after → mid.next ≤ after.next → LosesSpace client cmd view after old before later
    loses_stored after keeps next = record {
      ids = carries.ids;
      entered = carries.enters.entered;
      loses = record {
        comes = comes_then view mid after old carries.ids came keeps next;
        first = λ within world stands.
            let all = escaping within world stands in
            record { ascending = all.ascending; each = all.each; before = λ one other there less escapes. all.all one escapes };
      };
    }

    itself : among carries.ids id ≡ true
    itself = carries.joined.all id ([], refl)

    -- what went out is as if the field had stayed
    goes_old : GoesOut old carries.ids between
    goes_old = record { objects = λ one. carries.leaves.objects one ∙ by one (among carries.ids one) refl; registers = carries.leaves.registers }
      where
        other_id : (m n : ℕ) → (m ≡ n → ⊥) → eq_by_cmp nat_cmp m n ≡ false
        other_id m n apart = grind (arith, nat_tests, apart)

        by : (one : ℕ) (b : Bool) → among carries.ids one ≡ b → (if b then None else get left.objects one) ≡ (if b then None else get old.objects one)
        by one true inside = refl
        by one false outside =
            get-insert nat_cmp_total old.objects id cleared one
            ∙ ap (λ b. cond b (Some cleared) (get old.objects one)) (other_id one id (λ same. let was = itself in let here = subst (λ n. among carries.ids n ≡ true) (sym same) was in cc (here, outside)))

    kept_if : (b : Bool) (o : Option Object) → IsSome (if b then None else o) → IsSome o × (b ≡ false)
    kept_if true o is = cc is
    kept_if false o is = (is, refl)

    -- what the space answers then
    stored_then : (within world : World) (stands : StandsFor view old within world) (w : World)
        → ((place : ℕ × ℕ) → get w.registers place ≡ carried carries.ids (get left.registers place) (get within.registers place))
        → (get w.heap id ≡ (if among carries.ids id then get left.objects id else get within.heap id))
        → (answer w client (Store reg index value)).1 ≡ changing w id (with_field known index (Some (acc within world stands).other))
    unfolding answer
    stored_then within world stands w registers heap =
        let acc = acc within world stands in
        let one : held w client reg ≡ Some id = registers (client, reg) ∙ ap (λ n. carried carries.ids n (get within.registers (client, reg))) holds ∙ picks (among carries.ids id) (Some id) (get within.registers (client, reg)) itself in
        let two : held w client value ≡ Some acc.other = registers (client, value) ∙ ap (λ n. carried carries.ids n (get within.registers (client, value))) none ∙ held_value within world stands in
        let object : get w.heap id ≡ Some cleared = heap ∙ picks (among carries.ids id) (get left.objects id) (get within.heap id) itself ∙ here old.objects id cleared in
        let same = ap (λ (o : Object). length o.fields) (same_known within world stands) in
        let long = as_long known.fields index None in
        let field = acc.field in
        (λ i. (answer_store w index (one i) (two i)).1)
        ∙ ap (λ (a : Reply × World). a.1) (written w id index acc.other cleared (get w.heap id) object (omega (arith, same, long, field)))
        ∙ ap (λ (o : Object). changing w id o) (field_twice known index None (Some acc.other))

    -- the field is set within
    pub answers_stored : (after : SpaceView) → KeepsObjects mid after → mid.next ≤ after.next → StoresToo mid client reg index value after → AnswersSpace client cmd view after old between before later Done
    answers_stored after keeps next stores = record {
      ids = carries.ids;
      entered = carries.enters.entered;
      answers = record {
        short = tt;
        comes = comes_then view mid after old carries.ids came keeps next;
        young = λ one is. inl (kept_if (among carries.ids one) (get old.objects one) (subst IsSome (goes_old.objects one) is));
        worlds = λ within world stands.
            let acc = acc within world stands in
            let nulled = young_changed within world old stands.young id cleared (is_there (get old.objects id) known known_is) in
            let came = carries.brings within stands.represents (λ one inside. nulled.apart one (carries.young one inside)) in
            let there = stands.young.held (client, value) acc.other (held_value within world stands) in
            let then' = with_field known index (Some acc.other) in
            let stored = stored_then within world stands came.0 came.2.registers (came.2.heap id) in
            record {
              reply_is = sym (ap (λ (a : Reply × World). a.0) acc.answer_is);
              later = changing came.0 id then';
              represents = subst (Represents after) stored (stores came.0 came.1);
              is_young =
                  subst (IsYoung (changing came.0 id then') between) (sym (same_world within world stands))
                  (set_old_value old sound id index known known_is within world came.0 between carries.ids stands.young carries.joined came.2 carries.leaves acc.other there);
              stays = λ one was. still_there came.0 id then' one (stays within (changing world id cleared) came.0 left carries.ids nulled carries.young came.2 one was);
              escaping = escaping within world stands;
              then_young = λ one. young_on world old client cmd one between carries.ids (sets_makes_none cmd reg index value sets) goes_old;
            };
      };
    }
      where
        still_there : (w : World) (id : ℕ) (object : Object) (one : ℕ) → IsSome (get w.heap one) → IsSome (get (insert w.heap id object) one)
        still_there w id object one was = subst IsSome (sym (get-insert nat_cmp_total w.heap id object one)) (by (eq_by_cmp nat_cmp one id))
          where
            by : (b : Bool) → IsSome (cond b (Some object) (get w.heap one))
            by true = refl
            by false = was

        same_world : (within world : World) (stands : StandsFor view old within world) → (answer world client cmd).1 ≡ changing world id (with_field known index (Some (acc within world stands).other))
        same_world within world stands =
            ap (λ (a : Reply × World). a.1) (acc within world stands).answer_is
            ∙ (λ i. changing world (same_id within world stands i) (with_field (same_known within world stands i) index (Some (acc within world stands).other)))

-- ---- what the calls ask

less_once : (m n : ℕ) → IsProp (m < n)
less_once m n = hlevel props

module _ (view : SpaceView) (old : NurseryView) (sound : IsNursery old) (client : ℕ) (cmd : Cmd) (reg index value : ℕ) (accepted : IsAcceptedIn view old client cmd reg index value) (id : ℕ) (holds : get old.registers (client, reg) ≡ Some id) (known : Object) (known_is : get old.objects id ≡ Some known) where
  pub field_there : ∥ StandsForSome view old ∥₁ → index < length known.fields
  field_there some = ∥∥₁_elim some (less_once index (length known.fields)) (λ it.
      let within = it.0 in
      let world = it.1 in
      let stands = it.2 in
      let acc = accepted within world stands in
      let object : Some acc.object ≡ Some id = sym acc.held_object ∙ stands.young.registers (client, reg) ∙ ap (λ n. or_else n (get within.registers (client, reg))) holds in
      let there : Some acc.known ≡ Some known = sym acc.there ∙ ap (λ (o : Option ℕ). found_at world o) object ∙ stands.young.young id known known_is in
      let same : acc.known ≡ known = same_object acc.known known there in
      let less = acc.field in
      subst (λ (o : Object). index < length o.fields) same less)
    where
      found_at : World → Option ℕ → Option Object
      found_at world None = None
      found_at world (Some id) = get world.heap id

      same_object : (m n : Object) → Some m ≡ Some n → m ≡ n
      same_object m n same = cc same

  pub left_may : MayYoungComeIn view old → MayYoungComeIn view (young_changing old id (with_field known index None))
  left_may may one there = may one (young_still old id known known_is (with_field known index None) one there)

  pub left_apart : ∥ StandsForSome view old ∥₁ → ∥ StandsApart view (young_changing old id (with_field known index None)) ∥₁
  left_apart some = ∥∥₁_map some (λ it. record { world = it.0; represents = it.2.represents; none = λ one there. it.2.young.apart one (young_still old id known known_is (with_field known index None) one there) })

  pub left_young : IsSome (get (young_changing old id (with_field known index None)).objects id)
  left_young = is_there (get (young_changing old id (with_field known index None)).objects id) (with_field known index None) (here old.objects id (with_field known index None))
