-- What is joined to a young object escapes, and the command is answered within.
use Rattle.std.proofs.Common.{◌≡◌, ⊎_elim, inl, inr, ℕ, ◌+◌, ◌<◌, ◌≤◌, Bool, true, false, if◌then◌else◌, List, [], ◌∷◌, ◌++◌, length, take, Option, Some, None, Result, Ok, Err, OnOk, OnErr, IfOk, refl, sym, ap, subst, ◌∙◌, is_some, arith, append-nil}
use Rattle.std.specs.Option.{IsSome}
use Rattle.std.specs.FinMap.{get}
use Rattle.std.proofs.Math.Logic.{∥∥₁_map}
use Rattle.std.proofs.lemmas.Bool.{false_from_ne_true}
use Rattle.pm_types.specs.declared.command.Cmd.{Cmd}
use Rattle.pm_types.specs.declared.reply.Reply.{Reply}
use Rattle.pm_model.specs.Heap.{Object, Heap, Holds}
use Rattle.pm_model.specs.World.{World}
use Rattle.pm_model.specs.Answer.{answer}
use Rattle.pm_model.specs.Frames.{makes_object}
use Rattle.pm_view.specs.View.{SpaceView}
use Rattle.pm_view.specs.Objects.{KeepsObjects}
use Rattle.pm_view.specs.Represents.{Represents}
use Rattle.pm_nursery.specs.Young.{NurseryView, IsNursery, IsYoung}
use Rattle.pm_nursery.specs.Answering.{reads_register}
use Rattle.pm_nursery.specs.Escaping.{AreEscaping, Escapes, IsAscending, young_then}
use Rattle.pm_nursery.specs.Joined.{AreJoined, IsJoined}
use Rattle.pm_nursery.specs.Sweeping.{among, left_held, AreYoung, ComesIn, GoesOut, IsDetached}
use Rattle.pm_nursery.proofs.Joining.{along, joined_detached}
use Rattle.pm_nursery.proofs.Parts.{found_of, is_there, holder, picks, passes}
use Rattle.pm_law_young.proofs.Carrying.{stays, world_after}
use Rattle.pm_law_young.proofs.Then.{young_on}
use Rattle.pm_young.specs.Bringing.{AddsThese, AreFirstJoined, BringsIn, CarriesJoined, CarriesJoinedPart, Enters, EntersPart, HoldsWithin, MayAllComeIn, MayYoungComeIn, StandsApart, StandsWithout}
use Rattle.pm_young.specs.Parts.{AnswersSpace, AnswersStill, AnswersWith, AnswersWorld, AreFirstEscaping, ComesYoung, LetsJoinedEscape, LosesSpace, LosesStill, LosesWith, ReadsNoneBut, StandsFor}
use Rattle.pm_young.specs.Rows.{ComeByRows}
use Rattle.pm_young.specs.Setting.{ReadsNone}
use Rattle.pm_young.proofs.Admitted.{adds_none}
use Rattle.pm_young.proofs.Answered.{goes_none, no_order}
use Rattle.pm_young.proofs.Carried.{take_ascending, take_before}
use Rattle.pm_young.proofs.Listed.{among_take}

-- ---- what is joined

-- what is joined to a young object is young
pub joined_young : (nursery : NurseryView) → IsNursery nursery → (id : ℕ) → IsSome (get nursery.objects id) → (other : ℕ) → IsJoined nursery.objects id other → IsSome (get nursery.objects other)
joined_young nursery sound id young other joined =
    along nursery.objects (λ x. IsSome (get nursery.objects x))
    (λ from to there touches.
    ⊎_elim
    (λ (holds : Holds nursery.objects from to). sound.closed from to holds)
    (λ (holds : Holds nursery.objects to from). let found = holder nursery.objects to from holds in is_there (get nursery.objects to) found.0 found.1)
    touches)
    id joined.0 other young joined.1

module _ (nursery : NurseryView) (sound : IsNursery nursery) (id : ℕ) (young : IsSome (get nursery.objects id)) (ids : List ℕ) (joined : AreJoined nursery.objects id ids) where
  pub are_young : AreYoung nursery ids
  are_young other inside = joined_young nursery sound id young other (joined.each other inside)

  -- what one of them holds is among them
  pub joined_within : HoldsWithin nursery.objects ids
  joined_within from to inside holds = sym (joined_detached nursery.objects id ids joined from to holds) ∙ inside

  pub joined_may : (view : SpaceView) → MayYoungComeIn view nursery → MayAllComeIn view ids
  joined_may view may other inside = may other (are_young other inside)

  pub joined_apart : (view : SpaceView) → ∥ StandsApart view nursery ∥₁ → ∥ StandsWithout view ids ∥₁
  joined_apart view known = ∥∥₁_map known (λ it. record { world = it.world; represents = it.represents; none = λ other inside. it.none other (are_young other inside) })

-- a first part of what is joined entered
pub joined_part : (view after : SpaceView) (nursery : NurseryView) (sound : IsNursery nursery) (id : ℕ) → IsSome (get nursery.objects id) → (before later ids : List ℕ) → IsAscending ids → AreJoined nursery.objects id ids
    → EntersPart view after before later ids → CarriesJoinedPart view nursery id before after later
joined_part view after nursery sound id young before later ids up joined part =
    let some = take part.0 ids in
    record {
      ids = some;
      first = record {
        ascending = take_ascending part.0 ids up;
        each = λ other inside. joined.each other (among_take part.0 ids other inside);
        before = λ one other there less is. take_before part.0 ids up one other there less (joined.all one is);
      };
      young = λ other inside. joined_young nursery sound id young other (joined.each other (among_take part.0 ids other inside));
      enters = part.1;
    }

-- ---- what came in

pub comes_young : (view after : SpaceView) (nursery : NurseryView) (before later ids : List ℕ) → IsAscending ids → AreYoung nursery ids → Enters view after before later ids → ComesYoung view after nursery ids
comes_young view after nursery before later ids up young enters = record {
  ascending = up;
  young = young;
  here = enters.adds.here;
  only = λ id is. ⊎_elim (λ was. inl (is.0, was)) (λ new. inr new) (enters.adds.only is.0 id is.1);
  stays = λ id is. (is.0, enters.adds.stays is.0 id is.1);
  next = let same = enters.adds.next in omega (arith, same);
}

-- and objects stay after it
pub comes_then : (view mid after : SpaceView) (nursery : NurseryView) (ids : List ℕ) → ComesYoung view mid nursery ids → KeepsObjects mid after → mid.next ≤ after.next → ComesYoung view after nursery ids
comes_then view mid after nursery ids comes keeps next = record {
  ascending = comes.ascending;
  young = comes.young;
  here = λ id inside. let at = comes.here id inside in (at.0, keeps.ids at.0 ∙ at.1);
  only = λ id is. comes.only id (is.0, sym (keeps.ids is.0) ∙ is.1);
  stays = λ id is. let at = comes.stays id is in (at.0, keeps.ids at.0 ∙ at.1);
  next = let one = comes.next in omega (arith, one, next);
}

-- so it is where nothing more comes in
pub comes_still : (view mid after : SpaceView) (old between : NurseryView) (ids : List ℕ) → ComesYoung view mid old ids → ComesYoung mid after between [] → ComesYoung view after old ids
comes_still view mid after old between ids one two = record {
  ascending = one.ascending;
  young = one.young;
  here = λ id inside. two.stays id (one.here id inside);
  only = λ id is. ⊎_elim (λ was. one.only id was) (λ never. absurd (cc never)) (two.only id is);
  stays = λ id is. two.stays id (one.stays id is);
  next = let a = one.next in let b = two.next in omega (arith, a, b);
}

-- ---- a world

module _ (view mid : SpaceView) (old between : NurseryView) (sound : IsNursery old) (id : ℕ) (before later : List ℕ) (carries : CarriesJoined view old id before mid between later) where
  came : ComesYoung view mid old carries.ids
  came = comes_young view mid old before later carries.ids carries.ascending carries.young carries.enters

  module _ (client : ℕ) (cmd : Cmd) (lets : LetsJoinedEscape view old client cmd id) where
    escaping : (within world : World) → StandsFor view old within world → AreEscaping world old client cmd carries.ids
    escaping within world stands = record {
      ascending = carries.ascending;
      each = λ other inside. (lets within world stands other).1 (carries.joined.each other inside);
      all = λ other escapes. carries.joined.all other ((lets within world stands other).0 escapes);
    }

    -- memory ran out behind the escape
    pub loses_after : (after : SpaceView) → LosesStill client cmd mid after between → LosesSpace client cmd view after old before later
    loses_after after loses = record {
      ids = carries.ids;
      entered = carries.enters.entered;
      loses = record {
        comes = comes_still view mid after old between carries.ids came loses.comes;
        first = λ within world stands.
            let all = escaping within world stands in
            record { ascending = all.ascending; each = all.each; before = λ one other there less escapes. all.all one escapes };
      };
    }

    -- the command was answered behind it
    pub answers_after : (after : SpaceView) (new : NurseryView) (reply : Reply) → makes_object cmd ≡ false → AnswersStill client cmd mid after between new reply → AnswersSpace client cmd view after old new before later reply
    answers_after after new reply none answers = record {
      ids = carries.ids;
      entered = carries.enters.entered;
      answers = record {
        short = answers.short;
        comes = comes_still view mid after old between carries.ids came answers.comes;
        young = λ one is. ⊎_elim
            (λ stayed. inl (left_young one stayed.0))
            (λ born. let same = carries.enters.adds.next in inr (omega (arith, same, born.0), born.1))
            (answers.young one is);
        worlds = λ within world stands.
            let came = carries.brings within stands.represents (λ one inside. stands.young.apart one (carries.young one inside)) in
            let young = world_after old between carries.ids sound (joined_detached old.objects id carries.ids carries.joined) carries.leaves within world came.0 stands.young carries.young came.2 in
            let then' = answers.worlds came.0 world (record { represents = came.1; young = young; fresh = stands.fresh }) in
            record {
              reply_is = then'.reply_is;
              later = then'.later;
              represents = then'.represents;
              is_young = then'.is_young;
              stays = λ one there. then'.stays one (stays within world came.0 old carries.ids stands.young carries.young came.2 one there);
              escaping = escaping within world stands;
              then_young = λ one.
                  then'.then_young one
                  ∙ sym (young_on world between client cmd one between [] none (goes_none between))
                  ∙ young_on world old client cmd one between carries.ids none carries.leaves;
            };
      };
    }
      where
        kept_if : (b : Bool) (o : Option Object) → IsSome (if b then None else o) → IsSome o × (b ≡ false)
        kept_if true o is = cc is
        kept_if false o is = (is, refl)

        left_young : (one : ℕ) → IsSome (get between.objects one) → IsSome (get old.objects one) × (among carries.ids one ≡ false)
        left_young one is = kept_if (among carries.ids one) (get old.objects one) (subst (λ (o : Option Object). IsSome o) (carries.leaves.objects one) is)

    -- whatever is answered
    pub loses_after_if : (after : SpaceView) {A E : Type 0} (result : Result A E) → OnErr result (LosesStill client cmd mid after between) → OnErr result (LosesSpace client cmd view after old before later)
    loses_after_if after (Ok x) loses = tt
    loses_after_if after (Err e) loses = loses_after after loses

    pub answers_after_if : (after : SpaceView) (new : NurseryView) {E : Type 0} (result : Result Reply E) → makes_object cmd ≡ false → IfOk result (AnswersStill client cmd mid after between new) → IfOk result (AnswersSpace client cmd view after old new before later)
    answers_after_if after new (Ok reply) none answers = answers_after after new reply none answers
    answers_after_if after new (Err e) none answers = tt

-- memory ran out in the escape
pub loses_part : (view after : SpaceView) (old : NurseryView) (id : ℕ) (before later : List ℕ) → CarriesJoinedPart view old id before after later → (client : ℕ) (cmd : Cmd) → LetsJoinedEscape view old client cmd id
    → LosesSpace client cmd view after old before later
loses_part view after old id before later part client cmd lets = record {
  ids = part.ids;
  entered = part.enters.entered;
  loses = record {
    comes = comes_young view after old before later part.ids part.first.ascending part.young part.enters;
    first = λ within world stands. record {
      ascending = part.first.ascending;
      each = λ other inside. (lets within world stands other).1 (part.first.each other inside);
      before = λ one other there less escapes. part.first.before one other there less ((lets within world stands one).0 escapes);
    };
  };
}

-- ---- registers

-- each register that the command reads is empty in the nursery once what it held went out
pub reads_none_then : (old between : NurseryView) (client : ℕ) (cmd : Cmd) (id : ℕ) (ids : List ℕ) → ReadsNoneBut old client cmd id → among ids id ≡ true → GoesOut old ids between → ReadsNone between client cmd
reads_none_then old between client cmd id ids reads inside goes register is =
    goes.registers (client, register)
    ∙ ⊎_elim
    (λ (none : get old.registers (client, register) ≡ None). ap (left_held ids) none)
    (λ (held : get old.registers (client, register) ≡ Some id). ap (left_held ids) held ∙ picks (among ids id) None (Some id) inside)
    (reads register is)

-- nothing entered
pub joined_none : (view : SpaceView) (nursery : NurseryView) (id : ℕ) (before : List ℕ) → CarriesJoinedPart view nursery id before view before
joined_none view nursery id before = record {
  ids = [];
  first = record { ascending = no_order; each = λ other never. absurd (cc never); before = λ one other never. absurd (cc never) };
  young = λ other never. absurd (cc never);
  enters = record { entered = sym (append-nil before); adds = adds_none view view refl };
}
