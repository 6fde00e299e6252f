-- An object is born young, in a nursery that was swept first where it was full.
use Rattle.std.proofs.Common.{◌≡◌, ◌⊎◌, ⊎_elim, inl, inr, ℕ, ◌+◌, ◌<◌, ◌≤◌, Bool, true, false, cond, not, ◌&&◌, ◌||◌, if◌then◌else◌, nat_eq, nat_le, nat_lt, ◌==◌, List, [], ◌∷◌, ◌++◌, length, Option, Some, None, refl, sym, ap, subst, ◌∙◌, is_some, arith, append-nil}
use Rattle.std.specs.Option.{IsSome}
use Rattle.std.specs.Ordering.{nat_cmp, eq_by_cmp}
use Rattle.std.specs.Cmp.{nat_cmp_total}
use Rattle.std.specs.FinMap.{get, insert, len, get-insert, len-empty}
use Rattle.std.proofs.lemmas.Bool.Decides.{nat_tests}
use Rattle.pm_types.specs.Replies.{IsShortReply}
use Rattle.pm_types.specs.declared.limits.TheConstants.{FIELDS, OBJECT_BYTES, LAST_ID, END_ID}
use Rattle.pm_types.specs.declared.command.Cmd.TheVariants.{New}
use Rattle.pm_types.specs.declared.reply.Reply.{Reply}
use Rattle.pm_types.specs.declared.reply.Reply.TheVariants.{Ident, IdsSpent, Shown, TooLarge}
use Rattle.pm_model.specs.Heap.{Object, Heap}
use Rattle.pm_model.specs.World.{World, emptying, holding, with_object}
use Rattle.pm_model.specs.Answer.{answer, answer_new, fresh, is_refusal, refused}
use Rattle.pm_view.specs.View.{SpaceView}
use Rattle.pm_view.specs.Objects.{KeepsObjects}
use Rattle.pm_view.specs.Represents.{Represents}
use Rattle.pm_nursery.specs.Young.{NurseryView, IsNursery, IsYoung, no_nursery}
use Rattle.pm_nursery.specs.Escaping.{AreEscaping, bears, is_full, young_then}
use Rattle.pm_nursery.specs.Moving.{young_changing, young_holding}
use Rattle.pm_nursery.specs.Sweeping.{among, AreReached}
use Rattle.pm_law_young.proofs.Carrying.{stays, world_swept}
use Rattle.pm_law_young.proofs.Escaped.{none_escaping}
use Rattle.pm_law_young.proofs.Moves.{born, held_young}
use Rattle.pm_law_young.proofs.Then.{young_alone_born, young_born}
use Rattle.pm_mutate.specs.Young.{SpendsToo, giving, row_spend}
use Rattle.pm_view.specs.Rows.{spent}
use Rattle.pm_young.specs.declared.setting.Sets.TheVariants.{One}
use Rattle.pm_young.specs.Setting.{LeavesWithout}
use Rattle.pm_young.specs.Bringing.{CarriesReached, MayYoungComeIn, SweepsIfFull, SweepsPart, had_room, swept}
use Rattle.pm_young.specs.Entering.{MayComeIn}
use Rattle.pm_nursery.specs.declared.limits.TheConstants.{YOUNG}
use Rattle.pm_young.specs.Parts.{AnswersSpace, AnswersStill, IsBornYoung, KeepsCars, LosesSpace, StandsFor}
use Rattle.pm_young.proofs.Answered.{comes_none, loses_still, refused_answers, still_answers, still_loses}
use Rattle.pm_young.proofs.Carried.{path_young, reached_young}
use Rattle.pm_young.proofs.Listed.{left_one, right_one}
use Rattle.pm_young.proofs.Crossed.{comes_then, comes_young}
use Rattle.pm_young.proofs.Opened.{none_young}

-- ---- births

module _ (client reg count : ℕ) (bytes : List ℕ) where
  small_tests : count ≤ FIELDS → length bytes ≤ OBJECT_BYTES → (nat_lt FIELDS count || nat_lt OBJECT_BYTES (length bytes)) ≡ false
  small_tests few short = grind (arith, nat_tests, few, short)

  left_test : (next : ℕ) → next < END_ID → nat_lt LAST_ID next ≡ false
  left_test next left = grind (arith, nat_tests, left)

  -- the world's answer
  answered_new : (world : World) → count ≤ FIELDS → length bytes ≤ OBJECT_BYTES → world.next < END_ID
      → answer world client (New reg count bytes) ≡ (Ident world.next, holding (with_object world (fresh count bytes)) client reg world.next)
  unfolding answer
  answered_new world few short left =
      ap (λ b. if b then refused world TooLarge else if nat_lt LAST_ID world.next then refused world IdsSpent else (Ident world.next, holding (with_object world (fresh count bytes)) client reg world.next)) (small_tests few short)
      ∙ ap (λ b. if b then refused world IdsSpent else (Ident world.next, holding (with_object world (fresh count bytes)) client reg world.next)) (left_test world.next left)

module _ (client reg count : ℕ) (bytes : List ℕ) (view mid after : SpaceView) (old left new : NurseryView) (few : count ≤ FIELDS) (short : length bytes ≤ OBJECT_BYTES) (room : view.next < END_ID) (same_next : mid.next ≡ view.next) (born_young : IsBornYoung client reg (fresh count bytes) mid after left new) where
  abbrev one : Object
  one = fresh count bytes

  abbrev all : World → Reply × World
  all world = answer world client (New reg count bytes)

  -- whatever was swept
  module _ (within world later : World) (stands : StandsFor view old within world) (represents : Represents mid later) (young : IsYoung later left world) where
    next_is : world.next ≡ view.next
    next_is = sym (ap (λ (w : World). w.next) stands.young.rest) ∙ stands.represents.next

    says : all world ≡ (Ident world.next, holding (with_object world one) client reg world.next)
    says = answered_new client reg count bytes world few short (subst (λ n. n < END_ID) (sym next_is) room)

    done : is_refusal (New reg count bytes) (all world).0 ≡ false
    done = ap (λ (a : Reply × World). is_refusal (New reg count bytes) a.0) says

    bears_one : bears world client (New reg count bytes) ≡ true
    bears_one = ap not done

    reply_is : Ident view.next ≡ (all world).0
    reply_is = ap Ident (sym next_is) ∙ sym (ap (λ (a : Reply × World). a.0) says)

    next_mid : world.next ≡ mid.next
    next_mid = next_is ∙ sym same_next

    new_is : new ≡ young_holding (young_changing left world.next one) client reg world.next
    new_is = born_young.nursery ∙ ap (λ n. young_holding (young_changing left n one) client reg n) (sym next_mid)

    born_in : IsYoung (record (emptying later client reg) { next = later.next + 1 }) new (all world).1
    born_in =
        subst (λ (n : NurseryView). IsYoung (record (emptying later client reg) { next = later.next + 1 }) n (all world).1) (sym new_is)
        (subst (IsYoung (record (emptying later client reg) { next = later.next + 1 }) (young_holding (young_changing left world.next one) client reg world.next)) (sym (ap (λ (a : Reply × World). a.1) says))
        (held_young (record later { next = later.next + 1 }) (with_object world one) (young_changing left world.next one) (born later world left young one stands.fresh) client reg world.next))

    objects_are : new.objects ≡ insert left.objects world.next one
    objects_are = ap (λ (n : NurseryView). n.objects) new_is

  -- what is young then was so, or is the one that was born
  born_or_left : (id : ℕ) → IsSome (get new.objects id) → IsSome (get left.objects id) ⊎ ((view.next ≤ id) × (id < after.next))
  born_or_left id is =
      by (eq_by_cmp nat_cmp id mid.next) refl (subst IsSome (ap (λ (n : NurseryView). get n.objects id) born_young.nursery ∙ get-insert nat_cmp_total left.objects mid.next one id) is)
    where
      equal : (m n : ℕ) → eq_by_cmp nat_cmp m n ≡ true → m ≡ n
      equal m n same = grind (arith, nat_tests, same)

      by : (b : Bool) → eq_by_cmp nat_cmp id mid.next ≡ b → IsSome (cond b (Some one) (get left.objects id)) → IsSome (get left.objects id) ⊎ ((view.next ≤ id) × (id < after.next))
      by true same there = let here = equal id mid.next same in let next = born_young.next in inr (omega (arith, here, same_next), omega (arith, here, next))
      by false other there = inl there

module _ (client reg count : ℕ) (bytes : List ℕ) (view after : SpaceView) (old new : NurseryView) (few : count ≤ FIELDS) (short : length bytes ≤ OBJECT_BYTES) (room : view.next < END_ID) where
  -- there was room
  pub born_with_room : is_full old ≡ false → IsBornYoung client reg (fresh count bytes) view after old new → AnswersStill client (New reg count bytes) view after old new (Ident view.next)
  born_with_room roomy is = record {
    short = tt;
    comes = comes_none view after is.objects (let next = is.next in omega (arith, next)) old;
    young = λ id there. ⊎_elim (λ was. inl (was, refl)) (λ born. inr born) (born_or_left client reg count bytes view view after old old new few short room refl is id there);
    worlds = λ within world stands.
        let one = within in
        record {
          reply_is = reply_is client reg count bytes view view after old old new few short room refl is within world within stands stands.represents stands.young;
          later = record (emptying within client reg) { next = within.next + 1 };
          represents = is.worlds within stands.represents;
          is_young = born_in client reg count bytes view view after old old new few short room refl is within world within stands stands.represents stands.young;
          stays = λ id there. there;
          escaping = none_escaping world old client (New reg count bytes) (λ id escapes. cc (roomy, escapes.1.0));
          then_young = λ id.
              ap (λ (h : Heap). is_some (get h id)) (objects_are client reg count bytes view view after old old new few short room refl is within world within stands stands.represents stands.young)
              ∙ young_born world old client (New reg count bytes) id (fresh count bytes) (bears_one client reg count bytes view view after old old new few short room refl is within world within stands stands.represents stands.young) roomy;
        };
  }

  -- the nursery was swept first
  module _ (mid : SpaceView) (sound : IsNursery old) (before later : List ℕ) (full : is_full old ≡ true) (carries : CarriesReached view old before mid later) (is : IsBornYoung client reg (fresh count bytes) mid after no_nursery new) where
    same_next : mid.next ≡ view.next
    same_next = carries.enters.adds.next

    pub born_swept : AnswersSpace client (New reg count bytes) view after old new before later (Ident view.next)
    born_swept = record {
      ids = carries.ids;
      entered = carries.enters.entered;
      answers = record {
        short = tt;
        comes = comes_then view mid after old carries.ids (comes_young view mid old before later carries.ids carries.ascending (reached_young old carries.ids carries.reached sound) carries.enters) is.objects (let next = is.next in omega (arith, next));
        young = λ id there. ⊎_elim (λ was. absurd (none_young id was)) (λ born. inr born) (born_or_left client reg count bytes view mid after old no_nursery new few short room same_next is id there);
        worlds = λ within world stands.
            let are = reached_young old carries.ids carries.reached sound in
            let came = carries.brings within stands.represents (λ id inside. stands.young.apart id (are id inside)) in
            let swept = world_swept within world came.0 old carries.ids stands.young sound carries.reached came.2 in
            record {
              reply_is = reply_is client reg count bytes view mid after old no_nursery new few short room same_next is within world came.0 stands came.1 swept;
              later = record (emptying came.0 client reg) { next = came.0.next + 1 };
              represents = is.worlds came.0 came.1;
              is_young = born_in client reg count bytes view mid after old no_nursery new few short room same_next is within world came.0 stands came.1 swept;
              stays = λ id there. stays within world came.0 old carries.ids stands.young are came.2 id there;
              escaping =
                  let done = done client reg count bytes view mid after old no_nursery new few short room same_next is within world came.0 stands came.1 swept in
                  record { ascending = carries.ascending; each = λ id inside. (done, (full, carries.reached.each id inside)); all = λ id escapes. carries.reached.all id escapes.1.1 };
              then_young = λ id.
                  ap (λ (h : Heap). is_some (get h id)) (objects_are client reg count bytes view mid after old no_nursery new few short room same_next is within world came.0 stands came.1 swept)
                  ∙ young_alone_born world old client (New reg count bytes) id (fresh count bytes) carries.ids (bears_one client reg count bytes view mid after old no_nursery new few short room same_next is within world came.0 stands came.1 swept) full;
            };
      };
    }

-- ---- one birth

born_nursery : (n a h : NurseryView) (client reg r id next : ℕ) (object first : Object) → a ≡ young_changing n id object → h ≡ young_holding a client r id → id ≡ next → r ≡ reg → object ≡ first
    → h ≡ young_holding (young_changing n next first) client reg next
born_nursery n a h client reg r id next object first added held same_id same_reg same =
    held ∙ (λ i. young_holding (added i) client (same_reg i) id) ∙ (λ i. young_holding (young_changing n (same_id i) (same i)) client reg (same_id i))

abbrev pair : Option ℕ → SpaceView → Option ℕ × SpaceView
pair given after = (given, after)

spend_is : (v after : SpaceView) (given : Option ℕ) → v.next < END_ID → pair given after ≡ row_spend v → (given ≡ Some v.next) × (after.next ≡ v.next + 1)
spend_is v after given left row = by (v.next == END_ID) (not_end v.next left) row
  where
    not_end : (n : ℕ) → n < END_ID → (n == END_ID) ≡ false
    not_end n less = grind (arith, nat_tests, less)

    by : (b : Bool) → b ≡ false → pair given after ≡ (if b then (None, v) else (Some v.next, spent v)) → (given ≡ Some v.next) × (after.next ≡ v.next + 1)
    by true is same = cc is
    by false is same = (ap (λ (p : Option ℕ × SpaceView). p.0) same, ap (λ (p : Option ℕ × SpaceView). p.1.next) same)

-- an identity was given, the object added, the register set in the nursery, and left in the space
pub born_all : (client reg r id : ℕ) (object first : Object) (v mid w : SpaceView) (given : Option ℕ) (n a h : NurseryView) → v.next < END_ID → pair given mid ≡ row_spend v → given ≡ Some id → SpendsToo v given mid → KeepsObjects v mid
    → object ≡ first → a ≡ young_changing n id object → h ≡ young_holding a client r id → r ≡ reg → LeavesWithout mid (One reg) client w → KeepsObjects mid w → w.next ≡ mid.next → IsBornYoung client reg first v w n h
born_all client reg r id object first v mid w given n a h left row some worlds keeps same added held same_reg leaves stays next =
    let spent = spend_is v mid given left row in
    let id_is : id ≡ v.next = same_number id v.next (sym some ∙ spent.0) in
    record {
      nursery = born_nursery n a h client reg r id v.next object first added held id_is same_reg same;
      objects = record { trains = stays.trains ∙ keeps.trains; aside = λ car. stays.aside car ∙ keeps.aside car; ids = λ a. stays.ids a ∙ keeps.ids a };
      next = next ∙ spent.1;
      worlds = λ within stands. leaves (record within { next = within.next + 1 }) (subst (λ (o : Option ℕ). Represents mid (giving within o)) some (worlds within stands));
    }
  where
    same_number : (m n : ℕ) → Some m ≡ Some n → m ≡ n
    same_number m n same = cc same

-- ---- refusals

module _ (client reg count : ℕ) (bytes : List ℕ) where
  large_tests : ((FIELDS < count) ⊎ (OBJECT_BYTES < length bytes)) → (nat_lt FIELDS count || nat_lt OBJECT_BYTES (length bytes)) ≡ true
  large_tests large = ⊎_elim
      (λ (many : FIELDS < count). left_one (nat_lt FIELDS count) (nat_lt OBJECT_BYTES (length bytes)) (below FIELDS count many))
      (λ (long : OBJECT_BYTES < length bytes). right_one (nat_lt FIELDS count) (nat_lt OBJECT_BYTES (length bytes)) (below OBJECT_BYTES (length bytes) long))
      large
    where
      below : (m n : ℕ) → m < n → nat_lt m n ≡ true
      below m n less = grind (arith, nat_tests, less)

  pub too_large : ((FIELDS < count) ⊎ (OBJECT_BYTES < length bytes)) → (world : World) → answer world client (New reg count bytes) ≡ (TooLarge, world)
  unfolding answer
  too_large large world =
      ap (λ b. if b then refused world TooLarge else if nat_lt LAST_ID world.next then refused world IdsSpent else (Ident world.next, holding (with_object world (fresh count bytes)) client reg world.next)) (large_tests large)

  spent_test : (next : ℕ) → END_ID ≤ next → nat_lt LAST_ID next ≡ true
  spent_test next over = grind (arith, nat_tests, over)

  pub ids_spent : count ≤ FIELDS → length bytes ≤ OBJECT_BYTES → (world : World) → END_ID ≤ world.next → answer world client (New reg count bytes) ≡ (IdsSpent, world)
  unfolding answer
  ids_spent few short world over =
      ap (λ b. if b then refused world TooLarge else if nat_lt LAST_ID world.next then refused world IdsSpent else (Ident world.next, holding (with_object world (fresh count bytes)) client reg world.next)) (small_tests client reg count bytes few short)
      ∙ ap (λ b. if b then refused world IdsSpent else (Ident world.next, holding (with_object world (fresh count bytes)) client reg world.next)) (spent_test world.next over)

  pub refused_large : (view : SpaceView) (nursery : NurseryView) (before : List ℕ) → ((FIELDS < count) ⊎ (OBJECT_BYTES < length bytes)) → AnswersSpace client (New reg count bytes) view view nursery nursery before before TooLarge
  refused_large view nursery before large =
      still_answers client (New reg count bytes) view view nursery nursery TooLarge (refused_answers view nursery client (New reg count bytes) TooLarge refl tt (λ within world stands. too_large large world)) before

  pub refused_spent : (view : SpaceView) (nursery : NurseryView) (before : List ℕ) → count ≤ FIELDS → length bytes ≤ OBJECT_BYTES → END_ID ≤ view.next → AnswersSpace client (New reg count bytes) view view nursery nursery before before IdsSpent
  refused_spent view nursery before few short over =
      still_answers client (New reg count bytes) view view nursery nursery IdsSpent
      (refused_answers view nursery client (New reg count bytes) IdsSpent refl tt (λ within world stands. ids_spent few short world (subst (λ n. END_ID ≤ n) (sym (sym (ap (λ (w : World). w.next) stands.young.rest) ∙ stands.represents.next)) over))) before

-- ---- whatever was swept

module _ (client reg count : ℕ) (bytes : List ℕ) (view : SpaceView) (old : NurseryView) (sound : IsNursery old) (before : List ℕ) (few : count ≤ FIELDS) (short : length bytes ≤ OBJECT_BYTES) (room : view.next < END_ID) where
  not_refused : (within world : World) → StandsFor view old within world → is_refusal (New reg count bytes) (answer world client (New reg count bytes)).0 ≡ false
  not_refused within world stands =
      ap (λ (a : Reply × World). is_refusal (New reg count bytes) a.0)
      (answered_new client reg count bytes world few short (subst (λ n. n < END_ID) (sym (sym (ap (λ (w : World). w.next) stands.young.rest) ∙ stands.represents.next)) room))

  pub bear_answers : (mid after : SpaceView) (left new : NurseryView) (later : List ℕ) (id : ℕ) → SweepsIfFull view old before mid left later → IsBornYoung client reg (fresh count bytes) mid after left new → id ≡ mid.next
      → AnswersSpace client (New reg count bytes) view after old new before later (Ident id)
  bear_answers mid after left new later id (swept full carries none) is same =
      subst (λ n. AnswersSpace client (New reg count bytes) view after old new before later (Ident n)) (sym carries.enters.adds.next ∙ sym same)
      (born_swept client reg count bytes view after old new few short room mid sound before later full carries (subst (λ (l : NurseryView). IsBornYoung client reg (fresh count bytes) mid after l new) none is))
  bear_answers mid after left new later id (had_room roomy mid_is left_is later_is) is same =
      subst (λ n. AnswersSpace client (New reg count bytes) view after old new before later (Ident n)) (sym (ap (λ (v : SpaceView). v.next) mid_is) ∙ sym same)
      (subst (λ (l : List ℕ). AnswersSpace client (New reg count bytes) view after old new before l (Ident view.next)) (sym later_is)
      (still_answers client (New reg count bytes) view after old new (Ident view.next)
      (born_with_room client reg count bytes view after old new few short room roomy
      (subst (λ (v : SpaceView). IsBornYoung client reg (fresh count bytes) v after old new) mid_is (subst (λ (l : NurseryView). IsBornYoung client reg (fresh count bytes) mid after l new) left_is is)))
      before))

  -- memory ran out in the sweep
  pub bear_loses_part : (after : SpaceView) (later : List ℕ) → SweepsPart view old before after later → LosesSpace client (New reg count bytes) view after old before later
  bear_loses_part after later part =
      let ids = part.part.ids in
      record {
        ids = ids;
        entered = part.part.enters.entered;
        loses = record {
          comes = comes_young view after old before later ids part.part.first.ascending (λ id inside. path_young old sound id (part.part.first.each id inside)) part.part.enters;
          first = λ within world stands. record {
            ascending = part.part.first.ascending;
            each = λ id inside. (not_refused within world stands, (part.full, part.part.first.each id inside));
            before = λ id other there less escapes. part.part.first.before id other there less escapes.1.1;
          };
        };
      }

  -- or behind it
  pub bear_loses : (mid after : SpaceView) (left : NurseryView) (later : List ℕ) → SweepsIfFull view old before mid left later → KeepsCars mid after → LosesSpace client (New reg count bytes) view after old before later
  bear_loses mid after left later (swept full carries none) keeps =
      let are = reached_young old carries.ids carries.reached sound in
      record {
        ids = carries.ids;
        entered = carries.enters.entered;
        loses = record {
          comes = comes_then view mid after old carries.ids (comes_young view mid old before later carries.ids carries.ascending are carries.enters) keeps.objects keeps.next;
          first = λ within world stands. record {
            ascending = carries.ascending;
            each = λ id inside. (not_refused within world stands, (full, carries.reached.each id inside));
            before = λ id other there less escapes. carries.reached.all id escapes.1.1;
          };
        };
      }
  bear_loses mid after left later (had_room roomy mid_is left_is later_is) keeps =
      subst (λ (l : List ℕ). LosesSpace client (New reg count bytes) view after old before l) (sym later_is)
      (still_loses client (New reg count bytes) view after old
      (loses_still view after (subst (λ (v : SpaceView). KeepsObjects v after) mid_is keeps.objects) (subst (λ (v : SpaceView). v.next ≤ after.next) mid_is keeps.next) old client (New reg count bytes)) before)

-- ---- what a birth asks

pub room_after : (view mid : SpaceView) (old left : NurseryView) (before later : List ℕ) → SweepsIfFull view old before mid left later → len left.objects < YOUNG
room_after view mid old left before later (swept full carries none) =
    let count = ap (λ (n : NurseryView). len n.objects) none in
    let zero = len_none in
    omega (arith, count, zero)
  where
    len_none : len no_nursery.objects ≡ 0
    len_none = len-empty nat_cmp Object
room_after view mid old left before later (had_room roomy mid_is left_is later_is) =
    let count = ap (λ (n : NurseryView). len n.objects) left_is in
    let less = below YOUNG (len old.objects) roomy in
    omega (arith, count, less)
  where
    below : (m n : ℕ) → nat_le m n ≡ false → n < m
    below m n is = grind (arith, nat_tests, is)

pub may_after : (view mid : SpaceView) (old left : NurseryView) (before later : List ℕ) → SweepsIfFull view old before mid left later → MayYoungComeIn view old → MayYoungComeIn mid left
may_after view mid old left before later (swept full carries none) may id there = absurd (none_young id (subst (λ (n : NurseryView). IsSome (get n.objects id)) none there))
may_after view mid old left before later (had_room roomy mid_is left_is later_is) may id there =
    subst (λ (v : SpaceView). MayComeIn v id) (sym mid_is) (may id (subst (λ (n : NurseryView). IsSome (get n.objects id)) left_is there))
