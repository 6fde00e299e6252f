-- What an engine with a nursery keeps goes on through a command.
use Rattle.std.proofs.Common.{◌≡◌, ◌⊎◌, ⊎_elim, inl, inr, ℕ, ◌+◌, ◌<◌, ◌≤◌, Bool, true, false, ◌||◌, if◌then◌else◌, nat_eq, nat_lt, List, [], ◌∷◌, ◌++◌, length, Option, Some, None, option_map, refl, sym, ap, subst, ◌∙◌, is_some, arith}
use Rattle.std.specs.Option.{IsSome}
use Rattle.std.specs.Coded.{Coded-set, coded_ℕ, coded_bool}
use Rattle.std.specs.FinMap.{get}
use Rattle.std.specs.List.{IsDistinct}
use Rattle.std.proofs.Math.Logic.{∥∥₁_elim, ∥∥₁_map, ∥∥₁_prop}
use Rattle.pm_types.specs.declared.limits.TheConstants.{FIELDS, OBJECT_BYTES, LAST_ID}
use Rattle.pm_types.specs.declared.command.Cmd.{Cmd}
use Rattle.pm_types.specs.declared.command.Cmd.TheVariants.{New}
use Rattle.pm_types.specs.declared.entry.Entry.{Entry}
use Rattle.pm_types.specs.declared.reply.Reply.{Reply}
use Rattle.pm_types.specs.declared.reply.Reply.TheVariants.{Ident, IdsSpent, TooLarge}
use Rattle.pm_disk.specs.declared.disk.Disk.{Ghosts}
use Rattle.pm_model.specs.Heap.{Object}
use Rattle.pm_model.specs.World.{World, holding, with_object}
use Rattle.pm_model.specs.Answer.{answer, fresh, refused}
use Rattle.pm_model.specs.Journal.{after, says_saved}
use Rattle.pm_model.proofs.AnswerLaws.{leaves_next}
use Rattle.pm_view.specs.View.{Cars, SpaceView}
use Rattle.pm_view.specs.Commands.{is_act}
use Rattle.pm_space.specs.Shown.{view}
use Rattle.pm_saving.specs.Serving.{Serving, opening, world}
use Rattle.pm_saving.specs.Events.{Appends, Serves}
use Rattle.pm_saving.specs.Progress.{Saving}
use Rattle.pm_saving.specs.Serving.{numbered_copy}
use Rattle.pm_saving.specs.Tied.{IsTied}
use Rattle.pm_save.specs.Shown.{saving}
use Rattle.pm_shadow.specs.Pages.{disk_of, state}
use Rattle.pm_shadow.specs.declared.pages.Pages.{Pages}
use Rattle.pm_law_saving.proofs.ServingLemmas.Kept.{stays_same}
use Rattle.pm_engine.proofs.WorksLemmas.Answering.{not_saved}
use Rattle.pm_engine.proofs.WorksLemmas.Going.{answers_sound, appends_so, rests_sound}
use Rattle.pm_engine.proofs.WorksLemmas.Kept.{pages_last, spares_still, still_told}
use Rattle.pm_types.specs.contracts.reply.Reply as reply_type
use Rattle.pm_law_saving.proofs.ServingLemmas.Kept as law
use Rattle.pm_law_saving.proofs.ServingLemmas.Splitting.{splits_once}
use Rattle.pm_engine.specs.declared.works.start.Start.{Start}
use Rattle.pm_engine.specs.declared.works.works.Works.{Works}
use Rattle.pm_engine.specs.Works.Seen.{IsCrashSafe, seen}
use Rattle.pm_engine.specs.Works.Working.{IsTiedIn, contents_in, disk_at, frozen_in, journal_in, saving_in, state_in, view_in}
use Rattle.pm_nursery.specs.Young.{NurseryView, IsYoung, no_nursery}
use Rattle.pm_nursery.specs.Escaping.{AreEscaping, young_then}
use Rattle.pm_nursery.specs.Sweeping.{among}
use Rattle.pm_nursery.proofs.Parts.{found_of, is_there, none_some}
use Rattle.pm_young.specs.Entering.{IsGivenSince, IsPresent, KeepsEntered}
use Rattle.pm_young.specs.Kept.{StandsYoung}
use Rattle.pm_young.specs.Parts.{AnswersParts, AnswersWith, AnswersWorld, AreFirstEscaping, ComesYoung, KeepsStored, LosesParts, StandsFor, StandsForSome, StaysOrIsBorn}
use Rattle.pm_young.proofs.Listed.{among_both, among_first, among_second}
use Rattle.pm_young.proofs.Opened.{none_young}
use Rattle.pm_young.proofs.Sound.{distinct_ascending, distinct_both}

-- ---- the next identity never falls

one_more : (w : World) (client reg count : ℕ) (bytes : List ℕ) → w.next ≤ (answer w client (New reg count bytes)).1.next
unfolding answer
one_more w client reg count bytes = by (nat_lt FIELDS count || nat_lt OBJECT_BYTES (length bytes)) (nat_lt LAST_ID w.next)
  where
    by : (b c : Bool) → w.next ≤ (if b then refused w TooLarge else if c then refused w IdsSpent else (Ident w.next, holding (with_object w (fresh count bytes)) client reg w.next)).1.next
    by true c = omega arith
    by false true = omega arith
    by false false = omega arith

next_grows : (world : World) (client : ℕ) (cmd : Cmd) → world.next ≤ (answer world client cmd).1.next
next_grows world client (New reg count bytes) = one_more world client reg count bytes
next_grows world client cmd = let same = leaves_next world client cmd refl in omega (arith, same)

pub after_grows : (world : World) (journal : List Entry) → world.next ≤ (after world journal).next
after_grows world [] = omega arith
after_grows world (entry ∷ rest) =
    let one = next_grows world entry.client entry.cmd in
    let more = after_grows (answer world entry.client entry.cmd).1 rest in
    omega (arith, one, more)

module _ {D : Type 0} {F : Type 0} {g : Ghosts D} (start : Start D F g) (works : Works D F g) (nursery : NurseryView) where
  -- so the opening's is at most that of the space
  pub least_next : ∥ StandsYoung start works nursery ∥₁ → (view start.space.value.parts).next ≤ (view_in works).next
  least_next known =
      let w = world (seen start None works) in
      let same : (view_in works).next ≡ w.next = splits_once (Coded-set coded_ℕ _ _) (∥∥₁_map known (λ it. sym it.represents.next ∙ ap (λ (w : World). w.next) it.young.rest)) in
      let grows = after_grows (opening (seen start None works)) (journal_in works) in
      omega (arith, same, grows)

  -- the world at the journal's end is one for which they stand
  pub for_world : IsCrashSafe start None works → (it : StandsYoung start works nursery) → StandsFor (view_in works) nursery it.within (world (seen start None works))
  for_world safe it = record { represents = it.represents; young = it.young; fresh = law.fresh (seen start None works) safe.journal }

  pub for_some : ∥ IsCrashSafe start None works ∥₁ → ∥ StandsYoung start works nursery ∥₁ → ∥ StandsForSome (view_in works) nursery ∥₁
  for_some safe known = ∥∥₁_elim safe ∥∥₁_prop (λ safe. ∥∥₁_map known (λ it. (it.within, world (seen start None works), for_world safe it)))

-- ---- what entered

module _ (opened v w : SpaceView) (old new : NurseryView) (before later ids : List ℕ) (comes : ComesYoung v w old ids) (entered : later ≡ before ++ ids) (stays : (id : ℕ) → IsSome (get new.objects id) → StaysOrIsBorn v w old ids id) (least : opened.next ≤ v.next) where
  entered_then : KeepsEntered opened v old before → KeepsEntered opened w new later
  entered_then keeps = record {
    present = λ id is.
        ⊎_elim
        (λ was. ⊎_elim (λ there. inl there) (λ one. inr (put id (among_first before ids id one))) (keeps.present id was))
        (λ two. inr (put id (among_second before ids id two)))
        (comes.only id is);
    once = subst (IsDistinct nat_eq) (sym entered)
        (distinct_both before ids keeps.once (distinct_ascending ids comes.ascending) (λ id one two. out_young id one two));
    apart = λ id is. by id (get new.objects id) refl is;
    given = λ id is. let since = given id is in let next = comes.next in (since.0, omega (arith, since.1, next));
    young = λ id is. ⊎_elim
        (λ was. let since = keeps.young id was.0 in let next = comes.next in (since.0, omega (arith, since.1, next)))
        (λ born. (omega (arith, least, born.0), born.1))
        (stays id is);
  }
    where
      out_young : (id : ℕ) → among before id ≡ true → among ids id ≡ true → ⊥
      out_young id one two = let found = found_of (get old.objects id) (comes.young id two) in none_some (get old.objects id) found.0 (keeps.apart id one) found.1

      put : (id : ℕ) → among (before ++ ids) id ≡ true → among later id ≡ true
      put id is = subst (λ (xs : List ℕ). among xs id ≡ true) (sym entered) is

      either : (id : ℕ) → among later id ≡ true → (among before id ≡ true) ⊎ (among ids id ≡ true)
      either id is = among_both before ids id (subst (λ (xs : List ℕ). among xs id ≡ true) entered is)

      given : (id : ℕ) → among later id ≡ true → IsGivenSince opened v id
      given id is = ⊎_elim (λ one. keeps.given id one) (λ two. keeps.young id (comes.young id two)) (either id is)

      by : (id : ℕ) (o : Option Object) → get new.objects id ≡ o → among later id ≡ true → o ≡ None
      by id None same is = refl
      by id (Some x) same is = absurd (⊎_elim
          (λ was. ⊎_elim
          (λ one. let found = found_of (get old.objects id) was.0 in none_some (get old.objects id) found.0 (keeps.apart id one) found.1)
          (λ new. let out = was.1 in cc (new, out))
          (either id is))
          (λ born. let since = given id is in let one = since.1 in let two = born.0 in omega (arith, one, two))
          (stays id (is_there (get new.objects id) x same)))

  pub keeps_entered : ∥ KeepsEntered opened v old before ∥₁ → ∥ KeepsEntered opened w new later ∥₁
  keeps_entered known = ∥∥₁_map known entered_then

-- nothing is young
pub none_stays : (v w : SpaceView) (old : NurseryView) (ids : List ℕ) (id : ℕ) → IsSome (get no_nursery.objects id) → StaysOrIsBorn v w old ids id
none_stays v w old ids id is = absurd (none_young id is)

-- ---- what holds of an engine after a command on the space or the nursery

module _ {D : Type 0} {F : Type 0} {g : Ghosts D} (start : Start D F g) (old new : Works D F g) (was now : NurseryView) (client : ℕ) (cmd : Cmd) (act : is_act cmd ≡ true) (kept : KeepsStored old new)
    (safe : ∥ IsCrashSafe start None old ∥₁) (stands : ∥ StandsYoung start old was ∥₁)
    (counts : (t : ℕ) (bytes : List ℕ) → t ≤ g.moment (disk_at new) → g.image (disk_at new) bytes → g.since (disk_at new) t bytes) (only_now : (bytes : List ℕ) → g.since (disk_at old) (g.moment (disk_at old)) bytes → g.image (disk_at old) bytes) where
  abbrev before : Serving
  before = seen start None old

  abbrev later : Serving
  later = seen start None new

  pub same_disk : disk_at new ≡ disk_at old
  same_disk = ap (λ (p : Pages D g). disk_of p) kept.pages

  same_saving : saving_in new ≡ saving_in old
  same_saving = ap saving kept.saver

  tied_new : IsTiedIn old → IsTiedIn new
  tied_new tied =
      subst (λ (p : Pages D g). IsTied (saving_in new) (frozen_in new) (state p) (g.contents (disk_of p))) (sym kept.pages)
      (subst (λ (f : Option Cars). IsTied (saving_in new) f (state_in old) (contents_in old)) (sym kept.frozen)
      (subst (λ (s : Saving). IsTied s (frozen_in old) (state_in old) (contents_in old)) (sym same_saving) tied))

  module _ (first last : List ℕ) (reply : Reply) (is : AnswersParts client cmd old new was now first last reply) where
    abbrev said : AnswersWith client cmd (view_in old) (view_in new) was now is.space.ids reply
    said = is.space.answers

    -- of a world within
    in_world : (sound : IsCrashSafe start None old) (it : StandsYoung start old was) → AnswersWorld client cmd reply (view_in new) was now is.space.ids it.within (world before)
    in_world sound it = said.worlds it.within (world before) (for_world start old was sound it)

    known : {A : Type 0} → (IsCrashSafe start None old → StandsYoung start old was → A) → ∥ A ∥₁
    known says = ∥∥₁_elim safe ∥∥₁_prop (λ sound. ∥∥₁_map stands (λ it. says sound it))

    reply_is : reply ≡ (answer (world before) client cmd).0
    reply_is = splits_once (Coded-set reply_type.the_row.coded _ _) (known (λ sound it. (in_world sound it).reply_is))

    appended : (stopped : Option ℕ) → Appends client cmd (seen start stopped old) (seen start stopped new) reply
    appended stopped = appends_so start old new stopped client cmd reply (law.sets_none (seen start stopped old) cmd reply (law.unwatching cmd act)) is.adds

    pub served : (stopped : Option ℕ) → stopped ≡ None → Serves client cmd (seen start stopped old) (seen start stopped new) reply
    served stopped none = subst (λ (o : Option ℕ). Serves client cmd (seen start o old) (seen start o new) reply) (sym none) (record { appends = appended None; reply_is = reply_is })

    pub not_saved_then : says_saved reply ≡ false
    not_saved_then = not_saved (world before) client cmd reply reply_is (law.acts cmd act)

    pub safe_then : ∥ IsCrashSafe start None new ∥₁
    safe_then = ∥∥₁_map safe (λ sound.
        let appends = appended None in
        let keeps = law.acted client cmd before later reply sound.journal act appends reply_is kept.frozen same_saving in
        answers_sound start old new sound counts client cmd reply (record { appends = appends; reply_is = reply_is }) keeps
        not_saved_then (tied_new (sound.stored refl).tied) (pages_last old new kept.pages) (still_told g 0 0 (disk_at old) (disk_at new) same_disk)
        (spares_still old new only_now same_disk (sound.stored refl).tied.sound))

    world_is : world later ≡ (answer (world before) client cmd).1
    world_is = law.next_world client cmd before later reply (appended None)

    pub stands_then : ∥ StandsYoung start new now ∥₁
    stands_then = known (λ sound it.
        let then' = in_world sound it in
        record {
          within = then'.later;
          represents = then'.represents;
          young = subst (IsYoung then'.later now) (sym world_is) then'.is_young;
          opened = λ id there. then'.stays id (it.opened id there);
        })

    pub enters_then : (opened : SpaceView) → opened.next ≤ (view_in old).next → ∥ KeepsEntered opened (view_in old) was first ∥₁ → ∥ KeepsEntered opened (view_in new) now last ∥₁
    enters_then opened least keeps = keeps_entered opened (view_in old) (view_in new) was now first last is.space.ids said.comes is.space.entered said.young least keeps

    pub escaping_then : ∥ AreEscaping (world before) was client cmd is.space.ids ∥₁
    escaping_then = known (λ sound it. (in_world sound it).escaping)

    pub young_then_is : (id : ℕ) → is_some (get now.objects id) ≡ young_then (world before) was client cmd is.space.ids id
    young_then_is id = splits_once (Coded-set coded_bool _ _) (known (λ sound it. (in_world sound it).then_young id))

  -- memory ran out
  module _ (first last : List ℕ) (is : LosesParts client cmd old new was first last) where
    pub safe_lost : ∥ IsCrashSafe start None new ∥₁
    safe_lost = ∥∥₁_map safe (λ sound.
        let mid = record old { space = new.space } in
        let moved = safe_at (sym kept.frozen) sound in
        rests_sound start mid new moved counts
        (record { nothing = record { past = is.nothing.past; journal = is.nothing.journal; course = is.nothing.course; watches = is.nothing.watches; events = is.nothing.events; steps = is.nothing.steps; room = is.nothing.room }; view = refl; frozen = refl; settled = ap (λ (s : Saving). s.settled) same_saving; progress = stays_same (saving_in old).progress (saving_in new).progress (ap (λ (s : Saving). s.progress) same_saving) })
        (tied_new (sound.stored refl).tied) (pages_last mid new kept.pages) (still_told g 0 0 (disk_at old) (disk_at new) same_disk)
        (spares_still mid new only_now same_disk (sound.stored refl).tied.sound))
      where
        safe_at : frozen_in old ≡ frozen_in new → IsCrashSafe start None old → IsCrashSafe start None (record old { space = new.space })
        safe_at same sound = record {
          journal = record {
            closed = sound.journal.closed;
            legal = sound.journal.legal;
            saving = sound.journal.saving ∙ ap (λ (frozen : Option Cars). option_map (numbered_copy frozen) (saving_in old).progress) same;
            watching = sound.journal.watching;
            told = sound.journal.told;
          };
          stored = λ none. let stored = sound.stored none in record {
            tied = subst (λ (frozen : Option Cars). IsTied (saving_in old) frozen (state_in old) (contents_in old)) same stored.tied;
            numbered = stored.numbered;
            has = stored.has;
          };
          images = record { later = sound.images.later; told = sound.images.told; now = sound.images.now; ever = sound.images.ever };
        }

    pub first_lost : ∥ AreFirstEscaping (world before) was client cmd is.space.ids ∥₁
    first_lost = ∥∥₁_elim safe ∥∥₁_prop (λ sound. ∥∥₁_map stands (λ it. is.space.loses.first it.within (world before) (for_world start old was sound it)))

    pub enters_lost : (opened : SpaceView) → opened.next ≤ (view_in old).next → ∥ KeepsEntered opened (view_in old) was first ∥₁ → ∥ KeepsEntered opened (view_in new) no_nursery last ∥₁
    enters_lost opened least keeps = keeps_entered opened (view_in old) (view_in new) was no_nursery first last is.space.ids is.space.loses.comes is.space.entered (none_stays (view_in old) (view_in new) was is.space.ids) least keeps
