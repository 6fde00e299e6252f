-- A command that one side answers: what is known of it, and that nothing escapes.
use Rattle.std.proofs.Common.{◌≡◌, ⊎_elim, inl, inr, ℕ, ◌≤◌, Bool, true, false, if◌then◌else◌, List, [], ◌∷◌, ◌++◌, Option, Some, None, refl, sym, ap, subst, ◌∙◌, is_some, not, ◌&&◌, ◌||◌, nat_eq, Result, Ok, Err, IfOk, OnErr, arith, append-nil}
use Rattle.std.specs.Option.{IsSome}
use Rattle.std.specs.List.Sorted.{IsStrictlySortedBy}
use Rattle.std.specs.FinMap.{get}
use Rattle.pm_types.specs.Replies.{IsShortReply}
use Rattle.pm_types.specs.declared.command.Cmd.{Cmd}
use Rattle.pm_types.specs.declared.command.Cmd.TheVariants.{New, Store, Clear, Put, Swap, Bind, Close}
use Rattle.pm_types.specs.declared.entry.Entry.{Entry}
use Rattle.pm_types.specs.declared.reply.Reply.{Reply}
use Rattle.pm_types.specs.declared.reply.Reply.TheVariants.{Shown}
use Rattle.pm_model.specs.Heap.{Object, Heap}
use Rattle.pm_model.specs.World.{World, Registers, empty_world, held}
use Rattle.pm_model.specs.Answer.{answer, is_refusal}
use Rattle.pm_model.specs.Frames.{makes_object, MayChange}
use Rattle.pm_model.proofs.AnswerLaws.{leaves_next, leaves_object}
use Rattle.pm_model.proofs.ClosedLaws.{stays_after}
use Rattle.pm_view.specs.View.{SpaceView}
use Rattle.pm_view.specs.Objects.{KeepsObjects}
use Rattle.pm_view.specs.Represents.{Represents}
use Rattle.pm_mutate.specs.Acts.{Serves}
use Rattle.pm_nursery.specs.Young.{NurseryView, IsNursery, IsYoung, or_else}
use Rattle.pm_nursery.specs.Answering.{is_of_objects, nursery_of, reads_register, unset, young_alone}
use Rattle.pm_nursery.specs.Escaping.{AreEscaping, BindEscapes, IsAscending, LetsEscape, is_full, StoreEscapes, young_then}
use Rattle.pm_nursery.specs.Sweeping.{among, left_held, GoesOut}
use Rattle.pm_nursery.proofs.Parts.{found_of, is_there}
use Rattle.pm_law_young.proofs.Alone.{answered_young}
use Rattle.pm_law_young.proofs.Escaped.{none_escaping, old_name_none, same_side}
use Rattle.pm_law_young.proofs.Then.{young_on}
use Rattle.pm_law_young.proofs.Within.{answered_within, first_of_three, itself, one_of, other_of, third_of_three}
use Rattle.pm_young.specs.Alone.{AnswersAlone, is_of_registers}
use Rattle.pm_disk.specs.declared.disk.Disk.{Ghosts}
use Rattle.pm_engine.specs.declared.works.works.Works.{Works}
use Rattle.pm_engine.specs.Works.Working.{AddsNothing, view_in}
use Rattle.pm_young.specs.Parts.{AnswersSpace, AnswersStill, ComesYoung, LosesParts, LosesSpace, LosesStill, StandsFor}
use Rattle.pm_young.specs.Setting.{LeavesUnset, ReadsNone, ReadsYoung, nursery_unset}

pub no_order : IsAscending []
unfolding IsStrictlySortedBy
no_order = tt

-- ---- nothing comes in

module _ (view after : SpaceView) (keeps : KeepsObjects view after) (next : view.next ≤ after.next) (nursery : NurseryView) where
  pub comes_none : ComesYoung view after nursery []
  comes_none = record {
    ascending = no_order;
    young = λ id never. absurd (cc never);
    here = λ id never. absurd (cc never);
    only = λ id is. inl (is.0, sym (keeps.ids is.0) ∙ is.1);
    stays = λ id is. (is.0, keeps.ids is.0 ∙ is.1);
    next = next;
  }

  pub loses_still : (client : ℕ) (cmd : Cmd) → LosesStill client cmd view after nursery
  loses_still client cmd = record {
    comes = comes_none;
    first = λ within world stands. record { ascending = no_order; each = λ id never. absurd (cc never); before = λ id other never. absurd (cc never) };
  }

pub loses_next : (view after : SpaceView) → KeepsObjects view after → after.next ≡ view.next → (nursery : NurseryView) (client : ℕ) (cmd : Cmd) → LosesStill client cmd view after nursery
loses_next view after keeps next nursery client cmd = loses_still view after keeps (omega (arith, next)) nursery client cmd

pub loses_same : (view : SpaceView) (nursery : NurseryView) (client : ℕ) (cmd : Cmd) → LosesStill client cmd view view nursery
loses_same view nursery client cmd = loses_still view view (record { trains = refl; aside = λ car. refl; ids = λ a. refl }) (omega arith) nursery client cmd

left_none : (o : Option ℕ) → o ≡ left_held [] o
left_none None = refl
left_none (Some id) = refl

pub goes_none : (nursery : NurseryView) → GoesOut nursery [] nursery
goes_none nursery = record { objects = λ id. refl; registers = λ place. left_none (get nursery.registers place) }

-- an object that is there stays there
pub kept_there : (world : World) (client : ℕ) (cmd : Cmd) (id : ℕ) → IsSome (get world.heap id) → IsSome (get (answer world client cmd).1.heap id)
kept_there world client cmd id there =
    let entry : Entry = record { client = client; cmd = cmd; reply = (answer world client cmd).0 } in
    stays_after world (entry ∷ []) id there

-- ---- by the world within

module _ (within world : World) (nursery : NurseryView) (is : IsYoung within nursery world) (client : ℕ) where
  held_within : (reg : ℕ) → get nursery.registers (client, reg) ≡ None → held world client reg ≡ get within.registers (client, reg)
  held_within reg none = is.registers (client, reg) ∙ ap (λ n. or_else n (get within.registers (client, reg))) none

  not_young : (id : ℕ) → IsSome (get within.heap id) → get nursery.objects id ≡ None
  not_young id there = by (get nursery.objects id) refl
    where
      by : (o : Option Object) → get nursery.objects id ≡ o → o ≡ None
      by None same = refl
      by (Some x) same =
          let none = is.apart id (is_there (get nursery.objects id) x same) in
          let never : IsSome {T = Object} None = subst IsSome none there in absurd (cc never)

  pub old_object : (reg id : ℕ) → get nursery.registers (client, reg) ≡ None → held world client reg ≡ Some id → get nursery.objects id ≡ None
  old_object reg id none here = not_young id (is.held (client, reg) id (sym (held_within reg none) ∙ here))

  sides_old : (reg value index : ℕ) → get nursery.registers (client, reg) ≡ None → get nursery.registers (client, value) ≡ None → (cmd : Cmd) (id : ℕ)
      → ((a b : ℕ) → held world client reg ≡ Some a → held world client value ≡ Some b → is_some (get nursery.objects a) ≡ is_some (get nursery.objects b) → ⊥)
      → StoreEscapes nursery.objects index (held world client reg) (held world client value) id → ⊥
  sides_old reg value index one two cmd id never = by (held world client reg) (held world client value) refl refl
    where
      by : (h v : Option ℕ) → held world client reg ≡ h → held world client value ≡ v → StoreEscapes nursery.objects index h v id → ⊥
      by None v h_is v_is lets = lets
      by (Some a) None h_is v_is lets = lets
      by (Some a) (Some b) h_is v_is lets = never a b h_is v_is (ap is_some (old_object reg a one h_is) ∙ sym (ap is_some (old_object value b two v_is)))

  lets_none_within : (cmd : Cmd) → makes_object cmd ≡ false → ReadsNone nursery client cmd → (id : ℕ) → LetsEscape world nursery client cmd id → ⊥
  lets_none_within (New reg count bytes) none reads id lets = cc none
  lets_none_within (Store reg index value) none reads id lets =
      sides_old reg value index (reads reg (one_of reg value)) (reads value (other_of reg value)) (Store reg index value) id
      (λ a b one two same. same_side world nursery client (Store reg index value) reg index value a b (refl, refl, refl) one two same id lets) lets
  lets_none_within (Swap reg index old value) none reads id lets =
      sides_old reg value index (reads reg (first_of_three reg old value)) (reads value (third_of_three reg old value)) (Swap reg index old value) id
      (λ a b one two same. same_side world nursery client (Swap reg index old value) reg index value a b (refl, refl, refl) one two same id lets) lets
  lets_none_within (Bind name reg) none reads id lets = by (held world client reg) refl lets
    where
      by : (h : Option ℕ) → held world client reg ≡ h → LetsEscape world nursery client (Bind name reg) id → ⊥
      by None here said = let never : ⊥ = subst (λ h. BindEscapes nursery.objects h id) here said in never
      by (Some a) here said = old_name_none world nursery client name reg a here (old_object reg a (reads reg (itself reg)) here) id said
  lets_none_within cmd none reads id lets = lets

  pub none_within : (cmd : Cmd) → makes_object cmd ≡ false → ReadsNone nursery client cmd → AreEscaping world nursery client cmd []
  none_within cmd none reads = none_escaping world nursery client cmd (λ id escapes. lets_none_within cmd none reads id escapes.1)

  pub then_same : (cmd : Cmd) (after : NurseryView) → makes_object cmd ≡ false → ((id : ℕ) → is_some (get after.objects id) ≡ is_some (get nursery.objects id)) → (id : ℕ)
      → is_some (get after.objects id) ≡ young_then world nursery client cmd [] id
  then_same cmd after none same id = same id ∙ young_on world nursery client cmd id nursery [] none (goes_none nursery)

module _ (view after : SpaceView) (old new : NurseryView) (client : ℕ) (cmd : Cmd) (reply : Reply) where
  pub within_answers : makes_object cmd ≡ false → ReadsNone old client cmd → KeepsObjects view after → after.next ≡ view.next → IsShortReply reply → Serves view client cmd reply after
      → new ≡ nursery_unset old client cmd reply → AnswersStill client cmd view after old new reply
  within_answers none reads keeps next short served same = record {
    short = short;
    comes = comes_none view after keeps (omega (arith, next)) old;
    young = λ id is. inl (subst (λ (n : NurseryView). IsSome (get n.objects id)) same is, refl);
    worlds = λ within world stands.
        let both = served within stands.represents in
        let law = answered_within within world old stands.young client cmd none reads in
        record {
          reply_is = both.reply ∙ law.reply;
          later = (answer within client cmd).1;
          represents = both.world;
          is_young = subst (λ (n : NurseryView). IsYoung (answer within client cmd).1 n (answer world client cmd).1) (sym same)
              (subst (λ (r : Reply). IsYoung (answer within client cmd).1 (nursery_unset old client cmd r) (answer world client cmd).1) (sym both.reply) law.world);
          stays = kept_there within client cmd;
          escaping = none_within within world old stands.young client cmd none reads;
          then_young = then_same within world old stands.young client cmd new none (λ id. ap (λ (n : NurseryView). is_some (get n.objects id)) same);
        };
  }

-- ---- by the young objects

module _ (within world : World) (nursery : NurseryView) (is : IsYoung within nursery world) (sound : IsNursery nursery) (client : ℕ) where
  young_object : (reg id : ℕ) → IsSome (get nursery.registers (client, reg)) → held world client reg ≡ Some id → is_some (get nursery.objects id) ≡ true
  young_object reg id there here =
      let found = found_of (get nursery.registers (client, reg)) there in
      let same : Some found.0 ≡ Some id = sym (is.registers (client, reg) ∙ ap (λ n. or_else n (get within.registers (client, reg))) found.1) ∙ here in
      sound.held id ((client, reg), found.1 ∙ same)

  sides_young : (reg value index : ℕ) → IsSome (get nursery.registers (client, reg)) → IsSome (get nursery.registers (client, value)) → (id : ℕ)
      → ((a b : ℕ) → held world client reg ≡ Some a → held world client value ≡ Some b → is_some (get nursery.objects a) ≡ is_some (get nursery.objects b) → ⊥)
      → StoreEscapes nursery.objects index (held world client reg) (held world client value) id → ⊥
  sides_young reg value index one two id never = by (held world client reg) (held world client value) refl refl
    where
      by : (h v : Option ℕ) → held world client reg ≡ h → held world client value ≡ v → StoreEscapes nursery.objects index h v id → ⊥
      by None v h_is v_is lets = lets
      by (Some a) None h_is v_is lets = lets
      by (Some a) (Some b) h_is v_is lets = never a b h_is v_is (young_object reg a one h_is ∙ sym (young_object value b two v_is))

  lets_none_young : (cmd : Cmd) → is_of_registers cmd ≡ true → ReadsYoung nursery client cmd → (id : ℕ) → LetsEscape world nursery client cmd id → ⊥
  lets_none_young (New reg count bytes) of reads id lets = cc of
  lets_none_young (Bind name reg) of reads id lets = cc of
  lets_none_young (Store reg index value) of reads id lets =
      sides_young reg value index (reads reg (one_of reg value)) (reads value (other_of reg value)) id
      (λ a b one two same. same_side world nursery client (Store reg index value) reg index value a b (refl, refl, refl) one two same id lets) lets
  lets_none_young (Swap reg index old value) of reads id lets =
      sides_young reg value index (reads reg (first_of_three reg old value)) (reads value (third_of_three reg old value)) id
      (λ a b one two same. same_side world nursery client (Swap reg index old value) reg index value a b (refl, refl, refl) one two same id lets) lets
  lets_none_young cmd of reads id lets = lets

  pub none_young_escapes : (cmd : Cmd) → is_of_registers cmd ≡ true → ReadsYoung nursery client cmd → AreEscaping world nursery client cmd []
  none_young_escapes cmd of reads = none_escaping world nursery client cmd (λ id escapes. lets_none_young cmd of reads id escapes.1)

-- a command of registers is one of objects, and makes none
of_objects : (cmd : Cmd) → is_of_registers cmd ≡ true → is_of_objects cmd ≡ true
of_objects (New reg count bytes) of = cc of
of_objects Close of = cc of
of_objects cmd of = of

pub makes_none : (cmd : Cmd) → is_of_registers cmd ≡ true → makes_object cmd ≡ false
makes_none (New reg count bytes) of = cc of
makes_none cmd of = refl

-- the same identities are in a heap where no object is made
same_there : (world : World) (client : ℕ) (cmd : Cmd) (id : ℕ) → makes_object cmd ≡ false → (MayChange world client cmd id → IsSome (get world.heap id))
    → is_some (get (answer world client cmd).1.heap id) ≡ is_some (get world.heap id)
same_there world client cmd id none changed = by (get world.heap id) refl
  where
    by : (o : Option Object) → get world.heap id ≡ o → is_some (get (answer world client cmd).1.heap id) ≡ is_some (get world.heap id)
    by (Some x) here = kept_there world client cmd id (is_there (get world.heap id) x here) ∙ sym (is_there (get world.heap id) x here)
    by None here = ap is_some (leaves_object world client cmd id (λ makes. cc (makes.0, none)) (λ may. let there = changed may in let never : IsSome {T = Object} None = subst IsSome here there in absurd (cc never)))

-- what a command changes is held by a register
held_of : (world : World) (client : ℕ) (cmd : Cmd) (id : ℕ) → MayChange world client cmd id → (reg : ℕ) × (held world client reg ≡ Some id)
held_of world client (Store reg index value) id may = (reg, may)
held_of world client (Clear reg index) id may = (reg, may)
held_of world client (Put reg at bytes) id may = (reg, may)
held_of world client (Swap reg index old value) id may = (reg, may)
held_of world client cmd id may = absurd may

module _ (view after : SpaceView) (old new : NurseryView) (sound : IsNursery old) (client : ℕ) (cmd : Cmd) (reply : Reply) where
  pub young_answers : is_of_registers cmd ≡ true → ReadsYoung old client cmd → KeepsObjects view after → after.next ≡ view.next → IsShortReply reply → AnswersAlone old client cmd reply new
      → LeavesUnset view client cmd reply after → AnswersStill client cmd view after old new reply
  young_answers of reads keeps next short alone leaves = record {
    short = short;
    comes = comes_none view after keeps (omega (arith, next)) old;
    young = λ id is. inl (same_young id ∙ is, refl);
    worlds = λ within world stands.
        let all = young_alone world old in
        let law = answered_young within world old stands.young sound client cmd (of_objects cmd of) stands.fresh reads in
        let said = alone world in
        let same : reply ≡ (answer all client cmd).0 = said.0 in
        let one : (answer world client cmd).1.next ≡ within.next = leaves_next world client cmd (makes_none cmd of) ∙ sym (ap (λ (w : World). w.next) stands.young.rest) in
        record {
          reply_is = same ∙ law.reply;
          later = record within { registers = unset within.registers client cmd reply };
          represents = leaves within stands.represents;
          is_young = subst (λ (n : NurseryView). IsYoung (record within { registers = unset within.registers client cmd reply }) n (answer world client cmd).1) (sym said.1)
              (subst (λ (r : Reply). IsYoung (record within { registers = unset within.registers client cmd r }) (nursery_of (answer all client cmd).1) (answer world client cmd).1) (sym same)
              (subst (λ (next : ℕ). IsYoung (record within { registers = unset within.registers client cmd (answer all client cmd).0; next = next }) (nursery_of (answer all client cmd).1) (answer world client cmd).1) one law.world));
          stays = λ id there. there;
          escaping = none_young_escapes within world old stands.young sound client cmd of reads;
          then_young = then_same within world old stands.young client cmd new (makes_none cmd of) same_young_back;
        };
  }
    where
      known : World
      known = young_alone empty_world old

      same_young_back : (id : ℕ) → is_some (get new.objects id) ≡ is_some (get old.objects id)
      same_young_back id =
          ap (λ (n : NurseryView). is_some (get n.objects id)) (alone empty_world).1
          ∙ same_there known client cmd id (makes_none cmd of) (λ may. let reg = held_of known client cmd id may in sound.held id ((client, reg.0), reg.1))

      same_young : (id : ℕ) → is_some (get old.objects id) ≡ is_some (get new.objects id)
      same_young id = sym (same_young_back id)

-- ---- refusals

same_then : (m r f n : Bool) (o : Option Object) → r ≡ true → is_some o ≡ ((not ((m && not r) && f) && (is_some o && not false)) || ((m && not r) && n))
same_then m false f n o is = cc is
same_then true true f n None is = refl
same_then true true f n (Some x) is = refl
same_then false true f n None is = refl
same_then false true f n (Some x) is = refl

-- a command that is refused changes nothing
pub refused_answers : (view : SpaceView) (nursery : NurseryView) (client : ℕ) (cmd : Cmd) (reply : Reply) → is_refusal cmd reply ≡ true → IsShortReply reply
    → ((within world : World) → StandsFor view nursery within world → answer world client cmd ≡ (reply, world)) → AnswersStill client cmd view view nursery nursery reply
refused_answers view nursery client cmd reply bad short says = record {
  short = short;
  comes = comes_none view view (record { trains = refl; aside = λ car. refl; ids = λ a. refl }) (omega arith) nursery;
  young = λ id is. inl (is, refl);
  worlds = λ within world stands.
      let said = says within world stands in
      let is_refused : is_refusal cmd (answer world client cmd).0 ≡ true = ap (λ (a : Reply × World). is_refusal cmd a.0) said ∙ bad in
      record {
        reply_is = sym (ap (λ (a : Reply × World). a.0) said);
        later = within;
        represents = stands.represents;
        is_young = subst (IsYoung within nursery) (sym (ap (λ (a : Reply × World). a.1) said)) stands.young;
        stays = λ id there. there;
        escaping = none_escaping world nursery client cmd (λ id escapes. cc (is_refused, escapes.0));
        then_young = λ id. same_then (makes_object cmd) (is_refusal cmd (answer world client cmd).0) (is_full nursery) (nat_eq id world.next) (get nursery.objects id) is_refused;
      };
}

-- a reply that refuses shows nothing
pub refusal_short : (cmd : Cmd) (reply : Reply) → is_refusal cmd reply ≡ true → IsShortReply reply
refusal_short cmd (Shown bytes) bad = cc bad
refusal_short cmd reply bad = tt

-- nothing entered
pub still_answers : (client : ℕ) (cmd : Cmd) (view after : SpaceView) (old new : NurseryView) (reply : Reply) → AnswersStill client cmd view after old new reply → (before : List ℕ) → AnswersSpace client cmd view after old new before before reply
still_answers client cmd view after old new reply answers before = record { ids = []; entered = sym (append-nil before); answers = answers }

pub still_loses : (client : ℕ) (cmd : Cmd) (view after : SpaceView) (old : NurseryView) → LosesStill client cmd view after old → (before : List ℕ) → LosesSpace client cmd view after old before before
still_loses client cmd view after old loses before = record { ids = []; entered = sym (append-nil before); loses = loses }

-- whatever is answered
pub still_answers_if : (client : ℕ) (cmd : Cmd) (view after : SpaceView) (old new : NurseryView) {E : Type 0} (result : Result Reply E) (before : List ℕ) → IfOk result (AnswersStill client cmd view after old new) → IfOk result (AnswersSpace client cmd view after old new before before)
still_answers_if client cmd view after old new (Ok reply) before answers = still_answers client cmd view after old new reply answers before
still_answers_if client cmd view after old new (Err e) before answers = tt

pub still_loses_if : (client : ℕ) (cmd : Cmd) (view after : SpaceView) (old : NurseryView) {A E : Type 0} (result : Result A E) (before : List ℕ) → OnErr result (LosesStill client cmd view after old) → OnErr result (LosesSpace client cmd view after old before before)
still_loses_if client cmd view after old (Ok x) before loses = tt
still_loses_if client cmd view after old (Err e) before loses = still_loses client cmd view after old loses before

-- memory ran out behind an answer
pub answered_lost : (client : ℕ) (cmd : Cmd) (view after : SpaceView) (old new : NurseryView) (before later : List ℕ) (reply : Reply) → AnswersSpace client cmd view after old new before later reply → LosesSpace client cmd view after old before later
answered_lost client cmd view after old new before later reply is = record {
  ids = is.ids;
  entered = is.entered;
  loses = record {
    comes = is.answers.comes;
    first = λ within world stands.
        let all = (is.answers.worlds within world stands).escaping in
        record { ascending = all.ascending; each = all.each; before = λ id other there less escapes. all.all id escapes };
  };
}

pub loses_parts : {D F : Type 0} {g : Ghosts D} {client : ℕ} {cmd : Cmd} {old new : Works D F g} {was : NurseryView} {before later : List ℕ} → AddsNothing old new → LosesSpace client cmd (view_in old) (view_in new) was before later → LosesParts client cmd old new was before later
loses_parts nothing space = record { nothing = nothing; space = space }
