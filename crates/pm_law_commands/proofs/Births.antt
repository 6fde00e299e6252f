-- The command that makes an object.
use Rattle.std.proofs.Common.{◌≡◌, ℕ, ◌+◌, ◌<◌, ◌≤◌, ◌==◌, ◌||◌, nat_lt, if◌then◌else◌, Bool, true, false, refl, ap, sym, subst, ◌∙◌, List, ◌∷◌, length, map, replicate, zero, suc, Option, Some, None, arith, is_some}
use Rattle.std.specs.Option.{IsSome, option_map, option_flatten}
use Rattle.std.specs.List.{slice_get}
use Rattle.std.specs.FinMap.{get, insert}
use Rattle.std.proofs.lemmas.Bool.{cond-true, ltb-false, or_parts, eq-eqb, eqb-true, false_from_ne_true}
use Rattle.std.proofs.lemmas.List.{length-replicate}
use Rattle.pm_types.specs.declared.limits.TheConstants.{CLIENTS, REGISTERS, FIELDS, OBJECT_BYTES, LAST_ID}
use Rattle.pm_types.specs.declared.address.Addr.{Addr}
use Rattle.pm_types.specs.declared.object.Object as kept_objects
use Rattle.pm_types.specs.declared.source.RefSource.TheVariants.{Handle}
use Rattle.pm_types.specs.declared.reply.Reply.{Reply}
use Rattle.pm_types.specs.declared.reply.Reply.TheVariants.{Ident, TooLarge, IdsSpent}
use Rattle.pm_cars.specs.Cars.{look_of, object_of}
use Rattle.pm_model.specs.Heap.{Object}
use Rattle.pm_model.specs.World.{World, holding, with_object, changing}
use Rattle.pm_model.specs.Answer.{answer_new}
use Rattle.pm_model.specs.Answer as answers
use Rattle.pm_view.specs.View.{SpaceView}
use Rattle.pm_view.specs.Reading.{followed, id_at}
use Rattle.pm_view.specs.Seen.{seen, IsLive}
use Rattle.pm_view.specs.Law.{HeapLaw}
use Rattle.pm_view.specs.Represents.{names, meaning, Represents, registered}
use Rattle.pm_view.specs.Rows.{spread, spent, born, birthplace, MayBeBorn, IsVacant}
use Rattle.pm_view.specs.Commands.{refused, fresh, row_new}
use Rattle.pm_law_commands.proofs.RowLemmas.SpreadKept.{spread_keeps_law}
use Rattle.pm_law_commands.proofs.RowLemmas.SpreadMeans.{register_stands}
use Rattle.pm_law_commands.proofs.RowLemmas.Born.{born_gives}
use Rattle.pm_law_commands.proofs.RowLemmas.News.{at_insert}
use Rattle.pm_law_commands.specs.Served.{IsServed}
use Rattle.pm_law_commands.proofs.Registers.{refused_both}

pub null_fields : (n i : ℕ) → option_flatten {T = Addr} (slice_get (replicate n None) i) ≡ None
null_fields zero i = refl
null_fields (suc n) zero = refl
null_fields (suc n) (suc i) = null_fields n i

pub null_names : (view : SpaceView) (n : ℕ) → map (names view) (replicate n None) ≡ replicate n None
null_names view zero = refl
null_names view (suc n) = ap (λ xs. None ∷ xs) (null_names view n)

module _ (view : SpaceView) (law : HeapLaw view) (room : view.next ≤ LAST_ID) where
  -- a space whose next identity was given keeps the heap law
  pub spent_law : HeapLaw (spent view)
  spent_law = record {
    built = record {
      trains = law.built.trains;
      linked = law.built.linked;
      sets = law.built.sets;
      queues = law.built.queues;
      cars = λ n car is. let was = law.built.cars n car is in record { numbered = was.numbered; from_one = was.from_one; sound = was.sound; live = was.live; moved = was.moved };
      objects = λ a o is. let was = law.built.objects a o is in record { first = was.first; given = omega (arith, was.given); fields = was.fields; bytes = was.bytes };
      apart = law.built.apart;
      next = (omega arith, let last : LAST_ID ≡ 4294967295 = refl in omega (arith, room, last));
      births = law.built.births;
    };
    named = record { numbers = law.named.numbers; few = law.named.few; registers = law.named.registers };
    tied = law.tied;
    phase = law.phase;
    anchor = λ a to is. let was = law.anchor a to is in record { live = was.live; kept = was.kept; old = was.old; stands = was.stands; leaves = was.leaves };
  }

  -- and stands for the world whose next identity was given too
  pub spent_stands : (world : World) → Represents view world → Represents (spent view) (record world { next = world.next + 1 })
  spent_stands world stands = record {
    roots = stands.roots;
    registers = stands.registers;
    next = ap (λ n. n + 1) stands.next;
    given = λ id known is. let low = stands.given id known is in omega (arith, low);
    objects = stands.objects;
    reached = λ id path. let was = stands.reached id path in (was.0, record { kept = was.1.kept; here = was.1.here });
    leftover = λ a o free is none. let was = stands.leftover a o free is none in record { name = was.name; register = was.register; field = was.field };
  }

  -- the new object may be born
  pub may_be_born : (count : ℕ) (bytes : List ℕ) → count ≤ FIELDS → length bytes ≤ OBJECT_BYTES → MayBeBorn (spent view) (fresh view count bytes)
  may_be_born count bytes few short = record {
    first = let low = law.built.next.0 in omega (arith, low);
    given = omega arith;
    unused = λ a o is. false_from_ne_true (o.id == view.next) (λ same. let low = (law.built.objects a o is).given in let one = eqb-true o.id view.next same in omega (arith, low, one));
    fields = subst (λ n. n ≤ FIELDS) (sym (length-replicate count None)) few;
    bytes = short;
    null = null_fields count;
  }

-- no object of the world has the next identity
unused : (view : SpaceView) (world : World) → Represents view world → get world.heap world.next ≡ None
unused view world stands = by_case (get world.heap world.next) refl
  where
    by_case : (o : Option Object) → get world.heap world.next ≡ o → o ≡ None
    by_case None is = refl
    by_case (Some known) is = let low = stands.given world.next known is in absurd (omega (arith, low))

module _ (view : SpaceView) (world : World) (law : HeapLaw view) (stands : Represents view world) where
  -- `new`
  pub new_serves : (client reg count number : ℕ) (bytes : List ℕ) → client < CLIENTS → reg < REGISTERS → IsVacant view.cars number → IsServed (row_new view client reg count bytes number) (answer_new world client reg count bytes)
  new_serves client reg count number bytes c r vacant =
      by_size (nat_lt FIELDS count || nat_lt OBJECT_BYTES (length bytes)) refl
    where
      made : view.next ≤ LAST_ID → count ≤ FIELDS → length bytes ≤ OBJECT_BYTES
          → IsServed (Ident view.next, spread (born (spent view) number (fresh view count bytes)) (Handle client reg) (Some (birthplace (spent view) number (fresh view count bytes))))
          (Ident view.next, holding (with_object (record world { next = view.next }) (answers.fresh count bytes)) client reg view.next)
      made room few short =
          let now = spent view in
          let new_object = fresh view count bytes in
          let place = birthplace now number new_object in
          let t = born now number new_object in
          let gives = born_gives now number new_object (spent_law view law room) (may_be_born view law room count bytes few short) vacant in
          let unused_then : get world.heap view.next ≡ None = ap (get world.heap) (sym stands.next) ∙ unused view world stands in
          let means : answers.fresh count bytes ≡ meaning now new_object = (λ i. record { fields = sym (null_names now count) i; bytes = bytes }) in
          let world_then = gives.world (record world { next = world.next + 1 }) (answers.fresh count bytes) (spent_stands view law room world stands) unused_then means in
          let live : IsLive (seen t) place = (ap look_of gives.here, gives.free) in
          let names_it : names t (Some place) ≡ Some view.next = ap (id_at t) (ap (λ o. followed o place) gives.here) ∙ ap (option_map (λ (o : kept_objects.Object). o.id)) (ap object_of gives.here) in
          record {
            reply = refl;
            law = spread_keeps_law t (Handle client reg) (Some place) gives.law (c, r) tt live;
            world = subst (Represents (spread t (Handle client reg) (Some place))) (λ i. holding (record world { next = stands.next i + 1; heap = insert world.heap view.next (answers.fresh count bytes) }) client reg view.next)
                (subst (λ o. Represents (spread t (Handle client reg) (Some place)) (registered (changing (record world { next = world.next + 1 }) view.next (answers.fresh count bytes)) client reg o)) names_it
                (register_stands t (changing (record world { next = world.next + 1 }) view.next (answers.fresh count bytes)) client reg (Some place) gives.law world_then (c, r) live
                (λ id is. known_then id (sym names_it ∙ is))));
          }
        where
          known_then : (id : ℕ) → Some view.next ≡ Some id → IsSome (get (insert world.heap view.next (answers.fresh count bytes)) id)
          known_then id is = let same : view.next ≡ id = cc in ap is_some (at_insert world.heap view.next (answers.fresh count bytes) id ∙ cond-true _ _ _ (eq-eqb view.next id same))

      by_next : (b : Bool) → nat_lt LAST_ID view.next ≡ b → count ≤ FIELDS → length bytes ≤ OBJECT_BYTES
          → IsServed (if b then refused view IdsSpent else (Ident view.next, spread (born (spent view) number (fresh view count bytes)) (Handle client reg) (Some (birthplace (spent view) number (fresh view count bytes)))))
          (if b then (IdsSpent, world) else (Ident view.next, holding (with_object (record world { next = view.next }) (answers.fresh count bytes)) client reg view.next))
      by_next true spent_all few short = refused_both view world IdsSpent law stands
      by_next false more few short = made (ltb-false LAST_ID view.next more) few short

      same_world : ◌≡◌ {A = Reply × World} (if nat_lt LAST_ID view.next then (IdsSpent, world) else (Ident view.next, holding (with_object (record world { next = view.next }) (answers.fresh count bytes)) client reg view.next))
          (if nat_lt LAST_ID world.next then (IdsSpent, world) else (Ident world.next, holding (with_object world (answers.fresh count bytes)) client reg world.next))
      same_world = λ i. if nat_lt LAST_ID (sym stands.next i) then (IdsSpent, world) else (Ident (sym stands.next i), holding (with_object (record world { next = sym stands.next i }) (answers.fresh count bytes)) client reg (sym stands.next i))

      by_size : (b : Bool) → (nat_lt FIELDS count || nat_lt OBJECT_BYTES (length bytes)) ≡ b
          → IsServed (if b then refused view TooLarge else if nat_lt LAST_ID view.next then refused view IdsSpent else (Ident view.next, spread (born (spent view) number (fresh view count bytes)) (Handle client reg) (Some (birthplace (spent view) number (fresh view count bytes)))))
          (if b then (TooLarge, world) else if nat_lt LAST_ID world.next then (IdsSpent, world) else (Ident world.next, holding (with_object world (answers.fresh count bytes)) client reg world.next))
      by_size true large = refused_both view world TooLarge law stands
      by_size false fits =
          let both = or_parts (nat_lt FIELDS count) (nat_lt OBJECT_BYTES (length bytes)) fits in
          subst (IsServed (if nat_lt LAST_ID view.next then refused view IdsSpent else (Ident view.next, spread (born (spent view) number (fresh view count bytes)) (Handle client reg) (Some (birthplace (spent view) number (fresh view count bytes)))))) same_world
          (by_next (nat_lt LAST_ID view.next) refl (ltb-false FIELDS count both.0) (ltb-false OBJECT_BYTES (length bytes) both.1))
