use Rattle.std.proofs.Common.{◌≡◌, ℕ, ◌+◌, ◌<◌, ◌≤◌, List, [], ◌∷◌, ◌++◌, drop, Some, ap, sym, ◌∙◌, arith, append_assoc}
use Rattle.std.specs.Prelude.{slice_get}
use Rattle.std.proofs.lemmas.List.{append-nil, drop_all}
use Rattle.pm_types.specs.declared.limits.TheConstants.{CAR_HEAD_BYTES, PAGE_BYTES}
use Rattle.pm_dump.specs.Lent.{object_shown}
use Rattle.pm_restore.specs.Packing.Packing.{DumpEntry, object_room}
use Rattle.pm_restore.proofs.FirstLemmas.{first_places_are, firsts_full, firsts_room, later_firsts, sound_at}
use Rattle.pm_restore.proofs.placing.first_places.Goals as goal
use Rattle.pm_restore.proofs.placing.first_places.Goals.{then-used-room-le-PAGE_BYTES, else-used-room-le-PAGE_BYTES+in_ok-push}

pub room_of-room-requires-clause-few : goal.room_of-room-requires-clause-few
room_of-room-requires-clause-few c = (sound_at c.args.dump.now c.requires c.loop-place.place _ c.object.ensures).few

pub room_of-room-requires-clause-short : goal.room_of-room-requires-clause-short
room_of-room-requires-clause-short c = (sound_at c.args.dump.now c.requires c.loop-place.place _ c.object.ensures).short

-- the next object in the part that is begun
room_step : (objects : List DumpEntry) (e : DumpEntry) (place used room now : ℕ) (firsts items total : List ℕ) → slice_get objects place ≡ Some e → room ≡ object_room e → used + room ≤ PAGE_BYTES
    → now ≡ used + room → items ≡ firsts → firsts ++ later_firsts used place (drop place objects) ≡ total → items ++ later_firsts now (place + 1) (drop (place + 1) objects) ≡ total
room_step objects e place used room now firsts items total there is fits now_is items_are begun =
    let sum : now ≡ used + object_room e = omega (arith, is, now_is) in
    ap (λ (xs : List ℕ). xs ++ later_firsts now (place + 1) (drop (place + 1) objects)) items_are
    ∙ ap (λ (n : ℕ). firsts ++ later_firsts n (place + 1) (drop (place + 1) objects)) sum
    ∙ ap (λ (more : List ℕ). firsts ++ more) (sym (firsts_room used place objects e there (omega (arith, is, fits))))
    ∙ begun

-- or in the next
full_step : (objects : List DumpEntry) (e : DumpEntry) (place used room now : ℕ) (firsts items total : List ℕ) → slice_get objects place ≡ Some e → room ≡ object_room e → PAGE_BYTES < used + room
    → now ≡ CAR_HEAD_BYTES + room → items ≡ firsts ++ place ∷ [] → firsts ++ later_firsts used place (drop place objects) ≡ total → items ++ later_firsts now (place + 1) (drop (place + 1) objects) ≡ total
full_step objects e place used room now firsts items total there is full now_is items_are begun =
    let sum : now ≡ CAR_HEAD_BYTES + object_room e = omega (arith, is, now_is) in
    ap (λ (xs : List ℕ). xs ++ later_firsts now (place + 1) (drop (place + 1) objects)) items_are
    ∙ append_assoc firsts (place ∷ []) (later_firsts now (place + 1) (drop (place + 1) objects))
    ∙ ap (λ (n : ℕ). firsts ++ place ∷ later_firsts n (place + 1) (drop (place + 1) objects)) sum
    ∙ ap (λ (more : List ℕ). firsts ++ more) (sym (firsts_full used place objects e there (omega (arith, is, full))))
    ∙ begun

pub loop-place-preserved : goal.loop-place-preserved
loop-place-preserved c =
    let j = c.if-used-room-le-PAGE_BYTES in
    let l = c.loop-place in
    let objects = c.args.dump.now.objects in
    let e = object_shown c.object.result in
    let room = c.room_of-room.result in
    let total = later_firsts PAGE_BYTES 0 objects in
    elim j.branch [
      | then-used-room-le-PAGE_BYTES w ↦
          let fits = w.if-used-room-le-PAGE_BYTES.true in
          record {
            used = omega (arith, w.used-is, fits);
            begun = room_step objects e l.place l.used room j.used l.firsts.items j.firsts.items total c.object.ensures c.room_of-room.ensures fits w.used-is (λ i. (w.firsts-is i).items) l.invariant.begun;
          }
      | else-used-room-le-PAGE_BYTES+in_ok-push w ↦
          let full = w.if-used-room-le-PAGE_BYTES.false in
          let small = sound_at c.args.dump.now c.requires l.place e c.object.ensures in
          let few = small.few in
          let short = small.short in
          let is = c.room_of-room.ensures in
          record {
            used = omega (arith, w.used-is, is, few, short);
            begun = full_step objects e l.place l.used room j.used l.firsts.items j.firsts.items total c.object.ensures is full w.used-is ((λ i. (w.firsts-is i).items) ∙ w.in_ok-push.ensures.items) l.invariant.begun;
          }
    ]

pub returns : goal.returns
returns c =
    let l = c.loop-place in
    let objects = c.args.dump.now.objects in
    let ended = c.loop-place-test.false in
    let count = c.object_count-place-end.ensures in
    let none : drop l.place objects ≡ [] = drop_all l.place objects (omega (arith, ended, count)) in
    sym (append-nil l.firsts.items)
    ∙ ap (λ (rest : List DumpEntry). l.firsts.items ++ later_firsts l.used l.place rest) (sym none)
    ∙ l.invariant.begun
    ∙ first_places_are c.args.dump.now c.requires
