use Rattle.std.proofs.Common.{◌≡◌, refl, sym, ap, subst, ◌∙◌, Some, IsSome}
use Rattle.std.specs.FinMap.{get}
use Rattle.pm_types.specs.declared.address.Addr.{Addr}
use Rattle.pm_types.specs.declared.reply.Reply.TheVariants.{Ident}
use Rattle.pm_view.specs.View.{SpaceView, Sets}
use Rattle.pm_view.specs.Law.{HeapLaw}
use Rattle.pm_space.specs.Linked.{sets_of, HasRoomFor}
use Rattle.pm_space.specs.Shown.{view}
use Rattle.pm_space.proofs.OpenedCars.{same_view}
use Rattle.pm_mutate.specs.Commands.Births.{IsBornAt}
use Rattle.pm_mutate.proofs.CommandsLemmas.RegisterRoom.{register_leads, room_stays}
use Rattle.pm_mutate.proofs.CommandsLemmas.Born.{registers_born, born_seen}
use Rattle.pm_mutate.proofs.commands.birth.hold_new.Goals as goal

pub be_born-requires-clause-law : goal.be_born-requires-clause-law
be_born-requires-clause-law g c =
    let v = view c.args.parts.now in
    subst HeapLaw (sym (same_view v _ _ _ _ refl c.in_ok-make_room.ensures.sets c.in_ok-make_room.ensures.queues refl)) c.requires.law

pub hold_in_room-requires-clause-old_room : goal.hold_in_room-requires-clause-old_room
hold_in_room-requires-clause-old_room g c =
    let v = view c.args.parts.now in
    let same = same_view v _ _ _ _ refl c.in_ok-make_room.ensures.sets c.in_ok-make_room.ensures.queues refl in
    let born : IsBornAt v c.args.object (c.in_ok-at.at, view c.be_born.new.parts) = subst (λ (v : SpaceView). IsBornAt v c.args.object (c.in_ok-at.at, view c.be_born.new.parts)) same c.in_ok-at.ensures.row.ok in
    let leads : (a : Addr) → c.register-old.result ≡ Some a → IsSome (get (sets_of c.make_room.new.links) a.car) =
    λ a is. subst (λ (sets : Sets). IsSome (get sets a.car)) (sym c.in_ok-make_room.ensures.sets) (register_leads v c.requires.law c.args.client c.args.reg a (sym c.register-old.ensures ∙ is)) in
    let room = room_stays c.make_room.new.links c.be_born.new.parts.links c.register-old.result leads c.in_ok-at.ensures.kept c.in_ok-make_room.ensures.old_room in
    let registers = ap (λ (g : Addr × SpaceView). g.1.registers) born.2 ∙ registers_born v born.0 c.args.object in
    let held = c.register-old.ensures ∙ sym (λ i. get (registers i) (c.args.client, c.number.ensures.number i)) in
    subst (HasRoomFor c.be_born.new.parts.links) held room

pub returns : goal.returns
returns g c =
    let v = view c.args.parts.now in
    let same = same_view v _ _ _ _ refl c.in_ok-make_room.ensures.sets c.in_ok-make_room.ensures.queues refl in
    let born : IsBornAt v c.args.object (c.in_ok-at.at, view c.be_born.new.parts) = subst (λ (v : SpaceView). IsBornAt v c.args.object (c.in_ok-at.at, view c.be_born.new.parts)) same c.in_ok-at.ensures.row.ok in
    let seen = born_seen v (view c.be_born.new.parts) c.args.client c.number.result c.args.reg born.0 c.args.object c.in_ok-at.at born.2 c.number.ensures.number in
    record {
      row = record {
        ok = (born.0, born.1, ap (λ (v : SpaceView). (Ident c.args.object.id, v)) (c.hold_in_room.ensures.view ∙ seen));
        err = tt;
        rest = record {
          frozen = c.hold_in_room.ensures.rest.frozen ∙ c.in_ok-at.ensures.row.rest.frozen;
          place = c.hold_in_room.ensures.rest.place ∙ c.in_ok-at.ensures.row.rest.place;
        };
      };
    }
