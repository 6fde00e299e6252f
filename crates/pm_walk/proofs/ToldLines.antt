-- What a register and a name of a space stand for in a world.
use Rattle.std.proofs.Common.{◌≡◌, ℕ, zero, suc, ◌≤◌, refl, ap, sym, subst, ◌∙◌, List, [], ◌∷◌, Option, Some, None, arith, length}
use Rattle.std.specs.List.{slice_get}
use Rattle.std.specs.Option.{IsSomeAnd, option_map, unwrap_or}
use Rattle.std.specs.FinMap.{get, entries}
use Rattle.std.proofs.lemmas.Option.{slice_get-map}
use Rattle.pm_types.specs.declared.address.Addr.{Addr}
use Rattle.pm_types.specs.declared.object.Object as stored
use Rattle.pm_types.specs.declared.source.RefSource.TheVariants.{Handle}
use Rattle.pm_model.specs.World.{World, held}
use Rattle.pm_dump.specs.Dump.{line_text, ObjectLine, RootLine}
use Rattle.pm_view.specs.View.{SpaceView}
use Rattle.pm_view.specs.Law.{HeapLaw}
use Rattle.pm_view.specs.Represents.{Represents, names}
use Rattle.pm_law_commands.proofs.Held.{LeadsTo, leads, named, known_by, register_wanted}
use Rattle.pm_walk.specs.Walked.{meant}
use Rattle.pm_walk.specs.Lines.{led_line, named_line}
use Rattle.pm_walk.specs.Told.{IsHeldLine, TellsNamed}
use Rattle.pm_walk.proofs.Heaps.{root_id, names_listed}

-- what a register's address leads to
pub held_object : (view : SpaceView) (client register : ℕ) (to : Addr) → HeapLaw view → get view.registers (client, register) ≡ Some to → (object : stored.Object) × LeadsTo view to object
held_object view client register to law is = leads view (Handle client register) to law refl is

-- the line of it
pub held_line : (view : SpaceView) (world : World) (client register : ℕ) (to : Addr) (text : List ℕ) → HeapLaw view → Represents view world → get view.registers (client, register) ≡ Some to
    → text ≡ led_line view to → IsHeldLine world client register text
held_line view world client register to text law stands is told =
    let there = held_object view client register to law is in
    let object : stored.Object = there.0 in
    let holds : held world client register ≡ Some object.id = stands.registers (client, register) ∙ ap (names view) is ∙ named view to object there.1 in
    let known = known_by view world to object stands there.1 (register_wanted world (client, register) object.id holds) in
    record {
      id = object.id;
      object = known.0;
      held = holds;
      known = known.1;
      told =
          told ∙ ap (λ (o : Option stored.Object). line_text (ObjectLine (unwrap_or (option_map (λ (it : stored.Object). it.id) o) 0) (meant view o))) there.1.here
          ∙ ap (λ o. line_text (ObjectLine object.id o)) (sym known.2);
    }

-- an empty register
pub held_none : (view : SpaceView) (world : World) (client register : ℕ) → Represents view world → get view.registers (client, register) ≡ None → held world client register ≡ None
held_none view world client register stands is = stands.registers (client, register) ∙ ap (names view) is

-- the names of a world at their places
world_name : (view : SpaceView) (world : World) (place : ℕ) → HeapLaw view → Represents view world → slice_get (entries world.roots) place ≡ option_map (λ (e : List ℕ × (ℕ × Addr)). (e.0, root_id view e.1)) (slice_get (entries view.roots) place)
world_name view world place law stands =
    ap (λ es. slice_get es place) (names_listed view law world.roots stands.roots) ∙ slice_get-map (λ (e : List ℕ × (ℕ × Addr)). (e.0, root_id view e.1)) (entries view.roots) place

-- the line of one
pub named_at : (view : SpaceView) (world : World) (place : ℕ) (e : List ℕ × (ℕ × Addr)) (text : List ℕ) → HeapLaw view → Represents view world → slice_get (entries view.roots) place ≡ Some e → text ≡ named_line view e → TellsNamed world place (Some text)
named_at view world place e text law stands is told =
    let here : slice_get (entries world.roots) place ≡ Some (e.0, root_id view e.1) = world_name view world place law stands ∙ ap (option_map (λ (e : List ℕ × (ℕ × Addr)). (e.0, root_id view e.1))) is in
    subst (λ found. IsSomeAnd found (λ e. text ≡ line_text (RootLine e.0 e.1))) (sym here) told

past_all : {A : Type 0} (xs : List A) (place : ℕ) → length xs ≤ place → slice_get xs place ≡ None
past_all [] place past = refl
past_all (x ∷ xs) zero past = absurd (omega (arith, past))
past_all (x ∷ xs) (suc place) past = past_all xs place (omega (arith, past))

-- none at a place past them all
pub named_none : (view : SpaceView) (world : World) (place : ℕ) → HeapLaw view → Represents view world → length (entries view.roots) ≤ place → TellsNamed world place None
named_none view world place law stands past =
    world_name view world place law stands ∙ ap (option_map (λ (e : List ℕ × (ℕ × Addr)). (e.0, root_id view e.1))) (past_all (entries view.roots) place past)
