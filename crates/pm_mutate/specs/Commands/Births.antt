-- An object that is born and held.
use Rattle.std.specs.Prelude.{ℕ, List, Some}
use Rattle.pm_types.specs.declared.address.Addr.{Addr}
use Rattle.pm_types.specs.declared.object.Object.{Object}
use Rattle.pm_types.specs.declared.source.RefSource.TheVariants.{Handle}
use Rattle.pm_types.specs.declared.reply.Reply.{Reply}
use Rattle.pm_types.specs.declared.reply.Reply.TheVariants.{Ident}
use Rattle.pm_view.specs.View.{SpaceView}
use Rattle.pm_view.specs.Rows.{with_count, born, birthplace, spent, spread}
use Rattle.pm_view.specs.Commands.{row_new}
use Rattle.pm_space.specs.Places.{with_object_in}
use Rattle.pm_mutate.specs.Commands.Picked.{IsForSomeCar}

-- an object is in the next slot of this car, and one more was born in the open train
abbrev pub with_one_born : SpaceView → ℕ → Object → SpaceView
with_one_born view car object = with_count (record view { cars = with_object_in view.cars car object })

-- an object is born, in a new car of some number where one is needed, at the place that is answered
abbrev pub IsBornAt : SpaceView → Object → Addr × SpaceView → Type 0
IsBornAt view object given = IsForSomeCar view (λ number. (birthplace view number object, born view number object)) given

-- an object is born under the next identity, in a new car of this number where one is needed, and a register holds it
abbrev pub born_held : SpaceView → ℕ → ℕ → Object → ℕ → SpaceView
born_held view client reg object number = spread (born (spent view) number object) (Handle client reg) (Some (birthplace (spent view) number object))

-- an object is born so, and the identity is the reply
abbrev pub IsHeldNew : SpaceView → ℕ → ℕ → Object → Reply × SpaceView → Type 0
IsHeldNew view client reg object given = IsForSomeCar view (λ number. (Ident object.id, born_held view client reg object number)) given

-- this is the row of `new`
abbrev pub IsRowOfNew : SpaceView → ℕ → ℕ → ℕ → List ℕ → Reply × SpaceView → Type 0
IsRowOfNew view client reg count bytes given = IsForSomeCar view (λ number. row_new view client reg count bytes number) given
