-- The trains to which an object may go, as they are spoken of.
use Rattle.std.specs.Prelude.{◌≡◌, ℕ, ◌<◌, ◌==◌, false, List, [], ◌∷◌, Some}
use Rattle.std.specs.FinMap.{get}
use Rattle.pm_types.specs.declared.address.Addr.{Addr}
use Rattle.pm_types.specs.declared.source.RefSource.{RefSource}
use Rattle.pm_types.specs.declared.source.RefSource.TheVariants.{Root, Handle, Field}
use Rattle.pm_trains.specs.Trains.{train_of, youngest}
use Rattle.pm_view.specs.View.{SpaceView}
use Rattle.pm_view.specs.Candidates.{set_of}
use Rattle.pm_view.specs.Events.{home}

-- a source that the car of an object remembers names the object at this address
abbrev pub IsRemembered : SpaceView → Addr → RefSource → Type 0
IsRemembered view a source = get (set_of view a.car) source ≡ Some a.slot

-- A remembered field of an object of this train names the object at an address, which lies in another train.
pub record IsNamedFromTrain (view : SpaceView) (a : Addr) (train : ℕ) : Type 0 where
  pub other : (train == home view a.car) ≡ false
  pub holder : Addr
  pub index : ℕ
  pub lies : train_of view.trains.trains holder.car ≡ Some train
  pub names : IsRemembered view a (Field holder index)

-- the source is a root or a register
abbrev pub IsRootOrRegister : RefSource → Type 0
IsRootOrRegister (Root number) = Unit {0}
IsRootOrRegister (Handle client register) = Unit {0}
IsRootOrRegister (Field a index) = ⊥

-- The train is the open one, and a remembered root or register names the object at an address.
pub record IsOpenToHeld (view : SpaceView) (a : Addr) (train : ℕ) : Type 0 where
  pub open_train : train ≡ youngest view.trains.trains
  pub source : RefSource
  pub bare : IsRootOrRegister source
  pub names : IsRemembered view a source

-- the numbers rise strictly, and the first is over this one
abbrev pub Ascend : ℕ → List ℕ → Type 0
Ascend low [] = Unit {0}
Ascend low (n ∷ ns) = (low < n) × Ascend n ns
