-- What a stored function has to be to choose among trains.
use Rattle.std.specs.Prelude.{◌≡◌, ℕ, ◌<◌, ◌^◌, List, length, slice_get, slice_index, Some}
use Rattle.std.specs.Borrow.{Bor}
use Rattle.std.specs.Fn.{Shared, FnReturnsAt}

-- a list that a chooser may be asked about: it has a member, and its length and each member are numbers of 64 bits
pub record IsAsked (trains : List ℕ) : Type 0 where
  pub some : 0 < length trains
  pub few : length trains < 2 ^ 64
  pub each : (k : ℕ) → slice_index trains k < 2 ^ 64

module _ {F : Type 0} (calls : Shared F (Bor (List ℕ) × Unit {0}) ℕ) (choose : F) where
  -- it may be called on every list that is not empty, and whatever it answers is below the list's length
  pub record IsChooser : Type 0 where
    pub may_call : (trains : Bor (List ℕ)) → IsAsked trains.now → calls.pre choose (trains, tt)
    pub in_list : (trains : Bor (List ℕ)) (index : ℕ) → IsAsked trains.now → calls.post choose (trains, tt) index → index < length trains.now

  -- the train is the member of the list at an index that the chooser answers for that list
  pub record IsPicked (trains : List ℕ) (train : ℕ) : Type 0 where
    pub index : ℕ
    pub answers : FnReturnsAt calls choose trains index
    pub member : slice_get trains index ≡ Some train
