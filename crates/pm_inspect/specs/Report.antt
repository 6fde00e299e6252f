-- The report of a store: the text of what is seen of its space, and of the number of its last settled copy.
use Rattle.std.specs.Prelude.{◌≡◌, ℕ, List, [], ◌∷◌, ◌++◌, length, codes, decimal, Option, Some, None, IsSomeAnd}
use Rattle.std.specs.List.{flat_map, sum_by}
use Rattle.std.specs.FinMap.{get, len}
use Rattle.pm_cars.specs.Cars.{Car, used, live_count, moved_count}
use Rattle.pm_trains.specs.Trains.{Train, cars_at}
use Rattle.pm_view.specs.View.{SpaceView}
use Rattle.pm_view.specs.Candidates.{set_of, queue_of}
use Rattle.pm_view.specs.Counts.{live_in}
use Rattle.pm_types.specs.Counts.{capped}

-- a line: a word, then its columns in decimal digits, each after one space
abbrev pub line : List ℕ → List ℕ → List ℕ
line word columns = word ++ flat_map (λ column. 32 ∷ decimal column) columns ++ codes "\n"

-- `store EPOCH NEXT ROOTS`: the number of the last settled copy, the identity of the next object, and how many names
-- are bound
abbrev pub store_line : ℕ → SpaceView → List ℕ
store_line epoch view = line (codes "store") (epoch ∷ view.next ∷ len view.roots ∷ [])

-- `train NUMBER CARS`: the train's number, and how many cars it has
abbrev pub train_line : Train → List ℕ
train_line train = line (codes "train") (train.number ∷ length train.cars ∷ [])

-- `car NUMBER LIVE MOVED USED REMEMBERED QUEUED`: the car's number; how many slots have an object; how many have the
-- address to which an object went; the room in bytes of the car's head and of all these slots; how many sources outside
-- the car it remembers; how many changes wait for it. A car that does not stand has no line.
abbrev pub line_of_car : SpaceView → ℕ → Option Car → List ℕ
line_of_car view number None = []
line_of_car view number (Some car) =
    line (codes "car") (number ∷ live_count car ∷ moved_count car ∷ used car ∷ len (set_of view number) ∷ length (queue_of view number) ∷ [])

abbrev pub car_line : SpaceView → ℕ → List ℕ
car_line view number = line_of_car view number (get view.cars number)

-- a train, and each of its cars, the first car first
abbrev pub train_text : SpaceView → Train → List ℕ
train_text view train = train_line train ++ flat_map (car_line view) train.cars

-- how many cars the trains have
abbrev pub car_count : SpaceView → ℕ
car_count view = sum_by (λ train. length train.cars) view.trains.trains

-- how many slots of these cars have an object: the sum of that column
abbrev pub live_in_cars : SpaceView → List ℕ → ℕ
live_in_cars view cars = sum_by (λ number. live_in (get view.cars number)) cars

-- the same of a train, and of all
abbrev pub live_of_train : SpaceView → Train → ℕ
live_of_train view train = live_in_cars view train.cars

abbrev pub live_total : SpaceView → ℕ
live_total view = sum_by (live_of_train view) view.trains.trains

-- `total TRAINS CARS LIVE`: how many trains stand, how many cars they have, and how many slots of them have an object
abbrev pub total_line : SpaceView → List ℕ
total_line view = line (codes "total") (length view.trains.trains ∷ capped (car_count view) ∷ capped (live_total view) ∷ [])

-- each train with its cars, the oldest train first
abbrev pub trains_text : SpaceView → List ℕ
trains_text view = flat_map (train_text view) view.trains.trains

-- the report: the store, each train, and what they are together
abbrev pub report_text : SpaceView → ℕ → List ℕ
report_text view epoch = store_line epoch view ++ trains_text view ++ total_line view

-- the text of the train of this number, which stands, was put behind a text
abbrev pub EndsWithTrain : SpaceView → ℕ → List ℕ → List ℕ → Type 0
EndsWithTrain view number old new =
    IsSomeAnd (cars_at view.trains.trains number) (λ cars. new ≡ old ++ train_text view (record { number = number; cars = cars }))

-- so many slots of the cars of the train of this number, which stands, have an object
abbrev pub CountsLive : SpaceView → ℕ → ℕ → Type 0
CountsLive view number count = IsSomeAnd (cars_at view.trains.trains number) (λ cars. count ≡ capped (live_in_cars view cars))
