-- A store has one report.
use Rattle.std.proofs.Common.{◌≡◌, ℕ, refl, sym, ap, subst, ◌∙◌, List, [], ◌∷◌, ◌++◌, map, length, Option, Some, None, is_some, codes, arith}
use Rattle.std.proofs.lemmas.List.{length-map}
use Rattle.std.specs.Prelude.{option_map, unwrap_or}
use Rattle.std.specs.List.{flat_map, sum_by}
use Rattle.std.specs.FinMap.{get, len, empty, entries, len-entries}
use Rattle.pm_cars.specs.Cars.{Car, used, live_count, moved_count}
use Rattle.pm_trains.specs.Trains.{Train}
use Rattle.pm_types.proofs.Results.{ok_same}
use Rattle.pm_image.specs.declared.catalog.CatEntry.{CatEntry}
use Rattle.pm_image.specs.Stands.{Opened}
use Rattle.pm_view.specs.View.{SpaceView, Sources, Cars}
use Rattle.pm_view.specs.Candidates.{set_of, queue_of}
use Rattle.pm_view.specs.Counts.{live_in}
use Rattle.pm_types.specs.Counts.{capped}
use Rattle.pm_copies.specs.Listed.{Listed}
use Rattle.pm_copies.specs.Opened.{IsOpened, IsOpenedFrom, unnumbered}
use Rattle.pm_inspect.specs.Report.{line, store_line, train_line, line_of_car, car_line, trains_text, total_line, report_text}
use Rattle.pm_inspect.specs.Tell.Told.{IsReport}
use Rattle.pm_inspect.proofs.TellLemmas.Renumbered.{named_alike, sources_no_fewer}

module _ (listed : List Listed) (catalog : List CatEntry) (next_id : ℕ) (view other : SpaceView) (one : IsOpened listed catalog next_id view) (two : IsOpened listed catalog next_id other) where
  cars : view.cars ≡ other.cars
  cars = one.cars ∙ sym two.cars

  trains : view.trains ≡ other.trains
  trains = one.trains ∙ sym two.trains

  names : map unnumbered (entries view.roots) ≡ map unnumbered (entries other.roots)
  names = one.roots ∙ sym two.roots

  registers : view.registers ≡ other.registers
  registers = one.fresh.registers ∙ sym two.fresh.registers

  as_many_roots : len view.roots ≡ len other.roots
  as_many_roots = len-entries view.roots ∙ sym (length-map (entries view.roots) unnumbered) ∙ ap length names ∙ length-map (entries other.roots) unnumbered ∙ sym (len-entries other.roots)

  as_many_sources : (car : ℕ) (s t : Sources) → get view.sets car ≡ Some s → get other.sets car ≡ Some t → len s ≡ len t
  as_many_sources car s t is is_too =
      let there_too = sources_no_fewer view other (named_alike view.roots other.roots names) two.fresh.numbers cars registers car s t (λ x. one.fresh.remembered car s x is) (λ x. two.fresh.remembered car t x is_too) in
      let here_too = sources_no_fewer other view (named_alike other.roots view.roots (sym names)) one.fresh.numbers (sym cars) (sym registers) car t s (λ x. two.fresh.remembered car t x is_too) (λ x. one.fresh.remembered car s x is) in
      omega (arith, there_too, here_too)

  as_many_remembered : (car : ℕ) → len (set_of view car) ≡ len (set_of other car)
  as_many_remembered car = by (get view.sets car) (get other.sets car) refl refl (one.fresh.sets car ∙ ap (λ (cars : Cars). is_some (get cars car)) cars ∙ sym (two.fresh.sets car))
    where
      by : (s t : Option Sources) → get view.sets car ≡ s → get other.sets car ≡ t → is_some s ≡ is_some t → len (unwrap_or s empty) ≡ len (unwrap_or t empty)
      by None None is is_too same = refl
      by None (Some t) is is_too same = cc
      by (Some s) None is is_too same = cc
      by (Some s) (Some t) is is_too same = as_many_sources car s t is is_too

  as_many_queued : (car : ℕ) → length (queue_of view car) ≡ length (queue_of other car)
  as_many_queued car = ap (λ queue. length (unwrap_or queue [])) (one.fresh.queues car ∙ ap (λ (cars : Cars). option_map (λ _. []) (get cars car)) cars ∙ sym (two.fresh.queues car))

  same_line : (number : ℕ) (car : Option Car) → line_of_car view number car ≡ line_of_car other number car
  same_line number None = refl
  same_line number (Some car) = λ i. line (codes "car") (number ∷ live_count car ∷ moved_count car ∷ used car ∷ as_many_remembered number i ∷ as_many_queued number i ∷ [])

  same_car_line : (number : ℕ) → car_line view number ≡ car_line other number
  same_car_line number = same_line number (get view.cars number) ∙ ap (λ (cars : Cars). line_of_car other number (get cars number)) cars

  same_store_line : (epoch : ℕ) → store_line epoch view ≡ store_line epoch other
  same_store_line epoch = λ i. line (codes "store") (epoch ∷ (one.fresh.next ∙ sym two.fresh.next) i ∷ as_many_roots i ∷ [])

  same_trains_text : trains_text view ≡ trains_text other
  same_trains_text = λ i. flat_map (λ (train : Train). train_line train ++ flat_map (λ number. same_car_line number i) train.cars) (trains i).trains

  same_total_line : total_line view ≡ total_line other
  same_total_line = λ i. line (codes "total") (
      length (trains i).trains
      ∷ capped (sum_by (λ (train : Train). length train.cars) (trains i).trains)
      ∷ capped (sum_by (λ (train : Train). sum_by (λ number. live_in (get (cars i) number)) train.cars) (trains i).trains)
      ∷ [])

  pub same_text : (epoch : ℕ) → report_text view epoch ≡ report_text other epoch
  same_text epoch = λ i. same_store_line epoch i ++ same_trains_text i ++ same_total_line i

pub one_report : (bytes one other : List ℕ) → IsReport bytes one → IsReport bytes other → one ≡ other
one_report bytes one other first second =
    let found : first.store.found ≡ second.store.found = ok_same first.store.found second.store.found (sym first.store.is_found ∙ second.store.is_found) in
    let stood : first.stands.found ≡ second.stands.found = ok_same first.stands.found second.stands.found (sym first.stands.is_found ∙ second.stands.is_found) in
    let number : first.number ≡ second.number = first.stands.is_number ∙ ap (λ (found : Opened). found.current.header.epoch) stood ∙ sym second.stands.is_number in
    let opened = subst (λ (found : Opened). IsOpenedFrom found.graph found.current.header.next second.view) (sym found) second.store.is_opened in
    first.says ∙ same_text _ _ _ first.view second.view first.store.is_opened opened first.number ∙ ap (report_text second.view) number ∙ sym second.says
