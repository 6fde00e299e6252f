-- Cars and roots that no rule refuses can be opened.
use Rattle.std.proofs.Common.{◌≡◌, ℕ, suc, ◌≤◌, true, false, cond, T, refl, ap, sym, ◌∙◌, List, [], ◌∷◌, map, Option, Some, None, arith, is_some}
use Rattle.std.specs.Option.{option_map}
use Rattle.std.specs.Ordering.{nat_cmp, eq_by_cmp}
use Rattle.std.specs.FinMap.{get, entries, get-entries, from_entries, get-from_entries, empty, get-empty, nat_cmp-IsAntisymmetric}
use Rattle.std.specs.FinMap.Entries.{find, below_all, is_sorted}
use Rattle.std.proofs.lemmas.Cmp.{nat_cmp_total}
use Rattle.std.proofs.lemmas.Map.Views.{tells_apart}
use Rattle.std.proofs.lemmas.Option.{same_Some}
use Rattle.pm_types.specs.Orders.{name_cmp, place_cmp}
use Rattle.pm_types.proofs.Orders.{names_total, names_antisymmetric}
use Rattle.pm_types.specs.declared.address.Addr.{Addr}
use Rattle.pm_types.specs.declared.source.RefSource.{RefSource}
use Rattle.pm_types.specs.declared.source.RefSource.TheVariants.{Root, Handle, Field}
use Rattle.pm_types.specs.declared.source.Change.{Change}
use Rattle.pm_cars.specs.Cars.{Car}
use Rattle.pm_roots.specs.Bindings.{Bindings, AllNumbersDiffer}
use Rattle.pm_image.specs.declared.car.CarImage.{CarImage}
use Rattle.pm_image.specs.declared.catalog.CatEntry.{CatEntry}
use Rattle.pm_view.specs.declared.phase.Phase.TheVariants.{Idle}
use Rattle.pm_view.specs.Sources.{outside, slot_in}
use Rattle.pm_view.specs.View.{Sources, SpaceView}
use Rattle.pm_view.specs.Reading.{stored}
use Rattle.pm_copies.specs.Listed.{Listed, images}
use Rattle.pm_copies.specs.Accepted.{NamesAscend, roots_in, IsAccepted}
use Rattle.pm_copies.specs.Opened.{opened_cars, opened_trains, opened_root, unnumbered, IsOpened}
use Rattle.pm_roots.proofs.Sorted.{first, second}
use Rattle.pm_law_copies.proofs.Lists.{entries_made}
use Rattle.pm_law_copies.proofs.Named.{named_sorted}
use Rattle.pm_law_copies.proofs.OpenedCars.{both}
use Rattle.pm_law_copies.specs.Storing.{stores, remembering}
use Rattle.pm_law_copies.proofs.Sources.{all_stored, remembers}

-- ---- maps by car

keyed : {X : Type 0} (f : ℕ → X) (es : List (ℕ × Car)) (n : ℕ) → find nat_cmp n (map (λ (e : ℕ × Car). (e.0, f e.0)) es) ≡ option_map (λ _. f n) (find nat_cmp n es)
keyed f [] n = refl
keyed f (e ∷ es) n = elim (eq_by_cmp nat_cmp n e.0) as (λ b. eq_by_cmp nat_cmp n e.0 ≡ b → cond b (Some (f e.0)) (find nat_cmp n (map (λ (e : ℕ × Car). (e.0, f e.0)) es)) ≡ option_map (λ _. f n) (cond b (Some e.1) (find nat_cmp n es))) [
  | true ↦ λ tied. ap (λ m. Some (f m)) (sym (tells_apart nat_cmp-IsAntisymmetric n e.0 tied))
  | false ↦ λ apart. keyed f es n
] refl

-- ---- names with numbers

numbers_from : ℕ → List (List ℕ × Addr) → List (List ℕ × (ℕ × Addr))
numbers_from k [] = []
numbers_from k (root ∷ roots) = (root.0, (k, root.1)) ∷ numbers_from (suc k) roots

without_numbers : (k : ℕ) (roots : List (List ℕ × Addr)) → map unnumbered (numbers_from k roots) ≡ roots
unfolding numbers_from
without_numbers k [] = refl
without_numbers k (root ∷ roots) = ap (λ rest. root ∷ rest) (without_numbers (suc k) roots)

number_low : (k : ℕ) (roots : List (List ℕ × Addr)) (p : List ℕ) (n : ℕ) (a : Addr) → find name_cmp p (numbers_from k roots) ≡ Some (n, a) → k ≤ n
unfolding numbers_from
number_low k [] p n a is = cc
number_low k (root ∷ roots) p n a is = elim (eq_by_cmp name_cmp p root.0) as (λ b. cond b (Some (k, root.1)) (find name_cmp p (numbers_from (suc k) roots)) ≡ Some (n, a) → k ≤ n) [
  | true ↦ λ is. let same : k ≡ n = ap (λ (e : ℕ × Addr). e.0) (same_Some (k, root.1) (n, a) is) in omega (arith, same)
  | false ↦ λ is. let later = number_low (suc k) roots p n a is in omega (arith, later)
] is

-- two names with one number are one
one_name : (k : ℕ) (roots : List (List ℕ × Addr)) (p q : List ℕ) (n : ℕ) (a b : Addr) → find name_cmp p (numbers_from k roots) ≡ Some (n, a) → find name_cmp q (numbers_from k roots) ≡ Some (n, b) → p ≡ q
unfolding numbers_from
one_name k [] p q n a b is is_too = cc
one_name k (root ∷ roots) p q n a b is is_too =
    elim (eq_by_cmp name_cmp p root.0) as (λ c. eq_by_cmp name_cmp p root.0 ≡ c → cond c (Some (k, root.1)) (find name_cmp p (numbers_from (suc k) roots)) ≡ Some (n, a) → p ≡ q) [
      | true ↦ λ tied is. elim (eq_by_cmp name_cmp q root.0) as (λ c. eq_by_cmp name_cmp q root.0 ≡ c → cond c (Some (k, root.1)) (find name_cmp q (numbers_from (suc k) roots)) ≡ Some (n, b) → p ≡ q) [
        | true ↦ λ tied_too is_too. tells_apart names_antisymmetric p root.0 tied ∙ sym (tells_apart names_antisymmetric q root.0 tied_too)
        | false ↦ λ apart is_too.
            let same : k ≡ n = ap (λ (e : ℕ × Addr). e.0) (same_Some (k, root.1) (n, a) is) in
            let later = number_low (suc k) roots q n b is_too in
            absurd (omega (arith, same, later))
      ] refl is_too
      | false ↦ λ apart is. elim (eq_by_cmp name_cmp q root.0) as (λ c. eq_by_cmp name_cmp q root.0 ≡ c → cond c (Some (k, root.1)) (find name_cmp q (numbers_from (suc k) roots)) ≡ Some (n, b) → p ≡ q) [
        | true ↦ λ tied_too is_too.
            let same : k ≡ n = ap (λ (e : ℕ × Addr). e.0) (same_Some (k, root.1) (n, b) is_too) in
            let later = number_low (suc k) roots p n a is in
            absurd (omega (arith, same, later))
        | false ↦ λ apart_too is_too. one_name (suc k) roots p q n a b is is_too
      ] refl is_too
    ] refl is

-- ---- names in order

-- numbers change no order
below_numbers : (p : List ℕ) (k : ℕ) (roots : List (List ℕ × Addr)) → T (below_all name_cmp p roots) → T (below_all name_cmp p (numbers_from k roots))
unfolding numbers_from
below_numbers p k [] below = tt
below_numbers p k (root ∷ roots) below = both _ _ (first _ _ below) (below_numbers p (suc k) roots (second _ _ below))

sorted_numbers : (k : ℕ) (roots : List (List ℕ × Addr)) → T (is_sorted name_cmp roots) → T (is_sorted name_cmp (numbers_from k roots))
unfolding numbers_from
sorted_numbers k [] sorted = tt
sorted_numbers k (root ∷ roots) sorted = both _ _ (below_numbers root.0 (suc k) roots (first _ _ sorted)) (sorted_numbers (suc k) roots (second _ _ sorted))

module _ (cars : List CarImage) where
  rows : ℕ → List CatEntry → List (List ℕ × (ℕ × Addr))
  rows k catalog = numbers_from k (map (opened_root cars) (roots_in catalog))

  bindings : List CatEntry → Bindings
  bindings catalog = from_entries (rows 0 catalog)

  entries_bound : (catalog : List CatEntry) → NamesAscend None catalog → entries (bindings catalog) ≡ rows 0 catalog
  unfolding bindings rows
  entries_bound catalog ascend = entries_made names_total names_antisymmetric (rows 0 catalog) (sorted_numbers 0 (map (opened_root cars) (roots_in catalog)) (named_sorted cars None catalog ascend))

  bound_differ : (catalog : List CatEntry) → AllNumbersDiffer (bindings catalog)
  unfolding bindings rows
  bound_differ catalog p q n a b at_p at_q =
      one_name 0 (map (opened_root cars) (roots_in catalog)) p q n a b
      (sym (get-from_entries names_total (rows 0 catalog) p) ∙ at_p) (sym (get-from_entries names_total (rows 0 catalog) q) ∙ at_q)

  bound_roots : (catalog : List CatEntry) → NamesAscend None catalog → map unnumbered (entries (bindings catalog)) ≡ map (opened_root cars) (roots_in catalog)
  unfolding rows
  bound_roots catalog ascend = ap (map unnumbered) (entries_bound catalog ascend) ∙ without_numbers 0 (map (opened_root cars) (roots_in catalog))

-- ---- a space

no_changes : ℕ → List Change
no_changes car = []

opened_view : List Listed → List CatEntry → ℕ → SpaceView
opened_view listed catalog next_id =
    let cars = opened_cars (images listed) in
    let roots = bindings (images listed) catalog in
    record {
      cars = cars;
      sets = from_entries (map (λ (e : ℕ × Car). (e.0, remembering (all_stored cars roots) e.0)) (entries cars));
      queues = from_entries (map (λ (e : ℕ × Car). (e.0, no_changes e.0)) (entries cars));
      trains = opened_trains listed;
      roots = roots;
      registers = empty;
      anchor = None;
      phase = Idle;
      next = next_id;
      completed = 0;
    }

module _ (listed : List Listed) (catalog : List CatEntry) (next_id : ℕ) (ok : IsAccepted listed catalog next_id) where
  view : SpaceView
  view = opened_view listed catalog next_id

  set_at : (car : ℕ) → get view.sets car ≡ option_map (λ _. remembering (all_stored view.cars view.roots) car) (get view.cars car)
  unfolding view opened_view
  set_at car =
      get-from_entries nat_cmp_total (map (λ (e : ℕ × Car). (e.0, remembering (all_stored view.cars view.roots) e.0)) (entries view.cars)) car
      ∙ keyed (remembering (all_stored view.cars view.roots)) (entries view.cars) car
      ∙ ap (option_map (λ _. remembering (all_stored view.cars view.roots) car)) (sym (get-entries view.cars car))

  queue_at : (car : ℕ) → get view.queues car ≡ option_map (λ _. no_changes car) (get view.cars car)
  unfolding view opened_view
  queue_at car =
      get-from_entries nat_cmp_total (map (λ (e : ℕ × Car). (e.0, no_changes e.0)) (entries view.cars)) car
      ∙ keyed no_changes (entries view.cars) car
      ∙ ap (option_map (λ _. no_changes car)) (sym (get-entries view.cars car))

  stored_is : (x : RefSource) → stores view.cars view.roots x ≡ stored view x
  unfolding view opened_view
  stored_is (Root number) = refl
  stored_is (Handle client register) = sym (get-empty place_cmp (client, register))
  stored_is (Field a i) = refl

  mapped_some : {X Y : Type 0} (o : Option X) → (y : Y) → is_some (option_map (λ _. y) o) ≡ is_some o
  mapped_some None y = refl
  mapped_some (Some x) y = refl

  mapped_is : {X Y : Type 0} (o : Option X) (y z : Y) → option_map (λ _. y) o ≡ Some z → y ≡ z
  mapped_is None y z is = cc
  mapped_is (Some x) y z is = same_Some y z is

  differ : AllNumbersDiffer view.roots
  unfolding view opened_view
  differ = bound_differ (images listed) catalog

  remembered : (car : ℕ) (set : Sources) (x : RefSource) → get view.sets car ≡ Some set → get set x ≡ cond (outside car x) (slot_in car (stored view x)) None
  remembered car set x is =
      ap (λ (set : Sources). get set x) (sym (mapped_is (get view.cars car) (remembering (all_stored view.cars view.roots) car) set (sym (set_at car) ∙ is)))
      ∙ remembers view.cars view.roots differ car x
      ∙ ap (λ o. cond (outside car x) (slot_in car o) None) (stored_is x)

  -- there is a space that opening makes of them
  pub some_space : (view : SpaceView) × IsOpened listed catalog next_id view
  unfolding view opened_view no_changes
  some_space = (
    view,
    record {
      cars = refl;
      trains = refl;
      roots = bound_roots (images listed) catalog ok.names;
      fresh = record {
        numbers = differ;
        sets = λ car. ap is_some (set_at car) ∙ mapped_some (get view.cars car) (remembering (all_stored view.cars view.roots) car);
        remembered = remembered;
        queues = queue_at;
        registers = refl;
        anchor = refl;
        phase = refl;
        next = refl;
        completed = refl;
      };
    },
  )
