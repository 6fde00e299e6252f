-- What escapes at a command is what is joined or reached, as its carrying asks.
use Rattle.std.proofs.Common.{◌≡◌, ℕ, Bool, true, false, ◌||◌, List, [], ◌∷◌, Option, Some, None, refl, sym, ap, subst, is_some}
use Rattle.std.specs.Option.{IsSome}
use Rattle.std.specs.List.Sorted.{IsStrictlySortedBy}
use Rattle.std.specs.FinMap.{get, insert}
use Rattle.pm_types.specs.declared.command.Cmd.{Cmd}
use Rattle.pm_types.specs.declared.command.Cmd.TheVariants.{Store, Bind, Swap}
use Rattle.pm_model.specs.Heap.{Object, Heap, with_field}
use Rattle.pm_model.specs.World.{World, held}
use Rattle.pm_model.specs.Answer.{answer, is_refusal}
use Rattle.pm_nursery.specs.Young.{NurseryView}
use Rattle.pm_nursery.specs.Sweeping.{among}
use Rattle.pm_nursery.specs.Joined.{IsJoined}
use Rattle.pm_nursery.specs.Moving.{young_changing}
use Rattle.pm_nursery.specs.Escaping.{AreEscaping, BindEscapes, Escapes, IsAscending, LetsEscape, SetEscapes, SetsField, StoreEscapes, nulled}
use Rattle.pm_law_young.proofs.Within.{itself}

-- a list of nothing
none_among : (ids : List ℕ) → ((id : ℕ) → among ids id ≡ true → ⊥) → ids ≡ []
none_among [] none = refl
none_among (first ∷ ids) none = absurd (none first (ap (λ b. b || among ids first) (itself first)))

no_order : IsAscending []
unfolding IsStrictlySortedBy
no_order = tt

is_none : {A : Type 0} (o : Option A) → o ≡ None → is_some o ≡ false
is_none o none = ap is_some none

module _ (world : World) (nursery : NurseryView) (client : ℕ) (cmd : Cmd) (ids : List ℕ) where
  abbrev Lets : ℕ → Type 0
  Lets id = LetsEscape world nursery client cmd id

  -- nothing escapes at a command that is refused, or that lets nothing escape
  pub refused_none : is_refusal cmd (answer world client cmd).0 ≡ true → AreEscaping world nursery client cmd ids → ids ≡ []
  refused_none refused are = none_among ids (λ id inside. cc (refused, (are.each id inside).0))

  pub lets_none : ((id : ℕ) → Lets id → ⊥) → AreEscaping world nursery client cmd ids → ids ≡ []
  lets_none none are = none_among ids (λ id inside. none id (are.each id inside).1)

  -- what escapes is what is carried, and the other way round
  module _ (Carried : ℕ → Type 0) (done : is_refusal cmd (answer world client cmd).0 ≡ false) (to : (id : ℕ) → Lets id → Carried id) (back : (id : ℕ) → Carried id → Lets id) where
    pub each_carried : AreEscaping world nursery client cmd ids → (id : ℕ) → among ids id ≡ true → Carried id
    each_carried are id inside = to id (are.each id inside).1

    pub all_carried : AreEscaping world nursery client cmd ids → (id : ℕ) → Carried id → among ids id ≡ true
    all_carried are id carried = are.all id (done, back id carried)

    pub are_escaping : IsAscending ids → ((id : ℕ) → among ids id ≡ true → Carried id) → ((id : ℕ) → Carried id → among ids id ≡ true) → AreEscaping world nursery client cmd ids
    are_escaping ascending each all = record {
      ascending = ascending;
      each = λ id inside. (done, back id (each id inside));
      all = λ id escapes. all id (to id escapes.1);
    }

pub none_escaping : (world : World) (nursery : NurseryView) (client : ℕ) (cmd : Cmd) → ((id : ℕ) → Escapes world nursery client cmd id → ⊥) → AreEscaping world nursery client cmd []
none_escaping world nursery client cmd none = record { ascending = no_order; each = λ id inside. cc inside; all = λ id escapes. absurd (none id escapes) }

-- ---- fields

module _ (world : World) (nursery : NurseryView) (client : ℕ) where
  -- what a command that sets a field lets escape
  pub sets_to : (cmd : Cmd) (reg index value id : ℕ) → SetsField cmd reg index value → LetsEscape world nursery client cmd id → StoreEscapes nursery.objects index (held world client reg) (held world client value) id
  sets_to (Store r i v) reg index value id sets lets = said r i v reg index value sets lets
    where
      said : (r i v reg index value : ℕ) → (r ≡ reg) × (i ≡ index) × (v ≡ value) → StoreEscapes nursery.objects i (held world client r) (held world client v) id → StoreEscapes nursery.objects index (held world client reg) (held world client value) id
      said r i v reg index value same lets =
          subst (λ v. StoreEscapes nursery.objects index (held world client reg) (held world client v) id) same.2
          (subst (λ i. StoreEscapes nursery.objects i (held world client reg) (held world client v) id) same.1 (subst (λ r. StoreEscapes nursery.objects i (held world client r) (held world client v) id) same.0 lets))
  sets_to (Swap r i old v) reg index value id sets lets = said r i v reg index value sets lets
    where
      said : (r i v reg index value : ℕ) → (r ≡ reg) × (i ≡ index) × (v ≡ value) → StoreEscapes nursery.objects i (held world client r) (held world client v) id → StoreEscapes nursery.objects index (held world client reg) (held world client value) id
      said r i v reg index value same lets =
          subst (λ v. StoreEscapes nursery.objects index (held world client reg) (held world client v) id) same.2
          (subst (λ i. StoreEscapes nursery.objects i (held world client reg) (held world client v) id) same.1 (subst (λ r. StoreEscapes nursery.objects i (held world client r) (held world client v) id) same.0 lets))
  sets_to cmd reg index value id sets lets = absurd sets

  pub sets_back : (cmd : Cmd) (reg index value id : ℕ) → SetsField cmd reg index value → StoreEscapes nursery.objects index (held world client reg) (held world client value) id → LetsEscape world nursery client cmd id
  sets_back (Store r i v) reg index value id sets lets = said r i v reg index value sets lets
    where
      said : (r i v reg index value : ℕ) → (r ≡ reg) × (i ≡ index) × (v ≡ value) → StoreEscapes nursery.objects index (held world client reg) (held world client value) id → StoreEscapes nursery.objects i (held world client r) (held world client v) id
      said r i v reg index value same lets =
          subst (λ r. StoreEscapes nursery.objects i (held world client r) (held world client v) id) (sym same.0)
          (subst (λ i. StoreEscapes nursery.objects i (held world client reg) (held world client v) id) (sym same.1) (subst (λ v. StoreEscapes nursery.objects index (held world client reg) (held world client v) id) (sym same.2) lets))
  sets_back (Swap r i old v) reg index value id sets lets = said r i v reg index value sets lets
    where
      said : (r i v reg index value : ℕ) → (r ≡ reg) × (i ≡ index) × (v ≡ value) → StoreEscapes nursery.objects index (held world client reg) (held world client value) id → StoreEscapes nursery.objects i (held world client r) (held world client v) id
      said r i v reg index value same lets =
          subst (λ r. StoreEscapes nursery.objects i (held world client r) (held world client v) id) (sym same.0)
          (subst (λ i. StoreEscapes nursery.objects i (held world client reg) (held world client v) id) (sym same.1) (subst (λ v. StoreEscapes nursery.objects index (held world client reg) (held world client v) id) (sym same.2) lets))
  sets_back cmd reg index value id sets lets = absurd sets

  module _ (cmd : Cmd) (reg index value object other : ℕ) (sets : SetsField cmd reg index value) (one : held world client reg ≡ Some object) (two : held world client value ≡ Some other) where
    -- said by the two objects
    by_objects : (id : ℕ) → LetsEscape world nursery client cmd id → SetEscapes nursery.objects object index other (is_some (get nursery.objects object)) (is_some (get nursery.objects other)) id
    by_objects id lets =
        subst (λ v. StoreEscapes nursery.objects index (Some object) v id) two (subst (λ h. StoreEscapes nursery.objects index h (held world client value) id) one (sets_to cmd reg index value id sets lets))

    from_objects : (id : ℕ) → SetEscapes nursery.objects object index other (is_some (get nursery.objects object)) (is_some (get nursery.objects other)) id → LetsEscape world nursery client cmd id
    from_objects id lets =
        sets_back cmd reg index value id sets
        (subst (λ h. StoreEscapes nursery.objects index h (held world client value) id) (sym one) (subst (λ v. StoreEscapes nursery.objects index (Some object) v id) (sym two) lets))

    -- by which of them is young
    by_sides : (b c : Bool) → is_some (get nursery.objects object) ≡ b → is_some (get nursery.objects other) ≡ c → (id : ℕ) → LetsEscape world nursery client cmd id → SetEscapes nursery.objects object index other b c id
    by_sides b c first second id lets =
        subst (λ c. SetEscapes nursery.objects object index other b c id) second
        (subst (λ b. SetEscapes nursery.objects object index other b (is_some (get nursery.objects other)) id) first (by_objects id lets))

    from_sides : (b c : Bool) → is_some (get nursery.objects object) ≡ b → is_some (get nursery.objects other) ≡ c → (id : ℕ) → SetEscapes nursery.objects object index other b c id → LetsEscape world nursery client cmd id
    from_sides b c first second id lets =
        from_objects id
        (subst (λ b. SetEscapes nursery.objects object index other b (is_some (get nursery.objects other)) id) (sym first)
        (subst (λ c. SetEscapes nursery.objects object index other b c id) (sym second) lets))

    pub value_to : get nursery.objects object ≡ None → IsSome (get nursery.objects other) → (id : ℕ) → LetsEscape world nursery client cmd id → IsJoined nursery.objects other id
    value_to old young id lets = by_sides false true (is_none _ old) young id lets

    pub value_back : get nursery.objects object ≡ None → IsSome (get nursery.objects other) → (id : ℕ) → IsJoined nursery.objects other id → LetsEscape world nursery client cmd id
    value_back old young id joined = from_sides false true (is_none _ old) young id joined

    nulled_is : (known : Object) → get nursery.objects object ≡ Some known → nulled nursery.objects object index (get nursery.objects object) ≡ insert nursery.objects object (with_field known index None)
    nulled_is known here = ap (nulled nursery.objects object index) here

    pub object_to : (known : Object) → get nursery.objects object ≡ Some known → get nursery.objects other ≡ None → (id : ℕ) → LetsEscape world nursery client cmd id
        → IsJoined (young_changing nursery object (with_field known index None)).objects object id
    object_to known here old id lets = subst (λ (h : Heap). IsJoined h object id) (nulled_is known here) (by_sides true false (ap is_some here) (is_none _ old) id lets)

    pub object_back : (known : Object) → get nursery.objects object ≡ Some known → get nursery.objects other ≡ None → (id : ℕ) → IsJoined (young_changing nursery object (with_field known index None)).objects object id
        → LetsEscape world nursery client cmd id
    object_back known here old id joined = from_sides true false (ap is_some here) (is_none _ old) id (subst (λ (h : Heap). IsJoined h object id) (sym (nulled_is known here)) joined)

    -- nothing where both are, or none is
    same_none : (b : Bool) (id : ℕ) → SetEscapes nursery.objects object index other b b id → ⊥
    same_none true id never = never
    same_none false id never = never

    pub same_side : is_some (get nursery.objects object) ≡ is_some (get nursery.objects other) → (id : ℕ) → LetsEscape world nursery client cmd id → ⊥
    same_side same id lets = same_none (is_some (get nursery.objects other)) id (by_sides (is_some (get nursery.objects other)) (is_some (get nursery.objects other)) same refl id lets)

  -- ---- names

  pub name_to : (name : List ℕ) (reg object : ℕ) → held world client reg ≡ Some object → (id : ℕ) → LetsEscape world nursery client (Bind name reg) id → IsJoined nursery.objects object id
  name_to name reg object here id lets = let said : BindEscapes nursery.objects (Some object) id = subst (λ h. BindEscapes nursery.objects h id) here lets in said.1

  pub name_back : (name : List ℕ) (reg object : ℕ) → held world client reg ≡ Some object → IsSome (get nursery.objects object) → (id : ℕ) → IsJoined nursery.objects object id → LetsEscape world nursery client (Bind name reg) id
  name_back name reg object here young id joined = subst (λ h. BindEscapes nursery.objects h id) (sym here) (young, joined)

  pub old_name_none : (name : List ℕ) (reg object : ℕ) → held world client reg ≡ Some object → get nursery.objects object ≡ None → (id : ℕ) → LetsEscape world nursery client (Bind name reg) id → ⊥
  old_name_none name reg object here old id lets = let said : BindEscapes nursery.objects (Some object) id = subst (λ h. BindEscapes nursery.objects h id) here lets in cc (is_none (get nursery.objects object) old, said.0)
