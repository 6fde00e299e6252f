-- Objects that came in with their fields and with the registers that name them.
use Rattle.std.proofs.Common.{◌≡◌, ℕ, Bool, true, false, if◌then◌else◌, List, length, Option, Result, Ok, Err, OnOk, OnErr, refl, sym, ap, subst, ◌∙◌, arith}
use Rattle.std.specs.Option.{IsSome, option_map}
use Rattle.std.specs.FinMap.{get}
use Rattle.std.proofs.Math.Logic.{∥∥₁_map}
use Rattle.std.proofs.lemmas.List.{take_all}
use Rattle.pm_model.specs.Heap.{Object, Heap}
use Rattle.pm_model.specs.World.{World, Registers}
use Rattle.pm_view.specs.View.{SpaceView}
use Rattle.pm_view.specs.Objects.{KeepsObjects}
use Rattle.pm_nursery.specs.Young.{NurseryView}
use Rattle.pm_nursery.specs.Sweeping.{among, carried, AreYoung, ComesIn}
use Rattle.pm_nursery.proofs.Parts.{picks}
use Rattle.pm_young.specs.Bringing.{AddsThese, BringsBlank, BringsHeld, BringsIn, BringsWhole, ComesBlank, ComesHeld, ComesWhole, Enters, EntersPart, HasAll, HasBlank, StandsBlank, StandsWithout, blank}

module _ (objects : Heap) (ids : List ℕ) where
  -- what came in has no fields
  pub blank_now : (world later : World) → ComesBlank world objects ids later → HasBlank later objects ids
  blank_now world later comes id is = comes.heap id ∙ picks (among ids id) (option_map blank (get objects id)) (get world.heap id) is

  pub all_now : (world later : World) → ((id : ℕ) → among ids id ≡ true → IsSome (get objects id)) → ComesWhole world objects ids later → HasAll later ids
  all_now world later young comes id is = subst IsSome (sym (comes.heap id ∙ picks (among ids id) (get objects id) (get world.heap id) is)) (young id is)

  pub stands_blank_now : (v u : SpaceView) → ∥ StandsWithout v ids ∥₁ → BringsBlank v objects ids u → ∥ StandsBlank u objects ids ∥₁
  stands_blank_now v u known brings = ∥∥₁_map known (λ it.
      let later = brings it.world it.represents it.none in
      record { world = later.0; represents = later.1; blank = blank_now it.world later.0 later.2 })

-- all three
once : (b : Bool) (whole first old : Option Object) → (if b then whole else (if b then first else old)) ≡ (if b then whole else old)
once true whole first old = refl
once false whole first old = refl

module _ (nursery : NurseryView) (ids : List ℕ) (young : AreYoung nursery ids) where
  comes_in : (world a b c : World) → ComesBlank world nursery.objects ids a → ComesWhole a nursery.objects ids b → ComesHeld b nursery.registers ids c → ComesIn world nursery ids c
  comes_in world a b c one two three =
      let heap : c.heap ≡ b.heap = ap (λ (x : World). x.heap) three.rest in
      let registers : b.registers ≡ world.registers = ap (λ (x : World). x.registers) two.rest ∙ ap (λ (x : World). x.registers) one.rest in
      record {
        rest =
            three.rest
            ∙ ap (λ (x : World). record x { registers = c.registers }) two.rest
            ∙ ap (λ (x : World). record x { heap = b.heap; registers = c.registers }) one.rest
            ∙ ap (λ (h : Heap). record world { heap = h; registers = c.registers }) (sym heap);
        heap = λ id.
            ap (λ (h : Heap). get h id) heap ∙ two.heap id
            ∙ ap (λ (o : Option Object). if among ids id then get nursery.objects id else o) (one.heap id)
            ∙ once (among ids id) (get nursery.objects id) (option_map blank (get nursery.objects id)) (get world.heap id);
        registers = λ place. three.registers place ∙ ap (λ (r : Registers). carried ids (get nursery.registers place) (get r place)) registers;
      }

  pub brings_in : (v u w x : SpaceView) → BringsBlank v nursery.objects ids u → BringsWhole u nursery.objects ids w → BringsHeld w nursery.registers ids x → BringsIn v nursery ids x
  brings_in v u w x one two three = λ world stands none.
      let a = one world stands none in
      let b = two a.0 a.1 (blank_now nursery.objects ids world a.0 a.2) in
      let c = three b.0 b.1 (all_now nursery.objects ids a.0 b.0 young b.2) in
      (c.0, c.1, comes_in world a.0 b.0 c.0 a.2 b.2 c.2)

-- ---- those that entered

adds_kept : (v u w : SpaceView) (ids : List ℕ) → AddsThese v u ids → KeepsObjects u w → w.next ≡ u.next → AddsThese v w ids
adds_kept v u w ids adds keeps next = record {
  here = λ id is. let at = adds.here id is in (at.0, keeps.ids at.0 ∙ at.1);
  only = λ a id is. adds.only a id (sym (keeps.ids a) ∙ is);
  stays = λ a id is. keeps.ids a ∙ adds.stays a id is;
  aside = λ car. keeps.aside car ∙ adds.aside car;
  next = next ∙ adds.next;
}

pub enters_kept : (v u w : SpaceView) (before later ids : List ℕ) → Enters v u before later ids → KeepsObjects u w → w.next ≡ u.next → Enters v w before later ids
enters_kept v u w before later ids enters keeps next = record { entered = enters.entered; adds = adds_kept v u w ids enters.adds keeps next }

-- all of them are a first part
pub all_a_part : (v u : SpaceView) (before later ids : List ℕ) → Enters v u before later ids → EntersPart v u before later ids
all_a_part v u before later ids enters = (length ids, subst (Enters v u before later) (sym (take_all (length ids) ids (omega arith))) enters)

-- ---- whatever is answered

module _ {A E : Type 0} (r : Result A E) where
  pub enters_if : (v w : SpaceView) (before later ids : List ℕ) → Enters v w before later ids → OnOk r (Enters v w before later ids)
  enters_if v w before later ids enters = on_ok r enters
    where
      on_ok : {P : Type 0} (r : Result A E) → P → OnOk r P
      on_ok (Ok x) it = it
      on_ok (Err e) it = tt

  pub part_if : (v w : SpaceView) (before later ids : List ℕ) → Enters v w before later ids → OnErr r (EntersPart v w before later ids)
  part_if v w before later ids enters = on_err r (all_a_part v w before later ids enters)
    where
      on_err : {P : Type 0} (r : Result A E) → P → OnErr r P
      on_err (Ok x) it = tt
      on_err (Err e) it = it

pub brings_in_if : (nursery : NurseryView) (ids : List ℕ) → AreYoung nursery ids → (v u w x : SpaceView) → {A E : Type 0} (r : Result A E) → BringsBlank v nursery.objects ids u → BringsWhole u nursery.objects ids w → OnOk r (BringsHeld w nursery.registers ids x) → OnOk r (BringsIn v nursery ids x)
brings_in_if nursery ids young v u w x (Ok a) one two three = brings_in nursery ids young v u w x one two three
brings_in_if nursery ids young v u w x (Err e) one two three = tt
