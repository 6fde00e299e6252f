-- What is young after a command is what its nursery has then.
use Rattle.std.proofs.Common.{◌≡◌, ℕ, Bool, true, false, cond, not, ◌&&◌, ◌||◌, if◌then◌else◌, nat_eq, List, [], Option, Some, None, refl, ap, ◌∙◌, is_some, arith}
use Rattle.std.specs.Ordering.{nat_cmp, eq_by_cmp}
use Rattle.std.specs.Cmp.{nat_cmp_total}
use Rattle.std.specs.FinMap.{get, insert, empty, get-empty, get-insert}
use Rattle.std.proofs.lemmas.Bool.Decides.{nat_tests}
use Rattle.pm_types.specs.declared.command.Cmd.{Cmd}
use Rattle.pm_model.specs.Heap.{Object, Heap}
use Rattle.pm_model.specs.World.{World}
use Rattle.pm_model.specs.Answer.{answer, is_refusal}
use Rattle.pm_model.specs.Frames.{makes_object}
use Rattle.pm_nursery.specs.Young.{NurseryView}
use Rattle.pm_nursery.specs.Sweeping.{among, GoesOut}
use Rattle.pm_nursery.specs.Escaping.{bears, is_full, young_then}

tied_id : (q k : ℕ) → eq_by_cmp nat_cmp q k ≡ nat_eq q k
tied_id q k = grind (arith, nat_tests)

-- g tells whether an identity was young, a whether it escapes, n whether it is the next one, b whether an object is made, and f whether the nursery is full
no_birth : (m r f a n : Bool) (o : Option Object) → m ≡ false → is_some (if a then None else o) ≡ ((not ((m && r) && f) && (is_some o && not a)) || ((m && r) && n))
no_birth true r f a n o is = cc is
no_birth false r f true n None is = refl
no_birth false r f true n (Some x) is = refl
no_birth false r f false n None is = refl
no_birth false r f false n (Some x) is = refl

birth : (b f n : Bool) (o : Option Object) (object : Object) → b ≡ true → f ≡ false → is_some (cond n (Some object) o) ≡ ((not (b && f) && (is_some o && not false)) || (b && n))
birth false f n o object is not_full = cc is
birth true true n o object is not_full = cc not_full
birth true false true None object is not_full = refl
birth true false true (Some x) object is not_full = refl
birth true false false None object is not_full = refl
birth true false false (Some x) object is not_full = refl

swept : (b f g a n : Bool) (object : Object) → b ≡ true → f ≡ true → is_some (cond n (Some object) None) ≡ ((not (b && f) && (g && not a)) || (b && n))
swept false f g a n object is full = cc is
swept true false g a n object is full = cc full
swept true true g a true object is full = refl
swept true true g a false object is full = refl

abbrev nothing : Heap
nothing = empty

module _ (world : World) (nursery : NurseryView) (client : ℕ) (cmd : Cmd) (id : ℕ) where
  pub young_on : (after : NurseryView) (ids : List ℕ) → makes_object cmd ≡ false → GoesOut nursery ids after → is_some (get after.objects id) ≡ young_then world nursery client cmd ids id
  young_on after ids none goes =
      ap is_some (goes.objects id)
      ∙ no_birth (makes_object cmd) (not (is_refusal cmd (answer world client cmd).0)) (is_full nursery) (among ids id) (nat_eq id world.next) (get nursery.objects id) none

  pub young_born : (object : Object) → bears world client cmd ≡ true → is_full nursery ≡ false → is_some (get (insert nursery.objects world.next object) id) ≡ young_then world nursery client cmd [] id
  young_born object makes room =
      ap is_some (get-insert nat_cmp_total nursery.objects world.next object id ∙ ap (λ b. cond b (Some object) (get nursery.objects id)) (tied_id id world.next))
      ∙ birth (bears world client cmd) (is_full nursery) (nat_eq id world.next) (get nursery.objects id) object makes room

  pub young_alone_born : (object : Object) (ids : List ℕ) → bears world client cmd ≡ true → is_full nursery ≡ true → is_some (get (insert nothing world.next object) id) ≡ young_then world nursery client cmd ids id
  young_alone_born object ids makes full =
      ap is_some (get-insert nat_cmp_total nothing world.next object id ∙ ap (λ b. cond b (Some object) (get nothing id)) (tied_id id world.next) ∙ ap (cond (nat_eq id world.next) (Some object)) (get-empty nat_cmp id))
      ∙ swept (bears world client cmd) (is_full nursery) (is_some (get nursery.objects id)) (among ids id) (nat_eq id world.next) object makes full
