-- Steps one after another: those that end well, those that end in a fault, and the tests in them.
use Rattle.std.proofs.Common.{◌≡◌, ◌⊎◌, inl, inr, Bool, true, false, Result, Ok, Err, refl, ap, ◌∙◌, if◌then◌else◌}
use Rattle.pm_types.specs.Results.{◌>>=◌}

-- two results that are Ok and equal hold equal values
pub ok_same : {A E : Type 0} (x y : A) → ◌≡◌ {A = Result A E} (Ok x) (Ok y) → x ≡ y
ok_same x y e = cc

-- the value of a step that did not fail, and what came after it
pub bind_ok : {A B E : Type 0} (m : Result A E) (f : A → Result B E) (y : B) → (m >>= f) ≡ Ok y → (x : A) × (m ≡ Ok x) × (f x ≡ Ok y)
bind_ok (Ok x) f y e = (x, refl, e)
bind_ok (Err d) f y e = absurd cc

-- two results that are the same fault hold one fault
pub err_same : {A E : Type 0} (d e : E) → ◌≡◌ {A = Result A E} (Err d) (Err e) → d ≡ e
err_same d e is = cc

-- where two steps end in a fault, the first does, or it ends well and the second does
pub either_fails : {A B E : Type 0} (m : Result A E) (f : A → Result B E) (e : E) → (m >>= f) ≡ Err e → (m ≡ Err e) ⊎ ((x : A) × (m ≡ Ok x) × (f x ≡ Err e))
either_fails (Ok x) f e is = inr (x, refl, is)
either_fails {A} {B} {E} (Err d) f e is = inl (ap (λ (e : E). Err e) (err_same {A = B} d e is))

-- two second steps that are alike make both alike
pub same_after : {A B E : Type 0} (m : Result A E) (f g : A → Result B E) → ((x : A) → f x ≡ g x) → (m >>= f) ≡ (m >>= g)
same_after (Ok x) f g same = same x
same_after (Err e) f g same = refl

-- where the first step ends well, both are the second
pub bound : {A B E : Type 0} (m : Result A E) (f : A → Result B E) (x : A) (r : Result B E) → m ≡ Ok x → f x ≡ r → (m >>= f) ≡ r
bound m f x r is next = ap (λ m. m >>= f) is ∙ next

-- a test that must not hold did not
pub if_ok : {A E : Type 0} (b : Bool) (e : E) (x : Result A E) (r : A) → (if b then Err e else x) ≡ Ok r → (b ≡ false) × (x ≡ Ok r)
if_ok true e x r is = absurd cc
if_ok false e x r is = (refl, is)

-- a test that must hold did
pub wanted_ok : {X E : Type 0} (b : Bool) (d : E) (x : Result X E) (y : X) → (if b then x else Err d) ≡ Ok y → (b ≡ true) × (x ≡ Ok y)
wanted_ok true d x y e = (refl, e)
wanted_ok false d x y e = absurd cc

-- a test that does not hold takes the second
pub if_not : {A E : Type 0} (b : Bool) (e : E) (x r : Result A E) → b ≡ false → x ≡ r → (if b then Err e else x) ≡ r
if_not b e x r isnt is = ap (λ b. if b then Err e else x) isnt ∙ is
