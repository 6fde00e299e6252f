-- A fault of one step is one of all.
use Rattle.std.proofs.Common.{◌≡◌, Result, Ok, Err, ap}
use Rattle.pm_types.specs.declared.fault.OpenFault.{OpenFault}
use Rattle.pm_types.specs.declared.fault.OpenFault.TheVariants.{Damaged, Malformed as MalformedAt}
use Rattle.pm_types.specs.Results.{◌>>=◌}
use Rattle.pm_types.proofs.Results.{bound}
use Rattle.pm_graphs.specs.declared.fault.ReadFault.{ReadFault}
use Rattle.pm_graphs.specs.declared.fault.ReadFault.TheVariants.{Damaged as DamagedPage, Malformed as MalformedPage, Failed, Memory}
use Rattle.pm_graphs.specs.Reading.{Fails}

-- what fails so too
pub fails_too : {A B : Type 0} (fault : ReadFault) (a : Result A OpenFault) (b : Result B OpenFault) → ((e : OpenFault) → a ≡ Err e → b ≡ Err e) → Fails {X = A} fault a → Fails {X = B} fault b
fails_too (DamagedPage page kept found) a b on is = on (Damaged page kept found) is
fails_too (MalformedPage page at) a b on is = on (MalformedAt page at) is
fails_too Failed a b on is = tt
fails_too (Memory _) a b on is = tt

-- what fails first fails
pub first_fails : {A B : Type 0} (fault : ReadFault) (m : Result A OpenFault) (f : A → Result B OpenFault) → Fails {X = A} fault m → Fails {X = B} fault (m >>= f)
first_fails {A} {B} fault m f is = fails_too {A = A} {B = B} fault m (m >>= f) (λ e failed. ap (λ m. m >>= f) failed) is

-- and what fails then
pub then_fails : {A B : Type 0} (fault : ReadFault) (m : Result A OpenFault) (x : A) (f : A → Result B OpenFault) → m ≡ Ok x → Fails {X = B} fault (f x) → Fails {X = B} fault (m >>= f)
then_fails {A} {B} fault m x f is fails = fails_too {A = B} {B = B} fault (f x) (m >>= f) (λ e failed. bound m f x (Err e) is failed) fails
