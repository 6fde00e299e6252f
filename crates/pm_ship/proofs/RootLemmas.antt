-- Roots that are compared.
use Rattle.std.proofs.Common.{◌≡◌, ℕ, List, ap, ◌&&◌}
use Rattle.std.specs.Bool.{Decides}
use Rattle.std.specs.Cmp.Lexicographic.{bytes_decides}
use Rattle.std.proofs.lemmas.Bool.Decides.{Decides-and, Decides-eqb, Decides-like}
use Rattle.pm_types.specs.declared.address.Addr.{Addr}
use Rattle.pm_types.specs.contracts.address.AddrPartialEq as address
use Rattle.pm_types.specs.contracts.name.NamePartialEq as name

same_address : (a b : Addr) → Decides ((address.TheImpl.ghosts).eq a b) (a ≡ b)
same_address a b =
    Decides-like ((address.TheImpl.ghosts).eq a b) (λ both. λ i. record { car = both.0 i; slot = both.1 i }) (λ same. (ap (λ (at : Addr). at.car) same, ap (λ (at : Addr). at.slot) same))
    (Decides-and _ _ (Decides-eqb a.car b.car) (Decides-eqb a.slot b.slot))

-- two roots are the same where their names and addresses are
pub same_root : (x y : List ℕ × Addr) → Decides ((name.TheImpl.ghosts).eq x.0 y.0 && (address.TheImpl.ghosts).eq x.1 y.1) (x ≡ y)
same_root x y =
    Decides-like ((name.TheImpl.ghosts).eq x.0 y.0 && (address.TheImpl.ghosts).eq x.1 y.1) (λ both. λ i. (both.0 i, both.1 i)) (λ same. (ap (λ (root : List ℕ × Addr). root.0) same, ap (λ (root : List ℕ × Addr). root.1) same))
    (Decides-and _ _ (bytes_decides x.0 y.0) (same_address x.1 y.1))
