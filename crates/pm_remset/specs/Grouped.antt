-- Many sources in groups, each group a set of its own, with an index. No public clause cites this module.
use Rattle.std.specs.Prelude.{◌≡◌, ℕ, ◌==◌, ◌/◌, Bool, false, List, Option, Some, None}
use Rattle.std.specs.Ordering.{is_eq}
use Rattle.std.specs.Option.{is_some}
use Rattle.std.specs.List.{flat_map}
use Rattle.std.specs.FinMap.{entries, from_entries, get, len}
use Rattle.std.specs.BTreeMap.{BTreeMap, IsOrdered}
use Rattle.std.specs.BTreeMap as tree
use Rattle.std.specs.BTreeSet.{BTreeSet}
use Rattle.std.specs.BTreeSet as sorted
use Rattle.pm_types.specs.declared.source.RefSource.{RefSource}
use Rattle.pm_types.specs.declared.source.RefSource.TheVariants.{Root, Handle, Field}
use Rattle.pm_types.specs.contracts.source.RefSourceOrd.TheImpl.{ghosts}
use Rattle.pm_remset.specs.Indexed.{pair_cmp}
use Rattle.pm_remset.specs.Remembered.{Remembered, first_that}

-- a group has 64 numbers of roots, 64 registers of a client, or the fields of objects in 64 slots of a car. Its name is
-- the source whose numbers are these, divided by 64
abbrev pub group_name : RefSource → RefSource
group_name (Root n) = Root (n / 64)
group_name (Handle client register) = Handle client (register / 64)
group_name (Field at index) = Field (record { car = at.car; slot = at.slot / 64 }) 0

-- a source of the set names the slot
abbrev pub names : ℕ → Remembered → Bool
names slot set = is_some (first_that (λ _ at. at == slot) set)

abbrev pub names_in : ℕ → Option Remembered → Bool
names_in slot None = false
names_in slot (Some set) = names slot set

-- the source's group has no source
abbrev pub HasNoGroup : Remembered → RefSource → Type 0
HasNoGroup set source = (other : RefSource) → group_name other ≡ group_name source → get set other ≡ None

-- all groups in one
abbrev pub joined : List (RefSource × Remembered) → Remembered
joined groups = from_entries (flat_map (λ (g : RefSource × Remembered). entries g.1) groups)

-- the index has a slot and this group just where a source of the group names the slot
abbrev pub IsIndexedAt : BTreeSet (ℕ × RefSource) → RefSource → Remembered → Type 0
IsIndexedAt index group set = (slot : ℕ) → sorted.contains pair_cmp index (slot, group) ≡ names slot set

-- it has the same of each other group
abbrev pub KeepsOthers : BTreeSet (ℕ × RefSource) → BTreeSet (ℕ × RefSource) → RefSource → Type 0
KeepsOthers old new group = (slot : ℕ) (other : RefSource) → is_eq (ghosts.cmp group other) ≡ false
    → sorted.contains pair_cmp new (slot, other) ≡ sorted.contains pair_cmp old (slot, other)

-- the groups stand in order, each source in its group, the index has a slot and a group just where a source of the group names the slot, and
-- so many sources there are
pub record AreGrouped (groups : BTreeMap RefSource Remembered) (index : BTreeSet (ℕ × RefSource)) (count : ℕ) : Type 0 where
  pub ordered : IsOrdered ghosts.cmp groups
  pub in_group : (group : RefSource) (set : Remembered) → tree.get ghosts.cmp groups group ≡ Some set
      → (source : RefSource) (slot : ℕ) → get set source ≡ Some slot → group_name source ≡ group
  pub indexed : (slot : ℕ) (group : RefSource) → sorted.contains pair_cmp index (slot, group) ≡ names_in slot (tree.get ghosts.cmp groups group)
  pub counted : count ≡ len (joined groups.entries)
