-- How the members of a list go into parts, each of which has the room of a page: each part is filled before the next is
-- begun. What a part takes is a head and a size for each member.
use Rattle.std.specs.Prelude.{◌≡◌, ℕ, ◌+◌, ◌<◌, ◌≤◌, nat_le, List, [], ◌∷◌, length, if◌then◌else◌}
use Rattle.std.specs.List.{flat_map, AllByRecursion}
use Rattle.pm_types.specs.declared.limits.TheConstants.{PAGE_BYTES}
use Rattle.pm_copies.specs.Apart.{Neighbours}

-- the members of parts, one after the other
abbrev pub joined_parts : {A : Type 0} → List (List A) → List A
joined_parts {A} parts = flat_map (λ (part : List A). part) parts

-- a member before those of the first part
abbrev pub onto_first_part : {A : Type 0} → A → List (List A) → List (List A)
onto_first_part member [] = (member ∷ []) ∷ []
onto_first_part member (part ∷ parts) = (member ∷ part) ∷ parts

-- what a part takes is a head, for which it has room, and the sizes of its members
pub record TakesSizes {A : Type 0} (used : List A → ℕ) (size : A → ℕ) (head : ℕ) : Type 0 where
  pub none : used [] ≡ head
  pub more : (member : A) (part : List A) → used (member ∷ part) ≡ size member + used part
  pub room : head ≤ PAGE_BYTES

-- the members have room in one part
abbrev pub HasRoom : {A : Type 0} → (List A → ℕ) → List A → Type 0
HasRoom used part = used part ≤ PAGE_BYTES

-- a member has room in a part alone
abbrev pub HasRoomAlone : {A : Type 0} → (List A → ℕ) → A → Type 0
HasRoomAlone used member = HasRoom used (member ∷ [])

module _ {A : Type 0} (used : List A → ℕ) (size : A → ℕ) where
  -- a part is filled before the next: that one begins with a member for which this one has no room
  abbrev pub IsFilledBefore : List A → List A → Type 0
  IsFilledBefore part [] = ⊥
  IsFilledBefore part (member ∷ members) = PAGE_BYTES < used part + size member

  -- The members are filled into these parts: each of them stands once, in order; each part has room for its members, and
  -- is filled before the next; and there is a part, also where there is no member.
  pub record IsFilledInto (members : List A) (parts : List (List A)) : Type 0 where
    pub whole : joined_parts parts ≡ members
    pub fit : AllByRecursion (HasRoom used) parts
    pub filled : Neighbours IsFilledBefore parts
    pub some : 0 < length parts

module _ {A : Type 0} (size : A → ℕ) (head : ℕ) where
  -- Members, put into parts from left to right: the next one goes into the part of which so many bytes are used, where
  -- it has room there, and else into a new one.
  abbrev pub filled_from : ℕ → List A → List (List A)
  filled_from used [] = [] ∷ []
  filled_from used (member ∷ members) =
      if nat_le (used + size member) PAGE_BYTES then onto_first_part member (filled_from (used + size member) members)
      else [] ∷ onto_first_part member (filled_from (size member + head) members)

  -- members, put into parts
  abbrev pub filled_parts : List A → List (List A)
  filled_parts members = filled_from head members
