-- A line is good or bad, it is bad for one cause, and it is good in one way.
use Rattle.std.proofs.Common.{◌≡◌, ◌⊎◌, inl, inr, ℕ, ◌<◌, ◌≤◌, List, [], ◌∷◌, length, Option, IfSome, refl, subst}
use Rattle.std.specs.List.{AllByRecursion}
use Rattle.pm_types.specs.Orders.{name_cmp}
use Rattle.pm_model.specs.Heap.{Object}
use Rattle.pm_script.specs.Lines.{words_of}
use Rattle.pm_dump.specs.declared.fault.DumpCause.{DumpCause}
use Rattle.pm_dump.specs.declared.fault.DumpCause.TheVariants as why
use Rattle.pm_dump.specs.Dump.{DumpLine, HeadLine, ObjectLine, RootLine, EndLine}
use Rattle.pm_dump.specs.Spelled.{IsSpelledLine}
use Rattle.pm_dump.specs.Faults.{MayStand, IsEnded, IsInOrder, next_in, names_in, IsWithinObject, IsWithin, HasOrderFault, HasLimitFault, IsLineFault, IsGoodLine}
use Rattle.pm_dump.proofs.Decided.{Decided, both_decided, each_decided, held_decided, lt_decided, le_decided, less_decided}
use Rattle.pm_dump.proofs.LineLaws.{one_line, spelled_or_not}

may_decided : (before : List DumpLine) (line : DumpLine) → Decided (MayStand before line)
may_decided [] (HeadLine next) = inl tt
may_decided (HeadLine first ∷ before) (ObjectLine id object) = inl tt
may_decided (HeadLine first ∷ before) (RootLine name id) = inl tt
may_decided (HeadLine first ∷ before) EndLine = inl tt
may_decided (ObjectLine other held ∷ before) (ObjectLine id object) = inl tt
may_decided (ObjectLine other held ∷ before) (RootLine name id) = inl tt
may_decided (ObjectLine other held ∷ before) EndLine = inl tt
may_decided (RootLine other held ∷ before) (RootLine name id) = inl tt
may_decided (RootLine other held ∷ before) EndLine = inl tt
may_decided before line = inr (λ h. h)

order_decided : (before : List DumpLine) (line : DumpLine) → Decided (IsInOrder before line)
order_decided (ObjectLine other held ∷ before) (ObjectLine id object) = lt_decided other id
order_decided (RootLine other held ∷ before) (RootLine name id) = less_decided (name_cmp other name)
order_decided before line = inl tt

object_decided : (next id : ℕ) (object : Object) → Decided (IsWithinObject next id object)
object_decided next id object =
    packed (both_decided (lt_decided id next) (both_decided (le_decided (length object.fields) 255)
    (both_decided (each_decided (λ (field : Option ℕ). IfSome field (λ to. to < next)) (held_decided (λ to. to < next) (λ to. lt_decided to next)) object.fields) (le_decided (length object.bytes) 4096))))
  where
    packed : Decided ((id < next) × ((length object.fields ≤ 255) × (AllByRecursion (λ (field : Option ℕ). IfSome field (λ to. to < next)) object.fields × (length object.bytes ≤ 4096)))) → Decided (IsWithinObject next id object)
    packed (inl all) = inl (record { is_id = all.0; few = all.1.0; held = all.1.1.0; short = all.1.1.1 })
    packed (inr never) = inr (λ is. never (is.is_id, (is.few, (is.held, is.short))))

within_decided : (before : List DumpLine) (line : DumpLine) → Decided (IsWithin before line)
within_decided before (HeadLine next) = le_decided next 4294967296
within_decided before (ObjectLine id object) = object_decided (next_in before) id object
within_decided before (RootLine name id) = both_decided (lt_decided id (next_in before)) (lt_decided (names_in before) 4096)
within_decided before EndLine = inl tt

pub ended_decided : (before : List DumpLine) → Decided (IsEnded before)
ended_decided [] = inr (λ h. h)
ended_decided (EndLine ∷ before) = inl tt
ended_decided (line ∷ before) = inr (λ h. h)

-- what is told of a line: that it is good, and as what, or why it is bad
abbrev pub Judged : List DumpLine → List ℕ → Type 0
Judged before body = ((line : DumpLine) × IsGoodLine before body line) ⊎ ((cause : DumpCause) × IsLineFault before body cause)

judged_within : (before : List DumpLine) (body : List ℕ) (line : DumpLine) → IsSpelledLine line body → MayStand before line → IsInOrder before line → Decided (IsWithin before line) → Judged before body
judged_within before body line spelled may ordered (inl within) = inl (line, record { spelled = spelled; placed = record { may = may; ordered = ordered; within = within } })
judged_within before body line spelled may ordered (inr fails) = inr (why.Limit, record { line = line; spelled = spelled; may = may; ordered = ordered; fails = fails })

judged_order : (before : List DumpLine) (body : List ℕ) (line : DumpLine) → IsSpelledLine line body → MayStand before line → Decided (IsInOrder before line) → Judged before body
judged_order before body line spelled may (inl ordered) = judged_within before body line spelled may ordered (within_decided before line)
judged_order before body line spelled may (inr fails) = inr (why.Order, record { line = line; spelled = spelled; may = may; fails = fails })

judged_place : (before : List DumpLine) (body : List ℕ) (line : DumpLine) → IsSpelledLine line body → Decided (MayStand before line) → Judged before body
judged_place before body line spelled (inl may) = judged_order before body line spelled may (order_decided before line)
judged_place before body line spelled (inr fails) = inr (why.Form, λ other is may. fails (subst (MayStand before) (one_line (words_of body) other line is spelled) may))

judged_by : (before : List DumpLine) (body : List ℕ) → ((line : DumpLine) × IsSpelledLine line body) ⊎ ((line : DumpLine) → IsSpelledLine line body → ⊥) → Judged before body
judged_by before body (inl (line, spelled)) = judged_place before body line spelled (may_decided before line)
judged_by before body (inr never) = inr (why.Form, λ line is may. never line is)

-- a line is good or bad
pub judged : (before : List DumpLine) (body : List ℕ) → Judged before body
judged before body = judged_by before body (spelled_or_not (words_of body))

-- it is good in one way
pub one_good : (before : List DumpLine) (body : List ℕ) (a b : DumpLine) → IsGoodLine before body a → IsGoodLine before body b → a ≡ b
one_good before body a b is_a is_b = one_line (words_of body) a b is_a.spelled is_b.spelled

-- and not both
pub not_good : (cause : DumpCause) (before : List DumpLine) (body : List ℕ) (line : DumpLine) → IsLineFault before body cause → IsGoodLine before body line → ⊥
not_good why.Form before body line bad good = bad line good.spelled good.placed.may
not_good why.Order before body line bad good = bad.fails (subst (IsInOrder before) (one_line (words_of body) line bad.line good.spelled bad.spelled) good.placed.ordered)
not_good why.Limit before body line bad good = bad.fails (subst (IsWithin before) (one_line (words_of body) line bad.line good.spelled bad.spelled) good.placed.within)
not_good why.Dangling before body line bad good = bad

order_not_limit : (before : List DumpLine) (body : List ℕ) → HasOrderFault before body → HasLimitFault before body → ⊥
order_not_limit before body a b = a.fails (subst (IsInOrder before) (one_line (words_of body) b.line a.line b.spelled a.spelled) b.ordered)

-- it is bad for one cause
pub one_cause : (c d : DumpCause) (before : List DumpLine) (body : List ℕ) → IsLineFault before body c → IsLineFault before body d → c ≡ d
one_cause why.Form why.Form before body a b = refl
one_cause why.Form why.Order before body a b = absurd (a b.line b.spelled b.may)
one_cause why.Form why.Limit before body a b = absurd (a b.line b.spelled b.may)
one_cause why.Order why.Form before body a b = absurd (b a.line a.spelled a.may)
one_cause why.Order why.Order before body a b = refl
one_cause why.Order why.Limit before body a b = absurd (order_not_limit before body a b)
one_cause why.Limit why.Form before body a b = absurd (b a.line a.spelled a.may)
one_cause why.Limit why.Order before body a b = absurd (order_not_limit before body b a)
one_cause why.Limit why.Limit before body a b = refl
one_cause why.Dangling d before body a b = absurd a
one_cause c why.Dangling before body a b = absurd b
