-- Journals that grow, and the copies that settle along them.
use Rattle.std.proofs.Common.{◌≡◌, ◌≤◌, ◌<◌, ℕ, ◌+◌, Bool, true, false, List, [], ◌∷◌, ◌++◌, Some, None, refl, ap, sym, subst, ◌∙◌, if◌then◌else◌, arith, append-nil}
use Rattle.std.specs.List.{last_or}
use Rattle.std.specs.Option.{IfSome, IsSomeAnd}
use Rattle.pm_types.specs.declared.limits.TheConstants.{LAST_COPY}
use Rattle.std.proofs.lemmas.Bool.{lt-ltb}
use Rattle.pm_types.specs.declared.command.Cmd.{Cmd}
use Rattle.pm_types.specs.declared.command.Cmd.TheVariants.{Save, Unsave}
use Rattle.pm_types.specs.declared.reply.Reply.{Reply}
use Rattle.pm_types.specs.declared.reply.Reply.TheVariants.{Saved, Begun, SavesSpent, Dropped}
use Rattle.pm_types.specs.declared.entry.Entry.{Entry}
use Rattle.pm_model.specs.World.{World, Copy, Saving, beginning, IsNumbered}
use Rattle.pm_model.specs.Copying.{copy}
use Rattle.pm_model.specs.Answer.{answer, refused, answer_save, answer_unsave}
use Rattle.pm_model.specs.Journal.{IsLegal, after, chain, settled_in, settled_along, says_saved}
use Rattle.pm_model.proofs.Effects.{Effect, Nothing, Makes, Holds, Sets, Puts, Names, Closes, Begins, Settles, Drops, Watches, effected, IsOf, does}

-- what an answer does to the copies: nothing, or what was in progress has settled
abbrev Settled : World → Reply → World → Type 0
Settled world reply next =
    (says_saved reply ≡ true → (world.saving ≡ Some (settled_in next)) × (reply ≡ Saved next.settled) × (next.saving ≡ None)) × (says_saved reply ≡ false → settled_in next ≡ settled_in world)

nothing_settled : (world : World) (client : ℕ) (reply : Reply) (effect : Effect) → says_saved reply ≡ false → settled_in (effected world client effect) ≡ settled_in world → Settled world reply (effected world client effect)
nothing_settled world client reply effect other same = (λ is. cc, λ is. same)

settled : (world : World) (client : ℕ) (cmd : Cmd) (reply : Reply) (effect : Effect) → IsOf world client cmd reply effect → Settled world reply (effected world client effect)
settled world client cmd reply Nothing of = nothing_settled world client reply Nothing of refl
settled world client cmd reply (Makes reg object) of = nothing_settled world client reply (Makes reg object) of.fine.unsaved refl
settled world client cmd reply (Holds reg None) of = nothing_settled world client reply (Holds reg None) of.fine.unsaved refl
settled world client cmd reply (Holds reg (Some to)) of = nothing_settled world client reply (Holds reg (Some to)) of.fine.unsaved refl
settled world client cmd reply (Sets id object index value) of = nothing_settled world client reply (Sets id object index value) of.fine.unsaved refl
settled world client cmd reply (Puts id object at bytes) of = nothing_settled world client reply (Puts id object at bytes) of.fine.unsaved refl
settled world client cmd reply (Names name None) of = nothing_settled world client reply (Names name None) of.fine.unsaved refl
settled world client cmd reply (Names name (Some to)) of = nothing_settled world client reply (Names name (Some to)) of.fine.unsaved refl
settled world client cmd reply Closes of = nothing_settled world client reply Closes of.0.unsaved refl
settled world client cmd reply (Begins number) of = nothing_settled world client reply (Begins number) of.fine.unsaved refl
settled world client cmd reply (Settles number copy) of = (λ is. (of.was, of.said, refl), λ other. let said = ap says_saved of.said in cc)
settled world client cmd reply Drops of = nothing_settled world client reply Drops of.0.unsaved refl
settled world client cmd reply Watches of = nothing_settled world client reply Watches of.fine.unsaved refl

settles : (world : World) (client : ℕ) (cmd : Cmd) → Settled world (answer world client cmd).0 (answer world client cmd).1
settles world client cmd = let d = does world client cmd in subst (λ (next : World). Settled world (answer world client cmd).0 next) (sym d.is) (settled world client cmd _ d.effect d.allowed)

number_of : Reply → ℕ → ℕ
number_of (Saved number) other = number
number_of reply other = other

-- a reply that says so settles the copy in progress
pub saved : (world : World) (client number : ℕ) (cmd : Cmd) → (answer world client cmd).0 ≡ Saved number
    → (world.saving ≡ Some (settled_in (answer world client cmd).1)) × ((answer world client cmd).1.settled ≡ number) × ((answer world client cmd).1.saving ≡ None)
unfolding number_of
saved world client number cmd is =
    let all = (settles world client cmd).0 (ap says_saved is) in
    (all.0, ap (λ reply. number_of reply 0) (sym all.1 ∙ is), all.2)

-- after any other reply the copy that settled last is the same
pub same_settled : (world : World) (client : ℕ) (cmd : Cmd) → says_saved (answer world client cmd).0 ≡ false → settled_in (answer world client cmd).1 ≡ settled_in world
same_settled world client cmd other = (settles world client cmd).1 other

pub after_more : (world : World) (journal : List Entry) (entry : Entry) → after world (journal ++ entry ∷ []) ≡ (answer (after world journal) entry.client entry.cmd).1
after_more world [] entry = refl
after_more world (first ∷ journal) entry = after_more (answer world first.client first.cmd).1 journal entry

pub legal_more : (world : World) (journal : List Entry) (entry : Entry) → IsLegal world journal → entry.reply ≡ (answer (after world journal) entry.client entry.cmd).0 → IsLegal world (journal ++ entry ∷ [])
legal_more world [] entry legal is = (is, tt)
legal_more world (first ∷ journal) entry legal is = (legal.0, legal_more (answer world first.client first.cmd).1 journal entry legal.1 is)

pub legal_front : (world : World) (journal : List Entry) (entry : Entry) → IsLegal world (journal ++ entry ∷ []) → IsLegal world journal × (entry.reply ≡ (answer (after world journal) entry.client entry.cmd).0)
legal_front world [] entry legal = (tt, legal.0)
legal_front world (first ∷ journal) entry legal = let rest = legal_front (answer world first.client first.cmd).1 journal entry legal.1 in ((legal.0, rest.0), rest.1)

joined : {X : Type 0} (xs ys zs ws : List X) → zs ≡ ys ++ ws → xs ++ zs ≡ (xs ++ ys) ++ ws
joined [] ys zs ws is = is
joined (x ∷ xs) ys zs ws is = ap (λ rest. x ∷ rest) (joined xs ys zs ws is)

ends : {X : Type 0} (b : Bool) (x : X) → (if b then x ∷ [] else []) ++ [] ≡ (if b then x ∷ [] else [])
ends true x = refl
ends false x = refl

along_more : (world : World) (journal : List Entry) (entry : Entry)
    → settled_along world (journal ++ entry ∷ []) ≡ settled_along world journal ++ (if says_saved entry.reply then settled_in (after world (journal ++ entry ∷ [])) ∷ [] else [])
along_more world [] entry = ends (says_saved entry.reply) (settled_in (answer world entry.client entry.cmd).1)
along_more world (first ∷ journal) entry =
    let next = (answer world first.client first.cmd).1 in
    joined (if says_saved first.reply then settled_in next ∷ [] else []) (settled_along next journal) _ _ (along_more next journal entry)

pub chain_more : (world : World) (journal : List Entry) (entry : Entry)
    → chain world (journal ++ entry ∷ []) ≡ chain world journal ++ (if says_saved entry.reply then settled_in (after world (journal ++ entry ∷ [])) ∷ [] else [])
chain_more world journal entry = ap (λ rest. settled_in world ∷ rest) (along_more world journal entry)

last_step : {X : Type 0} (b : Bool) (old new : X) (rest : List X) → (b ≡ false → new ≡ old) → last_or (Some old) ((if b then new ∷ [] else []) ++ rest) ≡ last_or (Some new) rest
last_step true old new rest is = refl
last_step false old new rest is = ap (λ x. last_or (Some x) rest) (sym (is refl))

-- an entry that settles nothing adds nothing to the chain
pub chain_same : (world : World) (journal : List Entry) (entry : Entry) → says_saved entry.reply ≡ false → chain world (journal ++ entry ∷ []) ≡ chain world journal
chain_same world journal entry is =
    chain_more world journal entry ∙ ap (λ b. chain world journal ++ (if b then settled_in (after world (journal ++ entry ∷ [])) ∷ [] else [])) is ∙ append-nil (chain world journal)

-- the chain of a legal journal ends with what has settled
pub chain_ends : (world : World) (journal : List Entry) → IsLegal world journal → last_or None (chain world journal) ≡ Some (settled_in (after world journal))
chain_ends world [] legal = refl
chain_ends world (entry ∷ journal) legal =
    let next = (answer world entry.client entry.cmd).1 in
    last_step (says_saved entry.reply) (settled_in world) (settled_in next) (settled_along next journal)
    (λ other. same_settled world entry.client entry.cmd (ap says_saved (sym legal.0) ∙ other))
    ∙ chain_ends next journal legal.1

-- what keeps the numbers, whatever it does besides
effect_numbered : (world : World) (client : ℕ) (cmd : Cmd) (reply : Reply) (effect : Effect) → IsOf world client cmd reply effect → IsNumbered world → IsNumbered (effected world client effect)
effect_numbered world client cmd reply Nothing of is = is
effect_numbered world client cmd reply (Makes reg object) of is = is
effect_numbered world client cmd reply (Holds reg None) of is = is
effect_numbered world client cmd reply (Holds reg (Some to)) of is = is
effect_numbered world client cmd reply (Sets id object index value) of is = is
effect_numbered world client cmd reply (Puts id object at bytes) of is = is
effect_numbered world client cmd reply (Names name None) of is = is
effect_numbered world client cmd reply (Names name (Some to)) of is = is
effect_numbered world client cmd reply Closes of is = is
effect_numbered world client cmd reply (Begins number) of is = (is.0, (of.next, (let below = of.below in let next = of.next in omega arith)))
effect_numbered world client cmd reply (Settles number copy) of is =
    let begun : (number ≡ world.settled + 1) × (number ≤ LAST_COPY) = subst (λ saving. IfSome saving (λ (begun : ℕ × Copy). (begun.0 ≡ world.settled + 1) × (begun.0 ≤ LAST_COPY))) of.was is.1 in
    (begun.1, tt)
effect_numbered world client cmd reply Drops of is = (is.0, tt)
effect_numbered world client cmd reply Watches of is = is

numbered : (world : World) (client : ℕ) (cmd : Cmd) → IsNumbered world → IsNumbered (answer world client cmd).1
numbered world client cmd is = let d = does world client cmd in subst IsNumbered (sym d.is) (effect_numbered world client cmd _ d.effect d.allowed is)

pub numbered_after : (world : World) (journal : List Entry) → IsNumbered world → IsNumbered (after world journal)
numbered_after world [] is = is
numbered_after world (entry ∷ journal) is = numbered_after (answer world entry.client entry.cmd).1 journal (numbered world entry.client entry.cmd is)

-- ---- copies that are dropped

dropped_number : Reply → ℕ → ℕ
dropped_number (Dropped number) other = number
dropped_number reply other = other

dropped_was : (world : World) (saving : Saving) (number : ℕ) → (answer_unsave world saving).0 ≡ Dropped number
    → IsSomeAnd saving (λ begun. begun.0 ≡ number) × ((answer_unsave world saving).1.saving ≡ None) × (settled_in (answer_unsave world saving).1 ≡ settled_in world)
unfolding dropped_number
dropped_was world None number is = cc
dropped_was world (Some begun) number is = (ap (λ (reply : Reply). dropped_number reply 0) is, refl, refl)

-- what is dropped was in progress, and is none from then on
pub dropped : (world : World) (client number : ℕ) → (answer world client Unsave).0 ≡ Dropped number
    → IsSomeAnd world.saving (λ begun. begun.0 ≡ number) × ((answer world client Unsave).1.saving ≡ None) × (settled_in (answer world client Unsave).1 ≡ settled_in world)
unfolding answer
dropped world client number is = dropped_was world world.saving number is

save_less : (world : World) → world.settled < LAST_COPY → (answer_save world None).0 ≡ Begun (world.settled + 1)
save_less world less = ap (λ more. (if more then (Begun (world.settled + 1), beginning world (world.settled + 1) (copy world)) else refused world SavesSpent).0) (lt-ltb world.settled LAST_COPY less)

numbered_as : (saving : Saving) (settled number : ℕ) → IfSome saving (λ begun. (begun.0 ≡ settled + 1) × (begun.0 ≤ LAST_COPY)) → IsSomeAnd saving (λ begun. begun.0 ≡ number) → (number ≡ settled + 1) × (settled < LAST_COPY)
numbered_as None settled number is same = absurd same
numbered_as (Some begun) settled number is same = let one = is.0 in let two = is.1 in (omega arith, omega arith)

save_none : (world : World) (other : ℕ) → world.saving ≡ None → (answer world other Save).0 ≡ (answer_save world None).0
unfolding answer
save_none world other is = ap (λ saving. (answer_save world saving).0) is

-- the number of a copy that was dropped begins again
pub dropped_again : (world : World) (client other number : ℕ) → IsNumbered world → (answer world client Unsave).0 ≡ Dropped number → (answer (answer world client Unsave).1 other Save).0 ≡ Begun number
dropped_again world client other number numbered is =
    let was = dropped world client number is in
    let next = (answer world client Unsave).1 in
    let counts = numbered_as world.saving world.settled number numbered.1 was.0 in
    let settled : next.settled ≡ world.settled = ap (λ (s : ℕ × Copy). s.0) was.2 in
    let less : next.settled < LAST_COPY = let small = counts.1 in omega (arith, settled) in
    save_none next other was.1 ∙ save_less next less ∙ ap Begun (let one = counts.0 in omega (arith, settled))
