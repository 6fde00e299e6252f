use Rattle.std.proofs.Common.{◌≡◌, ℕ, ◌≤◌, ◌==◌, ◌||◌, Bool, true, false, List, [], ◌∷◌, IsTrue, refl, sym, ap, subst, ◌∙◌}
use Rattle.std.specs.List.{AllByRecursion}
use Rattle.std.proofs.lemmas.Bool.{eqb-true}
use Rattle.std.specs.Coded.{Coded-set, coded_ℕ}
use Rattle.std.proofs.Math.Logic.{∥∥₁_map}
use Rattle.std.proofs.Props.{props}
use Rattle.pm_trains.specs.Trains.{is_among}
use Rattle.pm_model.specs.Reachability.{IsReachable}
use Rattle.pm_view.specs.Represents.{IsHeld}
use Rattle.pm_saving.specs.Serving.{world}
use Rattle.pm_law_course.proofs.Counting.{few_stand}
use Rattle.pm_engine.specs.Works.Working.{view_in}
use Rattle.pm_law_saving.proofs.ServingLemmas.Splitting.{splits_once}
use Rattle.pm_engine.specs.Shown.{serving}
use Rattle.pm_engine.proofs.engine.Engine.keep_their_images.Goals as goal
use Rattle.pm_engine.proofs.Standing.{safe, served_of}
use Rattle.pm_engine.proofs.WorksLemmas.Asking.{settled_now, splits_closed, splits_legal}
use Rattle.pm_engine.proofs.Past.{few_told, gone_told, positions_told}

pub returns-clause-served : goal.returns-clause-served
returns-clause-served g c = ∥∥₁_map c.args.self.now.sound (λ sound. served_of sound)

pub returns-clause-closed : goal.returns-clause-closed
returns-clause-closed g c = splits_closed (serving c.args.self.now) (∥∥₁_map c.args.self.now.sound (λ sound. sound.safe.journal.closed))

pub returns-clause-legal : goal.returns-clause-legal
returns-clause-legal g c = splits_legal _ _ (∥∥₁_map c.args.self.now.sound (λ sound. sound.safe.journal.legal))

pub returns-clause-images : goal.returns-clause-images
returns-clause-images g c = ∥∥₁_map c.args.self.now.sound (λ sound. sound.safe.images)

pub returns-clause-watching : goal.returns-clause-watching
returns-clause-watching g c = splits_once (Coded-set coded_ℕ _ _) (∥∥₁_map c.args.self.now.sound (λ sound. sound.safe.journal.watching))

pub returns-clause-told : goal.returns-clause-told
returns-clause-told g c = splits_once (Coded-set coded_ℕ _ _) (∥∥₁_map c.args.self.now.sound (λ sound. sound.safe.journal.told))

pub returns-clause-settled : goal.returns-clause-settled
returns-clause-settled g c = λ none. settled_now c.args.self.now.opening c.args.self.now.stopped c.args.self.now.works none (safe c.args.self.now.sound)

at_most_once : (a b : ℕ) → IsProp (a ≤ b)
at_most_once a b = hlevel props

-- what holds of all of a list holds of each that is among it
of_each : (P : ℕ → Type 0) (ids : List ℕ) (id : ℕ) → AllByRecursion P ids → IsTrue (is_among id ids) → P id
of_each P [] id all among = absurd (cc among)
of_each P (first ∷ ids) id all among = by (first == id) refl (λ (others : IsTrue (is_among id ids)). of_each P ids id all.1 others)
  where
    by : (b : Bool) → (first == id) ≡ b → (IsTrue (is_among id ids) → P id) → P id
    by true is rest = subst P (eqb-true first id is) all.0
    by false is rest = rest (sym (ap (λ (b : Bool). b || is_among id ids) is) ∙ among)

pub returns-clause-standing : goal.returns-clause-standing
returns-clause-standing g c = λ ids distinct reached.
    let it = c.args.self.now in
    let w = world (serving it) in
    splits_once (at_most_once _ _) (∥∥₁_map it.sound (λ sound. few_stand (view_in it.works) ids it.works.space.kept distinct (λ id among.
    sound.represents.reached id (of_each (IsReachable w.heap (IsHeld w)) ids id reached among))))

pub returns-clause-bounds : goal.returns-clause-bounds
returns-clause-bounds g c = c.args.self.now.bounded

pub returns-clause-law : goal.returns-clause-law
returns-clause-law g c = c.args.self.now.works.space.kept

pub returns-clause-history : goal.returns-clause-history
returns-clause-history g c = c.args.self.now.past

pub returns-clause-store : goal.returns-clause-store
returns-clause-store g c = c.args.self.now.opening.store

pub returns-clause-positions : goal.returns-clause-positions
returns-clause-positions g c = positions_told (serving c.args.self.now) c.args.self.now.past

pub returns-clause-few : goal.returns-clause-few
returns-clause-few g c = few_told (serving c.args.self.now) c.args.self.now.past

pub returns-clause-gone : goal.returns-clause-gone
returns-clause-gone g c = gone_told c.args.self.now.opening c.args.self.now.stopped c.args.self.now.works c.args.self.now.past c.args.self.now.bounded

pub returns-clause-counted : goal.returns-clause-counted
returns-clause-counted g c = c.args.self.now.counted
