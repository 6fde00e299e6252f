-- What a run of lines writes.
use Rattle.std.specs.Prelude.{◌≡◌, ℕ, List, [], ◌++◌, Option}
use Rattle.pm_types.specs.Counts.{Rose}
use Rattle.pm_model.specs.Text.{tail}
use Rattle.pm_serial.specs.Output.Writing.{FinishesAll, PutsAll, PutsPart}
use Rattle.pm_engine.specs.Shown.{Total}
use Rattle.pm_serial.specs.declared.behind.Behind.{Behind}
use Rattle.pm_serial.specs.declared.behind.Behind.TheVariants.{Nothing, LastLines}
use Rattle.pm_engine.specs.declared.events.stop.Stop.{Stop}
use Rattle.pm_serial.specs.Causes.{CountsSink, IsElsewhere}
use Rattle.pm_engine.specs.Events.Causes.{IsDone}

-- the end line and the watch lines of what an engine came to
abbrev pub tail_of : Total → List ℕ
tail_of total = tail total.steps total.completed total.standing total.lines

-- the text behind the last reply
abbrev pub text_behind : Behind → Total → List ℕ
text_behind Nothing total = []
text_behind LastLines total = tail_of total

-- What a run put into the sink of the text of its journal and of the lines behind it, by why it stopped, if it did. Of a
-- sink that does not tell what was put nothing is said but its count.
pub record WroteRun {K : Type 0} (written : K → Option (List ℕ)) (finished count : K → ℕ) (old new : K) (text tail : List ℕ) (stop : Option Stop) : Type 0 where
  -- however it ends, a first part of the text and of the lines behind it
  pub part : PutsPart (written old) (written new) (text ++ tail)
  -- where it is done, all of that, and all of it is finished
  pub all : IsDone stop → PutsAll (written old) (written new) (text ++ tail)
  pub all_finished : IsDone stop → FinishesAll (written old) (finished new) (text ++ tail)
  -- where memory ran out or the disk failed, a first part of the text alone, and the whole text where the sink did not fail
  pub part_of_text : IsElsewhere stop → PutsPart (written old) (written new) text
  pub whole : IsElsewhere stop → ¬ (Rose (count old) (count new)) → PutsAll (written old) (written new) text
  -- which then is finished, unless it is empty
  pub whole_finished : IsElsewhere stop → ¬ (Rose (count old) (count new)) → (text ≡ [] → ⊥) → FinishesAll (written old) (finished new) text
  -- the count of failed calls rose where the run stopped for the sink
  pub cause : CountsSink stop (count old) (count new)
