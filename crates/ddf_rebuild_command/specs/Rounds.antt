-- The rounds of a rebuild: rows of a position are filled, and then a step of the group is written that tells of them.
use Rattle.std.specs.Prelude.{◌≡◌, ◌⊎◌, ℕ, zero, suc, List, [], ◌∷◌, map}
use Rattle.ddf_bay.specs.Sectors.{Image}
use Rattle.ddf_array.specs.Redundant.{IsRedundant}
use Rattle.ddf_array.specs.Sound.{AreSectors}
use Rattle.ddf_array.specs.Volume.{Volume}
use Rattle.ddf_read.specs.Reading.{IsOn}
use Rattle.ddf_cells.specs.Writing.{StaysBut}
use Rattle.ddf_rebuild.specs.Rebuilding.{HasGiven, HasRebuilt}
use Rattle.ddf_rebuild.specs.Target.{IsTargetCell}
use Rattle.ddf_repair.specs.declared.first.Target.{Target}
use Rattle.ddf_steps.specs.Steps.{Step}
use Rattle.ddf_group_commands.specs.Written.{AreWritten}

-- Rows are filled up to this one, and then this step is written.
pub record Round : Type 0 where
  pub row : ℕ
  pub step : Step

abbrev pub rows_of : List Round → List ℕ
rows_of rounds = map (λ (round : Round). round.row) rounds

abbrev pub steps_of : List Round → List Step
steps_of rounds = map (λ (round : Round). round.step) rounds

-- the row from which a round fills: that up to which the one before it did
abbrev pub row_before : (from : ℕ) → List Round → (number : ℕ) → ℕ
row_before from rounds zero = from
row_before from [] (suc number) = from
row_before from (round ∷ rounds) (suc number) = row_before round.row rounds number

-- What is read of an array is sure: no read failed on a slot of its available places, so that each block is read from its first source; or the array is redundant, so that each
-- source gives the same.
abbrev pub IsSure : (failed : ℕ → Type 0) → Volume → Image → Type 0
IsSure failed volume image = ((slot : ℕ) → IsOn volume slot → failed slot → ⊥) ⊎ (AreSectors image × IsRedundant volume image)

-- The position's sectors at these rows hold what was read for them by an image: of each cell the bytes of a source, behind others with a slot of which a read failed. Where
-- what is read of it is sure these are what they should hold. Nothing else is another one than in it. The sectors of that image have 512 bytes, where the bay still tells what a
-- stop may leave.
pub record IsFilled (failed : ℕ → Type 0) (told : Type 0) (volume : Volume) (target : Target) (from to : ℕ) (before after : Image) : Type 0 where
  pub rebuilt : IsSure failed volume before → HasRebuilt volume target.element target.position from to before after
  pub was_given : HasGiven failed volume target.element target.position from to before after
  pub stays : StaysBut (IsTargetCell volume target.element target.position from to) before after
  pub are_sectors : told → AreSectors before

-- The rounds were done, one after another.
abbrev pub AreRounds : (failed : ℕ → Type 0) → (told : Type 0) → (sizes : List ℕ) → Volume → Target → (from : ℕ) → (before : Image) → List Round → (after : Image) → Type 0
AreRounds failed told sizes volume target from before [] after = (slot l : ℕ) → after slot l ≡ before slot l
AreRounds failed told sizes volume target from before (round ∷ others) after =
    (filled : Image) × IsFilled failed told volume target from round.row before filled
    × (written : Image) × AreWritten sizes filled (round.step ∷ []) written × AreRounds failed told sizes volume target round.row written others after
