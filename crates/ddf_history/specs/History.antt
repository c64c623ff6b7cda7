-- Whole histories: calls, stops, losses and returns.
use Rattle.std.specs.Prelude.{◌≡◌, ◌⊎◌, ℕ, ◌≤◌, Bool, true, List, [], ◌∷◌, Some, slice_get}
use Rattle.ddf_history.specs.Reading.{Reading, Scene}
use Rattle.ddf_history.specs.Leaders.{seen}
use Rattle.ddf_history.specs.Issued.{Past, IsSince, lose, give_back}
use Rattle.ddf_history.specs.Promise.{IsKept}
use Rattle.ddf_history.specs.Answer.{Answer, IsAnswer, IsReadable, HasMember, IsPromised}

-- A moment: what was issued, and the bay with what a stop may leave of it.
pub record Moment (reading : Reading) (B : Type 0) : Type 0 where
  pub past : Past reading
  pub bay : B

-- What was acknowledged stays where it is in the list.
pub record KeepsAcked {reading : Reading} (old new : Past reading) : Type 0 where
  pub later : old.changes.acked ≤ new.changes.acked
  pub same : (i : ℕ) (config : reading.Config) → i ≤ old.changes.acked → slice_get old.changes.issued i ≡ Some config → slice_get new.changes.issued i ≡ Some config

-- `Leaves` tells what a stop may leave of a bay.
module _ {reading : Reading} {B : Type 0} (Leaves : B → Scene reading.Copy → Type 0) where
  -- Whatever a stop leaves shows what it should.
  abbrev pub AllKept : Moment reading B → Type 0
  AllKept moment = (scene : Scene reading.Copy) → Leaves moment.bay scene → IsKept moment.past scene

  -- A stop: the bay goes on as one of the images that it may leave.
  pub record IsStop (old new : Moment reading B) : Type 0 where
    pub same_past : new.past ≡ old.past
    pub is_left : (scene : Scene reading.Copy) → Leaves new.bay scene → Leaves old.bay scene

  -- A slot is lost. Where the group is from elsewhere, a change of this engine was acknowledged before.
  pub record IsLoss (old new : Moment reading B) : Type 0 where
    pub slot : ℕ
    pub own : old.past.changes.own_from ≤ old.past.changes.acked
    pub is_lost : new.past ≡ lose old.past slot
    pub is_left : (scene : Scene reading.Copy) → Leaves new.bay scene → Leaves old.bay scene

  -- A slot returns, while each configuration since the last acknowledged one lists its member as missing.
  pub record IsReturn (old new : Moment reading B) : Type 0 where
    pub slot : ℕ
    pub own : old.past.changes.own_from ≤ old.past.changes.acked
    pub is_missing : (number : ℕ) (config : reading.Config) → IsSince old.past.changes number config → reading.has_missing config (old.past.disk slot) ≡ true
    pub is_back : new.past ≡ give_back old.past slot
    pub is_left : (scene : Scene reading.Copy) → Leaves new.bay scene → Leaves old.bay scene

  -- At a moment, whatever a stop leaves, and whichever slots are read, a current member among them, assembly answers as promised.
  abbrev pub Answers : Moment reading B → Type 0
  Answers moment = (scene : Scene reading.Copy) → Leaves moment.bay scene → (readable : ℕ → Bool) → IsReadable moment.past scene readable → HasMember moment.past scene readable
      → (answer : Answer reading.Config) → IsAnswer reading moment.past.slots (seen readable scene) answer → IsPromised moment.past readable answer

-- `Call` tells which moments are within a call that was begun at another one, or at its end.
module _ {reading : Reading} {B : Type 0} (Leaves : B → Scene reading.Copy → Type 0) (Call : Moment reading B → Moment reading B → Type 0) where
  -- What calls promise: they keep what each slot shows, and what was acknowledged.
  abbrev pub DoCallsKeep : Type 0
  DoCallsKeep = (old new : Moment reading B) → Call old new → AllKept Leaves old → AllKept Leaves new × KeepsAcked old.past new.past

  abbrev pub IsStep : Moment reading B → Moment reading B → Type 0
  IsStep old new = Call old new ⊎ IsStop Leaves old new ⊎ IsLoss Leaves old new ⊎ IsReturn Leaves old new

  -- Each moment follows the one before it.
  abbrev pub IsHistory : Moment reading B → List (Moment reading B) → Type 0
  IsHistory start [] = Unit {0}
  IsHistory start (next ∷ rest) = IsStep start next × IsHistory next rest
