-- Which copies are read, and which of them lead.
use Rattle.std.specs.Prelude.{ℕ, zero, suc, ◌==◌, ◌&&◌, Bool, if◌then◌else◌, List, [], ◌∷◌, ◌++◌}
use Rattle.ddf_history.specs.Reading.{Reading, Shown, Scene, stands}
use Rattle.ddf_history.specs.Reading.Shown.{Nothing, One, Differ}

-- A slot that isn't readable shows nothing.
abbrev pub seen : {A : Type 0} → (ℕ → Bool) → Scene A → Scene A
seen readable scene slot = if readable slot then scene slot else Nothing

module _ (reading : Reading) where
  -- The copy of one slot, where it shows the group with this sequence.
  abbrev pub leading_copy : ℕ → Shown reading.Copy → List reading.Copy
  leading_copy n Nothing = []
  leading_copy n (One copy) = if stands reading copy && (reading.sequence_of copy == n) then copy ∷ [] else []
  leading_copy n (Differ primary secondary) = []

  -- The leaders' copies, in rising slots.
  abbrev pub leading_copies : ℕ → Scene reading.Copy → ℕ → List reading.Copy
  leading_copies n scene zero = []
  leading_copies n scene (suc slots) = leading_copies n scene slots ++ leading_copy n (scene slots)
