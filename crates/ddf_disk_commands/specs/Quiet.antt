-- Calls of which none failed.
use Rattle.std.specs.Prelude.{ℕ}
use Rattle.ddf_bay.specs.State.{BayState}
use Rattle.ddf_bay.specs.ReadsOnly.{SlotSame}

-- on no slot a call failed
abbrev pub IsQuiet : {D : Type 0} (old new : BayState D) → Type 0
IsQuiet old new = (s : ℕ) → SlotSame old new s
