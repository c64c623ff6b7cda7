use Rattle.std.proofs.Common.{◌≡◌, ◌⊎◌, ℕ, ◌<◌, length}
use Rattle.ddf_cells.specs.Touching.{IsTouchedSlot}
use Rattle.ddf_write.proofs.write.note_all.Given as goal

abbrev pub invariant-loop-slot : goal.invariant-loop-slot
invariant-loop-slot l = record {
  long : length l.touched ≡ 64;
  stays : (slot : ℕ) → IsTouchedSlot l.fn.touched slot → IsTouchedSlot l.touched slot;
  noted : (slot : ℕ) → slot < l.slot → IsTouchedSlot l.these slot → IsTouchedSlot l.touched slot;
  only : (slot : ℕ) → IsTouchedSlot l.touched slot → IsTouchedSlot l.fn.touched slot ⊎ IsTouchedSlot l.these slot;
}
