use Rattle.std.proofs.Common.{◌≡◌, ℕ, ◌+◌, ◌*◌, ◌-◌, ◌<◌, ◌^◌, false}
use Rattle.ddf_config.specs.Room.{is_free}
use Rattle.ddf_config.proofs.room.least_start.Given as goal

abbrev pub invariant-loop-place : goal.invariant-loop-place
invariant-loop-place l = record {
  small : l.place * l.strip < 2 ^ 66;
  taken_before : (k : ℕ) → k < l.place → is_free l.taken l.size l.blocks (k * l.strip) ≡ false;
}

abbrev pub decreases-loop-place : goal.decreases-loop-place
decreases-loop-place l = l.size + 1 - l.place * l.strip
