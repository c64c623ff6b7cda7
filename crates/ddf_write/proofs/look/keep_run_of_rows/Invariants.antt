use Rattle.std.proofs.Common.{◌≡◌, ℕ, ◌+◌, ◌<◌}
use Rattle.ddf_write.specs.Gathering.{Gathers, IsKnownAt}
use Rattle.ddf_write.proofs.look.keep_run_of_rows.Given as goal

abbrev pub invariant-loop-position : goal.invariant-loop-position
invariant-loop-position g l =
    let B = g.B.Bay in
    record {
      known : (j position : ℕ) → j < l.rows → position < l.position → (position ≡ l.parity → ⊥) → IsKnownAt l.view l.piece.first l.piece.blocks l.kept l.element position (l.sector + j);
      gathers : Gathers B.tells (B.disks l.fn.bay) (B.disks l.bay) l.view l.piece.start l.piece.count l.fn.kept l.kept;
    }
