use Rattle.std.proofs.Common.{◌≡◌, ◌∙◌, inl, inr, false, ℕ, ◌+◌, ◌-◌, true, sym, ap, subst, arith, length, rules}
use Rattle.std.proofs.lemmas.Grind.{common_steps}
use Rattle.std.proofs.lemmas.Result.{err_from_is_err_and}
use Rattle.ddf_lemmas.proofs.Tests.{true_not_false}
use Rattle.ddf_bytes.specs.Counts.{Rose}
use Rattle.ddf_array.specs.Volume.{capacity}
use Rattle.ddf_cells.specs.CellsOn.{write_cells}
use Rattle.ddf_cells.proofs.WriteSteps.{writes_read}
use Rattle.ddf_resync.specs.Resyncing.{MayResync}
use Rattle.ddf_resync.specs.Several.{copied_cells, has_other}
use Rattle.ddf_resync.proofs.Copied.{copied_alone}
use Rattle.ddf_resync.proofs.CopyStep.{block_left, step_cells, step_copied, step_noted, step_writes}
use Rattle.ddf_resync.proofs.SeveralCells.{cells_up, lone, other_along}
use Rattle.ddf_resync.proofs.Stops.{asks_behind, asks_read}
use Rattle.ddf_resync.proofs.copying.copy_first.Goals as goal

-- nothing is done where the blocks have one cell
pub returns-then-not-has_other-clause-copied : goal.returns-then-not-has_other-clause-copied
returns-then-not-has_other-clause-copied g c = λ tells.
    let v = c.args.view.now in
    let n = c.blocks_along-count.result in
    let none : has_other v c.args.block ≡ false = sym c.has_other.ensures ∙ c.if-not-has_other.true in
    copied_alone v _ (g.B.Bay.disks c.args.bay.now).held c.args.block n (λ k below. lone v (c.args.block + k) (other_along v c.args.block n c.blocks_along-count.ensures.along k below ∙ none))

pub returns-then-not-has_other-clause-noted : goal.returns-then-not-has_other-clause-noted
returns-then-not-has_other-clause-noted g c = λ tells b i one above below several at.
    let v = c.args.view.now in
    let block = c.args.block in
    let none : has_other v block ≡ false = sym c.has_other.ensures ∙ c.if-not-has_other.true in
    let same : block + (b - block) ≡ b = omega (arith, above) in
    absurd (true_not_false (sym several ∙ ap (has_other v) (sym same) ∙ other_along v block c.blocks_along-count.result c.blocks_along-count.ensures.along (b - block) (omega (arith, above, below)) ∙ none))

pub returns-then-not-has_other-clause-asks : goal.returns-then-not-has_other-clause-asks
returns-then-not-has_other-clause-asks g c =
    let v = c.args.view.now in
    let up = cells_up v c.args.block (c.args.block + c.blocks_along-count.result) (omega arith) in
    record { asked = omega (arith, up); written = omega (arith, up) }

pub returns-then-not-has_other-clause-most : goal.returns-then-not-has_other-clause-most
returns-then-not-has_other-clause-most g c =
    let v = c.args.view.now in
    let up = cells_up v c.args.block (capacity v) (omega (arith, c.requires.block)) in
    record { asked = omega (arith, up); written = omega (arith, up) }

-- no source is left of a block
pub returns-in_err-read_run-clause-most : goal.returns-in_err-read_run-clause-most
returns-in_err-read_run-clause-most g c =
    let v = c.args.view.now in
    asks_read (copied_cells v c.args.block) (copied_cells v (capacity v)) c.in_err-read_run.ensures.reads (cells_up v c.args.block (capacity v) (omega (arith, c.requires.block)))

pub returns-in_err-read_run-clause-cause : goal.returns-in_err-read_run-clause-cause
returns-in_err-read_run-clause-cause g c =
    let v = c.args.view.now in
    let p = err_from_is_err_and c.from_residual.result c.from_residual.ensures.1 in
    let several : has_other v c.args.block ≡ true = sym c.has_other.ensures ∙ c.if-not-has_other.false in
    let along = c.blocks_along-count.ensures in
    rw (p.1, p.2)
    (inr (block_left _ v c.args.block c.blocks_along-count.result _ _ along.along several along.inside (first_of (grind (arith, common_steps), search rules)) c.in_err-read_run.ensures.left))

pub write_cells-requires-clause-fits : goal.write_cells-requires-clause-fits
write_cells-requires-clause-fits g c = rw c.in_ok-read_run.ensures.reads.reads.same_sizes c.requires.fits

-- a cell couldn't be written
pub returns-in_err-write_cells-clause-writes : goal.returns-in_err-write_cells-clause-writes
returns-in_err-write_cells-clause-writes g c = λ before same.
    let v = c.args.view.now in
    let several : has_other v c.args.block ≡ true = sym c.has_other.ensures ∙ c.if-not-has_other.false in
    let n : length c.read_run.new.out ≡ c.blocks_along-count.result = first_of (grind (arith, common_steps), search rules) in
    step_writes v c.requires.known c.requires.apart c.requires.marked c.args.block c.blocks_along-count.result c.blocks_along-count.ensures.along several g.B.Bay.tells c.read_run.new.out n c.in_ok-read_run.ensures.reads
    (λ tell k below. c.in_ok-read_run.ensures.given tell k (omega (arith, below, n, c.read_run.auto.out))) c.in_err-write_cells.ensures.writes before same

pub returns-in_err-write_cells-clause-most : goal.returns-in_err-write_cells-clause-most
returns-in_err-write_cells-clause-most g c =
    let v = c.args.view.now in
    let block = c.args.block in
    let count = c.blocks_along-count.result in
    let several : has_other v block ≡ true = sym c.has_other.ensures ∙ c.if-not-has_other.false in
    let n : length c.read_run.new.out ≡ count = first_of (grind (arith, common_steps), search rules) in
    let cells = step_cells v c.requires.known c.requires.apart c.requires.marked block count c.blocks_along-count.ensures.along several g.B.Bay.tells c.read_run.new.out n c.in_ok-read_run.ensures.reads
    (λ tell k below. c.in_ok-read_run.ensures.given tell k (omega (arith, below, n, c.read_run.auto.out))) c.in_err-write_cells.ensures.writes in
    let up = cells_up v (block + count) (capacity v) c.blocks_along-count.ensures.inside in
    asks_behind (copied_cells v block) (copied_cells v (capacity v)) (write_cells v block (length c.read_run.new.out)) c.in_ok-read_run.ensures.reads c.in_err-write_cells.ensures.costs.asked c.in_err-write_cells.ensures.costs.written
    (omega (arith, cells, up))

-- all cells have what was read
pub returns-clause-writes : goal.returns-clause-writes
returns-clause-writes g c = λ before same.
    let v = c.args.view.now in
    let several : has_other v c.args.block ≡ true = sym c.has_other.ensures ∙ c.if-not-has_other.false in
    let n : length c.read_run.new.out ≡ c.blocks_along-count.result = first_of (grind (arith, common_steps), search rules) in
    step_writes v c.requires.known c.requires.apart c.requires.marked c.args.block c.blocks_along-count.result c.blocks_along-count.ensures.along several g.B.Bay.tells c.read_run.new.out n c.in_ok-read_run.ensures.reads
    (λ tell k below. c.in_ok-read_run.ensures.given tell k (omega (arith, below, n, c.read_run.auto.out))) c.in_ok-write_cells.ensures.writes before same

pub returns-clause-copied : goal.returns-clause-copied
returns-clause-copied g c = λ tells.
    let v = c.args.view.now in
    let several : has_other v c.args.block ≡ true = sym c.has_other.ensures ∙ c.if-not-has_other.false in
    let n : length c.read_run.new.out ≡ c.blocks_along-count.result = first_of (grind (arith, common_steps), search rules) in
    step_copied v c.requires.known c.requires.apart c.requires.marked c.args.block c.blocks_along-count.result c.blocks_along-count.ensures.along several g.B.Bay.tells c.read_run.new.out n c.in_ok-read_run.ensures.reads
    (λ tell k below. c.in_ok-read_run.ensures.given tell k (omega (arith, below, n, c.read_run.auto.out))) c.in_ok-write_cells.ensures.writes tells c.in_ok-write_cells.ensures.reads (c.in_ok-write_cells.ensures.set tells)

pub returns-clause-noted : goal.returns-clause-noted
returns-clause-noted g c = λ tells.
    let v = c.args.view.now in
    let several : has_other v c.args.block ≡ true = sym c.has_other.ensures ∙ c.if-not-has_other.false in
    let n : length c.read_run.new.out ≡ c.blocks_along-count.result = first_of (grind (arith, common_steps), search rules) in
    step_noted v c.requires.known c.requires.apart c.requires.marked c.args.block c.blocks_along-count.result c.blocks_along-count.ensures.along several g.B.Bay.tells c.read_run.new.out n c.in_ok-read_run.ensures.reads
    (λ tell k below. c.in_ok-read_run.ensures.given tell k (omega (arith, below, n, c.read_run.auto.out))) c.in_ok-write_cells.ensures.writes tells c.in_ok-write_cells.ensures.reads (c.in_ok-write_cells.ensures.set tells)

pub returns-clause-asks : goal.returns-clause-asks
returns-clause-asks g c =
    let v = c.args.view.now in
    let block = c.args.block in
    let count = c.blocks_along-count.result in
    let several : has_other v block ≡ true = sym c.has_other.ensures ∙ c.if-not-has_other.false in
    let n : length c.read_run.new.out ≡ count = first_of (grind (arith, common_steps), search rules) in
    let cells = step_cells v c.requires.known c.requires.apart c.requires.marked block count c.blocks_along-count.ensures.along several g.B.Bay.tells c.read_run.new.out n c.in_ok-read_run.ensures.reads
    (λ tell k below. c.in_ok-read_run.ensures.given tell k (omega (arith, below, n, c.read_run.auto.out))) c.in_ok-write_cells.ensures.writes in
    asks_behind (copied_cells v block) (copied_cells v (block + count)) (write_cells v block (length c.read_run.new.out)) c.in_ok-read_run.ensures.reads c.in_ok-write_cells.ensures.costs.asked c.in_ok-write_cells.ensures.costs.written
    (omega (arith, cells))

pub returns-clause-most : goal.returns-clause-most
returns-clause-most g c =
    let v = c.args.view.now in
    let block = c.args.block in
    let count = c.blocks_along-count.result in
    let several : has_other v block ≡ true = sym c.has_other.ensures ∙ c.if-not-has_other.false in
    let n : length c.read_run.new.out ≡ count = first_of (grind (arith, common_steps), search rules) in
    let cells = step_cells v c.requires.known c.requires.apart c.requires.marked block count c.blocks_along-count.ensures.along several g.B.Bay.tells c.read_run.new.out n c.in_ok-read_run.ensures.reads
    (λ tell k below. c.in_ok-read_run.ensures.given tell k (omega (arith, below, n, c.read_run.auto.out))) c.in_ok-write_cells.ensures.writes in
    let up = cells_up v (block + count) (capacity v) c.blocks_along-count.ensures.inside in
    asks_behind (copied_cells v block) (copied_cells v (capacity v)) (write_cells v block (length c.read_run.new.out)) c.in_ok-read_run.ensures.reads c.in_ok-write_cells.ensures.costs.asked c.in_ok-write_cells.ensures.costs.written
    (omega (arith, cells, up))

pub returns-in_err-write_cells-clause-cause : goal.returns-in_err-write_cells-clause-cause
returns-in_err-write_cells-clause-cause g c =
    let p = err_from_is_err_and c.from_residual-in_err-write_cells.result c.from_residual-in_err-write_cells.ensures.1 in
    let new = g.B.Bay.disks c.write_cells.new.bay in
    let failed = c.in_err-write_cells.ensures.failed in
    rw (p.1, p.2) (inl (c.in_err-write_cells.ensures.touched, subst (λ (f : ℕ → ℕ). Rose (f c.in_err-write_cells.field-0.0) (new.failed_writes c.in_err-write_cells.field-0.0)) c.in_ok-read_run.ensures.reads.same_writes failed))

pub returns-in_err-read_run-clause-writes : goal.returns-in_err-read_run-clause-writes
returns-in_err-read_run-clause-writes g c = λ before same. writes_read (MayResync c.args.view.now g.B.Bay.tells before) g.B.Bay.tells c.args.touched.now c.in_err-read_run.ensures.reads
