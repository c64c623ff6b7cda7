use Rattle.std.proofs.Common.{◌≡◌, ◌∙◌, ◌+◌, [], length, ap, arith, map}
use Rattle.std.specs.Prelude.{slice_index_or}
use Rattle.ddf_parity.specs.Xor.{xor_all}
use Rattle.ddf_array.specs.Rows.{cell_value}
use Rattle.ddf_cells.specs.RowSums.{others_among}
use Rattle.ddf_cells.proofs.SumSteps.{sum_more, sum_of_all}
use Rattle.ddf_write.proofs.row.sum_rows.Goals as goal

pub add_cells-requires-clause-parity : goal.add_cells-requires-clause-parity
add_cells-requires-clause-parity c = λ k below. c.requires.parity k (omega (arith, below, c.loop-other.auto.out))

pub add_cells-requires-clause-touched : goal.add_cells-requires-clause-touched
add_cells-requires-clause-touched c = λ k below. c.requires.touched k (omega (arith, below, c.loop-other.auto.out))

pub loop-other-preserved : goal.loop-other-preserved
loop-other-preserved c =
    let v = c.args.view.now in
    record {
      sums = λ entry image filled values k below.
          sum_more (cell_value v image c.args.element c.args.part.now (c.args.sector + k)) c.args.parity c.loop-other.other (slice_index_or c.loop-other.out k []) (slice_index_or c.add_cells.new.into k [])
          (c.loop-other.invariant.sums entry image filled values k below)
          (c.add_cells.ensures.added entry image filled values c.args.part.now c.requires.is_part k (omega (arith, below, c.loop-other.auto.out)));
    }

pub returns : goal.returns
returns c = record {
  sums = λ entry image filled values k below.
      let v = c.args.view.now in
      let known = c.requires.known.are_parts c.args.element c.args.part.now c.requires.is_part in
      let n = ap length c.items-other-end.ensures in
      let all : c.loop-other.other ≡ c.args.part.now.shape.members = omega (arith, n, known.has_places, c.loop-other-test.false, c.loop-other.auto.other-end) in
      let cell = cell_value v image c.args.element c.args.part.now (c.args.sector + k) in
      c.loop-other.invariant.sums entry image filled values k below
      ∙ ap (λ m. xor_all (map cell (others_among c.args.parity m))) all
      ∙ sum_of_all c.args.part.now.shape cell (c.args.sector + k) c.args.parity known.shape_is (c.requires.parity k below);
}
