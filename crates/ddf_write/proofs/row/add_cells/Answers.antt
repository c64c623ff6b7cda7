use Rattle.std.proofs.Common.{◌≡◌, ◌∙◌, ◌+◌, [], sym, ap, arith}
use Rattle.std.specs.Prelude.{slice_index_or}
use Rattle.ddf_lemmas.proofs.Options.{some_is}
use Rattle.ddf_parity.specs.Xor.{xor}
use Rattle.ddf_array.specs.declared.part.Part.{Part}
use Rattle.ddf_array.specs.Rows.{cell_value}
use Rattle.ddf_cells.proofs.SumSteps.{none_added, one_added}
use Rattle.ddf_write.proofs.row.add_cells.Goals as goal

pub fill_cells-requires-clause-holds_data : goal.fill_cells-requires-clause-holds_data
fill_cells-requires-clause-holds_data c = λ k below same. c.if-other-parity.false (some_is (sym same ∙ c.requires.parity k (omega (arith, below, c.requires.room))))

pub fill_cells-requires-clause-touched : goal.fill_cells-requires-clause-touched
fill_cells-requires-clause-touched c = λ k below. c.requires.touched k (omega (arith, below, c.requires.room))

pub returns-then-other-parity : goal.returns-then-other-parity
returns-then-other-parity c = record {
  added = λ entry image filled values part part_at k below.
      sym (none_added (cell_value c.args.view.now image c.args.element part (c.args.sector + k)) c.args.parity c.args.other _ c.if-other-parity.true);
}

pub returns : goal.returns
returns c = record {
  added = λ entry image filled values part part_at k below.
      let cell = cell_value c.args.view.now image c.args.element part (c.args.sector + k) in
      let same : c.args.part.now ≡ part = some_is (sym c.requires.is_part ∙ part_at) in
      c.add_each.ensures k below
      ∙ ap (xor (slice_index_or c.args.into.now k []))
      (c.fill_cells.ensures.values entry image filled values k (omega (arith, below, c.requires.room)) ∙ ap (λ (q : Part). cell_value c.args.view.now image c.args.element q (c.args.sector + k) c.args.other) same)
      ∙ sym (one_added cell c.args.parity c.args.other (slice_index_or c.args.into.now k []) c.if-other-parity.false);
}
