use Rattle.std.proofs.Common.{◌≡◌, ◌∙◌, ◌+◌, ◌/◌, Some, ap, subst, arith, length}
use Rattle.std.specs.Prelude.{slice_index_or, []}
use Rattle.ddf_primary.specs.Cells.{parity_member}
use Rattle.ddf_array.specs.Rows.{cell_value}
use Rattle.ddf_cells.proofs.BlockOf.{block_within}
use Rattle.ddf_write.specs.Beside.{IsDataCell}
use Rattle.ddf_write.specs.Writing.{IsTouched}
use Rattle.ddf_write.proofs.RowReads.{cell_by_block, cell_by_kept, data_cell}
use Rattle.ddf_write.proofs.filling.fill_first.Goals as goal

pub take_blocks-requires-clause-block : goal.take_blocks-requires-clause-block
take_blocks-requires-clause-block c = block_within c.args.view.now c.args.element c.args.position c.args.sector (c.args.start + c.in-Some.at) c.in-Some.ensures.1

pub returns-in-Some-clause-values : goal.returns-in-Some-clause-values
returns-in-Some-clause-values c = λ entry image filled values k below.
    let v = c.args.view.now in
    let same : c.args.start + c.in-Some.at + k ≡ c.args.start + (c.in-Some.at + k) = omega arith in
    cell_by_block v c.requires.known c.requires.apart c.requires.whole c.args.element c.args.part.now c.requires.is_part c.requires.parity c.args.position c.requires.position c.args.start c.args.from.now entry image filled
    (c.args.sector + k) _ (c.in-Some.at + k) (omega (arith, below, c.take_blocks.ensures.inside)) (c.take_blocks.ensures.follow c.args.element c.args.position c.args.sector k c.in-Some.ensures.1 below ∙ ap Some same)
    (c.take_blocks.ensures.taken k below)

pub take_kept-requires-clause-kept : goal.take_kept-requires-clause-kept
take_kept-requires-clause-kept c =
    let v = c.args.view.now in
    let part = c.args.part.now in
    let here : c.args.sector + 0 ≡ c.args.sector = omega arith in
    let touched : IsTouched v c.args.start (length c.args.from.now) c.args.element c.args.sector = subst (λ x. IsTouched v c.args.start (length c.args.from.now) c.args.element x) here (c.requires.touched 0 c.requires.some) in
    let cell : IsDataCell v c.args.element part c.args.position c.args.sector =
    data_cell v c.requires.known c.args.element part c.requires.is_part c.requires.parity c.args.position c.requires.position c.args.start (length c.args.from.now) c.args.sector touched
    (λ same. c.requires.holds_data 0 c.requires.some (ap (λ x. parity_member part.shape (x / part.shape.strip)) here ∙ same)) in
    c.requires.all_kept c.args.element part c.args.position c.args.sector (record { is_cell = cell; touched = touched; holds_none = c.in-None.ensures })

pub returns-in-None-clause-values : goal.returns-in-None-clause-values
returns-in-None-clause-values c = λ entry image filled values k below.
    let v = c.args.view.now in
    let part = c.args.part.now in
    let here : c.args.sector + 0 ≡ c.args.sector = omega arith in
    let first : k ≡ 0 = omega (arith, below) in
    let touched : IsTouched v c.args.start (length c.args.from.now) c.args.element c.args.sector = subst (λ x. IsTouched v c.args.start (length c.args.from.now) c.args.element x) here (c.requires.touched 0 c.requires.some) in
    let cell : IsDataCell v c.args.element part c.args.position c.args.sector =
    data_cell v c.requires.known c.args.element part c.requires.is_part c.requires.parity c.args.position c.requires.position c.args.start (length c.args.from.now) c.args.sector touched
    (λ same. c.requires.holds_data 0 c.requires.some (ap (λ x. parity_member part.shape (x / part.shape.strip)) here ∙ same)) in
    let is = cell_by_kept v c.requires.known c.requires.apart c.requires.whole c.args.element part c.requires.is_part c.requires.parity c.args.position c.requires.position c.args.start c.args.from.now entry image filled
    c.args.sector _ cell c.in-None.ensures c.args.kept.now values c.take_kept.ensures in
    let there : c.args.sector ≡ c.args.sector + k = omega (arith, first) in
    ap (λ n. slice_index_or c.take_kept.new.out n []) first ∙ is ∙ ap (λ n. cell_value v image c.args.element part n c.args.position) there
