use Rattle.std.proofs.Common.{◌∙◌, sym, ap, subst}
use Rattle.ddf_array.specs.declared.part.Part.{Part}
use Rattle.ddf_array.specs.declared.place.Place.{Place}
use Rattle.ddf_array.specs.Volume.{IsPart}
use Rattle.ddf_rebuild.specs.Target.{row_count}
use Rattle.ddf_rebuild_command.proofs.PlanMade.{few_as, part_read, place_read, read_at}
use Rattle.ddf_rebuild_command.proofs.planning.rows_of.Goals as goal

pub row_count-requires : goal.row_count-requires
row_count-requires c =
    let there = c.requires in
    let same = read_at c.parts.result.now c.args.view.now.parts c.from.result c.args.target.now.element c.index-parts-from.result there.0 c.parts.ensures.parts c.from.ensures c.index-parts-from.is there.2 in
    subst (λ (part : Part). IsPart part) (sym same) (part_read c.args.view.now c.parts.ensures.sound c.args.target.now.element there.0 there.2).0

pub returns-clause-rows : goal.returns-clause-rows
returns-clause-rows c = λ part at.
    c.row_count.ensures
    ∙ ap (λ (one : Part). row_count one.shape)
    (read_at c.parts.result.now c.args.view.now.parts c.from.result c.args.target.now.element c.index-parts-from.result part c.parts.ensures.parts c.from.ensures c.index-parts-from.is at)

pub returns-clause-kept : goal.returns-clause-kept
returns-clause-kept c = λ part place at held.
    let same = read_at c.parts.result.now c.args.view.now.parts c.from.result c.args.target.now.element c.index-parts-from.result part c.parts.ensures.parts c.from.ensures c.index-parts-from.is at in
    ap (λ (one : Place). one.row)
    (place_read c.items.result.now part.places c.from-2.result c.args.target.now.position place (c.items.ensures ∙ ap (λ (one : Part). one.places) same) c.from-2.ensures held)

pub returns-clause-few : goal.returns-clause-few
returns-clause-few c =
    let there = c.requires in
    let same = read_at c.parts.result.now c.args.view.now.parts c.from.result c.args.target.now.element c.index-parts-from.result there.0 c.parts.ensures.parts c.from.ensures c.index-parts-from.is there.2 in
    few_as c.row_count.result c.index-parts-from.result there.0 c.row_count.ensures same (part_read c.args.view.now c.parts.ensures.sound c.args.target.now.element there.0 there.2).1
