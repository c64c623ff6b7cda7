use Rattle.std.proofs.Common.{◌≡◌, ◌∙◌, true, false, map, sym, ap}
use Rattle.std.specs.Prelude.{◌&&◌, is_some, option_to_list}
use Rattle.ddf_array.specs.Levels.{keeps_parity}
use Rattle.ddf_array.specs.Places.{site_at}
use Rattle.ddf_array.specs.Sources.{copy, row, row_without}
use Rattle.ddf_read.proofs.Steps.{not_read_twice}
use Rattle.ddf_cells.proofs.Depths.{kept_sources}
use Rattle.ddf_cells.proofs.OwnSources.{own_unmarked}
use Rattle.ddf_cells.proofs.without.try_without.Goals as goal

pub read_row-requires-clause-fits : goal.read_row-requires-clause-fits
read_row-requires-clause-fits g c = rw c.in-Err.ensures.reads.reads.same_sizes c.requires.fits

pub returns-in-Err-read_row-clause-tried : goal.returns-in-Err-read_row-clause-tried
returns-in-Err-read_row-clause-tried g c =
    let part = c.args.part.now in
    let kept : keeps_parity part.shape.layout ≡ true = ap keeps_parity (sym c.layout.ensures) ∙ sym c.keeps_parity.ensures ∙ c.if-not-keeps_parity.false in
    let others : (c.args.marked && is_some (site_at part.places c.args.position c.args.sector)) ≡ false = rw c.site_at-site.ensures at (sym c.is_alone.ensures ∙ c.if-is_alone.false) in
    rw (own_unmarked (λ slot. ⊥) c.args.marked part c.args.position c.args.sector others, kept_sources part c.args.position c.args.sector kept, c.or.ensures)
    (not_read_twice c.in-Err.ensures.reads c.in-Err-read_row.ensures.reads (map copy (option_to_list (site_at part.places c.args.position c.args.sector)))
    (map row (option_to_list (row_without part.places c.args.position c.args.sector))) c.in-Err.failed c.in-Err-read_row.next
    (rw c.site_at-site.ensures at c.in-Err.ensures.tried) c.in-Err-read_row.ensures.tried)
