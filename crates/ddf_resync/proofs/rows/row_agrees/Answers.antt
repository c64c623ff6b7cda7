use Rattle.std.proofs.Common.{◌≡◌, ◌∙◌, Some, None, sym, ap, subst}
use Rattle.ddf_bay.specs.Sectors.{Image}
use Rattle.ddf_array.specs.Places.{site_at}
use Rattle.ddf_array.specs.Sources.{row_without}
use Rattle.ddf_array.specs.Values.{sum_at, value}
use Rattle.ddf_cells.proofs.BlockOf.{block_within}
use Rattle.ddf_cells.proofs.Lists.{some_not_none}
use Rattle.ddf_resync.specs.Agreeing.{IsValue, RowAgrees}
use Rattle.std.proofs.lemmas.Result.{err_from_is_err_and}
use Rattle.std.proofs.lemmas.Option.{same_Some}
use Rattle.ddf_lemmas.proofs.Options.{none_from_not_some, some_from_is_some}
use Rattle.ddf_resync.proofs.Comparing.{among_rows, row_of_compared}
use Rattle.ddf_resync.proofs.Failing.{decides, value_missing, value_there}
use Rattle.ddf_resync.proofs.rows.row_agrees.Goals as goal

pub site_at-requires-clause-part : goal.site_at-requires-clause-part
site_at-requires-clause-part g c = c.requires.known.are_parts c.args.element c.args.part.now c.requires.part

pub has_row-requires-clause-part : goal.has_row-requires-clause-part
has_row-requires-clause-part g c = c.requires.known.are_parts c.args.element c.args.part.now c.requires.part

pub read_value-requires-clause-fits : goal.read_value-requires-clause-fits
read_value-requires-clause-fits g c = rw c.in_ok-read_sum.ensures.reads.reads.same_sizes c.requires.fits

pub read_value-requires-clause-block : goal.read_value-requires-clause-block
read_value-requires-clause-block g c = block_within c.args.view.now c.args.element c.args.position c.args.sector c.in-Some.block (sym c.block_at.ensures ∙ c.in-Some.is)

pub returns-then-not-found-clause-agree : goal.returns-then-not-found-clause-agree
returns-then-not-found-clause-agree g c = λ tells agrees.
    let v = c.args.view.now in
    let part = c.args.part.now in
    let block_is = sym c.block_at.ensures ∙ c.in-Some.is in
    let none : site_at part.places c.args.position c.args.sector ≡ None = sym c.site_at.ensures ∙ none_from_not_some _ (sym c.is_some.ensures ∙ c.if-is_some.false) in
    let row = some_from_is_some (row_without part.places c.args.position c.args.sector) (sym c.has_row.ensures ∙ c.if-not-has_row.false) in
    let value_is = subst (λ (image : Image). IsValue c.in_ok-found.found (value v image c.in-Some.block) c.read_value.new.into) c.in_ok-read_sum.ensures.reads.reads.same_held (c.in_ok-found.ensures.value tells) in
    let missing = value_missing c.in_ok-found.found _ _ c.if-not-found.true value_is in
    some_not_none _ (sym (agrees c.requires.mirrored c.requires.parity c.in-Some.block row.0 block_is none row.1) ∙ missing)

pub returns-clause-agree : goal.returns-clause-agree
returns-clause-agree g c = λ tells.
    let v = c.args.view.now in
    let part = c.args.part.now in
    let held = (g.B.Bay.disks c.args.bay.now).held in
    let block = c.in-Some.block in
    let block_is = sym c.block_at.ensures ∙ c.in-Some.is in
    let none : site_at part.places c.args.position c.args.sector ≡ None = sym c.site_at.ensures ∙ none_from_not_some _ (sym c.is_some.ensures ∙ c.if-is_some.false) in
    let row = some_from_is_some (row_without part.places c.args.position c.args.sector) (sym c.has_row.ensures ∙ c.if-not-has_row.false) in
    let value_is = subst (λ (image : Image). IsValue c.in_ok-found.found (value v image block) c.read_value.new.into) c.in_ok-read_sum.ensures.reads.reads.same_held (c.in_ok-found.ensures.value tells) in
    let there : value v held block ≡ Some c.read_value.new.into = value_there c.in_ok-found.found _ _ c.if-not-found.false value_is in
    let sum_is = c.in_ok-read_sum.ensures.sum tells row.0 row.1 in
    decides (RowAgrees v held c.args.element part c.args.position c.args.sector) c.is_same.result
    (λ yes mirrored parity block' sites' block_is' none' row_is'.
    let b : block ≡ block' = same_Some block block' (sym block_is ∙ block_is') in
    let s : row.0 ≡ sites' = same_Some row.0 sites' (sym row.1 ∙ row_is') in
    ap (value v held) (sym b) ∙ there ∙ ap Some (sym (c.is_same.ensures.yes yes) ∙ sum_is ∙ ap (sum_at held) s))
    (λ no agrees.
    c.is_same.ensures.no no (sum_is ∙ same_Some _ _ (sym (agrees c.requires.mirrored c.requires.parity block row.0 block_is none row.1) ∙ there)))

pub read_value-requires-clause-row : goal.read_value-requires-clause-row
read_value-requires-clause-row g c =
    let part = c.args.part.now in
    let row = some_from_is_some (row_without part.places c.args.position c.args.sector) (sym c.has_row.ensures ∙ c.if-not-has_row.false) in
    let at = among_rows c.args.view.now c.requires.known c.in-Some.block c.args.element c.args.position c.args.sector part row.0 c.requires.part c.requires.parity (sym c.block_at.ensures ∙ c.in-Some.is) row.1 in
    (at.0, (row.0, at.1))

pub returns-in_err-read_sum-clause-failed : goal.returns-in_err-read_sum-clause-failed
returns-in_err-read_sum-clause-failed g c =
    let part = c.args.part.now in
    let row = some_from_is_some (row_without part.places c.args.position c.args.sector) (sym c.has_row.ensures ∙ c.if-not-has_row.false) in
    let p = err_from_is_err_and c.from_residual.result c.from_residual.ensures.1 in
    rw (p.1, p.2) (
      row_of_compared c.args.view.now c.requires.known c.requires.mirrored c.in-Some.block c.args.element c.args.position c.args.sector part row.0 c.requires.part c.requires.parity (sym c.block_at.ensures ∙ c.in-Some.is) row.1 _
          c.in_err-read_sum.ensures.named,
      c.in_err-read_sum.ensures.failed,
    )
