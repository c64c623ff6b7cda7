use Rattle.std.proofs.Common.{◌≡◌, ◌∙◌, Some, sym, ap, subst}
use Rattle.ddf_array.specs.declared.part.Part.{Part}
use Rattle.ddf_array.specs.Sources.{row_without}
use Rattle.std.proofs.lemmas.Result.{err_from_is_err_and}
use Rattle.std.proofs.lemmas.Option.{same_Some}
use Rattle.ddf_read.specs.Reading.{HasSite}
use Rattle.ddf_read.proofs.OtherCells.{row_sites}
use Rattle.ddf_resync.specs.Compared.{IsCompared}
use Rattle.ddf_resync.proofs.Comparing.{beside_row, row_compared}
use Rattle.ddf_resync.proofs.Values.{value_row}
use Rattle.ddf_resync.proofs.rows.read_value.Goals as goal

pub returns-clause-value : goal.returns-clause-value
returns-clause-value g c = λ tells.
    let m = c.in-Some-first_missing.ensures in
    let missing = c.in-Some-first_missing.missing in
    let same : m.part ≡ c.in-Some-part.part.now = same_Some m.part c.in-Some-part.part.now (sym m.is_there ∙ c.in-Some-part.ensures.found) in
    let gives = subst (λ (p : Part). row_without p.places missing.position missing.sector ≡ Some m.is_missing.sites) same m.is_missing.gives in
    value_row c.args.view.now (g.B.Bay.disks c.args.bay.now).held c.args.block m.is_missing.sites (sym c.first_copy.ensures ∙ c.in_default.is) m.is_missing.row_is
    ∙ ap Some (sym (c.in_ok-read_sum.ensures.sum tells m.is_missing.sites gives))

-- the copy or the row couldn't be read
pub returns-in_err-read_first-clause-failed : goal.returns-in_err-read_first-clause-failed
returns-in_err-read_first-clause-failed g c =
    let v = c.args.view.now in
    let row = c.requires.row in
    let p = err_from_is_err_and c.from_residual.result c.from_residual.ensures.1 in
    rw (p.1, p.2)
    (subst (IsCompared v) (sym c.in_err-read_first.ensures.named) (beside_row v c.args.block c.in-Some.site row.0 row.1.0 (sym c.first_copy.ensures ∙ c.in-Some.is) row.1.1), c.in_err-read_first.ensures.failed)

pub returns-in_err-read_sum-clause-failed : goal.returns-in_err-read_sum-clause-failed
returns-in_err-read_sum-clause-failed g c =
    let v = c.args.view.now in
    let m = c.in-Some-first_missing.ensures in
    let missing = c.in-Some-first_missing.missing in
    let same : m.part ≡ c.in-Some-part.part.now = same_Some m.part c.in-Some-part.part.now (sym m.is_there ∙ c.in-Some-part.ensures.found) in
    let gives = subst (λ (p : Part). row_without p.places missing.position missing.sector ≡ Some m.is_missing.sites) same m.is_missing.gives in
    let p = err_from_is_err_and c.from_residual-in_err-read_sum.result c.from_residual-in_err-read_sum.ensures.1 in
    rw (p.1, p.2) (
      row_compared v c.args.block c.requires.mirrored 0 _ m.is_missing.sites m.is_missing.row_is
          (subst (HasSite (λ other. other ≡ _)) (row_sites c.in-Some-part.part.now.places missing.position missing.sector m.is_missing.sites gives) c.in_err-read_sum.ensures.named),
      c.in_err-read_sum.ensures.failed,
    )
