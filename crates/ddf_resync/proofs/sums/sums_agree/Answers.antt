use Rattle.std.proofs.Common.{◌≡◌, ◌∙◌, ◌+◌, length, true, sym, ap, arith}
use Rattle.std.proofs.lemmas.Result.{err_from_is_err_and}
use Rattle.ddf_array.specs.Levels.{keeps_parity}
use Rattle.ddf_array.specs.Values.{sum_at}
use Rattle.ddf_primary.proofs.ShapeFacts.{depth_le}
use Rattle.std.proofs.Common.{ℕ, ◌<◌, ◌≤◌, List, [], Some, map, rules}
use Rattle.std.proofs.lemmas.Grind.{common_steps}
use Rattle.std.specs.Prelude.{slice_index_or}
use Rattle.std.specs.List.{list_all}
use Rattle.ddf_lemmas.proofs.Tests.{true_not_false}
use Rattle.ddf_parity.specs.Xor.{zeros}
use Rattle.ddf_array.specs.declared.site.Site.{Site}
use Rattle.ddf_array.specs.Places.{is_available}
use Rattle.ddf_array.specs.Redundant.{whole_row}
use Rattle.ddf_read.specs.Along.{further}
use Rattle.ddf_read.specs.Sums.{other_sites}
use Rattle.ddf_resync.specs.Agreeing.{SumAgrees}
use Rattle.ddf_resync.proofs.Comparing.{whole_compared}
use Rattle.ddf_resync.proofs.Failing.{all_or_not, available_whole, whole_available, whole_sites}
use Rattle.ddf_resync.proofs.sums.sums_agree.Goals as goal

pub sum_rows-requires-clause-part : goal.sum_rows-requires-clause-part
sum_rows-requires-clause-part g c = c.requires.known.are_parts c.args.element c.args.part.now c.requires.part

pub sum_rows-requires-clause-fits : goal.sum_rows-requires-clause-fits
sum_rows-requires-clause-fits g c = c.requires.fits c.args.element c.args.part.now c.requires.part

pub returns-then-not-all_available-clause-agree : goal.returns-then-not-all_available-clause-agree
returns-then-not-all_available-clause-agree g c = λ tells k below parity sites whole.
    absurd (true_not_false (sym (whole_available c.args.part.now (c.args.sector + k) sites whole) ∙ ap (list_all is_available) (sym c.items-places.ensures) ∙ sym c.all_available.ensures ∙ c.if-not-all_available.true))

pub sum_rows-requires-clause-sectors : goal.sum_rows-requires-clause-sectors
sum_rows-requires-clause-sectors g c =
    let shape = c.args.part.now.shape in
    let inside : c.args.sector + c.args.count ≤ shape.blocks = omega (arith, c.requires.sectors, depth_le shape.layout shape.strip shape.blocks) in
    first_of (grind (arith, common_steps), search rules)

pub returns-in_err-sum_rows-clause-failed : goal.returns-in_err-sum_rows-clause-failed
returns-in_err-sum_rows-clause-failed g c =
    let p = err_from_is_err_and c.from_residual.result c.from_residual.ensures.1 in
    let part = c.args.part.now in
    let len : length c.items-places.result.now ≡ length part.places = ap length c.items-places.ensures in
    let all : list_all is_available part.places ≡ true = ap (list_all is_available) (sym c.items-places.ensures) ∙ sym c.all_available.ensures ∙ c.if-not-all_available.false in
    let kept : keeps_parity part.shape.layout ≡ true = ap keeps_parity (sym c.layout.ensures) ∙ sym c.keeps_parity.ensures ∙ c.if-not-keeps_parity.false in
    rw (p.1, p.2) (
      whole_compared c.args.view.now c.args.element part c.requires.part kept c.args.sector (omega (arith, c.requires.sectors, c.requires.some)) all (length c.items-places.result.now) _ len c.in_err-sum_rows.ensures.among,
      c.in_err-sum_rows.ensures.failed,
    )

pub returns-clause-agree : goal.returns-clause-agree
returns-clause-agree g c = λ tells.
    let part = c.args.part.now in
    let held = (g.B.Bay.disks c.args.bay.now).held in
    let out = c.sum_rows.new.into in
    let n : length out ≡ c.args.count = first_of (grind (arith, common_steps), search rules) in
    let len : length c.items-places.result.now ≡ length part.places = ap length c.items-places.ensures in
    let all : list_all is_available part.places ≡ true = ap (list_all is_available) (sym c.items-places.ensures) ∙ sym c.all_available.ensures ∙ c.if-not-all_available.false in
    let kept : keeps_parity part.shape.layout ≡ true = ap keeps_parity (sym c.layout.ensures) ∙ sym c.keeps_parity.ensures ∙ c.if-not-keeps_parity.false in
    let summed : (k : ℕ) (sites : List Site) → k < c.args.count → whole_row part (c.args.sector + k) ≡ Some sites → slice_index_or out k [] ≡ sum_at held sites =
    λ k sites below whole.
    c.in_ok-sum_rows.ensures.sums tells k (omega (arith, below, n)) ∙ ap (λ m. sum_at held (map (further k) (other_sites part.places c.args.sector m))) len ∙ ap (sum_at held) (whole_sites part c.args.sector k sites whole) in
    all_or_not (λ k. slice_index_or out k [] ≡ zeros) (λ k. SumAgrees held part (c.args.sector + k)) c.are_zeros.result (length out) c.args.count n
    (λ k below is parity sites whole. sym (summed k sites below whole) ∙ is)
    (λ k below never agrees. let found = available_whole part (c.args.sector + k) all in never (summed k found.0 below found.1 ∙ agrees kept found.0 found.1))
    c.are_zeros.ensures
