use Rattle.std.proofs.Common.{◌≡◌, ◌∙◌, ℕ, true, sym, ap, subst, arith, length}
use Rattle.std.specs.Prelude.{is_some}
use Rattle.std.specs.List.{flat_map, range_with_len}
use Rattle.ddf_array.specs.Sources.{all_of}
use Rattle.ddf_array.specs.Sources.{other_at}
use Rattle.ddf_array.proofs.RowCells.{row_is, row_more, row_lacks}
use Rattle.ddf_array.proofs.part.Part.has_row.Goals as goal

pub returns-then-not-has_other : goal.returns-then-not-has_other
returns-then-not-has_other c =
    let places = c.args.self.now.places in
    let n : length c.items-other-end.result.now ≡ length places = ap length c.items-other-end.ensures in
    sym (ap is_some (row_is places c.args.position c.args.sector)
    ∙ row_lacks places c.args.position c.args.sector (length places) c.loop-other.other (omega (arith, n, c.loop-other-test.true)) (sym c.has_other.ensures ∙ c.if-not-has_other.true))

pub loop-other-preserved : goal.loop-other-preserved
loop-other-preserved c =
    row_more c.args.self.now.places c.args.position c.args.sector c.loop-other.other c.loop-other.invariant (sym c.has_other.ensures ∙ c.if-not-has_other.false)

pub returns : goal.returns
returns c =
    let places = c.args.self.now.places in
    let n : length c.items-other-end.result.now ≡ length places = ap length c.items-other-end.ensures in
    let all : c.loop-other.other ≡ length places = omega (arith, n, c.loop-other-test.false, c.loop-other.auto.other-end) in
    sym (ap is_some (row_is places c.args.position c.args.sector)
    ∙ subst (λ (k : ℕ). is_some (all_of (flat_map (other_at places c.args.sector c.args.position) (range_with_len 0 k))) ≡ true) all c.loop-other.invariant)
