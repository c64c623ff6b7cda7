use Rattle.std.proofs.Common.{◌≡◌, ◌+◌, suc, ◌++◌, List, ℕ, Some, take, refl, ap, ◌∙◌, arith, append_assoc, zero-add}
use Rattle.std.proofs.lemmas.Option.{slice_get_read}
use Rattle.std.specs.Prelude.{slice_get}
use Rattle.std.specs.String.{string_bytes}
use Rattle.ddf_text.specs.Records.{record_line, record_lines}
use Rattle.ddf_text.proofs.Listings.{lines_more}
use Rattle.ddf_text.proofs.listing.push_records.Goals as goal

pub loop-number-preserved : goal.loop-number-preserved
loop-number-preserved c =
    let here : slice_get c.args.slots.now c.loop-number.number ≡ Some c.index-slots-number.result = slice_get_read c.args.slots.now _ c.loop-number.number c.index-slots-number.result refl c.loop-number-test.true c.index-slots-number.is in
    let next : c.loop-number.number + 1 ≡ suc c.loop-number.number = omega arith in
    rw (next, lines_more 0 c.args.slots.now c.loop-number.number c.index-slots-number.result here, zero-add c.loop-number.number)
    (c.in_ok-push_record.ensures ∙ ap (λ (text : List ℕ). text ++ record_line c.loop-number.number c.index-slots-number.result) c.loop-number.invariant ∙ append_assoc (string_bytes c.args.text.now) (record_lines 0 (take c.loop-number.number c.args.slots.now)) (record_line c.loop-number.number c.index-slots-number.result))
