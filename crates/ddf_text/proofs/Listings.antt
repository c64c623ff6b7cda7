-- The lines of records, one after another.
use Rattle.std.proofs.Common.{◌≡◌, ℕ, zero, suc, ◌+◌, List, [], ◌∷◌, ◌++◌, take, Some, sym, ap, ◌∙◌, arith, append-nil, append_assoc, add-zero}
use Rattle.std.specs.Prelude.{slice_get}
use Rattle.ddf_config_records.specs.declared.slot.RecordSlot.{RecordSlot}
use Rattle.ddf_text.specs.Records.{record_line, record_lines}

pub lines_more : (slot : ℕ) (slots : List RecordSlot) (count : ℕ) (held : RecordSlot) → slice_get slots count ≡ Some held
    → record_lines slot (take (suc count) slots) ≡ record_lines slot (take count slots) ++ record_line (slot + count) held
lines_more slot [] count held e = cc
lines_more slot (first ∷ slots) zero held e =
    let same : first ≡ held = cc in
    rw (same, add-zero slot) (append-nil (record_line slot held))
lines_more slot (first ∷ slots) (suc count) held e =
    let places : suc slot + count ≡ slot + suc count = omega arith in
    ap (λ (text : List ℕ). record_line slot first ++ text) (lines_more (suc slot) slots count held e)
    ∙ sym (append_assoc (record_line slot first) (record_lines (suc slot) (take count slots)) (record_line (suc slot + count) held))
    ∙ ap (λ (n : ℕ). (record_line slot first ++ record_lines (suc slot) (take count slots)) ++ record_line n held) places
