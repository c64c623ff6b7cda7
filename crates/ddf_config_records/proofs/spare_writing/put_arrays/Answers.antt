use Rattle.std.proofs.Common.{◌≡◌, ◌+◌, ◌*◌, ◌<◌, ◌∙◌, ap, length, get_or, List, ℕ, arith}
use Rattle.ddf_seal.specs.Unread.{placed}
use Rattle.ddf_config_records.specs.declared.layout.TheConstants.{SPARE_ENTRIES_AT, SPARE_ENTRY_BYTES}
use Rattle.ddf_config_records.proofs.Spares.{written_more}
use Rattle.ddf_config_records.proofs.spare_writing.put_arrays.Goals as goal

pub loop-index-preserved : goal.loop-index-preserved
loop-index-preserved c =
    let arrays = c.args.arrays.now in
    let i = c.loop-index.index in
    let one = c.index-arrays-index.result in
    let lt : i < length arrays = omega arith in
    let guid : c.bytes.result ≡ get_or arrays i one = c.bytes.ensures ∙ c.index-arrays-index.is in
    c.place.ensures ∙ ap (placed c.loop-index.into (SPARE_ENTRIES_AT + SPARE_ENTRY_BYTES * i)) guid ∙ ap (λ (l : List ℕ). placed l (SPARE_ENTRIES_AT + SPARE_ENTRY_BYTES * i) (get_or arrays i one)) c.loop-index.invariant
    ∙ written_more c.args.into.now arrays i one lt
