use Rattle.std.proofs.Common.{◌<◌, ◌+◌, ◌*◌, ◌∙◌, [], ◌∷◌, ap, length, get_or, arith}
use Rattle.ddf_seal.specs.Unread.{written}
use Rattle.ddf_tables.specs.declared.bad_blocks.BadBlock.{BadBlock}
use Rattle.ddf_tables.specs.declared.layout.TheConstants.{LOG_ENTRIES_AT, LOG_ENTRY_BYTES}
use Rattle.ddf_tables.specs.BadBlocks.{entry_fields}
use Rattle.ddf_tables.proofs.LogEntries.{written_more}
use Rattle.ddf_tables.proofs.bad_blocks.put_entries.Goals as goal

pub loop-index-preserved : goal.loop-index-preserved
loop-index-preserved c =
    let i = c.loop-index.index in
    let entries = c.args.entries.now in
    let none : BadBlock = record { start = 0; spare = 0; count = 0 } in
    let lt : i < length entries = omega arith in
    c.put_entry.ensures ∙ ap (written (entry_fields (LOG_ENTRIES_AT + LOG_ENTRY_BYTES * i) (get_or entries i none ∷ []))) c.loop-index.invariant ∙ written_more entries c.args.section.now i none lt
