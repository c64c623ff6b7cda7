use Rattle.std.proofs.Common.{◌+◌, ◌*◌, ◌∙◌, sym, ap}
use Rattle.ddf_seal.specs.Unread.{cleared}
use Rattle.ddf_tables.specs.declared.layout.TheConstants.{LOG_ENTRIES_AT, LOG_ENTRY_BYTES}
use Rattle.ddf_tables.specs.BadBlocks.{entry_spans}
use Rattle.ddf_tables.proofs.LogEntries.{cleared_none, cleared_more}
use Rattle.ddf_tables.proofs.bad_blocks.clear_entries.Goals as goal

pub loop-index-init : goal.loop-index-init
loop-index-init c = sym (cleared_none c.args.section.now)

pub loop-index-preserved : goal.loop-index-preserved
loop-index-preserved c =
    let i = c.loop-index.index in
    c.clear_entry.ensures ∙ ap (cleared (entry_spans (LOG_ENTRIES_AT + LOG_ENTRY_BYTES * i))) c.loop-index.invariant ∙ cleared_more c.args.section.now i
