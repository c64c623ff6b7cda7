use Rattle.std.proofs.Common.{◌≡◌, ◌+◌, ◌*◌, ◌∙◌, refl, ap, length}
use Rattle.ddf_tables.specs.declared.layout.TheConstants.{LOG_ENTRIES_AT, LOG_ENTRY_BYTES}
use Rattle.ddf_tables.specs.Places.{each_at}
use Rattle.ddf_tables.specs.BadBlocks.{entry_at}
use Rattle.ddf_tables.proofs.Parts.{each_at_more, length-each_at}
use Rattle.ddf_tables.proofs.bad_blocks.read_entries.Goals as goal

pub loop-index-init : goal.loop-index-init
unfolding each_at
loop-index-init c = record { read = c.in_ok-entries.ensures.items; count = ap length c.in_ok-entries.ensures.items }

pub loop-index-preserved : goal.loop-index-preserved
loop-index-preserved c =
    let i = c.loop-index.index in
    let section = c.args.section.now in
    let more = each_at_more (entry_at section) LOG_ENTRY_BYTES LOG_ENTRIES_AT i (LOG_ENTRIES_AT + LOG_ENTRY_BYTES * i) refl in
    let read : c.push.new.self.items ≡ each_at (entry_at section) LOG_ENTRY_BYTES LOG_ENTRIES_AT (i + 1) = rw (c.in_ok-push.ensures.items, c.loop-index.invariant.read, c.entry_at.ensures, more) refl in
    record { read = read; count = ap length read ∙ length-each_at (entry_at section) LOG_ENTRY_BYTES LOG_ENTRIES_AT (i + 1) }
