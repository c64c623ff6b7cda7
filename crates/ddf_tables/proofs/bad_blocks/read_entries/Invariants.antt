use Rattle.std.proofs.Common.{◌≡◌, length}
use Rattle.ddf_tables.specs.declared.layout.TheConstants.{LOG_ENTRIES_AT, LOG_ENTRY_BYTES}
use Rattle.ddf_tables.specs.Places.{each_at}
use Rattle.ddf_tables.specs.BadBlocks.{entry_at}
use Rattle.ddf_tables.proofs.bad_blocks.read_entries.Given as goal

abbrev pub invariant-loop-index : goal.invariant-loop-index
invariant-loop-index l = record {
  read : l.entries.items ≡ each_at (entry_at l.section) LOG_ENTRY_BYTES LOG_ENTRIES_AT l.index;
  count : length l.entries.items ≡ l.index;
}
