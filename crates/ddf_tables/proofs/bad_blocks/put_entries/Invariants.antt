use Rattle.std.proofs.Common.{◌≡◌, take}
use Rattle.ddf_seal.specs.Unread.{written}
use Rattle.ddf_tables.specs.declared.layout.TheConstants.{LOG_ENTRIES_AT}
use Rattle.ddf_tables.specs.BadBlocks.{entry_fields}
use Rattle.ddf_tables.proofs.bad_blocks.put_entries.Given as goal

abbrev pub invariant-loop-index : goal.invariant-loop-index
invariant-loop-index l = l.section ≡ written (entry_fields LOG_ENTRIES_AT (take l.index l.entries)) l.initial.section
