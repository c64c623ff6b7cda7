use Rattle.std.proofs.Common.{◌≡◌}
use Rattle.ddf_seal.specs.Unread.{cleared}
use Rattle.ddf_tables.specs.declared.layout.TheConstants.{LOG_ENTRIES_AT}
use Rattle.ddf_tables.specs.BadBlocks.{entry_places}
use Rattle.ddf_tables.proofs.bad_blocks.clear_entries.Given as goal

abbrev pub invariant-loop-index : goal.invariant-loop-index
invariant-loop-index l = l.section ≡ cleared (entry_places LOG_ENTRIES_AT l.index) l.initial.section
