use Rattle.ddf_data_group.proofs.Clearly.{rebuild_changes, resync_changes, write_changes}
use Rattle.ddf_data_group.proofs.laws.only_an_arrays_cells_change.Goals as goal

pub returns-clause-write : goal.returns-clause-write
returns-clause-write c = write_changes

pub returns-clause-resync : goal.returns-clause-resync
returns-clause-resync c = resync_changes

pub returns-clause-rebuild : goal.returns-clause-rebuild
returns-clause-rebuild c = rebuild_changes
