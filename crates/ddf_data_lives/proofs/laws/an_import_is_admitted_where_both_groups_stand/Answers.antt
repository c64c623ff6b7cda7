use Rattle.std.proofs.Common.{subst}
use Rattle.ddf_bay.specs.Memory.{disks_of}
use Rattle.ddf_bay.specs.declared.memory.MemoryBay.{MemoryBay}
use Rattle.ddf_history_steps.specs.Kept.{AreAllKept}
use Rattle.ddf_data_lives.proofs.Importing.{import_admitted}
use Rattle.ddf_data_lives.proofs.laws.an_import_is_admitted_where_both_groups_stand.Goals as goal

pub returns : goal.returns
returns c = λ group former old theirs keeps same_bay same_disks none_back left long newest read native other is_found whole admitted none_out.
    import_admitted group former (disks_of old.bay) left long newest read native other is_found whole old.past none_back theirs.past admitted same_disks
    (subst (λ (bay : MemoryBay). AreAllKept former theirs.past (disks_of bay)) same_bay keeps.shows) none_out
