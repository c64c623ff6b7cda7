use Rattle.std.proofs.Common.{inl, inr, ⊎_elim, refl}
use Rattle.ddf_answer.proofs.Causes.{ends_by}
use Rattle.ddf_command.proofs.dispatch.obey.Goals as goal

pub returns-in-Examine-clause-done : goal.returns-in-Examine-clause-done
returns-in-Examine-clause-done g c = rw c.in-Examine.is c.examine.ensures.done

pub returns-in-Examine-clause-ends : goal.returns-in-Examine-clause-ends
returns-in-Examine-clause-ends g c = rw c.in-Examine.is (ends_by _ _ _ inl c.examine.ensures.ends)

pub returns-in-Label-clause-done : goal.returns-in-Label-clause-done
returns-in-Label-clause-done g c = rw c.in-Label.is (rw c.items.ensures at c.label.ensures.done)

pub returns-in-Label-clause-ends : goal.returns-in-Label-clause-ends
returns-in-Label-clause-ends g c = rw c.in-Label.is (ends_by _ _ _ inl c.label.ensures.ends)

pub returns-in-Assemble-clause-done : goal.returns-in-Assemble-clause-done
returns-in-Assemble-clause-done g c = rw c.in-Assemble.is c.assemble_disks.ensures.done

pub returns-in-Assemble-clause-ends : goal.returns-in-Assemble-clause-ends
returns-in-Assemble-clause-ends g c = rw c.in-Assemble.is (ends_by _ _ _ inl c.assemble_disks.ensures.ends)

pub returns-in-Show-clause-done : goal.returns-in-Show-clause-done
returns-in-Show-clause-done g c = rw c.in-Show.is c.show.ensures.done

pub returns-in-Show-clause-ends : goal.returns-in-Show-clause-ends
returns-in-Show-clause-ends g c = rw c.in-Show.is (ends_by _ _ _ inl c.show.ensures.ends)

pub returns-in-Read-clause-done : goal.returns-in-Read-clause-done
returns-in-Read-clause-done g c = rw c.in-Read.is (rw c.items-in-Read.ensures at c.read.ensures.done)

pub returns-in-Read-clause-ends : goal.returns-in-Read-clause-ends
returns-in-Read-clause-ends g c = rw c.in-Read.is (ends_by _ _ _ inl c.read.ensures.ends)

pub returns-in-Scrub-clause-done : goal.returns-in-Scrub-clause-done
returns-in-Scrub-clause-done g c = rw c.in-Scrub.is (rw c.items-in-Scrub.ensures at c.scrub_disks.ensures.done)

pub returns-in-Scrub-clause-ends : goal.returns-in-Scrub-clause-ends
returns-in-Scrub-clause-ends g c = rw c.in-Scrub.is (ends_by _ _ _ inl c.scrub_disks.ensures.ends)

pub returns-in-Resync-clause-done : goal.returns-in-Resync-clause-done
returns-in-Resync-clause-done g c = rw c.in-Resync.is (rw c.items-in-Resync.ensures at c.resync_disks.ensures.done)

pub returns-in-Resync-clause-ends : goal.returns-in-Resync-clause-ends
returns-in-Resync-clause-ends g c = rw c.in-Resync.is (ends_by _ _ _ inl c.resync_disks.ensures.ends)

pub returns-in-Rebuild-clause-done : goal.returns-in-Rebuild-clause-done
returns-in-Rebuild-clause-done g c = rw c.in-Rebuild.is (rw c.items-in-Rebuild.ensures at c.rebuild.ensures.done)

pub returns-in-Rebuild-clause-ends : goal.returns-in-Rebuild-clause-ends
returns-in-Rebuild-clause-ends g c = rw c.in-Rebuild.is (ends_by _ _ _ inl c.rebuild.ensures.ends)

pub returns-in-Copyback-clause-done : goal.returns-in-Copyback-clause-done
returns-in-Copyback-clause-done g c = rw c.in-Copyback.is (rw c.items-in-Copyback.ensures at c.copyback.ensures.done)

pub returns-in-Copyback-clause-ends : goal.returns-in-Copyback-clause-ends
returns-in-Copyback-clause-ends g c = rw c.in-Copyback.is (ends_by _ _ _ inl c.copyback.ensures.ends)

pub returns-in-Write-clause-done : goal.returns-in-Write-clause-done
returns-in-Write-clause-done g c = rw c.in-Write.is (rw c.items-in-Write.ensures at c.write.ensures.done)

pub returns-in-Write-clause-ends : goal.returns-in-Write-clause-ends
returns-in-Write-clause-ends g c = rw c.in-Write.is (ends_by _ _ _ (λ rose. ⊎_elim inl (λ input. inr (refl, input)) rose) c.write.ensures.ends)

pub returns-in-Import-clause-done : goal.returns-in-Import-clause-done
returns-in-Import-clause-done g c = rw c.in-Import.is c.import.ensures.done

pub returns-in-Import-clause-ends : goal.returns-in-Import-clause-ends
returns-in-Import-clause-ends g c = rw c.in-Import.is (ends_by _ _ _ inl c.import.ensures.ends)

pub change-requires : goal.change-requires
change-requires g c = rw c.in-Change.is at c.requires

pub returns-in-Change-clause-done : goal.returns-in-Change-clause-done
returns-in-Change-clause-done g c = rw c.in-Change.is c.change.ensures.done

pub returns-in-Change-clause-ends : goal.returns-in-Change-clause-ends
returns-in-Change-clause-ends g c = rw c.in-Change.is (ends_by _ _ _ inl c.change.ensures.ends)
