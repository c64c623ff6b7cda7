use Rattle.std.proofs.Common.{◌≡◌, ◌+◌, [], ◌∷◌, ap, ◌∙◌}
use Rattle.ddf_seal.specs.Unread.{cleared, placed}
use Rattle.ddf_update.specs.NewCopies.{new_entry_bytes}
use Rattle.ddf_update.proofs.NewBytes.{entry_cleared}
use Rattle.ddf_update.proofs.new_copy.entry_rest.Goals as goal
use Rattle.ddf_tables.specs.declared.layout.TheConstants.{DISK_GUID_AT, DISK_SIZE_AT}

pub returns : goal.returns
unfolding new_entry_bytes placed
returns c = λ entry.
    let put : c.put16.new.into ≡ new_entry_bytes c.args.revision = rw c.block_size_of.ensures at c.put16.ensures.written in
    c.clear.ensures.unread ∙ ap (cleared (record { at = DISK_GUID_AT; length = DISK_SIZE_AT + 8 } ∷ [])) put ∙ entry_cleared c.args.revision entry
