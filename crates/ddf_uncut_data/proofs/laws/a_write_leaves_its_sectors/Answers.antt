use Rattle.ddf_uncut_data.proofs.Write.{holds_written}
use Rattle.ddf_bytes.specs.Counts.{Rose}
use Rattle.ddf_uncut_data.proofs.laws.a_write_leaves_its_sectors.Goals as goal

pub returns : goal.returns
returns c = λ old new marked volume start sectors before image blocks holds whole writable are left has.
    holds_written (λ slot. Rose (old slot) (new slot)) marked volume start sectors before image blocks holds whole writable are left has
