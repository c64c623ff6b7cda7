use Rattle.std.proofs.Common.{ℕ}
use Rattle.ddf_bay.specs.Sectors.{IsWhole}
use Rattle.ddf_bay.specs.State.{size_of}
use Rattle.ddf_linux.specs.Kinds.{turn}
use Rattle.ddf_linux.specs.TurnLaws.{turned_whole}
use Rattle.ddf_linux.specs.TurnedBays.{inner_of, kind_of}
use Rattle.ddf_linux.proofs.FoundedDisks.{disk_below}
use Rattle.ddf_linux.proofs.laws.a_founded_disk_is_sealed_for_linux.Goals as goal

pub returns : goal.returns
returns g c = λ layout bay image left slot copy large kind on_disk both.
    let whole : (l : ℕ) → IsWhole (image slot l) =
    λ l. turned_whole (kind_of bay slot) l (image slot l) ((g.met.B.Bay.told (inner_of bay)).whole slot l (turn (kind_of bay slot) l (image slot l)) (left slot l)) in
    rw kind (disk_below layout (size_of (g.B.Bay.disks (inner_of bay)) slot) large (image slot) whole copy on_disk both)
