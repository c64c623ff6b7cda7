use Rattle.std.proofs.Common.{◌-◌, refl, ap, sym, ◌∙◌}
use Rattle.ddf_bay.specs.Sectors.{Image}
use Rattle.ddf_bay.specs.State.{size_of}
use Rattle.ddf_linux.specs.Kinds.{may_be_founded}
use Rattle.ddf_linux.specs.TurnedBays.{inner_of, kind_of}
use Rattle.ddf_linux.proofs.SeenAnew.{blank_is_founded}
use Rattle.ddf_linux.proofs.laws.a_blank_slot_is_seen_as_a_new_disk.Goals as goal

pub returns-clause-kind : goal.returns-clause-kind
returns-clause-kind g c = λ layout inner bay slot reads seen large blank.
    let disks = g.B.Bay.disks inner in
    let below = g.B.Bay.disks (inner_of bay) in
    seen.founded (ap (λ (held : Image). may_be_founded layout (size_of disks slot) (held slot (size_of disks slot - 1))) (sym reads.same_held)
    ∙ blank_is_founded layout (kind_of bay slot) (size_of disks slot) (below.held slot) large blank)

pub returns-clause-places : goal.returns-clause-places
returns-clause-places g c = λ layout revision stamp sizes place. record { primary_is = refl; secondary_is = refl; geometry_is = refl }
