use Rattle.std.proofs.Common.{◌∙◌, ◌<◌, ℕ, length, sym}
use Rattle.ddf_words.proofs.Finds.{found_is}
use Rattle.ddf_disk_commands.specs.LabelRefusal.{is_small}
use Rattle.ddf_disk_commands.proofs.label_slots.misfit.Goals as goal

pub size-requires : goal.size-requires
size-requires g c = found_is (λ (slot : ℕ). slot < length (g.B.Bay.disks c.args.bay.now).sizes) (is_small c.args.layout (g.B.Bay.disks c.args.bay.now).sizes) c.args.slots.now c.in-Some-first_small.slot c.requires (sym c.first_small.ensures ∙ c.in-Some-first_small.is)
