use Rattle.std.proofs.Common.{◌≡◌, ◌∙◌, ◌≤◌, ℕ, List, length, sym, ap, arith}
use Rattle.std.specs.Prelude.{slice_index}
use Rattle.std.proofs.lemmas.List.{length-map, take_all}
use Rattle.ddf_update.specs.NewCopies.{sizes_of}
use Rattle.ddf_update.specs.NewLayouts.{least_sectors}
use Rattle.ddf_disk_commands.proofs.Fits.{large_sizes}
use Rattle.ddf_update.specs.Group.{slot_sizes}
use Rattle.ddf_disk_commands.proofs.labelling.updates_of.Goals as goal

pub found-requires-clause-large : goal.found-requires-clause-large
found-requires-clause-large g c =
    let sizes : List ℕ = (g.B.Bay.disks c.args.bay.now).sizes in
    let slots : List ℕ = c.args.slots.now in
    let all : length slots ≤ c.loop-slot.slot-index = omega (arith, c.loop-slot-test.false, c.loop-slot.auto.slot-index-end, c.loop-slot.invariant.end) in
    let made : sizes_of c.deref.result.now ≡ slot_sizes sizes slots = ap sizes_of c.deref.ensures.value ∙ c.loop-slot.invariant.so_far ∙ ap (slot_sizes sizes) (take_all c.loop-slot.slot-index slots all) in
    let counted : length c.deref.result.now ≡ length slots = sym (length-map c.deref.result.now _) ∙ ap length made ∙ length-map slots (slice_index sizes) in
    λ i lt. rw made (large_sizes (least_sectors c.args.layout) sizes slots c.requires.fit.large i (omega (arith, lt, counted)))
