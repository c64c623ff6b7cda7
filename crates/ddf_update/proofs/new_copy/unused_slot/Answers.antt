use Rattle.std.proofs.Common.{◌≡◌, replicate, refl}
use Rattle.ddf_update.specs.NewCopies.{unused_slot}
use Rattle.ddf_update.proofs.new_copy.unused_slot.Goals as goal

pub returns : goal.returns
unfolding unused_slot
returns c =
    let full : c.in_ok-bytes.bytes.items ≡ replicate c.args.size 255 = c.in_ok-bytes.ensures.items_if_clones_equal (λ y e. e) in
    rw (c.new.ensures, full) refl
