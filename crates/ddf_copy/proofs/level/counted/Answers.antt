use Rattle.std.proofs.Common.{◌≡◌, ◌∙◌, sym, refl, Some}
use Rattle.std.proofs.lemmas.Option.{slice_get_read}
use Rattle.std.specs.Prelude.{slice_get}
use Rattle.ddf_copy.proofs.Levels.{counted_is, unused_counted, used_counted}
use Rattle.ddf_copy.proofs.level.counted.Goals as goal

pub returns-in-Unused : goal.returns-in-Unused
returns-in-Unused c =
    let copy = c.args.whole.now.copy in
    let slot = c.index-items-index.result in
    let at : slice_get copy.slots c.args.index ≡ Some slot = rw c.items.ensures at (slice_get_read c.items.result.now _ c.args.index slot refl (rw c.items.ensures c.requires.within) c.index-items-index.is) in
    sym (counted_is copy c.args.index slot at ∙ unused_counted copy.header.geometry slot c.in-Unused.field-0 c.in-Unused.is)

pub returns-in_default : goal.returns-in_default
returns-in_default c =
    let copy = c.args.whole.now.copy in
    let slot = c.index-items-index.result in
    let at : slice_get copy.slots c.args.index ≡ Some slot = rw c.items.ensures at (slice_get_read c.items.result.now _ c.args.index slot refl (rw c.items.ensures c.requires.within) c.index-items-index.is) in
    c.slot_bytes.ensures slot at ∙ sym (counted_is copy c.args.index slot at ∙ used_counted copy.header.geometry slot c.in_default.not-Unused)
