use Rattle.std.proofs.Common.{filter_map, map, ap, ◌∙◌}
use Rattle.ddf_view.specs.View.{View, key_of_slot, notes_of, view_of}
use Rattle.ddf_view.specs.Differ.{key_of}
use Rattle.ddf_view.proofs.Views.{slot_keys}
use Rattle.ddf_view.proofs.view.View.slots.Goals as goal

pub returns : goal.returns
unfolding view_of
returns c =
    let copy = c.self.inside.copy.now in
    ap (filter_map key_of_slot) c.items.ensures ∙ slot_keys (notes_of copy) 0 copy.slots ∙ ap (λ (view : View). map key_of view.elements) c.self.view_is
