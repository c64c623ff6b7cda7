use Rattle.std.proofs.Common.{◌≡◌, Option, Some, None, sym, ap, subst, ◌∙◌}
use Rattle.std.specs.Map.{lookup}
use Rattle.std.specs.Prelude.{IfOk}
use Rattle.ddf_config.specs.declared.array.Array.{Array}
use Rattle.ddf_config.specs.declared.extent.Extent.{Extent}
use Rattle.ddf_config.specs.Configuration.{Configuration}
use Rattle.ddf_config.specs.Extents.{extents}
use Rattle.ddf_config.specs.Members.{same_guid}
use Rattle.ddf_repair.specs.Choose.{array_room, room_for}
use Rattle.ddf_repair.proofs.room.room_for.Goals as goal

pub returns-in-Some : goal.returns-in-Some
unfolding room_for
returns-in-Some c =
    let config = c.args.config.now in
    let guid = c.args.array.now in
    let there : lookup (same_guid guid) config.arrays ≡ Some c.in-Some.found.now =
    sym (ap (λ (one : Configuration). lookup (same_guid guid) one.arrays) c.config.view_is) ∙ sym c.in-Some.ensures.value in
    subst (λ (found : Option Array). IfOk c.array_room.result (λ (room : Option Extent). room ≡ (elim found [
      | None ↦ None
      | Some array ↦ array_room config.members (extents config.arrays) c.args.seats.now array c.args.target.now.element c.args.reference
    ]))) (sym there) c.array_room.ensures
