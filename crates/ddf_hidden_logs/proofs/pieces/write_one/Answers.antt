use Rattle.std.proofs.Common.{◌∷◌, [], refl, ap, ◌∙◌}
use Rattle.std.proofs.lemmas.Result.{on_err_weaker, on_ok_weaker}
use Rattle.ddf_hidden_logs.specs.State.{shown_image}
use Rattle.ddf_hidden_logs.proofs.Views.{adds_shown, stops_shown, put_shown, mixes_shown, one_each}
use Rattle.ddf_hidden_logs.proofs.pieces.write_one.Goals as goal

pub returns-clause-held : goal.returns-clause-held
returns-clause-held g c = λ tells.
    on_ok_weaker c.write.result (λ is. ap (shown_image c.args.masks.now) is ∙ put_shown c.args.masks.now c.args.slot c.args.lba (c.args.from.now ∷ []) (c.turn_at.new.sector ∷ []) refl (one_each c.args.masks.now c.args.slot c.args.lba c.args.from.now c.turn_at.new.sector c.turn_at.ensures) (g.B.Bay.disks c.args.bay.now).held) (c.write.ensures.held tells)

pub returns-clause-held_failed : goal.returns-clause-held_failed
returns-clause-held_failed g c = λ tells.
    on_err_weaker c.write.result (λ mixes. mixes_shown c.args.masks.now c.args.slot c.args.lba (c.args.from.now ∷ []) (c.turn_at.new.sector ∷ []) refl (one_each c.args.masks.now c.args.slot c.args.lba c.args.from.now c.turn_at.new.sector c.turn_at.ensures) (g.B.Bay.disks c.args.bay.now).held (g.B.Bay.disks c.write.new.self).held mixes) (c.write.ensures.held_failed tells)

pub returns-clause-left : goal.returns-clause-left
returns-clause-left g c =
    adds_shown c.args.masks.now c.args.slot c.args.lba (c.args.from.now ∷ []) (c.turn_at.new.sector ∷ []) refl (one_each c.args.masks.now c.args.slot c.args.lba c.args.from.now c.turn_at.new.sector c.turn_at.ensures)
    (g.B.Bay.disks c.args.bay.now).may_hold (g.B.Bay.disks c.write.new.self).may_hold c.write.ensures.left

pub returns-clause-any_moment : goal.returns-clause-any_moment
returns-clause-any_moment g c =
    stops_shown c.args.masks.now c.args.slot c.args.lba (c.args.from.now ∷ []) (c.turn_at.new.sector ∷ []) refl (one_each c.args.masks.now c.args.slot c.args.lba c.args.from.now c.turn_at.new.sector c.turn_at.ensures)
    (g.B.Bay.disks c.args.bay.now) (g.B.Bay.disks c.write.new.self) c.write.ensures.any_moment
