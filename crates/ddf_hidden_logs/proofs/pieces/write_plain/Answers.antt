use Rattle.std.proofs.Common.{◌+◌, [], get_or, refl, sym, ap, ◌∙◌}
use Rattle.std.proofs.lemmas.Result.{on_ok_weaker}
use Rattle.ddf_hidden_logs.specs.Masks.{mask_of}
use Rattle.ddf_hidden_logs.specs.TurnLaws.{turn_plain}
use Rattle.ddf_hidden_logs.specs.State.{shown_image}
use Rattle.ddf_hidden_logs.proofs.Views.{adds_shown, stops_shown, put_shown}
use Rattle.ddf_hidden_logs.proofs.pieces.write_plain.Goals as goal

pub returns-clause-held : goal.returns-clause-held
returns-clause-held g c = λ tells.
    on_ok_weaker c.write_run.result (λ is. ap (shown_image c.args.masks.now) is ∙ put_shown c.args.masks.now c.args.slot c.args.lba c.args.from.now c.args.from.now refl (λ k lt. sym (turn_plain (mask_of c.args.masks.now c.args.slot) (c.args.lba + k) (get_or c.args.from.now k []) (c.requires.plain k lt))) (g.B.Bay.disks c.args.bay.now).held) (c.write_run.ensures.held tells)

pub returns-clause-left : goal.returns-clause-left
returns-clause-left g c =
    adds_shown c.args.masks.now c.args.slot c.args.lba c.args.from.now c.args.from.now refl (λ k lt. sym (turn_plain (mask_of c.args.masks.now c.args.slot) (c.args.lba + k) (get_or c.args.from.now k []) (c.requires.plain k lt)))
    (g.B.Bay.disks c.args.bay.now).may_hold (g.B.Bay.disks c.write_run.new.self).may_hold c.write_run.ensures.left

pub returns-clause-any_moment : goal.returns-clause-any_moment
returns-clause-any_moment g c =
    stops_shown c.args.masks.now c.args.slot c.args.lba c.args.from.now c.args.from.now refl (λ k lt. sym (turn_plain (mask_of c.args.masks.now c.args.slot) (c.args.lba + k) (get_or c.args.from.now k []) (c.requires.plain k lt)))
    (g.B.Bay.disks c.args.bay.now) (g.B.Bay.disks c.write_run.new.self) c.write_run.ensures.any_moment
