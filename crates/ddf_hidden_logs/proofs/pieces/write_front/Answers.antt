use Rattle.std.proofs.Common.{refl}
use Rattle.ddf_hidden_logs.specs.State.{shown_state}
use Rattle.ddf_bay.proofs.Fronts.{first_adds, front_adds, front_stops}
use Rattle.ddf_hidden_logs.proofs.pieces.write_front.Goals as goal

pub returns-in_err-write_one-clause-left : goal.returns-in_err-write_one-clause-left
returns-in_err-write_one-clause-left g c =
    first_adds c.args.slot c.args.lba c.args.from.now _ c.requires.some refl
    (shown_state c.args.masks.now (g.B.Bay.disks c.args.bay.now)).may_hold (shown_state c.args.masks.now (g.B.Bay.disks c.write_one.new.bay)).may_hold c.write_one.ensures.left

pub returns-then-plain-eq0-clause-left : goal.returns-then-plain-eq0-clause-left
returns-then-plain-eq0-clause-left g c =
    first_adds c.args.slot c.args.lba c.args.from.now _ c.requires.some refl
    (shown_state c.args.masks.now (g.B.Bay.disks c.args.bay.now)).may_hold (shown_state c.args.masks.now (g.B.Bay.disks c.write_one.new.bay)).may_hold c.write_one.ensures.left

pub returns-in_err-write_plain-clause-left : goal.returns-in_err-write_plain-clause-left
returns-in_err-write_plain-clause-left g c =
    front_adds c.args.lba c.args.from.now c.plain_length_at-plain.result c.plain_length_at-plain.ensures.most c.args.slot
    (shown_state c.args.masks.now (g.B.Bay.disks c.args.bay.now)).may_hold (shown_state c.args.masks.now (g.B.Bay.disks c.write_plain.new.bay)).may_hold c.write_plain.ensures.left

pub returns-in_err-write_plain-clause-any_moment : goal.returns-in_err-write_plain-clause-any_moment
returns-in_err-write_plain-clause-any_moment g c =
    front_stops c.args.slot c.args.lba c.args.from.now c.plain_length_at-plain.result c.plain_length_at-plain.ensures.most
    (shown_state c.args.masks.now (g.B.Bay.disks c.args.bay.now)) (shown_state c.args.masks.now (g.B.Bay.disks c.write_plain.new.bay)) c.write_plain.ensures.any_moment

pub returns-clause-left : goal.returns-clause-left
returns-clause-left g c =
    front_adds c.args.lba c.args.from.now c.plain_length_at-plain.result c.plain_length_at-plain.ensures.most c.args.slot
    (shown_state c.args.masks.now (g.B.Bay.disks c.args.bay.now)).may_hold (shown_state c.args.masks.now (g.B.Bay.disks c.write_plain.new.bay)).may_hold c.write_plain.ensures.left

pub returns-clause-any_moment : goal.returns-clause-any_moment
returns-clause-any_moment g c =
    front_stops c.args.slot c.args.lba c.args.from.now c.plain_length_at-plain.result c.plain_length_at-plain.ensures.most
    (shown_state c.args.masks.now (g.B.Bay.disks c.args.bay.now)) (shown_state c.args.masks.now (g.B.Bay.disks c.write_plain.new.bay)) c.write_plain.ensures.any_moment
