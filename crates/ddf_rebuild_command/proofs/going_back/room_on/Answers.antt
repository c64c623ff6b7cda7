use Rattle.std.proofs.Common.{◌≡◌, ℕ, [], ◌∷◌, None, Some, Err, subst, sym}
use Rattle.ddf_config.specs.declared.refusal.Refusal.TheVariants.{BadBlocks}
use Rattle.ddf_config.specs.Refusals.{first_refusal}
use Rattle.ddf_repair.specs.Choose.{room_for}
use Rattle.ddf_read_commands.proofs.ArrayUse.{named_is}
use Rattle.ddf_rebuild_command.specs.GoingBack.{room_of}
use Rattle.ddf_rebuild_command.proofs.BackMade.{bad_room, disk_free}
use Rattle.ddf_rebuild_command.proofs.going_back.room_on.Goals as goal

pub returns-in-Some-bad_seat : goal.returns-in-Some-bad_seat
returns-in-Some-bad_seat c =
    let there = named_is c.args.config.now.arrays c.requires.named.0 (c.args.guid.now, c.args.array.now) c.requires.named.1 in
    let none : first_refusal (c.refuse_if.result ∷ c.refuse_if-2.result ∷ []) ≡ None = sym c.in_default.ensures in
    let free =
    disk_free c.args.config.now c.args.linux.now c.args.array.now c.args.slot c.reference_on-reference.result c.in_ok-taken.taken c.is_among.result c.from.result c.refuse_if.result c.refuse_if-2.result
    c.passed_over-aside.result.now c.refuse_if.ensures c.from.ensures c.in_ok-taken.ensures c.refuse_if-2.ensures c.is_among.ensures (c.passed_over-aside.ensures c.args.array.now there) none in
    let room : room_for c.args.config.now c.args.guid.now c.args.seats.now c.args.target.now c.reference_on-reference.result ≡ Some c.in-Some-2.room =
    (let e = c.in_ok-room.ensures in let f = c.in-Some-2.is in cc) in
    subst
    (λ (reference : ℕ). room_of c.args.config.now c.args.seats.now c.args.linux.now (c.args.guid.now, c.args.array.now) c.args.slot reference c.args.target.now ≡ Err (BadBlocks c.in-Some-bad_seat.seat.now.slot))
    c.reference_on-reference.ensures
    (bad_room c.args.config.now c.args.seats.now c.args.linux.now (c.args.guid.now, c.args.array.now) c.args.slot c.reference_on-reference.result c.args.target.now c.in-Some-2.room
    c.in-Some-bad_seat.seat.now free room (sym c.in-Some-bad_seat.ensures))
