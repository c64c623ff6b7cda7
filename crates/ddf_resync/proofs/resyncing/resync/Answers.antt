use Rattle.std.proofs.Common.{◌≡◌, false, sym}
use Rattle.ddf_array.specs.Within.{is_redundant}
use Rattle.ddf_read.specs.Reading.{Failed}
use Rattle.ddf_cells.proofs.Whole.{readable}
use Rattle.ddf_resync.proofs.Resynced.{not_refused, plain_resynced, plain_set}
use Rattle.ddf_resync.proofs.resyncing.resync.Goals as goal

pub returns-then-not-redundant-clause-resynced : goal.returns-then-not-redundant-clause-resynced
returns-then-not-redundant-clause-resynced g c = λ tells.
    let v = c.args.view.now in
    let old = g.B.Bay.disks c.args.bay.now in
    let is = not_refused v (sym c.in_default.ensures.value) in
    let plain : is_redundant v ≡ false = sym c.if-not-redundant.ensures in
    plain_resynced v c.resync_refusal.ensures.sound plain c.requires.apart is.1 (Failed old old) old.held

pub returns-then-not-redundant-clause-durable : goal.returns-then-not-redundant-clause-durable
returns-then-not-redundant-clause-durable g c = λ tells slot is_set. absurd (plain_set c.args.view.now c.resync_refusal.ensures.sound (sym c.if-not-redundant.ensures) slot is_set)

pub resync_all-requires-clause-readable : goal.resync_all-requires-clause-readable
resync_all-requires-clause-readable g c =
    let v = c.args.view.now in
    let is = not_refused v (sym c.in_default.ensures.value) in
    readable v c.resync_refusal.ensures.sound is.1 is.0
