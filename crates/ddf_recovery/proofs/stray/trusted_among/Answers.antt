use Rattle.std.proofs.Common.{rules, ◌≡◌, map}
use Rattle.std.specs.Prelude.{filter_map}
use Rattle.ddf_group.specs.Shown.{shown_of}
use Rattle.ddf_recovery.specs.Stray.{trusted_seat}
use Rattle.ddf_recovery.proofs.Trusted.{trusted_disk_by_disk}
use Rattle.ddf_recovery.proofs.stray.trusted_among.Goals as goal

pub returns : goal.returns
returns c =
    let newest : c.newest-newest.result.now ≡ c.args.group.now.newest = search rules in
    let slots : c.in_ok-slots.slots ≡ map shown_of c.args.group.now.newest = search rules in
    let own : c.config.result.now ≡ c.args.group.now.config = search rules in
    let config : c.config-2.result.now ≡ c.args.group.now.config = search rules in
    let is : c.in_ok-seats.seats.items ≡ filter_map (trusted_seat c.in_ok-slots.slots c.newest-newest.result.now c.are_noted-noted.result c.config-2.result.now) c.args.disks.now = c.in_ok-seats.ensures in
    trusted_disk_by_disk c.args.group.now c.args.disks.now c.in_ok-seats.seats.items c.requires (rw (slots, newest, c.are_noted-noted.ensures, c.deref-2.ensures.value, c.in_ok-leaders.ensures, own, config) at is)
