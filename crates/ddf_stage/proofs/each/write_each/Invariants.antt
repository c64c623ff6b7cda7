use Rattle.std.proofs.Common.{◌≡◌, ◌*◌, length}
use Rattle.ddf_bay.specs.Moments.{SpendsOver, StopsLeave}
use Rattle.ddf_stage.specs.Desks.{IsOnDesks}
use Rattle.ddf_stage.specs.Staging.{Adds, IsAmong, Mixes}
use Rattle.ddf_stage.proofs.Giving.{ThereUpTo}
use Rattle.ddf_stage.proofs.each.write_each.Given as goal

abbrev pub invariant-loop-desk : goal.invariant-loop-desk
invariant-loop-desk g l =
    let old = g.B.Bay.disks l.initial.bay in
    let now = g.B.Bay.disks l.bay in
    record {
      there : g.B.Bay.tells → ThereUpTo l.desks l.offset l.sectors l.desk-index now.held;
      held : g.B.Bay.tells → Mixes (IsOnDesks l.desks l.offset l.sectors) old.held now.held;
      left : Adds (IsOnDesks l.desks l.offset l.sectors) old.may_hold now.may_hold;
      any_moment : StopsLeave old now (IsAmong (IsOnDesks l.desks l.offset l.sectors) old.may_hold);
      reads : now.failed_reads ≡ old.failed_reads;
      spends : SpendsOver old now (l.desk-index * length l.sectors) l.desk-index;
      writes : now.failed_writes ≡ old.failed_writes;
    }
