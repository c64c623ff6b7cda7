use Rattle.std.proofs.Common.{◌<◌, true, length, ◌-◌, ◌≡◌, ◌≤◌, take}
use Rattle.ddf_bay.specs.Sectors.{put_run}
use Rattle.ddf_bay.specs.Moments.{StopsLeave, Remembers, SpendsWrites, Adds, IsAmong}
use Rattle.ddf_hidden_logs.specs.Masks.{mask_of}
use Rattle.ddf_hidden_logs.specs.Pieces.{begins_at, pieces_below}
use Rattle.ddf_hidden_logs.specs.State.{shown_state}
use Rattle.ddf_hidden_logs.proofs.pieces.write_pieces.Given as goal

abbrev pub invariant-loop-done : goal.invariant-loop-done
invariant-loop-done g l =
    let old = shown_state l.masks (g.B.Bay.disks l.initial.bay) in
    let new = shown_state l.masks (g.B.Bay.disks l.bay) in
    record {
      within : l.done ≤ length l.from;
      held : g.B.Bay.tells → new.held ≡ put_run old.held l.slot l.lba (take l.done l.from);
      left : Adds old.may_hold new.may_hold l.slot l.lba l.from;
      any_moment : StopsLeave old new (IsAmong old.may_hold l.slot l.lba l.from);
      remembers : Remembers old new;
      gone : 0 < l.done → (g.B.Bay.disks l.initial.bay).gone l.slot → ⊥;
      ok : (g.B.Bay.disks l.bay).failed_writes ≡ (g.B.Bay.disks l.initial.bay).failed_writes;
      spends : SpendsWrites (g.B.Bay.disks l.initial.bay) (g.B.Bay.disks l.bay) l.slot l.done (pieces_below (mask_of l.masks l.slot) l.lba l.from l.done);
      begins : l.done < length l.from → begins_at (mask_of l.masks l.slot) l.lba l.from l.done ≡ true;
    }

abbrev pub decreases-loop-done : goal.decreases-loop-done
decreases-loop-done g l = length l.from - l.done
