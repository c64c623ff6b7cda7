use Rattle.std.proofs.Common.{◌≡◌, ◌≤◌, ◌<◌, ℕ, true, false, length}
use Rattle.ddf_bytes.specs.Counts.{Rose}
use Rattle.ddf_bay.specs.Moments.{Remembers, SpendsOver}
use Rattle.ddf_bay.specs.ReadsOnly.{ReadsOnly}
use Rattle.ddf_linux.specs.Kinds.{IsSeenAs, is_unread, kind_at}
use Rattle.ddf_linux.proofs.turned.Turned.new.Given as goal

abbrev pub invariant-loop-slot : goal.invariant-loop-slot
invariant-loop-slot g l =
    let old = g.B.Bay.disks l.initial.inner in
    let new = g.B.Bay.disks l.inner in
    record {
      end : l.slot-end ≡ length old.sizes;
      long : length l.kinds ≡ 64;
      reads : ReadsOnly old new;
      remembers : Remembers old new;
      spends : SpendsOver old new 0 l.slot;
      writes : new.failed_writes ≡ old.failed_writes;
      later : (s : ℕ) → l.slot ≤ s → new.failed_reads s ≡ old.failed_reads s;
      kinds : g.B.Bay.tells → (s : ℕ) → s < l.slot → is_unread (kind_at l.kinds s) ≡ false → IsSeenAs l.founds old s (kind_at l.kinds s);
      unread : (s : ℕ) → is_unread (kind_at l.kinds s) ≡ true → Rose (old.failed_reads s) (new.failed_reads s);
      read : (s : ℕ) → is_unread (kind_at l.kinds s) ≡ false → new.failed_reads s ≡ old.failed_reads s;
    }
