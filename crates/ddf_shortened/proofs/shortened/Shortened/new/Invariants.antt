use Rattle.std.proofs.Common.{◌≡◌, ◌≤◌, ◌<◌, ◌*◌, ℕ, true, false, length}
use Rattle.ddf_bytes.specs.Counts.{Rose}
use Rattle.ddf_bay.specs.State.{size_of}
use Rattle.ddf_bay.specs.Moments.{Remembers, SpendsOver}
use Rattle.ddf_bay.specs.ReadsOnly.{ReadsOnly}
use Rattle.ddf_shortened.specs.SlotEnds.{ends_early, end_at, is_early, is_unread}
use Rattle.ddf_shortened.proofs.shortened.Shortened.new.Given as goal

abbrev pub invariant-loop-slot : goal.invariant-loop-slot
invariant-loop-slot g l =
    let old = g.B.Bay.disks l.initial.inner in
    let new = g.B.Bay.disks l.inner in
    record {
      end : l.slot-end ≡ length old.sizes;
      long : length l.ends ≡ 64;
      reads : ReadsOnly old new;
      remembers : Remembers old new;
      spends : SpendsOver old new 0 (2 * l.slot);
      writes : new.failed_writes ≡ old.failed_writes;
      later : (s : ℕ) → l.slot ≤ s → new.failed_reads s ≡ old.failed_reads s;
      exact : g.B.Bay.tells → (s : ℕ) → s < l.slot → is_unread (end_at l.ends s) ≡ false → is_early (end_at l.ends s) ≡ ends_early (size_of old s) (old.held s);
      large : (s : ℕ) → is_early (end_at l.ends s) ≡ true → 257 < size_of old s;
      unread : (s : ℕ) → is_unread (end_at l.ends s) ≡ true → Rose (old.failed_reads s) (new.failed_reads s);
      read : (s : ℕ) → is_unread (end_at l.ends s) ≡ false → new.failed_reads s ≡ old.failed_reads s;
    }
