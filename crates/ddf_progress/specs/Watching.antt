-- What a bay that tells of its writes tells of its disks: what the inner one does.
use Rattle.ddf_bay.specs.State.{BayState}
use Rattle.ddf_progress.specs.declared.watched.Watched.{Watched}

module _ {B P : Type 0} where
  abbrev pub inner_of : Watched B P → B
  inner_of watched = watched.inner

  abbrev pub disks_of : (B → BayState B) → Watched B P → BayState (Watched B P)
  disks_of disks watched = record {
    sizes = (disks watched.inner).sizes;
    held = (disks watched.inner).held;
    tells_left = (disks watched.inner).tells_left;
    may_hold = (disks watched.inner).may_hold;
    moment = (disks watched.inner).moment;
    left_since = (disks watched.inner).left_since;
    failed_reads = (disks watched.inner).failed_reads;
    failed_writes = (disks watched.inner).failed_writes;
    sectors_written = (disks watched.inner).sectors_written;
    sectors_asked = (disks watched.inner).sectors_asked;
    calls = (disks watched.inner).calls;
    gone = (disks watched.inner).gone;
    leads_to = λ (next : Watched B P). (disks watched.inner).leads_to next.inner;
  }
