-- What a bay on the heap tells of its disks: what the inner one does.
use Rattle.ddf_bay.specs.State.{BayState}
use Rattle.ddf_boxed.specs.declared.boxed.Boxed.{Boxed}

module _ {B : Type 0} where
  abbrev pub inner_of : Boxed B → B
  inner_of boxed = boxed.inner.value

  abbrev pub disks_of : (B → BayState B) → Boxed B → BayState (Boxed B)
  disks_of disks boxed = record {
    sizes = (disks boxed.inner.value).sizes;
    held = (disks boxed.inner.value).held;
    tells_left = (disks boxed.inner.value).tells_left;
    may_hold = (disks boxed.inner.value).may_hold;
    moment = (disks boxed.inner.value).moment;
    left_since = (disks boxed.inner.value).left_since;
    failed_reads = (disks boxed.inner.value).failed_reads;
    failed_writes = (disks boxed.inner.value).failed_writes;
    sectors_written = (disks boxed.inner.value).sectors_written;
    sectors_asked = (disks boxed.inner.value).sectors_asked;
    calls = (disks boxed.inner.value).calls;
    gone = (disks boxed.inner.value).gone;
    leads_to = λ (next : Boxed B). (disks boxed.inner.value).leads_to next.inner.value;
  }
