-- What a bay of turned records tells of its slots.
use Rattle.std.specs.Prelude.{◌≡◌, ℕ, Bool, true}
use Rattle.ddf_bay.specs.Counting.{one_more}
use Rattle.ddf_bay.specs.State.{BayState}
use Rattle.ddf_linux.specs.declared.kind.SlotKind.{SlotKind}
use Rattle.ddf_linux.specs.declared.turned.Turned.{Turned}
use Rattle.ddf_linux.specs.Kinds.{kind_at, is_unread, turn}
use Rattle.ddf_linux.specs.State.{turned_image, own_or}

module _ {B : Type 0} where
  -- the bay below
  abbrev pub inner_of : Turned B → B
  inner_of bay = bay.inner

  -- the calls that were made
  abbrev pub calls_of : Turned B → ℕ
  calls_of bay = bay.made

  -- how a slot is seen
  abbrev pub kind_of : Turned B → ℕ → SlotKind
  kind_of bay slot = kind_at bay.kinds slot

-- By what the inner bay tells: sizes, moments and sectors are the inner bay's, and so are faults but on a slot that could
-- not be read. A slot of which every inner call fails is so. What is held and what a stop may leave is the inner bay's, turned. Calls are its own. They leave how slots
-- are seen, and make nothing of the inner bay that they might not make of it by itself.
abbrev pub disks_of : {B : Type 0} → (B → BayState B) → Turned B → BayState (Turned B)
disks_of inner bay =
    let disks = inner bay.inner in
    record {
      sizes = disks.sizes;
      held = turned_image bay.kinds disks.held;
      tells_left = disks.tells_left;
      may_hold = λ s l bytes. disks.may_hold s l (turn (kind_at bay.kinds s) l bytes);
      moment = disks.moment;
      left_since = λ t image. disks.left_since t (turned_image bay.kinds image);
      failed_reads = own_or bay.kinds bay.read_faults disks.failed_reads;
      failed_writes = own_or bay.kinds bay.write_faults disks.failed_writes;
      sectors_written = disks.sectors_written;
      sectors_asked = disks.sectors_asked;
      calls = bay.made;
      gone = disks.gone;
      leads_to = λ next. disks.leads_to next.inner × (next.kinds ≡ bay.kinds);
    }

-- A call is counted once. On a slot that could not be read it fails, and the inner bay is not called.
pub record IsCall {B : Type 0} (old new : Turned B) (slot : ℕ) (failed : Bool) : Type 0 where
  pub counted : calls_of new ≡ one_more (calls_of old)
  pub fails : is_unread (kind_of old slot) ≡ true → failed ≡ true
  pub untouched : is_unread (kind_of old slot) ≡ true → inner_of new ≡ inner_of old
