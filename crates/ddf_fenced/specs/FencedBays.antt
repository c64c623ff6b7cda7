-- What a bay with fenced slots tells of its slots.
use Rattle.std.specs.Prelude.{◌≡◌, ℕ, Bool, true}
use Rattle.ddf_bay.specs.Counting.{one_more}
use Rattle.ddf_bay.specs.State.{BayState}
use Rattle.ddf_fenced.specs.declared.fenced.Fenced.{Fenced}
use Rattle.ddf_fenced.specs.Fences.{is_gone, is_shut, own_or}

module _ {B : Type 0} where
  -- the bay below
  abbrev pub inner_of : Fenced B → B
  inner_of bay = bay.inner

  -- the calls that were made
  abbrev pub calls_of : Fenced B → ℕ
  calls_of bay = bay.made

  -- a slot is fenced
  abbrev pub is_fenced : Fenced B → ℕ → Bool
  is_fenced bay slot = is_shut bay.shut.items slot

-- By what the bay below tells: all is its own, but that faults of a fenced slot are counted here, that such a slot is gone, and that calls are counted
-- here. They leave the fences, and make nothing of the bay below that they might not make of it by itself.
abbrev pub disks_of : {B : Type 0} → (B → BayState B) → Fenced B → BayState (Fenced B)
disks_of inner bay =
    let disks = inner bay.inner in
    record {
      sizes = disks.sizes;
      held = disks.held;
      tells_left = disks.tells_left;
      may_hold = disks.may_hold;
      moment = disks.moment;
      left_since = disks.left_since;
      failed_reads = own_or bay.shut.items bay.read_faults disks.failed_reads;
      failed_writes = own_or bay.shut.items bay.write_faults disks.failed_writes;
      sectors_written = disks.sectors_written;
      sectors_asked = disks.sectors_asked;
      calls = bay.made;
      gone = is_gone bay.shut.items disks.gone;
      leads_to = λ next. disks.leads_to next.inner × (next.shut.items ≡ bay.shut.items);
    }

-- A call is counted once. On a fenced slot it fails, and the bay below is not called.
pub record IsCall {B : Type 0} (old new : Fenced B) (slot : ℕ) (failed : Bool) : Type 0 where
  pub counted : calls_of new ≡ one_more (calls_of old)
  pub fails : is_fenced old slot ≡ true → failed ≡ true
  pub untouched : is_fenced old slot ≡ true → inner_of new ≡ inner_of old
