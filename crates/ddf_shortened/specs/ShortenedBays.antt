-- What a bay whose slots may end early tells of them.
use Rattle.std.specs.Prelude.{◌≡◌, ◌≤◌, ℕ, Bool, List}
use Rattle.ddf_bay.specs.State.{BayState}
use Rattle.ddf_bay.specs.Moments.{StopsLeave}
use Rattle.ddf_shortened.specs.declared.shortened.Shortened.{Shortened}
use Rattle.ddf_shortened.specs.SlotEnds.{end_at, is_early, is_unread as unread_end}
use Rattle.ddf_shortened.specs.Sizes.{seen_sizes}

module _ {B : Type 0} where
  -- the bay below
  abbrev pub inner_of : Shortened B → B
  inner_of bay = bay.inner

  -- a slot is seen 256 sectors shorter than it is
  abbrev pub is_shorter : Shortened B → ℕ → Bool
  is_shorter bay slot = is_early (end_at bay.ends.slots slot)

  -- a read of the look at it failed
  abbrev pub is_unread : Shortened B → ℕ → Bool
  is_unread bay slot = unread_end (end_at bay.ends.slots slot)

-- By what the bay below tells: all is its own, but that slots may be shorter. Calls leave which are, and make nothing of the bay below that they might not make
-- of it by itself.
abbrev pub disks_of : {B : Type 0} → (B → BayState B) → Shortened B → BayState (Shortened B)
disks_of inner bay =
    let disks = inner bay.inner in
    record {
      sizes = seen_sizes bay.ends.slots disks.sizes;
      held = disks.held;
      tells_left = disks.tells_left;
      may_hold = disks.may_hold;
      moment = disks.moment;
      left_since = disks.left_since;
      failed_reads = disks.failed_reads;
      failed_writes = disks.failed_writes;
      sectors_written = disks.sectors_written;
      sectors_asked = disks.sectors_asked;
      calls = disks.calls;
      gone = disks.gone;
      leads_to = λ next. disks.leads_to next.inner × (next.ends.slots ≡ bay.ends.slots);
    }

-- The sectors of a slot from one on stay, and no write of them is pending that was not before.
pub record KeepsFrom {D : Type 0} (tells : Type 0) (old new : BayState D) (slot end : ℕ) : Type 0 where
  pub held : tells → (l : ℕ) → end ≤ l → new.held slot l ≡ old.held slot l
  pub left : (l : ℕ) (bytes : List ℕ) → end ≤ l → new.may_hold slot l bytes → old.may_hold slot l bytes
  pub any_moment : StopsLeave old new (λ image. (l : ℕ) → end ≤ l → old.may_hold slot l (image slot l))
