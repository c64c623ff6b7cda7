-- Desks of disks, and what stands on them (profile).
use Rattle.std.specs.Prelude.{◌≡◌, ℕ, ◌+◌, ◌<◌, ◌≤◌, List, [], ◌∷◌, Some, length, slice_get, slice_index}
use Rattle.ddf_bay.specs.Sectors.{InRun}
use Rattle.ddf_stage.specs.declared.desk.Desk.{Desk}
use Rattle.ddf_stage.specs.declared.desk.Staged.{Staged}

-- the desks lie on their slots, of these sizes
abbrev pub AreOn : (sizes : List ℕ) → List Desk → Type 0
AreOn sizes desks = (k : ℕ) (desk : Desk) → slice_get desks k ≡ Some desk → (desk.slot < length sizes) × (desk.lba + 18 ≤ slice_index sizes desk.slot)

-- no two desks are on one slot
abbrev pub HaveOwnSlots : List Desk → Type 0
HaveOwnSlots desks = (j k : ℕ) (one other : Desk) → slice_get desks j ≡ Some one → slice_get desks k ≡ Some other → one.slot ≡ other.slot → j ≡ k

-- a slot has one of the desks
pub record HasDesk (desks : List Desk) (slot : ℕ) : Type 0 where
  pub number : ℕ
  pub desk : Desk
  pub is_desk : slice_get desks number ≡ Some desk
  pub on_slot : slot ≡ desk.slot

-- a sector of a desk, so many behind its gate, and the bytes that a run has there
pub record IsOnDesks (desks : List Desk) (offset : ℕ) (sectors : List (List ℕ)) (s l : ℕ) (bytes : List ℕ) : Type 0 where
  pub number : ℕ
  pub desk : Desk
  pub is_desk : slice_get desks number ≡ Some desk
  pub on_slot : s ≡ desk.slot
  pub in_run : InRun (desk.lba + offset) sectors l bytes

-- the sectors behind the gate of a desk, with what is staged
abbrev pub IsPayload : List Desk → Staged → (s l : ℕ) → List ℕ → Type 0
IsPayload desks staged = IsOnDesks desks 1 staged.sectors

-- the gate of a desk, open or closed
abbrev pub IsGateAt : List Desk → List ℕ → (s l : ℕ) → List ℕ → Type 0
IsGateAt desks gate = IsOnDesks desks 0 (gate ∷ [])
