-- What assembly takes from the slots of a bay, and what it answers.
use Rattle.std.specs.Prelude.{◌≡◌, ℕ, suc, ◌<◌, Bool, true, false, List, [], ◌∷◌, length, find, slice_get, slice_index_or, Option, option_map, Some, None, Result, Ok, Err, IfOk, IfSome, if◌then◌else◌}
use Rattle.ddf_bytes.specs.declared.no_memory.NoMemory.{NoMemory}
use Rattle.ddf_bay.specs.State.{BayState, on_slot}
use Rattle.ddf_bay.specs.ReadsOnly.{AreFailed, LooksAt}
use Rattle.ddf_copy.specs.declared.newest_copy.Newest.{Newest}
use Rattle.ddf_copy.specs.Copies.{newest_at}
use Rattle.ddf_config.specs.declared.seat.Seat.{Seat}
use Rattle.ddf_group.specs.declared.answer.Assembly.{Assembly}
use Rattle.ddf_group.specs.declared.answer.Assembly.TheVariants.{Memory}
use Rattle.ddf_assembly.specs.declared.assembling.AssembledGroup.{AssembledGroup}
use Rattle.ddf_assembly.specs.declared.reading.SlotRead.{SlotRead}
use Rattle.ddf_seats.specs.Group.{GroupValue}
use Rattle.ddf_assembly.specs.Group.{UpToMemory, group_of}

-- the newest copy of a slot, and none where it is left out
abbrev pub newest_or : {D : Type 0} → BayState D → (slot : ℕ) → (out : Bool) → Option Newest
newest_or disks slot out = if out then None else on_slot newest_at disks slot

-- those of so many slots, from one on
abbrev pub newest_from : {D : Type 0} → BayState D → (slot : ℕ) → (left : List Bool) → List (Option Newest)
newest_from disks slot [] = []
newest_from disks slot (out ∷ left) = newest_or disks slot out ∷ newest_from disks (suc slot) left

-- Each slot of which every call fails is left out.
abbrev pub AreOut : {D : Type 0} → BayState D → (left : List Bool) → Type 0
AreOut disks left = (slot : ℕ) → slot < length left → disks.gone slot → slice_index_or left slot false ≡ true

-- No slot that is left out has a newest copy.
abbrev pub LeaveNone : (left : List Bool) → List (Option Newest) → Type 0
LeaveNone left newest = (slot : ℕ) (one : Newest) → slice_get newest slot ≡ Some (Some one) → slice_index_or left slot false ≡ false

-- A slot was read, or is left out where a call of this look failed on it.
pub record IsSlotRead {D : Type 0} (tells : Type 0) (old new : BayState D) (slot : ℕ) (result : Result SlotRead NoMemory) : Type 0 where
  pub out : Bool
  pub look : LooksAt old new slot out
  pub newest : tells → IfOk result (λ read. read.newest ≡ newest_or old slot out)
  pub left_out : IfOk result (λ read. read.left_out ≡ out)
  pub none : IfOk result (λ read. IfSome read.newest (λ _. read.left_out ≡ false))
  pub gone : old.gone slot → out ≡ true

-- It is told of each slot whether it is left out: where a call of this look failed on it, and nowhere else.
pub record IsLooked {D : Type 0} (old new : BayState D) : Type 0 where
  pub left : List Bool
  pub every_slot : length left ≡ length old.sizes
  pub are_failed : AreFailed old new left

-- These are left out, and these are the newest copies of the others.
pub record IsRead {D : Type 0} (tells : Type 0) (old new : BayState D) (left : List Bool) (newest : List (Option Newest)) : Type 0 where
  pub looked : IsLooked old new
  pub is_left : left ≡ looked.left
  pub answer : tells → newest ≡ newest_from old 0 looked.left
  pub gone : AreOut old looked.left

-- What is answered is what these copies give together; want of memory stands beside each answer. But for that each slot was looked at, and those
-- of which every call fails are left out.
pub record IsAssembled {D : Type 0} (tells : Type 0) (old new : BayState D) (named : Option (List ℕ)) (result : Result GroupValue Assembly) : Type 0 where
  pub looked : IsLooked old new
  pub newest : List (Option Newest)
  pub read : tells → newest ≡ newest_from old 0 looked.left
  pub answer : UpToMemory result (group_of newest named)
  pub gone : (result ≡ Err Memory → ⊥) → AreOut old looked.left

-- the first of these seats' slots that is left out
abbrev pub first_left_out : (left : List Bool) → List Seat → Option ℕ
first_left_out left seats = option_map (λ seat. seat.slot) (find (λ seat. slice_index_or left seat.slot false) seats)

-- the group of an answer
abbrev pub group_made : Result AssembledGroup Assembly → Result GroupValue Assembly
group_made (Ok made) = Ok made.group
group_made (Err fault) = Err fault

-- That is answered, and beside a group of each slot whether this look left it out: a call of this look failed on it, and on no other slot.
pub record IsAssembledLeavingOut {D : Type 0} (tells : Type 0) (old new : BayState D) (named : Option (List ℕ)) (result : Result AssembledGroup Assembly) : Type 0 where
  pub assembled : IsAssembled tells old new named (group_made result)
  pub left_out : IfOk result (λ made. made.left_out ≡ assembled.looked.left)
