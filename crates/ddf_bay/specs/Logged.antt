-- What a bay in memory holds: a write for each sector written, in the order of the writes, over zeros.
use Rattle.std.specs.Prelude.{◌≡◌, ◌⊎◌, ℕ, ◌+◌, ◌≤◌, List, [], ◌∷◌, length, replicate, drop, Bool, true, false, not, ◌==◌, ◌&&◌, nat_le, nat_lt, if◌then◌else◌, map, filter, Option, Some, None, IsTrue, is_none, is_some}
use Rattle.std.specs.List.{list_all}
use Rattle.ddf_bay.specs.Sectors.{Image}
use Rattle.ddf_bay.specs.declared.logged_write.LoggedWrite.{LoggedWrite}

-- the bytes of a sector that was never written
unfoldable pub zeros : List ℕ
zeros = replicate 512 0

-- the write is of this sector
abbrev pub is_at : LoggedWrite → ℕ → ℕ → Bool
is_at r s l = (r.slot == s) && (r.lba == l)

-- a number has come to a limit, if there is one
abbrev pub is_reached : ℕ → Option ℕ → Bool
is_reached m None = false
is_reached m (Some limit) = nat_le limit m

-- at this moment a good sync has made it sure
abbrev pub is_sure : ℕ → LoggedWrite → Bool
is_sure m r = is_reached m r.settled

-- at this moment it is written, and no good sync has made it sure
abbrev pub is_pending : ℕ → LoggedWrite → Bool
is_pending m r = nat_le r.at m && not (is_reached m r.settled)

-- the bytes of the last write of a sector, or else these
abbrev pub newest : List LoggedWrite → ℕ → ℕ → List ℕ → List ℕ
newest [] s l before = before
newest (r ∷ rs) s l before = newest rs s l (if is_at r s l then r.bytes else before)

-- what reads give
abbrev pub held_of : List LoggedWrite → Image
held_of rs s l = newest rs s l zeros

-- the bytes that the last good sync left in a sector, or else these
abbrev pub sure_bytes : ℕ → List LoggedWrite → ℕ → ℕ → List ℕ → List ℕ
sure_bytes m [] s l before = before
sure_bytes m (r ∷ rs) s l before = sure_bytes m rs s l (if is_at r s l && is_sure m r then r.bytes else before)

-- the bytes of a write to a sector since
abbrev pub IsPending : ℕ → List LoggedWrite → ℕ → ℕ → List ℕ → Type 0
IsPending m [] s l bytes = ⊥
IsPending m (r ∷ rs) s l bytes = (IsTrue (is_at r s l && is_pending m r) × (bytes ≡ r.bytes)) ⊎ IsPending m rs s l bytes

-- A stop at the moment m may leave these bytes in the sector: those of the last good sync, or of any write since.
-- argued: that these are the images of the disk model, for it says that a stop leaves in each sector the bytes of its last good sync, or those of a
-- write since, and the definition has these two cases and no other.
abbrev pub MayHold : ℕ → List LoggedWrite → ℕ → ℕ → List ℕ → Type 0
MayHold m rs s l bytes = (bytes ≡ sure_bytes m rs s l zeros) ⊎ IsPending m rs s l bytes

-- An image that a stop at some moment from t up to the clock might have left.
pub record LeftSince (clock : ℕ) (rs : List LoggedWrite) (t : ℕ) (image : Image) : Type 0 where
  pub moment : ℕ
  pub from : t ≤ moment
  pub until : moment ≤ clock
  pub left : (s l : ℕ) → MayHold moment rs s l (image s l)

-- 512 of them, each less than 256
abbrev pub is_whole : List ℕ → Bool
is_whole bytes = (length bytes == 512) && list_all (λ byte. nat_lt byte 256) bytes

-- each write has the bytes of a whole sector
abbrev pub are_whole : List LoggedWrite → Bool
are_whole [] = true
are_whole (r ∷ rs) = is_whole r.bytes && are_whole rs

-- no moment that the write tells of is later than this one
abbrev pub is_past : ℕ → LoggedWrite → Bool
is_past m r = nat_le r.at m && (if is_none r.settled then true else is_reached m r.settled)

abbrev pub are_past : ℕ → List LoggedWrite → Bool
are_past m [] = true
are_past m (r ∷ rs) = is_past m r && are_past m rs

-- what a good sync of a slot makes of a write
abbrev pub settled_one : ℕ → ℕ → LoggedWrite → LoggedWrite
settled_one slot now r = if (r.slot == slot) && is_none r.settled then record r { settled = Some now } else r

abbrev pub settled : ℕ → ℕ → List LoggedWrite → List LoggedWrite
settled slot now rs = map (settled_one slot now) rs

-- the logged writes of a run
abbrev pub run_logged : ℕ → ℕ → ℕ → List (List ℕ) → List LoggedWrite
run_logged slot lba now [] = []
run_logged slot lba now (v ∷ vs) = record { slot = slot; lba = lba; bytes = v; at = now; settled = None } ∷ run_logged slot (lba + 1) now vs

-- the first of these places says that a write is kept
abbrev pub first_kept : List Bool → Bool
first_kept [] = false
first_kept (b ∷ bs) = b

-- a stop at this moment makes a write that it keeps sure
abbrev pub made_sure : ℕ → LoggedWrite → LoggedWrite
made_sure now r = record r { settled = Some now }

-- the logged writes, with those pending writes made sure whose place says so
abbrev pub marked : ℕ → List Bool → List LoggedWrite → List LoggedWrite
marked now keep [] = []
marked now keep (r ∷ rs) =
    if is_none r.settled then (if first_kept keep then made_sure now r else r) ∷ marked now (drop 1 keep) rs
    else r ∷ marked now keep rs

-- what a stop leaves of the logged writes: those that are sure
abbrev pub survivors : ℕ → List Bool → List LoggedWrite → List LoggedWrite
survivors now keep rs = filter (λ r. is_some r.settled) (marked now keep rs)
