-- A sector of a slot that is seen as another one (profile).
use Rattle.std.specs.Prelude.{ℕ, ◌+◌, Bool, false, ◌==◌, ◌&&◌, ◌||◌, nat_lt, if◌then◌else◌, List, length, Option, Some, None, slice_index_or}
use Rattle.std.specs.List.{list_all}
use Rattle.std.specs.Str.{bytes_eq}
use Rattle.std.specs.Int.{w16}
use Rattle.ddf_bytes.specs.Bytes.{number_at}
use Rattle.ddf_tables.specs.declared.layout.TheConstants.{LOG_COUNT_AT}
use Rattle.ddf_hidden_logs.specs.declared.mask.Mask.{Mask}

-- a log begins at a sector
abbrev pub is_place : Mask → ℕ → Bool
is_place mask l = (l == mask.primary + mask.offset) || (l == mask.secondary + mask.offset)

-- 512 bytes
abbrev pub is_sector : List ℕ → Bool
is_sector bytes = (length bytes == 512) && list_all (λ byte. nat_lt byte 256) bytes

-- one of the two sectors of a mask
abbrev pub is_either : Mask → List ℕ → Bool
is_either mask bytes = bytes_eq bytes mask.below || bytes_eq bytes mask.shown

-- A sector at the place of a log is one of the two of a mask, which are whole sectors: it is seen as the other one.
unfoldable pub turns_by : Mask → ℕ → List ℕ → Bool
turns_by mask l bytes = is_place mask l && is_either mask bytes && (is_sector mask.below && is_sector mask.shown)

abbrev pub other_of : Mask → List ℕ → List ℕ
other_of mask bytes = if bytes_eq bytes mask.below then mask.shown else mask.below

abbrev pub turned_by : Mask → ℕ → List ℕ → List ℕ
turned_by mask l bytes = if turns_by mask l bytes then other_of mask bytes else bytes

-- the entries that the log counts which begins so
abbrev pub count_in : List ℕ → ℕ
count_in front = number_at w16 front LOG_COUNT_AT

-- those of a log that shows none
abbrev pub hidden_by : Mask → ℕ
hidden_by mask = if count_in mask.shown == 0 then count_in mask.below else 0

-- ---- on a slot, which may have none

abbrev pub turns : Option Mask → ℕ → List ℕ → Bool
turns None l bytes = false
turns (Some mask) l bytes = turns_by mask l bytes

-- a sector as it is seen, and what stands where one is seen: each is the other's
abbrev pub turn : Option Mask → ℕ → List ℕ → List ℕ
turn None l bytes = bytes
turn (Some mask) l bytes = turned_by mask l bytes

-- the entries that a log has which shows none
abbrev pub hidden : Option Mask → ℕ
hidden None = 0
hidden (Some mask) = hidden_by mask

-- the mask of a slot in a list of them
abbrev pub mask_of : List (Option Mask) → ℕ → Option Mask
mask_of masks slot = slice_index_or masks slot None
