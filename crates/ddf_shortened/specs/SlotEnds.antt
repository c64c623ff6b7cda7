-- Where a slot is seen to end: with its last sector, or 256 sectors before that. The place of the anchor is the profile's, after what blkid, LVM and dmraid look for
-- on the disks of Adaptec's controllers.
use Rattle.std.specs.Prelude.{ℕ, ◌-◌, Bool, true, false, not, ◌&&◌, ◌||◌, ◌==◌, nat_lt, List, slice_index_or}
use Rattle.std.specs.Int.{w32}
use Rattle.ddf_bytes.specs.Bytes.{number_at}
use Rattle.ddf_header.specs.Header.{header_signature}
use Rattle.ddf_shortened.specs.declared.ends.SlotEnd.{SlotEnd}
use Rattle.ddf_shortened.specs.declared.ends.SlotEnd.TheVariants.{Last, Early, Unread}

-- ---- by its sectors

-- the number that a sector begins with
abbrev pub signature_of : List ℕ → ℕ
signature_of bytes = number_at w32 bytes 0

-- the signature of a header, in the standard's byte order and in the other
abbrev pub is_any_signature : ℕ → Bool
is_any_signature number = (number == header_signature) || (number == 0x11DE_11DE)

-- A slot of so many sectors, as they read, ends early: its last sector begins as no header, and the one 257 sectors before the end as one of the standard.
unfoldable pub ends_early : (size : ℕ) → (ℕ → List ℕ) → Bool
ends_early size sector =
    nat_lt 257 size && (not (is_any_signature (signature_of (sector (size - 1)))) && (signature_of (sector (size - 257)) == header_signature))

-- ---- as it is seen

abbrev pub is_early : SlotEnd → Bool
is_early Last = false
is_early Early = true
is_early Unread = false

-- a read of the look at it failed
abbrev pub is_unread : SlotEnd → Bool
is_unread Last = false
is_unread Early = false
is_unread Unread = true

-- of the ends of slots that of one
abbrev pub end_at : List SlotEnd → ℕ → SlotEnd
end_at ends slot = slice_index_or ends slot Last
