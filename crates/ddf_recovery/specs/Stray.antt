-- Disks of a group that recovery must not write over (profile): what they hold would be lost, or what they show would be wrong.
use Rattle.std.specs.Prelude.{ℕ, ◌+◌, ◌*◌, Bool, false, not, ◌&&◌, ◌||◌, nat_le, nat_lt, count_by, Option, Some, None, is_some, List, [], ◌∷◌, slice_get, if◌then◌else◌}
use Rattle.std.specs.Map.{lookup}
use Rattle.std.specs.List.{list_any}
use Rattle.std.specs.Option.{option_map_or}
use Rattle.std.specs.Str.{bytes_eq}
use Rattle.ddf_config_records.specs.ElementValue.{ElementValue}
use Rattle.ddf_config_records.specs.declared.slot.RecordSlot.{RecordSlot}
use Rattle.ddf_copy.specs.declared.copy.DiskCopy.{DiskCopy}
use Rattle.ddf_copy.specs.declared.newest_copy.Newest.{Newest}
use Rattle.ddf_copy.specs.declared.newest_copy.Newest.TheVariants.{One, Level, Neither, TwoDiffer}
use Rattle.ddf_config.specs.declared.array.Array.{Array}
use Rattle.ddf_config.specs.declared.member.Member.{Member}
use Rattle.ddf_config.specs.declared.seat.Seat.{Seat}
use Rattle.ddf_config.specs.Configuration.{Configuration}
use Rattle.ddf_config.specs.Members.{same_guid}
use Rattle.ddf_view.specs.View.{element_of, lists_missing, view_of}
use Rattle.ddf_view.specs.Shows.{shows}
use Rattle.ddf_group.specs.declared.shown.Shown.{Shown}
use Rattle.ddf_group.specs.Taking.{shows_untaken}
use Rattle.ddf_seats.specs.declared.seated.Seated.{Seated}

-- Its copy is of the group, and of the configuration's sequence number or of a later one, and doesn't show the configuration, so that a stop
-- might leave two copies of one sequence number that differ. No controller leaves such a one.
abbrev pub is_ahead : Configuration → Seated → Bool
is_ahead config disk =
    bytes_eq disk.copy.header.guid config.group
    && nat_le config.sequence disk.copy.header.sequence
    && not (shows config (view_of disk.copy))

-- Its slot shows another group, which hasn't joined this one, or which has lost the disk since: it may have moved there, or have missed what was written.
abbrev pub is_of_another : List Shown → Configuration → Seated → Bool
is_of_another slots config disk =
    not (bytes_eq disk.copy.header.guid config.group) && shows_untaken slots config.group disk.seat.slot

-- ---- the only record of an element

-- that the configuration, read from the leaders, knows an element of an array
abbrev pub is_known : Array → (index : ℕ) → Bool
is_known array index = option_map_or (λ part. is_some part) (slice_get array.elements index) false

-- a record of an element of a listed array that no leader tells of
abbrev pub is_untold : Configuration → ElementValue → Bool
is_untold config element = option_map_or (λ array. not (is_known array element.index)) (lookup (same_guid element.array) config.arrays) false

abbrev pub is_untold_in : Configuration → RecordSlot → Bool
is_untold_in config slot = option_map_or (is_untold config) (element_of slot) false

abbrev pub holds_untold : Configuration → DiskCopy → Bool
holds_untold config copy = list_any (is_untold_in config) copy.slots

-- the whole copies of a slot: of two that differ both
abbrev pub copies_in : Option Newest → List DiskCopy
copies_in None = []
copies_in (Some (One which copy)) = copy ∷ []
copies_in (Some (Level copy)) = copy ∷ []
copies_in (Some (Neither primary secondary)) = []
copies_in (Some (TwoDiffer primary secondary)) = primary ∷ secondary ∷ []

abbrev pub slot_holds_untold : Configuration → List (Option Newest) → (slot : ℕ) → Bool
slot_holds_untold config newest slot =
    option_map_or (λ one. list_any (holds_untold config) (copies_in one)) (slice_get newest slot) false

-- The disk lags, and its slot holds such a record: recovery would erase the only one that is left.
abbrev pub holds_only_record : List (Option Newest) → Configuration → Seated → Bool
holds_only_record newest config disk = not (shows config (view_of disk.copy)) && slot_holds_untold config newest disk.seat.slot

-- ---- an image from before

-- A member that is missing and that the disk doesn't list so: the group has lost it since, also one that joined by the change that the disk has missed.
abbrev pub is_lost_since : Seated → (ℕ × Member) → Bool
is_lost_since disk entry = entry.1.missing && not (lists_missing (view_of disk.copy) entry.1.guid entry.0)

-- How many sequence numbers stops and failing disks leave a disk behind at the most: one change, and two for each member that is missing and that
-- the disk doesn't list so.
-- One more would be too many: a write of a redundant array takes two numbers, for it sets the array's mark and clears it, so a disk that missed one
-- is two behind.
-- A loss takes two numbers however many members it has, so where several were lost at once the bound is wider than what was issued, and an image from
-- before a write may be within it: what disks record tells nothing closer.
--
-- argued: that no disk is further behind in a history than `most_behind` says, for until a change is on all disks nothing else is issued but losses;
-- the change takes one number, or it is a failing disk's and takes two, and that disk is counted; and each loss takes two, and a member of it is
-- counted.
abbrev pub most_behind : Configuration → Seated → ℕ
most_behind config disk = 1 + 2 * count_by (is_lost_since disk) config.members

-- The disk is further behind than that in a group that this engine wrote, as its notes tell: it was written elsewhere, or its image is an
-- older one, and it has missed blocks that were written since.
abbrev pub is_stale : (noted : Bool) → Configuration → Seated → Bool
is_stale noted config disk =
    noted && bytes_eq disk.copy.header.guid config.group && nat_lt (disk.copy.header.sequence + most_behind config disk) config.sequence

-- ---- any of them

-- the slots show this, and have these copies
abbrev pub is_stray : List Shown → List (Option Newest) → (noted : Bool) → Configuration → Seated → Bool
is_stray slots newest noted config disk =
    is_ahead config disk || is_of_another slots config disk || holds_only_record newest config disk || is_stale noted config disk

-- The seat of a disk that is none of them. What any other holds is no source of blocks.
abbrev pub trusted_seat : List Shown → List (Option Newest) → (noted : Bool) → Configuration → Seated → Option Seat
trusted_seat slots newest noted config disk = if is_stray slots newest noted config disk then None else Some disk.seat
