-- The primary RAID levels that are served (profile).
use Rattle.std.specs.Prelude.{ℕ, Bool, not, ◌&&◌, ◌||◌, ◌==◌, List, take, Option, Some, None}
use Rattle.std.specs.Str.{bytes_eq}
use Rattle.ddf_bytes.specs.declared.guid.GuidKind.TheVariants as kinds
use Rattle.ddf_bytes.specs.Guids.{guid_prefix}
use Rattle.ddf_config.specs.declared.array.Array.{Array}
use Rattle.ddf_config.specs.declared.refusal.Refusal.{Refusal}
use Rattle.ddf_config.specs.declared.refusal.Refusal.TheVariants.{Level}
use Rattle.ddf_config.specs.ElementValue.{ElementValue}
use Rattle.ddf_config.specs.Refusals.{refuse_if, part_refusal}

-- RAID 0, 1, 4 and 5, JBOD, RAID 1E and concatenation
abbrev pub is_level : ℕ → Bool
is_level level =
    level == 0x00 || level == 0x01 || level == 0x04 || level == 0x05 || level == 0x0F || level == 0x11 || level == 0x1F

-- RAID 1E with offset copies, under whose codes Linux keeps blocks at other places
abbrev pub is_disputed : (level qualifier : ℕ) → Bool
is_disputed level qualifier = level == 0x11 && qualifier == 0x01

-- this engine has made the array: its GUID begins as those do that it makes
abbrev pub is_own : List ℕ → Bool
is_own guid = bytes_eq (take 8 guid) (guid_prefix kinds.Array)

-- an element's level is served, in an array of this GUID: codes that others use for other places only where this engine has made the array
abbrev pub is_level_of : (guid : List ℕ) → ElementValue → Bool
is_level_of guid element = is_level element.level && (not (is_disputed element.level element.qualifier) || is_own guid)

abbrev pub level_refusal : (guid : List ℕ) → Option ElementValue → Option Refusal
level_refusal guid part = elim part [ None ↦ None | Some element ↦ refuse_if (not (is_level_of guid element)) (Level element.level) ]

-- the first element of a level that isn't served
abbrev pub unserved_level : (guid : List ℕ) → Array → Option Refusal
unserved_level guid array = part_refusal (level_refusal guid) array.elements
