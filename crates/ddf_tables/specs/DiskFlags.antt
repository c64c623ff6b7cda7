-- The named bits of the type and of the state of a disk (SNIA DDF 2.0, the physical disk entry). A bit of number n is the flag 2 ^ n.
use Rattle.std.specs.Prelude.{ℕ, Bool, ◌==◌, List, [], ◌∷◌, codes}
use Rattle.std.specs.Int.RustNames.{bit_and}

-- a number has a flag
abbrev pub has_flag : (bits flag : ℕ) → Bool
has_flag bits flag = bit_and bits flag == flag

-- ---- the type

-- bit 0: the GUID was given to the disk
abbrev pub forced_guid : ℕ
forced_guid = 0x0001

-- bit 1: the disk takes part in an array
abbrev pub in_array : ℕ
in_array = 0x0002

-- bit 2: a spare for every array
abbrev pub global_spare : ℕ
global_spare = 0x0004

-- bit 3: a spare for some arrays only
abbrev pub spare : ℕ
spare = 0x0008

-- bit 4: the disk came from another group
abbrev pub foreign_disk : ℕ
foreign_disk = 0x0010

-- bit 5: the disk is used without this format
abbrev pub legacy : ℕ
legacy = 0x0020

-- bits 8 to 11: by which interface the disk is attached
abbrev pub interface : ℕ
interface = 0x0F00

abbrev pub type_flags : List (List ℕ × ℕ)
type_flags =
    (codes "FORCED_GUID", forced_guid)
    ∷ (codes "IN_ARRAY", in_array)
    ∷ (codes "GLOBAL_SPARE", global_spare)
    ∷ (codes "SPARE", spare)
    ∷ (codes "FOREIGN", foreign_disk)
    ∷ (codes "LEGACY", legacy)
    ∷ (codes "INTERFACE", interface)
    ∷ []

-- ---- the state

-- bit 0: the disk is used
abbrev pub online : ℕ
online = 0x0001

-- bit 1: the disk failed
abbrev pub failed : ℕ
failed = 0x0002

-- bit 2: the disk is being rebuilt
abbrev pub rebuilding : ℕ
rebuilding = 0x0004

-- bit 3: the disk is in transition
abbrev pub transition : ℕ
transition = 0x0008

-- bit 4: the disk predicts that it will fail
abbrev pub predicted_failure : ℕ
predicted_failure = 0x0010

-- bit 5: a read error of the disk was not made good
abbrev pub unrecovered_read_error : ℕ
unrecovered_read_error = 0x0020

-- bit 6: the disk is missing
abbrev pub missing : ℕ
missing = 0x0040

abbrev pub state_flags : List (List ℕ × ℕ)
state_flags =
    (codes "ONLINE", online)
    ∷ (codes "FAILED", failed)
    ∷ (codes "REBUILDING", rebuilding)
    ∷ (codes "TRANSITION", transition)
    ∷ (codes "PREDICTED_FAILURE", predicted_failure)
    ∷ (codes "UNRECOVERED_READ_ERROR", unrecovered_read_error)
    ∷ (codes "MISSING", missing)
    ∷ []
