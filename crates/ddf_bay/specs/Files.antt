-- What a bay over files knows of them.
use Rattle.std.specs.Prelude.{◌≡◌, ℕ, Bool, false, true, List, Option, Some, None, Result, Ok, Err, is_ok, slice_get, slice_index, IfSome}
use Rattle.std.specs.Io.KnownBytes.{Appends, Consumes}
use Rattle.ddf_bay.specs.declared.access.Access.{Access}
use Rattle.ddf_bay.specs.declared.access.Access.TheVariants.{Read, ReadWrite}

abbrev pub is_there : {F E : Type 0} → Option (Result F E) → Bool
is_there None = false
is_there (Some outcome) = is_ok outcome

-- the slot's path could be opened
abbrev pub is_open : {F E : Type 0} → List (Result F E) → ℕ → Bool
is_open files slot = is_there (slice_get files slot)

-- each slot whose path could not be opened has size 0
abbrev pub AreEmptyUnlessOpen : {F E : Type 0} → List (Result F E) → List ℕ → Type 0
AreEmptyUnlessOpen files sizes = (slot : ℕ) → is_open files slot ≡ false → slice_index sizes slot ≡ 0

-- the disks may be written to
abbrev pub allows_writes : Access → Bool
allows_writes Read = false
allows_writes ReadWrite = true

abbrev pub reason_in : {F E : Type 0} → Option (Result F E) → Option E
reason_in None = None
reason_in (Some (Ok file)) = None
reason_in (Some (Err why)) = Some why

-- why the slot has no file
abbrev pub why_shut : {F E : Type 0} → List (Result F E) → ℕ → Option E
why_shut files slot = reason_in (slice_get files slot)

-- ---- transfers

-- The file stood at this byte when these bytes were read from it, as far as its position and its bytes are known.
pub record IsReadAt {F : Type 0} (position : F → Option ℕ) (remaining : F → Option (List ℕ)) (old new : F) (at : ℕ) (bytes : List ℕ) : Type 0 where
  pub there : F
  pub stands : IfSome (position old) (λ was. position there ≡ Some at)
  pub moved : Consumes (remaining there) (remaining new) bytes

-- The file stood at this byte when these bytes were written to it, as far as its position and its bytes are known.
pub record IsWrittenAt {F : Type 0} (position : F → Option ℕ) (contents : F → Option (List ℕ)) (old new : F) (at : ℕ) (bytes : List ℕ) : Type 0 where
  pub there : F
  pub stands : IfSome (position old) (λ was. position there ≡ Some at)
  pub moved : Appends (contents there) (contents new) bytes

-- the file was and is there, and this holds of both states
abbrev pub AreBoth : {F E : Type 0} → Result F E → Result F E → (F → F → Type 0) → Type 0
AreBoth (Ok old) (Ok new) P = P old new
AreBoth (Ok old) (Err why) P = ⊥
AreBoth (Err why) new P = ⊥
