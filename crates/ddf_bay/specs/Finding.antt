-- An index tells where the newest write of each sector stands.
use Rattle.std.specs.Prelude.{◌≡◌, ℕ, ◌<◌, List, length, ◌==◌, ◌&&◌, Option, Some, None, slice_get}
use Rattle.std.specs.HashMap.{HashMap, get_by}
use Rattle.ddf_bay.specs.Logged.{newest}
use Rattle.ddf_bay.specs.declared.index.Place.{Place}
use Rattle.ddf_bay.specs.declared.logged_write.LoggedWrite.{LoggedWrite}

-- what an index notes of a sector
abbrev pub noted : {S : Type 0} → HashMap Place ℕ S → ℕ → ℕ → Option ℕ
noted index s l = get_by (λ p. (s == p.slot) && (l == p.lba)) index

abbrev pub bytes_or : Option LoggedWrite → List ℕ → List ℕ
bytes_or None before = before
bytes_or (Some r) before = r.bytes

-- the bytes of the write that stands there, or else these
abbrev pub bytes_at : List LoggedWrite → Option ℕ → List ℕ → List ℕ
bytes_at rs None before = before
bytes_at rs (Some i) before = bytes_or (slice_get rs i) before

-- what is noted of each sector is its newest write
abbrev pub Finds : (ℕ → ℕ → Option ℕ) → List LoggedWrite → Type 0
Finds noted rs = (s l : ℕ) (before : List ℕ) → newest rs s l before ≡ bytes_at rs (noted s l) before

-- and stands among the logged writes
abbrev pub IsWithin : (ℕ → ℕ → Option ℕ) → List LoggedWrite → Type 0
IsWithin noted rs = (s l i : ℕ) → noted s l ≡ Some i → i < length rs
