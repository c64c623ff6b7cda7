-- Stretches: neighbouring blocks whose first copies lie on one slot at sectors that follow one another, as many as there
-- are (profile). Each can be read in one call.
use Rattle.std.specs.Prelude.{◌≡◌, ◌≢◌, ℕ, ◌+◌, ◌<◌, ◌≤◌, Bool, ◌&&◌, ◌==◌, List, [], ◌∷◌, map, Option, Some, IsSome, if◌then◌else◌}
use Rattle.std.specs.List.{range_with_len}
use Rattle.ddf_array.specs.declared.site.Site.{Site}
use Rattle.ddf_array.specs.Places.{site_on}
use Rattle.ddf_array.specs.Volume.{Volume}
use Rattle.ddf_array.specs.Sources.{first_copy}

-- a sector follows another
abbrev pub follows : Site → Site → Bool
follows one next = next.slot == one.slot && next.lba == one.lba + 1

-- that one of two doesn't follow the other, as a number
abbrev pub is_break : Option Site → Option Site → ℕ
is_break (Some one) (Some next) = if follows one next then 0 else 1
is_break one next = 1

-- how many stretches these sectors make
abbrev pub stretches : List (Option Site) → ℕ
stretches [] = 0
stretches (one ∷ []) = 1
stretches (one ∷ (next ∷ others)) = is_break one next + stretches (next ∷ others)

-- those of the first copies of a range of blocks
abbrev pub copy_stretches : Volume → (start count : ℕ) → ℕ
copy_stretches volume start count = stretches (map (first_copy volume) (range_with_len start count))

-- each of these blocks has an available cell
abbrev pub HaveCopies : Volume → (start count : ℕ) → Type 0
HaveCopies volume start count = (k : ℕ) → k < count → IsSome (first_copy volume (start + k))

-- the first copies of these blocks follow one another from a sector on
abbrev pub FollowFrom : Volume → Site → (start count : ℕ) → Type 0
FollowFrom volume first start count =
    (k : ℕ) → k < count → first_copy volume (start + k) ≡ Some (site_on first.slot (first.lba + k))

-- so many of these blocks are their first stretch, which begins at a sector
pub record IsStretch (volume : Volume) (first : Site) (start count most : ℕ) : Type 0 where
  pub some : 0 < count
  pub within : count ≤ most
  pub follow : FollowFrom volume first start count
  pub ends : count < most → first_copy volume (start + count) ≢ Some (site_on first.slot (first.lba + count))
