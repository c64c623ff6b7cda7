-- Where the extents of an element's positions lie (profile).
use Rattle.std.specs.Prelude.{◌≡◌, ℕ, ◌+◌, ◌<◌, ◌≤◌, ◌^◌, Bool, ◌&&◌, List, Option, Some, None, is_some, option_map, option_and_then, slice_get, slice_index, length, if◌then◌else◌}
use Rattle.ddf_array.specs.declared.place.Place.{Place}
use Rattle.ddf_array.specs.declared.site.Site.{Site}

-- a place is available where it is in sync and its disk is there (profile)
abbrev pub is_available : Place → Bool
is_available place = place.synced && is_some place.slot

abbrev pub site_on : ℕ → ℕ → Site
site_on slot lba = record { slot = slot; lba = lba }

-- where a sector of an available place lies
abbrev pub site : Place → ℕ → Option Site
site place sector = if place.synced then option_map (λ slot. site_on slot (place.start + sector)) place.slot else None

-- the same of a position of an element
abbrev pub site_at : List Place → ℕ → ℕ → Option Site
site_at places position sector = option_and_then (λ place. site place sector) (slice_get places position)

-- so many sectors of the extent have numbers, where its disk is there
abbrev pub Ends : Place → ℕ → Type 0
Ends place sectors = (slot : ℕ) → place.slot ≡ Some slot → place.start + sectors < 2 ^ 64

-- the extent lies on its slot, of these sizes
abbrev pub LiesOn : List ℕ → ℕ → Place → Type 0
LiesOn sizes sectors place = (slot : ℕ) → place.slot ≡ Some slot → (slot < length sizes) × (place.start + sectors ≤ slice_index sizes slot)
