-- Where sectors of places lie.
use Rattle.std.proofs.Common.{◌≡◌, ◌+◌, ◌<◌, ◌≤◌, ℕ, List, length, slice_get, slice_index, Option, Some, None, Bool, true, false, refl, subst, arith}
use Rattle.std.specs.Prelude.{option_map, option_and_then, IfSome, ◌==◌, if◌then◌else◌}
use Rattle.ddf_array.specs.declared.place.Place.{Place}
use Rattle.ddf_array.specs.declared.part.Part.{Part}
use Rattle.ddf_array.specs.declared.site.Site.{Site}
use Rattle.ddf_array.specs.Places.{site, site_at, site_on, LiesOn}
use Rattle.ddf_array.specs.Volume.{PartFits}
use Rattle.ddf_read.specs.Sums.{other_site}

-- so many sectors from one on are there, on slots of these sizes
pub record IsThere (sizes : List ℕ) (one : Site) (count : ℕ) : Type 0 where
  pub slot_is : one.slot < length sizes
  pub lba_is : one.lba + count ≤ slice_index sizes one.slot

lies_by : (sizes : List ℕ) (blocks sector count start : ℕ) (synced : Bool) (slot : Option ℕ) (one : Site)
    → ((s : ℕ) → slot ≡ Some s → (s < length sizes) × (start + blocks ≤ slice_index sizes s)) → sector + count ≤ blocks
    → (if synced then option_map (λ s. site_on s (start + sector)) slot else None) ≡ Some one → IsThere sizes one count
lies_by sizes blocks sector count start false slot one lies inside e = absurd (cc)
lies_by sizes blocks sector count start true None one lies inside e = absurd (cc)
lies_by sizes blocks sector count start true (Some s) one lies inside e =
    let same : site_on s (start + sector) ≡ one = cc in
    let on = lies s refl in
    subst (λ (o : Site). IsThere sizes o count) same (record { slot_is = on.0; lba_is = omega (arith, on.1) })

at_by : (sizes : List ℕ) (blocks sector count : ℕ) (found : Option Place) (one : Site) → ((place : Place) → found ≡ Some place → LiesOn sizes blocks place) → sector + count ≤ blocks
    → option_and_then (λ place. site place sector) found ≡ Some one → IsThere sizes one count
at_by sizes blocks sector count None one fits inside e = absurd (cc)
at_by sizes blocks sector count (Some place) one fits inside e = lies_by sizes blocks sector count place.start place.synced place.slot one (fits place refl) inside e

pub site_at_there : (sizes : List ℕ) (part : Part) (position sector count : ℕ) (one : Site) → PartFits sizes part → sector + count ≤ part.shape.blocks → site_at part.places position sector ≡ Some one → IsThere sizes one count
site_at_there sizes part position sector count one fits inside e =
    at_by sizes part.shape.blocks sector count (slice_get part.places position) one (λ place found. fits position place found) inside e

-- what the calls ask, of one sector and of several
one_by : (sizes : List ℕ) (found : Option Site) → ((one : Site) → found ≡ Some one → IsThere sizes one 1) → IfSome found (λ one. (one.slot < length sizes) × (one.lba < slice_index sizes one.slot))
one_by sizes None there = tt
one_by sizes (Some one) there = let is = there one refl in (is.slot_is, omega (arith, is.lba_is))

pub site_at_within : (sizes : List ℕ) (part : Part) (position sector : ℕ) → PartFits sizes part → sector < part.shape.blocks
    → IfSome (site_at part.places position sector) (λ one. (one.slot < length sizes) × (one.lba < slice_index sizes one.slot))
site_at_within sizes part position sector fits below = one_by sizes (site_at part.places position sector) (λ one e. site_at_there sizes part position sector 1 one fits (omega arith) e)

several_by : (sizes : List ℕ) (count : ℕ) (found : Option Site) → ((one : Site) → found ≡ Some one → IsThere sizes one count) → IfSome found (λ one. (one.slot < length sizes) × (one.lba + count ≤ slice_index sizes one.slot))
several_by sizes count None there = tt
several_by sizes count (Some one) there = let is = there one refl in (is.slot_is, is.lba_is)

other_by : (b : Bool) (found : Option Site) (one : Site) → (if b then None else found) ≡ Some one → found ≡ Some one
other_by true found one e = absurd (cc)
other_by false found one e = e

pub others_within : (sizes : List ℕ) (part : Part) (position sector other count : ℕ) → PartFits sizes part → sector + count ≤ part.shape.blocks
    → IfSome (other_site part.places sector position other) (λ one. (one.slot < length sizes) × (one.lba + count ≤ slice_index sizes one.slot))
others_within sizes part position sector other count fits inside =
    several_by sizes count (other_site part.places sector position other)
    (λ one e. site_at_there sizes part other sector count one fits inside (other_by (other == position) (site_at part.places other sector) one e))
