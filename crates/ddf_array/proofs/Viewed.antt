-- The array that a view is of.
use Rattle.std.proofs.Common.{◌≡◌, ◌∙◌, ℕ, true, List, Option, Some, None, Result, Ok, Err, refl, sym, ap}
use Rattle.std.specs.Prelude.{is_some}
use Rattle.std.specs.Map.{lookup}
use Rattle.ddf_secondary.specs.Arrangement.{Arrangement}
use Rattle.ddf_config.specs.declared.array.Array.{Array}
use Rattle.ddf_config.specs.declared.seat.Seat.{Seat}
use Rattle.ddf_config.specs.declared.refusal.Refusal.{Refusal}
use Rattle.ddf_config.specs.declared.refusal.Refusal.TheVariants.{Shape}
use Rattle.ddf_config.specs.Configuration.{Configuration}
use Rattle.ddf_config.specs.Extents.{extents}
use Rattle.ddf_config.specs.Members.{same_guid}
use Rattle.ddf_config.specs.Shapes.{array_tiers}
use Rattle.ddf_config.specs.States.{is_marked}
use Rattle.ddf_config.specs.Unusable.{unusable}
use Rattle.ddf_array.specs.Volume.{Volume, volume}
use Rattle.ddf_array.specs.Viewing.{parts_of, viewed, view_by, view_of}
use Rattle.ddf_array.proofs.Usable.{tiers}

pub record Viewed (config : Configuration) (guid : List ℕ) (seats : List Seat) (volume : Volume) : Type 0 where
  pub array : Array
  pub array_is : lookup (same_guid guid) config.arrays ≡ Some array
  pub usable : unusable config.members seats (extents config.arrays) guid array ≡ None
  pub tiers_are : array_tiers array ≡ Some volume.tiers
  pub parts_are : volume.parts ≡ parts_of seats array.elements
  pub marked_is : volume.marked ≡ is_marked array

module _ (config : Configuration) (guid : List ℕ) (seats : List Seat) (v : Volume) where
  by_tiers : (array : Array) → lookup (same_guid guid) config.arrays ≡ Some array → unusable config.members seats (extents config.arrays) guid array ≡ None
      → (t : Option Arrangement) → array_tiers array ≡ t
      → ◌≡◌ {A = Result Volume Refusal} (elim t [ None ↦ Err Shape | Some tiers ↦ Ok (volume (is_marked array) tiers (parts_of seats array.elements)) ]) (Ok v)
      → Viewed config guid seats v
  by_tiers array found usable None are e = absurd (cc)
  by_tiers array found usable (Some tiers) are e =
      let same : volume (is_marked array) tiers (parts_of seats array.elements) ≡ v = cc in
      record {
        array = array;
        array_is = found;
        usable = usable;
        tiers_are = are ∙ ap (λ (x : Volume). Some x.tiers) same;
        parts_are = sym (ap (λ (x : Volume). x.parts) same);
        marked_is = sym (ap (λ (x : Volume). x.marked) same);
      }

  by_refusal : (array : Array) → lookup (same_guid guid) config.arrays ≡ Some array → (r : Option Refusal) → unusable config.members seats (extents config.arrays) guid array ≡ r
      → ◌≡◌ {A = Result Volume Refusal} (elim r [ None ↦ viewed seats array | Some refusal ↦ Err refusal ]) (Ok v) → Viewed config guid seats v
  by_refusal array found None usable e = by_tiers array found usable (array_tiers array) refl e
  by_refusal array found (Some refusal) usable e = absurd (cc)

  by_array : (found : Option Array) → lookup (same_guid guid) config.arrays ≡ found → view_by config guid seats found ≡ Ok v → Viewed config guid seats v
  by_array None found e = absurd (cc)
  by_array (Some array) found e = by_refusal array found (unusable config.members seats (extents config.arrays) guid array) refl e

  pub from_view : view_of config guid seats ≡ Ok v → Viewed config guid seats v
  from_view e = by_array (lookup (same_guid guid) config.arrays) refl e

-- An array that can be used has a view.
module _ (config : Configuration) (guid : List ℕ) (seats : List Seat) (array : Array) (found : lookup (same_guid guid) config.arrays ≡ Some array)
    (usable : unusable config.members seats (extents config.arrays) guid array ≡ None) where
  view_with : (t : Option Arrangement) → array_tiers array ≡ t → is_some t ≡ true → (v : Volume) × (view_of config guid seats ≡ Ok v)
  view_with None are there = absurd (cc)
  view_with (Some tiers) are there = (
    volume (is_marked array) tiers (parts_of seats array.elements),
    ap (view_by config guid seats) found
        ∙ ap (λ (r : Option Refusal). elim r [ None ↦ viewed seats array | Some refusal ↦ Err refusal ]) usable
        ∙ ap (λ (t : Option Arrangement). elim t [ None ↦ Err Shape | Some one ↦ Ok (volume (is_marked array) one (parts_of seats array.elements)) ]) are,
  )

  pub has_view : (v : Volume) × (view_of config guid seats ≡ Ok v)
  has_view = view_with (array_tiers array) refl (tiers config.members seats (extents config.arrays) guid array usable)
