-- Nothing refuses a read of an array that its disks serve.
use Rattle.std.proofs.Common.{◌≡◌, ◌∙◌, ℕ, ◌+◌, ◌&&◌, not, nat_lt, Bool, true, false, List, [], ◌∷◌, Option, Some, None, Result, Ok, Err, refl, sym, ap, le-ltb}
use Rattle.std.specs.List.{list_any, range_with_len}
use Rattle.std.specs.Map.{lookup}
use Rattle.ddf_config.specs.declared.array.Array.{Array}
use Rattle.ddf_config.specs.declared.refusal.Refusal.{Refusal}
use Rattle.ddf_config.specs.declared.refusal.Refusal.TheVariants.{Held, Lost, Range, Shape, Unsure}
use Rattle.ddf_config.specs.declared.seat.Seat.{Seat}
use Rattle.ddf_config.specs.Configuration.{Configuration}
use Rattle.ddf_config.specs.Extents.{extents}
use Rattle.ddf_config.specs.Levels.{unserved_level}
use Rattle.ddf_config.specs.Members.{same_guid}
use Rattle.ddf_config.specs.Refusals.{first_refusal, refuse_if}
use Rattle.ddf_config.specs.Shapes.{array_capacity, array_tiers}
use Rattle.ddf_config.specs.States.{is_marked}
use Rattle.ddf_config.specs.Unusable.{is_served_on, unusable}
use Rattle.ddf_config.specs.Within.{is_complete}
use Rattle.ddf_secondary.specs.Arrangement.{Arrangement}
use Rattle.ddf_config.proofs.Common.{pass_more}
use Rattle.ddf_array.specs.Viewing.{is_array_within, parts_of, view_by, view_of, viewed}
use Rattle.ddf_array.specs.Volume.{Volume, volume as volume_of}
use Rattle.ddf_array.proofs.Usable.{holds}
use Rattle.ddf_read.specs.Refused.{is_unsure, lacks_copy}
use Rattle.ddf_request.specs.Named.{named_array}
use Rattle.ddf_request.specs.Usable.{bad_blocks, is_held, useless}
use Rattle.ddf_read_commands.specs.Read.{needs_parity, read_refusal}
use Rattle.ddf_read_commands.specs.Use.{is_out_of_range}
use Rattle.ddf_read_commands.proofs.ArrayUse.{named_is}
use Rattle.ddf_availability.specs.Serving.{IsServing}

-- ---- causes in order

pass_seven : (a b c d e f g : Option Refusal) → a ≡ None → b ≡ None → c ≡ None → d ≡ None → e ≡ None → f ≡ None → g ≡ None → first_refusal (a ∷ b ∷ c ∷ d ∷ e ∷ f ∷ g ∷ []) ≡ None
pass_seven a b c d e f g p q r s t u v =
    pass_more a (b ∷ c ∷ d ∷ e ∷ f ∷ g ∷ []) p
    (pass_more b (c ∷ d ∷ e ∷ f ∷ g ∷ []) q
    (pass_more c (d ∷ e ∷ f ∷ g ∷ []) r
    (pass_more d (e ∷ f ∷ g ∷ []) s
    (pass_more e (f ∷ g ∷ []) t
    (pass_more f (g ∷ []) u
    (pass_more g [] v refl))))))

none_of_three : (a b c : Option Refusal) → first_refusal (a ∷ b ∷ c ∷ []) ≡ None → (first_refusal (a ∷ b ∷ []) ≡ None) × (c ≡ None)
none_of_three (Some x) b c is = absurd cc
none_of_three None (Some x) c is = absurd cc
none_of_three None None (Some x) is = absurd cc
none_of_three None None None is = (refl, refl)

-- ---- what a view tells

view_in : (refused : Option Refusal) (made : Result Volume Refusal) (v : Volume) → ◌≡◌ {A = Result Volume Refusal} (elim refused [ None ↦ made | Some refusal ↦ Err refusal ]) (Ok v)
    → (refused ≡ None) × (made ≡ Ok v)
view_in None made v is = (refl, is)
view_in (Some refusal) made v is = absurd cc

mark_in : (marked : Bool) (seats : List Seat) (array : Array) (tiers : Option Arrangement) (v : Volume)
    → ◌≡◌ {A = Result Volume Refusal} (elim tiers [ None ↦ Err Shape | Some all ↦ Ok (volume_of marked all (parts_of seats array.elements)) ]) (Ok v) → v.marked ≡ marked
mark_in marked seats array None v is = absurd cc
mark_in marked seats array (Some all) v is = let same : volume_of marked all (parts_of seats array.elements) ≡ v = cc in ap (λ (one : Volume). one.marked) (sym same)

module _ (config : Configuration) (seats : List Seat) (word : List ℕ) (start count : ℕ) (serving : IsServing config seats word start count) where
  abbrev guid : List ℕ
  guid = serving.entry.0

  abbrev array : Array
  array = serving.entry.1

  there : lookup (same_guid serving.entry.0) config.arrays ≡ Some serving.entry.1
  there = named_is config.arrays word serving.entry serving.is_named

  is_viewed : view_by config serving.entry.0 seats (Some serving.entry.1) ≡ Ok serving.volume
  is_viewed = sym (ap (view_by config serving.entry.0 seats) there) ∙ serving.is_view

  usable : (unusable config.members seats (extents config.arrays) guid array ≡ None) × (viewed seats array ≡ Ok serving.volume)
  usable = view_in (unusable config.members seats (extents config.arrays) guid array) (viewed seats array) serving.volume is_viewed

  parts : (useless config seats guid array ≡ None) × (refuse_if (not (is_complete array)) Lost ≡ None)
  parts =
      none_of_three (unserved_level guid array) (refuse_if (not (is_served_on config.members seats (extents config.arrays) array)) Shape) (refuse_if (not (is_complete array)) Lost) usable.0

  complete : is_complete array ≡ true
  complete = holds (is_complete array) Lost parts.1

  in_range : refuse_if (is_out_of_range array start count) (Range (array_capacity array)) ≡ None
  in_range =
      ap (λ (b : Bool). refuse_if (b && nat_lt (array_capacity array) (start + count)) (Range (array_capacity array))) complete
      ∙ ap (λ (b : Bool). refuse_if b (Range (array_capacity array))) (le-ltb (array_capacity array) (start + count) serving.in_range)

  pub unmarked_view : serving.volume.marked ≡ false
  unmarked_view = mark_in (is_marked array) seats array (array_tiers array) serving.volume usable.1 ∙ serving.unmarked

  sure : is_unsure serving.volume start count ≡ false
  sure = ap (λ (b : Bool). b && list_any (lacks_copy serving.volume) (range_with_len start count)) unmarked_view

  pub accepted : read_refusal config seats (named_array config.arrays word) start count ≡ None
  accepted =
      ap (λ (one : Option (List ℕ × Array)). read_refusal config seats one start count) serving.is_named
      ∙ pass_seven (useless config seats guid array) (refuse_if (is_out_of_range array start count) (Range (array_capacity array))) (bad_blocks seats array) (refuse_if (is_held array) Held)
      (refuse_if (not (is_complete array)) Lost) (refuse_if (not (is_array_within seats array)) Lost) (refuse_if (needs_parity (view_of config guid seats) start count) Unsure)
      parts.0 in_range serving.none_bad (ap (λ (b : Bool). refuse_if b Held) serving.not_held) parts.1 (ap (λ (b : Bool). refuse_if (not b) Lost) serving.within)
      (ap (λ (v : Result Volume Refusal). refuse_if (needs_parity v start count) Unsure) serving.is_view ∙ ap (λ (b : Bool). refuse_if b Unsure) sure)
