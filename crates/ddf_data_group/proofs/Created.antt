-- A created array is marked, or keeps each block in one place alone.
use Rattle.std.proofs.Common.{◌≡◌, ◌∙◌, inl, inr, ⊎_elim, ℕ, ◌/◌, ◌%◌, Bool, true, false, List, [], ◌∷◌, Option, Some, None, cond, refl, sym, ap, map, filter_map, length, ◌&&◌, ◌||◌}
use Rattle.std.specs.Prelude.{is_some, nat_le, option_map, ◌==◌, if◌then◌else◌}
use Rattle.std.specs.List.{cons_option, list_all, list_any}
use Rattle.std.specs.Map.{lookup}
use Rattle.std.proofs.lemmas.List.{length-map}
use Rattle.ddf_lemmas.proofs.Options.{none_some}
use Rattle.ddf_lemmas.proofs.Tests.{and_first, and_second}
use Rattle.ddf_primary.specs.Placement.{Placement}
use Rattle.ddf_array.proofs.Told.{shape_coded}
use Rattle.ddf_config.specs.declared.array.Array.{Array}
use Rattle.ddf_config.specs.declared.extent.Extent.{Extent}
use Rattle.ddf_config.specs.declared.member.Member.{Member}
use Rattle.ddf_config.specs.declared.seat.Seat.{Seat}
use Rattle.ddf_config.specs.Configuration.{Configuration}
use Rattle.ddf_config.specs.ElementValue.{ElementValue}
use Rattle.ddf_config.specs.Entries.{changed_entries}
use Rattle.ddf_config.specs.Extents.{extents}
use Rattle.ddf_config.specs.Members.{same_guid}
use Rattle.ddf_config.specs.Shapes.{element_shape, has_shape}
use Rattle.ddf_config.specs.States.{array_with_low, is_marked}
use Rattle.ddf_config.specs.Within as config
use Rattle.ddf_config.specs.Within.{has_redundancy}
use Rattle.ddf_config.proofs.Entries.{absent_changed}
use Rattle.ddf_plan.specs.declared.change.Change.TheVariants.{Create}
use Rattle.ddf_plan.specs.Arrays.{kept_and_added, kept_array}
use Rattle.ddf_plan.specs.Changes.{changed_at}
use Rattle.ddf_plan.specs.Members.{members_after}
use Rattle.ddf_plan.specs.Create.{created, laid_element, laid_parts}
use Rattle.ddf_array.specs.Viewing.{known_part, place_of}
use Rattle.ddf_array.specs.Volume.{Volume}
use Rattle.ddf_array.specs.Within.{is_redundant, keeps_more}
use Rattle.ddf_data_array.specs.Changing.{IsWritable}
use Rattle.ddf_data_group.specs.Over.{IsOver}
use Rattle.ddf_data_group.proofs.Entries.{before, found_in, never_drops, same_mark}
use Rattle.ddf_data_group.proofs.Parts.{mirrored_is}

module _ (seats : List Seat) (elements : ℕ) where
  more_one : (element : ElementValue) (known : List (Option ElementValue)) (found : Option Placement) → element_shape elements element ≡ found → is_some found ≡ true
      → list_any keeps_more (filter_map (known_part seats elements) known) ≡ list_any has_redundancy known
      → list_any keeps_more (cons_option (option_map (λ (shape : Placement). record { shape = shape; places = map (place_of seats element.blocks) element.positions }) found) (filter_map (known_part seats elements) known))
      ≡ list_any has_redundancy (Some element ∷ known)
  more_one element known None made there rest = absurd (cc)
  more_one element known (Some shape) made there rest =
      ap (λ b. b || list_any keeps_more (filter_map (known_part seats elements) known)) (shape_coded elements element shape made).more
      ∙ ap (λ b. has_redundancy (Some element) || b) rest

  more_all : (known : List (Option ElementValue)) → list_all (λ (part : Option ElementValue). is_some part) known ≡ true → list_all (has_shape elements) known ≡ true
      → list_any keeps_more (filter_map (known_part seats elements) known) ≡ list_any has_redundancy known
  more_all [] whole shaped = refl
  more_all (None ∷ known) whole shaped = absurd (cc)
  more_all (Some element ∷ known) whole shaped =
      let there = is_some (element_shape elements element) in
      more_one element known (element_shape elements element) refl (and_first there (list_all (has_shape elements) known) shaped)
      (more_all known whole (and_second there (list_all (has_shape elements) known) shaped))

pub redundant_is : (seats : List Seat) (array : Array) (v : Volume) → IsOver seats array v → is_redundant v ≡ config.is_redundant array
redundant_is seats array v over =
    ap (λ b. b || list_any keeps_more v.parts) (mirrored_is seats array v over)
    ∙ ap (λ b. config.is_mirrored array || b) (ap (list_any keeps_more) over.parts_are ∙ more_all seats (length array.elements) array.elements over.complete over.shapes)

-- ---- the created array

module _ (members : List (ℕ × Member)) (all : List Extent) (n : ℕ) where
  placed_more : (part : Option ElementValue) → has_redundancy (option_map (laid_element members all n) part) ≡ has_redundancy part
  placed_more None = refl
  placed_more (Some element) = refl

  any_placed : (known : List (Option ElementValue)) → list_any has_redundancy (map (option_map (laid_element members all n)) known) ≡ list_any has_redundancy known
  any_placed [] = refl
  any_placed (part ∷ known) =
      ap (λ b. b || list_any has_redundancy (map (option_map (laid_element members all n)) known)) (placed_more part) ∙ ap (λ b. has_redundancy part || b) (any_placed known)

created_redundant : (members : List (ℕ × Member)) (all : List Extent) (array : Array) → config.is_redundant (created members all array) ≡ config.is_redundant array
created_redundant members all array =
    ap (λ (n : ℕ). array.secondary == 0x01 && nat_le 2 n || list_any has_redundancy (laid_parts members all array)) (length-map array.elements (option_map (laid_element members all (length array.elements))))
    ∙ ap (λ b. config.is_mirrored array || b) (any_placed members all (length array.elements) array.elements)

created_marked : (b : Bool) → ((if b then 0x10 else 0x00) / 16 % 2 == 1) ≡ b
created_marked true = refl
created_marked false = refl

one_by : (b : Bool) (x y : Array) → cond b (Some x) None ≡ Some y → x ≡ y
one_by true x y e = cc
one_by false x y e = absurd (cc)

writable_by : (v : Volume) (b : Bool) → v.marked ≡ b → is_redundant v ≡ b → IsWritable v
writable_by v true marked redundant = inl marked
writable_by v false marked redundant = inr redundant

pub created_writable : (conf : Configuration) (guid : List ℕ) (array made : Array) (sequence : ℕ) (seats : List Seat) (v : Volume) → lookup (same_guid guid) conf.arrays ≡ None
    → lookup (same_guid guid) (changed_at conf (Create guid array) sequence).arrays ≡ Some made → IsOver seats made v → IsWritable v
created_writable conf guid array made sequence seats v new found over =
    let members = members_after conf (Create guid array) in
    let all = extents (kept_and_added conf (Create guid array)) in
    let low = before (λ k x. Some (array_with_low members all x)) (same_guid guid) (never_drops (λ k x. array_with_low members all x) (same_guid guid)) (kept_and_added conf (Create guid array)) made found in
    let same : array_with_low members all low.value ≡ made = let e = low.is_changed in cc in
    let one = created conf.members (extents conf.arrays) array in
    let is_new : one ≡ low.value =
    ⊎_elim
    (λ old. absurd (none_some (lookup (same_guid guid) (changed_entries (kept_array false members (Create guid array)) conf.arrays)) low.value
    (absent_changed (kept_array false members (Create guid array)) (same_guid guid) conf.arrays new) old))
    (λ added. one_by (same_guid guid guid) one low.value added)
    (found_in (same_guid guid) (changed_entries (kept_array false members (Create guid array)) conf.arrays) ((guid, one) ∷ []) low.value low.was) in
    let marked : v.marked ≡ config.is_redundant array =
    over.marked_is ∙ ap is_marked (sym same) ∙ same_mark members all low.value ∙ ap is_marked (sym is_new) ∙ created_marked (config.is_redundant array) in
    let redundant : is_redundant v ≡ config.is_redundant array =
    redundant_is seats made v over ∙ ap config.is_redundant (sym same) ∙ ap config.is_redundant (sym is_new) ∙ created_redundant conf.members (extents conf.arrays) array in
    writable_by v (config.is_redundant array) marked redundant
