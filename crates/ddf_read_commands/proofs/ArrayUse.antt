-- An array whose blocks nothing of its records refuses has a view.
use Rattle.std.proofs.Common.{◌≡◌, ◌∙◌, ◌+◌, ◌&&◌, ℕ, Bool, true, false, not, List, [], ◌∷◌, Option, Some, None, Ok, Err, ap, refl, subst}
use Rattle.std.specs.Map.{lookup}
use Rattle.std.specs.Option.{option_and_then}
use Rattle.std.specs.Prelude.{nat_lt, option_map}
use Rattle.ddf_config.specs.declared.refusal.Refusal.{Refusal}
use Rattle.ddf_config.specs.declared.refusal.Refusal.TheVariants.{Held, Lost, Range, Shape}
use Rattle.ddf_config.specs.declared.array.Array.{Array}
use Rattle.ddf_config.specs.declared.seat.Seat.{Seat}
use Rattle.ddf_config.specs.Configuration.{Configuration}
use Rattle.ddf_config.specs.Extents.{extents}
use Rattle.ddf_config.specs.Levels.{unserved_level}
use Rattle.ddf_config.specs.Refusals.{first_refusal, refuse_if}
use Rattle.ddf_config.specs.Members.{same_guid}
use Rattle.ddf_config.specs.Shapes.{array_capacity}
use Rattle.ddf_config.specs.Unusable.{is_served_on}
use Rattle.ddf_config.specs.Within.{is_complete}
use Rattle.ddf_array.specs.Viewing.{view_of}
use Rattle.ddf_array.specs.Volume.{Volume}
use Rattle.ddf_array.proofs.Viewed.{has_view}
use Rattle.ddf_request.specs.Named.{named_array, named_guid, with_array}
use Rattle.ddf_request.specs.Usable.{bad_blocks, useless}
use Rattle.ddf_answer.specs.declared.failure.Failure.{Failure}
use Rattle.ddf_answer.specs.declared.failure.Failure.TheVariants.{Conflict, Disk, Memory, Refused, Split}
use Rattle.ddf_read_commands.specs.declared.using.Access.{Access}
use Rattle.ddf_read_commands.specs.Use.{IsViewed, MayUse, array_refusals, is_forbidden, is_out_of_range, use_refusal}

-- ---- causes in order

-- five, each as another
pub five_same : (a b c d e f g h i j : Option Refusal) → a ≡ f → b ≡ g → c ≡ h → d ≡ i → e ≡ j → first_refusal (a ∷ b ∷ c ∷ d ∷ e ∷ []) ≡ first_refusal (f ∷ g ∷ h ∷ i ∷ j ∷ [])
five_same a b c d e f g h i j one two three four five =
    ap (λ (x : Option Refusal). first_refusal (x ∷ b ∷ c ∷ d ∷ e ∷ [])) one ∙ ap (λ (x : Option Refusal). first_refusal (f ∷ x ∷ c ∷ d ∷ e ∷ [])) two
    ∙ ap (λ (x : Option Refusal). first_refusal (f ∷ g ∷ x ∷ d ∷ e ∷ [])) three ∙ ap (λ (x : Option Refusal). first_refusal (f ∷ g ∷ h ∷ x ∷ e ∷ [])) four
    ∙ ap (λ (x : Option Refusal). first_refusal (f ∷ g ∷ h ∷ i ∷ x ∷ [])) five

-- where none of five is there, these three aren't
none_of_five : (a b c d e : Option Refusal) → first_refusal (a ∷ b ∷ c ∷ d ∷ e ∷ []) ≡ None → (a ≡ None) × (b ≡ None) × (e ≡ None)
none_of_five (Some x) b c d e h = absurd cc
none_of_five None (Some x) c d e h = absurd cc
none_of_five None None (Some x) d e h = absurd cc
none_of_five None None None (Some x) e h = absurd cc
none_of_five None None None None (Some x) h = absurd cc
none_of_five None None None None None h = (refl, refl, refl)

-- where none of two is there, and no third, there is none of three
pub none_of_three : (a b c : Option Refusal) → first_refusal (a ∷ b ∷ []) ≡ None → c ≡ None → first_refusal (a ∷ b ∷ c ∷ []) ≡ None
none_of_three (Some x) b c two one = absurd cc
none_of_three None (Some x) c two one = absurd cc
none_of_three None None (Some x) two one = absurd cc
none_of_three None None None two one = refl

-- ---- an array that may be used

pub within_range : (complete passes : Bool) (capacity : ℕ) → refuse_if (complete && passes) (Range capacity) ≡ None → refuse_if (not complete) Lost ≡ None → passes ≡ false
within_range true true capacity range whole = absurd cc
within_range true false capacity range whole = refl
within_range false passes capacity range whole = absurd cc

named_by : (arrays : List (List ℕ × Array)) (guid : List ℕ) (entry : List ℕ × Array) (found : Option Array) → lookup (same_guid guid) arrays ≡ found
    → option_map (λ array. (guid, array)) found ≡ Some entry → lookup (same_guid entry.0) arrays ≡ Some entry.1
named_by arrays guid entry None is e = absurd cc
named_by arrays guid entry (Some array) is e =
    let same : (guid, array) ≡ entry = cc in
    subst (λ (one : List ℕ × Array). lookup (same_guid one.0) arrays ≡ Some one.1) same is

named_in : (arrays : List (List ℕ × Array)) (entry : List ℕ × Array) (guid : Option (List ℕ)) → option_and_then (with_array arrays) guid ≡ Some entry
    → lookup (same_guid entry.0) arrays ≡ Some entry.1
named_in arrays entry None e = absurd cc
named_in arrays entry (Some guid) e = named_by arrays guid entry (lookup (same_guid guid) arrays) refl e

-- an array that the words name is the one of its GUID
pub named_is : (arrays : List (List ℕ × Array)) (word : List ℕ) (entry : List ℕ × Array) → named_array arrays word ≡ Some entry → lookup (same_guid entry.0) arrays ≡ Some entry.1
named_is arrays word entry e = named_in arrays entry (named_guid arrays word) e

module _ (access : Access) (config : Configuration) (seats : List Seat) (start count : ℕ) (guid : List ℕ) (array : Array) (accepted : first_refusal (array_refusals access config seats guid array start count) ≡ None) where
  passed : (useless config seats guid array ≡ None) × (refuse_if (is_out_of_range array start count) (Range (array_capacity array)) ≡ None) × (refuse_if (not (is_complete array)) Lost ≡ None)
  passed =
      none_of_five (useless config seats guid array) (refuse_if (is_out_of_range array start count) (Range (array_capacity array))) (bad_blocks seats array)
      (refuse_if (is_forbidden access array) Held) (refuse_if (not (is_complete array)) Lost) accepted

  -- its blocks don't pass the capacity
  pub range_of : nat_lt (array_capacity array) (start + count) ≡ false
  range_of = within_range (is_complete array) (nat_lt (array_capacity array) (start + count)) (array_capacity array) passed.1 passed.2

  -- it has a view
  pub viewable : lookup (same_guid guid) config.arrays ≡ Some array → (v : Volume) × (view_of config guid seats ≡ Ok v)
  viewable there =
      let ill : Option Refusal = refuse_if (not (is_served_on config.members seats (extents config.arrays) array)) Shape in
      let unknown : Option Refusal = refuse_if (not (is_complete array)) Lost in
      has_view config guid seats array there (none_of_three (unserved_level guid array) ill unknown passed.0 passed.2)

module _ (access : Access) (config : Configuration) (seats : List Seat) (word : List ℕ) (start count : ℕ) (entry : List ℕ × Array) (named : named_array config.arrays word ≡ Some entry) where
  pub may_not_view : first_refusal (array_refusals access config seats entry.0 entry.1 start count) ≡ None → (failure : Failure) → IsViewed (view_of config entry.0 seats) (Err failure)
      → MayUse access config seats word start count (Err failure)
  may_not_view accepted (Refused refusal) is = let view = viewable access config seats start count entry.0 entry.1 accepted (named_is config.arrays word entry named) in absurd cc
  may_not_view accepted Memory is = tt
  may_not_view accepted (Disk slot) is = absurd is
  may_not_view accepted (Conflict i j sequence differ) is = absurd is
  may_not_view accepted (Split i j) is = absurd is

  -- one that something refuses is refused for it
  pub may_refuse_for : (refusal : Refusal) → first_refusal (array_refusals access config seats entry.0 entry.1 start count) ≡ Some refusal
      → use_refusal access config seats (named_array config.arrays word) start count ≡ Some refusal
  may_refuse_for refusal first = ap (λ (one : Option (List ℕ × Array)). use_refusal access config seats one start count) named ∙ first
