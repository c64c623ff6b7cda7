-- Changes and joins that leave a position where it is: what they leave of it, of its disk's member and of the GUIDs of arrays.
use Rattle.std.proofs.Common.{◌≡◌, ◌∙◌, ℕ, Bool, true, false, not, ◌&&◌, ◌||◌, List, [], ◌∷◌, ◌++◌, nat_eq, Option, Some, None, refl, sym, ap, subst, if◌then◌else◌, arith, eq-eqb}
use Rattle.std.proofs.lemmas.Bool.{not-true}
use Rattle.std.proofs.lemmas.List.{append-nil}
use Rattle.std.specs.List.{IsDistinct}
use Rattle.std.specs.Map.{keys_of, lookup}
use Rattle.std.proofs.Math.Bool.{and-false}
use Rattle.std.proofs.lemmas.Map.Keys.{any_passes_from_place}
use Rattle.ddf_config.specs.declared.array.Array.{Array}
use Rattle.ddf_config.specs.declared.extent.Extent.{Extent}
use Rattle.ddf_config.specs.declared.member.Member.{Member}
use Rattle.ddf_config.specs.declared.member.SpareUse.{SpareUse}
use Rattle.ddf_config.specs.declared.member.SpareUse.TheVariants.{No}
use Rattle.ddf_config.specs.Configuration.{Configuration}
use Rattle.ddf_config.specs.Entries.{changed_entries}
use Rattle.ddf_config.specs.Extents.{extents}
use Rattle.ddf_config.specs.Members.{is_current, same_guid}
use Rattle.ddf_config.specs.States.{array_with_low}
use Rattle.ddf_plan.specs.declared.change.Change.{Change}
use Rattle.ddf_plan.specs.declared.change.Change.TheVariants.{Lose, Create, Delete, Spare, Fail, Begin, Return}
use Rattle.ddf_plan.specs.Arrays.{HasNewGuid, arrays_added, kept_and_added, kept_array}
use Rattle.ddf_plan.specs.Changes.{changed_at}
use Rattle.ddf_plan.specs.Create.{created}
use Rattle.ddf_plan.specs.Delete.{use_without}
use Rattle.ddf_plan.specs.Lose.{is_among}
use Rattle.ddf_plan.specs.Members.{member_after, members_after}
use Rattle.ddf_plan.specs.Spare.{array_refers, holds_extent, part_refers, position_refers, use_in_order}
use Rattle.ddf_plan.specs.Standing.{given_back, holds_beside, is_left_by, is_used_beside, stands_in, takes_revertible}
use Rattle.ddf_import.specs.Clash.{join_cause}
use Rattle.ddf_import.specs.Joined.{arrays_joined, kept_member, kept_members, members_joined, numbered, numbers_of}
use Rattle.ddf_import.proofs.Apart.{arrays_fresh}
use Rattle.ddf_availability.specs.GoneBack.{AllLeavePlace, Between, IsOnDisk, LeavesPlace, behind, behind_all, leaves_disk, leaves_place}
use Rattle.ddf_availability.specs.GoneBack.Between.{ByChange, ByJoin}
use Rattle.ddf_availability.proofs.Entries.{any_found, found_front, found_kept, joined_apart, kept_apart, none_kept, one_more}
use Rattle.ddf_availability.proofs.Given.{more_kept}
use Rattle.ddf_availability.proofs.Leaving.{HasOn, kept_on, not_both, same_both}
use Rattle.ddf_availability.proofs.Tables.{member_found}

turned : (a b : ℕ) → nat_eq a b ≡ false → (nat_eq b a || false) ≡ false
turned a b away = let same : nat_eq b a ≡ false = grind arith in ap (λ (c : Bool). c || false) same

-- ---- a position on a disk

abbrev has : {config : Configuration} {guid : List ℕ} {element position reference : ℕ} (on : IsOnDisk config guid element position reference) → HasOn element position reference on.array
has on = record { plan = on.plan; is_plan = on.is_plan; on = record { held = on.held; is_held = on.is_held; is_there = on.is_there } }

is_on : (config : Configuration) (guid : List ℕ) (element position reference : ℕ) (array : Array) → lookup (same_guid guid) config.arrays ≡ Some array → HasOn element position reference array
    → IsOnDisk config guid element position reference
is_on config guid element position reference array is own = record {
  array = array;
  plan = own.plan;
  held = own.on.held;
  is_array = is;
  is_plan = own.is_plan;
  is_held = own.on.is_held;
  is_there = own.on.is_there;
}

low_on : (element position reference : ℕ) (members : List (ℕ × Member)) (all : List Extent) (array : Array) → HasOn element position reference array → HasOn element position reference (array_with_low members all array)
low_on element position reference members all array own = record { plan = own.plan; is_plan = own.is_plan; on = own.on }

-- an array of a table has the position there behind its low states too
lowered : (guid : List ℕ) (element position reference : ℕ) (members : List (ℕ × Member)) (all : List Extent) (arrays : List (List ℕ × Array)) (array : Array) → lookup (same_guid guid) arrays ≡ Some array
    → HasOn element position reference array
    → (next : Array) × (lookup (same_guid guid) (changed_entries (λ key one. Some (array_with_low members all one)) arrays) ≡ Some next) × HasOn element position reference next
lowered guid element position reference members all arrays array is own =
    found_kept (λ key one. Some (array_with_low members all one)) (HasOn element position reference) (same_guid guid) arrays array is
    (λ key same. (array_with_low members all array, refl, low_on element position reference members all array own))

-- its disk holds an extent
refers : (config : Configuration) (guid : List ℕ) (element position reference : ℕ) (on : IsOnDisk config guid element position reference) → array_refers reference on.array ≡ true
refers config guid element position reference on =
    any_passes_from_place (part_refers reference) on.array.elements element (Some on.plan) on.is_plan
    (any_passes_from_place (position_refers reference) on.plan.positions position on.held on.is_held (eq-eqb on.held.reference reference on.is_there))

holds : (config : Configuration) (guid : List ℕ) (element position reference : ℕ) → IsOnDisk config guid element position reference → holds_extent config reference ≡ true
holds config guid element position reference on =
    any_found (λ (entry : List ℕ × Array). array_refers reference entry.1) (same_guid guid) config.arrays on.array on.is_array (λ key own. refers config guid element position reference on)

-- ---- a change

new_kept : (f : List ℕ → Array → Option Array) (arrays : List (List ℕ × Array)) (change : Change) → HasNewGuid arrays change → HasNewGuid (changed_entries f arrays) change
new_kept f arrays (Create guid array) is = none_kept f (same_guid guid) arrays is
new_kept f arrays other is = tt

added_apart : (config : Configuration) (arrays : List (List ℕ × Array)) (change : Change) → HasNewGuid arrays change → IsDistinct same_guid (keys_of arrays)
    → IsDistinct same_guid (keys_of (arrays ++ arrays_added config change))
added_apart config arrays (Create guid array) is apart = one_more arrays guid (created config.members (extents config.arrays) array) apart is
added_apart config arrays other is apart = subst (λ (es : List (List ℕ × Array)). IsDistinct same_guid (keys_of es)) (sym (append-nil arrays)) apart

module _ (config : Configuration) (guid : List ℕ) (element position reference : ℕ) (on : IsOnDisk config guid element position reference) where
  module _ (change : Change) (sequence : ℕ) (leaves : leaves_place guid element position change ≡ true) where
    abbrev kept : List ℕ → Array → Option Array
    kept = kept_array (takes_revertible config change) (members_after config change) change

    still_on : IsOnDisk (changed_at config change sequence) guid element position reference
    still_on =
        let first = found_kept kept (HasOn element position reference) (same_guid guid) config.arrays on.array on.is_array
        (λ key own. kept_on element position reference guid key own (takes_revertible config change) (members_after config change) change leaves on.array (has on)) in
        let next = lowered guid element position reference (members_after config change) (extents (kept_and_added config change)) (kept_and_added config change) first.0
        (found_front (same_guid guid) (changed_entries kept config.arrays) (arrays_added config change) first.0 first.1) first.2 in
        is_on (changed_at config change sequence) guid element position reference next.0 next.1 next.2

    still_apart : HasNewGuid config.arrays change → IsDistinct same_guid (keys_of config.arrays) → IsDistinct same_guid (keys_of (changed_at config change sequence).arrays)
    still_apart is apart =
        kept_apart same_guid (λ key one. Some (array_with_low (members_after config change) (extents (kept_and_added config change)) one)) (kept_and_added config change)
        (added_apart config (changed_entries kept config.arrays) change (new_kept kept config.arrays change is) (kept_apart same_guid kept config.arrays apart))

  -- ---- the disk's member

  module _ (apart : IsDistinct same_guid (keys_of config.arrays)) (member : Member) (there : lookup (nat_eq reference) config.members ≡ Some member) (no_spare : member.spare ≡ No) where
    -- another array is deleted: this one has the position on the disk
    used_beside : (gone : List ℕ) → not (same_guid gone guid) ≡ true → holds_beside config gone reference ≡ true
    used_beside gone leaves =
        any_found (is_used_beside gone reference) (same_guid guid) config.arrays on.array on.is_array
        (λ key own.
        ap (λ (b : Bool). not b && array_refers reference on.array) (not_both (same_guid gone key) (same_guid gone guid) leaves (same_both gone guid key own))
        ∙ refers config guid element position reference on)

    spare_same : (use_as : SpareUse) → use_as ≡ member.spare → ◌≡◌ {A = Member} (record member { spare = use_as }) member
    spare_same use_as same = ap (λ (one : SpareUse). record member { spare = one }) same

    missing_same : (lost : Bool) → lost ≡ false → ◌≡◌ {A = Member} (record member { missing = lost || member.missing }) member
    missing_same lost none = ap (λ (b : Bool). record member { missing = b || member.missing }) none

    none_given : (gone : List ℕ) (gives : Bool) → gives ≡ false → use_without gone (given_back gives member.spare) ≡ member.spare
    none_given gone gives none =
        ap (λ (b : Bool). use_without gone (given_back b member.spare)) none
        ∙ ap (λ (one : SpareUse). use_without gone (given_back false one)) no_spare ∙ sym no_spare

    no_use : (b : Bool) → (if b then No else member.spare) ≡ member.spare
    no_use true = sym no_spare
    no_use false = refl

    found_same : (change : Change) → member_after config change reference member ≡ member → lookup (nat_eq reference) (members_after config change) ≡ Some member
    found_same change same = member_found config change reference member there ∙ ap (λ (one : Member). Some one) same

    still_there : (change : Change) (sequence : ℕ) → leaves_place guid element position change ≡ true → leaves_disk reference change ≡ true → lookup (nat_eq reference) (members_after config change) ≡ Some member
    still_there (Lose references) sequence leaves left = found_same (Lose references) (missing_same (is_among references reference) (not-true (is_among references reference) left))
    still_there (Fail failed) sequence leaves left =
        found_same (Fail failed) (missing_same (is_among (failed ∷ []) reference) (turned failed reference (not-true (nat_eq failed reference) left)))
    still_there (Spare spare next) sequence leaves left =
        found_same (Spare spare next)
        (spare_same (if nat_eq spare reference then use_in_order config.arrays next else member.spare)
        (ap (λ (b : Bool). if b then use_in_order config.arrays next else member.spare) (not-true (nat_eq spare reference) left)))
    still_there (Delete gone) sequence leaves left =
        found_same (Delete gone)
        (spare_same (use_without gone (given_back (is_left_by config gone reference) member.spare))
        (none_given gone (is_left_by config gone reference)
        (ap (λ (b : Bool). is_current config.members reference && stands_in config gone reference && not b) (used_beside gone leaves)
        ∙ and-false (is_current config.members reference && stands_in config gone reference))))
    still_there (Begin named at one disk start) sequence leaves left =
        found_same (Begin named at one disk start) (spare_same (if nat_eq disk reference then No else member.spare) (no_use (nat_eq disk reference)))
    still_there (Return named at one disk start) sequence leaves left =
        more_kept config named at one disk start sequence reference member there apart
        (holds (changed_at config (Return named at one disk start) sequence) guid element position reference (still_on (Return named at one disk start) sequence leaves))
    still_there other sequence leaves left = found_same other refl

-- ---- a join

module _ (config joining : Configuration) (sequence : ℕ) (guid : List ℕ) (element position reference : ℕ) where
  abbrev all : List Extent
  all = extents (arrays_joined config joining)

  also_on : IsOnDisk config guid element position reference → IsOnDisk (behind config (ByJoin joining sequence)) guid element position reference
  also_on on =
      let next = lowered guid element position reference (members_joined config joining) all (arrays_joined config joining) on.array
      (found_front (same_guid guid) config.arrays (numbered (numbers_of config.arrays) joining.arrays) on.array on.is_array) (has on) in
      is_on (behind config (ByJoin joining sequence)) guid element position reference next.0 next.1 next.2

  also_apart : join_cause config joining ≡ None → IsDistinct same_guid (keys_of joining.arrays) → IsDistinct same_guid (keys_of config.arrays)
      → IsDistinct same_guid (keys_of (behind config (ByJoin joining sequence)).arrays)
  also_apart free own apart =
      kept_apart same_guid (λ key one. Some (array_with_low (members_joined config joining) all one)) (arrays_joined config joining)
      (joined_apart (numbers_of config.arrays) joining.arrays config.arrays apart own (arrays_fresh config joining free))

  also_there : (member : Member) → lookup (nat_eq reference) config.members ≡ Some member → member.missing ≡ false → lookup (nat_eq reference) (members_joined config joining) ≡ Some member
  also_there member there here =
      let found = found_kept (kept_member config) (λ (one : Member). one ≡ member) (nat_eq reference) config.members member there
      (λ key own. (member, ap (λ (b : Bool). if not b || holds_extent config key then Some member else None) here, refl)) in
      found_front (nat_eq reference) (kept_members config) joining.members member (found.1 ∙ ap (λ (one : Member). Some one) found.2)

-- ---- several

-- What a copyback asks of a configuration stays behind them.
pub record IsStanding (config : Configuration) (guid : List ℕ) (element position reference : ℕ) (member : Member) : Type 0 where
  pub apart : IsDistinct same_guid (keys_of config.arrays)
  pub on : IsOnDisk config guid element position reference
  pub there : lookup (nat_eq reference) config.members ≡ Some member

module _ (guid : List ℕ) (element position reference : ℕ) (member : Member) (here : member.missing ≡ false) (no_spare : member.spare ≡ No) where
  one_standing : (step : Between) (config : Configuration) → LeavesPlace guid element position reference config step → IsStanding config guid element position reference member
      → IsStanding (behind config step) guid element position reference member
  one_standing (ByChange change sequence) config leaves standing = record {
    apart = still_apart config guid element position reference standing.on change sequence leaves.0 leaves.2 standing.apart;
    on = still_on config guid element position reference standing.on change sequence leaves.0;
    there = still_there config guid element position reference standing.on standing.apart member standing.there no_spare change sequence leaves.0 leaves.1;
  }
  one_standing (ByJoin joining sequence) config leaves standing = record {
    apart = also_apart config joining sequence guid element position reference leaves.0 leaves.1 standing.apart;
    on = also_on config joining sequence guid element position reference standing.on;
    there = also_there config joining sequence guid element position reference member standing.there here;
  }

  pub still_standing : (steps : List Between) (config : Configuration) → AllLeavePlace guid element position reference config steps → IsStanding config guid element position reference member
      → IsStanding (behind_all config steps) guid element position reference member
  still_standing [] config leave standing = standing
  still_standing (step ∷ steps) config leave standing = still_standing steps (behind config step) leave.1 (one_standing step config leave.0 standing)
