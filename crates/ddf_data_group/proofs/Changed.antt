-- What the arrays of a configuration keep through its changes.
use Rattle.std.proofs.Common.{◌≡◌, ◌∙◌, ⊎_elim, ℕ, Bool, true, false, List, [], ◌∷◌, Option, Some, None, cond, refl, sym, ap, subst, if◌then◌else◌}
use Rattle.std.specs.Map.{lookup}
use Rattle.ddf_lemmas.proofs.Options.{none_some}
use Rattle.ddf_bay.specs.Sectors.{Image}
use Rattle.ddf_config.specs.declared.array.Array.{Array}
use Rattle.ddf_config.specs.declared.member.Member.{Member}
use Rattle.ddf_config.specs.declared.seat.Seat.{Seat}
use Rattle.ddf_config.specs.Configuration.{Configuration}
use Rattle.ddf_config.specs.Entries.{changed_entries}
use Rattle.ddf_config.specs.Extents.{extents}
use Rattle.ddf_config.specs.Members.{is_current, same_guid}
use Rattle.ddf_config.specs.States.{array_with_low}
use Rattle.ddf_plan.specs.declared.change.Change.{Change}
use Rattle.ddf_plan.specs.declared.change.Change.TheVariants.{Lose, Create, Delete, Spare, Fail, Mark, Unmark, Rewind, Begin, Progress, Finish, Return}
use Rattle.ddf_plan.specs.Standing.{takes_revertible}
use Rattle.ddf_plan.specs.Arrays.{arrays_added, kept_and_added, kept_array, rebuilding}
use Rattle.ddf_plan.specs.Changes.{changed_at}
use Rattle.ddf_plan.specs.Lose.{lost_array}
use Rattle.ddf_plan.specs.Mark.{marked, rewound, unmarked}
use Rattle.ddf_plan.specs.Members.{member_after, members_after}
use Rattle.ddf_repair.proofs.Marks.{marked_is, unmarked_is}
use Rattle.ddf_array.specs.Losing.{AreFewer}
use Rattle.ddf_data_array.specs.Allowed.{Allowed}
use Rattle.ddf_data_group.specs.Over.{AreCurrentSeats}
use Rattle.ddf_data_group.specs.Kept.{KeepsArray}
use Rattle.ddf_data_group.specs.Grouped.{KeepsArrays, MayChange, Promises}
use Rattle.ddf_data_group.proofs.Cleared.{cleared, same_marked}
use Rattle.ddf_data_group.proofs.Entries.{before, current_same, found_in, guid_is, never_drops, same_mark}
use Rattle.ddf_data_group.proofs.Keeping.{kept_as, kept_lost, kept_marked, kept_staying}
use Rattle.ddf_data_group.proofs.Moving.{moving}
use Rattle.ddf_data_group.proofs.Named.{begun_less, begun_stays, finished_synced, marked_less, progressed_noted, returned_moved, rewound_less, rewound_stays, unmarked_same}
use Rattle.ddf_data_group.proofs.Synced.{finished, noted_rows}

-- a deleted array is deleted under each of its names
drops_by : (b : Bool) (x y : Array) → (if b then None else Some x) ≡ None → (◌≡◌ {A = Option Array} (if b then None else Some y) None)
drops_by true x y e = refl
drops_by false x y e = absurd (cc)

delete_drops : (gone guid : List ℕ) (k l : List ℕ) (x y : Array) → same_guid guid k ≡ true → same_guid guid l ≡ true → (if same_guid gone k then None else Some x) ≡ None
    → (◌≡◌ {A = Option Array} (if same_guid gone l then None else Some y) None)
delete_drops gone guid k l x y a b e =
    let same : k ≡ l = sym (guid_is guid k a) ∙ guid_is guid l b in
    drops_by (same_guid gone l) x y (ap (λ (c : List ℕ). if same_guid gone c then None else Some x) (sym same) ∙ e)

kept_by : (b : Bool) (x y : Array) → (if b then None else Some x) ≡ Some y → x ≡ y
kept_by true x y e = absurd (cc)
kept_by false x y e = cc

module _ (config : Configuration) (seats fewer : List Seat) (image : Image) (promises : Promises) (are : AreCurrentSeats config.members seats) (few : AreFewer seats fewer) (kept : KeepsArrays config seats image promises) where
  -- an array that is found behind the change, its low state aside
  abbrev Keeps : Change → Type 0
  Keeps change =
      (guid : List ℕ) (allowed : Allowed) (array : Array) → promises guid ≡ Some allowed → lookup (same_guid guid) (changed_entries (kept_array (takes_revertible config change) (members_after config change) change) config.arrays) ≡ Some array
      → KeepsArray (members_after config change) fewer array image allowed

  moved : (members : List (ℕ × Member)) (one other : Array) (allowed : Allowed) → one ≡ other → KeepsArray members fewer one image allowed → KeepsArray members fewer other image allowed
  moved members one other allowed same keeps = subst (λ (x : Array). KeepsArray members fewer x image allowed) same keeps

  by_lose : (references : List ℕ) → AreCurrentSeats (members_after config (Lose references)) fewer → Keeps (Lose references)
  by_lose references after_are guid allowed array promised found =
      let members = members_after config (Lose references) in
      let was = before (λ k x. Some (lost_array members references x)) (same_guid guid) (never_drops (λ k x. lost_array members references x) (same_guid guid)) config.arrays array found in
      let same : lost_array members references was.value ≡ array = let e = was.is_changed in cc in
      moved members (lost_array members references was.value) array allowed same
      (kept_lost config.members members references seats fewer was.value image allowed are after_are few (kept guid allowed was.value promised was.was))

  by_fail : (failed : ℕ) → AreCurrentSeats (members_after config (Fail failed)) fewer → Keeps (Fail failed)
  by_fail failed after_are guid allowed array promised found =
      let members = members_after config (Fail failed) in
      let was = before (λ k x. Some (lost_array members (failed ∷ []) x)) (same_guid guid) (never_drops (λ k x. lost_array members (failed ∷ []) x) (same_guid guid)) config.arrays array found in
      let same : lost_array members (failed ∷ []) was.value ≡ array = let e = was.is_changed in cc in
      moved members (lost_array members (failed ∷ []) was.value) array allowed same
      (kept_lost config.members members (failed ∷ []) seats fewer was.value image allowed are after_are few (kept guid allowed was.value promised was.was))

  -- members that no change loses are current as they were
  current_is : (change : Change) → ((reference : ℕ) (member : Member) → (member_after config change reference member).missing ≡ member.missing) → (reference : ℕ)
      → is_current (members_after config change) reference ≡ is_current config.members reference
  current_is change same reference = current_same (member_after config change) same config.members reference

  by_same : (members : List (ℕ × Member)) → ((reference : ℕ) → is_current members reference ≡ is_current config.members reference) → (guid : List ℕ) (allowed : Allowed) (array : Array)
      → promises guid ≡ Some allowed → lookup (same_guid guid) (changed_entries (λ k x. Some x) config.arrays) ≡ Some array → KeepsArray members fewer array image allowed
  by_same members current guid allowed array promised found =
      let was = before (λ k x. Some x) (same_guid guid) (never_drops (λ k x. x) (same_guid guid)) config.arrays array found in
      let same : was.value ≡ array = let e = was.is_changed in cc in
      moved members was.value array allowed same (kept_as config.members members seats fewer was.value image allowed current are few (kept guid allowed was.value promised was.was))

  by_delete : (gone : List ℕ) → Keeps (Delete gone)
  by_delete gone guid allowed array promised found =
      let members = members_after config (Delete gone) in
      let was = before (λ k x. if same_guid gone k then None else Some x) (same_guid guid) (delete_drops gone guid) config.arrays array found in
      moved members was.value array allowed (kept_by (same_guid gone was.key) was.value array was.is_changed)
      (kept_as config.members members seats fewer was.value image allowed (current_is (Delete gone) (λ k m. refl)) are few (kept guid allowed was.value promised was.was))

  -- a change of one array
  by_named : (members : List (ℕ × Member)) → ((reference : ℕ) → is_current members reference ≡ is_current config.members reference) → (named : List ℕ) (f : Array → Array)
      → ((guid : List ℕ) (allowed : Allowed) (array : Array) → promises guid ≡ Some allowed → lookup (same_guid guid) config.arrays ≡ Some array → guid ≡ named → KeepsArray members fewer (f array) image allowed)
      → (guid : List ℕ) (allowed : Allowed) (array : Array) → promises guid ≡ Some allowed
      → lookup (same_guid guid) (changed_entries (λ k x. Some (if same_guid named k then f x else x)) config.arrays) ≡ Some array → KeepsArray members fewer array image allowed
  by_named members current named f own guid allowed array promised found =
      let was = before (λ k x. Some (if same_guid named k then f x else x)) (same_guid guid) (never_drops (λ k x. if same_guid named k then f x else x) (same_guid guid)) config.arrays array found in
      let same : (if same_guid named was.key then f was.value else was.value) ≡ array = let e = was.is_changed in cc in
      moved members (if same_guid named was.key then f was.value else was.value) array allowed same
      (by (same_guid named was.key) refl was.value was.was (λ is. guid_is guid was.key was.passes ∙ sym (guid_is named was.key is)))
    where
      by : (b : Bool) → b ≡ b → (x : Array) → lookup (same_guid guid) config.arrays ≡ Some x → (b ≡ true → guid ≡ named) → KeepsArray members fewer (if b then f x else x) image allowed
      by true is x was here = own guid allowed x promised was (here refl)
      by false is x was here = kept_as config.members members seats fewer x image allowed current are few (kept guid allowed x promised was)

  by_mark : (named : List ℕ) → Keeps (Mark named)
  by_mark named =
      by_named (members_after config (Mark named)) (current_is (Mark named) (λ k m. refl)) named marked (λ guid allowed array promised was here.
      kept_marked config.members (members_after config (Mark named)) seats fewer array (marked array) image allowed are few (marked_less array) (marked_is array) (kept guid allowed array promised was))

  by_unmark : (named : List ℕ) (init : ℕ) → MayChange config seats image promises (Unmark named init) → Keeps (Unmark named init)
  by_unmark named init may =
      let current = current_is (Unmark named init) (λ k m. refl) in
      by_named (members_after config (Unmark named init)) current named (unmarked init) (λ guid allowed array promised was here.
      kept_as config.members (members_after config (Unmark named init)) seats fewer (unmarked init array) image allowed current are few
      (cleared config.members seats array (unmarked init array) image allowed (unmarked_same init array) (unmarked_is init array) (may guid allowed array promised was here) (kept guid allowed array promised was)))

  by_rewind : (named : List ℕ) → Keeps (Rewind named)
  by_rewind named =
      let current = current_is (Rewind named) (λ k m. refl) in
      by_named (members_after config (Rewind named)) current named rewound (λ guid allowed array promised was here.
      kept_staying config.members (members_after config (Rewind named)) seats fewer array (rewound array) image allowed current are few
      (rewound_less array) (rewound_stays (is_current config.members) array) (kept guid allowed array promised was))

  by_begin : (named : List ℕ) (element position reference start : ℕ) → MayChange config seats image promises (Begin named element position reference start) → Keeps (Begin named element position reference start)
  by_begin named element position reference start may =
      let change = Begin named element position reference start in
      let current = current_is (Begin named element position reference start) (λ k m. refl) in
      by_named (members_after config (Begin named element position reference start)) current named (rebuilding (takes_revertible config (Begin named element position reference start)) (Begin named element position reference start) element) (λ guid allowed array promised was here.
      kept_staying config.members (members_after config (Begin named element position reference start)) seats fewer array (rebuilding (takes_revertible config (Begin named element position reference start)) (Begin named element position reference start) element array) image allowed current are few
      (begun_less (takes_revertible config change) named element position reference start array)
      (begun_stays (takes_revertible config change) (is_current config.members) named element position reference start array (may guid allowed array promised was here)) (kept guid allowed array promised was))

  by_progress : (named : List ℕ) (element position row : ℕ) → MayChange config seats image promises (Progress named element position row) → Keeps (Progress named element position row)
  by_progress named element position row may =
      let current = current_is (Progress named element position row) (λ k m. refl) in
      by_named (members_after config (Progress named element position row)) current named (rebuilding false (Progress named element position row) element) (λ guid allowed array promised was here.
      kept_as config.members (members_after config (Progress named element position row)) seats fewer (rebuilding false (Progress named element position row) element array) image allowed current are few
      (noted_rows config.members seats element position row array (rebuilding false (Progress named element position row) element array) image allowed (progressed_noted named element position row array)
      (may guid allowed array promised was here) (kept guid allowed array promised was)))

  by_finish : (named : List ℕ) (element position : ℕ) → MayChange config seats image promises (Finish named element position) → Keeps (Finish named element position)
  by_finish named element position may =
      let current = current_is (Finish named element position) (λ k m. refl) in
      by_named (members_after config (Finish named element position)) current named (rebuilding false (Finish named element position) element) (λ guid allowed array promised was here.
      kept_as config.members (members_after config (Finish named element position)) seats fewer (rebuilding false (Finish named element position) element array) image allowed current are few
      (finished config.members seats element position array (rebuilding false (Finish named element position) element array) image allowed (finished_synced named element position array)
      (may guid allowed array promised was here) (kept guid allowed array promised was)))

  by_return : (named : List ℕ) (element position reference start : ℕ) → MayChange config seats image promises (Return named element position reference start) → Keeps (Return named element position reference start)
  by_return named element position reference start may =
      let current = current_is (Return named element position reference start) (λ k m. refl) in
      by_named (members_after config (Return named element position reference start)) current named (rebuilding false (Return named element position reference start) element) (λ guid allowed array promised was here.
      kept_as config.members (members_after config (Return named element position reference start)) seats fewer (rebuilding false (Return named element position reference start) element array) image allowed current are few
      (moving config.members seats element position reference start array (rebuilding false (Return named element position reference start) element array) image allowed are
      (returned_moved named element position reference start array) (may guid allowed array promised was here) (kept guid allowed array promised was)))

  by_change : (change : Change) → AreCurrentSeats (members_after config change) fewer → MayChange config seats image promises change → Keeps change
  by_change (Lose references) after_are may = by_lose references after_are
  by_change (Create new added) after_are may = by_same (members_after config (Create new added)) (current_is (Create new added) (λ k m. refl))
  by_change (Delete gone) after_are may = by_delete gone
  by_change (Spare spare use_as) after_are may = by_same (members_after config (Spare spare use_as)) (current_is (Spare spare use_as) (λ k m. refl))
  by_change (Fail failed) after_are may = by_fail failed after_are
  by_change (Mark named) after_are may = by_mark named
  by_change (Unmark named init) after_are may = by_unmark named init may
  by_change (Rewind named) after_are may = by_rewind named
  by_change (Begin named element position reference start) after_are may = by_begin named element position reference start may
  by_change (Progress named element position row) after_are may = by_progress named element position row may
  by_change (Finish named element position) after_are may = by_finish named element position may
  by_change (Return named element position reference start) after_are may = by_return named element position reference start may

  -- nothing is promised of a created array
  one_by : (b : Bool) (x y : Array) → cond b (Some x) None ≡ Some y → b ≡ true
  one_by true x y e = refl
  one_by false x y e = absurd (cc)

  none_added : (change : Change) → MayChange config seats image promises change → (guid : List ℕ) (allowed : Allowed) (array : Array) → promises guid ≡ Some allowed
      → lookup (same_guid guid) (arrays_added config change) ≡ Some array → ⊥
  none_added (Lose references) may guid allowed array promised found = cc
  none_added (Create made added) may guid allowed array promised found =
      let same : guid ≡ made = guid_is guid made (one_by (same_guid guid made) _ array found) in
      none_some (promises made) allowed may (ap promises (sym same) ∙ promised)
  none_added (Delete gone) may guid allowed array promised found = cc
  none_added (Spare spare use_as) may guid allowed array promised found = cc
  none_added (Fail failed) may guid allowed array promised found = cc
  none_added (Mark named) may guid allowed array promised found = cc
  none_added (Unmark named init) may guid allowed array promised found = cc
  none_added (Rewind named) may guid allowed array promised found = cc
  none_added (Begin named element position reference start) may guid allowed array promised found = cc
  none_added (Progress named element position row) may guid allowed array promised found = cc
  none_added (Finish named element position) may guid allowed array promised found = cc
  none_added (Return named element position reference start) may guid allowed array promised found = cc

  pub changed_keeps : (change : Change) (sequence : ℕ) → AreCurrentSeats (members_after config change) fewer → MayChange config seats image promises change → KeepsArrays (changed_at config change sequence) fewer image promises
  changed_keeps change sequence after_are may guid allowed array promised found =
      let members = members_after config change in
      let all = extents (kept_and_added config change) in
      let low = before (λ k x. Some (array_with_low members all x)) (same_guid guid) (never_drops (λ k x. array_with_low members all x) (same_guid guid)) (kept_and_added config change) array found in
      let same : array_with_low members all low.value ≡ array = let e = low.is_changed in cc in
      let keeps : KeepsArray members fewer low.value image allowed =
      ⊎_elim (λ old. by_change change after_are may guid allowed low.value promised old) (λ added. absurd (none_added change may guid allowed low.value promised added))
      (found_in (same_guid guid) (changed_entries (kept_array (takes_revertible config change) members change) config.arrays) (arrays_added config change) low.value low.was) in
      moved members (array_with_low members all low.value) array allowed same
      (same_marked members members fewer low.value (array_with_low members all low.value) image allowed (record { same_secondary = refl; same_elements = refl }) (same_mark members all low.value) (λ reference. refl) keeps)
