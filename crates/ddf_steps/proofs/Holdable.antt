-- A change that nothing refuses keeps what copies can hold.
use Rattle.std.proofs.Common.{◌≡◌, ℕ, ◌^◌, ◌<◌, ◌≤◌, Bool, true, false, not, ◌||◌, cond, List, [], ◌∷◌, ◌++◌, map, filter, Some, None, is_some, option_map, nat_eq, refl, sym, ap, subst, ◌∙◌, if◌then◌else◌}
use Rattle.std.proofs.lemmas.Bool.{false≢true, false_from_ne_true, not-false, or_parts}
use Rattle.std.proofs.lemmas.List.{append-nil}
use Rattle.std.specs.Prelude.{slice_get}
use Rattle.std.specs.Map.{lookup}
use Rattle.std.specs.List.{AllByRecursion, IsDistinct, cons_option, list_any}
use Rattle.std.specs.Str.{bytes_eq}
use Rattle.ddf_lemmas.proofs.Lists.{all_append, all_filter, bytes_same, in_map}
use Rattle.ddf_config.specs.declared.member.Member.{Member}
use Rattle.ddf_config.specs.declared.member.SpareUse.{SpareUse}
use Rattle.ddf_config.specs.declared.member.SpareUse.TheVariants as uses
use Rattle.ddf_config.specs.declared.array.Array.{Array}
use Rattle.ddf_config.specs.declared.extent.Extent.{Extent}
use Rattle.ddf_config.specs.declared.seat.Seat.{Seat}
use Rattle.ddf_config.specs.declared.refusal.Refusal.TheVariants.{NameTaken, NoArray, Shape, InUse, Clash}
use Rattle.ddf_config.specs.Configuration.{Configuration}
use Rattle.ddf_config.specs.Entries.{changed_entries}
use Rattle.ddf_config.specs.Extents.{extents}
use Rattle.ddf_config.specs.Levels.{unserved_level}
use Rattle.ddf_config.specs.Members.{same_guid}
use Rattle.ddf_config.specs.Refusals.{first_refusal, refuse_if}
use Rattle.ddf_config.specs.Seats.{slot_of}
use Rattle.ddf_config.specs.Shapes.{has_shapes, has_tiers}
use Rattle.ddf_config.specs.States.{array_with_low, all_with_low}
use Rattle.ddf_config.proofs.Firsts.{all_pass}
use Rattle.ddf_plan.specs.declared.change.Change.{Change}
use Rattle.ddf_plan.specs.declared.change.Change.TheVariants.{Create, Delete, Spare, Begin, Return}
use Rattle.ddf_plan.specs.Refusals.{not_current, refuse_first}
use Rattle.ddf_plan.specs.Create.{created}
use Rattle.ddf_plan.specs.CreateRefusal.{create_causes, has_more, is_taken, is_no_shape, is_spare_disk, names_twice, passes_most, references}
use Rattle.ddf_plan.specs.Spare.{holds_extent, lacks_array, use_in_order}
use Rattle.ddf_plan.specs.Standing.{given_back, is_given_back, is_left_by, takes_revertible}
use Rattle.ddf_plan.specs.Causes.{causes}
use Rattle.ddf_plan.specs.Members.{members_after, use_after}
use Rattle.ddf_plan.specs.Arrays.{HasNewGuid, array_after, arrays_after, kept_and_added, kept_array}
use Rattle.ddf_plan.specs.Changes.{changed_at}
use Rattle.ddf_plan.proofs.Afters.{is_new}
use Rattle.ddf_plan.proofs.Made.{not_refused}
use Rattle.ddf_view.proofs.Tests.{same_bytes}
use Rattle.ddf_rewrite.specs.Elements.{is_spare_for, no_reference}
use Rattle.ddf_rewrite.specs.Hold.{FitsMember, IsHoldable}
use Rattle.ddf_rewrite.specs.Readable.{HasSpares}
use Rattle.ddf_rewrite.proofs.NamesCan.{own_names, own_references}
use Rattle.ddf_steps.specs.Asked.{CanBeAsked}
use Rattle.ddf_steps.proofs.HeldEntries.{IsHeldEntry, entries_fit, entries_held, entries_readable, entries_rebuilt, plans_held}
use Rattle.ddf_steps.proofs.ArraysAfter.{KeepsArrays, all_kept, changed_all, guids_kept, guids_of, low_keeps, with_arrays}
use Rattle.ddf_steps.proofs.NamedArrays.{array_after_keeps}
use Rattle.ddf_steps.proofs.MembersAfter.{are_after, keys_kept, members_fit}
use Rattle.ddf_steps.proofs.NewArray.{created_held}
use Rattle.ddf_steps.proofs.SparesAfter.{IsUseAmong, given_use, guids_end, guids_others, kept_use, no_use, others, use_ordered, use_with_new, use_without_gone}

-- ---- what the causes exclude

-- A new array that nothing refuses: its GUID is new, it has shapes and tiers, and no element has more members than the bound.
record IsAllowed (bound : ℕ) (config : Configuration) (guid : List ℕ) (array : Array) : Type 0 where
  new : lookup (same_guid guid) config.arrays ≡ None
  shapes : has_shapes array ≡ true
  tiers : has_tiers array ≡ true
  few : list_any (has_more bound) array.elements ≡ false

create_allowed : (bound : ℕ) (config : Configuration) (seats : List Seat) (guid : List ℕ) (array : Array) → first_refusal (create_causes (Some bound) config seats guid array) ≡ None → IsAllowed bound config guid array
create_allowed bound config seats guid array h =
    let shape = not_refused (passes_most (Some bound) array || is_no_shape array) Shape
    (all_pass
    (not_current config seats (references array)
    ∷ refuse_if (is_taken config array.name) NameTaken
    ∷ unserved_level guid array
    ∷ [])
    (refuse_if (passes_most (Some bound) array || is_no_shape array) Shape)
    (refuse_if (is_some (lookup (same_guid guid) config.arrays)) (Clash guid)
    ∷ refuse_first seats (is_spare_disk config) InUse (references array)
    ∷ [])
    h) in
    let parts = or_parts (passes_most (Some bound) array) (is_no_shape array) shape in
    let first = or_parts (not (has_shapes array) || not (has_tiers array)) (names_twice (references array)) parts.1 in
    let both = or_parts (not (has_shapes array)) (not (has_tiers array)) first.0 in
    record {
      new = is_new (lookup (same_guid guid) config.arrays) (Clash guid)
          (all_pass
          (not_current config seats (references array)
          ∷ refuse_if (is_taken config array.name) NameTaken
          ∷ unserved_level guid array
          ∷ refuse_if (passes_most (Some bound) array || is_no_shape array) Shape
          ∷ [])
          (refuse_if (is_some (lookup (same_guid guid) config.arrays)) (Clash guid))
          (refuse_first seats (is_spare_disk config) InUse (references array) ∷ [])
          h);
      shapes = not-false (has_shapes array) both.0;
      tiers = not-false (has_tiers array) both.1;
      few = parts.0;
    }

-- a created array has a new GUID
pub new_guid : (bound : ℕ) (config : Configuration) (change : Change) (seats : List Seat) → causes (Some bound) config change seats ≡ None → HasNewGuid config.arrays change
unfolding causes
new_guid bound config (Create guid array) seats h = (create_allowed bound config seats guid array h).new
new_guid bound config other seats h = tt

-- ---- the arrays after a change

-- What holds of the arrays after a change, where copies can hold the configuration before it.
record AreHeldArrays (most : ℕ) (config : Configuration) (change : Change) (entries : List (List ℕ × Array)) : Type 0 where
  held : AllByRecursion (IsHeldEntry most) entries
  apart : IsDistinct bytes_eq (guids_of entries)
  used : (k : ℕ) (use_as : SpareUse) → IsUseAmong config.arrays use_as → IsUseAmong entries (use_after config change k use_as)

relabelled : (most : ℕ) (config : Configuration) (change : Change) (h : List ℕ → Array → Array) → KeepsArrays h → (entries : List (List ℕ × Array)) → AreHeldArrays most config change entries → AreHeldArrays most config change (with_arrays h entries)
relabelled most config change h keeps entries are = record {
  held = all_kept h keeps most entries are.held;
  apart = subst (IsDistinct bytes_eq) (sym (guids_kept h entries)) are.apart;
  used = λ k use_as is. kept_use h keeps entries (guids_kept h entries) (use_after config change k use_as) (are.used k use_as is);
}

-- the low states come last
with_low : (most : ℕ) (config : Configuration) (change : Change) (members : List (ℕ × Member)) (all : List Extent) (entries : List (List ℕ × Array)) → AreHeldArrays most config change entries
    → AreHeldArrays most config change (all_with_low members all entries)
with_low most config change members all entries are =
    subst (AreHeldArrays most config change) (sym (changed_all (λ guid. array_with_low members all) entries))
    (relabelled most config change (λ guid. array_with_low members all) (low_keeps members all) entries are)

-- the arrays of a table stay, each as the change leaves it
module _ (most : ℕ) (config : Configuration) (can : IsHoldable most config) where
  stay : (change : Change) → CanBeAsked change → ((k : ℕ) (use_as : SpareUse) → IsUseAmong config.arrays use_as → IsUseAmong config.arrays (use_after config change k use_as))
      → AreHeldArrays most config change (with_arrays (array_after (takes_revertible config change) (members_after config change) change) config.arrays)
  stay change asked used =
      let h = array_after (takes_revertible config change) (members_after config change) change in
      let keeps = array_after_keeps (takes_revertible config change) (members_after config change) change asked in
      record {
        held = all_kept h keeps most config.arrays (entries_held most config can);
        apart = subst (IsDistinct bytes_eq) (sym (guids_kept h config.arrays)) can.can_hold.guids;
        used = λ k use_as is. kept_use h keeps config.arrays (guids_kept h config.arrays) (use_after config change k use_as) (used k use_as is);
      }

distinct_filter : {X : Type 0} (eq : X → X → Bool) (p : X → Bool) (xs : List X) → IsDistinct eq xs → IsDistinct eq (filter p xs)
unfolding IsDistinct
distinct_filter eq p [] h = tt
distinct_filter {X = X} eq p (x ∷ xs) h = by (p x) (distinct_filter eq p xs h.1)
  where
    away : (ys : List X) → AllByRecursion (λ y. eq x y ≡ false) ys → AllByRecursion (λ y. eq x y ≡ false) (filter p ys)
    away [] h = tt
    away (y ∷ ys) h = go (p y) (away ys h.1)
      where
        go : (b : Bool) → AllByRecursion (λ z. eq x z ≡ false) (filter p ys) → AllByRecursion (λ z. eq x z ≡ false) (cond b (y ∷ filter p ys) (filter p ys))
        go true rest = (h.0, rest)
        go false rest = rest

    by : (b : Bool) → IsDistinct eq (filter p xs) → IsDistinct eq (cond b (x ∷ filter p xs) (filter p xs))
    by true rest = (away xs h.0, rest)
    by false rest = rest

distinct_end : {X : Type 0} (eq : X → X → Bool) (xs : List X) (x : X) → IsDistinct eq xs → AllByRecursion (λ y. eq y x ≡ false) xs → IsDistinct eq (xs ++ x ∷ [])
unfolding IsDistinct
distinct_end eq [] x h away = (tt, tt)
distinct_end {X = X} eq (y ∷ ys) x h away = (all_append (λ z. eq y z ≡ false) ys (x ∷ []) h.0 (away.0, tt), distinct_end eq ys x h.1 away.1)

pub guids_away : (guid : List ℕ) (entries : List (List ℕ × Array)) → lookup (same_guid guid) entries ≡ None → AllByRecursion (λ (other : List ℕ). bytes_eq other guid ≡ false) (guids_of entries)
guids_away guid [] h = tt
guids_away guid (entry ∷ entries) h = by (same_guid guid entry.0) refl h (guids_away guid entries)
  where
    turned : bytes_eq guid entry.0 ≡ false → bytes_eq entry.0 guid ≡ false
    turned away =
        false_from_ne_true (bytes_eq entry.0 guid)
        (λ yes. false≢true (sym away ∙ ap (bytes_eq guid) (same_bytes entry.0 guid yes) ∙ bytes_same guid))

    by : (b : Bool) → same_guid guid entry.0 ≡ b → cond b (Some entry.1) (lookup (same_guid guid) entries) ≡ None
        → (lookup (same_guid guid) entries ≡ None → AllByRecursion (λ (other : List ℕ). bytes_eq other guid ≡ false) (guids_of entries))
        → AllByRecursion (λ (other : List ℕ). bytes_eq other guid ≡ false) (entry.0 ∷ guids_of entries)
    by true e h rest = absurd cc
    by false e h rest = (turned e, rest h)

kept_deleted : (members : List (ℕ × Member)) (gone : List ℕ) (entries : List (List ℕ × Array)) → changed_entries (kept_array false members (Delete gone)) entries ≡ others gone entries
kept_deleted members gone [] = refl
kept_deleted members gone (entry ∷ entries) = by (same_guid gone entry.0) (kept_deleted members gone entries)
  where
    by : (b : Bool) → changed_entries (kept_array false members (Delete gone)) entries ≡ others gone entries
        → cons_option (option_map (λ (value : Array). (entry.0, value)) (if b then None else Some entry.1)) (changed_entries (kept_array false members (Delete gone)) entries)
        ≡ cond (not b) (entry ∷ others gone entries) (others gone entries)
    by true rest = rest
    by false rest = ap (λ l. entry ∷ l) rest

same_entries : (entries : List (List ℕ × Array)) → with_arrays (λ guid array. array) entries ≡ entries
same_entries [] = refl
same_entries (entry ∷ entries) = ap (λ l. entry ∷ l) (same_entries entries)

chosen_use : (b : Bool) (entries : List (List ℕ × Array)) (next use_as : SpareUse) → IsUseAmong entries next → IsUseAmong entries use_as → IsUseAmong entries (if b then next else use_as)
chosen_use true entries next use_as new is = new
chosen_use false entries next use_as new is = is

module _ (most bound : ℕ) (within : bound ≤ most) (config : Configuration) (can : IsHoldable most config) where
  -- a change that drops no array and adds none
  kept : (change : Change)
      → ((entries : List (List ℕ × Array)) → changed_entries (kept_array (takes_revertible config change) (members_after config change) change) entries ≡ changed_entries (λ guid array. Some (array_after (takes_revertible config change) (members_after config change) change guid array)) entries)
      → (kept_and_added config change ≡ changed_entries (kept_array (takes_revertible config change) (members_after config change) change) config.arrays)
      → AreHeldArrays most config change (with_arrays (array_after (takes_revertible config change) (members_after config change) change) config.arrays) → AreHeldArrays most config change (kept_and_added config change)
  kept change same none are =
      subst (AreHeldArrays most config change) (sym (none ∙ same config.arrays ∙ changed_all (array_after (takes_revertible config change) (members_after config change) change) config.arrays)) are

  -- those of all arrays, their low states aside
  kept_are : (change : Change) (seats : List Seat) → CanBeAsked change → causes (Some bound) config change seats ≡ None → AreHeldArrays most config change (kept_and_added config change)
  unfolding causes
  kept_are (Delete gone) seats asked h =
      subst (AreHeldArrays most config (Delete gone)) (sym (append-nil _ ∙ kept_deleted (members_after config (Delete gone)) gone config.arrays)) (record {
        held = all_filter (IsHeldEntry most) (λ (entry : List ℕ × Array). not (same_guid gone entry.0)) config.arrays (entries_held most config can);
        apart = subst (IsDistinct bytes_eq) (sym (guids_others gone config.arrays)) (distinct_filter bytes_eq (λ guid. not (same_guid gone guid)) (guids_of config.arrays) can.can_hold.guids);
        used = λ k use_as is. use_without_gone gone config.arrays (given_back (is_left_by config gone k) use_as) (given_use (is_left_by config gone k) config.arrays use_as is);
      })
  kept_are (Create guid array) seats asked h =
      let allowed = create_allowed bound config seats guid array h in
      let entry : List ℕ × Array = (guid, created config.members (extents config.arrays) array) in
      let held = created_held config.members (extents config.arrays) guid array bound most can.can_hold.members asked allowed.shapes allowed.tiers allowed.few within in
      let arrays : changed_entries (kept_array false (members_after config (Create guid array)) (Create guid array)) config.arrays ≡ config.arrays = changed_all (λ guid array. array) config.arrays ∙ same_entries config.arrays in
      subst (λ (l : List (List ℕ × Array)). AreHeldArrays most config (Create guid array) (l ++ entry ∷ [])) (sym arrays) (record {
        held = all_append (IsHeldEntry most) config.arrays (entry ∷ []) (entries_held most config can) (held, tt);
        apart = subst (IsDistinct bytes_eq) (sym (guids_end config.arrays entry)) (distinct_end bytes_eq (guids_of config.arrays) guid can.can_hold.guids (guids_away guid config.arrays allowed.new));
        used = λ k use_as is. use_with_new guid (created config.members (extents config.arrays) array) config.arrays allowed.new use_as is;
      })
  kept_are (Spare spare next) seats asked h =
      let lacks = not_refused (lacks_array config next) NoArray
      (all_pass (not_current config seats (spare ∷ []) ∷ []) (refuse_if (lacks_array config next) NoArray) (refuse_if (holds_extent config spare) (InUse (slot_of seats spare)) ∷ []) h) in
      kept (Spare spare next) (λ entries. refl) (append-nil _)
      (stay most config can (Spare spare next) asked
      (λ k use_as is. chosen_use (nat_eq spare k) config.arrays (use_in_order config.arrays next) use_as (use_ordered config can.names.guids next asked lacks) is))
  kept_are (Begin array element position spare start) seats asked h =
      kept (Begin array element position spare start) (λ entries. refl) (append-nil _)
      (stay most config can (Begin array element position spare start) asked
      (λ k use_as is. chosen_use (nat_eq spare k) config.arrays uses.No use_as (no_use config.arrays) is))
  kept_are (Return array element position disk start) seats asked h =
      kept (Return array element position disk start) (λ entries. refl) (append-nil _)
      (stay most config can (Return array element position disk start) asked
      (λ k use_as is. given_use (is_given_back config array element position disk k) config.arrays use_as is))
  kept_are other seats asked h = kept other (λ entries. refl) (append-nil _) (stay most config can other asked (λ k use_as is. is))

  arrays_are : (change : Change) (seats : List Seat) → CanBeAsked change → causes (Some bound) config change seats ≡ None → AreHeldArrays most config change (arrays_after config change)
  arrays_are change seats asked h =
      with_low most config change (members_after config change) (extents (kept_and_added config change)) (kept_and_added config change) (kept_are change seats asked h)

  -- ---- the configuration

  before_use : (k : ℕ) (entry : ℕ × Member) → slice_get config.members k ≡ Some entry → IsUseAmong config.arrays entry.1.spare
  before_use k entry at = record { listed = λ arrays e. can.spares.listed k entry arrays at e; known = λ a one there for. can.spares.held k a entry one at there for }

  spares_are : (change : Change) (entries : List (List ℕ × Array)) → AreHeldArrays most config change entries → (next : Configuration) → next.members ≡ members_after config change → next.arrays ≡ entries
      → IsDistinct nat_eq (map (λ (entry : ℕ × Member). entry.0) next.members) → HasSpares next
  spares_are change entries are next members arrays apart =
      let after = are_after config change in
      let made : ℕ × Member → ℕ × Member = λ entry. (entry.0, after.g entry.0 entry.1) in
      let from = λ (i : ℕ) (one : ℕ × Member) (at : slice_get next.members i ≡ Some one). in_map made config.members i one (ap (λ (l : List (ℕ × Member)). slice_get l i) (sym (members ∙ after.are)) ∙ at) in
      let use_of = λ (i : ℕ) (one : ℕ × Member) (at : slice_get next.members i ≡ Some one).
      let before = from i one at in
      let same : use_after config change before.0.0 before.0.1.spare ≡ one.1.spare = sym (after.keeps.spare before.0.0 before.0.1) ∙ ap (λ (entry : ℕ × Member). entry.1.spare) before.2 in
      subst (IsUseAmong entries) same (are.used before.0.0 before.0.1.spare (before_use i before.0 before.1)) in
      record {
        apart = own_references next apart;
        named = λ i one at. let before = from i one at in subst (λ (entry : ℕ × Member). nat_eq entry.0 no_reference ≡ false) before.2 (can.spares.named i before.0 before.1);
        listed = λ i one arrays_of at e.
            let listed = (use_of i one at).listed arrays_of e in
            (ap (λ (l : List (List ℕ × Array)). filter (λ guid. is_spare_for guid (uses.Dedicated arrays_of)) (guids_of l)) arrays ∙ listed.0, listed.1);
        held = λ i a one entry at there for. (use_of i one at).known a entry (ap (λ (l : List (List ℕ × Array)). slice_get l a) (sym arrays) ∙ there) for;
      }

  -- Copies can hold what a change makes of a configuration that they can hold, where nothing refuses it.
  pub change_holdable : (change : Change) (seats : List Seat) (sequence : ℕ) → CanBeAsked change → causes (Some bound) config change seats ≡ None → sequence < 2 ^ 32 → IsHoldable most (changed_at config change sequence)
  change_holdable change seats sequence asked h fits =
      let next = changed_at config change sequence in
      let after = are_after config change in
      let are = arrays_are change seats asked h in
      let keys : map (λ (entry : ℕ × Member). entry.0) (members_after config change) ≡ map (λ (entry : ℕ × Member). entry.0) config.members =
      ap (map (λ (entry : ℕ × Member). entry.0)) after.are ∙ keys_kept after.g (use_after config change) after.keeps config.members in
      let apart : IsDistinct nat_eq (map (λ (entry : ℕ × Member). entry.0) (members_after config change)) = subst (IsDistinct nat_eq) (sym keys) can.can_hold.references in
      record {
        can_hold = record {
          group = can.can_hold.group;
          sequence = fits;
          members = subst (AllByRecursion FitsMember) (sym after.are) (members_fit after.g (use_after config change) after.keeps config.members can.can_hold.members);
          references = apart;
          guids = are.apart;
          arrays = entries_fit most (arrays_after config change) are.held;
          plans = plans_held most next are.held;
        };
        names = own_names next are.apart;
        readable = entries_readable most (arrays_after config change) are.held;
        rebuilt = entries_rebuilt most next are.held;
        spares = spares_are change (arrays_after config change) are next refl refl apart;
      }
