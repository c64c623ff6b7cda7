-- Copies can hold the configuration of two groups where they can hold each of them, and neither has what the other has.
use Rattle.std.proofs.Common.{◌≡◌, ℕ, zero, suc, ◌+◌, ◌^◌, ◌<◌, ◌≤◌, Bool, true, false, not, cond, List, [], ◌∷◌, ◌++◌, length, map, filter, find, Option, Some, None, option_map, nat_eq, refl, sym, ap, subst, ◌∙◌, arith, if◌then◌else◌, append-nil}
use Rattle.std.proofs.lemmas.Bool.{false≢true, false_from_ne_true}
use Rattle.std.proofs.lemmas.List.{length-append, map-append}
use Rattle.std.specs.Prelude.{slice_get, unwrap_or}
use Rattle.std.specs.Map.{lookup}
use Rattle.std.specs.List.{AllByRecursion, IsDistinct, cons_option, range_with_len}
use Rattle.std.specs.Str.{bytes_eq}
use Rattle.std.proofs.lemmas.List.Elements.{filter-append}
use Rattle.ddf_lemmas.proofs.Lists.{all_append, all_from, all_weaken, bytes_same, found_place}
use Rattle.ddf_config.specs.declared.member.Member.{Member}
use Rattle.ddf_config.specs.declared.member.SpareUse.{SpareUse}
use Rattle.ddf_config.specs.declared.member.SpareUse.TheVariants as uses
use Rattle.ddf_config.specs.declared.array.Array.{Array}
use Rattle.ddf_config.specs.Configuration.{Configuration}
use Rattle.ddf_config.specs.Entries.{changed_entries}
use Rattle.ddf_config.specs.Extents.{extents}
use Rattle.ddf_config.specs.Members.{same_guid}
use Rattle.ddf_config.specs.States.{all_with_low, array_with_low}
use Rattle.ddf_import.specs.Clash.{join_cause}
use Rattle.ddf_import.specs.Joined.{is_taken, kept_member, kept_members, least_free, members_joined, number_of, numbered, numbers_of, stays, with_number}
use Rattle.ddf_import.proofs.Apart.{arrays_fresh, members_fresh}
use Rattle.ddf_view.proofs.Tests.{same_bytes}
use Rattle.ddf_rewrite.specs.Elements.{is_spare_for, no_reference}
use Rattle.ddf_rewrite.specs.Hold.{FitsMember, IsHoldable}
use Rattle.ddf_rewrite.proofs.Lists.{all_at}
use Rattle.ddf_rewrite.proofs.NamesCan.{own_names, own_references}
use Rattle.ddf_joining.specs.Joining.{config_joined}
use Rattle.ddf_steps.specs.Steps.{raised}
use Rattle.ddf_steps.proofs.ArraysAfter.{all_kept, changed_all, guids_kept, guids_of, low_keeps, with_arrays}
use Rattle.ddf_steps.proofs.Following.{raised_fits}
use Rattle.ddf_steps.proofs.HeldEntries.{IsHeldEntry, entries_fit, entries_held, entries_readable, entries_rebuilt, plans_held}
use Rattle.ddf_steps.proofs.Holdable.{guids_away}
use Rattle.ddf_steps.proofs.SparesAfter.{HasKnown, IsUseAmong, kept_use, not_for_new}

-- ---- keys

abbrev keys : {K X : Type 0} → List (K × X) → List K
keys entries = map (λ entry. entry.0) entries

-- Two lists without an item in common, each without one twice, have none twice together.
distinct_both : {K : Type 0} (eq : K → K → Bool) (xs ys : List K) → IsDistinct eq xs → IsDistinct eq ys → AllByRecursion (λ x. AllByRecursion (λ y. eq x y ≡ false) ys) xs → IsDistinct eq (xs ++ ys)
unfolding IsDistinct
distinct_both eq [] ys h k apart = k
distinct_both {K = K} eq (x ∷ xs) ys h k apart = (all_append (λ (y : K). eq x y ≡ false) xs ys h.0 apart.0, distinct_both eq xs ys h.1 k apart.1)

-- What each of one list has to each of another, each of the other has to each of the one.
turned : {X Y : Type 0} (P : X → Y → Type 0) (xs : List X) (ys : List Y) → AllByRecursion (λ y. AllByRecursion (λ x. P x y) xs) ys → AllByRecursion (λ x. AllByRecursion (λ y. P x y) ys) xs
turned P [] ys all = tt
turned {X = X} {Y = Y} P (x ∷ xs) ys all = (firsts ys all, turned P xs ys (others ys all))
  where
    firsts : (some : List Y) → AllByRecursion (λ y. AllByRecursion (λ (one : X). P one y) (x ∷ xs)) some → AllByRecursion (λ y. P x y) some
    firsts [] all = tt
    firsts (y ∷ some) all = (all.0.0, firsts some all.1)

    others : (some : List Y) → AllByRecursion (λ y. AllByRecursion (λ (one : X). P one y) (x ∷ xs)) some → AllByRecursion (λ y. AllByRecursion (λ (one : X). P one y) xs) some
    others [] all = tt
    others (y ∷ some) all = (all.0.1, others some all.1)

over_keys : {K X : Type 0} (P : K → Type 0) (entries : List (K × X)) → AllByRecursion (λ (entry : K × X). P entry.0) entries → AllByRecursion P (keys entries)
over_keys P [] all = tt
over_keys P (entry ∷ entries) all = (all.0, over_keys P entries all.1)

-- ---- members that stay

stay_or_go : (config : Configuration) (entry : ℕ × Member) (entries : List (ℕ × Member))
    → changed_entries (kept_member config) (entry ∷ entries) ≡ cond (stays config entry.0 entry.1) (entry ∷ changed_entries (kept_member config) entries) (changed_entries (kept_member config) entries)
stay_or_go config entry entries = by (stays config entry.0 entry.1)
  where
    by : (b : Bool) → cons_option (option_map (λ (value : Member). (entry.0, value)) (if b then Some entry.1 else None)) (changed_entries (kept_member config) entries)
        ≡ cond b (entry ∷ changed_entries (kept_member config) entries) (changed_entries (kept_member config) entries)
    by true = refl
    by false = refl

kept_have : (config : Configuration) (P : ℕ × Member → Type 0) (entries : List (ℕ × Member)) → AllByRecursion P entries → AllByRecursion P (changed_entries (kept_member config) entries)
kept_have config P [] all = tt
kept_have config P (entry ∷ entries) all = subst (AllByRecursion P) (sym (stay_or_go config entry entries)) (by (stays config entry.0 entry.1) (kept_have config P entries all.1))
  where
    by : (b : Bool) → AllByRecursion P (changed_entries (kept_member config) entries) → AllByRecursion P (cond b (entry ∷ changed_entries (kept_member config) entries) (changed_entries (kept_member config) entries))
    by true rest = (all.0, rest)
    by false rest = rest

kept_keys_have : (config : Configuration) (P : ℕ → Type 0) (entries : List (ℕ × Member)) → AllByRecursion P (keys entries) → AllByRecursion P (keys (changed_entries (kept_member config) entries))
kept_keys_have config P [] all = tt
kept_keys_have config P (entry ∷ entries) all = subst (λ (l : List (ℕ × Member)). AllByRecursion P (keys l)) (sym (stay_or_go config entry entries)) (by (stays config entry.0 entry.1) (kept_keys_have config P entries all.1))
  where
    by : (b : Bool) → AllByRecursion P (keys (changed_entries (kept_member config) entries)) → AllByRecursion P (keys (cond b (entry ∷ changed_entries (kept_member config) entries) (changed_entries (kept_member config) entries)))
    by true rest = (all.0, rest)
    by false rest = rest

kept_distinct : (config : Configuration) (entries : List (ℕ × Member)) → IsDistinct nat_eq (keys entries) → IsDistinct nat_eq (keys (changed_entries (kept_member config) entries))
unfolding IsDistinct
kept_distinct config [] h = tt
kept_distinct config (entry ∷ entries) h = subst (λ (l : List (ℕ × Member)). IsDistinct nat_eq (keys l)) (sym (stay_or_go config entry entries)) (by (stays config entry.0 entry.1) (kept_distinct config entries h.1))
  where
    by : (b : Bool) → IsDistinct nat_eq (keys (changed_entries (kept_member config) entries)) → IsDistinct nat_eq (keys (cond b (entry ∷ changed_entries (kept_member config) entries) (changed_entries (kept_member config) entries)))
    by true rest = (kept_keys_have config (λ (k : ℕ). nat_eq entry.0 k ≡ false) entries h.0, rest)
    by false rest = rest

-- ---- numbers

numbered_guids : (taken : List ℕ) (entries : List (List ℕ × Array)) → guids_of (numbered taken entries) ≡ guids_of entries
numbered_guids taken [] = refl
numbered_guids taken (entry ∷ entries) = ap (λ (l : List (List ℕ)). entry.0 ∷ l) (numbered_guids (taken ++ number_of taken entry.1.number ∷ []) entries)

range_below : (n count : ℕ) (i x : ℕ) → slice_get (range_with_len n count) i ≡ Some x → x < n + count
range_below n zero i x at = absurd cc
range_below n (suc count) zero x at = let same : n ≡ x = cc in omega (arith, same)
range_below n (suc count) (suc i) x at = let rest = range_below (n + 1) count i x at in omega (arith, rest)

least_small : (taken : List ℕ) → least_free taken ≤ length taken
least_small taken = by (find (λ number. not (is_taken taken number)) (range_with_len 0 (length taken))) refl
  where
    by : (found : Option ℕ) → find (λ number. not (is_taken taken number)) (range_with_len 0 (length taken)) ≡ found → unwrap_or found (length taken) ≤ length taken
    by None e = omega arith
    by (Some x) e =
        let place = found_place (λ number. not (is_taken taken number)) (range_with_len 0 (length taken)) x e in
        let below = range_below 0 (length taken) place.0 x place.1 in
        omega (arith, below)

number_small : (taken : List ℕ) (number : ℕ) → number < 2 ^ 16 → length taken < 2 ^ 16 → number_of taken number < 2 ^ 16
number_small taken number fits few = by (is_taken taken number)
  where
    by : (b : Bool) → (if b then least_free taken else number) < 2 ^ 16
    by true = let least = least_small taken in omega (arith, least, few)
    by false = fits

numbered_held : (most : ℕ) (taken : List ℕ) (entries : List (List ℕ × Array)) → length taken + length entries < 2 ^ 16 → AllByRecursion (IsHeldEntry most) entries → AllByRecursion (IsHeldEntry most) (numbered taken entries)
numbered_held most taken [] few all = tt
numbered_held most taken (entry ∷ entries) few all =
    let number = number_of taken entry.1.number in
    let longer : length (taken ++ number ∷ []) ≡ length taken + 1 = length-append taken (number ∷ []) in
    let below : length (taken ++ number ∷ []) + length entries < 2 ^ 16 = omega (arith, longer, few) in
    let own : length taken < 2 ^ 16 = omega (arith, few) in (
      record {
        fits = record {
          guid = all.0.fits.guid;
          used = all.0.fits.used;
          number = number_small taken entry.1.number all.0.fits.number own;
          state = all.0.fits.state;
          init = all.0.fits.init;
          name = all.0.fits.name;
          secondary = all.0.fits.secondary;
        };
        readable = record { few = all.0.readable.few; alone = all.0.readable.alone; plain = all.0.readable.plain };
        plans = all.0.plans;
      },
      numbered_held most (taken ++ number ∷ []) entries below all.1,
    )

-- the entry of the same place before it was numbered
numbered_get : (taken : List ℕ) (entries : List (List ℕ × Array)) (a : ℕ) (entry : List ℕ × Array) → slice_get (numbered taken entries) a ≡ Some entry
    → (from : List ℕ × Array) × (slice_get entries a ≡ Some from) × (entry.0 ≡ from.0) × (entry.1.elements ≡ from.1.elements)
numbered_get taken [] a entry at = absurd cc
numbered_get taken (first ∷ entries) zero entry at =
    let same : (first.0, with_number first.1 (number_of taken first.1.number)) ≡ entry = cc in
    (first, refl, ap (λ (one : List ℕ × Array). one.0) (sym same), ap (λ (one : List ℕ × Array). one.1.elements) (sym same))
numbered_get taken (first ∷ entries) (suc a) entry at = numbered_get (taken ++ number_of taken first.1.number ∷ []) entries a entry at

-- ---- spares

use_numbered : (taken : List ℕ) (entries : List (List ℕ × Array)) (use_as : SpareUse) → IsUseAmong entries use_as → IsUseAmong (numbered taken entries) use_as
use_numbered taken entries use_as is = record {
  listed = λ arrays e. let before = is.listed arrays e in (ap (filter (λ guid. is_spare_for guid (uses.Dedicated arrays))) (numbered_guids taken entries) ∙ before.0, before.1);
  known = λ a entry at for.
      let from = numbered_get taken entries a entry at in
      let known = is.known a from.0 from.1 (ap (λ (guid : List ℕ). is_spare_for guid use_as) (sym from.2) ∙ for) in
      (known.0, known.1, ap (λ (parts : _). slice_get parts known.0) from.3 ∙ known.2);
}

pub filter_none : {X : Type 0} (p : X → Bool) (xs : List X) → AllByRecursion (λ x. p x ≡ false) xs → filter p xs ≡ []
filter_none p [] all = refl
filter_none {X = X} p (x ∷ xs) all = by (p x) all.0 (filter_none p xs all.1)
  where
    by : (b : Bool) → b ≡ false → filter p xs ≡ [] → cond b (x ∷ filter p xs) (filter p xs) ≡ []
    by true e rest = absurd (false≢true (sym e))
    by false e rest = rest

guids_append : (xs ys : List (List ℕ × Array)) → guids_of (xs ++ ys) ≡ guids_of xs ++ guids_of ys
guids_append xs ys = map-append (λ (entry : List ℕ × Array). entry.0) xs ys

either_entry : (xs ys : List (List ℕ × Array)) (P : List ℕ × Array → Type 0) → ((a : ℕ) (entry : List ℕ × Array) → slice_get xs a ≡ Some entry → P entry) → ((a : ℕ) (entry : List ℕ × Array) → slice_get ys a ≡ Some entry → P entry)
    → (a : ℕ) (entry : List ℕ × Array) → slice_get (xs ++ ys) a ≡ Some entry → P entry
either_entry [] ys P first second a entry at = second a entry at
either_entry (x ∷ xs) ys P first second zero entry at = first 0 entry at
either_entry (x ∷ xs) ys P first second (suc a) entry at = either_entry xs ys P (λ b. first (suc b)) second a entry at

abbrev IsNoneOf : List (List ℕ × Array) → (List ℕ × Array) → Type 0
IsNoneOf entries entry = lookup (same_guid entry.0) entries ≡ None

none_for : (xs ys : List (List ℕ × Array)) (use_as : SpareUse) → IsUseAmong xs use_as → AllByRecursion (IsNoneOf xs) ys → AllByRecursion (λ (entry : List ℕ × Array). is_spare_for entry.0 use_as ≡ false) ys
none_for xs ys use_as is fresh = all_weaken (IsNoneOf xs) (λ (entry : List ℕ × Array). is_spare_for entry.0 use_as ≡ false) (λ entry none. not_for_new entry.0 xs none use_as is) ys fresh

-- With other arrays behind them.
use_first : (xs ys : List (List ℕ × Array)) (use_as : SpareUse) → IsUseAmong xs use_as → AllByRecursion (IsNoneOf xs) ys → IsUseAmong (xs ++ ys) use_as
use_first xs ys use_as is fresh = record {
  listed = λ arrays e.
      let p = λ (guid : List ℕ). is_spare_for guid (uses.Dedicated arrays) in
      let before = is.listed arrays e in
      let none = subst (λ (u : SpareUse). AllByRecursion (λ (entry : List ℕ × Array). is_spare_for entry.0 u ≡ false) ys) e (none_for xs ys use_as is fresh) in (
        ap (filter p) (guids_append xs ys) ∙ filter-append p (guids_of xs) (guids_of ys)
            ∙ ap (λ (l : List (List ℕ)). filter p (guids_of xs) ++ l) (filter_none p (guids_of ys) (over_keys (λ (guid : List ℕ). p guid ≡ false) ys none))
            ∙ append-nil (filter p (guids_of xs)) ∙ before.0,
        before.1,
      );
  known = either_entry xs ys (λ entry. is_spare_for entry.0 use_as ≡ true → HasKnown entry.1) is.known
      (λ a entry at for. absurd (false≢true (sym (all_at (λ (one : List ℕ × Array). is_spare_for one.0 use_as ≡ false) ys a entry (none_for xs ys use_as is fresh) at) ∙ for)));
}

-- With other arrays before them.
use_second : (xs ys : List (List ℕ × Array)) (use_as : SpareUse) → IsUseAmong ys use_as → AllByRecursion (IsNoneOf ys) xs → IsUseAmong (xs ++ ys) use_as
use_second xs ys use_as is fresh = record {
  listed = λ arrays e.
      let p = λ (guid : List ℕ). is_spare_for guid (uses.Dedicated arrays) in
      let before = is.listed arrays e in
      let none = subst (λ (u : SpareUse). AllByRecursion (λ (entry : List ℕ × Array). is_spare_for entry.0 u ≡ false) xs) e (none_for ys xs use_as is fresh) in (
        ap (filter p) (guids_append xs ys) ∙ filter-append p (guids_of xs) (guids_of ys)
            ∙ ap (λ (l : List (List ℕ)). l ++ filter p (guids_of ys)) (filter_none p (guids_of xs) (over_keys (λ (guid : List ℕ). p guid ≡ false) xs none))
            ∙ before.0,
        before.1,
      );
  known = either_entry xs ys (λ entry. is_spare_for entry.0 use_as ≡ true → HasKnown entry.1)
      (λ a entry at for. absurd (false≢true (sym (all_at (λ (one : List ℕ × Array). is_spare_for one.0 use_as ≡ false) xs a entry (none_for ys xs use_as is fresh) at) ∙ for)))
      is.known;
}

use_of : (most : ℕ) (config : Configuration) → IsHoldable most config → (k : ℕ) (entry : ℕ × Member) → slice_get config.members k ≡ Some entry → IsUseAmong config.arrays entry.1.spare
use_of most config can k entry at = record { listed = λ arrays e. can.spares.listed k entry arrays at e; known = λ a one there for. can.spares.held k a entry one at there for }

uses_of : (most : ℕ) (config : Configuration) → IsHoldable most config → AllByRecursion (λ (entry : ℕ × Member). IsUseAmong config.arrays entry.1.spare) config.members
uses_of most config can = all_from (λ (entry : ℕ × Member). IsUseAmong config.arrays entry.1.spare) config.members (use_of most config can)

named_of : (most : ℕ) (config : Configuration) → IsHoldable most config → AllByRecursion (λ (entry : ℕ × Member). nat_eq entry.0 no_reference ≡ false) config.members
named_of most config can = all_from (λ (entry : ℕ × Member). nat_eq entry.0 no_reference ≡ false) config.members can.spares.named

-- Two GUIDs that are none of each other's.
guid_turned : (one other : List ℕ) → bytes_eq one other ≡ false → bytes_eq other one ≡ false
guid_turned one other away =
    false_from_ne_true (bytes_eq other one)
    (λ yes. false≢true (sym away ∙ ap (bytes_eq one) (same_bytes other one yes) ∙ bytes_same one))

none_there : (guid : List ℕ) (entries : List (List ℕ × Array)) → AllByRecursion (λ (other : List ℕ). bytes_eq guid other ≡ false) (guids_of entries) → lookup (same_guid guid) entries ≡ None
none_there guid [] all = refl
none_there guid (entry ∷ entries) all = by (same_guid guid entry.0) all.0 (none_there guid entries all.1)
  where
    by : (b : Bool) → b ≡ false → lookup (same_guid guid) entries ≡ None → cond b (Some entry.1) (lookup (same_guid guid) entries) ≡ None
    by true e rest = absurd (false≢true (sym e))
    by false e rest = rest

number_away : (key : ℕ) (entries : List (ℕ × Member)) → lookup (nat_eq key) entries ≡ None → AllByRecursion (λ (other : ℕ). nat_eq other key ≡ false) (keys entries)
number_away key [] h = tt
number_away key (entry ∷ entries) h = by (nat_eq key entry.0) refl h (number_away key entries)
  where
    swapped : nat_eq key entry.0 ≡ false → nat_eq entry.0 key ≡ false
    swapped away = grind arith

    by : (b : Bool) → nat_eq key entry.0 ≡ b → cond b (Some entry.1) (lookup (nat_eq key) entries) ≡ None → (lookup (nat_eq key) entries ≡ None → AllByRecursion (λ (other : ℕ). nat_eq other key ≡ false) (keys entries))
        → AllByRecursion (λ (other : ℕ). nat_eq other key ≡ false) (entry.0 ∷ keys entries)
    by true e h rest = absurd cc
    by false e h rest = (swapped e, rest h)

module _ (most : ℕ) (config joining : Configuration) (can : IsHoldable most config) (also : IsHoldable most joining) (free : join_cause config joining ≡ None)
    (few : length config.arrays + length joining.arrays < 2 ^ 16) where
  abbrev added : List (List ℕ × Array)
  added = numbered (numbers_of config.arrays) joining.arrays

  -- ---- arrays

  count_same : (entries : List (List ℕ × Array)) → length (numbers_of entries) ≡ length entries
  count_same [] = refl
  count_same (entry ∷ entries) = ap suc (count_same entries)

  all_held : AllByRecursion (IsHeldEntry most) (config.arrays ++ added)
  all_held =
      let same = count_same config.arrays in
      let below : length (numbers_of config.arrays) + length joining.arrays < 2 ^ 16 = omega (arith, same, few) in
      all_append (IsHeldEntry most) config.arrays added (entries_held most config can) (numbered_held most (numbers_of config.arrays) joining.arrays below (entries_held most joining also))

  -- each native GUID is none of the joining ones
  guids_apart : AllByRecursion (λ (one : List ℕ). AllByRecursion (λ (other : List ℕ). bytes_eq one other ≡ false) (guids_of joining.arrays)) (guids_of config.arrays)
  guids_apart =
      turned (λ (one other : List ℕ). bytes_eq one other ≡ false) (guids_of config.arrays) (guids_of joining.arrays)
      (over_keys (λ (other : List ℕ). AllByRecursion (λ (one : List ℕ). bytes_eq one other ≡ false) (guids_of config.arrays)) joining.arrays
      (all_weaken (IsNoneOf config.arrays) (λ (entry : List ℕ × Array). AllByRecursion (λ (one : List ℕ). bytes_eq one entry.0 ≡ false) (guids_of config.arrays))
      (λ entry none. guids_away entry.0 config.arrays none) joining.arrays (arrays_fresh config joining free)))

  all_apart : IsDistinct bytes_eq (guids_of (config.arrays ++ added))
  all_apart =
      subst (IsDistinct bytes_eq) (sym (guids_append config.arrays added ∙ ap (λ (l : List (List ℕ)). guids_of config.arrays ++ l) (numbered_guids (numbers_of config.arrays) joining.arrays)))
      (distinct_both bytes_eq (guids_of config.arrays) (guids_of joining.arrays) can.can_hold.guids also.can_hold.guids guids_apart)

  -- no joining array is native, and the other way round
  added_fresh : AllByRecursion (IsNoneOf config.arrays) added
  added_fresh = by_get (λ a entry at.
      let from = numbered_get (numbers_of config.arrays) joining.arrays a entry at in
      ap (λ (guid : List ℕ). lookup (same_guid guid) config.arrays) from.2 ∙ all_at (IsNoneOf config.arrays) joining.arrays a from.0 (arrays_fresh config joining free) from.1)
    where
      by_get : ((a : ℕ) (entry : List ℕ × Array) → slice_get added a ≡ Some entry → IsNoneOf config.arrays entry) → AllByRecursion (IsNoneOf config.arrays) added
      by_get f = all_from (IsNoneOf config.arrays) added f

  native_fresh : AllByRecursion (IsNoneOf added) config.arrays
  native_fresh = from config.arrays guids_apart
    where
      from : (entries : List (List ℕ × Array)) → AllByRecursion (λ (one : List ℕ). AllByRecursion (λ (other : List ℕ). bytes_eq one other ≡ false) (guids_of joining.arrays)) (guids_of entries) → AllByRecursion (IsNoneOf added) entries
      from [] all = tt
      from (entry ∷ entries) all =
          (none_there entry.0 added (subst (AllByRecursion (λ (other : List ℕ). bytes_eq entry.0 other ≡ false)) (sym (numbered_guids (numbers_of config.arrays) joining.arrays)) all.0), from entries all.1)

  -- ---- members

  fit : AllByRecursion FitsMember (members_joined config joining)
  fit = all_append FitsMember (kept_members config) joining.members (kept_have config FitsMember config.members can.can_hold.members) also.can_hold.members

  references_apart : IsDistinct nat_eq (keys (members_joined config joining))
  references_apart =
      subst (IsDistinct nat_eq) (sym (map-append (λ (entry : ℕ × Member). entry.0) (kept_members config) joining.members))
      (distinct_both nat_eq (keys (kept_members config)) (keys joining.members) (kept_distinct config config.members can.can_hold.references) also.can_hold.references
      (turned (λ (one other : ℕ). nat_eq one other ≡ false) (keys (kept_members config)) (keys joining.members)
      (over_keys (λ (other : ℕ). AllByRecursion (λ (one : ℕ). nat_eq one other ≡ false) (keys (kept_members config))) joining.members
      (all_weaken (λ (entry : ℕ × Member). lookup (nat_eq entry.0) (kept_members config) ≡ None) (λ (entry : ℕ × Member). AllByRecursion (λ (one : ℕ). nat_eq one entry.0 ≡ false) (keys (kept_members config)))
      (λ entry none. number_away entry.0 (kept_members config) none) joining.members (members_fresh config joining free)))))

  named : AllByRecursion (λ (entry : ℕ × Member). nat_eq entry.0 no_reference ≡ false) (members_joined config joining)
  named =
      all_append (λ (entry : ℕ × Member). nat_eq entry.0 no_reference ≡ false) (kept_members config) joining.members
      (kept_have config (λ (entry : ℕ × Member). nat_eq entry.0 no_reference ≡ false) config.members (named_of most config can)) (named_of most joining also)

  used : AllByRecursion (λ (entry : ℕ × Member). IsUseAmong (config.arrays ++ added) entry.1.spare) (members_joined config joining)
  used =
      let P = λ (entry : ℕ × Member). IsUseAmong (config.arrays ++ added) entry.1.spare in
      all_append P (kept_members config) joining.members
      (kept_have config P config.members
      (all_weaken (λ (entry : ℕ × Member). IsUseAmong config.arrays entry.1.spare) P (λ entry is. use_first config.arrays added entry.1.spare is added_fresh) config.members (uses_of most config can)))
      (all_weaken (λ (entry : ℕ × Member). IsUseAmong joining.arrays entry.1.spare) P
      (λ entry is. use_second config.arrays added entry.1.spare (use_numbered (numbers_of config.arrays) joining.arrays entry.1.spare is) native_fresh) joining.members (uses_of most joining also))

  -- ---- with the low states

  abbrev low : List ℕ → Array → Array
  low guid = array_with_low (members_joined config joining) (extents (config.arrays ++ added))

  abbrev low_arrays : List (List ℕ × Array)
  low_arrays = with_arrays low (config.arrays ++ added)

  low_are : all_with_low (members_joined config joining) (extents (config.arrays ++ added)) (config.arrays ++ added) ≡ low_arrays
  low_are = changed_all low (config.arrays ++ added)

  abbrev made : Configuration
  made = record config { sequence = raised config.sequence 1; members = members_joined config joining; arrays = low_arrays }

  low_held : AllByRecursion (IsHeldEntry most) low_arrays
  low_held = all_kept low (low_keeps (members_joined config joining) (extents (config.arrays ++ added))) most (config.arrays ++ added) all_held

  low_apart : IsDistinct bytes_eq (guids_of low_arrays)
  low_apart = subst (IsDistinct bytes_eq) (sym (guids_kept low (config.arrays ++ added))) all_apart

  low_used : (k : ℕ) (entry : ℕ × Member) → slice_get (members_joined config joining) k ≡ Some entry → IsUseAmong low_arrays entry.1.spare
  low_used k entry at =
      kept_use low (low_keeps (members_joined config joining) (extents (config.arrays ++ added))) (config.arrays ++ added) (guids_kept low (config.arrays ++ added)) entry.1.spare
      (all_at (λ (one : ℕ × Member). IsUseAmong (config.arrays ++ added) one.1.spare) (members_joined config joining) k entry used at)

  made_holdable : IsHoldable most made
  made_holdable = record {
    can_hold = record {
      group = can.can_hold.group;
      sequence = raised_fits config.sequence 1;
      members = fit;
      references = references_apart;
      guids = low_apart;
      arrays = entries_fit most low_arrays low_held;
      plans = plans_held most made low_held;
    };
    names = own_names made low_apart;
    readable = entries_readable most low_arrays low_held;
    rebuilt = entries_rebuilt most made low_held;
    spares = record {
      apart = own_references made references_apart;
      named = λ i one at. all_at (λ (entry : ℕ × Member). nat_eq entry.0 no_reference ≡ false) (members_joined config joining) i one named at;
      listed = λ i one arrays at e. (low_used i one at).listed arrays e;
      held = λ i a one entry at there for. (low_used i one at).known a entry there for;
    };
  }

  -- Copies can hold the configuration of both.
  pub joined_holdable : IsHoldable most (config_joined config joining)
  joined_holdable = subst (λ (arrays : List (List ℕ × Array)). IsHoldable most (record made { arrays = arrays })) (sym low_are) made_holdable
