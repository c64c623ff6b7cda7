-- The uses as spares after a change: a dedicated spare's arrays are one or more, in table order, and each is known in part.
use Rattle.std.proofs.Common.{◌≡◌, ℕ, zero, suc, ◌<◌, Bool, true, false, not, cond, List, [], ◌∷◌, ◌++◌, length, filter, Option, Some, None, is_some, refl, sym, ap, subst, ◌∙◌, arith}
use Rattle.std.proofs.lemmas.Bool.{and_parts, false≢true, false_from_ne_true}
use Rattle.std.specs.Prelude.{slice_get}
use Rattle.std.specs.Map.{lookup, keys_of}
use Rattle.std.specs.List.{list_any, list_all}
use Rattle.std.specs.Str.{bytes_eq}
use Rattle.std.proofs.lemmas.Map.Keys.{any_passes_from_place}
use Rattle.std.specs.Cmp.Derive.{one_truth}
use Rattle.ddf_lemmas.proofs.Lists.{all_from, any_place, bytes_same, filtered_passes, in_map}
use Rattle.ddf_config.specs.declared.member.SpareUse.{SpareUse}
use Rattle.ddf_config.specs.declared.member.SpareUse.TheVariants as uses
use Rattle.ddf_config.specs.declared.array.Array.{Array}
use Rattle.ddf_config.specs.ElementValue.{ElementValue as ElementPlan}
use Rattle.ddf_config.specs.Configuration.{Configuration}
use Rattle.ddf_config.specs.Members.{same_guid}
use Rattle.ddf_plan.specs.Delete.{dedicated, use_without}
use Rattle.ddf_plan.specs.Standing.{given_back}
use Rattle.ddf_plan.specs.Spare.{can_have_spare, lacks_array, use_in_order}
use Rattle.ddf_view.proofs.Finds.{filter_same}
use Rattle.ddf_view.proofs.Tests.{same_bytes}
use Rattle.ddf_rewrite.specs.Elements.{is_spare_for}
use Rattle.ddf_steps.specs.Asked.{IsNewUse}
use Rattle.ddf_steps.proofs.ArraysAfter.{KeepsArrays, guids_of, with_arrays}

-- ---- a use among the arrays

-- an array has an element that is known
abbrev pub HasKnown : Array → Type 0
HasKnown array = (e : ℕ) × (plan : ElementPlan) × (slice_get array.elements e ≡ Some (Some plan))

pub record IsUseAmong (entries : List (List ℕ × Array)) (use_as : SpareUse) : Type 0 where
  pub listed : (arrays : List (List ℕ)) → use_as ≡ uses.Dedicated arrays
      → (filter (λ guid. is_spare_for guid (uses.Dedicated arrays)) (guids_of entries) ≡ arrays) × (arrays ≡ [] → ⊥)
  pub known : (a : ℕ) (entry : List ℕ × Array) → slice_get entries a ≡ Some entry → is_spare_for entry.0 use_as ≡ true → HasKnown entry.1

pub no_use : (entries : List (List ℕ × Array)) → IsUseAmong entries uses.No
no_use entries = record { listed = λ arrays h. absurd cc; known = λ a entry at h. absurd (false≢true h) }

global_use : (entries : List (List ℕ × Array)) → IsUseAmong entries uses.Global
global_use entries = record { listed = λ arrays h. absurd cc; known = λ a entry at h. absurd (false≢true h) }

revertible_use : (entries : List (List ℕ × Array)) → IsUseAmong entries uses.Revertible
revertible_use entries = record { listed = λ arrays h. absurd cc; known = λ a entry at h. absurd (false≢true h) }

-- that of a disk that gives a place back
pub given_use : (gives : Bool) (entries : List (List ℕ × Array)) (use_as : SpareUse) → IsUseAmong entries use_as → IsUseAmong entries (given_back gives use_as)
given_use true entries uses.No is = revertible_use entries
given_use false entries uses.No is = is
given_use gives entries uses.Global is = is
given_use gives entries uses.Revertible is = is
given_use gives entries (uses.Dedicated arrays) is = is

-- the same among arrays of the same GUIDs, each known where it was
pub kept_use : (h : List ℕ → Array → Array) → KeepsArrays h → (entries : List (List ℕ × Array)) → guids_of (with_arrays h entries) ≡ guids_of entries → (use_as : SpareUse) → IsUseAmong entries use_as → IsUseAmong (with_arrays h entries) use_as
kept_use h keeps entries same use_as is = record {
  listed = λ arrays e.
      let before = is.listed arrays e in
      (ap (filter (λ guid. is_spare_for guid (uses.Dedicated arrays))) same ∙ before.0, before.1);
  known = λ a entry at for.
      let from = in_map (λ (one : List ℕ × Array). (one.0, h one.0 one.1)) entries a entry at in
      let own : is_spare_for from.0.0 use_as ≡ true = ap (λ (one : List ℕ × Array). is_spare_for one.0 use_as) from.2 ∙ for in
      let there = is.known a from.0 from.1 own in
      let next = keeps.there from.0.0 from.0.1 there.0 there.1 there.2 in
      subst (λ (one : List ℕ × Array). HasKnown one.1) from.2 (there.0, next.0, next.1);
}

-- ---- lists

filtered : {X : Type 0} (p : X → Bool) (xs : List X) (i : ℕ) (x : X) → slice_get (filter p xs) i ≡ Some x → (p x ≡ true) × (k : ℕ) × (slice_get xs k ≡ Some x)
filtered p [] i x h = absurd cc
filtered {X = X} p (y ∷ ys) i x h = go (λ j. filtered p ys j x) (p y) refl i h
  where
    go : ((j : ℕ) → slice_get (filter p ys) j ≡ Some x → (p x ≡ true) × (k : ℕ) × (slice_get ys k ≡ Some x)) → (b : Bool) → p y ≡ b → (i : ℕ) → slice_get (cond b (y ∷ filter p ys) (filter p ys)) i ≡ Some x → (p x ≡ true) × (k : ℕ) × (slice_get (y ∷ ys) k ≡ Some x)
    go later true e zero h = let same : y ≡ x = cc in (ap p (sym same) ∙ e, 0, ap (λ (z : X). Some z) same)
    go later true e (suc i) h = let rest = later i h in (rest.0, suc rest.1, rest.2)
    go later false e i h = let rest = later i h in (rest.0, suc rest.1, rest.2)

-- those of a list that are among some that pass are those that pass
sought_again : (q : List ℕ → Bool) (guids : List (List ℕ)) → filter (λ guid. list_any (λ other. bytes_eq guid other) (filter q guids)) guids ≡ filter q guids
sought_again q guids =
    filter_same (λ guid. list_any (λ other. bytes_eq guid other) (filter q guids)) q guids
    (all_from (λ guid. list_any (λ other. bytes_eq guid other) (filter q guids) ≡ q guid) guids
    (λ k guid at. one_truth (list_any (λ other. bytes_eq guid other) (filter q guids)) (q guid)
    (λ h. let some = any_place (λ other. bytes_eq guid other) (filter q guids) h in
    let passes = (filtered q guids some.0 some.1 some.2).0 in
    ap q (same_bytes guid some.1 some.3) ∙ passes)
    (λ h. let there = filtered_passes q guids k guid at h in
    any_passes_from_place (λ other. bytes_eq guid other) (filter q guids) there.0 guid there.1 (bytes_same guid))))

-- ---- a new array

pub absent_guid : (guid : List ℕ) (entries : List (List ℕ × Array)) → lookup (same_guid guid) entries ≡ None → (k : ℕ) (other : List ℕ) → slice_get (guids_of entries) k ≡ Some other → bytes_eq guid other ≡ false
absent_guid guid [] h k other at = absurd cc
absent_guid guid (entry ∷ entries) h k other at = by (same_guid guid entry.0) refl h k (λ none j. absent_guid guid entries none j other) at
  where
    by : (b : Bool) → same_guid guid entry.0 ≡ b → cond b (Some entry.1) (lookup (same_guid guid) entries) ≡ None → (k : ℕ)
        → (lookup (same_guid guid) entries ≡ None → (j : ℕ) → slice_get (guids_of entries) j ≡ Some other → bytes_eq guid other ≡ false)
        → slice_get (entry.0 ∷ guids_of entries) k ≡ Some other → bytes_eq guid other ≡ false
    by true e h k later at = absurd cc
    by false e h zero later at = let same : entry.0 ≡ other = cc in ap (λ (g : List ℕ). bytes_eq guid g) (sym same) ∙ e
    by false e h (suc k) later at = later h k at

filter_end : {X : Type 0} (p : X → Bool) (xs : List X) (x : X) → p x ≡ false → filter p (xs ++ x ∷ []) ≡ filter p xs
filter_end p [] x h = by (p x) h
  where
    by : (b : Bool) → b ≡ false → cond b (x ∷ []) [] ≡ []
    by true e = absurd (false≢true (sym e))
    by false e = refl
filter_end p (y ∷ ys) x h = by (p y) (filter_end p ys x h)
  where
    by : (b : Bool) → filter p (ys ++ x ∷ []) ≡ filter p ys → cond b (y ∷ filter p (ys ++ x ∷ [])) (filter p (ys ++ x ∷ [])) ≡ cond b (y ∷ filter p ys) (filter p ys)
    by true rest = ap (λ l. y ∷ l) rest
    by false rest = rest

pub guids_end : (entries : List (List ℕ × Array)) (entry : List ℕ × Array) → guids_of (entries ++ entry ∷ []) ≡ guids_of entries ++ entry.0 ∷ []
guids_end [] entry = refl
guids_end (one ∷ entries) entry = ap (λ l. one.0 ∷ l) (guids_end entries entry)

-- a spare is none for an array that wasn't there
pub not_for_new : (guid : List ℕ) (entries : List (List ℕ × Array)) → lookup (same_guid guid) entries ≡ None → (use_as : SpareUse) → IsUseAmong entries use_as → is_spare_for guid use_as ≡ false
not_for_new guid entries new uses.No is = refl
not_for_new guid entries new uses.Global is = refl
not_for_new guid entries new uses.Revertible is = refl
not_for_new guid entries new (uses.Dedicated arrays) is =
    false_from_ne_true (list_any (bytes_eq guid) arrays)
    (λ h.
    let some = any_place (bytes_eq guid) arrays h in
    let listed = (is.listed arrays refl).0 in
    let there = filtered (λ other. is_spare_for other (uses.Dedicated arrays)) (guids_of entries) some.0 some.1 (ap (λ (l : List (List ℕ)). slice_get l some.0) listed ∙ some.2) in
    let away = absent_guid guid entries new there.1 some.1 there.2 in
    false≢true (sym away ∙ some.3))

get_end : {X : Type 0} (xs : List X) (x : X) (P : X → Type 0) → P x → ((k : ℕ) (y : X) → slice_get xs k ≡ Some y → P y) → (k : ℕ) (y : X) → slice_get (xs ++ x ∷ []) k ≡ Some y → P y
get_end [] x P here each zero y at = let same : x ≡ y = cc in subst P same here
get_end [] x P here each (suc k) y at = absurd cc
get_end (z ∷ zs) x P here each zero y at = each 0 y at
get_end (z ∷ zs) x P here each (suc k) y at = get_end zs x P here (λ j. each (suc j)) k y at

pub use_with_new : (guid : List ℕ) (array : Array) (entries : List (List ℕ × Array)) → lookup (same_guid guid) entries ≡ None → (use_as : SpareUse) → IsUseAmong entries use_as → IsUseAmong (entries ++ (guid, array) ∷ []) use_as
use_with_new guid array entries new use_as is = record {
  listed = λ arrays e.
      let none : is_spare_for guid (uses.Dedicated arrays) ≡ false = ap (is_spare_for guid) (sym e) ∙ not_for_new guid entries new use_as is in
      let before = is.listed arrays e in (
        ap (filter (λ other. is_spare_for other (uses.Dedicated arrays))) (guids_end entries (guid, array))
            ∙ filter_end (λ other. is_spare_for other (uses.Dedicated arrays)) (guids_of entries) guid none ∙ before.0,
        before.1,
      );
  known = get_end entries (guid, array) (λ (entry : List ℕ × Array). is_spare_for entry.0 use_as ≡ true → HasKnown entry.1)
      (λ h. absurd (false≢true (sym (not_for_new guid entries new use_as is) ∙ h)))
      is.known;
}

-- ---- an array that goes

abbrev pub others : List ℕ → List (List ℕ × Array) → List (List ℕ × Array)
others gone entries = filter (λ (entry : List ℕ × Array). not (same_guid gone entry.0)) entries

pub guids_others : (gone : List ℕ) (entries : List (List ℕ × Array)) → guids_of (others gone entries) ≡ filter (λ guid. not (same_guid gone guid)) (guids_of entries)
guids_others gone [] = refl
guids_others gone (entry ∷ entries) = by (not (same_guid gone entry.0)) (guids_others gone entries)
  where
    by : (b : Bool) → guids_of (others gone entries) ≡ filter (λ guid. not (same_guid gone guid)) (guids_of entries)
        → guids_of (cond b (entry ∷ others gone entries) (others gone entries)) ≡ cond b (entry.0 ∷ filter (λ guid. not (same_guid gone guid)) (guids_of entries)) (filter (λ guid. not (same_guid gone guid)) (guids_of entries))
    by true rest = ap (λ l. entry.0 ∷ l) rest
    by false rest = rest

filter_both : {X : Type 0} (p q : X → Bool) (xs : List X) → filter p (filter q xs) ≡ filter q (filter p xs)
filter_both p q [] = refl
filter_both {X = X} p q (x ∷ xs) = by (p x) (q x) refl refl (filter_both p q xs)
  where
    by : (a b : Bool) → p x ≡ a → q x ≡ b → filter p (filter q xs) ≡ filter q (filter p xs)
        → filter p (cond b (x ∷ filter q xs) (filter q xs)) ≡ filter q (cond a (x ∷ filter p xs) (filter p xs))
    by true true e f rest = rw (e, f) (ap (λ l. x ∷ l) rest)
    by true false e f rest = rw f rest
    by false true e f rest = rw e rest
    by false false e f rest = rest

-- among those that pass a test, those of some list that pass it
sought_passing : (q : List ℕ → Bool) (arrays guids : List (List ℕ))
    → filter (λ guid. list_any (λ other. bytes_eq guid other) (filter q arrays)) (filter q guids) ≡ filter (λ guid. list_any (λ other. bytes_eq guid other) arrays) (filter q guids)
sought_passing q arrays guids =
    filter_same (λ guid. list_any (λ other. bytes_eq guid other) (filter q arrays)) (λ guid. list_any (λ other. bytes_eq guid other) arrays) (filter q guids)
    (all_from (λ guid. list_any (λ other. bytes_eq guid other) (filter q arrays) ≡ list_any (λ other. bytes_eq guid other) arrays) (filter q guids)
    (λ k guid at. one_truth (list_any (λ other. bytes_eq guid other) (filter q arrays)) (list_any (λ other. bytes_eq guid other) arrays)
    (λ h. let some = any_place (λ other. bytes_eq guid other) (filter q arrays) h in
    let from = filtered q arrays some.0 some.1 some.2 in
    any_passes_from_place (λ other. bytes_eq guid other) arrays from.1 some.1 from.2 some.3)
    (λ h. let some = any_place (λ other. bytes_eq guid other) arrays h in
    let own = (filtered q guids k guid at).0 in
    let passes : q some.1 ≡ true = ap q (sym (same_bytes guid some.1 some.3)) ∙ own in
    let there = filtered_passes q arrays some.0 some.1 some.2 passes in
    any_passes_from_place (λ other. bytes_eq guid other) (filter q arrays) there.0 some.1 there.1 some.3)))

dedicated_are : (arrays next : List (List ℕ)) → dedicated arrays ≡ uses.Dedicated next → (arrays ≡ next) × (next ≡ [] → ⊥)
dedicated_are [] next h = absurd cc
dedicated_are (array ∷ arrays) next h = let same : (array ∷ arrays) ≡ next = cc in (same, λ none. let got : (array ∷ arrays) ≡ [] = same ∙ none in absurd cc)

for_dedicated : (guid : List ℕ) (arrays : List (List ℕ)) → is_spare_for guid (dedicated arrays) ≡ true → list_any (bytes_eq guid) arrays ≡ true
for_dedicated guid [] h = absurd (false≢true h)
for_dedicated guid (array ∷ arrays) h = h

pub use_without_gone : (gone : List ℕ) (entries : List (List ℕ × Array)) (use_as : SpareUse) → IsUseAmong entries use_as → IsUseAmong (others gone entries) (use_without gone use_as)
use_without_gone gone entries uses.No is = no_use (others gone entries)
use_without_gone gone entries uses.Global is = global_use (others gone entries)
use_without_gone gone entries uses.Revertible is = revertible_use (others gone entries)
use_without_gone gone entries (uses.Dedicated arrays) is =
    let q = λ (guid : List ℕ). not (same_guid gone guid) in
    record {
      listed = λ next e.
          let are = dedicated_are (filter q arrays) next e in
          let before : filter (λ guid. list_any (λ other. bytes_eq guid other) arrays) (guids_of entries) ≡ arrays = (is.listed arrays refl).0 in (
            subst (λ (l : List (List ℕ)). filter (λ guid. list_any (λ other. bytes_eq guid other) l) (guids_of (others gone entries)) ≡ l) are.0
                (ap (filter (λ guid. list_any (λ other. bytes_eq guid other) (filter q arrays))) (guids_others gone entries)
                ∙ sought_passing q arrays (guids_of entries)
                ∙ filter_both (λ guid. list_any (λ other. bytes_eq guid other) arrays) q (guids_of entries)
                ∙ ap (filter q) before),
            are.1,
          );
      known = λ a entry at for.
          let from = filtered (λ (one : List ℕ × Array). not (same_guid gone one.0)) entries a entry at in
          let some = any_place (bytes_eq entry.0) (filter q arrays) (for_dedicated entry.0 (filter q arrays) for) in
          let there = filtered q arrays some.0 some.1 some.2 in
          is.known from.1 entry from.2 (any_passes_from_place (bytes_eq entry.0) arrays there.1 some.1 there.2 some.3);
    }

-- ---- a new use

found_known : (guid : List ℕ) (entries : List (List ℕ × Array)) → (elim (lookup (same_guid guid) entries) [ None ↦ false | Some array ↦ list_any (λ (part : Option ElementPlan). is_some part) array.elements ]) ≡ true
    → (k : ℕ) × (entry : List ℕ × Array) × (slice_get entries k ≡ Some entry) × (entry.0 ≡ guid) × HasKnown entry.1
found_known guid [] h = absurd (false≢true h)
found_known guid (entry ∷ entries) h = by (same_guid guid entry.0) refl h (found_known guid entries)
  where
    some_known : (array : Array) → list_any (λ (part : Option ElementPlan). is_some part) array.elements ≡ true → HasKnown array
    some_known array h = let some = any_place (λ (part : Option ElementPlan). is_some part) array.elements h in go some.0 some.1 some.2 some.3
      where
        go : (e : ℕ) (part : Option ElementPlan) → slice_get array.elements e ≡ Some part → is_some part ≡ true → HasKnown array
        go e None at is = absurd (false≢true is)
        go e (Some plan) at is = (e, plan, at)

    by : (b : Bool) → same_guid guid entry.0 ≡ b
        → (elim (cond b (Some entry.1) (lookup (same_guid guid) entries)) [ None ↦ false | Some array ↦ list_any (λ (part : Option ElementPlan). is_some part) array.elements ]) ≡ true
        → ((elim (lookup (same_guid guid) entries) [ None ↦ false | Some array ↦ list_any (λ (part : Option ElementPlan). is_some part) array.elements ]) ≡ true
        → (k : ℕ) × (one : List ℕ × Array) × (slice_get entries k ≡ Some one) × (one.0 ≡ guid) × HasKnown one.1)
        → (k : ℕ) × (one : List ℕ × Array) × (slice_get (entry ∷ entries) k ≡ Some one) × (one.0 ≡ guid) × HasKnown one.1
    by true e h rest = (0, entry, refl, sym (same_bytes guid entry.0 e), some_known entry.1 h)
    by false e h rest = let later = rest h in (suc later.0, later.1, later.2, later.3, later.4)

keys_are : (entries : List (List ℕ × Array)) → keys_of entries ≡ guids_of entries
keys_are [] = refl
keys_are (entry ∷ entries) = ap (λ l. entry.0 ∷ l) (keys_are entries)

-- Each array of a new use is known in part, and no two arrays have one GUID.
pub use_ordered : (config : Configuration) → ((i j : ℕ) (one other : List ℕ × Array) → slice_get config.arrays i ≡ Some one → slice_get config.arrays j ≡ Some other → one.0 ≡ other.0 → one ≡ other)
    → (next : SpareUse) → IsNewUse next → lacks_array config next ≡ false → IsUseAmong config.arrays (use_in_order config.arrays next)
use_ordered config apart uses.No new lacks = no_use config.arrays
use_ordered config apart uses.Global new lacks = global_use config.arrays
use_ordered config apart uses.Revertible new lacks = revertible_use config.arrays
use_ordered config apart (uses.Dedicated arrays) new lacks =
    let q = λ (guid : List ℕ). list_any (same_guid guid) arrays in
    let names = keys_of config.arrays in
    record {
      listed = λ ordered e.
          let own : filter q names ≡ ordered = cc in
          let same : filter q (guids_of config.arrays) ≡ ordered = ap (filter q) (sym (keys_are config.arrays)) ∙ own in (
            subst (λ (l : List (List ℕ)). filter (λ guid. list_any (λ other. bytes_eq guid other) l) (guids_of config.arrays) ≡ l) same (sought_again q (guids_of config.arrays)),
            λ none. some_ordered arrays new all (own ∙ none),
          );
      known = λ a entry at for.
          let some = any_place (bytes_eq entry.0) (filter q names) for in
          let passes = (filtered q names some.0 some.1 some.2).0 in
          let listed = any_place (same_guid some.1) arrays passes in
          let found = found_known listed.1 config.arrays (list_at (can_have_spare config) arrays listed.0 listed.1 all listed.2) in
          let guid : entry.0 ≡ found.1.0 = same_bytes entry.0 some.1 some.3 ∙ same_bytes some.1 listed.1 listed.3 ∙ sym found.3 in
          subst (λ (one : List ℕ × Array). HasKnown one.1) (sym (apart a found.0 entry found.1 at found.2 guid)) found.4;
    }
  where
    all : list_all (can_have_spare config) arrays ≡ true
    all = by (list_all (can_have_spare config) arrays) lacks
      where
        by : (b : Bool) → not b ≡ false → b ≡ true
        by true h = refl
        by false h = absurd (false≢true (sym h))

    list_at : (p : List ℕ → Bool) (xs : List (List ℕ)) (i : ℕ) (x : List ℕ) → list_all p xs ≡ true → slice_get xs i ≡ Some x → p x ≡ true
    list_at p [] i x h at = absurd cc
    list_at p (y ∷ ys) zero x h at = let same : y ≡ x = cc in ap p (sym same) ∙ (and_parts (p y) (list_all p ys) h).0
    list_at p (y ∷ ys) (suc i) x h at = list_at p ys i x (and_parts (p y) (list_all p ys) h).1 at

    some_ordered : (guids : List (List ℕ)) → 0 < length guids → list_all (can_have_spare config) guids ≡ true → filter (λ guid. list_any (same_guid guid) guids) (keys_of config.arrays) ≡ [] → ⊥
    some_ordered [] some h none = omega arith
    some_ordered (guid ∷ guids) some h none =
        let found = found_known guid config.arrays (and_parts (can_have_spare config guid) (list_all (can_have_spare config) guids) h).0 in
        let named = get_key config.arrays found.0 found.1 found.2 in
        let own : same_guid found.1.0 guid ≡ true = ap (λ (g : List ℕ). bytes_eq found.1.0 g) (sym found.3) ∙ bytes_same found.1.0 in
        let there = filtered_passes (λ other. list_any (same_guid other) (guid ∷ guids)) (keys_of config.arrays) found.0 found.1.0 named (any_passes_from_place (same_guid found.1.0) (guid ∷ guids) 0 guid refl own) in
        let gone : slice_get [] there.0 ≡ Some found.1.0 = ap (λ (l : List (List ℕ)). slice_get l there.0) (sym none) ∙ there.1 in
        absurd cc
      where
        get_key : (entries : List (List ℕ × Array)) (k : ℕ) (entry : List ℕ × Array) → slice_get entries k ≡ Some entry → slice_get (keys_of entries) k ≡ Some entry.0
        get_key [] k entry at = absurd cc
        get_key (one ∷ entries) zero entry at = let same : one ≡ entry = cc in ap (λ (x : List ℕ × Array). Some x.0) same
        get_key (one ∷ entries) (suc k) entry at = get_key entries k entry at
