-- Lists of extents of which one at most is replaced by another that is free among them.
use Rattle.std.proofs.Common.{◌≡◌, ℕ, ◌+◌, ◌≤◌, Bool, true, false, not, ◌&&◌, cond, List, [], ◌∷◌, ◌++◌, filter, Option, Some, None, nat_eq, nat_le, count_by, append_assoc, refl, sym, ap, ◌∙◌, arith}
use Rattle.std.proofs.lemmas.Bool.{and_from, and_parts, false≢true, not-true, or_parts}
use Rattle.std.proofs.lemmas.List.Folds.{list_all-append}
use Rattle.std.proofs.lemmas.List.Sums.{sum_by-append, sum_by-cons}
use Rattle.std.specs.Map.{lookup}
use Rattle.std.specs.List.{list_all, list_any}
use Rattle.ddf_lemmas.proofs.Tests.{eqb_false_turned, one_test}
use Rattle.ddf_config.specs.declared.member.Member.{Member}
use Rattle.ddf_config.specs.declared.extent.Extent.{Extent}
use Rattle.ddf_config.specs.Extents.{extents_on, ranges}
use Rattle.ddf_config.specs.Room.{is_free, meets}
use Rattle.ddf_config.specs.Served.{lies_well, meets_extent}
use Rattle.ddf_plan.specs.Create.{lies_clear}

-- ---- one replaced at most

record Split (found : Extent) (before after : List Extent) : Type 0 where
  pre : List Extent
  old : Extent
  post : List Extent
  was : before ≡ pre ++ old ∷ post
  is : after ≡ pre ++ found ∷ post

abbrev By : Bool → Extent → List Extent → List Extent → Type 0
By true found before after = Split found before after
By false found before after = after ≡ before

pub record IsReplaced (found : Extent) (before after : List Extent) : Type 0 where
  chosen : Bool
  by : By chosen found before after

pub same : (found : Extent) (before after : List Extent) → after ≡ before → IsReplaced found before after
same found before after e = record { chosen = false; by = e }

pub here : (found old : Extent) (post after : List Extent) → after ≡ post → IsReplaced found (old ∷ post) (found ∷ after)
here found old post after e = record { chosen = true; by = record { pre = []; old = old; post = post; was = refl; is = ap (λ rest. found ∷ rest) e } }

pub front : (found : Extent) (xs before after : List Extent) → IsReplaced found before after → IsReplaced found (xs ++ before) (xs ++ after)
front found xs before after replaced = by replaced.chosen replaced.by
  where
    by : (b : Bool) → By b found before after → IsReplaced found (xs ++ before) (xs ++ after)
    by true split = record {
      chosen = true;
      by = record {
        pre = xs ++ split.pre;
        old = split.old;
        post = split.post;
        was = ap (λ l. xs ++ l) split.was ∙ sym (append_assoc xs split.pre (split.old ∷ split.post));
        is = ap (λ l. xs ++ l) split.is ∙ sym (append_assoc xs split.pre (found ∷ split.post));
      };
    }
    by false e = record { chosen = false; by = ap (λ l. xs ++ l) e }

pub behind : (found : Extent) (ys others before after : List Extent) → others ≡ ys → IsReplaced found before after → IsReplaced found (before ++ ys) (after ++ others)
behind found ys others before after tail replaced = by replaced.chosen replaced.by
  where
    by : (b : Bool) → By b found before after → IsReplaced found (before ++ ys) (after ++ others)
    by true split = record {
      chosen = true;
      by = record {
        pre = split.pre;
        old = split.old;
        post = split.post ++ ys;
        was = ap (λ l. l ++ ys) split.was ∙ append_assoc split.pre (split.old ∷ split.post) ys;
        is = ap (λ l. l ++ others) split.is ∙ append_assoc split.pre (found ∷ split.post) others ∙ ap (λ l. split.pre ++ (found ∷ (split.post ++ l))) tail;
      };
    }
    by false e = record { chosen = false; by = ap (λ l. l ++ others) e ∙ ap (λ l. before ++ l) tail }

-- ---- tests of each

and_all : (p : Extent → Bool) (pre : List Extent) (x : Extent) (post : List Extent) → list_all p (pre ++ x ∷ post) ≡ true → (list_all p pre ≡ true) × (list_all p post ≡ true)
and_all p pre x post h =
    let parts = and_parts (list_all p pre) (list_all p (x ∷ post)) (sym (list_all-append p pre (x ∷ post)) ∙ h) in
    (parts.0, (and_parts (p x) (list_all p post) parts.1).1)

pub replaced_all : (p : Extent → Bool) (found : Extent) (before after : List Extent) → IsReplaced found before after → list_all p before ≡ true → p found ≡ true → list_all p after ≡ true
replaced_all p found before after replaced all one = by replaced.chosen replaced.by
  where
    by : (b : Bool) → By b found before after → list_all p after ≡ true
    by true split =
        let parts = and_all p split.pre split.old split.post (ap (list_all p) (sym split.was) ∙ all) in
        ap (list_all p) split.is ∙ list_all-append p split.pre (found ∷ split.post)
        ∙ and_from (list_all p split.pre) (list_all p (found ∷ split.post)) parts.0 (and_from (p found) (list_all p split.post) one parts.1)
    by false e = ap (list_all p) e ∙ all

pub weaker : (p q : Extent → Bool) → ((x : Extent) → p x ≡ true → q x ≡ true) → (xs : List Extent) → list_all p xs ≡ true → list_all q xs ≡ true
weaker p q more [] h = refl
weaker p q more (x ∷ xs) h =
    let parts = and_parts (p x) (list_all p xs) h in
    and_from (q x) (list_all q xs) (more x parts.0) (weaker p q more xs parts.1)

pub both_all : (p q : Extent → Bool) (xs : List Extent) → list_all p xs ≡ true → list_all q xs ≡ true → list_all (λ x. p x && q x) xs ≡ true
both_all p q [] h k = refl
both_all p q (x ∷ xs) h k =
    let first = and_parts (p x) (list_all p xs) h in
    let second = and_parts (q x) (list_all q xs) k in
    and_from (p x && q x) (list_all (λ y. p y && q y) xs) (and_from (p x) (q x) first.0 second.0) (both_all p q xs first.1 second.1)

-- ---- how many meet

one_if : (p : Extent → Bool) → Extent → ℕ
one_if p x = cond (p x) 1 0

count_cons : (p : Extent → Bool) (x : Extent) (xs : List Extent) → count_by p (x ∷ xs) ≡ cond (p x) 1 0 + count_by p xs
count_cons p x xs = sum_by-cons (λ y. cond (p y) 1 0) x xs

count_append : (p : Extent → Bool) (xs ys : List Extent) → count_by p (xs ++ ys) ≡ count_by p xs + count_by p ys
count_append p xs ys = sum_by-append (λ y. cond (p y) 1 0) xs ys

pub no_more : (p : Extent → Bool) (found : Extent) (before after : List Extent) → IsReplaced found before after → p found ≡ false → count_by p after ≤ count_by p before
no_more p found before after replaced none = by replaced.chosen replaced.by
  where
    by : (b : Bool) → By b found before after → count_by p after ≤ count_by p before
    by true split =
        let is = ap (count_by p) split.is ∙ count_append p split.pre (found ∷ split.post) in
        let was = ap (count_by p) split.was ∙ count_append p split.pre (split.old ∷ split.post) in
        let new : count_by p (found ∷ split.post) ≡ 0 + count_by p split.post = count_cons p found split.post ∙ ap (λ b. cond b 1 0 + count_by p split.post) none in
        let old = count_cons p split.old split.post in
        omega (arith, is, was, new, old)
    by false e = let equal = ap (count_by p) e in omega (arith, equal)

none_counted : (p : Extent → Bool) (xs : List Extent) → list_all (λ x. not (p x)) xs ≡ true → count_by p xs ≡ 0
none_counted p [] h = refl
none_counted p (x ∷ xs) h =
    let parts = and_parts (not (p x)) (list_all (λ y. not (p y)) xs) h in
    let rest = none_counted p xs parts.1 in
    count_cons p x xs ∙ by (p x) parts.0 ∙ rest
  where
    by : (b : Bool) → not b ≡ true → cond b 1 0 + count_by p xs ≡ count_by p xs
    by true e = absurd (false≢true e)
    by false e = omega arith

most_one : (b : Bool) → cond b 1 0 ≤ 1
most_one true = omega arith
most_one false = omega arith

pub found_alone : (p : Extent → Bool) (found : Extent) (before after : List Extent) → IsReplaced found before after → list_all (λ x. not (p x)) before ≡ true → count_by p after ≤ 1
found_alone p found before after replaced none = by replaced.chosen replaced.by
  where
    by : (b : Bool) → By b found before after → count_by p after ≤ 1
    by true split =
        let parts = and_all (λ x. not (p x)) split.pre split.old split.post (ap (list_all (λ x. not (p x))) (sym split.was) ∙ none) in
        let is = ap (count_by p) split.is ∙ count_append p split.pre (found ∷ split.post) in
        let new = count_cons p found split.post in
        let first = none_counted p split.pre parts.0 in
        let last = none_counted p split.post parts.1 in
        let one = most_one (p found) in
        omega (arith, is, new, first, last, one)
    by false e = let zero_now = ap (count_by p) e ∙ none_counted p before none in omega (arith, zero_now)

-- ---- an extent that is free meets none

none_met : (reference start blocks : ℕ) (all : List Extent) → list_any (meets start blocks) (ranges (extents_on reference all)) ≡ false
    → list_all (λ (other : Extent). not (nat_eq reference other.reference && meets start blocks (other.start, other.blocks))) all ≡ true
none_met reference start blocks [] h = refl
none_met reference start blocks (other ∷ all) h = by (nat_eq other.reference reference) refl h (none_met reference start blocks all)
  where
    rest_of : List Extent
    rest_of = filter (λ (one : Extent). nat_eq one.reference reference) all

    and_false : (a : Bool) → (a && false) ≡ false
    and_false true = refl
    and_false false = refl

    by : (b : Bool) → nat_eq other.reference reference ≡ b → list_any (meets start blocks) (ranges (cond b (other ∷ extents_on reference all) (extents_on reference all))) ≡ false
        → (list_any (meets start blocks) (ranges (extents_on reference all)) ≡ false → list_all (λ (one : Extent). not (nat_eq reference one.reference && meets start blocks (one.start, one.blocks))) all ≡ true)
        → (not (nat_eq reference other.reference && meets start blocks (other.start, other.blocks)) && list_all (λ (one : Extent). not (nat_eq reference one.reference && meets start blocks (one.start, one.blocks))) all) ≡ true
    by true e k rest =
        let parts = or_parts (meets start blocks (other.start, other.blocks)) (list_any (meets start blocks) (ranges (extents_on reference all))) k in
        and_from (not (nat_eq reference other.reference && meets start blocks (other.start, other.blocks))) (list_all (λ (one : Extent). not (nat_eq reference one.reference && meets start blocks (one.start, one.blocks))) all)
        (ap (λ b. not (nat_eq reference other.reference && b)) parts.0 ∙ ap not (and_false (nat_eq reference other.reference))) (rest parts.1)
    by false e k rest =
        and_from (not (nat_eq reference other.reference && meets start blocks (other.start, other.blocks))) (list_all (λ (one : Extent). not (nat_eq reference one.reference && meets start blocks (one.start, one.blocks))) all)
        (ap (λ b. not (b && meets start blocks (other.start, other.blocks))) (eqb_false_turned other.reference reference e)) (rest k)

-- what a free extent has: its disk is a member's, it ends within the size, and it meets none
pub record IsClear (members : List (ℕ × Member)) (all : List Extent) (found : Extent) : Type 0 where
  pub member : Member
  pub there : lookup (nat_eq found.reference) members ≡ Some member
  pub ends : nat_le (found.start + found.blocks) member.size ≡ true
  pub none : list_all (λ other. not (meets_extent found other)) all ≡ true

pub is_clear : (members : List (ℕ × Member)) (all : List Extent) (found : Extent) → lies_clear members all found ≡ true → IsClear members all found
is_clear members all found h = by (lookup (nat_eq found.reference) members) refl h
  where
    by : (r : Option Member) → lookup (nat_eq found.reference) members ≡ r → (elim r [ None ↦ false | Some member ↦ is_free (ranges (extents_on found.reference all)) member.size found.blocks found.start ]) ≡ true → IsClear members all found
    by None e h = absurd (false≢true h)
    by (Some member) e h =
        let parts = and_parts (nat_le (found.start + found.blocks) member.size) (not (list_any (meets found.start found.blocks) (ranges (extents_on found.reference all)))) h in
        record {
          member = member;
          there = e;
          ends = parts.0;
          none = none_met found.reference found.start found.blocks all (not-true (list_any (meets found.start found.blocks) (ranges (extents_on found.reference all))) parts.1);
        }

-- ---- extents that lie well still do

meets_turned : (a b c d : ℕ) → meets a b (c, d) ≡ false → meets c d (a, b) ≡ false
meets_turned a b c d h = grind arith

turned : (found other : Extent) → not (meets_extent found other) ≡ true → meets_extent other found ≡ false
turned found other h = by (nat_eq found.reference other.reference) refl (not-true (meets_extent found other) h)
  where
    by : (b : Bool) → nat_eq found.reference other.reference ≡ b → (b && meets found.start found.blocks (other.start, other.blocks)) ≡ false → meets_extent other found ≡ false
    by true e k = by_same (nat_eq other.reference found.reference) (meets_turned found.start found.blocks other.start other.blocks k)
      where
        by_same : (a : Bool) → meets other.start other.blocks (found.start, found.blocks) ≡ false → (a && meets other.start other.blocks (found.start, found.blocks)) ≡ false
        by_same true k = k
        by_same false k = refl
    by false e k = ap (λ a. a && meets other.start other.blocks (found.start, found.blocks)) (eqb_false_turned found.reference other.reference e)

le_test : (a b : ℕ) → a ≤ b → nat_le b 1 ≡ true → nat_le a 1 ≡ true
le_test a b le h = grind arith

module _ (members : List (ℕ × Member)) (found : Extent) (before after : List Extent) (replaced : IsReplaced found before after) (clear : IsClear members before found) where
  other_lies : (other : Extent) → (lies_well members before other && not (meets_extent found other)) ≡ true → lies_well members after other ≡ true
  other_lies other h =
      let parts = and_parts (lies_well members before other) (not (meets_extent found other)) h in
      by (lookup (nat_eq other.reference) members) (no_more (meets_extent other) found before after replaced (turned found other parts.1)) parts.0
    where
      by : (r : Option Member) → count_by (meets_extent other) after ≤ count_by (meets_extent other) before
          → (elim r [ None ↦ true | Some member ↦ nat_le (other.start + other.blocks) member.size && nat_le (count_by (meets_extent other) before) 1 ]) ≡ true
          → (elim r [ None ↦ true | Some member ↦ nat_le (other.start + other.blocks) member.size && nat_le (count_by (meets_extent other) after) 1 ]) ≡ true
      by None fewer h = refl
      by (Some member) fewer h =
          let parts = and_parts (nat_le (other.start + other.blocks) member.size) (nat_le (count_by (meets_extent other) before) 1) h in
          and_from (nat_le (other.start + other.blocks) member.size) (nat_le (count_by (meets_extent other) after) 1) parts.0 (le_test (count_by (meets_extent other) after) (count_by (meets_extent other) before) fewer parts.1)

  found_lies : lies_well members after found ≡ true
  found_lies =
      ap (λ (r : Option Member). elim r [ None ↦ true | Some member ↦ nat_le (found.start + found.blocks) member.size && nat_le (count_by (meets_extent found) after) 1 ]) clear.there
      ∙ and_from (nat_le (found.start + found.blocks) clear.member.size) (nat_le (count_by (meets_extent found) after) 1) clear.ends
      (one_test (count_by (meets_extent found) after) (found_alone (meets_extent found) found before after replaced clear.none))

  -- those of an array, of which one may be replaced too
  pub still_lie : (own next : List Extent) → IsReplaced found own next → list_all (λ other. not (meets_extent found other)) own ≡ true → list_all (lies_well members before) own ≡ true → list_all (lies_well members after) next ≡ true
  still_lie own next mine none lie =
      replaced_all (lies_well members after) found own next mine
      (weaker (λ other. lies_well members before other && not (meets_extent found other)) (lies_well members after) other_lies own
      (both_all (lies_well members before) (λ other. not (meets_extent found other)) own lie none))
      found_lies
