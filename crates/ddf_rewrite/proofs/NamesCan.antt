-- What follows where no two members have one reference and no two arrays one GUID, and what a configuration that is read has.
use Rattle.std.proofs.Common.{◌≡◌, ℕ, ◌+◌, ◌<◌, Bool, true, false, ◌&&◌, eqb, List, [], ◌∷◌, ◌++◌, map, Option, Some, None, refl, ap, sym, ◌∙◌, subst, arith}
use Rattle.std.proofs.lemmas.Bool.{eq-eqb, ne_eqb}
use Rattle.std.specs.Prelude.{slice_get, filter_map, nat_eq}
use Rattle.std.specs.List.{AllByRecursion, IsDistinct, enumerate_from, flat_map}
use Rattle.std.specs.Str.{bytes_eq}
use Rattle.ddf_config.specs.Configuration.{Configuration}
use Rattle.ddf_config.specs.ElementValue.{ElementValue as ElementPlan}
use Rattle.ddf_config.specs.declared.array.Array.{Array}
use Rattle.ddf_config.specs.declared.member.Member.{Member}
use Rattle.ddf_rewrite.specs.Placement.{is_item}
use Rattle.ddf_rewrite.specs.Readable.{HasOwnNames}
use Rattle.ddf_rewrite.specs.Wanted.{all_wanted, wanted_at, wanted_of}
use Rattle.ddf_rewrite.specs.declared.item.Item.TheVariants as kinds
use Rattle.ddf_rewrite.specs.declared.item.Item.{Item}
use Rattle.ddf_rewrite.proofs.Lists.{one_place}
use Rattle.ddf_rewrite.proofs.AllWanted.{wanted_item}
use Rattle.std.proofs.lemmas.List.{map-append}
use Rattle.ddf_lemmas.proofs.Lists.{all_append, bytes_same, mapped_at}

-- ---- keys that differ

-- two entries with one key are one
pub one_entry : {K X : Type 0} (eq : K → K → Bool) → ((x : K) → eq x x ≡ true) → (entries : List (K × X)) → IsDistinct eq (map (λ entry. entry.0) entries)
    → (i j : ℕ) (one other : K × X) → slice_get entries i ≡ Some one → slice_get entries j ≡ Some other → one.0 ≡ other.0 → one ≡ other
one_entry {K = K} {X = X} eq same entries apart i j one other h k is =
    let key = mapped_at (λ (entry : K × X). entry.0) entries i one h ∙ ap (λ (x : K). Some x) is in
    let there = one_place eq same (map (λ (entry : K × X). entry.0) entries) apart i j other.0 key (mapped_at (λ (entry : K × X). entry.0) entries j other k) in
    let got : Some one ≡ Some other = sym h ∙ ap (slice_get entries) there ∙ k in
    cc

-- ---- the elements of arrays

-- an element of a later place differs
later_differ : (guid : List ℕ) (index n : ℕ) (entry : List ℕ × Array) (plans : List (Option ElementPlan)) → index < n
    → AllByRecursion (λ y. is_item (kinds.Element guid index) y ≡ false) (map wanted_item (filter_map (wanted_at entry) (enumerate_from n plans)))
later_differ guid index n entry [] lt = tt
later_differ guid index n entry (None ∷ plans) lt = later_differ guid index (n + 1) entry plans (omega (arith, lt))
later_differ guid index n entry (Some plan ∷ plans) lt =
    let apart : eqb index n ≡ false = ne_eqb index n (λ (e : index ≡ n). absurd (omega (arith, lt, e))) in
    (rw apart (and_none (bytes_eq guid entry.0)), later_differ guid index (n + 1) entry plans (omega (arith, lt)))
  where
    and_none : (b : Bool) → (b && false) ≡ false
    and_none true = refl
    and_none false = refl

part_apart : (entry : List ℕ × Array) (n : ℕ) (plans : List (Option ElementPlan)) → IsDistinct is_item (map wanted_item (filter_map (wanted_at entry) (enumerate_from n plans)))
unfolding IsDistinct
part_apart entry n [] = tt
part_apart entry n (None ∷ plans) = part_apart entry (n + 1) plans
part_apart entry n (Some plan ∷ plans) = (later_differ entry.0 n (n + 1) entry plans (omega arith), part_apart entry (n + 1) plans)

-- those of another array differ
other_differ : (guid : List ℕ) (index n : ℕ) (entry : List ℕ × Array) (plans : List (Option ElementPlan)) → bytes_eq guid entry.0 ≡ false
    → AllByRecursion (λ y. is_item (kinds.Element guid index) y ≡ false) (map wanted_item (filter_map (wanted_at entry) (enumerate_from n plans)))
other_differ guid index n entry [] apart = tt
other_differ guid index n entry (None ∷ plans) apart = other_differ guid index (n + 1) entry plans apart
other_differ guid index n entry (Some plan ∷ plans) apart = (rw apart refl, other_differ guid index (n + 1) entry plans apart)

others_differ : (guid : List ℕ) (index : ℕ) (arrays : List (List ℕ × Array)) → AllByRecursion (λ other. bytes_eq guid other ≡ false) (map (λ (entry : List ℕ × Array). entry.0) arrays)
    → AllByRecursion (λ y. is_item (kinds.Element guid index) y ≡ false) (map wanted_item (flat_map wanted_of arrays))
others_differ guid index [] apart = tt
others_differ guid index (entry ∷ arrays) apart =
    subst (λ (l : List Item). AllByRecursion (λ y. is_item (kinds.Element guid index) y ≡ false) l) (sym (map-append wanted_item (wanted_of entry) (flat_map wanted_of arrays)))
    (all_append (λ y. is_item (kinds.Element guid index) y ≡ false) (map wanted_item (wanted_of entry))
    (map wanted_item (flat_map wanted_of arrays))
    (other_differ guid index 0 entry entry.1.elements apart.0) (others_differ guid index arrays apart.1))

distinct_append : (xs ys : List Item) → IsDistinct is_item xs → IsDistinct is_item ys → AllByRecursion (λ x. AllByRecursion (λ y. is_item x y ≡ false) ys) xs → IsDistinct is_item (xs ++ ys)
unfolding IsDistinct
distinct_append [] ys h k apart = k
distinct_append (x ∷ xs) ys h k apart = (all_append (λ y. is_item x y ≡ false) xs ys h.0 apart.0, distinct_append xs ys h.1 k apart.1)

part_from_others : (entry : List ℕ × Array) (n : ℕ) (plans : List (Option ElementPlan)) (arrays : List (List ℕ × Array)) → AllByRecursion (λ other. bytes_eq entry.0 other ≡ false) (map (λ (one : List ℕ × Array). one.0) arrays)
    → AllByRecursion (λ x. AllByRecursion (λ y. is_item x y ≡ false) (map wanted_item (flat_map wanted_of arrays)))
    (map wanted_item (filter_map (wanted_at entry) (enumerate_from n plans)))
part_from_others entry n [] arrays apart = tt
part_from_others entry n (None ∷ plans) arrays apart = part_from_others entry (n + 1) plans arrays apart
part_from_others entry n (Some plan ∷ plans) arrays apart = (others_differ entry.0 n arrays apart, part_from_others entry (n + 1) plans arrays apart)

elements_apart : (arrays : List (List ℕ × Array)) → IsDistinct bytes_eq (map (λ (entry : List ℕ × Array). entry.0) arrays)
    → IsDistinct is_item (map wanted_item (flat_map wanted_of arrays))
unfolding IsDistinct
elements_apart [] apart = tt
elements_apart (entry ∷ arrays) apart =
    subst (λ (l : List Item). IsDistinct is_item l) (sym (map-append wanted_item (wanted_of entry) (flat_map wanted_of arrays)))
    (distinct_append (map wanted_item (wanted_of entry)) (map wanted_item (flat_map wanted_of arrays))
    (part_apart entry 0 entry.1.elements) (elements_apart arrays apart.1) (part_from_others entry 0 entry.1.elements arrays apart.0))

-- Where no two arrays have one GUID, no element stands twice.
pub own_names : (config : Configuration) → IsDistinct bytes_eq (map (λ (entry : List ℕ × Array). entry.0) config.arrays) → HasOwnNames config
unfolding all_wanted
own_names config apart = record {
  guids = one_entry bytes_eq bytes_same config.arrays apart;
  elements = elements_apart config.arrays apart;
}

pub own_references : (config : Configuration) → IsDistinct nat_eq (map (λ (entry : ℕ × Member). entry.0) config.members)
    → (i j : ℕ) (one other : ℕ × Member) → slice_get config.members i ≡ Some one → slice_get config.members j ≡ Some other → one.0 ≡ other.0 → one ≡ other
own_references config apart = one_entry nat_eq (λ n. eq-eqb n n refl) config.members apart
