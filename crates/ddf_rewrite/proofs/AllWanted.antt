-- The elements of a configuration, one after another.
use Rattle.std.proofs.Common.{◌≡◌, ℕ, zero, suc, true, false, List, [], ◌∷◌, ◌++◌, map, Option, Some, None, refl, ap, sym, ◌∙◌, subst, arith}
use Rattle.std.specs.Prelude.{slice_get, filter_map, option_map}
use Rattle.std.specs.List.{AllByRecursion, IsDistinct, enumerate_from, flat_map, cons_option}
use Rattle.std.proofs.lemmas.Bool.{cond-false, cond-true}
use Rattle.ddf_lemmas.proofs.Lists.{first_get, get_filter_map, in_second, mapped_at}
use Rattle.ddf_config.specs.Configuration.{Configuration}
use Rattle.ddf_config.specs.ElementValue.{ElementValue as ElementPlan}
use Rattle.ddf_config.specs.declared.array.Array.{Array}
use Rattle.ddf_rewrite.specs.Notes.{Holding, find_holding}
use Rattle.ddf_rewrite.specs.Placement.{is_item}
use Rattle.ddf_rewrite.specs.Wanted.{Wanted, all_wanted, wanted_at, wanted_of}
use Rattle.ddf_rewrite.specs.declared.item.Item.TheVariants as kinds
use Rattle.ddf_rewrite.specs.declared.item.Item.{Item}
use Rattle.ddf_rewrite.proofs.Placing.{same_item}
use Rattle.ddf_rewrite.proofs.Lists.{get_enumerated, enumerated_get, one_place, some_same}
use Rattle.ddf_rewrite.specs.Copies.{element_item}

-- ---- lists

pub filter_map_get : {X Y : Type 0} (f : X → Option Y) (xs : List X) (n : ℕ) (y : Y) → slice_get (filter_map f xs) n ≡ Some y → (k : ℕ) × (x : X) × (slice_get xs k ≡ Some x) × (f x ≡ Some y)
filter_map_get f [] n y h = absurd cc
filter_map_get {X = X} {Y = Y} f (z ∷ xs) n y h = go (λ m at. filter_map_get f xs m y at) (f z) refl n h
  where
    go : ((m : ℕ) → slice_get (filter_map f xs) m ≡ Some y → (k : ℕ) × (x : X) × (slice_get xs k ≡ Some x) × (f x ≡ Some y)) → (o : Option Y) → f z ≡ o → (m : ℕ) → slice_get (cons_option o (filter_map f xs)) m ≡ Some y
        → (k : ℕ) × (x : X) × (slice_get (z ∷ xs) k ≡ Some x) × (f x ≡ Some y)
    go later None e m h = let rest = later m h in (suc rest.0, rest.1, rest.2, rest.3)
    go later (Some w) e zero h = (0, z, refl, e ∙ h)
    go later (Some w) e (suc m) h = let rest = later m h in (suc rest.0, rest.1, rest.2, rest.3)

get_flat_map : {X Y : Type 0} (f : X → List Y) (xs : List X) (k : ℕ) (x : X) (i : ℕ) (y : Y) → slice_get xs k ≡ Some x → slice_get (f x) i ≡ Some y → (n : ℕ) × (slice_get (flat_map f xs) n ≡ Some y)
get_flat_map f [] k x i y h is = absurd cc
get_flat_map {Y = Y} f (z ∷ xs) zero x i y h is =
    let same : z ≡ x = cc in
    (i, first_get (f z) (flat_map f xs) i y (ap (λ w. slice_get (f w) i) same ∙ is))
get_flat_map {Y = Y} f (z ∷ xs) (suc k) x i y h is =
    let rest = get_flat_map f xs k x i y h is in
    in_second (f z) (flat_map f xs) rest.0 y rest.1

pub cases_append : {X : Type 0} (P : Type 0) (xs ys : List X) (x : X) → ((i : ℕ) → slice_get xs i ≡ Some x → P) → ((i : ℕ) → slice_get ys i ≡ Some x → P) → (n : ℕ) → slice_get (xs ++ ys) n ≡ Some x → P
cases_append P [] ys x left right n h = right n h
cases_append P (z ∷ xs) ys x left right zero h = left 0 h
cases_append P (z ∷ xs) ys x left right (suc n) h = cases_append P xs ys x (λ i at. left (suc i) at) right n h

flat_map_get : {X Y : Type 0} (f : X → List Y) (xs : List X) (n : ℕ) (y : Y) → slice_get (flat_map f xs) n ≡ Some y → (k : ℕ) × (x : X) × (i : ℕ) × (slice_get xs k ≡ Some x) × (slice_get (f x) i ≡ Some y)
flat_map_get f [] n y h = absurd cc
flat_map_get {X = X} {Y = Y} f (z ∷ xs) n y h =
    cases_append ((k : ℕ) × (x : X) × (i : ℕ) × (slice_get (z ∷ xs) k ≡ Some x) × (slice_get (f x) i ≡ Some y)) (f z) (flat_map f xs) y
    (λ i at. (0, z, i, refl, at))
    (λ i at. let rest = flat_map_get f xs i y at in (suc rest.0, rest.1, rest.2, rest.3, rest.4)) n h

-- ---- an element and its place among all

abbrev pub wanted_item : Wanted → Item
wanted_item wanted = kinds.Element wanted.guid wanted.index

make_wanted : (guid : List ℕ) (array : Array) (index : ℕ) (plan : ElementPlan) → Wanted
make_wanted guid array index plan = record { guid = guid; array = array; index = index; plan = plan }

pub is_wanted : (config : Configuration) (a i : ℕ) (entry : List ℕ × Array) (plan : ElementPlan) → slice_get config.arrays a ≡ Some entry → slice_get entry.1.elements i ≡ Some (Some plan)
    → (n : ℕ) × (slice_get (all_wanted config) n ≡ Some (record { guid = entry.0; array = entry.1; index = i; plan = plan }))
unfolding all_wanted make_wanted
is_wanted config a i entry plan at there =
    let numbered = get_enumerated 0 entry.1.elements i (Some plan) there in
    let index : numbered.0 ≡ i = numbered.1 ∙ omega arith in
    let wanted : wanted_at entry (numbered.0, Some plan) ≡ Some (make_wanted entry.0 entry.1 i plan) = ap (λ (n : ℕ). Some (make_wanted entry.0 entry.1 n plan)) index in
    let inner = get_filter_map (wanted_at entry) (enumerate_from 0 entry.1.elements) i (numbered.0, Some plan) (make_wanted entry.0 entry.1 i plan) numbered.2 wanted in
    get_flat_map wanted_of config.arrays a entry inner.0 (make_wanted entry.0 entry.1 i plan) at inner.1

-- Where no element stands twice, those of one array and place are one.
pub wanted_one : (config : Configuration) → IsDistinct is_item (map wanted_item (all_wanted config)) → (n k : ℕ) (one other : Wanted) → slice_get (all_wanted config) n ≡ Some one → slice_get (all_wanted config) k ≡ Some other
    → one.guid ≡ other.guid → one.index ≡ other.index → one ≡ other
wanted_one config apart n k one other at there guid index =
    let same : wanted_item one ≡ wanted_item other = rw (guid, index) refl in
    let first : slice_get (map wanted_item (all_wanted config)) n ≡ Some (wanted_item other) = mapped_at wanted_item (all_wanted config) n one at ∙ ap (λ (x : Item). Some x) same in
    let place = one_place is_item same_item (map wanted_item (all_wanted config)) apart n k (wanted_item other) first (mapped_at wanted_item (all_wanted config) k other there) in
    some_same at (ap (slice_get (all_wanted config)) place ∙ there)

-- what a wanted element is of
pub record IsOf (config : Configuration) (wanted : Wanted) : Type 0 where
  pub a : ℕ
  pub entry : List ℕ × Array
  pub at : slice_get config.arrays a ≡ Some entry
  pub guid_is : wanted.guid ≡ entry.0
  pub array_is : wanted.array ≡ entry.1
  pub there : slice_get entry.1.elements wanted.index ≡ Some (Some wanted.plan)

of_plan : (entry : List ℕ × Array) (pair : ℕ × Option ElementPlan) (wanted : Wanted) → wanted_at entry pair ≡ Some wanted → (wanted.guid ≡ entry.0) × (wanted.index ≡ pair.0) × (pair.1 ≡ Some wanted.plan) × (wanted.array ≡ entry.1)
unfolding make_wanted
of_plan entry pair wanted h = go pair.1 refl h
  where
    go : (o : Option ElementPlan) → pair.1 ≡ o → option_map (λ plan. make_wanted entry.0 entry.1 pair.0 plan) o ≡ Some wanted → (wanted.guid ≡ entry.0) × (wanted.index ≡ pair.0) × (pair.1 ≡ Some wanted.plan) × (wanted.array ≡ entry.1)
    go None e h = absurd cc
    go (Some plan) e h =
        let same : make_wanted entry.0 entry.1 pair.0 plan ≡ wanted = cc in
        (sym (ap (λ (w : Wanted). w.guid) same), sym (ap (λ (w : Wanted). w.index) same), e ∙ ap (λ (w : Wanted). Some w.plan) same, sym (ap (λ (w : Wanted). w.array) same))

pub wanted_place : (config : Configuration) (n : ℕ) (wanted : Wanted) → slice_get (all_wanted config) n ≡ Some wanted → IsOf config wanted
unfolding all_wanted make_wanted
wanted_place config n wanted h =
    let outer = flat_map_get wanted_of config.arrays n wanted h in
    let entry = outer.1 in
    let inner = filter_map_get (wanted_at entry) (enumerate_from 0 entry.1.elements) outer.2 wanted outer.4 in
    let pair = inner.1 in
    let numbered = enumerated_get 0 entry.1.elements inner.0 pair inner.2 in
    let is = of_plan entry pair wanted inner.3 in
    let index : wanted.index ≡ inner.0 = is.1 ∙ numbered.0 ∙ omega arith in
    record {
      a = outer.0;
      entry = entry;
      at = outer.3;
      guid_is = is.0;
      array_is = is.3;
      there = ap (λ (i : ℕ). slice_get entry.1.elements i) index ∙ numbered.1 ∙ ap (λ (o : Option ElementPlan). Some o) is.2;
    }

-- ---- the first holding of an element

differs_at : (x : Item) (holdings : List Holding) (i : ℕ) (holding : Holding) → AllByRecursion (λ y. is_item x y ≡ false) (map element_item holdings) → slice_get holdings i ≡ Some holding
    → is_item x (kinds.Element holding.wanted.guid holding.wanted.index) ≡ false
differs_at x [] i holding all h = absurd cc
differs_at x (y ∷ holdings) zero holding all h = let same : y ≡ holding = cc in subst (λ (z : Holding). is_item x (kinds.Element z.wanted.guid z.wanted.index) ≡ false) same all.0
differs_at x (y ∷ holdings) (suc i) holding all h = differs_at x holdings i holding all.1 h

pub own_found : (holdings : List Holding) → IsDistinct is_item (map element_item holdings) → (n : ℕ) (holding : Holding) → slice_get holdings n ≡ Some holding
    → find_holding holding.wanted.guid holding.wanted.index holdings ≡ Some holding
unfolding IsDistinct
own_found [] differ n holding h = absurd cc
own_found (x ∷ holdings) differ zero holding h =
    let same : x ≡ holding = cc in
    let test : is_item (kinds.Element x.wanted.guid x.wanted.index) (kinds.Element holding.wanted.guid holding.wanted.index) ≡ true =
    ap (λ (z : Holding). is_item (kinds.Element z.wanted.guid z.wanted.index) (kinds.Element holding.wanted.guid holding.wanted.index)) same ∙ same_item (kinds.Element holding.wanted.guid holding.wanted.index) in
    cond-true (is_item (kinds.Element x.wanted.guid x.wanted.index) (kinds.Element holding.wanted.guid holding.wanted.index)) (Some x) (find_holding holding.wanted.guid holding.wanted.index holdings) test
    ∙ ap (λ (z : Holding). Some z) same
own_found (x ∷ holdings) differ (suc n) holding h =
    let apart = differs_at (kinds.Element x.wanted.guid x.wanted.index) holdings n holding differ.0 h in
    cond-false (is_item (kinds.Element x.wanted.guid x.wanted.index) (kinds.Element holding.wanted.guid holding.wanted.index)) (Some x) (find_holding holding.wanted.guid holding.wanted.index holdings) apart
    ∙ own_found holdings differ.1 n holding h
