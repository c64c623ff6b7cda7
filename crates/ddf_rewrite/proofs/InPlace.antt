-- Each item is placed in a slot of its own.
use Rattle.std.proofs.Common.{◌≡◌, ℕ, zero, suc, ◌+◌, ◌<◌, ◌≤◌, Bool, true, false, ◌||◌, cond, eqb, List, [], ◌∷◌, length, map, Option, Some, None, refl, ap, sym, ◌∙◌, subst, arith}
use Rattle.std.proofs.lemmas.Bool.{or_parts, eqb-true, eq-eqb, ne_eqb, false≢true, false_from_ne_true}
use Rattle.std.specs.Prelude.{slice_get, filter_map, find, option_map}
use Rattle.std.specs.Option.{option_map_or}
use Rattle.std.specs.List.{AllByRecursion, IsDistinct, enumerate_from, list_any, cons_option}
use Rattle.ddf_lemmas.proofs.Lists.{found_place, in_map, mapped_at}
use Rattle.ddf_config_records.specs.declared.slot.RecordSlot.{RecordSlot}
use Rattle.ddf_view.proofs.Finds.{place_within}
use Rattle.ddf_rewrite.specs.Placement.{free_slots, is_item, is_others, item_at, slotted_items, slot_of, stays_in, take_slots}
use Rattle.ddf_rewrite.specs.declared.item.Item.TheVariants as kinds
use Rattle.ddf_rewrite.specs.declared.item.Item.{Item}
use Rattle.ddf_rewrite.specs.declared.item.Slotted.{Slotted}
use Rattle.ddf_rewrite.proofs.Placing.{same_item, slots_in, StandIn, Differs, taken, distinct, all_items, slot_found, stands_in, own_slots}
use Rattle.ddf_rewrite.proofs.Lists.{some_same, one_place}

-- ---- free slots

-- the places of items that don't pass
abbrev kept : {X : Type 0} → (ℕ × X → Bool) → ℕ → List X → List ℕ
kept test k xs = filter_map (λ pair. cond (test pair) None (Some pair.0)) (enumerate_from k xs)

all_kept : {X : Type 0} (test : ℕ × X → Bool) (P : ℕ → Type 0) (k : ℕ) (xs : List X) → ((i : ℕ) (x : X) → i < length xs → test (k + i, x) ≡ false → P (k + i)) → AllByRecursion P (kept test k xs)
all_kept test P k [] h = tt
all_kept {X = X} test P k (x ∷ xs) h = go (all_kept test P (k + 1) xs (λ i y lt no. let there : k + 1 + i ≡ k + suc i = omega arith in rw there (h (suc i) y (omega (arith, lt)) (rw⁻¹ there no)))) (test (k, x)) refl
  where
    go : AllByRecursion P (kept test (k + 1) xs) → (b : Bool) → test (k, x) ≡ b → AllByRecursion P (cons_option (cond b None (Some k)) (kept test (k + 1) xs))
    go later true e = later
    go later false e = let here : k + 0 ≡ k = omega arith in (rw⁻¹ here (h 0 x (omega arith) (rw here e)), later)

kept_apart : {X : Type 0} (test : ℕ × X → Bool) (k : ℕ) (xs : List X) → IsDistinct eqb (kept test k xs)
unfolding IsDistinct
kept_apart test k [] = tt
kept_apart {X = X} test k (x ∷ xs) = go (kept_apart test (k + 1) xs) (test (k, x)) refl
  where
    go : IsDistinct eqb (kept test (k + 1) xs) → (b : Bool) → test (k, x) ≡ b → IsDistinct eqb (cons_option (cond b None (Some k)) (kept test (k + 1) xs))
    go later true e = later
    go later false e = (all_kept test (Differs k) (k + 1) xs (λ i y lt no. ne_eqb k (k + 1 + i) (λ same. absurd (omega (arith, same)))), later)

not_listed : (item : Item) (items : List Item) (slot : ℕ) (stands : Item → Option ℕ) → list_any (λ one. option_map_or (λ place. eqb place slot) (stands one) false) items ≡ false → StandIn stands (Differs slot) items
not_listed item [] slot stands h = tt
not_listed item (one ∷ items) slot stands h =
    let parts = or_parts (option_map_or (λ place. eqb place slot) (stands one) false) (list_any (λ other. option_map_or (λ place. eqb place slot) (stands other) false) items) h in
    (λ place at. differs place at parts.0, not_listed item items slot stands parts.1)
  where
    differs : (place : ℕ) → stands one ≡ Some place → option_map_or (λ other. eqb other slot) (stands one) false ≡ false → eqb slot place ≡ false
    differs place at apart =
        let there : eqb place slot ≡ false = sym (ap (λ o. option_map_or (λ (other : ℕ). eqb other slot) o false) at) ∙ apart in
        false_from_ne_true (eqb slot place) (λ yes. false≢true (sym there ∙ eq-eqb place slot (sym (eqb-true slot place yes))))

-- ---- all of it

-- each item has a slot, where it is found, and no other
pub record AreInPlace (all : List RecordSlot) (items : List Item) (placed : List Slotted) : Type 0 where
  pub each : (i : ℕ) (item : Item) → slice_get items i ≡ Some item → (slot : ℕ) × (slot < length all) × (item_at placed slot ≡ Some item)
  pub among : (slot : ℕ) (item : Item) → item_at placed slot ≡ Some item → (i : ℕ) × (slice_get items i ≡ Some item)
  pub one : (slot other : ℕ) (item : Item) → item_at placed slot ≡ Some item → item_at placed other ≡ Some item → slot ≡ other

item_of : (placed : List Slotted) (slot : ℕ) (item : Item) → item_at placed slot ≡ Some item → (one : Slotted) × (find (λ other. eqb other.slot slot) placed ≡ Some one) × (one.item ≡ item)
item_of placed slot item h = go (find (λ other. eqb other.slot slot) placed) refl h
  where
    go : (o : Option Slotted) → find (λ other. eqb other.slot slot) placed ≡ o → option_map (λ one. one.item) o ≡ Some item → (one : Slotted) × (find (λ other. eqb other.slot slot) placed ≡ Some one) × (one.item ≡ item)
    go None e h = absurd cc
    go (Some one) e h = let same : one.item ≡ item = cc in (one, e, same)

pub in_place : (group : List ℕ) (sequence : ℕ) (all : List RecordSlot) (items : List Item) → IsDistinct is_item items → length items ≤ length (slotted_items group sequence all items)
    → AreInPlace all items (slotted_items group sequence all items)
unfolding slotted_items
in_place group sequence all items differ enough =
    let stands = slot_of group sequence all in
    let free = free_slots group sequence all items in
    let placed = take_slots stands items free in
    let test = λ (pair : ℕ × RecordSlot). is_others pair.1 || stays_in group sequence all items pair.0 in
    let away : AllByRecursion (λ slot. StandIn stands (Differs slot) items) free = all_kept test (λ slot. StandIn stands (Differs slot) items) 0 all
    (λ i slot lt no. not_listed kinds.Notes items (0 + i) stands (or_parts (is_others slot) (stays_in group sequence all items (0 + i)) no).1) in
    let apart = distinct stands (own_slots group sequence all) items free differ (kept_apart test 0 all) away in
    let same : map (λ one. one.item) placed ≡ items = all_items stands items free enough in
    let stand = each_stands items in
    let frees : AllByRecursion (λ slot. slot < length all) free = all_kept test (λ slot. slot < length all) 0 all (λ i slot lt no. omega (arith, lt)) in
    let within = taken stands (λ slot. slot < length all) items free stand frees in
    record {
      each = λ i item at.
          let there = in_map (λ one. one.item) placed i item (ap (λ (list : List Item). slice_get list i) same ∙ at) in
          let found = slot_found placed apart i there.0 there.1 in
          (there.0.slot, all_at (λ slot. slot < length all) placed within i there.0 there.1, ap (λ o. option_map (λ (one : Slotted). one.item) o) found ∙ ap (λ (x : Item). Some x) there.2);
      among = λ slot item at.
          let there = item_of placed slot item at in
          let place = found_place (λ other. eqb other.slot slot) placed there.0 there.1 in
          (place.0, ap (λ (list : List Item). slice_get list place.0) (sym same) ∙ mapped_at (λ one. one.item) placed place.0 there.0 place.1 ∙ ap (λ (x : Item). Some x) there.2);
      one = λ slot other item at also.
          let first = item_of placed slot item at in
          let second = item_of placed other item also in
          let here = found_place (λ one. eqb one.slot slot) placed first.0 first.1 in
          let there = found_place (λ one. eqb one.slot other) placed second.0 second.1 in
          let item_here : slice_get items here.0 ≡ Some item = ap (λ (list : List Item). slice_get list here.0) (sym same) ∙ mapped_at (λ one. one.item) placed here.0 first.0 here.1 ∙ ap (λ (x : Item). Some x) first.2 in
          let item_there : slice_get items there.0 ≡ Some item = ap (λ (list : List Item). slice_get list there.0) (sym same) ∙ mapped_at (λ one. one.item) placed there.0 second.0 there.1 ∙ ap (λ (x : Item). Some x) second.2 in
          let index : here.0 ≡ there.0 = one_place is_item same_item items differ here.0 there.0 item item_here item_there in
          let ones : first.0 ≡ second.0 = some_same (ap (λ (i : ℕ). slice_get placed i) (sym index) ∙ here.1) there.1 in
          let slot_is = eqb-true first.0.slot slot here.2 in
          let other_is = eqb-true second.0.slot other there.2 in
          sym slot_is ∙ ap (λ (p : Slotted). p.slot) ones ∙ other_is;
    }
  where
    each_stands : (some : List Item) → StandIn (slot_of group sequence all) (λ slot. slot < length all) some
    each_stands [] = tt
    each_stands (item ∷ some) = (λ slot at. let is = stands_in group sequence all item slot at in place_within all slot is.record_there is.at, each_stands some)

    all_at : (P : ℕ → Type 0) (placed : List Slotted) → AllByRecursion P (slots_in placed) → (i : ℕ) (one : Slotted) → slice_get placed i ≡ Some one → P one.slot
    all_at P [] all i one h = absurd cc
    all_at P (p ∷ placed) all zero one h = let same : p ≡ one = cc in subst (λ (q : Slotted). P q.slot) same all.0
    all_at P (p ∷ placed) all (suc i) one h = all_at P placed all.1 i one h
