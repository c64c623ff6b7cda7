-- Items get slots of their own.
use Rattle.std.proofs.Common.{◌≡◌, ℕ, zero, suc, ◌≤◌, Bool, true, false, ◌&&◌, eqb, List, [], ◌∷◌, length, map, Option, Some, None, refl, ap, sym, ◌∙◌, subst, arith, ⊎_elim, inl, inr}
use Rattle.std.proofs.lemmas.List.Folds.{find_at}
use Rattle.std.proofs.lemmas.Bool.{ltb-true, and_parts, eqb-true, eq-eqb, false≢true, false_from_ne_true, cond-false, cond-true}
use Rattle.std.specs.Prelude.{slice_get, find, is_some, position, nat_lt, ◌⊎◌}
use Rattle.std.specs.Option.{option_or, option_map_or}
use Rattle.std.specs.List.{AllByRecursion, IsDistinct, position_or_len}
use Rattle.std.specs.Str.{bytes_eq}
use Rattle.ddf_lemmas.proofs.Lists.{all_weaken, bytes_same, found_place, some_at_place}
use Rattle.ddf_config_records.specs.declared.slot.RecordSlot.{RecordSlot}
use Rattle.ddf_config_records.specs.declared.slot.RecordSlot.TheVariants as slots
use Rattle.ddf_config_records.specs.ElementValue.{ElementValue}
use Rattle.ddf_config_records.specs.Slots.{valid_of}
use Rattle.ddf_view.specs.View.{element_of, spare_of}
use Rattle.ddf_view.proofs.Tests.{same_bytes}
use Rattle.ddf_rewrite.specs.Placement.{is_item, is_notes_slot, is_slot_of, slot_of, take_one, take_slots}
use Rattle.ddf_rewrite.specs.declared.item.Item.TheVariants as kinds
use Rattle.ddf_rewrite.specs.declared.item.Item.{Item}
use Rattle.ddf_rewrite.specs.declared.item.Slotted.{Slotted}

-- ---- items

pub item_same : (x y : Item) → is_item x y ≡ true → x ≡ y
item_same kinds.Notes kinds.Notes h = refl
item_same kinds.Notes kinds.Spare h = absurd (false≢true h)
item_same kinds.Notes (kinds.Element array index) h = absurd (false≢true h)
item_same kinds.Spare kinds.Notes h = absurd (false≢true h)
item_same kinds.Spare kinds.Spare h = refl
item_same kinds.Spare (kinds.Element array index) h = absurd (false≢true h)
item_same (kinds.Element array index) kinds.Notes h = absurd (false≢true h)
item_same (kinds.Element array index) kinds.Spare h = absurd (false≢true h)
item_same (kinds.Element array index) (kinds.Element other place) h =
    let parts = and_parts (bytes_eq array other) (eqb index place) h in
    let guid : array ≡ other = same_bytes array other parts.0 in
    let at : index ≡ place = eqb-true index place parts.1 in
    rw (guid, at) refl

pub same_item : (x : Item) → is_item x x ≡ true
same_item kinds.Notes = refl
same_item kinds.Spare = refl
same_item (kinds.Element array index) =
    let at : eqb index index ≡ true = eq-eqb index index refl in
    rw (bytes_same array, at) refl

-- ---- what holds of each slot that is taken

abbrev pub slots_in : List Slotted → List ℕ
slots_in placed = map (λ one. one.slot) placed

-- each item stands where P holds
abbrev pub StandIn : (Item → Option ℕ) → (ℕ → Type 0) → List Item → Type 0
StandIn stands P items = AllByRecursion (λ item. (slot : ℕ) → stands item ≡ Some slot → P slot) items

pub taken : (stands : Item → Option ℕ) (P : ℕ → Type 0) (items : List Item) (free : List ℕ) → StandIn stands P items → AllByRecursion P free → AllByRecursion P (slots_in (take_slots stands items free))
taken stands P [] free at all = tt
taken stands P (item ∷ items) free at all = go (λ rest. taken stands P items rest at.1) (stands item) refl free all
  where
    go : ((rest : List ℕ) → AllByRecursion P rest → AllByRecursion P (slots_in (take_slots stands items rest)))
        → (o : Option ℕ) → stands item ≡ o → (rest : List ℕ) → AllByRecursion P rest → AllByRecursion P (slots_in (take_one item o (take_slots stands items) rest))
    go later (Some slot) e rest all = (at.0 slot e, later rest all)
    go later None e [] all = later [] tt
    go later None e (slot ∷ rest) all = (all.0, later rest all.1)

-- ---- slots of their own

abbrev pub Differs : ℕ → ℕ → Type 0
Differs slot other = eqb slot other ≡ false

-- the items differ, no two stand in one slot, and none in a free one
pub distinct : (stands : Item → Option ℕ) → ((x y : Item) (slot : ℕ) → stands x ≡ Some slot → stands y ≡ Some slot → is_item x y ≡ true)
    → (items : List Item) (free : List ℕ) → IsDistinct is_item items → IsDistinct eqb free → AllByRecursion (λ slot. StandIn stands (Differs slot) items) free
    → IsDistinct eqb (slots_in (take_slots stands items free))
unfolding IsDistinct
distinct stands own [] free differ apart away = tt
distinct stands own (item ∷ items) free differ apart away = go (λ rest. distinct stands own items rest differ.1) (stands item) refl free apart away
  where
    go : ((rest : List ℕ) → IsDistinct eqb rest → AllByRecursion (λ slot. StandIn stands (Differs slot) items) rest → IsDistinct eqb (slots_in (take_slots stands items rest)))
        → (o : Option ℕ) → stands item ≡ o → (rest : List ℕ) → IsDistinct eqb rest → AllByRecursion (λ slot. StandIn stands (Differs slot) (item ∷ items)) rest
        → IsDistinct eqb (slots_in (take_one item o (take_slots stands items) rest))
    go later (Some slot) e rest apart away =
        let others = all_weaken (λ y. is_item item y ≡ false) (λ y. (k : ℕ) → stands y ≡ Some k → Differs slot k)
        (λ y no k at. false_from_ne_true (eqb slot k) (λ yes. let here : stands y ≡ Some slot = at ∙ ap (λ (n : ℕ). Some n) (sym (eqb-true slot k yes)) in false≢true (sym no ∙ own item y slot e here))) items differ.0 in
        let frees = all_weaken (λ k. StandIn stands (Differs k) (item ∷ items)) (Differs slot)
        (λ k at. false_from_ne_true (eqb slot k) (λ yes. let here : stands item ≡ Some slot = e in let no = at.0 slot here in false≢true (sym no ∙ eq-eqb k slot (sym (eqb-true slot k yes))))) rest away in (
          taken stands (Differs slot) items rest others frees,
          later rest apart (all_weaken (λ k. StandIn stands (Differs k) (item ∷ items)) (λ k. StandIn stands (Differs k) items) (λ k at. at.1) rest away),
        )
    go later None e [] apart away = later [] tt tt
    go later None e (slot ∷ rest) apart away = (
      taken stands (Differs slot) items rest away.0.1 apart.0,
      later rest apart.1 (all_weaken (λ k. StandIn stands (Differs k) (item ∷ items)) (λ k. StandIn stands (Differs k) items) (λ k at. at.1) rest away.1),
    )

-- ---- each item has one

pub few : (stands : Item → Option ℕ) (items : List Item) (free : List ℕ) → length (take_slots stands items free) ≤ length items
few stands [] free = omega arith
few stands (item ∷ items) free = go (λ rest. few stands items rest) (stands item) free
  where
    go : ((rest : List ℕ) → length (take_slots stands items rest) ≤ length items) → (o : Option ℕ) (rest : List ℕ) → length (take_one item o (take_slots stands items) rest) ≤ suc (length items)
    go later (Some slot) rest = let l = later rest in omega (arith, l)
    go later None [] = let l = later [] in omega (arith, l)
    go later None (slot ∷ rest) = let l = later rest in omega (arith, l)

pub all_items : (stands : Item → Option ℕ) (items : List Item) (free : List ℕ) → length items ≤ length (take_slots stands items free) → map (λ one. one.item) (take_slots stands items free) ≡ items
all_items stands [] free enough = refl
all_items stands (item ∷ items) free enough = go (λ rest. all_items stands items rest) (stands item) free enough
  where
    go : ((rest : List ℕ) → length items ≤ length (take_slots stands items rest) → map (λ one. one.item) (take_slots stands items rest) ≡ items)
        → (o : Option ℕ) (rest : List ℕ) → suc (length items) ≤ length (take_one item o (take_slots stands items) rest) → map (λ one. one.item) (take_one item o (take_slots stands items) rest) ≡ item ∷ items
    go later (Some slot) rest enough = ap (λ (list : List Item). item ∷ list) (later rest (omega (arith, enough)))
    go later None [] enough = absurd (let f = few stands items [] in omega (arith, f, enough))
    go later None (slot ∷ rest) enough = ap (λ (list : List Item). item ∷ list) (later rest (omega (arith, enough)))

-- ---- the slot of an item

-- a slot that is taken is found
pub slot_found : (placed : List Slotted) → IsDistinct eqb (slots_in placed) → (i : ℕ) (one : Slotted) → slice_get placed i ≡ Some one → find (λ other. eqb other.slot one.slot) placed ≡ Some one
unfolding IsDistinct
slot_found [] apart i one at = absurd cc
slot_found (first ∷ placed) apart zero one at =
    let same : first ≡ one = cc in
    let yes : eqb first.slot one.slot ≡ true = eq-eqb first.slot one.slot (ap (λ (p : Slotted). p.slot) same) in
    cond-true (eqb first.slot one.slot) (Some first) (find (λ other. eqb other.slot one.slot) placed) yes ∙ ap (λ (p : Slotted). Some p) same
slot_found (first ∷ placed) apart (suc i) one at =
    let no = differs placed apart.0 i one at in
    cond-false (eqb first.slot one.slot) (Some first) (find (λ other. eqb other.slot one.slot) placed) no ∙ slot_found placed apart.1 i one at
  where
    differs : (rest : List Slotted) → AllByRecursion (λ k. eqb first.slot k ≡ false) (slots_in rest) → (i : ℕ) (one : Slotted) → slice_get rest i ≡ Some one → eqb first.slot one.slot ≡ false
    differs [] all i one at = absurd cc
    differs (next ∷ rest) all zero one at = let same : next ≡ one = cc in subst (λ (p : Slotted). eqb first.slot p.slot ≡ false) same all.0
    differs (next ∷ rest) all (suc i) one at = differs rest all.1 i one at

-- ---- the slots that items stand in

abbrev pub is_slot_for : Item → RecordSlot → Bool
is_slot_for kinds.Notes slot = is_notes_slot slot
is_slot_for kinds.Spare slot = is_some (spare_of slot)
is_slot_for (kinds.Element array index) slot = is_slot_of array index slot

position_is : {X : Type 0} (t : X → Bool) (xs : List X) (i : ℕ) → position t xs ≡ Some i → (x : X) × (slice_get xs i ≡ Some x) × (t x ≡ true)
position_is {X = X} t xs i h = go (nat_lt (position_or_len t xs) (length xs)) refl
  where
    go : (b : Bool) → nat_lt (position_or_len t xs) (length xs) ≡ b → (x : X) × (slice_get xs i ≡ Some x) × (t x ≡ true)
    go true e =
        let got : Some (position_or_len t xs) ≡ Some i = sym (cond-true (nat_lt (position_or_len t xs) (length xs)) (Some (position_or_len t xs)) None e) ∙ h in
        let same : position_or_len t xs ≡ i = cc in
        let there = some_at_place xs (position_or_len t xs) (ltb-true (position_or_len t xs) (length xs) e) in
        let found : find t xs ≡ Some there.0 = find_at t xs ∙ there.1 in
        (there.0, sym (ap (λ (n : ℕ). slice_get xs n) same) ∙ there.1, (found_place t xs there.0 found).2)
    go false e =
        let got : None ≡ Some i = sym (cond-false (nat_lt (position_or_len t xs) (length xs)) (Some (position_or_len t xs)) None e) ∙ h in
        absurd cc

-- ---- in which records

pub record IsIn (all : List RecordSlot) (item : Item) (i : ℕ) : Type 0 where
  pub record_there : RecordSlot
  pub at : slice_get all i ≡ Some record_there
  pub is : is_slot_for item record_there ≡ true

valid_is_notes : (group : List ℕ) (sequence : ℕ) (slot : RecordSlot) → is_some (valid_of group sequence slot) ≡ true → is_notes_slot slot ≡ true
valid_is_notes group sequence (slots.Element element) h = absurd (false≢true h)
valid_is_notes group sequence (slots.Copied element) h = absurd (false≢true h)
valid_is_notes group sequence (slots.Spare spare) h = absurd (false≢true h)
valid_is_notes group sequence (slots.Notes notes) h = refl
valid_is_notes group sequence (slots.Vendor guid rest) h = absurd (false≢true h)
valid_is_notes group sequence (slots.Unread fault kept) h = absurd (false≢true h)
valid_is_notes group sequence (slots.Unused kept) h = absurd (false≢true h)

or_else : (o p : Option ℕ) (i : ℕ) → option_or o p ≡ Some i → (o ≡ Some i) ⊎ (p ≡ Some i)
or_else None p i h = inr h
or_else (Some j) p i h = inl h

pub stands_in : (group : List ℕ) (sequence : ℕ) (all : List RecordSlot) (item : Item) (i : ℕ) → slot_of group sequence all item ≡ Some i → IsIn all item i
stands_in group sequence all kinds.Notes i h =
    ⊎_elim (λ valid. let is = position_is (λ slot. is_some (valid_of group sequence slot)) all i valid in record { record_there = is.0; at = is.1; is = valid_is_notes group sequence is.0 is.2 })
    (λ any. let is = position_is is_notes_slot all i any in record { record_there = is.0; at = is.1; is = is.2 })
    (or_else (position (λ slot. is_some (valid_of group sequence slot)) all) (position is_notes_slot all) i h)
stands_in group sequence all kinds.Spare i h = let is = position_is (λ slot. is_some (spare_of slot)) all i h in record { record_there = is.0; at = is.1; is = is.2 }
stands_in group sequence all (kinds.Element array index) i h = let is = position_is (is_slot_of array index) all i h in record { record_there = is.0; at = is.1; is = is.2 }

-- two elements of one record are one
one_key : (array other : List ℕ) (index place : ℕ) (slot : RecordSlot) → is_slot_of array index slot ≡ true → is_slot_of other place slot ≡ true → is_item (kinds.Element array index) (kinds.Element other place) ≡ true
one_key array other index place slot h k = go (element_of slot) h k
  where
    go : (o : Option ElementValue) → option_map_or (λ element. bytes_eq element.array array && eqb element.index index) o false ≡ true
        → option_map_or (λ element. bytes_eq element.array other && eqb element.index place) o false ≡ true → (bytes_eq array other && eqb index place) ≡ true
    go None h k = absurd (false≢true h)
    go (Some element) h k =
        let one = and_parts (bytes_eq element.array array) (eqb element.index index) h in
        let two = and_parts (bytes_eq element.array other) (eqb element.index place) k in
        let guid : array ≡ other = sym (same_bytes element.array array one.0) ∙ same_bytes element.array other two.0 in
        let at : index ≡ place = sym (eqb-true element.index index one.1) ∙ eqb-true element.index place two.1 in
        let first : bytes_eq array other ≡ true = sym (ap (λ (x : List ℕ). bytes_eq array x) guid) ∙ bytes_same array in
        let second : eqb index place ≡ true = eq-eqb index place at in
        rw (first, second) refl

notes_no_spare : (slot : RecordSlot) → is_notes_slot slot ≡ true → is_some (spare_of slot) ≡ false
notes_no_spare (slots.Notes notes) h = refl
notes_no_spare (slots.Element element) h = absurd (false≢true h)
notes_no_spare (slots.Copied element) h = absurd (false≢true h)
notes_no_spare (slots.Spare spare) h = absurd (false≢true h)
notes_no_spare (slots.Vendor guid rest) h = absurd (false≢true h)
notes_no_spare (slots.Unread fault kept) h = absurd (false≢true h)
notes_no_spare (slots.Unused kept) h = absurd (false≢true h)

notes_no_element : (slot : RecordSlot) → is_notes_slot slot ≡ true → element_of slot ≡ None
notes_no_element (slots.Notes notes) h = refl
notes_no_element (slots.Element element) h = absurd (false≢true h)
notes_no_element (slots.Copied element) h = absurd (false≢true h)
notes_no_element (slots.Spare spare) h = absurd (false≢true h)
notes_no_element (slots.Vendor guid rest) h = absurd (false≢true h)
notes_no_element (slots.Unread fault kept) h = absurd (false≢true h)
notes_no_element (slots.Unused kept) h = absurd (false≢true h)

spare_no_element : (slot : RecordSlot) → is_some (spare_of slot) ≡ true → element_of slot ≡ None
spare_no_element (slots.Spare spare) h = refl
spare_no_element (slots.Notes notes) h = absurd (false≢true h)
spare_no_element (slots.Element element) h = absurd (false≢true h)
spare_no_element (slots.Copied element) h = absurd (false≢true h)
spare_no_element (slots.Vendor guid rest) h = absurd (false≢true h)
spare_no_element (slots.Unread fault kept) h = absurd (false≢true h)
spare_no_element (slots.Unused kept) h = absurd (false≢true h)

pub no_slot : (array : List ℕ) (index : ℕ) (slot : RecordSlot) → element_of slot ≡ None → is_slot_of array index slot ≡ true → ⊥
no_slot array index slot none h = false≢true (sym (ap (λ o. option_map_or (λ (element : ElementValue). bytes_eq element.array array && eqb element.index index) o false) none) ∙ h)

one_slot : (x y : Item) (slot : RecordSlot) → is_slot_for x slot ≡ true → is_slot_for y slot ≡ true → is_item x y ≡ true
one_slot kinds.Notes kinds.Notes slot h k = refl
one_slot kinds.Notes kinds.Spare slot h k = absurd (false≢true (sym (notes_no_spare slot h) ∙ k))
one_slot kinds.Notes (kinds.Element array index) slot h k = absurd (no_slot array index slot (notes_no_element slot h) k)
one_slot kinds.Spare kinds.Notes slot h k = absurd (false≢true (sym (notes_no_spare slot k) ∙ h))
one_slot kinds.Spare kinds.Spare slot h k = refl
one_slot kinds.Spare (kinds.Element array index) slot h k = absurd (no_slot array index slot (spare_no_element slot h) k)
one_slot (kinds.Element array index) kinds.Notes slot h k = absurd (no_slot array index slot (notes_no_element slot k) h)
one_slot (kinds.Element array index) kinds.Spare slot h k = absurd (no_slot array index slot (spare_no_element slot k) h)
one_slot (kinds.Element array index) (kinds.Element other place) slot h k = one_key array other index place slot h k

pub own_slots : (group : List ℕ) (sequence : ℕ) (all : List RecordSlot) (x y : Item) (i : ℕ) → slot_of group sequence all x ≡ Some i → slot_of group sequence all y ≡ Some i → is_item x y ≡ true
own_slots group sequence all x y i h k =
    let one = stands_in group sequence all x i h in
    let two = stands_in group sequence all y i k in
    let got : Some one.record_there ≡ Some two.record_there = sym one.at ∙ two.at in
    let same : one.record_there ≡ two.record_there = cc in
    one_slot x y two.record_there (sym (ap (is_slot_for x) same) ∙ one.is) two.is
