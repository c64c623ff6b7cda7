-- What a copy that was rewritten says of its records.
use Rattle.std.proofs.Common.{◌≡◌, ◌≢◌, ℕ, zero, suc, ◌+◌, ◌<◌, Bool, true, false, ◌&&◌, cond, eqb, List, [], ◌∷◌, ◌++◌, length, map, Option, Some, None, refl, ap, sym, ◌∙◌, arith}
use Rattle.std.proofs.lemmas.Bool.{and_parts, eqb-true, eq-eqb, false≢true, false_from_ne_true}
use Rattle.std.specs.Prelude.{slice_get}
use Rattle.std.specs.Option.{option_or, option_map_or}
use Rattle.std.specs.List.{enumerate_from, range_with_len}
use Rattle.std.specs.Str.{bytes_eq}
use Rattle.ddf_lemmas.proofs.Lists.{bytes_same, found_place, in_map, in_second, mapped_at, some_at_place}
use Rattle.ddf_bytes.specs.Choices.{first_of}
use Rattle.ddf_header.specs.declared.geometry.Geometry.{Geometry}
use Rattle.ddf_config_records.specs.ElementValue.{ElementValue}
use Rattle.ddf_config_records.specs.declared.notes.Notes.{Notes}
use Rattle.ddf_config_records.specs.declared.notes.SlotNote.{SlotNote}
use Rattle.ddf_config_records.specs.declared.spare.SpareRecord.{SpareRecord}
use Rattle.ddf_config_records.specs.declared.slot.RecordSlot.{RecordSlot}
use Rattle.ddf_config_records.specs.declared.slot.RecordSlot.TheVariants as slots
use Rattle.ddf_config_records.specs.Slots.{valid_of, valid_notes}
use Rattle.ddf_config.specs.Configuration.{Configuration}
use Rattle.ddf_config.specs.Members.{is_spare}
use Rattle.ddf_config.specs.declared.member.SpareUse.{SpareUse}
use Rattle.ddf_view.specs.View.{element_of, find_held, held_from, note_at}
use Rattle.ddf_view.proofs.Tests.{same_bytes}
use Rattle.ddf_rewrite.specs.Copies.{element_item, element_slot, items_of, left_slot, one_if, record_of, slot_after, unused_slot}
use Rattle.ddf_rewrite.specs.Notes.{Holding, find_holding, no_note, note_for, note_of, notes_after}
use Rattle.ddf_rewrite.specs.Placement.{is_slot_of, item_at}
use Rattle.ddf_rewrite.specs.declared.item.Item.TheVariants as kinds
use Rattle.ddf_rewrite.specs.declared.item.Item.{Item}
use Rattle.ddf_rewrite.specs.declared.item.Slotted.{Slotted}
use Rattle.ddf_rewrite.proofs.InPlace.{AreInPlace}
use Rattle.ddf_rewrite.proofs.Lists.{get_enumerated, get_range}
use Rattle.ddf_rewrite.proofs.Placing.{no_slot}

-- ---- lists of slots

-- the record of an element is found in the one slot that holds it
held_found : (array : List ℕ) (index : ℕ) (notes : Option Notes) (n : ℕ) (all : List RecordSlot) (k : ℕ) (slot : RecordSlot) (element : ElementValue) → slice_get all k ≡ Some slot → element_of slot ≡ Some element
    → is_slot_of array index slot ≡ true → ((j : ℕ) (other : RecordSlot) → j < k → slice_get all j ≡ Some other → is_slot_of array index other ≡ false)
    → find_held array index (held_from notes n all) ≡ Some (record { element = element; note = note_at notes (n + k) })
held_found array index notes n [] k slot element at is key before = absurd cc
held_found array index notes n (first ∷ all) zero slot element at is key before =
    let same : first ≡ slot = cc in
    let here : n + 0 ≡ n = omega arith in
    let of_first : element_of first ≡ Some element = ap element_of same ∙ is in
    let yes : (bytes_eq element.array array && eqb element.index index) ≡ true = sym (ap (λ o. option_map_or (λ (e : ElementValue). bytes_eq e.array array && eqb e.index index) o false) is) ∙ key in
    rw (of_first, yes, here) refl
held_found array index notes n (first ∷ all) (suc k) slot element at is key before =
    let none = before 0 first (omega arith) refl in
    let rest = held_found array index notes (n + 1) all k slot element at is key (λ j other lt there. before (suc j) other (omega (arith, lt)) there) in
    let there : n + 1 + k ≡ n + suc k = omega arith in
    skip (element_of first) refl ∙ rest ∙ ap (λ (m : ℕ). Some (record { element = element; note = note_at notes m })) there
  where
    skip : (o : Option ElementValue) → element_of first ≡ o → find_held array index (held_from notes n (first ∷ all)) ≡ find_held array index (held_from notes (n + 1) all)
    skip None e = rw e refl
    skip (Some other) e =
        let apart : (bytes_eq other.array array && eqb other.index index) ≡ false = sym (ap (λ o. option_map_or (λ (x : ElementValue). bytes_eq x.array array && eqb x.index index) o false) e) ∙ before 0 first (omega arith) refl in
        rw (e, apart) refl

held_none : (array : List ℕ) (index : ℕ) (notes : Option Notes) (n : ℕ) (all : List RecordSlot) → ((j : ℕ) (other : RecordSlot) → slice_get all j ≡ Some other → is_slot_of array index other ≡ false)
    → find_held array index (held_from notes n all) ≡ None
held_none array index notes n [] none = refl
held_none array index notes n (first ∷ all) none = skip (element_of first) refl ∙ held_none array index notes (n + 1) all (λ j other there. none (suc j) other there)
  where
    skip : (o : Option ElementValue) → element_of first ≡ o → find_held array index (held_from notes n (first ∷ all)) ≡ find_held array index (held_from notes (n + 1) all)
    skip None e = rw e refl
    skip (Some other) e =
        let apart : (bytes_eq other.array array && eqb other.index index) ≡ false = sym (ap (λ o. option_map_or (λ (x : ElementValue). bytes_eq x.array array && eqb x.index index) o false) e) ∙ none 0 first refl in
        rw (e, apart) refl

first_there : {X Y : Type 0} (f : X → Option Y) (xs : List X) (k : ℕ) (x : X) (y : Y) → slice_get xs k ≡ Some x → f x ≡ Some y → ((j : ℕ) (z : X) → j < k → slice_get xs j ≡ Some z → f z ≡ None) → first_of (map f xs) ≡ Some y
first_there f [] k x y at is before = absurd cc
first_there f (z ∷ xs) zero x y at is before = let same : z ≡ x = cc in ap (λ o. option_or o (first_of (map f xs))) (ap f same ∙ is)
first_there f (z ∷ xs) (suc k) x y at is before =
    ap (λ o. option_or o (first_of (map f xs))) (before 0 z (omega arith) refl) ∙ first_there f xs k x y at is (λ j w lt there. before (suc j) w (omega (arith, lt)) there)

none_first_of : {X Y : Type 0} (f : X → Option Y) (xs : List X) → ((i : ℕ) (x : X) → slice_get xs i ≡ Some x → f x ≡ None) → first_of (map f xs) ≡ None
none_first_of f [] h = refl
none_first_of f (x ∷ xs) h = ap (λ o. option_or o (first_of (map f xs))) (h 0 x refl) ∙ none_first_of f xs (λ i y at. h (suc i) y at)

-- ---- what stands in the slots

-- what is placed, and what was there
abbrev pub made_slots : Geometry → List Holding → Notes → SpareRecord → List Slotted → List RecordSlot → List RecordSlot
made_slots geometry holdings notes spare placed all = map (slot_after geometry holdings notes spare placed) (enumerate_from 0 all)

placed_slot : (geometry : Geometry) (holdings : List Holding) (notes : Notes) (spare : SpareRecord) (placed : List Slotted) (all : List RecordSlot) (k : ℕ) → k < length all
    → (slot : RecordSlot) × (slice_get (made_slots geometry holdings notes spare placed all) k ≡ Some (option_map_or (record_of geometry holdings notes spare) (item_at placed k) (left_slot geometry slot)))
placed_slot geometry holdings notes spare placed all k lt =
    let there = some_at_place all k lt in
    let at = get_enumerated 0 all k there.0 there.1 in
    let here : at.0 ≡ k = at.1 ∙ omega arith in (
      there.0,
      mapped_at (slot_after geometry holdings notes spare placed) (enumerate_from 0 all) k (at.0, there.0) at.2
          ∙ ap (λ (n : ℕ). Some (option_map_or (record_of geometry holdings notes spare) (item_at placed n) (left_slot geometry there.0))) here,
    )

pub slot_placed : (geometry : Geometry) (holdings : List Holding) (notes : Notes) (spare : SpareRecord) (placed : List Slotted) (all : List RecordSlot) (k : ℕ) (slot : RecordSlot) → slice_get (made_slots geometry holdings notes spare placed all) k ≡ Some slot
    → (old : RecordSlot) × (slot ≡ option_map_or (record_of geometry holdings notes spare) (item_at placed k) (left_slot geometry old))
slot_placed geometry holdings notes spare placed all k slot h =
    let from = in_map (slot_after geometry holdings notes spare placed) (enumerate_from 0 all) k slot h in
    let lt = enumerated_within 0 all k from.0 from.1 in
    let is = placed_slot geometry holdings notes spare placed all k lt in
    let got : Some slot ≡ Some (option_map_or (record_of geometry holdings notes spare) (item_at placed k) (left_slot geometry is.0)) = sym h ∙ is.1 in
    let same : slot ≡ option_map_or (record_of geometry holdings notes spare) (item_at placed k) (left_slot geometry is.0) = cc in
    (is.0, same)
  where
    enumerated_within : {X : Type 0} (n : ℕ) (xs : List X) (k : ℕ) (pair : ℕ × X) → slice_get (enumerate_from n xs) k ≡ Some pair → k < length xs
    enumerated_within n [] k pair h = absurd cc
    enumerated_within n (x ∷ xs) zero pair h = omega arith
    enumerated_within n (x ∷ xs) (suc k) pair h = let rest = enumerated_within (n + 1) xs k pair h in omega (arith, rest)

-- what is left is neither an element's record nor notes
left_no_element : (geometry : Geometry) (slot : RecordSlot) → element_of (left_slot geometry slot) ≡ None
left_no_element geometry (slots.Element element) = refl
left_no_element geometry (slots.Copied element) = refl
left_no_element geometry (slots.Spare spare) = refl
left_no_element geometry (slots.Notes notes) = refl
left_no_element geometry (slots.Vendor guid rest) = refl
left_no_element geometry (slots.Unread fault kept) = refl
left_no_element geometry (slots.Unused kept) = refl

pub left_no_notes : (geometry : Geometry) (group : List ℕ) (sequence : ℕ) (slot : RecordSlot) → valid_of group sequence (left_slot geometry slot) ≡ None
left_no_notes geometry group sequence (slots.Element element) = refl
left_no_notes geometry group sequence (slots.Copied element) = refl
left_no_notes geometry group sequence (slots.Spare spare) = refl
left_no_notes geometry group sequence (slots.Notes notes) = refl
left_no_notes geometry group sequence (slots.Vendor guid rest) = refl
left_no_notes geometry group sequence (slots.Unread fault kept) = refl
left_no_notes geometry group sequence (slots.Unused kept) = refl

pub element_in_slot : (holding : Holding) → element_of (element_slot holding) ≡ Some holding.element
element_in_slot holding = go holding.copied
  where
    go : (b : Bool) → element_of (cond b (slots.Copied holding.element) (slots.Element holding.element)) ≡ Some holding.element
    go true = refl
    go false = refl

no_notes_in_slot : (group : List ℕ) (sequence : ℕ) (holding : Holding) → valid_of group sequence (element_slot holding) ≡ None
no_notes_in_slot group sequence holding = go holding.copied
  where
    go : (b : Bool) → valid_of group sequence (cond b (slots.Copied holding.element) (slots.Element holding.element)) ≡ None
    go true = refl
    go false = refl

-- ---- the records of the holdings

-- Each holding has the record of its element, and is the first of its element.
pub record AreOwn (holdings : List Holding) : Type 0 where
  pub array_is : (n : ℕ) (holding : Holding) → slice_get holdings n ≡ Some holding → holding.element.array ≡ holding.wanted.guid
  pub index_is : (n : ℕ) (holding : Holding) → slice_get holdings n ≡ Some holding → holding.element.index ≡ holding.wanted.index
  pub first_is : (n : ℕ) (holding : Holding) → slice_get holdings n ≡ Some holding → find_holding holding.wanted.guid holding.wanted.index holdings ≡ Some holding

key_in_slot : (array : List ℕ) (index : ℕ) (slot : RecordSlot) (element : ElementValue) → element_of slot ≡ Some element → is_slot_of array index slot ≡ (bytes_eq element.array array && eqb element.index index)
key_in_slot array index slot element is = ap (λ o. option_map_or (λ (e : ElementValue). bytes_eq e.array array && eqb e.index index) o false) is

-- a record of an element stands where that element is placed
placed_key : (geometry : Geometry) (holdings : List Holding) (notes : Notes) (spare : SpareRecord) (old : RecordSlot) → AreOwn holdings
    → (array : List ℕ) (index : ℕ) (o : Option Item) → is_slot_of array index (option_map_or (record_of geometry holdings notes spare) o (left_slot geometry old)) ≡ true → o ≡ Some (kinds.Element array index)
placed_key geometry holdings notes spare old own array index None h = absurd (no_slot array index (left_slot geometry old) (left_no_element geometry old) h)
placed_key geometry holdings notes spare old own array index (Some kinds.Notes) h = absurd (false≢true h)
placed_key geometry holdings notes spare old own array index (Some kinds.Spare) h = absurd (false≢true h)
placed_key geometry holdings notes spare old own array index (Some (kinds.Element other place)) h = go (find_holding other place holdings) refl h
  where
    go : (o : Option Holding) → find_holding other place holdings ≡ o → is_slot_of array index (option_map_or element_slot o (unused_slot geometry)) ≡ true → Some (kinds.Element other place) ≡ Some (kinds.Element array index)
    go None e h = absurd (false≢true h)
    go (Some holding) e h =
        let found = found_place (λ one. bytes_eq one.wanted.guid other && eqb one.wanted.index place) holdings holding e in
        let key = and_parts (bytes_eq holding.wanted.guid other) (eqb holding.wanted.index place) found.2 in
        let both : (bytes_eq holding.element.array array && eqb holding.element.index index) ≡ true = sym (key_in_slot array index (element_slot holding) holding.element (element_in_slot holding)) ∙ h in
        let parts = and_parts (bytes_eq holding.element.array array) (eqb holding.element.index index) both in
        let guid : other ≡ array = sym (same_bytes holding.wanted.guid other key.0) ∙ sym (own.array_is found.0 holding found.1) ∙ same_bytes holding.element.array array parts.0 in
        let at : place ≡ index = sym (eqb-true holding.wanted.index place key.1) ∙ sym (own.index_is found.0 holding found.1) ∙ eqb-true holding.element.index index parts.1 in
        rw (guid, at) refl

-- notes stand where they are placed
pub placed_notes : (geometry : Geometry) (holdings : List Holding) (notes : Notes) (spare : SpareRecord) (old : RecordSlot) (group : List ℕ) (sequence : ℕ)
    → (o : Option Item) → (o ≡ Some kinds.Notes → ⊥) → valid_of group sequence (option_map_or (record_of geometry holdings notes spare) o (left_slot geometry old)) ≡ None
placed_notes geometry holdings notes spare old group sequence None away = left_no_notes geometry group sequence old
placed_notes geometry holdings notes spare old group sequence (Some kinds.Notes) away = absurd (away refl)
placed_notes geometry holdings notes spare old group sequence (Some kinds.Spare) away = refl
placed_notes geometry holdings notes spare old group sequence (Some (kinds.Element other place)) away = go (find_holding other place holdings)
  where
    go : (o : Option Holding) → valid_of group sequence (option_map_or element_slot o (unused_slot geometry)) ≡ None
    go None = refl
    go (Some holding) = no_notes_in_slot group sequence holding

-- ---- the notes

pub note_is : (config : Configuration) (holdings : List Holding) (placed : List Slotted) (count k : ℕ) → k < count → slice_get (notes_after config holdings placed count).slots k ≡ Some (note_for holdings (item_at placed k))
unfolding notes_after
note_is config holdings placed count k lt =
    let at = get_range 0 count k lt in
    let here : at.0 ≡ k = at.1 ∙ omega arith in
    mapped_at (λ slot. note_for holdings (item_at placed slot)) (range_with_len 0 count) k at.0 at.2 ∙ ap (λ (n : ℕ). Some (note_for holdings (item_at placed n))) here

abbrev item_for : Holding → Item
item_for holding = kinds.Element holding.wanted.guid holding.wanted.index

holding_item : (noted : Bool) (use_as : SpareUse) (holdings : List Holding) (n : ℕ) (holding : Holding) → slice_get holdings n ≡ Some holding → (i : ℕ) × (slice_get (items_of noted use_as holdings) i ≡ Some (item_for holding))
holding_item noted use_as holdings n holding h =
    let one = mapped_at item_for holdings n holding h in
    in_second (one_if noted kinds.Notes ++ one_if (is_spare use_as) kinds.Spare) (map item_for holdings) n (item_for holding) one

-- ---- what the copy says

-- the notes that count, and what is noted of a holding, where there are notes
abbrev pub notes_if : (noted : Bool) → Notes → Option Notes
notes_if true notes = Some notes
notes_if false notes = None

abbrev pub note_if : (noted : Bool) → Holding → Option SlotNote
note_if true holding = Some (note_of holding.copied holding.wanted.plan)
note_if false holding = None

holding_note : (noted : Bool) (config : Configuration) (holdings : List Holding) (placed : List Slotted) (count k : ℕ) (holding : Holding) → k < count → item_at placed k ≡ Some (item_for holding)
    → find_holding holding.wanted.guid holding.wanted.index holdings ≡ Some holding → note_at (notes_if noted (notes_after config holdings placed count)) k ≡ note_if noted holding
holding_note false config holdings placed count k holding lt at found = refl
holding_note true config holdings placed count k holding lt at found =
    note_is config holdings placed count k lt ∙ ap (λ o. Some (note_for holdings o)) at ∙ ap (λ o. Some (option_map_or (λ (one : Holding). note_of one.copied one.wanted.plan) o no_note)) found

-- each holding is found, with its note where there are notes
pub held_after : (geometry : Geometry) (config : Configuration) (holdings : List Holding) (spare : SpareRecord) (use_as : SpareUse) (noted : Bool) (all : List RecordSlot) (placed : List Slotted)
    → AreInPlace all (items_of noted use_as holdings) placed → AreOwn holdings → (n : ℕ) (holding : Holding) → slice_get holdings n ≡ Some holding
    → find_held holding.wanted.guid holding.wanted.index
    (held_from (notes_if noted (notes_after config holdings placed (length all))) 0 (made_slots geometry holdings (notes_after config holdings placed (length all)) spare placed all))
    ≡ Some (record { element = holding.element; note = note_if noted holding })
held_after geometry config holdings spare use_as noted all placed in_place own n holding at =
    let notes = notes_after config holdings placed (length all) in
    let array = holding.wanted.guid in
    let index = holding.wanted.index in
    let place = holding_item noted use_as holdings n holding at in
    let there = in_place.each place.0 (item_for holding) place.1 in
    let k = there.0 in
    let slot = placed_slot geometry holdings notes spare placed all k there.1 in
    let is : option_map_or (record_of geometry holdings notes spare) (item_at placed k) (left_slot geometry slot.0) ≡ element_slot holding =
    ap (λ o. option_map_or (record_of geometry holdings notes spare) o (left_slot geometry slot.0)) there.2 ∙ ap (λ o. option_map_or element_slot o (unused_slot geometry)) (own.first_is n holding at) in
    let stands : slice_get (made_slots geometry holdings notes spare placed all) k ≡ Some (element_slot holding) = slot.1 ∙ ap (λ (s : RecordSlot). Some s) is in
    let guid : bytes_eq holding.element.array array ≡ true = ap (λ (x : List ℕ). bytes_eq x array) (own.array_is n holding at) ∙ bytes_same array in
    let which : eqb holding.element.index index ≡ true = eq-eqb holding.element.index index (own.index_is n holding at) in
    let key : is_slot_of array index (element_slot holding) ≡ true = key_in_slot array index (element_slot holding) holding.element (element_in_slot holding) ∙ rw (guid, which) refl in
    let before = λ (j : ℕ) (other : RecordSlot) (lt : j < k) (h : slice_get (made_slots geometry holdings notes spare placed all) j ≡ Some other).
    false_from_ne_true (is_slot_of array index other) (λ yes.
    let from = slot_placed geometry holdings notes spare placed all j other h in
    let item = placed_key geometry holdings notes spare from.0 own array index (item_at placed j) (sym (ap (is_slot_of array index) from.1) ∙ yes) in
    let same : j ≡ k = in_place.one j k (item_for holding) item there.2 in
    omega (arith, lt, same)) in
    let zero_k : 0 + k ≡ k = omega arith in
    let note : note_at (notes_if noted notes) (0 + k) ≡ note_if noted holding =
    ap (λ (m : ℕ). note_at (notes_if noted notes) m) zero_k ∙ holding_note noted config holdings placed (length all) k holding there.1 there.2 (own.first_is n holding at) in
    held_found array index (notes_if noted notes) 0 (made_slots geometry holdings notes spare placed all) k (element_slot holding) holding.element stands (element_in_slot holding) key before
    ∙ ap (λ o. Some (record { element = holding.element; note = o })) note

-- of another element no record is found
pub none_after : (geometry : Geometry) (config : Configuration) (holdings : List Holding) (notes : Notes) (given : Option Notes) (spare : SpareRecord) (use_as : SpareUse) (noted : Bool) (all : List RecordSlot) (placed : List Slotted)
    → AreInPlace all (items_of noted use_as holdings) placed → AreOwn holdings → (array : List ℕ) (index : ℕ) → ((i : ℕ) → slice_get (items_of noted use_as holdings) i ≢ Some (kinds.Element array index))
    → find_held array index (held_from given 0 (made_slots geometry holdings notes spare placed all)) ≡ None
none_after geometry config holdings notes given spare use_as noted all placed in_place own array index away =
    held_none array index given 0 (made_slots geometry holdings notes spare placed all) (λ j other h.
    false_from_ne_true (is_slot_of array index other) (λ yes.
    let from = slot_placed geometry holdings notes spare placed all j other h in
    let item = placed_key geometry holdings notes spare from.0 own array index (item_at placed j) (sym (ap (is_slot_of array index) from.1) ∙ yes) in
    let there = in_place.among j (kinds.Element array index) item in
    away there.0 there.1))

-- the notes are valid
pub notes_valid : (geometry : Geometry) (config : Configuration) (holdings : List Holding) (spare : SpareRecord) (use_as : SpareUse) (all : List RecordSlot) (placed : List Slotted)
    → AreInPlace all (items_of true use_as holdings) placed
    → valid_notes config.group config.sequence (made_slots geometry holdings (notes_after config holdings placed (length all)) spare placed all) ≡ Some (notes_after config holdings placed (length all))
unfolding notes_after
notes_valid geometry config holdings spare use_as all placed in_place =
    let notes = notes_after config holdings placed (length all) in
    let there = in_place.each 0 kinds.Notes refl in
    let k = there.0 in
    let slot = placed_slot geometry holdings notes spare placed all k there.1 in
    let is : option_map_or (record_of geometry holdings notes spare) (item_at placed k) (left_slot geometry slot.0) ≡ slots.Notes notes =
    ap (λ o. option_map_or (record_of geometry holdings notes spare) o (left_slot geometry slot.0)) there.2 in
    first_there (valid_of config.group config.sequence) (made_slots geometry holdings notes spare placed all) k (slots.Notes notes) notes (slot.1 ∙ ap (λ (s : RecordSlot). Some s) is) valid
    (λ j other lt h.
    let from = slot_placed geometry holdings notes spare placed all j other h in
    ap (valid_of config.group config.sequence) from.1 ∙ placed_notes geometry holdings notes spare from.0 config.group config.sequence (item_at placed j)
    (λ here. let same : j ≡ k = in_place.one j k kinds.Notes here there.2 in omega (arith, lt, same)))
  where
    valid : valid_of config.group config.sequence (slots.Notes (notes_after config holdings placed (length all))) ≡ Some (notes_after config holdings placed (length all))
    valid =
        let one : bytes_eq config.group config.group ≡ true = bytes_same config.group in
        let two : eqb config.sequence config.sequence ≡ true = eq-eqb config.sequence config.sequence refl in
        rw (one, two) refl

-- ---- without notes

-- no item is notes
no_notes : (use_as : SpareUse) (holdings : List Holding) (i : ℕ) → slice_get (items_of false use_as holdings) i ≡ Some kinds.Notes → ⊥
no_notes use_as holdings i h = go (is_spare use_as) i h
  where
    elements : (all : List Holding) (i : ℕ) → slice_get (map element_item all) i ≡ Some kinds.Notes → ⊥
    elements [] i h = absurd cc
    elements (x ∷ all) zero h = absurd cc
    elements (x ∷ all) (suc i) h = elements all i h

    go : (b : Bool) (i : ℕ) → slice_get (one_if b kinds.Spare ++ map element_item holdings) i ≡ Some kinds.Notes → ⊥
    go true zero h = absurd cc
    go true (suc i) h = elements holdings i h
    go false i h = elements holdings i h

pub never_notes : (use_as : SpareUse) (holdings : List Holding) (placed : List Slotted) (all : List RecordSlot) → AreInPlace all (items_of false use_as holdings) placed → (k : ℕ) → item_at placed k ≡ Some kinds.Notes → ⊥
never_notes use_as holdings placed all in_place k h = let there = in_place.among k kinds.Notes h in no_notes use_as holdings there.0 there.1

-- no notes are valid
pub notes_none : (geometry : Geometry) (config : Configuration) (holdings : List Holding) (notes : Notes) (spare : SpareRecord) (use_as : SpareUse) (all : List RecordSlot) (placed : List Slotted)
    → AreInPlace all (items_of false use_as holdings) placed → valid_notes config.group config.sequence (made_slots geometry holdings notes spare placed all) ≡ None
notes_none geometry config holdings notes spare use_as all placed in_place =
    none_first_of (valid_of config.group config.sequence) (made_slots geometry holdings notes spare placed all) (λ j slot h.
    let from = slot_placed geometry holdings notes spare placed all j slot h in
    ap (valid_of config.group config.sequence) from.1 ∙ placed_notes geometry holdings notes spare from.0 config.group config.sequence (item_at placed j) (never_notes use_as holdings placed all in_place j))

-- the notes that count
pub notes_given : (noted : Bool) (geometry : Geometry) (config : Configuration) (holdings : List Holding) (spare : SpareRecord) (use_as : SpareUse) (all : List RecordSlot) (placed : List Slotted)
    → AreInPlace all (items_of noted use_as holdings) placed
    → valid_notes config.group config.sequence (made_slots geometry holdings (notes_after config holdings placed (length all)) spare placed all) ≡ notes_if noted (notes_after config holdings placed (length all))
notes_given true geometry config holdings spare use_as all placed in_place = notes_valid geometry config holdings spare use_as all placed in_place
notes_given false geometry config holdings spare use_as all placed in_place = notes_none geometry config holdings (notes_after config holdings placed (length all)) spare use_as all placed in_place
