-- What is held in views, one after another.
use Rattle.std.proofs.Common.{◌≡◌, ℕ, suc, ◌+◌, ◌-◌, ◌<◌, List, [], ◌∷◌, ◌++◌, Option, Some, None, refl, ap, sym, ◌∙◌, map, filter_map, option_map, arith}
use Rattle.std.specs.List.{cons_option, range_with_len}
use Rattle.std.proofs.lemmas.List.Folds.{find-append}
use Rattle.std.specs.Option.{option_or}
use Rattle.ddf_bytes.specs.Choices.{first_of}
use Rattle.ddf_view.specs.View.{View, HeldRecord, element_of, held_from, key_of_slot, note_at, is_element, find_held, find_note, note_of}
use Rattle.ddf_view.specs.Differ.{key_of}
use Rattle.ddf_config_records.specs.ElementValue.{ElementValue}
use Rattle.ddf_config_records.specs.declared.notes.Notes.{Notes}
use Rattle.ddf_config_records.specs.declared.slot.RecordSlot.{RecordSlot}
use Rattle.ddf_view.specs.Reading.{elements_in}

pub held_views : (array : List ℕ) (index : ℕ) (view : View) (views : List View)
    → find_held array index (elements_in (view ∷ views)) ≡ option_or (find_held array index view.elements) (find_held array index (elements_in views))
held_views array index view views = find-append (is_element array index) view.elements (elements_in views)

or_or : {X : Type 0} (a b c : Option X) → option_or a (option_or b c) ≡ option_or (option_or a b) c
or_or None b c = refl
or_or (Some x) b c = refl

pub note-append : (array : List ℕ) (index : ℕ) (xs ys : List HeldRecord) → find_note array index (xs ++ ys) ≡ option_or (find_note array index xs) (find_note array index ys)
note-append array index [] ys = refl
note-append array index (x ∷ xs) ys =
    ap (λ o. option_or (note_of array index x) o) (note-append array index xs ys)
    ∙ or_or (note_of array index x) (find_note array index xs) (find_note array index ys)

pub note_views : (array : List ℕ) (index : ℕ) (view : View) (views : List View)
    → find_note array index (elements_in (view ∷ views)) ≡ option_or (find_note array index view.elements) (find_note array index (elements_in views))
note_views array index view views = note-append array index view.elements (elements_in views)

-- a search by rising numbers goes on where nothing is found
pub goes_on : {X : Type 0} (f : ℕ → Option X) (n i : ℕ) → i < n → f i ≡ None → first_of (map f (range_with_len (i + 1) (n - (i + 1)))) ≡ first_of (map f (range_with_len i (n - i)))
goes_on f n i below none =
    let rest : n - i ≡ suc (n - (i + 1)) = omega arith in
    rw rest (sym (ap (λ o. option_or o (first_of (map f (range_with_len (i + 1) (n - (i + 1)))))) none))

-- and ends where something is
pub ends_here : {X : Type 0} (f : ℕ → Option X) (n i : ℕ) (x : X) → i < n → f i ≡ Some x → first_of (map f (range_with_len i (n - i))) ≡ Some x
ends_here f n i x below is =
    let rest : n - i ≡ suc (n - (i + 1)) = omega arith in
    rw rest (ap (λ o. option_or o (first_of (map f (range_with_len (i + 1) (n - (i + 1)))))) is)

-- the keys of the slots are those of the records that count
pub slot_keys : (notes : Option Notes) (place : ℕ) (slots : List RecordSlot) → filter_map key_of_slot slots ≡ map key_of (held_from notes place slots)
slot_keys notes place [] = refl
slot_keys notes place (slot ∷ slots) = ap (cons_option (key_of_slot slot)) (slot_keys notes (place + 1) slots) ∙ go (element_of slot)
  where
    go : (o : Option ElementValue) → cons_option (option_map (λ element. (element.array, element.index)) o) (map key_of (held_from notes (place + 1) slots))
        ≡ map key_of (cons_option (option_map (λ element. record { element = element; note = note_at notes place }) o) (held_from notes (place + 1) slots))
    go None = refl
    go (Some element) = refl
