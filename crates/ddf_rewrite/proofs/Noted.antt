-- The notes of records in views of copies that can be written.
use Rattle.std.proofs.Common.{◌≡◌, ℕ, zero, suc, ◌+◌, Bool, true, false, List, [], ◌∷◌, length, map, Option, Some, None, refl, ap, sym, ◌∙◌, subst, arith}
use Rattle.std.proofs.lemmas.Bool.{false≢true}
use Rattle.std.proofs.lemmas.List.Folds.{find-append}
use Rattle.std.specs.Prelude.{slice_get, is_some, option_map}
use Rattle.std.specs.Option.{option_and_then, option_or}
use Rattle.std.specs.List.{AllByRecursion, cons_option}
use Rattle.ddf_config_records.specs.ElementValue.{ElementValue}
use Rattle.ddf_config_records.specs.declared.notes.Notes.{Notes}
use Rattle.ddf_config_records.specs.declared.notes.SlotNote.{SlotNote}
use Rattle.ddf_config_records.specs.declared.slot.RecordSlot.{RecordSlot}
use Rattle.ddf_copy.specs.declared.copy.DiskCopy.{DiskCopy}
use Rattle.ddf_copy.specs.Written.{CanBeCopy}
use Rattle.ddf_view.specs.Reading.{elements_in}
use Rattle.ddf_view.specs.View.{HeldRecord, View, element_of, find_held, find_note, held_from, is_element, notes_of, view_of}
use Rattle.ddf_view.proofs.Views.{note-append}
use Rattle.ddf_rewrite.proofs.Made.{notes_each}
use Rattle.ddf_rewrite.proofs.ReadCan.{copy_notes}

-- ---- one view

-- The first note of an element is that of its first record.
abbrev pub NotesFirst : View → Type 0
NotesFirst view = (array : List ℕ) (index : ℕ) → find_note array index view.elements ≡ option_and_then (λ held. held.note) (find_held array index view.elements)

-- where each record has a note
all_noted : (array : List ℕ) (index : ℕ) (elements : List HeldRecord) → AllByRecursion (λ held. is_some held.note ≡ true) elements → find_note array index elements ≡ option_and_then (λ held. held.note) (find_held array index elements)
all_noted array index [] all = refl
all_noted array index (held ∷ elements) all = go (all_noted array index elements all.1) (is_element array index held) refl held.note refl all.0
  where
    go : find_note array index elements ≡ option_and_then (λ one. one.note) (find_held array index elements) → (b : Bool) → is_element array index held ≡ b → (o : Option SlotNote) → held.note ≡ o → is_some o ≡ true
        → find_note array index (held ∷ elements) ≡ option_and_then (λ one. one.note) (find_held array index (held ∷ elements))
    go later true e None f some = absurd (false≢true some)
    go later true e (Some given) f some = rw (e, f) refl
    go later false e o f some = rw e later

-- where none has
none_noted : (array : List ℕ) (index : ℕ) (elements : List HeldRecord) → AllByRecursion (λ held. held.note ≡ None) elements → (find_note array index elements ≡ None) × (option_and_then (λ held. held.note) (find_held array index elements) ≡ None)
none_noted array index [] all = (refl, refl)
none_noted array index (held ∷ elements) all = go (none_noted array index elements all.1) (is_element array index held) refl
  where
    go : (find_note array index elements ≡ None) × (option_and_then (λ one. one.note) (find_held array index elements) ≡ None) → (b : Bool) → is_element array index held ≡ b
        → (find_note array index (held ∷ elements) ≡ None) × (option_and_then (λ one. one.note) (find_held array index (held ∷ elements)) ≡ None)
    go later true e = let none = all.0 in (rw (e, none) later.0, rw (e, none) refl)
    go later false e = (rw e later.0, rw e later.1)

-- without valid notes none has
no_notes : (at : ℕ) (all : List RecordSlot) → AllByRecursion (λ held. held.note ≡ None) (held_from None at all)
no_notes at [] = tt
no_notes at (slot ∷ all) = go (no_notes (at + 1) all) (element_of slot)
  where
    go : AllByRecursion (λ held. held.note ≡ None) (held_from None (at + 1) all) → (o : Option ElementValue)
        → AllByRecursion (λ held. held.note ≡ None) (cons_option (option_map (λ (element : ElementValue). record { element = element; note = None }) o) (held_from None (at + 1) all))
    go rest None = rest
    go rest (Some element) = (refl, rest)

-- Where there are valid notes each record has one, and else none has.
pub notes_first : (copy : DiskCopy) → CanBeCopy copy → NotesFirst (view_of copy)
unfolding view_of
notes_first copy is array index = go (notes_of copy) refl
  where
    go : (o : Option Notes) → notes_of copy ≡ o → find_note array index (held_from (notes_of copy) 0 copy.slots) ≡ option_and_then (λ held. held.note) (find_held array index (held_from (notes_of copy) 0 copy.slots))
    go None e =
        let none = none_noted array index (held_from None 0 copy.slots) (no_notes 0 copy.slots) in
        subst (λ (o : Option Notes). find_note array index (held_from o 0 copy.slots) ≡ option_and_then (λ (held : HeldRecord). held.note) (find_held array index (held_from o 0 copy.slots))) (sym e) (none.0 ∙ sym none.1)
    go (Some notes) e =
        let count = copy_notes (λ (m : Notes). length m.slots ≡ length copy.slots) copy notes is (λ m can. can.counted) e in
        subst (λ (o : Option Notes). find_note array index (held_from o 0 copy.slots) ≡ option_and_then (λ (held : HeldRecord). held.note) (find_held array index (held_from o 0 copy.slots))) (sym e)
        (all_noted array index (held_from (Some notes) 0 copy.slots) (notes_each notes 0 copy.slots (omega (arith, count))))

-- so it is in each view
pub all_notes_first : (copies : List DiskCopy) → AllByRecursion CanBeCopy copies → AllByRecursion NotesFirst (map view_of copies)
all_notes_first [] all = tt
all_notes_first (copy ∷ copies) all = (notes_first copy all.0, all_notes_first copies all.1)

-- ---- several views

-- what is found among all is found in one
pub found_in : (array : List ℕ) (index : ℕ) (views : List View) (held : HeldRecord) → find_held array index (elements_in views) ≡ Some held
    → (m : ℕ) × (view : View) × (slice_get views m ≡ Some view) × (find_held array index view.elements ≡ Some held)
found_in array index [] held h = absurd cc
found_in array index (view ∷ views) held h = go (found_in array index views held) (find_held array index view.elements) refl (sym (find-append (is_element array index) view.elements (elements_in views)) ∙ h)
  where
    go : (find_held array index (elements_in views) ≡ Some held → (m : ℕ) × (one : View) × (slice_get views m ≡ Some one) × (find_held array index one.elements ≡ Some held)) → (o : Option HeldRecord) → find_held array index view.elements ≡ o
        → option_or (find_held array index view.elements) (find_held array index (elements_in views)) ≡ Some held
        → (m : ℕ) × (one : View) × (slice_get (view ∷ views) m ≡ Some one) × (find_held array index one.elements ≡ Some held)
    go later None e h = let rest = later (rw e at h) in (suc rest.0, rest.1, rest.2, rest.3)
    go later (Some found) e h = let got : Some found ≡ Some held = rw e at h in (0, view, refl, e ∙ got)

-- a record in a view that has a note
pub record HasNote (array : List ℕ) (index : ℕ) (views : List View) (given : SlotNote) : Type 0 where
  pub m : ℕ
  pub view : View
  pub at : slice_get views m ≡ Some view
  pub held : HeldRecord
  pub found : find_held array index view.elements ≡ Some held
  pub has : held.note ≡ Some given

-- a record that gives a note
with_note : (o : Option HeldRecord) (given : SlotNote) → option_and_then (λ held. held.note) o ≡ Some given → (held : HeldRecord) × (o ≡ Some held) × (held.note ≡ Some given)
with_note None given h = absurd cc
with_note (Some held) given h = (held, refl, h)

-- the note that is found among all is that of the record that is found in one
pub noted_in : (array : List ℕ) (index : ℕ) (views : List View) (given : SlotNote) → AllByRecursion NotesFirst views → find_note array index (elements_in views) ≡ Some given → HasNote array index views given
noted_in array index [] given all h = absurd cc
noted_in array index (view ∷ views) given all h = go (noted_in array index views given all.1) (find_note array index view.elements) refl (sym (note-append array index view.elements (elements_in views)) ∙ h)
  where
    go : (find_note array index (elements_in views) ≡ Some given → HasNote array index views given) → (o : Option SlotNote) → find_note array index view.elements ≡ o
        → option_or (find_note array index view.elements) (find_note array index (elements_in views)) ≡ Some given → HasNote array index (view ∷ views) given
    go later None e h = let rest = later (rw e at h) in record { m = suc rest.m; view = rest.view; at = rest.at; held = rest.held; found = rest.found; has = rest.has }
    go later (Some first) e h =
        let got : Some first ≡ Some given = rw e at h in
        let from = with_note (find_held array index view.elements) given (sym (all.0 array index) ∙ e ∙ got) in
        record { m = 0; view = view; at = refl; held = from.0; found = from.1; has = from.2 }

-- Where a view has a note of an element one is found.
pub some_noted : (array : List ℕ) (index : ℕ) (views : List View) (k : ℕ) (one : View) (held : HeldRecord) (given : SlotNote) → AllByRecursion NotesFirst views → slice_get views k ≡ Some one → find_held array index one.elements ≡ Some held
    → held.note ≡ Some given → (first : SlotNote) × (find_note array index (elements_in views) ≡ Some first)
some_noted array index [] k one held given all at found has = absurd cc
some_noted array index (view ∷ views) zero one held given all at found has =
    let same : view ≡ one = cc in
    let here : find_note array index view.elements ≡ Some given =
    all.0 array index ∙ ap (λ (v : View). option_and_then (λ (x : HeldRecord). x.note) (find_held array index v.elements)) same ∙ ap (option_and_then (λ (x : HeldRecord). x.note)) found ∙ has in
    (given, note-append array index view.elements (elements_in views) ∙ ap (λ o. option_or o (find_note array index (elements_in views))) here)
some_noted array index (view ∷ views) (suc k) one held given all at found has = go (find_note array index view.elements) refl (some_noted array index views k one held given all.1 at found has)
  where
    go : (o : Option SlotNote) → find_note array index view.elements ≡ o → (first : SlotNote) × (find_note array index (elements_in views) ≡ Some first) → (first : SlotNote) × (find_note array index (elements_in (view ∷ views)) ≡ Some first)
    go (Some here) e later = (here, note-append array index view.elements (elements_in views) ∙ ap (λ o. option_or o (find_note array index (elements_in views))) e)
    go None e later = (later.0, note-append array index view.elements (elements_in views) ∙ ap (λ o. option_or o (find_note array index (elements_in views))) e ∙ later.1)
