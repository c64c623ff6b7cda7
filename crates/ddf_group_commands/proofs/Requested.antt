-- What is asked of a change before it is tried holds of each change that a request gives.
use Rattle.std.proofs.Common.{◌≡◌, ℕ, zero, suc, ◌^◌, ◌<◌, ◌≤◌, Bool, true, false, ◌==◌, List, [], ◌∷◌, ◌++◌, find, length, map, replicate, Option, Some, None, is_some, Result, Ok, Err, refl, subst, if◌then◌else◌, arith}
use Rattle.std.proofs.lemmas.List.{length-append, length-map, length-take}
use Rattle.std.specs.Prelude.{slice_get}
use Rattle.std.specs.List.{AllByRecursion, list_all}
use Rattle.std.specs.Map.{lookup}
use Rattle.std.specs.Option.{option_to_list}
use Rattle.ddf_bytes.specs.declared.stamp.Stamp.{Stamp}
use Rattle.ddf_config.specs.declared.array.Array.{Array}
use Rattle.ddf_config.specs.declared.member.SpareUse.{SpareUse}
use Rattle.ddf_config.specs.declared.member.SpareUse.TheVariants as uses
use Rattle.ddf_config.specs.declared.refusal.Refusal.{Refusal}
use Rattle.ddf_config.specs.declared.refusal.Refusal.TheVariants.{NoArray}
use Rattle.ddf_config.specs.declared.seat.Seat.{Seat}
use Rattle.ddf_config.specs.Configuration.{Configuration}
use Rattle.ddf_config.specs.ElementValue.{ElementValue}
use Rattle.ddf_config.specs.Members.{same_guid}
use Rattle.ddf_config.specs.Refusals.{first_refusal}
use Rattle.ddf_config.specs.States.{is_marked}
use Rattle.ddf_plan.specs.declared.change.Change.{Change}
use Rattle.ddf_plan.specs.declared.change.Change.TheVariants as changes
use Rattle.ddf_words.specs.declared.command.CreateElement.{CreateElement}
use Rattle.ddf_words.specs.declared.command.SpareWord.{SpareWord}
use Rattle.ddf_words.specs.declared.command.SpareWord.TheVariants as spares
use Rattle.ddf_words.specs.declared.command.Creation.{Creation}
use Rattle.ddf_words.specs.declared.command.Wish.{Wish}
use Rattle.ddf_words.specs.declared.command.Wish.TheVariants.{Create, Delete, Accept, Spare, Fail}
use Rattle.ddf_words.specs.Commands.{FitsCreation, FitsElement, FitsSpare, FitsWish}
use Rattle.ddf_repair.specs.Accept.{accepted}
use Rattle.ddf_request.specs.Named.{named_array, named_guid}
use Rattle.ddf_request.specs.NewArray.{new_array, new_array_guid, new_element, new_position, padded, qualifier_of, unfit}
use Rattle.ddf_request.specs.Request.{IsWish, accept_change, accept_refusal, change_for, create_change, delete_change, if_fits, one, request_of, slots_named, spare_change, unless}
use Rattle.ddf_request.specs.Spare.{served_guid, served_guids, use_of, with_guid}
use Rattle.ddf_request.specs.Slots.{is_on, reference_on, slot_refusals}
use Rattle.ddf_request.proofs.Numbers.{least_fits}
use Rattle.ddf_group_commands.specs.Requests.{HasByteCodes, HasLevelCodes}
use Rattle.ddf_steps.specs.Asked.{CanBeAsked, IsNewArray, IsNewPlan, IsNewPosition, IsNewUse}

-- The words for a new array keep within what words say, its codes are bytes, and the references of the disks have 32 bits.
pub record HasBounds (seats : List Seat) (creation : Creation) : Type 0 where
  pub words : FitsCreation creation
  pub codes : HasLevelCodes creation
  pub references : AllByRecursion (λ (seat : Seat). seat.reference < 2 ^ 32) seats

-- no element has more than 64 slots
few_of : (elements : List CreateElement) → AllByRecursion FitsElement elements → AllByRecursion (λ (element : CreateElement). length element.slots ≤ 64) elements
few_of [] each = tt
few_of (element ∷ elements) each = (each.0.few, few_of elements each.1)

-- Words keep within what is asked of a wish.
pub wish_is : (wish : Wish) → FitsWish wish → IsWish wish
wish_is (Create creation) fits = record { short = fits.short; few = few_of creation.elements fits.each }
wish_is other fits = tt

-- what is given where nothing refuses it before
pub change_of : (refusal : Option Refusal) (asked : Result (Option Change) Refusal) (given : Option Change) → unless refusal asked ≡ Ok given → asked ≡ Ok given
change_of None asked given is = is
change_of (Some refusal) asked given is = absurd cc

-- the changes that are asked for, one at the most
abbrev pub AreAsked : Option Change → Type 0
AreAsked change = AllByRecursion CanBeAsked (option_to_list change)

pub one_at_most : (change : Option Change) → length (option_to_list change) ≤ 1
one_at_most None = omega arith
one_at_most (Some change) = omega arith

one_asked : (asked : Result Change Refusal) (change : Option Change) → ((only : Change) → asked ≡ Ok only → CanBeAsked only) → one asked ≡ Ok change → AreAsked change
one_asked (Ok only) change can is = let same : Some only ≡ change = cc in subst AreAsked same (can only refl, tt)
one_asked (Err refusal) change can is = absurd cc

-- ---- a new array

-- its name has 16 bytes
name_length : (name : List ℕ) → length (padded name) ≡ 16
name_length name = omega (arith, length-take 16 (name ++ replicate 16 0x20), length-append name (replicate 16 0x20))

-- the qualifier of an element is a byte
qualifier_fits : (level qualifier members : ℕ) → qualifier < 2 ^ 8 → qualifier_of level qualifier members < 2 ^ 8
qualifier_fits level qualifier members fits = by (level == 1) (members == 2)
  where
    by : (mirrored simple : Bool) → (if mirrored then (if simple then 0 else 1) else qualifier) < 2 ^ 8
    by true true = omega arith
    by true false = omega arith
    by false simple = fits

-- the reference of the member on a slot has 32 bits
small_reference : (slot : ℕ) (seats : List Seat) → AllByRecursion (λ (seat : Seat). seat.reference < 2 ^ 32) seats → reference_on seats slot < 2 ^ 32
small_reference slot [] small = omega arith
small_reference slot (seat ∷ seats) small = by (is_on slot seat) (small_reference slot seats small.1)
  where
    by : (here : Bool) → elim (find (is_on slot) seats) [ None ↦ 0 | Some other ↦ other.reference ] < 2 ^ 32
        → elim (if here then Some seat else find (is_on slot) seats) [ None ↦ 0 | Some other ↦ other.reference ] < 2 ^ 32
    by true later = small.0
    by false later = later

module _ (seats : List Seat) (creation : Creation) (bounds : HasBounds seats creation) where
  -- a position on a slot
  position_is : (slot : ℕ) → IsNewPosition (new_position seats slot)
  position_is slot = record { fits = record { reference = small_reference slot seats bounds.references; start = omega arith; row = omega arith }; no_row = refl }

  -- those of an element
  positions_are : (slots : List ℕ) → AllByRecursion IsNewPosition (map (new_position seats) slots)
  positions_are [] = tt
  positions_are (slot ∷ slots) = (position_is slot, positions_are slots)

  -- the element that words are for
  element_is : (element : CreateElement) → FitsElement element → IsNewPlan (new_element seats creation element)
  element_is element fits = record {
    few = omega (arith, length-map element.slots (new_position seats), fits.few);
    strip = omega (arith, bounds.words.small);
    stand_in = omega arith;
    level = bounds.codes.level;
    qualifier = qualifier_fits creation.level creation.qualifier (length element.slots) bounds.codes.qualifier;
    blocks = omega (arith, fits.few_blocks);
    positions = positions_are element.slots;
  }

  -- every element is known
  complete : (elements : List CreateElement) → list_all is_some (map (λ element. Some (new_element seats creation element)) elements) ≡ true
  complete [] = refl
  complete (element ∷ elements) = complete elements

  -- each of them is one that words are for
  plan_is : (elements : List CreateElement) → AllByRecursion FitsElement elements → (index : ℕ) (plan : ElementValue)
      → slice_get (map (λ element. Some (new_element seats creation element)) elements) index ≡ Some (Some plan) → IsNewPlan plan
  plan_is [] each index plan at = absurd cc
  plan_is (element ∷ elements) each zero plan at = let same : new_element seats creation element ≡ plan = cc in subst IsNewPlan same (element_is element each.0)
  plan_is (element ∷ elements) each (suc index) plan at = plan_is elements each.1 index plan at

  -- the array that the words are for
  array_is : (config : Configuration) (stamp : Stamp) → IsNewArray (new_array_guid config stamp) (new_array config seats creation)
  array_is config stamp = record {
    fits = record {
      guid = refl;
      used = refl;
      number = least_fits config.arrays;
      state = omega arith;
      init = omega arith;
      name = name_length creation.name;
      secondary = bounds.codes.secondary;
    };
    complete = complete creation.elements;
    plans = plan_is creation.elements bounds.words.each;
  }

  -- the change that `create` gives
  create_asked : (config : Configuration) (linux : List ℕ) (stamp : Stamp) (change : Change) → create_change config seats linux stamp creation ≡ Ok change → CanBeAsked change
  create_asked config linux stamp change is = by (unfit linux seats creation) is
    where
      by : (last : Option Refusal) → if_fits last config seats (changes.Create (new_array_guid config stamp) (new_array config seats creation)) ≡ Ok change → CanBeAsked change
      by (Some last) is = absurd cc
      by None is =
          let same : changes.Create (new_array_guid config stamp) (new_array config seats creation) ≡ change = cc in
          subst CanBeAsked same (array_is config stamp)

-- ---- `delete`

-- the change that `delete` gives
delete_asked : (config : Configuration) (word : List ℕ) (change : Change) → delete_change config word ≡ Ok change → CanBeAsked change
delete_asked config word change is = by (named_guid config.arrays word) is
  where
    by : (found : Option (List ℕ)) → ◌≡◌ {A = Result Change Refusal} (elim found [ None ↦ Err NoArray | Some guid ↦ Ok (changes.Delete guid) ]) (Ok change) → CanBeAsked change
    by None is = absurd cc
    by (Some guid) is = let same : changes.Delete guid ≡ change = cc in subst CanBeAsked same tt

-- ---- `spare`

-- with a GUID there are some
one_more : (guid : Option (List ℕ)) (later : Option (List (List ℕ))) (guids : List (List ℕ)) → with_guid guid later ≡ Some guids → 0 < length guids
one_more None later guids is = absurd cc
one_more (Some guid) None guids is = absurd cc
one_more (Some guid) (Some later) guids is = let same : guid ∷ later ≡ guids = cc in subst (λ (all : List (List ℕ)). 0 < length all) same (omega arith)

-- of some words there are some GUIDs
some_guids : (arrays : List (List ℕ × Array)) (words guids : List (List ℕ)) → 1 ≤ length words → served_guids arrays words ≡ Some guids → 0 < length guids
some_guids arrays [] guids some is = absurd (omega arith)
some_guids arrays (word ∷ words) guids some is = one_more (served_guid arrays word) (served_guids arrays words) guids is

-- what the words let a disk stand in for
use_is : (config : Configuration) (word : SpareWord) (use_as : SpareUse) → FitsSpare word → use_of config word ≡ Ok use_as → IsNewUse use_as
use_is config spares.Global use_as fits is = let same : uses.Global ≡ use_as = cc in subst IsNewUse same tt
use_is config spares.Revertible use_as fits is = let same : uses.Revertible ≡ use_as = cc in subst IsNewUse same tt
use_is config spares.Off use_as fits is = let same : uses.No ≡ use_as = cc in subst IsNewUse same tt
use_is config (spares.For words) use_as fits is = by (served_guids config.arrays words) refl is
  where
    by : (found : Option (List (List ℕ))) → served_guids config.arrays words ≡ found → ◌≡◌ {A = Result SpareUse Refusal} (elim found [ None ↦ Err NoArray | Some guids ↦ Ok (uses.Dedicated guids) ]) (Ok use_as) → IsNewUse use_as
    by None at is = absurd cc
    by (Some guids) at is = let same : uses.Dedicated guids ≡ use_as = cc in subst IsNewUse same (some_guids config.arrays words guids fits at)

-- and the change for it
spare_is : (reference : ℕ) (asked : Result SpareUse Refusal) (change : Change) → ((use_as : SpareUse) → asked ≡ Ok use_as → IsNewUse use_as) → spare_change reference asked ≡ Ok change → CanBeAsked change
spare_is reference (Ok use_as) change new is = let same : changes.Spare reference use_as ≡ change = cc in subst CanBeAsked same (new use_as refl)
spare_is reference (Err refusal) change new is = absurd cc

-- ---- `accept`

-- what clears the mark of an array, where it has one
unmark_is : (config : Configuration) (guid : List ℕ) → AreAsked (accepted config guid)
unmark_is config guid = by (lookup (same_guid guid) config.arrays)
  where
    cleared : (marked : Bool) (array : Array) → AreAsked (if marked then Some (changes.Unmark guid array.init) else None)
    cleared true array = (tt, tt)
    cleared false array = tt

    by : (found : Option Array) → AreAsked (elim found [ None ↦ None | Some array ↦ if is_marked array then Some (changes.Unmark guid array.init) else None ])
    by None = tt
    by (Some array) = cleared (is_marked array) array

-- what `accept` gives
accept_asked : (config : Configuration) (seats : List Seat) (word : List ℕ) (change : Option Change) → accept_change config seats word ≡ Ok change → AreAsked change
accept_asked config seats word change is = by (named_array config.arrays word) is
  where
    taken : (entry : List ℕ × Array) (refusal : Option Refusal) → ◌≡◌ {A = Result (Option Change) Refusal} (elim refusal [ None ↦ Ok (accepted config entry.0) | Some refusal ↦ Err refusal ]) (Ok change) → AreAsked change
    taken entry None is = let same : accepted config entry.0 ≡ change = cc in subst AreAsked same (unmark_is config entry.0)
    taken entry (Some refusal) is = absurd cc

    by : (found : Option (List ℕ × Array)) → ◌≡◌ {A = Result (Option Change) Refusal}
        (elim found [ None ↦ Err NoArray | Some entry ↦ elim (accept_refusal config seats entry.0 entry.1) [ None ↦ Ok (accepted config entry.0) | Some refusal ↦ Err refusal ] ]) (Ok change) → AreAsked change
    by None is = absurd cc
    by (Some entry) is = taken entry (accept_refusal config seats entry.0 entry.1) is

-- ---- every wish

module _ (seats : List Seat) (config : Configuration) (linux : List ℕ) (stamp : Stamp) (small : AllByRecursion (λ (seat : Seat). seat.reference < 2 ^ 32) seats) where
  wished : (wish : Wish) (change : Option Change) → FitsWish wish → HasByteCodes wish → change_for config seats linux stamp wish ≡ Ok change → AreAsked change
  wished (Create creation) change fits codes is =
      one_asked (create_change config seats linux stamp creation) change (create_asked seats creation (record { words = fits; codes = codes; references = small }) config linux stamp) is
  wished (Delete name) change fits codes is = one_asked (delete_change config name) change (delete_asked config name) is
  wished (Accept name) change fits codes is = accept_asked config seats name change is
  wished (Spare slot word) change fits codes is =
      one_asked (spare_change (reference_on seats slot) (use_of config word)) change (λ only. spare_is (reference_on seats slot) (use_of config word) only (λ use_as. use_is config word use_as fits)) is
  wished (Fail slot) change fits codes is = let same : Some (changes.Fail (reference_on seats slot)) ≡ change = cc in subst AreAsked same (tt, tt)

  -- the changes that are asked for
  pub request_asked : (slots : ℕ) (wish : Wish) (change : Option Change) → FitsWish wish → HasByteCodes wish → request_of slots config seats linux stamp wish ≡ Ok change → AreAsked change
  request_asked slots wish change fits codes is =
      wished wish change fits codes (change_of (first_refusal (slot_refusals slots seats (slots_named wish))) (change_for config seats linux stamp wish) change is)
