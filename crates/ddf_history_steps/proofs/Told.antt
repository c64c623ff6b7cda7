-- What a call reads of the slots and answers, as histories tell of it.
use Rattle.std.proofs.Common.{◌≡◌, ℕ, zero, suc, ◌+◌, ◌<◌, ◌≤◌, ◌&&◌, not, Bool, true, false, List, [], ◌∷◌, length, map, Option, Some, None, Result, Ok, Err, if◌then◌else◌, refl, ap, sym, ◌∙◌, inl, inr, arith, subst, zero-add}
use Rattle.std.proofs.lemmas.Bool.{cases_lt, false≢true, le-ltb, lt-ltb}
use Rattle.std.proofs.lemmas.Option.{get_or_from_slice_get, slice_get-map, slice_get_cases}
use Rattle.std.proofs.lemmas.List.{length-map}
use Rattle.std.proofs.Math.Path.{fun_ext}
use Rattle.std.specs.Prelude.{option_map, slice_get, slice_index_or, unwrap_or}
use Rattle.ddf_lemmas.proofs.Lists.{bytes_same}
use Rattle.ddf_bay.specs.State.{BayState, size_of}
use Rattle.ddf_copy.specs.declared.newest_copy.Newest.{Newest}
use Rattle.ddf_view.specs.View.{View}
use Rattle.ddf_view.specs.Reading.{read}
use Rattle.ddf_group.specs.declared.shown.Shown.{Shown as GroupShown}
use Rattle.ddf_group.specs.declared.shown.Shown.TheVariants as shown
use Rattle.ddf_group.specs.declared.answer.Assembled.{Assembled}
use Rattle.ddf_group.specs.declared.answer.Assembly.{Assembly}
use Rattle.ddf_group.specs.declared.answer.Assembly.TheVariants as faults
use Rattle.ddf_group.specs.Assembled.{assembled, assembled_as, assembled_group, config_of, unless_contradicted}
use Rattle.ddf_group.specs.Choice.{chosen, first_free, group_at, is_shown, only_group, other_free, unless_other}
use Rattle.ddf_group.specs.Conflicts.{contradiction}
use Rattle.ddf_group.specs.Shown.{shown_of}
use Rattle.ddf_group.specs.Slots.{claimed, group_shown, shows_group, slot_at}
use Rattle.ddf_history.specs.Reading.{Scene}
use Rattle.ddf_history.specs.Reading.Shown.{Nothing}
use Rattle.ddf_history.specs.Leaders.{seen}
use Rattle.ddf_history.specs.Answer.{IsAnswer}
use Rattle.ddf_history.specs.Answered.{AreOfOneGroup, IsOfOneGroup}
use Rattle.ddf_history.specs.Groups.{groups}
use Rattle.ddf_history.specs.Scenes.{answer_of, scene_in, scene_of, told_of}
use Rattle.ddf_history.proofs.Answered.{assembled_told as group_told}
use Rattle.ddf_history.proofs.AnsweredLists.{none_below}
use Rattle.ddf_history.proofs.AnsweredRead.{read_of_one_group}
use Rattle.ddf_history.proofs.AnsweredSlots.{nothing_past}
use Rattle.ddf_seats.specs.Group.{GroupValue}
use Rattle.ddf_assembly.specs.Group.{group_as, group_of, group_or_fault}
use Rattle.ddf_assembly.specs.Slots.{newest_from, newest_or}
use Rattle.ddf_history_steps.specs.Kept.{is_read}
use Rattle.ddf_history_steps.proofs.Stops.{scene_at}

-- ---- what is read

module _ {D : Type 0} (state : BayState D) where
  -- What is read of one of the slots.
  read_at : (first : ℕ) (left : List Bool) (slot : ℕ) (out : Bool) → slice_get left slot ≡ Some out
      → slice_get (newest_from state first left) slot ≡ Some (newest_or state (first + slot) out)
  read_at first [] slot out at = absurd cc
  read_at first (here ∷ left) zero out at =
      let same : here ≡ out = cc in
      let place : first ≡ first + 0 = omega arith in
      ap (λ (b : Bool). Some (newest_or state first b)) same ∙ ap (λ (s : ℕ). Some (newest_or state s out)) place
  read_at first (here ∷ left) (suc slot) out at =
      let place : suc first + slot ≡ first + suc slot = omega arith in
      read_at (suc first) left slot out at ∙ ap (λ (s : ℕ). Some (newest_or state s out)) place

  -- So many slots are read.
  length_read : (first : ℕ) (left : List Bool) → length (newest_from state first left) ≡ length left
  length_read first [] = refl
  length_read first (out ∷ left) = ap suc (length_read (suc first) left)

  -- What is read of a slot is of one group.
  one_group_or : (slot : ℕ) (out : Bool) → IsOfOneGroup (shown_of (newest_or state slot out))
  unfolding shown_of
  one_group_or slot true = tt
  one_group_or slot false = read_of_one_group (size_of state slot) (state.held slot)

  -- So is what is read of each.
  pub one_group_from : (first : ℕ) (left : List Bool) → AreOfOneGroup (map shown_of (newest_from state first left))
  one_group_from first [] = tt
  one_group_from first (out ∷ left) = (one_group_or first out, one_group_from (suc first) left)

  module _ (left : List Bool) (long : length left ≡ length state.sizes) where
    abbrev slots : List GroupShown
    slots = map shown_of (newest_from state 0 left)

    abbrev held : Scene View
    held = scene_of state.sizes state.held

    slots_long : length slots ≡ length left
    slots_long = length-map (newest_from state 0 left) shown_of ∙ length_read 0 left

    -- Past the last slot nothing is read.
    past_told : (slot : ℕ) → length left ≤ slot → scene_in slots slot ≡ seen (is_read left) held slot
    past_told slot past =
        let long_slots = slots_long in
        let none : is_read left slot ≡ false = ap (λ (b : Bool). b && not (slice_index_or left slot false)) (le-ltb slot (length left) past) in
        ap told_of (nothing_past slots slot (omega arith)) ∙ sym (ap (λ (b : Bool). if b then held slot else Nothing) none)

    -- A slot that is left out shows nothing, and any other one what it holds.
    slot_told : (slot : ℕ) (out : Bool) → slot < length left → is_read left slot ≡ not out
        → told_of (shown_of (newest_or state slot out)) ≡ seen (is_read left) held slot
    unfolding shown_of
    slot_told slot true below is = sym (ap (λ (b : Bool). if b then held slot else Nothing) is)
    slot_told slot false below is = sym (scene_at state.sizes state.held slot (omega (arith, long, below))) ∙ sym (ap (λ (b : Bool). if b then held slot else Nothing) is)

    -- The slots show what is seen of the disks.
    pub scene_read : (slot : ℕ) → scene_in slots slot ≡ seen (is_read left) held slot
    scene_read slot = elim (slice_get_cases left slot).1 [
      | inl there ↦
          let read = read_at 0 left slot there.0 there.2 ∙ ap (λ (s : ℕ). Some (newest_or state s there.0)) (zero-add slot) in
          let at = slice_get-map shown_of (newest_from state 0 left) slot ∙ ap (option_map shown_of) read in
          let out = get_or_from_slice_get left slot there.0 false there.2 in
          let is : is_read left slot ≡ not there.0 = ap (λ (b : Bool). b && not (slice_index_or left slot false)) (lt-ltb slot (length left) there.1) ∙ ap not out in
          ap (λ (o : Option GroupShown). told_of (unwrap_or o shown.Nothing)) at ∙ slot_told slot there.0 there.1 is
      | inr past ↦ past_told slot past.0
    ]

    -- What assembly answers of them is what histories tell of what is seen.
    pub reads_told : (group : List ℕ) (count : ℕ) → count ≡ length state.sizes
        → IsAnswer (groups group) count (seen (is_read left) held) (answer_of (assembled slots (Some group)))
    reads_told group count count_is =
        let all : scene_in slots ≡ seen (is_read left) held = fun_ext scene_read in
        let counted : length slots ≡ count = slots_long ∙ long ∙ sym count_is in
        subst (λ (scene : Scene View). IsAnswer (groups group) count scene (answer_of (assembled slots (Some group)))) all
        (subst (λ (n : ℕ). IsAnswer (groups group) n (scene_in slots) (answer_of (assembled slots (Some group)))) counted (group_told group slots (one_group_from 0 left)))

module _ {D : Type 0} (state : BayState D) (left : List Bool) (newest : List (Option Newest)) (long : length left ≡ length state.sizes)
    (is : newest ≡ newest_from state 0 left) where
  -- The slots that are read show what is seen of the disks.
  pub scene_told : (slot : ℕ) → scene_in (map shown_of newest) slot ≡ seen (is_read left) (scene_of state.sizes state.held) slot
  scene_told slot = ap (λ (all : List (Option Newest)). scene_in (map shown_of all) slot) is ∙ scene_read state left long slot

  pub scene_is : scene_in (map shown_of newest) ≡ seen (is_read left) (scene_of state.sizes state.held)
  scene_is = fun_ext scene_told

  -- Two copies of one slot that differ are of one group.
  pub one_group : AreOfOneGroup (map shown_of newest)
  one_group = subst (λ (all : List (Option Newest)). AreOfOneGroup (map shown_of all)) (sym is) (one_group_from state 0 left)

  -- What assembly answers is what histories tell of.
  pub assembled_told : (group : List ℕ) (count : ℕ) → count ≡ length state.sizes
      → IsAnswer (groups group) count (seen (is_read left) (scene_of state.sizes state.held)) (answer_of (assembled (map shown_of newest) (Some group)))
  assembled_told group count count_is =
      subst
      (λ (all : List (Option Newest)). IsAnswer (groups group) count (seen (is_read left) (scene_of state.sizes state.held)) (answer_of (assembled (map shown_of all) (Some group))))
      (sym is)
      (reads_told state left long group count count_is)

-- ---- the group that is named

-- A slot that shows a group is one of the slots, so that the group is shown.
shown_somewhere : (slots : List GroupShown) (slot : ℕ) (group : List ℕ) → group_shown (slot_at slots slot) ≡ Some group → is_shown slots group ≡ true
shown_somewhere slots slot group at = go (is_shown slots group) refl
  where
    shows_it : shows_group group (slot_at slots slot) ≡ true
    shows_it = rw at (bytes_same group)

    within : slot < length slots
    within = elim (cases_lt slot (length slots)) [
      | inl less ↦ less
      | inr past ↦ absurd (let none = rw (nothing_past slots slot past) at at in cc)
    ]

    go : (b : Bool) → is_shown slots group ≡ b → is_shown slots group ≡ true
    go true is = is
    go false is = absurd (false≢true (sym (none_below (λ s. shows_group group (slot_at slots s)) (length slots) is slot within) ∙ shows_it))

-- The group that is chosen is shown.
pub chosen_shows : (slots : List GroupShown) (named : Option (List ℕ)) (group : List ℕ) → chosen slots named ≡ Ok group → is_shown slots group ≡ true
unfolding chosen
chosen_shows slots (Some name) group is = go (is_shown slots name) refl is
  where
    go : (b : Bool) → is_shown slots name ≡ b → ◌≡◌ {A = Result (List ℕ) Assembly} (if b then Ok name else Err faults.NoGroup) (Ok group) → is_shown slots group ≡ true
    go true shows same = let own : name ≡ group = cc in ap (is_shown slots) (sym own) ∙ shows
    go false shows same = absurd cc
chosen_shows slots None group is = by_slot (first_free slots) is
  where
    by_other : (slot : ℕ) (own : List ℕ) (other : Option ℕ) → group_shown (slot_at slots slot) ≡ Some own → unless_other slot own other ≡ Ok group
        → is_shown slots group ≡ true
    by_other slot own None at same = let is_own : own ≡ group = cc in shown_somewhere slots slot group (at ∙ ap Some is_own)
    by_other slot own (Some other) at same = absurd cc

    by_group : (slot : ℕ) (own : Option (List ℕ)) → group_shown (slot_at slots slot) ≡ own → group_at slots slot own ≡ Ok group → is_shown slots group ≡ true
    by_group slot None at same = absurd cc
    by_group slot (Some own) at same = by_other slot own (other_free slots own) at same

    by_slot : (free : Option ℕ) → only_group slots free ≡ Ok group → is_shown slots group ≡ true
    by_slot None same = absurd cc
    by_slot (Some slot) same = by_group slot (group_shown (slot_at slots slot)) refl same

-- A group is made of what was found.
pub made_of : (newest : List (Option Newest)) (found : Assembled) (g : GroupValue) → group_or_fault newest (Ok found) ≡ Ok g → group_as newest found ≡ g
made_of newest found g is = cc

-- What is read of a group's leaders names it.
group_named : (newest : List (Option Newest)) (slots : List GroupShown) (group : List ℕ) (g : GroupValue) (fault : Option Assembly)
    → group_or_fault newest (unless_contradicted slots group fault) ≡ Ok g → g.config.group ≡ group
unfolding assembled_as config_of read
group_named newest slots group g None is =
    sym (ap (λ (one : GroupValue). one.config.group) (made_of newest (assembled_as slots (claimed slots group) (config_of slots group)) g is))
group_named newest slots group g (Some fault) is = absurd cc

-- A group that was assembled is so by its own name.
pub named_same : (newest : List (Option Newest)) (named : Option (List ℕ)) (g : GroupValue) → group_of newest named ≡ Ok g
    → group_of newest (Some g.config.group) ≡ Ok g
unfolding group_of assembled chosen
named_same newest named g is = go (chosen (map shown_of newest) named) refl is
  where
    go : (o : Result (List ℕ) Assembly) → chosen (map shown_of newest) named ≡ o → group_or_fault newest (assembled_group (map shown_of newest) o) ≡ Ok g
        → group_of newest (Some g.config.group) ≡ Ok g
    go (Err fault) chose same = absurd cc
    go (Ok group) chose same =
        let own = group_named newest (map shown_of newest) group g (contradiction (map shown_of newest) group) same in
        let shows = chosen_shows (map shown_of newest) named group chose in
        ap (λ (name : List ℕ). group_of newest (Some name)) own
        ∙ ap (λ (b : Bool). group_or_fault newest (assembled_group (map shown_of newest) (if b then Ok group else Err faults.NoGroup))) shows
        ∙ same

-- One that was named has the name.
pub found_name : (newest : List (Option Newest)) (name : List ℕ) (g : GroupValue) → group_of newest (Some name) ≡ Ok g → g.config.group ≡ name
unfolding group_of assembled chosen
found_name newest name g is = by (is_shown (map shown_of newest) name) is
  where
    by : (shown : Bool) → group_or_fault newest (assembled_group (map shown_of newest) (if shown then Ok name else Err faults.NoGroup)) ≡ Ok g → g.config.group ≡ name
    by true same = group_named newest (map shown_of newest) name g (contradiction (map shown_of newest) name) same
    by false same = absurd cc
