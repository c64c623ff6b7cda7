-- The group that is meant where none is named.
use Rattle.std.proofs.Common.{◌≡◌, ◌⊎◌, ℕ, ◌<◌, ◌&&◌, not, Bool, true, false, List, length, map, Option, Some, None, Result, Ok, Err, if◌then◌else◌, refl, ap, sym, ◌∙◌, inl, inr, subst}
use Rattle.std.proofs.lemmas.Bool.{false≢true}
use Rattle.std.specs.Option.{option_map_or}
use Rattle.std.specs.Str.{bytes_eq}
use Rattle.std.proofs.lemmas.Option.{same_Some}
use Rattle.ddf_lemmas.proofs.Lists.{bytes_same}
use Rattle.ddf_bay.specs.State.{BayState}
use Rattle.ddf_copy.specs.declared.newest_copy.Newest.{Newest}
use Rattle.ddf_view.specs.View.{View}
use Rattle.ddf_view.proofs.Tests.{same_bytes}
use Rattle.ddf_group.specs.declared.shown.Shown.{Shown as GroupShown}
use Rattle.ddf_group.specs.declared.answer.Assembly.{Assembly}
use Rattle.ddf_group.specs.declared.answer.Assembly.TheVariants as faults
use Rattle.ddf_group.specs.Assembled.{assembled, assembled_group}
use Rattle.ddf_group.specs.Choice.{chosen, first_free, group_at, is_absorbed, only_group, other_free, shows_free, unless_other}
use Rattle.ddf_group.specs.Shown.{shown_of}
use Rattle.ddf_group.specs.Slots.{group_shown, shows_group, slot_at}
use Rattle.ddf_history.specs.Reading.{Scene, Shown, IsCopyOf}
use Rattle.ddf_history.specs.Reading.Shown.{Nothing}
use Rattle.ddf_history.specs.Issued.{Past}
use Rattle.ddf_history.specs.Promise.{IsKept}
use Rattle.ddf_history.specs.Answer.{HasMember, IsPromised, IsReadable}
use Rattle.ddf_history.specs.Groups.{groups}
use Rattle.ddf_history.specs.Scenes.{scene_of}
use Rattle.ddf_history.proofs.AnsweredLists.{found_passes, missed_below}
use Rattle.ddf_history.proofs.AnsweredSlots.{slot_shows}
use Rattle.ddf_seats.specs.Group.{GroupValue}
use Rattle.ddf_assembly.specs.Group.{group_of, group_or_fault}
use Rattle.ddf_assembly.specs.Slots.{newest_from}
use Rattle.ddf_recovery.proofs.LeftChoice.{within}
use Rattle.ddf_history_steps.specs.Kept.{is_read, told_answer}
use Rattle.ddf_history_steps.proofs.Begun.{group_answered}
use Rattle.ddf_history_steps.proofs.Told.{chosen_shows, found_name, one_group, scene_told}

-- A slot that shows a group shows it by its name.
pub name_shown : (group : List ℕ) (found : Option (List ℕ)) → option_map_or (bytes_eq group) found false ≡ true → found ≡ Some group
name_shown group None shows = absurd (false≢true shows)
name_shown group (Some own) shows = ap (λ (name : List ℕ). Some name) (sym (same_bytes group own shows))

-- ---- the choice

-- Some slot shows the group, and no other group absorbs it.
module _ (slots : List GroupShown) (group : List ℕ) (slot : ℕ) (shows : shows_group group (slot_at slots slot) ≡ true) (free : is_absorbed slots group ≡ false) where
  own : group_shown (slot_at slots slot) ≡ Some group
  own = name_shown group (group_shown (slot_at slots slot)) shows

  below : slot < length slots
  below = within slots slot group own

  is_free : shows_free slots slot ≡ true
  is_free = ap (λ (found : Option (List ℕ)). option_map_or (λ (one : List ℕ). not (is_absorbed slots one)) found false) own ∙ ap not free

  -- The group is meant, or there are several.
  abbrev pub IsMeant : Result (List ℕ) Assembly → Type 0
  IsMeant choice = (choice ≡ Ok group) ⊎ ((first : ℕ) × (other : ℕ) × (choice ≡ Err (faults.SeveralGroups first other)))

  -- Where no slot shows another group, the one that is shown is this one.
  only_own : (found : List ℕ) → other_free slots found ≡ None → found ≡ group
  unfolding other_free
  only_own found none = by (shows_group found (slot_at slots slot)) refl
    where
      fails : (not (shows_group found (slot_at slots slot)) && shows_free slots slot) ≡ false
      fails = missed_below (λ s. not (shows_group found (slot_at slots s)) && shows_free slots s) (length slots) none slot below

      by : (b : Bool) → shows_group found (slot_at slots slot) ≡ b → found ≡ group
      by true e = sym (same_Some group found (sym own ∙ name_shown found (group_shown (slot_at slots slot)) e))
      by false e = absurd (false≢true (sym fails ∙ ap (λ b. not b && shows_free slots slot) e ∙ is_free))

  by_other : (first : ℕ) (found : List ℕ) (other : Option ℕ) → other_free slots found ≡ other → IsMeant (unless_other first found other)
  by_other first found None none = inl (ap (λ (one : List ℕ). Ok one) (only_own found none))
  by_other first found (Some other) is = inr (first, other, refl)

  by_shown : (first : ℕ) → shows_free slots first ≡ true → (found : Option (List ℕ)) → group_shown (slot_at slots first) ≡ found → IsMeant (group_at slots first found)
  by_shown first passes None none =
      absurd (false≢true (sym (ap (λ (found : Option (List ℕ)). option_map_or (λ (one : List ℕ). not (is_absorbed slots one)) found false) none) ∙ passes))
  by_shown first passes (Some found) is = by_other first found (other_free slots found) refl

  by_first : (first : Option ℕ) → first_free slots ≡ first → IsMeant (only_group slots first)
  unfolding first_free
  by_first None none = absurd (false≢true (sym (missed_below (shows_free slots) (length slots) none slot below) ∙ is_free))
  by_first (Some first) is = by_shown first (found_passes (shows_free slots) (length slots) first is) (group_shown (slot_at slots first)) refl

  -- So it is where none is named.
  pub meant : IsMeant (chosen slots None)
  unfolding chosen
  meant = by_first (first_free slots) refl

-- ---- the answer

module _ (newest : List (Option Newest)) where
  -- A group that is meant is answered as one that is named.
  meant_same : (group : List ℕ) → chosen (map shown_of newest) None ≡ Ok group → group_of newest None ≡ group_of newest (Some group)
  unfolding group_of assembled chosen
  meant_same group is =
      ap (λ (choice : Result (List ℕ) Assembly). group_or_fault newest (assembled_group (map shown_of newest) choice)) is
      ∙ sym (ap (λ (b : Bool). group_or_fault newest (assembled_group (map shown_of newest) (if b then Ok group else Err faults.NoGroup)))
      (chosen_shows (map shown_of newest) None group is))

  -- Where several are shown, this is the answer.
  several_told : (first other : ℕ) → chosen (map shown_of newest) None ≡ Err (faults.SeveralGroups first other)
      → group_of newest None ≡ Err (faults.SeveralGroups first other)
  unfolding group_of assembled
  several_told first other is = ap (λ (choice : Result (List ℕ) Assembly). group_or_fault newest (assembled_group (map shown_of newest) choice)) is

module _ (group : List ℕ) {D : Type 0} (state : BayState D) (left : List Bool) (newest : List (Option Newest))
    (long : length left ≡ length state.sizes) (is : newest ≡ newest_from state 0 left)
    (past : Past (groups group)) (counted : past.slots ≡ length state.sizes) (kept : IsKept past (scene_of state.sizes state.held))
    (may : IsReadable past (scene_of state.sizes state.held) (is_read left)) (member : HasMember past (scene_of state.sizes state.held) (is_read left)) where
  abbrev held : Scene View
  held = scene_of state.sizes state.held

  -- The slot of the current member that is read shows the group.
  member_shows : shows_group group (slot_at (map shown_of newest) member.slot) ≡ true
  member_shows =
      let seen_there = scene_told state left newest long is member.slot ∙ ap (λ (b : Bool). if b then held member.slot else Nothing) member.is_readable in
      slot_shows group (map shown_of newest) (one_group state left newest long is) member.slot member.copy
      (subst (λ (shown : Shown View). IsCopyOf shown member.copy) (sym seen_there) member.is_copy) member.is_standing

  -- So the answer without a name is promised, unless there are several groups.
  pub alone_answered : is_absorbed (map shown_of newest) group ≡ false
      → IsPromised past (is_read left) (told_answer (group_of newest None))
      ⊎ ((first : ℕ) × (second : ℕ) × (group_of newest None ≡ Err (faults.SeveralGroups first second)))
  alone_answered free = elim (meant (map shown_of newest) group member.slot member_shows free) [
    | inl same ↦ inl (subst (λ (answer : Result GroupValue Assembly). IsPromised past (is_read left) (told_answer answer)) (sym (meant_same newest group same))
        (group_answered group state left newest long is past counted kept may member group (bytes_same group)))
    | inr others ↦ inr (others.0, others.1, several_told newest others.0 others.1 others.2)
  ]

  -- The group that is found is the one whose member was read.
  pub alone_group : is_absorbed (map shown_of newest) group ≡ false → (found : GroupValue) → group_of newest None ≡ Ok found → found.config.group ≡ group
  alone_group free found gives = elim (meant (map shown_of newest) group member.slot member_shows free) [
    | inl same ↦ found_name newest group found (sym (meant_same newest group same) ∙ gives)
    | inr others ↦ absurd (let both : ◌≡◌ {A = Result GroupValue Assembly} (Ok found) (Err (faults.SeveralGroups others.0 others.1)) = sym gives ∙ several_told newest others.0 others.1 others.2 in cc)
  ]
