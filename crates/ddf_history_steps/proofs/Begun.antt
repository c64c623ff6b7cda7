-- What a call knows that has assembled a group.
use Rattle.std.proofs.Common.{◌≡◌, ℕ, Bool, true, List, length, map, Option, Some, Result, Ok, Err, refl, ap, sym, ◌∙◌, subst}
use Rattle.std.specs.Str.{bytes_eq}
use Rattle.ddf_bay.specs.State.{BayState}
use Rattle.ddf_copy.specs.declared.newest_copy.Newest.{Newest}
use Rattle.ddf_view.specs.View.{View}
use Rattle.ddf_view.proofs.Tests.{same_bytes}
use Rattle.ddf_group.specs.declared.answer.Assembled.{Assembled}
use Rattle.ddf_group.specs.declared.answer.Assembly.{Assembly}
use Rattle.ddf_group.specs.Assembled.{assembled}
use Rattle.ddf_group.specs.Shown.{shown_of}
use Rattle.ddf_history.specs.Reading.{Scene}
use Rattle.ddf_history.specs.Issued.{Past, IsSince}
use Rattle.ddf_history.specs.Promise.{IsKept}
use Rattle.ddf_history.specs.Leaders.{seen}
use Rattle.ddf_history.specs.Answer.{HasMember, IsAnswer, IsPromised, IsReadable}
use Rattle.ddf_history.specs.Answer.Answer.{Is}
use Rattle.ddf_history.specs.Calls.{IsAssembled}
use Rattle.ddf_history.specs.Groups.{groups}
use Rattle.ddf_history.specs.Scenes.{answer_of, scene_of}
use Rattle.ddf_history.proofs.Assembling.{promised}
use Rattle.ddf_history.proofs.Sound.{groups_are_sound}
use Rattle.ddf_seats.specs.Group.{GroupValue}
use Rattle.ddf_assembly.specs.Group.{group_as, group_of, group_or_fault}
use Rattle.ddf_assembly.specs.Slots.{newest_from}
use Rattle.ddf_history_steps.specs.Kept.{is_read, told_answer}
use Rattle.ddf_history_steps.proofs.Told.{assembled_told, named_same}

-- ---- the group that was found

-- A group is made of what was found.
pub record IsMadeOf (newest : List (Option Newest)) (named : Option (List ℕ)) (g : GroupValue) : Type 0 where
  pub found : Assembled
  pub is_answer : assembled (map shown_of newest) named ≡ Ok found
  pub is_group : group_as newest found ≡ g

-- Where an answer gives a group, the group is made of what was found.
found_in : (newest : List (Option Newest)) (named : Option (List ℕ)) (g : GroupValue) (answer : Result Assembled Assembly)
    → assembled (map shown_of newest) named ≡ answer → group_or_fault newest answer ≡ Ok g → IsMadeOf newest named g
found_in newest named g (Ok found) is made = record { found = found; is_answer = is; is_group = cc }
found_in newest named g (Err fault) is made = absurd cc

-- So is a group that assembly gives.
pub found_of : (newest : List (Option Newest)) (named : Option (List ℕ)) (g : GroupValue) → group_of newest named ≡ Ok g → IsMadeOf newest named g
unfolding group_of
found_of newest named g is = found_in newest named g (assembled (map shown_of newest) named) refl is

-- A group that was assembled is found by its own name.
pub found_named : (newest : List (Option Newest)) (named : Option (List ℕ)) (group : List ℕ) (g : GroupValue) → group_of newest named ≡ Ok g
    → g.config.group ≡ group → IsMadeOf newest (Some group) g
found_named newest named group g is own = found_of newest (Some group) g (subst (λ (name : List ℕ). group_of newest (Some name) ≡ Ok g) own (named_same newest named g is))

-- An answer with a group's value is told as what was found.
told_group : (newest : List (Option Newest)) (answer : Result Assembled Assembly) → told_answer (group_or_fault newest answer) ≡ answer_of answer
told_group newest (Ok found) = refl
told_group newest (Err fault) = refl

-- ---- what is promised

module _ (group : List ℕ) {D : Type 0} (state : BayState D) (left : List Bool) (newest : List (Option Newest))
    (long : length left ≡ length state.sizes) (is : newest ≡ newest_from state 0 left)
    (past : Past (groups group)) (counted : past.slots ≡ length state.sizes) (kept : IsKept past (scene_of state.sizes state.held))
    (may : IsReadable past (scene_of state.sizes state.held) (is_read left)) (member : HasMember past (scene_of state.sizes state.held) (is_read left)) where
  abbrev held : Scene View
  held = scene_of state.sizes state.held

  -- The answer, where the group is named, is promised.
  pub answered : (name : List ℕ) → bytes_eq name group ≡ true → IsPromised past (is_read left) (answer_of (assembled (map shown_of newest) (Some name)))
  answered name same =
      subst (λ (one : List ℕ). IsPromised past (is_read left) (answer_of (assembled (map shown_of newest) (Some one)))) (sym (same_bytes name group same))
      (promised (groups group) (groups_are_sound group) past held kept (is_read left) may member (answer_of (assembled (map shown_of newest) (Some group)))
      (assembled_told state left newest long is group past.slots counted))

  -- So is the answer with the group's value.
  pub group_answered : (name : List ℕ) → bytes_eq name group ≡ true → IsPromised past (is_read left) (told_answer (group_of newest (Some name)))
  unfolding group_of
  group_answered name same = subst (IsPromised past (is_read left)) (sym (told_group newest (assembled (map shown_of newest) (Some name)))) (answered name same)

  -- The group that a call goes on with was assembled of what the disks hold.
  pub assembled_kept : (named : Option (List ℕ)) (g : GroupValue) → group_of newest named ≡ Ok g → g.config.group ≡ group
      → IsAssembled past held (is_read left) g.config
  assembled_kept named g at own =
      let found = found_named newest named group g at own in
      let config_is : answer_of (assembled (map shown_of newest) (Some group)) ≡ Is g.config =
      ap answer_of found.is_answer ∙ ap (λ (one : GroupValue). Is one.config) found.is_group in
      record {
        is_kept = kept;
        may_read = may;
        member = member;
        is_read = subst (IsAnswer (groups group) past.slots (seen (is_read left) held)) config_is (assembled_told state left newest long is group past.slots counted);
      }

  -- Its configuration was issued, and is the last acknowledged one or a later one.
  pub assembled_since : (named : Option (List ℕ)) (g : GroupValue) → group_of newest named ≡ Ok g → g.config.group ≡ group
      → (number : ℕ) × IsSince past.changes number g.config
  assembled_since named g at own =
      promised (groups group) (groups_are_sound group) past held kept (is_read left) may member (Is g.config) (assembled_kept named g at own).is_read
