-- A call that found a group, and what it asks of it: its steps, and the array between them.
use Rattle.std.proofs.Common.{◌≡◌, ◌⊎◌, ◌∙◌, inl, inr, ⊎_elim, ℕ, ◌+◌, Bool, true, false, List, [], ◌∷◌, ◌++◌, length, Option, Some, None, Ok, refl, ap, sym, subst, if◌then◌else◌}
use Rattle.std.specs.Prelude.{option_to_list, slice_get}
use Rattle.std.specs.Map.{lookup}
use Rattle.ddf_bay.specs.Sectors.{Image}
use Rattle.ddf_bay.specs.State.{BayState}
use Rattle.ddf_config.specs.declared.seat.Seat.{Seat}
use Rattle.ddf_config.specs.Configuration.{Configuration}
use Rattle.ddf_config.specs.Members.{same_guid}
use Rattle.ddf_config.specs.States.{is_marked}
use Rattle.ddf_copy.specs.declared.newest_copy.Newest.{Newest}
use Rattle.ddf_plan.specs.declared.change.Change.{Change}
use Rattle.ddf_plan.specs.declared.change.Change.TheVariants.{Mark, Unmark}
use Rattle.ddf_plan.specs.Causes.{steps_of as change_steps}
use Rattle.ddf_plan.specs.Changes.{changed_at}
use Rattle.ddf_array.specs.Redundant.{IsRedundant}
use Rattle.ddf_array.specs.Viewing.{is_array_redundant, view_of}
use Rattle.ddf_array.specs.Volume.{IsVolume, Volume}
use Rattle.ddf_array.specs.Within.{is_redundant, is_within}
use Rattle.ddf_array.proofs.Viewed.{from_view}
use Rattle.ddf_data_array.specs.Allowed.{Allowed}
use Rattle.ddf_data_array.specs.Changing.{IsWritable}
use Rattle.ddf_data_array.specs.Rows.{HasNoRows}
use Rattle.ddf_data_group.specs.Grouped.{Promises}
use Rattle.ddf_data_group.proofs.Clearly.{IsUsed, used}
use Rattle.ddf_data_group.proofs.Marked.{no_rows_left, none_were}
use Rattle.ddf_history.specs.Groups.{groups}
use Rattle.ddf_history.specs.Issued.{Past, acknowledge}
use Rattle.ddf_seats.specs.Group.{GroupValue}
use Rattle.ddf_recovery.specs.Ready.{readied}
use Rattle.ddf_recovery.specs.Recovery.{config_lost, config_recovered, loss}
use Rattle.ddf_seats.specs.Leading.{some}
use Rattle.ddf_steps.specs.Steps.{config_after, raised}
use Rattle.ddf_history_steps.specs.Going.{IsOver, begun, issue_all}
use Rattle.ddf_history_steps.specs.Kept.{is_read}
use Rattle.ddf_data_history.specs.Promised.{seats_in}
use Rattle.ddf_write_commands.specs.Planned.{Entry, IsPlanned, Refusing, request_around}
use Rattle.ddf_write_commands.proofs.Marked.{redundant_same, with_mark}
use Rattle.ddf_data_calls.specs.Calls.{AreMade, left_over}
use Rattle.ddf_data_calls.proofs.Few.{ArraysFew}
use Rattle.ddf_data_calls.proofs.Seats as seating
use Rattle.ddf_data_calls.proofs.Accepted.{HasView, accepted_plan, between_view, mark_is, mark_of, marking_is, plain_view, readied_view}
use Rattle.ddf_data_calls.proofs.Both.{IsSplit}
use Rattle.ddf_data_calls.proofs.First.{IsCalled}
use Rattle.ddf_data_calls.proofs.Known.{found_few, known, marked_few, recovered_few}
use Rattle.ddf_data_calls.proofs.OneArray as one
use Rattle.ddf_data_calls.proofs.Split as split
use Rattle.ddf_data_calls.proofs.Standing as standing
use Rattle.ddf_data_calls.proofs.WriteSound.{before_redundant}
use Rattle.ddf_read_commands.proofs.ArrayUse.{named_is}

module _ {D : Type 0} (group : List ℕ) (old : BayState D) (past : Past (groups group)) (floor : ℕ → ℕ) (promises : Promises) (left : List Bool) (newest : List (Option Newest)) (named : Option (List ℕ)) (found : GroupValue)
    (called : IsCalled group old past floor promises left newest named found) where
  few_recovered : ArraysFew (config_recovered found)
  few_recovered =
      recovered_few found (found_few group old past floor called.small left newest named found called.long called.read called.is_found called.own called.admitted called.floors)

  is_known : (config : Configuration) → ArraysFew config → (guid : List ℕ) (v : Volume) → view_of config guid found.seats ≡ Ok v → IsVolume v
  is_known = known group old past floor called.small left newest named found called.long called.read called.is_found called.own called.admitted called.floors

  -- ---- once the group is recovered

  recovery : List Configuration
  recovery = if some found.absent then config_lost found ∷ [] else []

  recovery_last : slice_get (found.config ∷ recovery) (length recovery) ≡ Some (config_recovered found)
  unfolding recovery config_recovered
  recovery_last = by (some found.absent)
    where
      by : (absent : Bool) → slice_get (found.config ∷ (if absent then config_lost found ∷ [] else [])) (length (if absent then config_lost found ∷ [] else [])) ≡ Some (if absent then config_lost found else found.config)
      by true = refl
      by false = refl

  recovery_made : (image : Image) → AreMade (seats_in group (left_over group past (is_read left) found) floor) image promises found.config recovery
  unfolding recovery
  recovery_made image = by (some found.absent) (seats_in group (left_over group past (is_read left) found) floor)
    where
      by : (absent : Bool) (seats : Configuration → List Seat) → AreMade seats image promises found.config (if absent then config_lost found ∷ [] else [])
      by true seats = (record { change = loss found; sequence = raised found.config.sequence (change_steps (loss found)); is_next = refl; may = tt }, tt)
      by false seats = tt

  -- An array keeps then what is promised of it, as the disks read.
  module _ (entry : Entry) (there : lookup (same_guid entry.0) (config_recovered found).arrays ≡ Some entry.1) (has : HasView (config_recovered found) found.seats entry) where
    has_known : IsVolume has.volume
    has_known = is_known (config_recovered found) few_recovered entry.0 has.volume has.is_view

    pub was_redundant : (v : Volume) → IsVolume v → is_within v ≡ true → is_marked entry.1 ≡ false → (v ≡ has.volume) ⊎ (v ≡ with_mark has.volume)
        → (allowed : Allowed) → promises entry.0 ≡ Some allowed → IsRedundant v old.held
    was_redundant v v_known within mark is allowed promised =
        let from = seating.since group old left newest called.long called.read past called.admitted.same_slots called.admitted.is_kept called.admitted.may_read called.admitted.member named found called.is_found called.own in
        let now = acknowledge (issue_all group (begun group past (is_read left) found from.0) recovery) (from.0 + length recovery) in
        let over : IsOver group past (is_read left) found recovery now = record { number = from.0; since = from.1; is_now = refl } in
        let alone = standing.alone group old past floor called.small left newest named found called.long called.read called.is_found called.own called.admitted called.floors recovery (config_recovered found) recovery_last
        (λ disk. refl) now over in
        let since = standing.since group old past floor called.small left newest named found called.long called.read called.is_found called.own called.admitted called.floors recovery (config_recovered found) recovery_last
        (λ disk. refl) now over in
        let view = standing.view group old past floor called.small left newest named found called.long called.read called.is_found called.own called.admitted called.floors recovery (config_recovered found) recovery_last
        (λ disk. refl) now over entry.0 has.volume has.is_view in
        let kept = standing.keeps group old past floor called.small left newest named found called.long called.read called.is_found called.own called.admitted called.floors recovery (config_recovered found) recovery_last
        (λ disk. refl) now over promises called.all old.held called.told (recovery_made old.held) in
        let array_kept = one.own_kept group floor called.small now (config_recovered found) alone entry.0 has.volume view has_known old.held promises kept now.changes.acked since allowed promised in
        let seen = from_view (config_recovered found) entry.0 found.seats has.volume has.is_view in
        let array_is : seen.array ≡ entry.1 = same_some seen.array entry.1 (sym seen.array_is ∙ there) in
        let unmarked : has.volume.marked ≡ false = seen.marked_is ∙ ap is_marked array_is ∙ mark in
        before_redundant (one.absent group floor called.small now (config_recovered found) alone entry.0 has.volume view has_known) has.volume v v_known within unmarked is old.held allowed array_kept
      where
        same_some : {X : Type 0} (a b : X) → Some a ≡ Some b → a ≡ b
        same_some a b e = cc

  -- ---- its steps

  module _ (timestamp : ℕ) (word : List ℕ) (refusing : Refusing) (behind : Entry → List Change) (plan : IsPlanned found timestamp word (request_around refusing behind word))
      (has : HasView (config_recovered found) found.seats plan.entry) (ask : Option Change) (is_asked : behind plan.entry ≡ option_to_list ask)
      (unmarks : (change : Change) → ask ≡ Some change → (init : ℕ) × (change ≡ Unmark plan.entry.0 init)) where
    there : lookup (same_guid plan.entry.0) (config_recovered found).arrays ≡ Some plan.entry.1
    there = named_is (config_recovered found).arrays word plan.entry plan.is_named

    are_first : readied found (option_to_list (mark_of plan.entry)) timestamp ≡ Ok plan.first
    are_first = ap (λ (changes : List Change). readied found changes timestamp) (sym (marking_is plan.entry)) ∙ plan.are_first

    are_all : readied found (option_to_list (mark_of plan.entry) ++ behind plan.entry) timestamp ≡ Ok (plan.first ++ plan.last)
    are_all =
        ap (λ (changes : List Change). readied found (changes ++ behind plan.entry) timestamp) (sym (marking_is plan.entry))
        ∙ (accepted_plan found timestamp word refusing behind plan).are_steps

    between : Configuration
    between = split.between found timestamp (mark_of plan.entry) (behind plan.entry) plan.first plan.last are_first are_all

    between_is : (between ≡ config_recovered found) ⊎ ((sequence : ℕ) × (between ≡ changed_at (config_recovered found) (Mark plan.entry.0) sequence))
    unfolding between
    between_is = ⊎_elim inl
        (λ (made : (change : Change) × (mark_of plan.entry ≡ Some change)
        × (split.between found timestamp (mark_of plan.entry) (behind plan.entry) plan.first plan.last are_first are_all ≡ config_after (config_recovered found) change)).
        inr ((config_after (config_recovered found) (Mark plan.entry.0)).sequence, made.2 ∙ ap (config_after (config_recovered found)) (mark_is plan.entry made.0 made.1).1))
        (split.between_config found timestamp (mark_of plan.entry) (behind plan.entry) plan.first plan.last are_first are_all)

    is_view : view_of between plan.entry.0 found.seats ≡ Ok plan.volume
    unfolding between
    is_view =
        ap (λ (config : Configuration). view_of config plan.entry.0 found.seats)
        (sym (split.between_is found timestamp (mark_of plan.entry) (behind plan.entry) plan.first plan.last are_first are_all)) ∙ plan.is_view

    pub view_is : (plan.volume ≡ has.volume) ⊎ (plan.volume ≡ with_mark has.volume)
    view_is = between_view (config_recovered found) found.seats plan.entry there has between plan.volume is_view between_is

    few_between : ArraysFew between
    few_between = ⊎_elim
        (λ same. subst ArraysFew (sym same) few_recovered)
        (λ marked. subst ArraysFew (sym marked.1) (marked_few (config_recovered found) plan.entry.0 marked.0 few_recovered))
        between_is

    is_writable : IsWritable plan.volume
    is_writable = by (is_array_redundant plan.entry.1) refl
      where
        by : (b : Bool) → is_array_redundant plan.entry.1 ≡ b → IsWritable plan.volume
        by true redundant = inl (plan.is_marked redundant)
        by false plain = ⊎_elim
            (λ same. inr (ap is_redundant same ∙ plain_view (config_recovered found) found.seats plan.entry there has plain))
            (λ marked. inl (ap (λ (x : Volume). x.marked) marked)) view_is

    -- Marked it counts no rows as rebuilt, whether the mark was set by these steps or stood there.
    no_rows : HasNoRows plan.volume ⊎ (is_redundant plan.volume ≡ false)
    unfolding between
    no_rows = by (is_array_redundant plan.entry.1) refl
      where
        seen : IsUsed between plan.entry.0 found.seats plan.volume
        seen = used between plan.entry.0 found.seats plan.volume is_view (is_known between few_between plan.entry.0 plan.volume is_view)

        at_mark : is_array_redundant plan.entry.1 ≡ true → mark_of plan.entry ≡ Some (Mark plan.entry.0)
        at_mark redundant = ap (λ (b : Bool). if b then Some (Mark plan.entry.0) else None) redundant

        by : (b : Bool) → is_array_redundant plan.entry.1 ≡ b → HasNoRows plan.volume ⊎ (is_redundant plan.volume ≡ false)
        by true redundant = inl (⊎_elim
            (λ same. none_were (config_recovered found) plan.entry.0 (seen).array found.seats plan.volume
            (ap (λ (c : Configuration). lookup (same_guid plan.entry.0) c.arrays) (sym same.0) ∙ (seen).is_found) (same.1 (Mark plan.entry.0) (at_mark redundant)) (seen).over)
            (λ (made : (change : Change) × (mark_of plan.entry ≡ Some change)
            × (split.between found timestamp (mark_of plan.entry) (behind plan.entry) plan.first plan.last are_first are_all ≡ config_after (config_recovered found) change)).
            no_rows_left (config_recovered found) plan.entry.0 (seen).array (config_after (config_recovered found) (Mark plan.entry.0)).sequence found.seats plan.volume
            (ap (λ (c : Configuration). lookup (same_guid plan.entry.0) c.arrays) (sym (made.2 ∙ ap (config_after (config_recovered found)) (mark_is plan.entry made.0 made.1).1)) ∙ (seen).is_found) (seen).over)
            (split.between_steps found timestamp (mark_of plan.entry) (behind plan.entry) plan.first plan.last are_first are_all))
        by false plain = inr (⊎_elim (λ same. ap is_redundant same) (λ marked. ap is_redundant marked ∙ redundant_same has.volume) view_is ∙ plain_view (config_recovered found) found.seats plan.entry there has plain)

    pub is_split : IsSplit found timestamp plan.entry (behind plan.entry) ask plan.first plan.last plan.volume
    unfolding between
    is_split =
        let ready = readied_view (config_recovered found) found.seats plan.entry there has plan.volume view_is is_writable in
        record {
          are_first = are_first;
          are_all = are_all;
          is_asked = is_asked;
          unmarks = unmarks;
          is_view = is_view;
          known = is_known between few_between plan.entry.0 plan.volume is_view;
          within = ready.within;
          undegraded = ready.whole;
          writable = ready.writable;
          no_rows = no_rows;
        }
