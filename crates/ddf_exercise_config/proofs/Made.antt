-- What each change of an exercise makes of its group.
use Rattle.std.proofs.Common.{if◌then◌else◌, ◌≡◌, ◌∙◌, ℕ, ◌+◌, ◌≤◌, Bool, true, false, not, List, [], ◌∷◌, Some, None, eqb, refl, ap}
use Rattle.ddf_config.specs.declared.array.Array.{Array}
use Rattle.ddf_config.specs.declared.element.Position.{Position}
use Rattle.ddf_config.specs.declared.member.Member.{Member}
use Rattle.ddf_config.specs.declared.member.SpareUse.{SpareUse}
use Rattle.ddf_config.specs.declared.seat.Seat.{Seat}
use Rattle.ddf_config.specs.Configuration.{Configuration}
use Rattle.ddf_config.specs.Extents.{extents, extent}
use Rattle.ddf_config.specs.States.{with_low_states}
use Rattle.ddf_plan.specs.Causes.{causes, steps_of}
use Rattle.ddf_plan.specs.Create.{created as laid}
use Rattle.ddf_plan.specs.Floors.{extents_refusal}
use Rattle.ddf_plan.specs.Same.{is_step, same_tables}
use Rattle.std.specs.Cmp.Lexicographic.{pointwise}
use Rattle.ddf_lemmas.proofs.Lists.{bytes_same}
use Rattle.ddf_config.specs.Members.{is_current}
use Rattle.ddf_config.specs.declared.member.SpareUse.TheVariants.{No, Global}
use Rattle.ddf_config.proofs.Common.{same_self}
use Rattle.ddf_plan.specs.declared.change.Change.{Change}
use Rattle.ddf_plan.specs.declared.change.Change.TheVariants.{Begin, Create, Finish, Lose, Mark, Spare, Unmark}
use Rattle.ddf_plan.specs.Changes.{changed_at}
use Rattle.ddf_plan.specs.Refusals.{greatest_sequence}
use Rattle.ddf_plan.specs.Same.{same_array, same_member}
use Rattle.ddf_exercise_config.specs.Disks.{AreApart, Disks}
use Rattle.ddf_seats.specs.Group.{GroupValue}
use Rattle.ddf_recovery.specs.Recovery.{config_recovered}
use Rattle.ddf_seats.specs.Leading.{some}
use Rattle.ddf_steps.specs.Steps.{config_after, raised}
use Rattle.ddf_steps.proofs.StepConfig.{as_raised}
use Rattle.ddf_exercise_config.specs.Makes.{Makes}
use Rattle.ddf_exercise_config.specs.Stages.{array, begun, created, founded, group_with, lost, member, members, position, positions_at, positions_begun, positions_lost, lost_disk, lost_position, spare_disk, resynced, seats_at, whole, with_spare, written_on}
use Rattle.ddf_exercise_config.specs.Turns.{Loss, Turn, turn_before, turn_behind}
use Rattle.ddf_exercise_config.specs.Turns.Loss.{OfSecond, OfThird}
use Rattle.ddf_exercise_config.specs.Turns.Turn.{Closing, Middle, Opening}
use Rattle.ddf_exercise_config.proofs.Bools.{first_differs, same, second_differs}
use Rattle.ddf_exercise_config.proofs.Causes as allowed
use Rattle.ddf_exercise_config.proofs.Levels.{with_low}
use Rattle.ddf_exercise_config.proofs.Steps as steps
use Rattle.ddf_exercise_config.proofs.Tables as tables
use Rattle.ddf_exercise_config.proofs.Trios as trios

-- only a creation takes room
abbrev takes_none : Change → Bool
takes_none (Create guid one) = false
takes_none other = true

no_room : (config : Configuration) (change : Change) (floors seats : List Seat) → takes_none change ≡ true → extents_refusal config change floors seats ≡ None
unfolding extents_refusal
no_room config (Create guid one) floors seats e = absurd (cc)
no_room config other floors seats e = refl

-- an array more
adds : (group guid : List ℕ) (table : List (ℕ × Member)) (one : Array) (old next : ℕ) → not (same_tables (record { group = group; sequence = old; members = table; arrays = [] }) (group_with group next table guid one)) ≡ true
unfolding same_tables
adds group guid table one old next = second_differs (pointwise same_member table table) false refl

-- members that are others
other_members : (group guid : List ℕ) (table after : List (ℕ × Member)) (one other : Array) (old next : ℕ) → pointwise same_member table after ≡ false
    → not (same_tables (group_with group old table guid one) (group_with group next after guid other)) ≡ true
unfolding same_tables
other_members group guid table after one other old next e = first_differs (pointwise same_member table after) (pointwise same_array ((guid, one) ∷ []) ((guid, other) ∷ [])) e

-- an array that has another state
other_array : (group guid : List ℕ) (table : List (ℕ × Member)) (positions after : List Position) (state state_next init init_next old next : ℕ) → eqb state state_next ≡ false
    → not (same_tables (group_with group old table guid (array positions state init)) (group_with group next table guid (array after state_next init_next))) ≡ true
unfolding same_tables
other_array group guid table positions after state state_next init init_next old next apart =
    second_differs (pointwise same_member table table) (pointwise same_array ((guid, array positions state init) ∷ []) ((guid, array after state_next init_next) ∷ [])) (simp (bytes_same, apart))

-- without a loss the configuration stays
pub nothing_lost : (found : GroupValue) → found.absent ≡ [] → config_recovered found ≡ found.config
unfolding config_recovered
nothing_lost found none = ap (λ (references : List ℕ). if some references then config_after found.config (Lose references) else found.config) none

module _ (seats : List Seat) (config : Configuration) (change : Change) (next : ℕ → Configuration) (is : (number : ℕ) → changed_at config change number ≡ next number) where
  pub behind : config.sequence + steps_of change ≤ greatest_sequence → config_after config change ≡ next (config.sequence + steps_of change)
  behind within = is (raised config.sequence (steps_of change)) ∙ ap next (as_raised config.sequence (steps_of change) within)

  pub step_is : (b : Bool) → not (same_tables config (next (config.sequence + steps_of change))) ≡ b → is_step config change ≡ b
  step_is b e = ap (λ (c : Configuration). not (same_tables config c)) (is (config.sequence + steps_of change)) ∙ e

  pub made : config.sequence + steps_of change ≤ greatest_sequence → causes (Some 16) config change seats ≡ None → extents_refusal config change seats seats ≡ None → not (same_tables config (next (config.sequence + steps_of change))) ≡ true
      → Makes seats config change (next (config.sequence + steps_of change))
  made within may room_is other = record { allowed = may; has_room = room_is; steps = step_is true other; is_next = behind within }

-- marked or not it may be marked
pub resync_marks : (group : List ℕ) (disks : Disks) (guid : List ℕ) (sequence : ℕ) → causes (Some 16) (created group disks guid sequence) (Mark guid) (seats_at disks Opening) ≡ None
resync_marks group disks guid sequence = allowed.mark_allowed group sequence (members disks false false No No) guid (position disks.first true) (position disks.second true) (position disks.third true) 16 0 (seats_at disks Opening)

module _ (group : List ℕ) (disks : Disks) (apart : AreApart disks) (guid : List ℕ) where
  -- ---- the array is created

  module _ (sequence : ℕ) where
    laid_out : laid (members disks false false No No) (extents []) (array (positions_at disks Opening) 0 0) ≡ array (positions_at disks Opening) 16 0
    laid_out =
        allowed.laid_out group sequence (members disks false false No No) guid disks.first disks.second disks.third (seats_at disks Opening) apart.first_second apart.first_third apart.second_third
        (tables.at_first disks apart false false No No) (tables.at_second disks apart false false No No) (tables.at_third disks apart false false No No)

    creates : (number : ℕ) → changed_at (founded group disks sequence) (Create guid (array (positions_at disks Opening) 0 0)) number ≡ created group disks guid number
    creates number =
        ap (λ (one : Array). record { group = group; sequence = number; members = members disks false false No No; arrays = with_low_states (members disks false false No No) ((guid, one) ∷ []) }) laid_out
        ∙ ap (λ (arrays : List (List ℕ × Array)). record { group = group; sequence = number; members = members disks false false No No; arrays = arrays })
        (with_low (members disks false false No No) guid (positions_at disks Opening) 16 0 0 (trios.opening_served disks apart false false No No true true true 16 0 guid) refl (trios.opening_low_whole disks apart false false No No 16 0 refl refl))

    pub creation : sequence + 1 ≤ greatest_sequence → Makes (seats_at disks Opening) (founded group disks sequence) (Create guid (array (positions_at disks Opening) 0 0)) (created group disks guid (sequence + 1))
    creation within =
        made (seats_at disks Opening) (founded group disks sequence) (Create guid (array (positions_at disks Opening) 0 0)) (λ number. created group disks guid number) creates within
        (allowed.creation_allowed group sequence (members disks false false No No) guid disks.first disks.second disks.third (seats_at disks Opening) apart.first_second apart.first_third apart.second_third
        (tables.at_first disks apart false false No No) (tables.at_second disks apart false false No No) (tables.at_third disks apart false false No No))
        (allowed.creation_has_room group sequence (members disks false false No No) guid disks.first disks.second disks.third (seats_at disks Opening) apart.first_second apart.first_third apart.second_third
        (tables.at_first disks apart false false No No) (tables.at_second disks apart false false No No) (tables.at_third disks apart false false No No)
        (tables.stays_below (seats_at disks Opening) (extent 4096 (position disks.first true)) 0 (tables.opening_first disks apart true)) (tables.stays_below (seats_at disks Opening) (extent 4096 (position disks.second true)) 1 (tables.opening_second disks apart true))
        (tables.stays_below (seats_at disks Opening) (extent 4096 (position disks.third true)) 2 (tables.opening_third disks apart true)))
        (adds group guid (members disks false false No No) (array (positions_at disks Opening) 16 0) sequence (sequence + 1))

    -- ---- it is resynced

    marks_again : (number : ℕ) → changed_at (created group disks guid sequence) (Mark guid) number ≡ created group disks guid number
    marks_again number =
        steps.set_again group guid disks false false No No disks.first disks.second disks.third true true true sequence number 0
        (trios.opening_served disks apart false false No No true true true 16 0 guid) (trios.opening_low_whole disks apart false false No No 16 0 refl refl)

    pub is_marked_already : is_step (created group disks guid sequence) (Mark guid) ≡ false
    is_marked_already =
        step_is (seats_at disks Opening) (created group disks guid sequence) (Mark guid) (λ number. created group disks guid number) marks_again false
        (steps.no_other group guid disks false false No No disks.first disks.second disks.third true true true sequence (sequence + 1) 16 0 refl refl)

    pub resync : sequence + 1 ≤ greatest_sequence → Makes (seats_at disks Opening) (created group disks guid sequence) (Unmark guid 2) (resynced group disks guid (sequence + 1))
    resync within =
        made (seats_at disks Opening) (created group disks guid sequence) (Unmark guid 2) (λ number. resynced group disks guid number) unmarks within
        (allowed.unmark_allowed group sequence (members disks false false No No) guid (position disks.first true) (position disks.second true) (position disks.third true) 16 0 (seats_at disks Opening) 2)
        (no_room (created group disks guid sequence) (Unmark guid 2) (seats_at disks Opening) (seats_at disks Opening) refl)
        (steps.other_state group guid disks false false No No disks.first disks.second disks.third true true true sequence (sequence + 1) 16 0 0 2 refl)
      where
        unmarks : (number : ℕ) → changed_at (created group disks guid sequence) (Unmark guid 2) number ≡ resynced group disks guid number
        unmarks number =
            steps.cleared group guid disks false false No No disks.first disks.second disks.third true true true sequence number 0 2
            (trios.opening_served disks apart false false No No true true true 0 2 guid) (trios.opening_low_whole disks apart false false No No 0 2 refl refl)

    -- ---- two spares

    four_are_current : (sm tm : Bool) (fu hu : SpareUse) → is_current (members disks sm tm fu hu) disks.fourth.reference ≡ true
    four_are_current sm tm fu hu = simp (is_current, tables.at_fourth disks apart sm tm fu hu)

    five_are_current : (sm tm : Bool) (fu hu : SpareUse) → is_current (members disks sm tm fu hu) disks.fifth.reference ≡ true
    five_are_current sm tm fu hu = simp (is_current, tables.at_fifth disks apart sm tm fu hu)

    pub first_spare : sequence + 1 ≤ greatest_sequence → Makes (seats_at disks Opening) (resynced group disks guid sequence) (Spare disks.fourth.reference Global) (with_spare group disks guid (sequence + 1))
    first_spare within =
        made (seats_at disks Opening) (resynced group disks guid sequence) (Spare disks.fourth.reference Global) (λ number. with_spare group disks guid number) spares within
        (allowed.spare_allowed group sequence (members disks false false No No) guid (position disks.first true) (position disks.second true) (position disks.third true) 0 2 (seats_at disks Opening) disks.fourth.reference
        (four_are_current false false No No) apart.first_fourth apart.second_fourth apart.third_fourth)
        (no_room (resynced group disks guid sequence) (Spare disks.fourth.reference Global) (seats_at disks Opening) (seats_at disks Opening) refl)
        (other_members group guid (members disks false false No No) (members disks false false Global No) (array (positions_at disks Opening) 0 2) (array (positions_at disks Opening) 0 2) sequence (sequence + 1) (simp (same, bytes_same)))
      where
        spares : (number : ℕ) → changed_at (resynced group disks guid sequence) (Spare disks.fourth.reference Global) number ≡ with_spare group disks guid number
        spares number =
            steps.remade group guid (members disks false false No No) (members disks false false Global No) (array (positions_at disks Opening) 0 2) (array (positions_at disks Opening) 0 2)
            (Spare disks.fourth.reference Global) sequence number (steps.fourth_is_spare disks apart group guid sequence false false No (array (positions_at disks Opening) 0 2)) refl refl refl refl
            (array (positions_at disks Opening) 0 2)
            (with_low (members disks false false Global No) guid (positions_at disks Opening) 0 2 0 (trios.opening_served disks apart false false Global No true true true 0 2 guid) refl
            (trios.opening_low_whole disks apart false false Global No 0 2 refl refl))

    pub second_spare : sequence + 1 ≤ greatest_sequence → Makes (seats_at disks Opening) (with_spare group disks guid sequence) (Spare disks.fifth.reference Global) (whole group disks guid Opening (sequence + 1))
    second_spare within =
        made (seats_at disks Opening) (with_spare group disks guid sequence) (Spare disks.fifth.reference Global) (λ number. whole group disks guid Opening number) spares within
        (allowed.spare_allowed group sequence (members disks false false Global No) guid (position disks.first true) (position disks.second true) (position disks.third true) 0 2 (seats_at disks Opening) disks.fifth.reference
        (five_are_current false false Global No) apart.first_fifth apart.second_fifth apart.third_fifth)
        (no_room (with_spare group disks guid sequence) (Spare disks.fifth.reference Global) (seats_at disks Opening) (seats_at disks Opening) refl)
        (other_members group guid (members disks false false Global No) (members disks false false Global Global) (array (positions_at disks Opening) 0 2) (array (positions_at disks Opening) 0 2) sequence (sequence + 1) (simp (same, bytes_same)))
      where
        spares : (number : ℕ) → changed_at (with_spare group disks guid sequence) (Spare disks.fifth.reference Global) number ≡ whole group disks guid Opening number
        spares number =
            steps.remade group guid (members disks false false Global No) (members disks false false Global Global) (array (positions_at disks Opening) 0 2) (array (positions_at disks Opening) 0 2)
            (Spare disks.fifth.reference Global) sequence number (steps.fifth_is_spare disks apart group guid sequence false false Global (array (positions_at disks Opening) 0 2)) refl refl refl refl
            (array (positions_at disks Opening) 0 2)
            (with_low (members disks false false Global Global) guid (positions_at disks Opening) 0 2 0 (trios.opening_served disks apart false false Global Global true true true 0 2 guid) refl
            (trios.opening_low_whole disks apart false false Global Global 0 2 refl refl))

  -- ---- blocks are written

  module _ (sequence : ℕ) where
    sets : (turn : Turn) (number : ℕ) → changed_at (whole group disks guid turn sequence) (Mark guid) number ≡ written_on group disks guid turn number
    sets Opening number =
        steps.set group guid disks false false Global Global disks.first disks.second disks.third true true true sequence number 2
        (trios.opening_served disks apart false false Global Global true true true 16 2 guid) (trios.opening_low_whole disks apart false false Global Global 16 2 refl refl)
    sets Middle number =
        steps.set group guid disks true false No Global disks.first disks.fourth disks.third true true true sequence number 2
        (trios.middle_served disks apart true false No Global true true true 16 2 guid) (trios.middle_low_whole disks apart true false No Global 16 2 refl)
    sets Closing number =
        steps.set group guid disks true true No No disks.first disks.fourth disks.fifth true true true sequence number 2
        (trios.closing_served disks apart true true No No true true true 16 2 guid) (trios.closing_low_whole disks apart true true No No 16 2)

    clears : (turn : Turn) (number : ℕ) → changed_at (written_on group disks guid turn sequence) (Unmark guid 2) number ≡ whole group disks guid turn number
    clears Opening number =
        steps.cleared group guid disks false false Global Global disks.first disks.second disks.third true true true sequence number 2 2
        (trios.opening_served disks apart false false Global Global true true true 0 2 guid) (trios.opening_low_whole disks apart false false Global Global 0 2 refl refl)
    clears Middle number =
        steps.cleared group guid disks true false No Global disks.first disks.fourth disks.third true true true sequence number 2 2
        (trios.middle_served disks apart true false No Global true true true 0 2 guid) (trios.middle_low_whole disks apart true false No Global 0 2 refl)
    clears Closing number =
        steps.cleared group guid disks true true No No disks.first disks.fourth disks.fifth true true true sequence number 2 2
        (trios.closing_served disks apart true true No No true true true 0 2 guid) (trios.closing_low_whole disks apart true true No No 0 2)

    set_differs : (turn : Turn) (next : ℕ) → not (same_tables (whole group disks guid turn sequence) (written_on group disks guid turn next)) ≡ true
    set_differs Opening next = steps.other_state group guid disks false false Global Global disks.first disks.second disks.third true true true sequence next 0 16 2 2 refl
    set_differs Middle next = steps.other_state group guid disks true false No Global disks.first disks.fourth disks.third true true true sequence next 0 16 2 2 refl
    set_differs Closing next = steps.other_state group guid disks true true No No disks.first disks.fourth disks.fifth true true true sequence next 0 16 2 2 refl

    clear_differs : (turn : Turn) (next : ℕ) → not (same_tables (written_on group disks guid turn sequence) (whole group disks guid turn next)) ≡ true
    clear_differs Opening next = steps.other_state group guid disks false false Global Global disks.first disks.second disks.third true true true sequence next 16 0 2 2 refl
    clear_differs Middle next = steps.other_state group guid disks true false No Global disks.first disks.fourth disks.third true true true sequence next 16 0 2 2 refl
    clear_differs Closing next = steps.other_state group guid disks true true No No disks.first disks.fourth disks.fifth true true true sequence next 16 0 2 2 refl

    may_set : (turn : Turn) → causes (Some 16) (whole group disks guid turn sequence) (Mark guid) (seats_at disks turn) ≡ None
    unfolding causes
    may_set Opening = simp same_self
    may_set Middle = simp same_self
    may_set Closing = simp same_self

    may_clear : (turn : Turn) → causes (Some 16) (written_on group disks guid turn sequence) (Unmark guid 2) (seats_at disks turn) ≡ None
    unfolding causes
    may_clear Opening = simp same_self
    may_clear Middle = simp same_self
    may_clear Closing = simp same_self

    pub marking : (turn : Turn) → sequence + 1 ≤ greatest_sequence → Makes (seats_at disks turn) (whole group disks guid turn sequence) (Mark guid) (written_on group disks guid turn (sequence + 1))
    marking turn within =
        made (seats_at disks turn) (whole group disks guid turn sequence) (Mark guid) (λ number. written_on group disks guid turn number) (sets turn) within (may_set turn) (no_room (whole group disks guid turn sequence) (Mark guid) (seats_at disks turn) (seats_at disks turn) refl) (set_differs turn (sequence + 1))

    pub clearing : (turn : Turn) → sequence + 1 ≤ greatest_sequence → Makes (seats_at disks turn) (written_on group disks guid turn sequence) (Unmark guid 2) (whole group disks guid turn (sequence + 1))
    clearing turn within =
        made (seats_at disks turn) (written_on group disks guid turn sequence) (Unmark guid 2) (λ number. whole group disks guid turn number) (clears turn) within (may_clear turn) (no_room (written_on group disks guid turn sequence) (Unmark guid 2) (seats_at disks turn) (seats_at disks turn) refl) (clear_differs turn (sequence + 1))

    -- ---- a disk is lost

    loses : (loss : Loss) (number : ℕ) → changed_at (whole group disks guid (turn_before loss) sequence) (Lose (lost_disk disks loss ∷ [])) number ≡ lost group disks guid loss number
    loses OfSecond number =
        steps.remade group guid (members disks false false Global Global) (members disks true false Global Global) (array (positions_at disks Opening) 0 2) (array (positions_lost disks OfSecond) 0 2)
        (Lose (disks.second.reference ∷ [])) sequence number (steps.second_is_lost disks apart group guid sequence Global Global (array (positions_at disks Opening) 0 2))
        refl (steps.loses_second guid (members disks true false Global Global) disks.first disks.second disks.third 0 2 apart.first_second (tables.third_second disks apart)) refl refl
        (array (positions_lost disks OfSecond) 1 2)
        (with_low (members disks true false Global Global) guid (positions_lost disks OfSecond) 0 2 1 (trios.opening_served disks apart true false Global Global true false true 0 2 guid) refl
        (trios.opening_low_second disks apart true false Global Global 0 2 refl))
    loses OfThird number =
        steps.remade group guid (members disks true false No Global) (members disks true true No Global) (array (positions_at disks Middle) 0 2) (array (positions_lost disks OfThird) 0 2)
        (Lose (disks.third.reference ∷ [])) sequence number (steps.third_is_lost disks apart group guid sequence No Global (array (positions_at disks Middle) 0 2))
        refl (steps.loses_third guid (members disks true true No Global) disks.first disks.fourth disks.third 0 2 apart.first_third (tables.fourth_third disks apart)) refl refl
        (array (positions_lost disks OfThird) 1 2)
        (with_low (members disks true true No Global) guid (positions_lost disks OfThird) 0 2 1 (trios.middle_served disks apart true true No Global true true false 0 2 guid) refl
        (trios.middle_low_third disks apart true true No Global 0 2))

    pub losing : (loss : Loss) → sequence + 2 ≤ greatest_sequence → config_after (whole group disks guid (turn_before loss) sequence) (Lose (lost_disk disks loss ∷ [])) ≡ lost group disks guid loss (sequence + 2)
    losing loss within =
        behind (seats_at disks (turn_behind loss)) (whole group disks guid (turn_before loss) sequence) (Lose (lost_disk disks loss ∷ [])) (λ number. lost group disks guid loss number) (loses loss) within

    pub recovers : (loss : Loss) (found : GroupValue) → sequence + 2 ≤ greatest_sequence → found.config ≡ whole group disks guid (turn_before loss) sequence → found.absent ≡ lost_disk disks loss ∷ []
        → config_recovered found ≡ lost group disks guid loss (sequence + 2)
    unfolding config_recovered
    recovers loss found within is gone =
        ap (λ (references : List ℕ). if some references then config_after found.config (Lose references) else found.config) gone
        ∙ ap (λ (one : Configuration). config_after one (Lose (lost_disk disks loss ∷ []))) is ∙ losing loss within

    -- ---- a spare takes its place

    begins : (loss : Loss) (number : ℕ) → changed_at (lost group disks guid loss sequence) (Begin guid 0 (lost_position loss) (spare_disk disks loss) 0) number ≡ begun group disks guid loss number
    begins OfSecond number =
        steps.remade group guid (members disks true false Global Global) (members disks true false No Global) (array (positions_lost disks OfSecond) 1 2) (array (positions_begun disks OfSecond) 1 2)
        (Begin guid 0 1 disks.fourth.reference 0) sequence number (steps.fourth_is_taken disks apart group guid sequence Global (array (positions_lost disks OfSecond) 1 2))
        (steps.takes_global (members disks true false Global Global) disks.fourth.reference (member disks.fourth false Global).1 (tables.at_fourth disks apart true false Global Global) refl)
        (steps.begins_second guid (members disks true false No Global) disks.first disks.second disks.third 1 2 disks.fourth) refl refl
        (array (positions_begun disks OfSecond) 1 2)
        (with_low (members disks true false No Global) guid (positions_begun disks OfSecond) 1 2 1 (trios.middle_served disks apart true false No Global true false true 1 2 guid) refl
        (trios.middle_low_second disks apart true false No Global 1 2 refl))
    begins OfThird number =
        steps.remade group guid (members disks true true No Global) (members disks true true No No) (array (positions_lost disks OfThird) 1 2) (array (positions_begun disks OfThird) 1 2)
        (Begin guid 0 2 disks.fifth.reference 0) sequence number (steps.fifth_is_taken disks apart group guid sequence (array (positions_lost disks OfThird) 1 2))
        (steps.takes_global (members disks true true No Global) disks.fifth.reference (member disks.fifth false Global).1 (tables.at_fifth disks apart true true No Global) refl)
        (steps.begins_third guid (members disks true true No No) disks.first disks.fourth disks.third 1 2 disks.fifth) refl refl
        (array (positions_begun disks OfThird) 1 2)
        (with_low (members disks true true No No) guid (positions_begun disks OfThird) 1 2 1 (trios.closing_served disks apart true true No No true true false 1 2 guid) refl
        (trios.closing_low_third disks apart true true No No 1 2))

    finishes : (loss : Loss) (number : ℕ) → changed_at (begun group disks guid loss sequence) (Finish guid 0 (lost_position loss)) number ≡ whole group disks guid (turn_behind loss) number
    finishes OfSecond number =
        steps.remade group guid (members disks true false No Global) (members disks true false No Global) (array (positions_begun disks OfSecond) 1 2) (array (positions_at disks Middle) 1 2)
        (Finish guid 0 1) sequence number refl refl (steps.finishes_second guid (members disks true false No Global) disks.first disks.fourth disks.third 1 2) refl refl
        (array (positions_at disks Middle) 0 2)
        (with_low (members disks true false No Global) guid (positions_at disks Middle) 1 2 0 (trios.middle_served disks apart true false No Global true true true 1 2 guid) refl
        (trios.middle_low_whole disks apart true false No Global 1 2 refl))
    finishes OfThird number =
        steps.remade group guid (members disks true true No No) (members disks true true No No) (array (positions_begun disks OfThird) 1 2) (array (positions_at disks Closing) 1 2)
        (Finish guid 0 2) sequence number refl refl (steps.finishes_third guid (members disks true true No No) disks.first disks.fourth disks.fifth 1 2) refl refl
        (array (positions_at disks Closing) 0 2)
        (with_low (members disks true true No No) guid (positions_at disks Closing) 1 2 0 (trios.closing_served disks apart true true No No true true true 1 2 guid) refl
        (trios.closing_low_whole disks apart true true No No 1 2))

    four_is : (sm tm : Bool) (fu hu : SpareUse) → is_current (members disks sm tm fu hu) disks.fourth.reference ≡ true
    four_is sm tm fu hu = simp (is_current, tables.at_fourth disks apart sm tm fu hu)

    five_is : (sm tm : Bool) (fu hu : SpareUse) → is_current (members disks sm tm fu hu) disks.fifth.reference ≡ true
    five_is sm tm fu hu = simp (is_current, tables.at_fifth disks apart sm tm fu hu)

    may_begin : (loss : Loss) → causes (Some 16) (lost group disks guid loss sequence) (Begin guid 0 (lost_position loss) (spare_disk disks loss) 0) (seats_at disks (turn_behind loss)) ≡ None
    may_begin OfSecond =
        allowed.second_begins group sequence (members disks true false Global Global) guid (position disks.first true) (position disks.second false) (position disks.third true) 1 2 (seats_at disks Middle) disks.fourth.reference 0
        (four_is true false Global Global)
    may_begin OfThird =
        allowed.third_begins group sequence (members disks true true No Global) guid (position disks.first true) (position disks.fourth true) (position disks.third false) 1 2 (seats_at disks Closing) disks.fifth.reference 0
        (five_is true true No Global)

    may_finish : (loss : Loss) → causes (Some 16) (begun group disks guid loss sequence) (Finish guid 0 (lost_position loss)) (seats_at disks (turn_behind loss)) ≡ None
    may_finish OfSecond =
        allowed.second_finishes group sequence (members disks true false No Global) guid (position disks.first true) (position disks.fourth false) (position disks.third true) 1 2 (seats_at disks Middle) (four_is true false No Global)
    may_finish OfThird =
        allowed.third_finishes group sequence (members disks true true No No) guid (position disks.first true) (position disks.fourth true) (position disks.fifth false) 1 2 (seats_at disks Closing) (five_is true true No No)

    begin_differs : (loss : Loss) (next : ℕ) → not (same_tables (lost group disks guid loss sequence) (begun group disks guid loss next)) ≡ true
    begin_differs OfSecond next =
        other_members group guid (members disks true false Global Global) (members disks true false No Global) (array (positions_lost disks OfSecond) 1 2) (array (positions_begun disks OfSecond) 1 2) sequence next (simp (same, bytes_same))
    begin_differs OfThird next =
        other_members group guid (members disks true true No Global) (members disks true true No No) (array (positions_lost disks OfThird) 1 2) (array (positions_begun disks OfThird) 1 2) sequence next (simp (same, bytes_same))

    finish_differs : (loss : Loss) (next : ℕ) → not (same_tables (begun group disks guid loss sequence) (whole group disks guid (turn_behind loss) next)) ≡ true
    finish_differs OfSecond next = other_array group guid (members disks true false No Global) (positions_begun disks OfSecond) (positions_at disks Middle) 1 0 2 2 sequence next refl
    finish_differs OfThird next = other_array group guid (members disks true true No No) (positions_begun disks OfThird) (positions_at disks Closing) 1 0 2 2 sequence next refl

    pub beginning : (loss : Loss) → sequence + 1 ≤ greatest_sequence
        → Makes (seats_at disks (turn_behind loss)) (lost group disks guid loss sequence) (Begin guid 0 (lost_position loss) (spare_disk disks loss) 0) (begun group disks guid loss (sequence + 1))
    beginning loss within =
        made (seats_at disks (turn_behind loss)) (lost group disks guid loss sequence) (Begin guid 0 (lost_position loss) (spare_disk disks loss) 0) (λ number. begun group disks guid loss number) (begins loss) within (may_begin loss)
        (no_room (lost group disks guid loss sequence) (Begin guid 0 (lost_position loss) (spare_disk disks loss) 0) (seats_at disks (turn_behind loss)) (seats_at disks (turn_behind loss)) refl)
        (begin_differs loss (sequence + 1))

    pub finishing : (loss : Loss) → sequence + 1 ≤ greatest_sequence
        → Makes (seats_at disks (turn_behind loss)) (begun group disks guid loss sequence) (Finish guid 0 (lost_position loss)) (whole group disks guid (turn_behind loss) (sequence + 1))
    finishing loss within =
        made (seats_at disks (turn_behind loss)) (begun group disks guid loss sequence) (Finish guid 0 (lost_position loss)) (λ number. whole group disks guid (turn_behind loss) number) (finishes loss) within (may_finish loss)
        (no_room (begun group disks guid loss sequence) (Finish guid 0 (lost_position loss)) (seats_at disks (turn_behind loss)) (seats_at disks (turn_behind loss)) refl)
        (finish_differs loss (sequence + 1))
