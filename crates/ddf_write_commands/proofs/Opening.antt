-- A group that is recovered, and whose array is marked, by what the calls promise that write its records.
use Rattle.std.proofs.Common.{◌≡◌, ◌≢◌, ℕ, ◌+◌, ◌≤◌, Bool, true, false, List, [], ◌∷◌, ◌++◌, append_assoc, length, Option, None, Some, Result, Ok, refl, sym, ap, subst, ◌∙◌, arith}
use Rattle.std.proofs.lemmas.Bool.{false≢true}
use Rattle.std.proofs.lemmas.List.{append_cancel_left}
use Rattle.std.specs.Prelude.{slice_get}
use Rattle.std.specs.List.{AllByRecursion, list_any}
use Rattle.ddf_bay.specs.Moments.{SpendsOver, StopsLeave}
use Rattle.ddf_bay.specs.State.{BayState}
use Rattle.ddf_bay.proofs.Steps.{over_start, stops_start}
use Rattle.ddf_config.specs.Configuration.{Configuration}
use Rattle.ddf_plan.specs.declared.change.Change.{Change}
use Rattle.ddf_plan.specs.Same.{is_step}
use Rattle.ddf_update.specs.Changes.{AreChanged}
use Rattle.ddf_update.specs.Group.{IsOneOf}
use Rattle.ddf_update.specs.Prepared.{all_calls, all_sectors}
use Rattle.ddf_history.specs.Groups.{groups}
use Rattle.ddf_history.specs.Issued.{Past}
use Rattle.ddf_seats.specs.declared.fault.GroupFault.{GroupFault}
use Rattle.ddf_steps.specs.Asked.{CanBeAsked}
use Rattle.ddf_recovery.specs.Committed.{HoldsGroup, IsReadyFor, MayRecover, MayWriteNext, WasReadied, group_next, group_recovered, left_behind, next_slots, next_updates, recovery_slots, recovery_updates}
use Rattle.ddf_steps.specs.Committed.{slots_of, synced}
use Rattle.ddf_seats.specs.Group.{GroupValue}
use Rattle.ddf_assembly.specs.Reading.{HaveAnchors}
use Rattle.ddf_steps.specs.Ready.{ReadyStep}
use Rattle.ddf_recovery.specs.Ready.{ReadyValue, all_ready, readied}
use Rattle.ddf_recovery.specs.Recovery.{config_recovered}
use Rattle.ddf_steps.specs.Steps.{Step}
use Rattle.ddf_recovery.proofs.Committed.{may_write_next}
use Rattle.ddf_recovery.proofs.CommittedAfter.{committed_anchored, committed_holds, left_ready}
use Rattle.ddf_recovery.proofs.RecoveredGroup.{recovered_ready}
use Rattle.ddf_recovery.proofs.RecoveryWritten.{may_recover, recovered_anchored, recovered_held, recovery_on_seats}
use Rattle.ddf_history_steps.specs.Going.{IsAdmitted, KeepsHistory, changes_in}
use Rattle.ddf_history_steps.specs.Kept.{AreAllKept, is_slot}
use Rattle.ddf_history_steps.specs.Steps.{IsCommit, IsRecovery, WasTaken, recovery_changes}
use Rattle.ddf_history_steps.proofs.Slots.{slot_is}
use Rattle.ddf_history_steps.specs.Course.{IsUnderWay, changes_ready}
use Rattle.ddf_history_steps.proofs.Course.{changes_parts, configs_of}
use Rattle.ddf_history_steps.proofs.Floored.{next_floored, recovered_floored}
use Rattle.ddf_group_commands.specs.Change.{KeepsHistories}
use Rattle.ddf_group_commands.specs.GroupRead.{IsFoundBy, IsReadFrom}
use Rattle.ddf_group_commands.specs.Others.{LeavesOthers}
use Rattle.ddf_group_commands.specs.Writing.{IsLeftWriting}
use Rattle.ddf_group_commands.specs.Written.{AreWritten}
use Rattle.ddf_group_commands.proofs.Beside.{commit_beside, recovery_beside}
use Rattle.ddf_group_commands.proofs.Keeping.{Tells, reads_true}
use Rattle.ddf_group_commands.proofs.LeftWriting.{commit_leaves, recover_leaves}
use Rattle.ddf_group_commands.proofs.Outcomes.{asked_of}
use Rattle.ddf_group_commands.proofs.Recovering.{done_to, rest_on_seats}
use Rattle.ddf_group_commands.proofs.StepsWritten.{none_asked, steps_in}
use Rattle.ddf_write_commands.specs.Around.{IsMark, front, rest}
use Rattle.ddf_write_commands.specs.Opened.{AreMembers, AreUnderWay, IsOpened}
use Rattle.ddf_write_commands.proofs.Courses.{commit_fails, commits, recovers, recovery_fails}
use Rattle.ddf_bay.specs.Told.{IsTold}
use Rattle.ddf_history_steps.proofs.CommittingGoes.{changes_of_both}
use Rattle.ddf_write_commands.proofs.Splitting.{all_parts, all_readied, config_is, first_readied, seats_same, split, was_first}

-- ---- one step, and those behind it

front_few : {X : Type 0} (b : Bool) (xs : List X) → length (front b xs) ≤ 1
front_few false xs = omega arith
front_few true [] = omega arith
front_few true (x ∷ xs) = omega arith

-- The step that comes next is the first of the steps.
pub front_commit : {D : Type 0} (middle new : BayState D) (steps : List ReadyStep) (done : Bool) → IsCommit middle new (record { recovery = None; steps = steps }) done
    → IsCommit middle new (record { recovery = None; steps = front true steps }) done
front_commit middle new [] done is = is
front_commit middle new (one ∷ others) done is =
    record { any_moment = is.any_moment; changed = is.changed; spends = is.spends }

front_spends : {D : Type 0} (middle new : BayState D) (steps : List ReadyStep)
    → SpendsOver middle new (all_sectors (next_updates (record { recovery = None; steps = steps }))) (all_calls (next_updates (record { recovery = None; steps = steps })))
    → SpendsOver middle new (all_sectors (next_updates (record { recovery = None; steps = front true steps }))) (all_calls (next_updates (record { recovery = None; steps = front true steps })))
front_spends middle new [] spends = spends
front_spends middle new (one ∷ others) spends = spends

-- Where none comes nothing is done.
pub none_commits : {D : Type 0} (state : BayState D) → IsCommit state state (record { recovery = None; steps = [] }) true
none_commits state = record {
  any_moment = λ seat may. stops_start state _;
  changed = λ done seat may. record {
    have_changed = λ place slot update below at. absurd (omega (arith, below));
    are_settled = λ place slot below at. absurd (omega (arith, below));
    others = λ s l none. refl;
    others_left = λ s l bytes none left. left;
  };
  spends = over_start state;
}

pub group_front : (found : GroupValue) (steps : List ReadyStep)
    → group_next found (record { recovery = None; steps = steps }) ≡ group_next found (record { recovery = None; steps = front true steps })
group_front found [] = refl
group_front found (one ∷ others) = refl

front_spent : (b : Bool) (steps : List ReadyStep) → ◌≡◌ {A = ReadyValue} (left_behind (record { recovery = None; steps = front b steps })) (record { recovery = None; steps = [] })
front_spent false steps = refl
front_spent true [] = refl
front_spent true (one ∷ others) = refl

configs_split : (b : Bool) (steps : List ReadyStep) → configs_of steps ≡ configs_of (front b steps) ++ configs_of (rest b steps)
configs_split false steps = refl
configs_split true [] = refl
configs_split true (one ∷ others) = refl

front_asked : (b : Bool) (changes : List Change) → AllByRecursion CanBeAsked changes → AllByRecursion CanBeAsked (front b changes)
front_asked false changes can = tt
front_asked true [] can = tt
front_asked true (change ∷ others) can = (can.0, tt)

pub left_rest : (steps : List ReadyStep) → ◌≡◌ {A = ReadyValue} (left_behind (record { recovery = None; steps = steps })) (record { recovery = None; steps = rest true steps })
left_rest [] = refl
left_rest (one ∷ others) = refl

abbrev rest_ready : Bool → List ReadyStep → ReadyValue
rest_ready b steps = record { recovery = None; steps = rest b steps }

ready_rest : (found : GroupValue) (marks : Bool) (steps : List ReadyStep) → IsReadyFor found (record { recovery = None; steps = steps })
    → IsReadyFor (group_next found (record { recovery = None; steps = front marks steps })) (record { recovery = None; steps = rest marks steps })
ready_rest found false steps is = is
ready_rest found true [] is = is
ready_rest found true (one ∷ others) is = left_ready found (record { recovery = None; steps = one ∷ others }) is

-- a bay's next state
pub tell_of : {D : Type 0} (old new : BayState D) → IsTold new → (new.tells_left → old.tells_left) → Tells old new
tell_of old new told back = record { told = told.since; counts = told.counts; back = back; held = told.held }

module _ {D : Type 0} (tells : Type 0) (old : BayState D) (found : GroupValue) (changes : List Change) (timestamp : ℕ) (ready : ReadyValue) (from : IsReadFrom tells old found)
    (was : WasReadied found changes timestamp ready) (redundant marks : Bool) (marks_is : marks ≡ list_any (is_step (config_recovered found)) (front redundant changes))
    (mark : AllByRecursion IsMark (front redundant changes)) (few : length (rest redundant changes) ≤ 1) (can : AllByRecursion CanBeAsked changes) (tells_old : IsTold old) where
  -- the recovery and the steps before the blocks, without the recovery, and those behind them
  abbrev before : ReadyValue
  before = record { recovery = ready.recovery; steps = front marks ready.steps }

  abbrev after : ReadyValue
  after = record { recovery = None; steps = front marks ready.steps }

  abbrev last : ReadyValue
  last = record { recovery = None; steps = rest marks ready.steps }

  abbrev recovered : GroupValue
  recovered = group_recovered found ready.recovery

  abbrev now_found : GroupValue
  now_found = group_next recovered after

  was_before : WasReadied found (front redundant changes) timestamp before
  was_before = was_first found changes timestamp ready was redundant marks marks_is mark few

  is_ready : IsReadyFor recovered after
  is_ready = recovered_ready found (front redundant changes) timestamp before was_before

  taken_first : tells → (left : List Bool) (named : Option (List ℕ)) → IsFoundBy old left named found → WasTaken old left named found (front redundant changes) timestamp before
  taken_first told left named by = record {
    every_slot = by.every_slot;
    is_found = by.is_found;
    stand = from.stand told;
    under = from.under;
    fit = from.seats;
    can_be_asked = front_asked redundant changes can;
    was_readied = was_before;
  }

  taken : tells → (left : List Bool) (named : Option (List ℕ)) → IsFoundBy old left named found → WasTaken old left named found changes timestamp ready
  taken told left named by = record {
    every_slot = by.every_slot;
    is_found = by.is_found;
    stand = from.stand told;
    under = from.under;
    fit = from.seats;
    can_be_asked = can;
    was_readied = was;
  }

  same_steps : (steps : List Step) → readied found (front redundant changes) timestamp ≡ Ok steps → steps_in (all_ready before) ≡ steps
  same_steps steps is = let same : ◌≡◌ {A = Result (List Step) GroupFault} (Ok (steps_in (all_ready before))) (Ok steps) = sym was_before.is_readied ∙ is in cc

  -- Of the changes that all of it issues the last are those of the steps that are left.
  issues_last : changes_in found (steps_in (rest marks ready.steps)) ≡ configs_of (rest marks ready.steps)
  issues_last =
      append_cancel_left (changes_ready found before) (changes_in found (steps_in (rest marks ready.steps))) (configs_of (rest marks ready.steps))
      (sym (changes_of_both found (steps_in (all_ready before)) (steps_in (rest marks ready.steps)))
      ∙ ap (changes_in found) (sym (all_parts found changes timestamp ready was redundant marks marks_is mark few))
      ∙ changes_parts found changes timestamp ready was
      ∙ ap (λ (all : List Configuration). recovery_changes timestamp found ++ all) (configs_split marks ready.steps)
      ∙ sym (append_assoc (recovery_changes timestamp found) (configs_of (front marks ready.steps)) (configs_of (rest marks ready.steps)))
      ∙ ap (λ (all : List Configuration). all ++ configs_of (rest marks ready.steps)) (sym (changes_parts found (front redundant changes) timestamp before was_before)))

  may : tells → MayRecover old found before
  may told = may_recover found (front redundant changes) timestamp before was_before old (from.held told) (from.stand told)

  module _ (middle : BayState D) (tells_middle : IsTold middle) where
    -- ---- a recovery that failed

    module _ (told : tells) (is : IsRecovery old middle found ready false) where
      pub recovery_keeps : (left : List Bool) (named : Option (List ℕ)) → IsFoundBy old left named found → (steps : List Step) → readied found (front redundant changes) timestamp ≡ Ok steps
          → KeepsHistories old middle left found steps false
      recovery_keeps left named by steps asked group same past kept admitted =
          subst (λ (all : List Step). KeepsHistory group old middle past left found (changes_in found all) false) (same_steps steps asked)
          (recovery_fails group past old middle tells_old tells_middle left named found (front redundant changes) timestamp before (taken_first told left named by) same kept admitted
          (record { any_moment = is.any_moment; changed = is.changed; settled = is.settled; ends = is.ends; spends = is.spends }))

      pub recovery_leaves : (first : List Step) → readied found (front redundant changes) timestamp ≡ Ok first → StopsLeave old middle (IsLeftWriting old first)
      recovery_leaves first asked =
          recover_leaves tells old found (front redundant changes) timestamp before from was_before told (reads_true old tells_old.held tells_old.whole) tells_old.only_now first asked middle
          is.spends.same_sizes is.any_moment (tell_of old middle tells_middle is.spends.told)

      pub recovery_aside : LeavesOthers old middle (slots_of found.seats)
      recovery_aside =
          recovery_beside tells old found (front redundant changes) timestamp before from was_before (may told) middle (is.any_moment (may told).seat (may told).may_change)

    -- ---- behind a recovery

    module _ (recovers_is : tells → IsRecovery old middle found ready true) (same_sizes : middle.sizes ≡ old.sizes) where
      abbrev first : (told : tells) → AreChanged (synced old (slots_of found.seats)) middle (recovery_slots before) (may told).seat (recovery_updates before) (length (recovery_slots before))
      first told = (recovers_is told).changed refl (may told).seat (may told).may_change

      holds_recovered : tells → HoldsGroup middle recovered
      holds_recovered told =
          recovered_held found (front redundant changes) timestamp before was_before old middle same_sizes (from.held told) (from.stand told) (may told) (first told)

      may_after : tells → MayWriteNext middle after
      may_after told = may_write_next middle recovered after (holds_recovered told) is_ready

      -- the first steps alone
      first_recovered : tells → IsRecovery old middle found before true
      first_recovered told =
          let is = recovers_is told in record { any_moment = is.any_moment; changed = is.changed; settled = is.settled; ends = is.ends; spends = is.spends }

      way_first : tells → AreUnderWay old middle found (steps_in (all_ready before)) recovered after
      way_first told left named by group same past kept admitted =
          recovers group past old middle tells_old tells_middle left named found (front redundant changes) timestamp before (taken_first told left named by) same kept admitted (first_recovered told)

      way_recovered : (told : tells) (left : List Bool) (named : Option (List ℕ)) → IsFoundBy old left named found → (group : List ℕ) → found.config.group ≡ group → (past : Past (groups group))
          → AreAllKept group past old → IsAdmitted group past old left found
          → IsUnderWay group old middle past left found (changes_ready found ready) recovered (record { recovery = None; steps = ready.steps })
      way_recovered told left named by group same past kept admitted =
          recovers group past old middle tells_old tells_middle left named found changes timestamp ready (taken told left named by) same kept admitted (recovers_is told)

      module _ (new : BayState D) (tells_new : IsTold new) (done : Bool) (commits_is : tells → IsCommit middle new after done) (told : tells) where
        pub commit_leaves_first : (steps : List Step) → readied found (front redundant changes) timestamp ≡ Ok steps → StopsLeave old new (IsLeftWriting old steps)
        commit_leaves_first steps asked =
            let is = commits_is told in
            commit_leaves tells old found (front redundant changes) timestamp before from was_before told (reads_true old tells_old.held tells_old.whole) tells_old.only_now steps asked middle same_sizes
            (recovers_is told).any_moment (tell_of old middle tells_middle (recovers_is told).spends.told) (may_after told) (reads_true middle tells_middle.held tells_middle.whole) new is.any_moment
            (tell_of middle new tells_new is.spends.told)

        pub commit_aside : LeavesOthers old new (slots_of found.seats)
        commit_aside =
            commit_beside tells old found (front redundant changes) timestamp before from was_before (may told) middle ((recovers_is told).any_moment (may told).seat (may told).may_change)
            (first told) (may_after told).seat new ((commits_is told).any_moment (may_after told).seat (may_after told).may_change)

      -- a mark that failed
      pub mark_keeps : (new : BayState D) → IsTold new → (told : tells) → (tells → IsCommit middle new after false)
          → (left : List Bool) (named : Option (List ℕ)) → IsFoundBy old left named found → (steps : List Step) → readied found (front redundant changes) timestamp ≡ Ok steps
          → KeepsHistories old new left found steps false
      mark_keeps new tells_new told commits_is left named by steps asked group same past kept admitted =
          subst (λ (all : List Step). KeepsHistory group old new past left found (changes_in found all) false) (same_steps steps asked)
          (commit_fails group past old middle new tells_middle tells_new left found (changes_ready found before) recovered after
          (way_first told left named by group same past kept admitted) ((commits_is told).any_moment (may_after told).seat (may_after told).may_change).later (commits_is told))

      -- ---- the group is opened

      abbrev Way : (new : BayState D) → Type 0
      Way new = tells → (left : List Bool) (named : Option (List ℕ)) → IsFoundBy old left named found → (group : List ℕ) → found.config.group ≡ group → (past : Past (groups group))
          → AreAllKept group past old → IsAdmitted group past old left found → IsUnderWay group old new past left found (changes_ready found ready) now_found last

      module _ (members : AreMembers (config_recovered found) found.seats) (new : BayState D) (tells_new : IsTold new) (recovers_spends : SpendsOver old middle (all_sectors (recovery_updates ready)) (length found.seats + all_calls (recovery_updates ready)))
          (commits_is : tells → IsCommit middle new after true) (commits_spends : SpendsOver middle new (all_sectors (next_updates after)) (all_calls (next_updates after))) where
        abbrev second : (told : tells) → AreChanged middle new (next_slots after) (may_after told).seat (next_updates after) (length (next_slots after))
        second told = (commits_is told).changed refl (may_after told).seat (may_after told).may_change

        sizes_same : new.sizes ≡ old.sizes
        sizes_same = commits_spends.same_sizes ∙ same_sizes

        -- A slot that is no seat's isn't written.
        not_written : (slots : List ℕ) → ((slot : ℕ) → IsOneOf slots slot → IsOneOf (slots_of found.seats) slot) → (s : ℕ) → is_slot (slots_of found.seats) s ≡ false
            → (place : ℕ) → slice_get slots place ≢ Some s
        not_written slots on s other place at =
            let one = on s (record { place = place; is_there = at }) in
            false≢true (sym other ∙ slot_is (slots_of found.seats) one.place s one.is_there)

        left_of_others : tells → (s l : ℕ) (bytes : List ℕ) → is_slot (slots_of found.seats) s ≡ false → new.may_hold s l bytes → old.may_hold s l bytes
        left_of_others told s l bytes other left =
            let behind = (second told).others_left s l bytes
            (λ place below at. not_written (next_slots after) (rest_on_seats tells old found (front redundant changes) timestamp before from was_before) s other place at) left in
            ((first told).others_left s l bytes
            (λ place below at. not_written (recovery_slots before) (recovery_on_seats found (front redundant changes) timestamp before was_before) s other place at) behind).0

        -- What is issued on the way are the changes of the first steps.
        way_no_further : tells → AreUnderWay old new found (steps_in (all_ready before)) now_found (record last { steps = [] })
        way_no_further told out named by group same past kept admitted =
            let is = commits_is told in
            let later = (is.any_moment (may_after told).seat (may_after told).may_change).later in
            subst (λ (one : ReadyValue). IsUnderWay group old new past out found (changes_ready found before) now_found one) (front_spent marks ready.steps)
            (commits group past old middle new tells_middle tells_new out found (changes_ready found before) recovered after (way_first told out named by group same past kept admitted) later is)

        pub opened : Way new → IsOpened tells old new found (front redundant changes) changes timestamp now_found last
        opened way =
            let parts = all_parts found changes timestamp ready was redundant marks marks_is mark few in
            record {
              steps = steps_in (all_ready before);
              are_first = first_readied found changes timestamp ready was redundant marks marks_is mark few;
              are_all = all_readied found changes timestamp ready was redundant marks marks_is mark few;
              is_config = config_is found changes timestamp ready was redundant marks marks_is mark few;
              same_seats = seats_same found changes timestamp ready was redundant marks marks_is mark few members;
              can_go_on = record {
                few = (split found changes timestamp ready was redundant marks marks_is mark few).few;
                is_ready = ready_rest recovered marks ready.steps (recovered_ready found changes timestamp ready was);
                anchored = committed_anchored new.sizes recovered after is_ready
                    (recovered_anchored found (front redundant changes) timestamp before was_before new.sizes
                    (subst (λ (sizes : List ℕ). HaveAnchors sizes found.newest) (sym sizes_same) from.under));
                holds = λ told. committed_holds middle new commits_spends.same_sizes recovered after (holds_recovered told) is_ready (may_after told) (second told);
              };
              floored = λ are. next_floored recovered after is_ready (recovered_floored found changes timestamp ready was are);
              are_written = λ told.
                  let done = done_to tells old found (front redundant changes) timestamp before from was_before (front_few redundant changes) middle new same_sizes
                  (λ one. (recovers_is one).changed refl) (λ one. (recovers_is one).settled refl) (λ one. (commits_is one).changed refl)
                  (none_asked old middle new _ _ ready.recovery (front marks ready.steps) recovers_spends.costs commits_spends.costs) in
                  let asked = asked_of (readied found (front redundant changes) timestamp) done.steps done.are_asked in
                  let same : done.steps ≡ steps_in (all_ready before) =
                  (let both : ◌≡◌ {A = Result (List Step) GroupFault} (Ok done.steps) (Ok (steps_in (all_ready before))) = sym asked ∙ was_before.is_readied in cc) in
                  subst (λ (steps : List Step). AreWritten old.sizes old.held steps new.held) same (done.are_written told);
              none_asked = none_asked old middle new _ _ ready.recovery (front marks ready.steps) recovers_spends.costs commits_spends.costs;
              others_left = left_of_others;
              issues = issues_last;
              under_way = λ told left named by group same past kept admitted.
                  subst (λ (steps : List Step). IsUnderWay group old new past left found (changes_in found steps) now_found last) parts (way told left named by group same past kept admitted);
              no_further = way_no_further;
              told = λ left. recovers_spends.told (commits_spends.told left);
            }

      -- ---- by what the calls promise

      module _ (left : ReadyValue) (left_is : ◌≡◌ {A = ReadyValue} left (record { recovery = None; steps = ready.steps })) where
        pub is_step_after : marks ≡ true → (new : BayState D) (done : Bool) → IsCommit middle new left done → IsCommit middle new after done
        is_step_after marked new done is =
            subst (λ (b : Bool). IsCommit middle new (record { recovery = None; steps = front b ready.steps }) done) (sym marked)
            (front_commit middle new ready.steps done (subst (λ (one : ReadyValue). IsCommit middle new one done) left_is is))

        spends_after : marks ≡ true → (new : BayState D) → SpendsOver middle new (all_sectors (next_updates left)) (all_calls (next_updates left))
            → SpendsOver middle new (all_sectors (next_updates after)) (all_calls (next_updates after))
        spends_after marked new spends =
            subst (λ (b : Bool). SpendsOver middle new (all_sectors (next_updates (record { recovery = None; steps = front b ready.steps }))) (all_calls (next_updates (record { recovery = None; steps = front b ready.steps }))))
            (sym marked)
            (front_spends middle new ready.steps
            (subst (λ (one : ReadyValue). SpendsOver middle new (all_sectors (next_updates one)) (all_calls (next_updates one))) left_is spends))

        abbrev recovery_spends : Type 0
        recovery_spends = SpendsOver old middle (all_sectors (recovery_updates ready)) (length found.seats + all_calls (recovery_updates ready))

        -- The mark was written.
        module _ (marked : marks ≡ true) (members : AreMembers (config_recovered found) found.seats) (recovers_spends : recovery_spends) (new : BayState D) (tells_new : IsTold new)
            (commits_is : tells → IsCommit middle new left true) (commits_spends : SpendsOver middle new (all_sectors (next_updates left)) (all_calls (next_updates left)))
            (seen : GroupValue) (seen_is : seen ≡ recovered) (new_found : GroupValue) (found_is : new_found ≡ group_next seen left) (new_ready : ReadyValue) (ready_is : new_ready ≡ left_behind left) where
          same_left : ◌≡◌ {A = ReadyValue} new_ready last
          same_left =
              ready_is ∙ ap left_behind left_is ∙ left_rest ready.steps ∙ ap (λ (b : Bool). rest_ready b ready.steps) (sym marked)

          same_found : ◌≡◌ {A = GroupValue} new_found now_found
          same_found =
              found_is ∙ ap (λ (one : GroupValue). group_next one left) seen_is ∙ ap (group_next recovered) left_is ∙ group_front recovered ready.steps
              ∙ ap (λ (b : Bool). group_next recovered (record { recovery = None; steps = front b ready.steps })) (sym marked)

          way_marked : Way new
          way_marked told out named by group same past kept admitted =
              let is = is_step_after marked new true (commits_is told) in
              let plain = subst (λ (one : ReadyValue). IsCommit middle new one true) left_is (commits_is told) in
              let later = (is.any_moment (may_after told).seat (may_after told).may_change).later in
              let way = commits group past old middle new tells_middle tells_new out found (changes_ready found ready) recovered (record { recovery = None; steps = ready.steps })
              (way_recovered told out named by group same past kept admitted) later plain in
              subst (λ (b : Bool). IsUnderWay group old new past out found (changes_ready found ready) (group_next recovered (record { recovery = None; steps = front b ready.steps })) (record { recovery = None; steps = rest b ready.steps }))
              (sym marked)
              (subst (λ (one : GroupValue). IsUnderWay group old new past out found (changes_ready found ready) one (record { recovery = None; steps = rest true ready.steps })) (group_front recovered ready.steps)
              (subst (λ (one : ReadyValue). IsUnderWay group old new past out found (changes_ready found ready) (group_next recovered (record { recovery = None; steps = ready.steps })) one) (left_rest ready.steps) way))

          pub opened_marked : IsOpened tells old new found (front redundant changes) changes timestamp new_found new_ready
          opened_marked =
              subst (λ (one : GroupValue). IsOpened tells old new found (front redundant changes) changes timestamp one new_ready) (sym same_found)
              (subst (λ (one : ReadyValue). IsOpened tells old new found (front redundant changes) changes timestamp now_found one) (sym same_left)
              (opened members new tells_new recovers_spends (λ told. is_step_after marked new true (commits_is told)) (spends_after marked new commits_spends) way_marked))

        -- No mark is to be written.
        module _ (unmarked : marks ≡ false) where
          pub no_step_after : IsCommit middle middle after true
          no_step_after = subst (λ (b : Bool). IsCommit middle middle (record { recovery = None; steps = front b ready.steps }) true) (sym unmarked) (none_commits middle)

          pub opened_unmarked : AreMembers (config_recovered found) found.seats → recovery_spends → (new_found : GroupValue) → new_found ≡ recovered
              → IsOpened tells old middle found (front redundant changes) changes timestamp new_found left
          opened_unmarked members recovers_spends new_found found_is =
              let way : Way middle = λ told out named by group same past kept admitted.
              subst (λ (b : Bool). IsUnderWay group old middle past out found (changes_ready found ready) (group_next recovered (record { recovery = None; steps = front b ready.steps })) (record { recovery = None; steps = rest b ready.steps }))
              (sym unmarked) (way_recovered told out named by group same past kept admitted) in
              let is = opened members middle tells_middle recovers_spends (λ told. no_step_after) (no_step_after.spends) way in
              let same_found : ◌≡◌ {A = GroupValue} now_found new_found =
              ap (λ (b : Bool). group_next recovered (record { recovery = None; steps = front b ready.steps })) unmarked ∙ sym found_is in
              let same_left : ◌≡◌ {A = ReadyValue} last left = ap (λ (b : Bool). rest_ready b ready.steps) unmarked ∙ sym left_is in
              subst (λ (one : GroupValue). IsOpened tells old middle found (front redundant changes) changes timestamp one left) same_found
              (subst (λ (one : ReadyValue). IsOpened tells old middle found (front redundant changes) changes timestamp now_found one) same_left is)
