-- A call that recovers a group and writes a join keeps each history that admits it, at every moment since its entry and at its end.
use Rattle.std.proofs.Common.{◌≡◌, ◌⊎◌, ℕ, ◌+◌, ◌≤◌, Bool, true, false, List, [], ◌∷◌, ◌++◌, length, Option, inl, inr, refl, ap, sym, ◌∙◌, subst, arith, length-append}
use Rattle.std.proofs.lemmas.List.{take-append-le}
use Rattle.ddf_bay.specs.Moments.{StopsLeave}
use Rattle.ddf_bay.specs.Sectors.{Image, IsLeft}
use Rattle.ddf_bay.specs.State.{BayState}
use Rattle.ddf_config.specs.Configuration.{Configuration}
use Rattle.ddf_history.specs.Groups.{groups}
use Rattle.ddf_history.specs.Issued.{Past, acknowledge}
use Rattle.ddf_history.specs.Promise.{IsKept}
use Rattle.ddf_history.specs.Scenes.{scene_of}
use Rattle.ddf_recovery.specs.Committed.{HoldsGroup, MayRecover, group_recovered}
use Rattle.ddf_seats.specs.Group.{GroupValue}
use Rattle.ddf_assembly.specs.Held.{AreHeldOn}
use Rattle.ddf_joining.specs.Importing.{IsJoinOf, IsOfAnother, MayJoinDisks}
use Rattle.ddf_joining.specs.Joining.{join_config, join_leaders}
use Rattle.ddf_joining.specs.JoinValue.{JoinValue}
use Rattle.ddf_recovery.specs.Ready.{ReadyValue}
use Rattle.ddf_seats.specs.Seated.{seated}
use Rattle.ddf_joining.proofs.JoinReadied.{is_join}
use Rattle.ddf_joining.proofs.JoinWritten.{may_join}
use Rattle.ddf_recovery.proofs.RecoveryWritten.{may_recover, recovered_held}
use Rattle.ddf_history_steps.specs.Going.{Goes, IsAdmitted, IsOver, IsUnderway, KeepsHistory, begun, issue_all}
use Rattle.ddf_history_joins.specs.Joins.{AdmitsCall, IsImport, KeepsJoin, StandsToJoin, WereBothTaken, behind_join, import_changes, with_join}
use Rattle.ddf_history_steps.specs.Kept.{AreAllKept, ReadsTrue, is_read}
use Rattle.ddf_history_steps.specs.Steps.{IsRecovery, StandsReady, WasTaken, behind_recovery, recovery_changes}
use Rattle.ddf_history_steps.proofs.CommittingGoes.{change_goes, change_over}
use Rattle.ddf_history_joins.proofs.JoinAdmits.{admits_behind}
use Rattle.ddf_history_joins.proofs.JoinKeeps.{import_keeps}
use Rattle.ddf_history_joins.proofs.JoinTaken.{are_apart, same_newest, stands_to_join, was_taken}
use Rattle.ddf_history_steps.proofs.RecoveringKeeps.{group_held, recovery_further, recovery_keeps, recovery_stands}

module _ (group : List ℕ) (past : Past (groups group)) (readable : ℕ → Bool) (found : GroupValue) (changes later : List Configuration) where
  -- A call that came so far with its changes did with others behind them.
  pub more_goes : (now : Past (groups group)) → Goes group past readable found changes now → Goes group past readable found (changes ++ later) now
  more_goes now (inl same) = inl same
  more_goes now (inr is) =
      let more : length (changes ++ later) ≡ length changes + length later = length-append changes later in
      inr (record {
        number = is.number;
        since = is.since;
        issued = is.issued;
        few = let few = is.few in omega (arith, few, more);
        loses = is.loses;
        acked = is.acked;
        stands = is.stands;
        most = is.most;
        in_turn = is.in_turn;
        is_now = is.is_now
            ∙ ap (λ (some : List Configuration). acknowledge (issue_all group (begun group past readable found is.number) some) is.acked) (sym (take-append-le is.issued changes later is.few));
      })

module _ (group : List ℕ) {D : Type 0} (past : Past (groups group)) (state : BayState D) (left also_left : List Bool) (named also_named : Option (List ℕ)) (native other : GroupValue)
    (timestamp : ℕ) (recovery : ReadyValue) (join : JoinValue) (taken : WereBothTaken state left also_left named also_named native other timestamp recovery join)
    (same_group : native.config.group ≡ group) (kept : AreAllKept group past state) (admitted : IsAdmitted group past state left native) where
  abbrev readable : ℕ → Bool
  readable = is_read left

  -- what the recovery issues, and what the call does
  abbrev first : List Configuration
  first = recovery_changes timestamp native

  abbrev all : List Configuration
  all = import_changes group timestamp native join

  was : WasTaken state left named native [] timestamp recovery
  was = was_taken state left also_left named also_named native other timestamp recovery join taken

  held : AreHeldOn state native.newest
  held = group_held state left named native taken.is_found

  pub may : MayRecover state native recovery
  may = may_recover native [] timestamp recovery was.was_readied state held was.stand

  -- Where the recovery fails so it is.
  pub import_fails : (new : BayState D) → IsRecovery state new native recovery false → (new.tells_left → IsLeft new.may_hold new.held) → ReadsTrue state
      → KeepsHistory group state new past left native (import_changes group timestamp native join) false
  import_fails new is now_left reads =
      let keeps = recovery_keeps past state left named native [] timestamp recovery was same_group kept admitted reads new false is now_left in
      record {
        any_moment = record {
          later = keeps.any_moment.later;
          since = λ t image le was_left. elim (keeps.any_moment.since t image le was_left) [
            | inl before ↦ inl before
            | inr now ↦ inr (now.0, more_goes group past readable native first (join.one.step.config ∷ []) now.0 now.1, now.2)
          ];
        };
        ends = λ tells. let end = keeps.ends tells in (end.0, more_goes group past readable native first (join.one.step.config ∷ []) end.0 end.1, end.2);
      }

  module _ (middle : BayState D) (recovered : IsRecovery state middle native recovery true) (others : IsOfAnother (join_config native other) (seated other))
      (call : AdmitsCall group past state native other) where
    -- The join may be written to the disks as the recovery left them.
    holds : HoldsGroup middle (group_recovered native recovery.recovery)
    holds =
        recovered_held native [] timestamp recovery was.was_readied state middle recovered.spends.same_sizes held was.stand may (recovered.changed refl may.seat may.may_change)

    is_a_join : IsJoinOf timestamp (join_leaders timestamp native other) (group_recovered native recovery.recovery) other join
    is_a_join =
        is_join timestamp native other recovery join taken.is_readied taken.none_behind taken.time taken.assembled taken.other_assembled taken.recovers taken.follows
        (same_newest state left also_left named also_named native other timestamp recovery join taken)
        (are_apart state left also_left named also_named native other timestamp recovery join taken) others

    can : MayJoinDisks middle join
    can = may_join timestamp (join_leaders timestamp native other) (group_recovered native recovery.recovery) other join is_a_join middle holds

    module _ (reads : ReadsTrue state) (mid_left : IsLeft middle.may_hold middle.held) where
      -- Behind the recovery the group stands to be joined.
      stood : (now : Past (groups group)) × IsOver group past readable native first now
          × StandsReady group now middle (group_recovered native recovery.recovery) (behind_recovery recovery)
      stood = recovery_stands past state left named native [] timestamp recovery was same_group kept admitted reads middle recovered mid_left

      abbrev behind : Past (groups group)
      behind = stood.0

      stands : StandsToJoin group behind middle timestamp native other recovery join
      stands =
          stands_to_join state left also_left named also_named native other timestamp recovery join taken group behind middle stood.2.at_end others
          (admits_behind group past state left also_left named also_named native other timestamp recovery join taken same_group kept admitted reads middle recovered behind stood.1
          stood.2.at_end call)

      behind_goes : Goes group past readable native all behind
      unfolding stood
      behind_goes =
          inr (recovery_further past state left named native [] timestamp recovery was same_group kept admitted reads middle recovered mid_left (join.one.step.config ∷ []))

      -- the number of the last change of the recovery
      abbrev last : ℕ
      last = stood.1.number + length first

      join_goes : Goes group past readable native all (with_join group behind join)
      join_goes =
          inr (subst (λ (now : Past (groups group)). IsUnderway group past readable native all (with_join group now join)) (sym stood.1.is_now)
          (change_goes group past readable native stood.1.number stood.1.since first join.one.step.config last (inr (omega arith)) (omega arith)))

      join_over : IsOver group past readable native all (behind_join group behind join)
      join_over =
          subst (λ (now : Past (groups group)). IsOver group past readable native all (behind_join group now join)) (sym stood.1.is_now)
          (change_over group past readable native stood.1.number stood.1.since first join.one.step.config last)

      either : (now : Past (groups group)) → (now ≡ behind) ⊎ (now ≡ with_join group behind join) → Goes group past readable native all now
      either now (inl same) = subst (Goes group past readable native all) (sym same) behind_goes
      either now (inr same) = subst (Goes group past readable native all) (sym same) join_goes

      module _ (new : BayState D) (done : Bool) (is : IsImport middle new join done) (new_left : new.tells_left → IsLeft new.may_hold new.held) (mid_held : middle.tells_left → IsLeft middle.may_hold middle.held) where
        keeps : KeepsJoin group middle new behind join done
        keeps = import_keeps group behind middle timestamp native other recovery join stands new done is new_left

        before : KeepsHistory group state middle past left native first true
        before = recovery_keeps past state left named native [] timestamp recovery was same_group kept admitted reads middle true recovered mid_held

        moment : (t : ℕ) (image : Image) → t ≤ state.moment → new.left_since t image
            → state.left_since t image ⊎ ((now : Past (groups group)) × Goes group past readable native all now × IsKept now (scene_of state.sizes image))
        moment t image le was_left = elim (keeps.any_moment.since t image (let later = before.any_moment.later in omega (arith, le, later)) was_left) [
          | inl earlier ↦ elim (before.any_moment.since t image le earlier) [
            | inl at_first ↦ inl at_first
            | inr now ↦ inr (now.0, more_goes group past readable native first (join.one.step.config ∷ []) now.0 now.1, now.2)
          ]
          | inr now ↦ inr (now.0, either now.0 now.1, subst (λ (sizes : List ℕ). IsKept now.0 (scene_of sizes image)) recovered.spends.same_sizes now.2)
        ]

      ended : (new : BayState D) → IsImport middle new join true → (new.tells_left → IsLeft new.may_hold new.held) → new.tells_left
          → (now : Past (groups group)) × IsOver group past readable native all now × AreAllKept group now new
      ended new is new_left tells =
          let end = (import_keeps group behind middle timestamp native other recovery join stands new true is new_left).ends tells in
          (end.0, subst (IsOver group past readable native all) (sym end.1) join_over, end.2)

      cut_short : (new : BayState D) → IsImport middle new join false → (new.tells_left → IsLeft new.may_hold new.held) → new.tells_left
          → (now : Past (groups group)) × Goes group past readable native all now × AreAllKept group now new
      cut_short new is new_left tells =
          let end = (import_keeps group behind middle timestamp native other recovery join stands new false is new_left).ends tells in
          (end.0, either end.0 end.1, end.2)

    module _ (new : BayState D) (told : (t : ℕ) (image : Image) → new.left_since t image → new.tells_left) (new_left : new.tells_left → IsLeft new.may_hold new.held)
        (mid_held : middle.tells_left → IsLeft middle.may_hold middle.held) (back : state.tells_left → ReadsTrue state) where
      -- The moments of the whole call.
      moments : (done : Bool) → IsImport middle new join done
          → StopsLeave state new (λ image. (now : Past (groups group)) × Goes group past readable native all now × IsKept now (scene_of state.sizes image))
      moments done is = record {
        later = let one = (recovered.any_moment may.seat may.may_change).later in let two = (is.any_moment can.seat can.may_change).later in omega (arith, one, two);
        since = λ t image le was_left.
            let mid = is.spends.told (told t image was_left) in
            moment (back (recovered.spends.told mid)) (mid_held mid) new done is new_left mid_held t image le was_left;
      }

      -- The call keeps the history.
      pub import_call : (done : Bool) → IsImport middle new join done → KeepsHistory group state new past left native (import_changes group timestamp native join) done
      import_call true is = record {
        any_moment = moments true is;
        ends = λ tells. let mid = is.spends.told tells in ended (back (recovered.spends.told mid)) (mid_held mid) new is new_left tells;
      }
      import_call false is = record {
        any_moment = moments false is;
        ends = λ tells. let mid = is.spends.told tells in cut_short (back (recovered.spends.told mid)) (mid_held mid) new is new_left tells;
      }
