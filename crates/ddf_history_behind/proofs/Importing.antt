-- A call that recovers a group and writes a join leaves no disk further behind than one change and what is lost.
use Rattle.std.proofs.Common.{◌≡◌, ℕ, ◌+◌, ◌≤◌, Bool, true, false, List, [], ◌∷◌, length, Option, inl, inr, sym, subst, arith}
use Rattle.ddf_bay.specs.Sectors.{Image, IsLeft}
use Rattle.ddf_bay.specs.State.{BayState}
use Rattle.ddf_config.specs.Configuration.{Configuration}
use Rattle.ddf_history.specs.Groups.{groups}
use Rattle.ddf_history.specs.Issued.{Past}
use Rattle.ddf_history.specs.Promise.{IsKept}
use Rattle.ddf_history.specs.Scenes.{scene_of}
use Rattle.ddf_recovery.specs.Committed.{group_recovered}
use Rattle.ddf_recovery.specs.Ready.{ReadyValue}
use Rattle.ddf_seats.specs.Group.{GroupValue}
use Rattle.ddf_seats.specs.Seated.{seated}
use Rattle.ddf_joining.specs.Importing.{IsOfAnother}
use Rattle.ddf_joining.specs.Joining.{join_config}
use Rattle.ddf_joining.specs.JoinValue.{JoinValue}
use Rattle.ddf_history_steps.specs.Going.{Ends, Goes, IsAdmitted, IsOver, IsUnderway, KeepsHistory}
use Rattle.ddf_history_steps.specs.Kept.{AreAllKept, ReadsTrue, is_read}
use Rattle.ddf_history_steps.specs.Steps.{IsRecovery, StandsReady, WasTaken, behind_recovery, recovery_changes}
use Rattle.ddf_history_steps.proofs.CommittingGoes.{change_goes, change_over}
use Rattle.ddf_history_steps.proofs.RecoveringKeeps.{recovery_further, recovery_keeps, recovery_stands}
use Rattle.ddf_history_joins.specs.Joins.{AdmitsCall, EndsJoin, GoesToJoin, IsImport, StandsToJoin, WereBothTaken, behind_join, import_changes, with_join}
use Rattle.ddf_history_joins.proofs.JoinAdmits.{admits_behind}
use Rattle.ddf_history_joins.proofs.JoinTaken.{stands_to_join, was_taken}
use Rattle.ddf_history_behind.specs.Behind.{AreNear, KeepsNear, KeepsNearJoin}
use Rattle.ddf_history_behind.proofs.Course.{goes_more}
use Rattle.ddf_history_behind.proofs.Joining.{import_near}
use Rattle.ddf_history_behind.proofs.Recovering.{few_issued, goes_near}

module _ (group : List ℕ) {D : Type 0} (past : Past (groups group)) (state : BayState D) (left also_left : List Bool) (named also_named : Option (List ℕ)) (native other : GroupValue)
    (timestamp : ℕ) (recovery : ReadyValue) (join : JoinValue) (taken : WereBothTaken state left also_left named also_named native other timestamp recovery join)
    (same_group : native.config.group ≡ group) (kept : AreAllKept group past state) (admitted : IsAdmitted group past state left native) (near : AreNear group past.changes) where
  -- what the recovery issues, and what the call does
  abbrev first : List Configuration
  first = recovery_changes timestamp native

  abbrev all : List Configuration
  all = import_changes group timestamp native join

  was : WasTaken state left named native [] timestamp recovery
  was = was_taken state left also_left named also_named native other timestamp recovery join taken

  first_near : (now : Past (groups group)) → Goes group past (is_read left) native first now → AreNear group now.changes
  first_near = goes_near group past admitted.is_kept.chain native was.was_readied.assembled.are_current near (is_read left) first (few_issued timestamp native)

  module _ (middle : BayState D) (recovered : IsRecovery state middle native recovery true) (others : IsOfAnother (join_config native other) (seated other))
      (call : AdmitsCall group past state native other) (reads : ReadsTrue state) (mid_left : IsLeft middle.may_hold middle.held) where
    -- Behind the recovery the group stands to be joined.
    stood : (now : Past (groups group)) × IsOver group past (is_read left) native first now × StandsReady group now middle (group_recovered native recovery.recovery) (behind_recovery recovery)
    stood = recovery_stands past state left named native [] timestamp recovery was same_group kept admitted reads middle recovered mid_left

    abbrev behind : Past (groups group)
    behind = stood.0

    stands : StandsToJoin group behind middle timestamp native other recovery join
    stands =
        stands_to_join state left also_left named also_named native other timestamp recovery join taken group behind middle stood.2.at_end others
        (admits_behind group past state left also_left named also_named native other timestamp recovery join taken same_group kept admitted reads middle recovered behind stood.1
        stood.2.at_end call)

    -- how far the call came then
    behind_goes : Goes group past (is_read left) native all behind
    unfolding stood
    behind_goes =
        inr (recovery_further past state left named native [] timestamp recovery was same_group kept admitted reads middle recovered mid_left (join.one.step.config ∷ []))

    abbrev last : ℕ
    last = stood.1.number + length first

    join_goes : Goes group past (is_read left) native all (with_join group behind join)
    join_goes =
        inr (subst (λ (now : Past (groups group)). IsUnderway group past (is_read left) native all (with_join group now join)) (sym stood.1.is_now)
        (change_goes group past (is_read left) native stood.1.number stood.1.since first join.one.step.config last (inr (omega arith)) (omega arith)))

    join_over : IsOver group past (is_read left) native all (behind_join group behind join)
    join_over =
        subst (λ (now : Past (groups group)). IsOver group past (is_read left) native all (behind_join group now join)) (sym stood.1.is_now)
        (change_over group past (is_read left) native stood.1.number stood.1.since first join.one.step.config last)

    either : (now : Past (groups group)) → GoesToJoin group behind join now → Goes group past (is_read left) native all now
    either now (inl same) = subst (Goes group past (is_read left) native all) (sym same) behind_goes
    either now (inr same) = subst (Goes group past (is_read left) native all) (sym same) join_goes

    ends : (done : Bool) (now : Past (groups group)) → EndsJoin group behind join done now → Ends group past (is_read left) native all done now
    ends true now same = subst (IsOver group past (is_read left) native all) (sym same) join_over
    ends false now goes = either now goes

    module _ (new : BayState D) (done : Bool) (is : IsImport middle new join done) (new_left : new.tells_left → IsLeft new.may_hold new.held) (mid_held : middle.tells_left → IsLeft middle.may_hold middle.held) where
      keeps : KeepsNearJoin group middle new behind join done
      keeps = import_near group behind middle timestamp native other recovery join stands new done is new_left

      before : KeepsHistory group state middle past left native first true
      before = recovery_keeps past state left named native [] timestamp recovery was same_group kept admitted reads middle true recovered mid_held

      -- The call keeps the history near,
      pub import_call_near : KeepsNear group state new past left native (import_changes group timestamp native join) done
      import_call_near = record {
        any_moment = record {
          later = let one = before.any_moment.later in let two = keeps.any_moment.later in omega (arith, one, two);
          since = λ t image le was_left. elim (keeps.any_moment.since t image (let later = before.any_moment.later in omega (arith, le, later)) was_left) [
            | inl earlier ↦ elim (before.any_moment.since t image le earlier) [
              | inl at_first ↦ inl at_first
              | inr now ↦ inr (now.0, goes_more group past (is_read left) native first (join.one.step.config ∷ []) now.0 now.1, first_near now.0 now.1, now.2)
            ]
            | inr now ↦ inr (now.0, either now.0 now.1, now.2, subst (λ (sizes : List ℕ). IsKept now.0 (scene_of sizes image)) recovered.spends.same_sizes now.3)
          ];
        };
        ends = λ tells. let now = keeps.ends tells in (now.0, ends done now.0 now.1, now.2, now.3);
      }

-- where the bay tells so.
pub near_where_told : (group : List ℕ) {D : Type 0} (past : Past (groups group)) (left : List Bool) (found : GroupValue) (changes : List Configuration) (done : Bool) (old new : BayState D)
    → old.moment ≤ new.moment → ((t : ℕ) (image : Image) → new.left_since t image → new.tells_left)
    → (new.tells_left → KeepsNear group old new past left found changes done) → KeepsNear group old new past left found changes done
near_where_told group past left found changes done old new later told keeps = record {
  any_moment = record { later = later; since = λ t image le was_left. (keeps (told t image was_left)).any_moment.since t image le was_left };
  ends = λ tells. (keeps tells).ends tells;
}
