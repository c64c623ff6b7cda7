-- A join that is written behind a recovery is near what it is issued behind.
use Rattle.std.proofs.Common.{◌≡◌, ℕ, ◌+◌, ◌≤◌, Bool, true, false, List, [], length, ap, sym, subst, inl, inr, arith}
use Rattle.std.proofs.lemmas.Option.{slice_get_within}
use Rattle.ddf_bay.specs.Sectors.{IsLeft}
use Rattle.ddf_bay.specs.State.{BayState}
use Rattle.ddf_config.specs.Configuration.{Configuration}
use Rattle.ddf_history.specs.Groups.{groups}
use Rattle.ddf_history.specs.Issued.{Past, issued}
use Rattle.ddf_seats.specs.Group.{GroupValue}
use Rattle.ddf_steps.specs.Steps.{Step}
use Rattle.ddf_recovery.specs.Committed.{group_recovered}
use Rattle.ddf_recovery.specs.Ready.{ReadyValue}
use Rattle.ddf_recovery.specs.Recovery.{config_recovered}
use Rattle.ddf_recovery.proofs.RecoveredGroup.{is_recovered}
use Rattle.ddf_joining.specs.Joining.{join_config}
use Rattle.ddf_joining.specs.JoinValue.{JoinValue}
use Rattle.ddf_joining.proofs.JoinReadied.{was}
use Rattle.ddf_history_joins.specs.Joins.{EndsJoin, GoesToJoin, IsImport, StandsToJoin, behind_join, with_join}
use Rattle.ddf_history_joins.proofs.JoinKeeps.{import_keeps}
use Rattle.ddf_history_joins.proofs.JoinTries.{step_is}
use Rattle.ddf_history_behind.specs.Behind.{AreNear, KeepsNearJoin, most_between}
use Rattle.ddf_history_behind.proofs.Near.{near_acknowledged, near_issued, near_last, only_last}
use Rattle.ddf_history_behind.proofs.Steps.{raised_most}

module _ (group : List ℕ) {D : Type 0} (past : Past (groups group)) (state : BayState D) (timestamp : ℕ) (native other : GroupValue) (recovery : ReadyValue) (join : JoinValue)
    (stands : StandsToJoin group past state timestamp native other recovery join) where
  -- the group behind its recovery, and the join's configuration
  abbrev found : GroupValue
  found = group_recovered native recovery.recovery

  abbrev next : Configuration
  next = join.one.step.config

  config_is : next ≡ join_config native other
  config_is = ap (λ (one : Step). one.config) (step_is timestamp stands.time native other recovery join stands.is_readied stands.assembled stands.other_assembled stands.recovers)

  found_is : found.config ≡ config_recovered native
  found_is =
      (is_recovered native [] timestamp recovery
      (was timestamp native other recovery join stands.is_readied stands.none_behind stands.time stands.assembled stands.other_assembled stands.recovers stands.follows)).config_is

  -- It takes one number.
  one_further : next.sequence ≤ found.config.sequence + most_between found.config next
  one_further =
      let own : next.sequence ≡ (join_config native other).sequence = ap (λ (config : Configuration). config.sequence) config_is in
      let behind : found.config.sequence ≡ (config_recovered native).sequence = ap (λ (config : Configuration). config.sequence) found_is in
      let most = raised_most (config_recovered native).sequence 1 in
      omega (arith, own, behind, most)

  past_near : AreNear group past.changes
  past_near = near_last group past.changes found.config stands.at_end.is_last

  join_near : AreNear group (with_join group past join).changes
  join_near =
      near_issued group past.changes next past_near
      (λ i earlier at. subst (λ (config : Configuration). next.sequence ≤ config.sequence + most_between config next) (sym (only_last group past.changes found.config stands.at_end.is_last i earlier at)) one_further)

  behind_near : AreNear group (behind_join group past join).changes
  behind_near =
      let within = slice_get_within past.changes.issued past.changes.acked found.config stands.at_end.is_last.since.is_there in
      near_acknowledged group (issued past.changes next) (length past.changes.issued) (omega (arith, within)) join_near

  goes_near : (now : Past (groups group)) → GoesToJoin group past join now → AreNear group now.changes
  goes_near now (inl same) = subst (λ (one : Past (groups group)). AreNear group one.changes) (sym same) past_near
  goes_near now (inr same) = subst (λ (one : Past (groups group)). AreNear group one.changes) (sym same) join_near

  ends_near : (done : Bool) (now : Past (groups group)) → EndsJoin group past join done now → AreNear group now.changes
  ends_near true now same = subst (λ (one : Past (groups group)). AreNear group one.changes) (sym same) behind_near
  ends_near false now goes = goes_near now goes

  -- The call keeps the history near.
  pub import_near : (new : BayState D) (done : Bool) → IsImport state new join done → (new.tells_left → IsLeft new.may_hold new.held) → KeepsNearJoin group state new past join done
  import_near new done is new_left =
      let keeps = import_keeps group past state timestamp native other recovery join stands new done is new_left in
      record {
        any_moment = record {
          later = keeps.any_moment.later;
          since = λ t image le was_left. elim (keeps.any_moment.since t image le was_left) [
            | inl before ↦ inl before
            | inr now ↦ inr (now.0, now.1, goes_near now.0 now.1, now.2)
          ];
        };
        ends = λ tells. let now = keeps.ends tells in (now.0, now.1, ends_near done now.0 now.1, now.2);
      }
