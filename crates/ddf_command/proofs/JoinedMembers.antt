-- Behind an import that was done each current member of its configuration whose slot it read is one, as a history asks that one is read.
use Rattle.std.proofs.Common.{◌≡◌, ℕ, ◌≤◌, Bool, true, List, Some, ap, sym, ◌∙◌, subst}
use Rattle.std.specs.Prelude.{slice_get}
use Rattle.ddf_bay.specs.State.{BayState}
use Rattle.ddf_config.specs.Configuration.{Configuration}
use Rattle.ddf_view.specs.View.{View}
use Rattle.ddf_history.specs.Answer.{HasMember}
use Rattle.ddf_history.specs.Groups.{Disk, groups, has_current}
use Rattle.ddf_history.specs.History.{Moment}
use Rattle.ddf_history.specs.Issued.{Past}
use Rattle.ddf_history.specs.Promise.{IsKept}
use Rattle.ddf_history.specs.Reading.{Scene}
use Rattle.ddf_history.proofs.Members.{own_member}
use Rattle.ddf_history.proofs.Sound.{groups_are_sound}
use Rattle.ddf_history_steps.specs.Going.{Ends, IsOver, KeepsSlots}
use Rattle.ddf_history_steps.specs.Kept.{AreAllKept, is_read}
use Rattle.ddf_history_steps.specs.Steps.{recovery_changes}
use Rattle.ddf_history_steps.proofs.LastIssued.{last_more, over_last}
use Rattle.ddf_history_steps.proofs.SlotsKept.{ends_slots}
use Rattle.ddf_group_commands.specs.Change.{is_done}
use Rattle.ddf_command.specs.History.{IsJoinEnd, JoinCall, Leaves, joins_of, kept_by_join}

module _ {B : Type 0} {tells : Type 0} (told : tells) (disks : B → BayState B) (group : List ℕ) (old new : Moment (groups group) B) (end : IsJoinEnd told disks group old new)
    (done : is_done end.call.outcome ≡ true) where
  abbrev ended : JoinCall told disks group old
  ended = end.call

  abbrev readable : ℕ → Bool
  readable = is_read ended.imported.first.left

  -- what the call issued
  abbrev issued : List Configuration
  issued = joins_of told disks group old ended

  ends : (now : Past (groups group)) × Ends group old.past readable ended.group issued (is_done ended.outcome) now × AreAllKept group now (disks ended.exit)
  ends = (kept_by_join told disks group old ended end.kept).ends end.tells_left

  over : IsOver group old.past readable ended.group issued new.past
  unfolding ends
  over =
      subst (IsOver group old.past readable ended.group issued) (sym end.is_past)
      (subst (λ (b : Bool). Ends group old.past readable ended.group issued b ends.0) done ends.1)

  pub slots : KeepsSlots group old.past new.past readable ended.group
  slots = ends_slots group old.past readable ended.group issued true new.past over

  -- The join's configuration is the last acknowledged one.
  last_is : slice_get new.past.changes.issued new.past.changes.acked ≡ Some ended.made.step.config
  last_is =
      over_last group old.past readable ended.group issued new.past over
      ∙ last_more ended.group.config (recovery_changes ended.timestamp ended.group) ended.made.step.config

  module _ (own : new.past.changes.own_from ≤ new.past.changes.acked) (scene : Scene View) (leaves : Leaves told disks group new.bay scene) (reads : ℕ → Bool) where
    pub kept : IsKept new.past scene
    unfolding ends
    kept = let last = end.is_left scene leaves in rw (end.is_past, last.is_shown) (ends.2 last.image last.is_left)

    -- A slot that it read, with the disk of a current member of that, is a current member.
    pub joined_member : (slot : ℕ) → readable slot ≡ true → has_current ended.made.step.config (old.past.disk slot) ≡ true → reads slot ≡ true → HasMember new.past scene reads
    joined_member slot read current is =
        let same : new.past.disk slot ≡ old.past.disk slot = ap (λ (disk : ℕ → Disk). disk slot) slots.same_disks in
        own_member (groups group) (groups_are_sound group) new.past scene kept slot ended.made.step.config last_is (ap (has_current ended.made.step.config) same ∙ current)
        (slots.not_lost slot read ∙ ended.admitted.may_read.not_lost slot read) reads is own
