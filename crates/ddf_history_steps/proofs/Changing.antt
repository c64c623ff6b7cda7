-- What a change writes may be written, and leaves each slot showing what it should.
use Rattle.std.proofs.Common.{◌≡◌, ◌⊎◌, ℕ, Bool, true, false, List, length}
use Rattle.ddf_config.specs.Configuration.{Configuration}
use Rattle.ddf_copy.specs.declared.copy.DiskCopy.{DiskCopy}
use Rattle.ddf_copy.specs.Written.{CanBeCopy}
use Rattle.ddf_view.specs.View.{View, view_of}
use Rattle.ddf_rewrite.specs.Before.{Before}
use Rattle.ddf_rewrite.specs.Changing.{CanChange}
use Rattle.ddf_rewrite.specs.Copies.{changed_copy}
use Rattle.ddf_history.specs.Reading.{Scene, IsCopyOf}
use Rattle.ddf_history.specs.Reading.Shown.{One}
use Rattle.ddf_history.specs.Groups.{groups, disk_of, has_current}
use Rattle.ddf_history.specs.Issued.{Past, is_away, issue, acknowledge}
use Rattle.ddf_history.specs.Promise.{IsKept}
use Rattle.ddf_history.specs.Steps.{DoRemain, IsLast, MayFollow, MayWrite, AreWritten, JoinLast, GivesAfter, AllShow, OthersLast}
use Rattle.ddf_history.proofs.Sound.{groups_are_sound}
use Rattle.ddf_history_steps.proofs.TheoryLast.{last_acknowledged, last_next}
use Rattle.ddf_history_steps.proofs.TheoryChange.{AreNew, next_acknowledged, next_gives, next_issued, next_joins_last, next_kept, next_may_write, next_shown, next_turned_last}
use Rattle.ddf_history_steps.proofs.ChangingCopies.{changed_are_new, changed_views, old_are_ours}

module _ (group : List ℕ) (past : Past (groups group)) (scene : Scene View) (kept : IsKept past scene) (n : ℕ) (last next : Configuration)
    (at_last : IsLast past.changes n last) (follow : MayFollow (groups group) last next)
    (remains : (n ≡ past.changes.acked) ⊎ DoRemain (groups group) (λ s. is_away past s ≡ false) past.disk last next) where
  -- A configuration that may follow may be issued.
  pub issued_kept : IsKept (issue past next) scene
  issued_kept = next_issued (groups group) (groups_are_sound group) past scene kept n last next at_last follow remains

  -- It is the last one.
  pub change_last : IsLast (issue past next).changes (length past.changes.issued) next
  change_last = last_next past.changes n last next at_last

  -- So it is where it is acknowledged.
  pub acknowledged_last : IsLast (acknowledge (issue past next) (length past.changes.issued)).changes (length past.changes.issued) next
  acknowledged_last = last_acknowledged (issue past next).changes (length past.changes.issued) next change_last

  -- The seats' slots show their old copies. These name current members, before and after, and their new copies can be written.
  module _ (same_group : next.group ≡ group) (timestamp : ℕ) (leaders : Before) (seats : ℕ → Bool) (old : ℕ → DiskCopy)
      (shown : (slot : ℕ) → seats slot ≡ true → IsCopyOf (scene slot) (view_of (old slot)))
      (claimed : (slot : ℕ) → seats slot ≡ true → has_current last (disk_of (view_of (old slot))) ≡ true)
      (stays : (slot : ℕ) → seats slot ≡ true → has_current next (disk_of (view_of (old slot))) ≡ true)
      (can : (slot : ℕ) → seats slot ≡ true → CanChange (old slot) leaders next timestamp)
      (are_copies : (slot : ℕ) → seats slot ≡ true → CanBeCopy (changed_copy (old slot) leaders next timestamp)) where
    -- what the new copies show
    abbrev new : ℕ → View
    new = changed_views old leaders next timestamp

    -- The new copies are what is asked of them.
    are_new : AreNew (groups group) past next seats new
    are_new = changed_are_new group past scene kept n last next at_last.since same_group leaders timestamp seats old shown claimed stays can are_copies

    -- They may be written.
    pub change_may_write : MayWrite (issue past next) scene (length past.changes.issued) next seats new
    change_may_write = next_may_write (groups group) (groups_are_sound group) past scene kept n last next at_last follow remains seats new are_new

    module _ (after : Scene View) (written : AreWritten seats new scene after) where
      -- No disk joins by it: a seat whose disk joined before shows a copy of the group, so it shows such a configuration already.
      pub change_joins_last : (ours : (slot : ℕ) → seats slot ≡ true → (old slot).header.guid ≡ group) → JoinLast (issue past next) seats new after
      change_joins_last ours =
          next_joins_last (groups group) (groups_are_sound group) past scene kept n last next at_last follow remains seats new are_new after written
          (old_are_ours group seats old scene shown ours)

      -- So it is where slots that show nothing of the group are written last, and each member's is written.
      pub change_turned_last : OthersLast (groups group) seats new scene after → ((slot : ℕ) → is_away past slot ≡ false → has_current next (past.disk slot) ≡ true → seats slot ≡ true)
          → JoinLast (issue past next) seats new after
      change_turned_last = next_turned_last (groups group) (groups_are_sound group) past scene kept n last next at_last follow remains seats new are_new after written

      -- The change is this engine's.
      pub change_gives : GivesAfter (issue past next) (length past.changes.issued) next after
      change_gives = next_gives (groups group) (groups_are_sound group) past scene kept n last next at_last follow remains seats new are_new after written

      -- Each slot shows what it should, whichever seats are written.
      pub change_kept : JoinLast (issue past next) seats new after → IsKept (issue past next) after
      change_kept = next_kept (groups group) (groups_are_sound group) past scene kept n last next at_last follow remains seats new are_new after written

      -- Each member that isn't away has its new copy.
      module _
          (all : (slot : ℕ) → is_away past slot ≡ false → has_current next (past.disk slot) ≡ true → (seats slot ≡ true) × (after slot ≡ One (new slot))) where
        -- All its members show it.
        pub change_shown : AllShow (issue past next) after (length past.changes.issued) next
        change_shown = next_shown (groups group) (groups_are_sound group) past scene kept n last next at_last follow remains seats new are_new after written all

        -- It may be acknowledged.
        pub change_acknowledged : JoinLast (issue past next) seats new after → IsKept (acknowledge (issue past next) (length past.changes.issued)) after
        change_acknowledged =
            next_acknowledged (groups group) (groups_are_sound group) past scene kept n last next at_last follow remains seats new are_new after written all
