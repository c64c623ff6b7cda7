-- What a call writes that loses absent members: the same behind what it assembled.
use Rattle.std.proofs.Common.{◌≡◌, ℕ, ◌+◌, ◌<◌, ◌≤◌, Bool, true, false, List, length, inr}
use Rattle.ddf_config.specs.Configuration.{Configuration}
use Rattle.ddf_copy.specs.declared.copy.DiskCopy.{DiskCopy}
use Rattle.ddf_copy.specs.Written.{CanBeCopy}
use Rattle.ddf_plan.specs.declared.change.Change.TheVariants.{Lose}
use Rattle.ddf_plan.specs.Changes.{changed_at}
use Rattle.ddf_view.specs.View.{View, view_of}
use Rattle.ddf_rewrite.specs.Before.{Before}
use Rattle.ddf_rewrite.specs.Changing.{CanChange}
use Rattle.ddf_rewrite.specs.Copies.{changed_copy}
use Rattle.ddf_history.specs.Reading.{Scene, IsCopyOf}
use Rattle.ddf_history.specs.Reading.Shown.{One}
use Rattle.ddf_history.specs.Groups.{groups, disk_of, has_current}
use Rattle.ddf_history.specs.Issued.{Past, IsSince, is_away, issue, acknowledge}
use Rattle.ddf_history.specs.Promise.{IsKept}
use Rattle.ddf_history.specs.Calls.{IsAssembled, AreSure}
use Rattle.ddf_history.specs.Steps.{AllShow, AreWritten, DoRemain, IsLast, JoinLast, MayFollow, MayWrite, OthersLast}
use Rattle.ddf_history.proofs.Sound.{groups_are_sound}
use Rattle.ddf_history.proofs.Following.{changes_follow}
use Rattle.ddf_history_steps.proofs.TheoryLast.{issued_count}
use Rattle.ddf_history_steps.proofs.TheoryLoss.{left_from, left_kept, left_last}
use Rattle.ddf_history_steps.proofs.Changing.{acknowledged_last, change_acknowledged, change_kept, change_last, change_may_write, change_shown, change_turned_last, issued_kept}
use Rattle.ddf_history_steps.proofs.ChangingCopies.{changed_views}

-- the configuration with the absent members lost
abbrev pub lost_at : Configuration → (absent : List ℕ) → (sequence : ℕ) → Configuration
lost_at config absent sequence = changed_at config (Lose absent) sequence

module _ (group : List ℕ) (past : Past (groups group)) (held scene : Scene View) (readable : ℕ → Bool) (j : ℕ) (config : Configuration)
    (assembled : IsAssembled past held readable config) (since : IsSince past.changes j config) where
  -- what the call goes on from
  abbrev begun : Past (groups group)
  begun = left_from past readable config j

  -- The configuration that was assembled is the last one.
  pub begun_last : IsLast begun.changes j config
  begun_last = left_last (groups group) (groups_are_sound group) past held held readable j config assembled since

  -- The loss has the number behind it.
  pub loss_number : length begun.changes.issued ≡ j + 1
  loss_number = issued_count begun.changes j config begun_last

  module _ (kept : IsKept past scene) (sure : AreSure (groups group) readable held scene) (own : past.changes.own_from ≤ past.changes.acked) where
    -- Each slot shows what it should with the changes behind it taken off.
    pub begun_kept : IsKept begun scene
    begun_kept = left_kept (groups group) (groups_are_sound group) past held scene readable j config assembled since kept sure own

    module _ (absent : List ℕ) (sequence : ℕ) (rises : config.sequence < sequence)
        -- each member that isn't away remains one
        (remain : DoRemain (groups group) (λ s. is_away begun s ≡ false) past.disk config (lost_at config absent sequence)) where
      -- the loss
      abbrev loss : Configuration
      loss = lost_at config absent sequence

      -- It may follow.
      loss_follows : MayFollow (groups group) config loss
      loss_follows = changes_follow group config (Lose absent) sequence rises

      -- It may be issued.
      pub loss_issued : IsKept (issue begun loss) scene
      loss_issued = issued_kept group begun scene begun_kept j config loss begun_last loss_follows (inr remain)

      -- It is the last one.
      pub loss_last : IsLast (issue begun loss).changes (length begun.changes.issued) loss
      loss_last = change_last group begun scene begun_kept j config loss begun_last loss_follows (inr remain)

      -- So it is where it is acknowledged.
      pub loss_acknowledged_last : IsLast (acknowledge (issue begun loss) (length begun.changes.issued)).changes (length begun.changes.issued) loss
      loss_acknowledged_last = acknowledged_last group begun scene begun_kept j config loss begun_last loss_follows (inr remain)

      -- The seats' slots show their old copies. These name current members, before and after, and their new copies can be written.
      module _ (same_group : config.group ≡ group) (timestamp : ℕ) (leaders : Before) (seats : ℕ → Bool) (old : ℕ → DiskCopy)
          (shown : (slot : ℕ) → seats slot ≡ true → IsCopyOf (scene slot) (view_of (old slot)))
          (claimed : (slot : ℕ) → seats slot ≡ true → has_current config (disk_of (view_of (old slot))) ≡ true)
          (stays : (slot : ℕ) → seats slot ≡ true → has_current loss (disk_of (view_of (old slot))) ≡ true)
          (can : (slot : ℕ) → seats slot ≡ true → CanChange (old slot) leaders loss timestamp)
          (are_copies : (slot : ℕ) → seats slot ≡ true → CanBeCopy (changed_copy (old slot) leaders loss timestamp)) where
        -- what the new copies show
        abbrev new : ℕ → View
        new = changed_views old leaders loss timestamp

        -- They may be written.
        pub loss_may_write : MayWrite (issue begun loss) scene (length begun.changes.issued) loss seats new
        loss_may_write =
            change_may_write group begun scene begun_kept j config loss begun_last loss_follows (inr remain) same_group timestamp leaders seats old shown claimed stays can
            are_copies

        module _ (after : Scene View) (written : AreWritten seats new scene after) where
          -- Disks that join do so last, where slots that show nothing of the group are written last, and each member's is written.
          pub loss_turned_last : OthersLast (groups group) seats new scene after → ((slot : ℕ) → is_away begun slot ≡ false → has_current loss (past.disk slot) ≡ true → seats slot ≡ true)
              → JoinLast (issue begun loss) seats new after
          loss_turned_last =
              change_turned_last group begun scene begun_kept j config loss begun_last loss_follows (inr remain) same_group timestamp leaders seats old shown claimed stays can
              are_copies after written

          -- Each slot shows what it should, whichever seats are written.
          pub loss_kept : JoinLast (issue begun loss) seats new after → IsKept (issue begun loss) after
          loss_kept =
              change_kept group begun scene begun_kept j config loss begun_last loss_follows (inr remain) same_group timestamp leaders seats old shown claimed stays can
              are_copies after written

          -- Each member that isn't away has its new copy.
          module _
              (all : (slot : ℕ) → is_away begun slot ≡ false → has_current loss (past.disk slot) ≡ true
              → (seats slot ≡ true) × (after slot ≡ One (new slot))) where
            -- All its members show it.
            pub loss_shown : AllShow (issue begun loss) after (length begun.changes.issued) loss
            loss_shown =
                change_shown group begun scene begun_kept j config loss begun_last loss_follows (inr remain) same_group timestamp leaders seats old shown claimed stays can
                are_copies after written all

            -- It may be acknowledged.
            pub loss_acknowledged : JoinLast (issue begun loss) seats new after → IsKept (acknowledge (issue begun loss) (length begun.changes.issued)) after
            loss_acknowledged =
                change_acknowledged group begun scene begun_kept j config loss begun_last loss_follows (inr remain) same_group timestamp leaders seats old shown claimed stays
                can are_copies after written all
