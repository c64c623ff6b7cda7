-- A call keeps its history from its entry on, over all that it only read before, where the bay tells of it.
use Rattle.std.proofs.Common.{ℕ, ◌≤◌, Bool, List, inl, inr, refl, subst, arith}
use Rattle.ddf_bay.specs.ReadsOnly.{ReadsOnly}
use Rattle.ddf_bay.specs.Sectors.{Image}
use Rattle.ddf_bay.specs.State.{BayState}
use Rattle.ddf_bay.proofs.Steps.{left_keeps}
use Rattle.ddf_config.specs.Configuration.{Configuration}
use Rattle.ddf_history.specs.Groups.{groups}
use Rattle.ddf_history.specs.Issued.{Past}
use Rattle.ddf_history.specs.Promise.{IsKept}
use Rattle.ddf_history.specs.Scenes.{scene_of}
use Rattle.ddf_seats.specs.Group.{GroupValue}
use Rattle.ddf_history_steps.specs.Going.{IsAdmitted, KeepsHistory}
use Rattle.ddf_history_steps.specs.Kept.{AreAllKept, ReadsTrue}

-- What holds of disks that were only read holds of what they were.
module _ (group : List ℕ) {D : Type 0} (past : Past (groups group)) (old middle : BayState D) (reads : ReadsOnly old middle) where
  pub kept_still : AreAllKept group past old → AreAllKept group past middle
  kept_still kept image was_left = rw reads.same_sizes (kept image (left_keeps old.may_hold middle.may_hold image reads.keeps was_left))

  pub admitted_still : (left : List Bool) (found : GroupValue) → IsAdmitted group past old left found → IsAdmitted group past middle left found
  admitted_still left found admitted = record {
    same_slots = rw reads.same_sizes admitted.same_slots;
    may_read = rw (reads.same_sizes, reads.same_held) admitted.may_read;
    member = rw (reads.same_sizes, reads.same_held) admitted.member;
    all_present = admitted.all_present;
    is_kept = rw (reads.same_sizes, reads.same_held) admitted.is_kept;
  }

module _ (group : List ℕ) {D : Type 0} (past : Past (groups group)) (left : List Bool) (found : GroupValue) (changes : List Configuration) (done : Bool) where
  -- What is kept where the disks read as they are is kept: a bay that tells of an image tells so.
  pub keeps_where_told : (old new : BayState D) → old.moment ≤ new.moment → ((t : ℕ) (image : Image) → new.left_since t image → new.tells_left)
      → (new.tells_left → ReadsTrue old) → (ReadsTrue old → KeepsHistory group old new past left found changes done)
      → KeepsHistory group old new past left found changes done
  keeps_where_told old new later told back keeps = record {
    any_moment = record { later = later; since = λ t image le was_left. (keeps (back (told t image was_left))).any_moment.since t image le was_left };
    ends = λ tells. (keeps (back tells)).ends tells;
  }

  -- What a call keeps since it had read its disks it keeps since its entry.
  pub keeps_since_entry : (old middle new : BayState D) → ReadsOnly old middle
      → (AreAllKept group past middle → IsAdmitted group past middle left found → KeepsHistory group middle new past left found changes done)
      → AreAllKept group past old → IsAdmitted group past old left found → KeepsHistory group old new past left found changes done
  keeps_since_entry old middle new reads keeps kept admitted =
      let since = keeps (kept_still group past old middle reads kept) (admitted_still group past old middle reads left found admitted) in
      record {
        any_moment = record {
          later = let one = reads.any_moment.later in let other = since.any_moment.later in omega (arith, one, other);
          since = λ t image le was_left. elim (since.any_moment.since t image (let one = reads.any_moment.later in omega (arith, le, one)) was_left) [
            | inl before ↦ elim (reads.any_moment.since t image le before) [
              | inl at_first ↦ inl at_first
              | inr might ↦ inr (past, inl refl, kept image might)
            ]
            | inr now ↦ inr (now.0, now.1, subst (λ (sizes : List ℕ). IsKept now.0 (scene_of sizes image)) reads.same_sizes now.2)
          ];
        };
        ends = since.ends;
      }
