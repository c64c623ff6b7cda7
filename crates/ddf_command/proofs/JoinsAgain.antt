-- A call behind an import that was done is admitted, but for what it reads of slots that are lost.
use Rattle.std.proofs.Common.{◌≡◌, ℕ, ◌<◌, ◌≤◌, Bool, true, false, List, length, refl, sym, ap, ◌∙◌, arith}
use Rattle.ddf_bay.specs.State.{BayState}
use Rattle.ddf_bay.specs.Sectors.{IsLeft}
use Rattle.ddf_seats.specs.Group.{GroupValue}
use Rattle.ddf_history.specs.Groups.{groups, has_current}
use Rattle.ddf_history.specs.History.{Moment}
use Rattle.ddf_history.specs.Scenes.{scene_of}
use Rattle.ddf_history_steps.specs.Going.{IsAdmitted}
use Rattle.ddf_history_steps.specs.Kept.{is_read}
use Rattle.ddf_group_commands.specs.Change.{is_done}
use Rattle.ddf_command.specs.History.{IsJoinEnd, Leaves}
use Rattle.ddf_command.proofs.JoinedMembers.{joined_member, kept, slots}

module _ {B : Type 0} {tells : Type 0} (told : tells) (disks : B → BayState B) (group : List ℕ) (old new : Moment (groups group) B) (end : IsJoinEnd told disks group old new)
    (done : is_done end.call.outcome ≡ true) (own : new.past.changes.own_from ≤ new.past.changes.acked) where
  pub admitted_again : (disks new.bay).sizes ≡ (disks old.bay).sizes → IsLeft (disks new.bay).may_hold (disks new.bay).held
      → (left : List Bool) → ((slot : ℕ) → is_read left slot ≡ true → slot < length (disks new.bay).sizes) → (found : GroupValue)
      → (slot : ℕ) → is_read end.call.imported.first.left slot ≡ true → has_current end.call.made.step.config (old.past.disk slot) ≡ true → is_read left slot ≡ true
      → ((s : ℕ) → is_read left s ≡ true → new.past.lost s ≡ false) → IsAdmitted group new.past (disks new.bay) left found
  admitted_again same_sizes held left below found slot read current again not_lost =
      let leaves : Leaves told disks group new.bay (scene_of (disks new.bay).sizes (disks new.bay).held) =
      record { image = (disks new.bay).held; is_left = held; is_shown = refl } in
      let same_slots : new.past.slots ≡ length (disks new.bay).sizes =
      (slots told disks group old new end done).same_slots ∙ end.call.admitted.same_slots ∙ ap length (sym same_sizes) in
      record {
        same_slots = same_slots;
        may_read = record {
          below = λ s is. rw same_slots (below s is);
          not_lost = not_lost;
          all_young = λ young. absurd (omega (arith, own, young));
        };
        member = joined_member told disks group old new end done own (scene_of (disks new.bay).sizes (disks new.bay).held) leaves (is_read left) slot read current again;
        all_present = λ young. absurd (omega (arith, own, young));
        is_kept = kept told disks group old new end done own (scene_of (disks new.bay).sizes (disks new.bay).held) leaves (is_read left);
      }
