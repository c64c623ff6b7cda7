-- What a call on a group of disks in memory leaves of its history, at its end and where a stop cut it.
use Rattle.std.proofs.Common.{◌≡◌, ◌∙◌, ℕ, ◌<◌, ◌≤◌, Bool, true, false, List, length, refl, sym, ap, subst, inl, inr, arith}
use Rattle.std.proofs.Math.Path.{fun_ext}
use Rattle.std.proofs.lemmas.Bool.{false_from_ne_true}
use Rattle.std.specs.Prelude.{slice_index_or}
use Rattle.ddf_bay.specs.Memory.{disks_of, state_of}
use Rattle.ddf_bay.specs.MemoryLaws.{gone_then, left_only}
use Rattle.ddf_bay.specs.ReadsOnly.{ReadsOnly}
use Rattle.ddf_bay.specs.Sectors.{Image}
use Rattle.ddf_bay.specs.declared.memory.MemoryBay.{MemoryBay}
use Rattle.ddf_config.specs.Configuration.{Configuration}
use Rattle.ddf_view.specs.View.{View}
use Rattle.ddf_history.specs.Groups.{groups}
use Rattle.ddf_history.specs.History.{KeepsAcked}
use Rattle.ddf_history.specs.Issued.{Past}
use Rattle.ddf_history.specs.Promise.{IsKept}
use Rattle.ddf_history.specs.Reading.{Scene}
use Rattle.ddf_history.specs.Scenes.{scene_of}
use Rattle.ddf_history.proofs.Members.{own_member}
use Rattle.ddf_history.proofs.Sound.{groups_are_sound}
use Rattle.ddf_seats.specs.Group.{GroupValue}
use Rattle.ddf_history_steps.specs.Going.{Ends, Goes, IsAdmitted, KeepsHistory, KeepsSlots}
use Rattle.ddf_history_steps.specs.Kept.{AreAllKept, is_read}
use Rattle.ddf_history_steps.proofs.Acked.{ends_keeps, goes_keeps}
use Rattle.ddf_history_steps.proofs.SlotsKept.{ends_slots}
use Rattle.ddf_history_memory.specs.Histories.{AreRead, GoesWell, HasMemberOn, IsCutAt, IsHistoryOn, IsTaken, LeavesCut, LeavesHistory}
use Rattle.ddf_history_memory.proofs.Slots.{becomes, before_told, left_gone, left_out, not_read, read_at, read_below, reads_left}

module _ (group : List ℕ) (past : Past (groups group)) (old exit : MemoryBay) (readable : List Bool) (found : GroupValue) (changes : List Configuration) (done : Bool)
    (history : IsHistoryOn group past old) (member : HasMemberOn group past old) (well : GoesWell old exit) (taken : IsTaken group old exit readable found changes done)
    (told : (disks_of exit).tells_left) where
  abbrev entry : Scene View
  entry = scene_of (disks_of old).sizes (disks_of old).held

  out_gone : AreRead old readable
  out_gone = left_gone old exit well told readable taken.every_slot taken.failed

  pub is_kept : IsKept past entry
  is_kept = history.kept (disks_of old).held (reads_left old (before_told old exit well told))

  member_read : is_read readable member.slot ≡ true
  member_read =
      let low : member.slot < length readable = subst (λ (n : ℕ). member.slot < n) (sym taken.every_slot) member.there in
      read_at readable member.slot low (false_from_ne_true (slice_index_or readable member.slot false) (λ out. member.plugged (out_gone member.slot low out)))

  -- The history admits the call.
  pub admitted : IsAdmitted group past (disks_of old) readable found
  admitted = record {
    same_slots = history.same_slots;
    may_read = record {
      below = λ s read. let low = read_below readable s read in let long = taken.every_slot in let counted = history.same_slots in omega (arith, low, long, counted);
      not_lost = λ s read.
          let low = read_below readable s read in
          false_from_ne_true (past.lost s) (λ lost. not_read readable s (taken.gone s low (history.lost_gone s (subst (λ (n : ℕ). s < n) taken.every_slot low) lost)) read);
      all_young = λ young. let own = history.own in absurd (omega (arith, young, own));
    };
    member =
        own_member (groups group) (groups_are_sound group) past entry is_kept member.slot member.config member.is_last member.is_current
        (false_from_ne_true (past.lost member.slot) (λ lost. member.plugged (history.lost_gone member.slot member.there lost)))
        (is_read readable) member_read history.own;
    all_present = λ young. let own = history.own in absurd (omega (arith, young, own));
    is_kept = is_kept;
  }

  pub keeps : KeepsHistory group (disks_of old) (disks_of exit) past readable found changes done
  keeps = taken.keeps past history.kept admitted

  -- A slot that counts as lost behind the call was unplugged at its entry.
  lost_out : (now : Past (groups group)) → KeepsSlots group past now (is_read readable) found → (s : ℕ) → s < length (disks_of old).sizes → now.lost s ≡ true → (disks_of old).gone s
  lost_out now slots s there lost = elim (slots.lost_one s lost) [
    | inl was ↦ history.lost_gone s there was
    | inr out ↦ (
        let low : s < length readable = subst (λ (n : ℕ). s < n) (sym taken.every_slot) there in
        out_gone s low (left_out readable s low out.0))
  ]

  still_own : (now : Past (groups group)) → KeepsSlots group past now (is_read readable) found → KeepsAcked past now → now.changes.own_from ≤ now.changes.acked
  still_own now slots acked = let same = slots.same_own in let mine = history.own in let up = acked.later in omega (arith, same, mine, up)

  -- ---- at its end

  module _ (now : Past (groups group)) (ends : Ends group past (is_read readable) found changes done now) (all_kept : AreAllKept group now (disks_of exit)) where
    slots : KeepsSlots group past now (is_read readable) found
    slots = ends_slots group past (is_read readable) found changes done now ends

    acked : KeepsAcked past now
    acked = ends_keeps group past now (is_read readable) found changes done ends

    same_sizes : (disks_of exit).sizes ≡ (disks_of old).sizes
    same_sizes = (becomes old exit well).same_sizes

    pub ended : LeavesHistory group past exit readable found changes done
    ended = record {
      now = now;
      ends = ends;
      history = record {
        kept = all_kept;
        same_slots = slots.same_slots ∙ history.same_slots ∙ sym (ap length same_sizes);
        own = still_own now slots acked;
        lost_gone = λ s there lost.
            gone_then (state_of old) (state_of exit) s (becomes old exit well) (lost_out now slots s (subst (λ (sizes : List ℕ). s < length sizes) same_sizes there) lost);
      };
      acked = acked;
    }

  pub leaves_history : LeavesHistory group past exit readable found changes done
  leaves_history = let ends = keeps.ends told in ended ends.0 ends.1 ends.2

  -- ---- where a stop cut it

  module _ (cut : MemoryBay) (image : Image) (was_left : (disks_of exit).left_since (disks_of old).moment image) (is_cut : IsCutAt old image cut) where
    -- It came this far by then, and each slot shows what it should.
    abbrev Far : Type 0
    Far = (now : Past (groups group)) × Goes group past (is_read readable) found changes now × IsKept now (scene_of (disks_of old).sizes image)

    far : Far
    far = elim (keeps.any_moment.since (disks_of old).moment image (omega arith) was_left) [
      | inl before ↦ (past, inl refl, history.kept image (left_only old.clock old.log.logged.items image before))
      | inr now ↦ now
    ]

    module _ (now : Past (groups group)) (goes : Goes group past (is_read readable) found changes now) (shows : IsKept now (scene_of (disks_of old).sizes image)) where
      cut_slots : KeepsSlots group past now (is_read readable) found
      cut_slots = ends_slots group past (is_read readable) found changes false now goes

      cut_acked : KeepsAcked past now
      cut_acked = goes_keeps group past now (is_read readable) found changes goes

      cut_kept : IsKept now (scene_of (disks_of cut).sizes (disks_of cut).held)
      cut_kept =
          subst (λ (sizes : List ℕ). IsKept now (scene_of sizes (disks_of cut).held)) (sym is_cut.same_sizes)
          (subst (λ (held : Image). IsKept now (scene_of (disks_of old).sizes held)) (sym is_cut.same_held) shows)

      -- Nothing is pending.
      all_kept : AreAllKept group now (disks_of cut)
      all_kept other other_left =
          let same : other ≡ (disks_of cut).held = fun_ext (λ s. fun_ext (λ l. is_cut.settled s l (other s l) (other_left s l))) in
          subst (λ (one : Image). IsKept now (scene_of (disks_of cut).sizes one)) (sym same) cut_kept

      pub cut_here : LeavesCut group past cut readable found changes
      cut_here = record {
        now = now;
        goes = goes;
        history = record {
          kept = all_kept;
          same_slots = cut_slots.same_slots ∙ history.same_slots ∙ sym (ap length is_cut.same_sizes);
          own = still_own now cut_slots cut_acked;
          lost_gone = λ s there lost. is_cut.still_gone s (lost_out now cut_slots s (subst (λ (sizes : List ℕ). s < length sizes) is_cut.same_sizes there) lost);
        };
        acked = cut_acked;
      }

    pub leaves_cut : LeavesCut group past cut readable found changes
    leaves_cut = cut_here far.0 far.1 far.2

-- ---- a call that only reads

module _ (group : List ℕ) (past : Past (groups group)) (old exit : MemoryBay) (history : IsHistoryOn group past old) (well : GoesWell old exit)
    (reads : ReadsOnly (disks_of old) (disks_of exit)) where
  pub reads_history : IsHistoryOn group past exit
  reads_history = record {
    kept = λ image left.
        subst (λ (sizes : List ℕ). IsKept past (scene_of sizes image)) (sym reads.same_sizes)
        (history.kept image (λ s l. reads.keeps s l (image s l) (left s l)));
    same_slots = history.same_slots ∙ sym (ap length reads.same_sizes);
    own = history.own;
    lost_gone = λ s there lost.
        gone_then (state_of old) (state_of exit) s (becomes old exit well)
        (history.lost_gone s (subst (λ (sizes : List ℕ). s < length sizes) reads.same_sizes there) lost);
  }

  module _ (cut : MemoryBay) (image : Image) (was_left : (disks_of exit).left_since (disks_of old).moment image) (is_cut : IsCutAt old image cut) where
    reads_shown : IsKept past (scene_of (disks_of old).sizes image)
    reads_shown = history.kept image (elim (reads.any_moment.since (disks_of old).moment image (omega arith) was_left) [
      | inl before ↦ left_only old.clock old.log.logged.items image before
      | inr now ↦ now
    ])

    reads_cut_kept : AreAllKept group past (disks_of cut)
    reads_cut_kept other other_left =
        let same : other ≡ (disks_of cut).held = fun_ext (λ s. fun_ext (λ l. is_cut.settled s l (other s l) (other_left s l))) in
        subst (λ (one : Image). IsKept past (scene_of (disks_of cut).sizes one)) (sym same)
        (subst (λ (sizes : List ℕ). IsKept past (scene_of sizes (disks_of cut).held)) (sym is_cut.same_sizes)
        (subst (λ (held : Image). IsKept past (scene_of (disks_of old).sizes held)) (sym is_cut.same_held) reads_shown))

    pub reads_cut : IsHistoryOn group past cut
    reads_cut = record {
      kept = reads_cut_kept;
      same_slots = history.same_slots ∙ sym (ap length is_cut.same_sizes);
      own = history.own;
      lost_gone = λ s there lost. is_cut.still_gone s (history.lost_gone s (subst (λ (sizes : List ℕ). s < length sizes) is_cut.same_sizes there) lost);
    }
