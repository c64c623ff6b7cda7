-- What a stop leaves while a disk gets its first copies and its anchor.
use Rattle.std.proofs.Common.{◌≡◌, ◌⊎◌, ℕ, List, [], ◌∷◌, inl, inr, ◌∙◌, ap, subst, ⊎_elim}
use Rattle.ddf_bay.specs.State.{BayState}
use Rattle.ddf_bay.specs.Sectors.{Image, IsLeft, put_run}
use Rattle.ddf_bay.specs.Moments.{StopsLeave, Keeps, IsAmong, IsSettled}
use Rattle.ddf_bay.proofs.Steps.{stops_then, stops_weaken, stops_all, among_other}
use Rattle.ddf_bay.proofs.Runs.{put_mixes}
use Rattle.ddf_copy.specs.declared.run.Run.{Run}
use Rattle.ddf_update.specs.declared.gate.Gate.{Gate}
use Rattle.ddf_update.specs.Stage.{IsStaged}
use Rattle.ddf_update.specs.Gate.{IsLeftUpdating, AreBothWritten, IsLeftFounding, StopsLeaveSince, IsFoundingWritten}
use Rattle.ddf_copy.specs.Runs.{IsInCopy, HasCopy}
use Rattle.ddf_update.proofs.GateSteps.{one_in, opened}
use Rattle.ddf_update.proofs.BothSteps.{copy_kept}

-- Calls that begin with a good sync: P of all images since it.
pub since_sync : {D : Type 0} {a b c : BayState D} {P : Image → Type 0}
    → ((image : Image) → b.left_since b.moment image → IsLeft b.may_hold image)
    → StopsLeave a b (IsLeft a.may_hold) → StopsLeave b c P → ((image : Image) → IsLeft b.may_hold image → P image)
    → StopsLeaveSince a c P
since_sync {b = b} only_now first rest at_sync = record {
  synced = b.moment;
  from = first.later;
  until = rest.later;
  any_moment = stops_then (stops_weaken first (λ image left. inl left)) rest (λ image now. inr now);
  since = stops_all only_now rest at_sync;
}

module _ {D : Type 0} (a b : BayState D) (slot : ℕ) (first second : Gate) (runs : List Run) (last : ℕ) (anchor : List ℕ)
    (off_first : IsInCopy first.lba runs last → ⊥) (off_second : IsInCopy second.lba runs last → ⊥)
    (same_held : b.held ≡ a.held) (keeps : Keeps a.may_hold b.may_hold) where
  same : (l : ℕ) → b.held slot l ≡ a.held slot l
  same l = ap (λ (f : Image). f slot l) same_held

  module _ (image : Image) where
    -- nothing is written yet
    pub founding_start : IsSettled b.may_hold b.held slot → IsLeft b.may_hold image → IsLeftFounding a.may_hold a.held slot first second runs last anchor image
    founding_start settled left = record {
      other_slots = λ s l differs. keeps s l (image s l) (left s l);
      here = record {
        outside = λ l. inl (settled l (image slot l) (left slot l) ∙ same l);
        anchored = inl (settled last (image slot last) (left slot last) ∙ same last);
      };
    }

    -- while the copies are written
    pub founding_copies : IsLeftUpdating b.may_hold b.held slot first second runs image → IsLeftFounding a.may_hold a.held slot first second runs last anchor image
    founding_copies now = record {
      other_slots = λ s l differs. keeps s l (image s l) (now.other_slots s l differs);
      here = record {
        outside = λ l. ⊎_elim (λ was. inl (was ∙ same l)) (λ there. inr (⊎_elim inl (λ two. inr (inl two)) there)) (now.here.outside l);
        anchored = inl (⊎_elim (λ was. was ∙ same last) (λ there. absurd (⊎_elim off_first off_second there)) (now.here.outside last));
      };
    }

    -- while the anchor is written, and both copies stand
    pub founding_anchor : (c : BayState D) → AreBothWritten b c slot first second runs → IsAmong c.may_hold slot last (anchor ∷ []) image
        → IsLeftFounding a.may_hold a.held slot first second runs last anchor image
    founding_anchor c copies among = record {
      other_slots = λ s l differs. keeps s l (image s l) (copies.left s l (image s l) differs (among_other c.may_hold slot last (anchor ∷ []) image among s l differs));
      here = record {
        outside = λ l. ⊎_elim
            (λ kept. ⊎_elim (λ was. inl (kept ∙ was ∙ same l)) (λ there. inr (⊎_elim inl (λ two. inr (inl two)) there)) (copies.outside l))
            (λ new. inr (inr (inr new.0)))
            (here l);
        anchored = ⊎_elim
            (λ kept. inl (⊎_elim (λ was. kept ∙ was ∙ same last) (λ there. absurd (⊎_elim off_first off_second there)) (copies.outside last)))
            (λ new. inr (new.1, first_kept, second_kept))
            (here last);
      };
    }
      where
        here : (l : ℕ) → (image slot l ≡ c.held slot l) ⊎ ((l ≡ last) × (image slot l ≡ anchor))
        here l = ⊎_elim (λ was. inl (copies.durable l (image slot l) was)) (λ new. inr (one_in last l anchor (image slot l) new.1)) (among slot l)

        first_kept : HasCopy (image slot) first.lba first.closed runs
        first_kept = copy_kept (c.held slot) (image slot) first.lba first.closed runs copies.first_is
            (λ l there. ⊎_elim (λ kept. kept) (λ new. absurd (off_first (subst (IsInCopy first.lba runs) new.0 there))) (here l))

        second_kept : HasCopy (image slot) second.lba second.closed runs
        second_kept = copy_kept (c.held slot) (image slot) second.lba second.closed runs copies.second_is
            (λ l there. ⊎_elim (λ kept. kept) (λ new. absurd (off_second (subst (IsInCopy second.lba runs) new.0 there))) (here l))

  module _ (only_now : (image : Image) → b.left_since b.moment image → IsLeft b.may_hold image)
      (settled : IsSettled b.may_hold b.held slot) (synced : StopsLeave a b (IsLeft a.may_hold)) (c : BayState D)
      (updates : StopsLeave b c (IsLeftUpdating b.may_hold b.held slot first second runs)) where
    -- a good sync and both copies, which may have failed
    pub founding_moments : StopsLeaveSince a c (IsLeftFounding a.may_hold a.held slot first second runs last anchor)
    founding_moments = since_sync only_now synced (stops_weaken updates founding_copies) (λ image. founding_start image settled)

    module _ (d : BayState D) (copies : AreBothWritten b c slot first second runs) where
      -- and the anchor, which may have failed
      pub anchor_moments : StopsLeave c d (IsAmong c.may_hold slot last (anchor ∷ []))
          → StopsLeaveSince a d (IsLeftFounding a.may_hold a.held slot first second runs last anchor)
      anchor_moments step = since_sync only_now synced
          (stops_then (stops_weaken updates founding_copies) step (λ image among. founding_anchor image c copies among))
          (λ image. founding_start image settled)

      -- all of it is there
      pub all_founded : IsStaged c d slot last (anchor ∷ []) → IsFoundingWritten a d slot first second runs last anchor
      all_founded step = record {
        since = anchor_moments step.any_moment;
        other_slots = λ s l differs.
            ⊎_elim (λ kept. kept) (λ new. absurd (differs new.0)) (put s l) ∙ copies.other_slots s l differs ∙ ap (λ (f : Image). f s l) same_held;
        outside = λ l. ⊎_elim
            (λ kept. ⊎_elim (λ was. inl (kept ∙ was ∙ same l)) (λ there. inr (⊎_elim inl (λ two. inr (inl two)) there)) (copies.outside l))
            (λ new. inr (inr (inr new.1)))
            (put slot l);
        anchor_is = opened step;
        first_is = copy_kept (c.held slot) (d.held slot) first.lba first.closed runs copies.first_is
            (λ l there. ⊎_elim (λ kept. kept) (λ new. absurd (off_first (subst (IsInCopy first.lba runs) new.1 there))) (put slot l));
        second_is = copy_kept (c.held slot) (d.held slot) second.lba second.closed runs copies.second_is
            (λ l there. ⊎_elim (λ kept. kept) (λ new. absurd (off_second (subst (IsInCopy second.lba runs) new.1 there))) (put slot l));
        durable = step.durable;
        left = λ s l bytes differs now. keeps s l bytes (copies.left s l bytes differs (⊎_elim (λ old. old) (λ new. absurd (differs new.0)) (step.left s l bytes now)));
      }
        where
          put : (s l : ℕ) → (d.held s l ≡ c.held s l) ⊎ ((s ≡ slot) × (l ≡ last))
          put s l = ⊎_elim
              (λ was. inl (ap (λ (f : Image). f s l) step.written ∙ was))
              (λ new. inr (new.0, (one_in last l anchor (put_run c.held slot last (anchor ∷ []) s l) new.1).0))
              (put_mixes c.held slot last (anchor ∷ []) s l)
