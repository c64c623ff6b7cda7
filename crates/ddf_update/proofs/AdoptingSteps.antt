-- What a stop leaves while a disk gets the first copy of another group, then its anchor, and then its second copy.
use Rattle.std.proofs.Common.{◌≡◌, ◌⊎◌, ℕ, List, [], ◌∷◌, inl, inr, ◌∙◌, ap, subst, ⊎_elim}
use Rattle.ddf_bay.specs.State.{BayState}
use Rattle.ddf_bay.specs.Sectors.{Image, Outcomes, IsLeft, put_run}
use Rattle.ddf_bay.specs.Moments.{StopsLeave, Adds, Keeps, Mixes, IsAmong, IsSettled}
use Rattle.ddf_bay.proofs.Steps.{stops_then, stops_weaken}
use Rattle.ddf_bay.proofs.Runs.{put_mixes}
use Rattle.ddf_copy.specs.declared.run.Run.{Run}
use Rattle.ddf_copy.specs.Runs.{AreApart, HasCopy, IsInCopy}
use Rattle.ddf_update.specs.declared.gate.Gate.{Gate}
use Rattle.ddf_update.specs.Stage.{IsStaged}
use Rattle.ddf_update.specs.Gate.{AreBothApart, IsCopyWritten, IsGated, IsUntouched, KeepsOutside, StaysOutside, StopsLeaveSince}
use Rattle.ddf_update.specs.Adopting.{IsAdoptionMade, IsAdoptionWritten, IsLeftTakingOver}
use Rattle.ddf_update.proofs.BothSteps.{copy_kept, copy_outside, copy_stands}
use Rattle.ddf_update.proofs.FoundingSteps.{since_sync}
use Rattle.ddf_update.proofs.GateSteps.{one_in, opened}

-- ---- what is outside, step after step

module _ (first second : Gate) (runs : List Run) (last slot : ℕ) where
  abbrev IsThere : ℕ → Type 0
  IsThere l = IsInCopy first.lba runs l ⊎ IsInCopy second.lba runs l ⊎ (l ≡ last)

  module _ (a b c : Outcomes) (anchor : List ℕ) (one : KeepsOutside a b slot (IsInCopy first.lba runs)) (two : Adds b c slot last (anchor ∷ [])) where
    pub turned_keeps : KeepsOutside a c slot IsThere
    turned_keeps s l bytes now = ⊎_elim
        (λ was. ⊎_elim inl (λ new. inr (new.0, inl new.1)) (one s l bytes was))
        (λ new. inr (new.0, inr (inr (one_in last l anchor bytes new.1).0)))
        (two s l bytes now)

    pub all_keeps : (d : Outcomes) → KeepsOutside c d slot (IsInCopy second.lba runs) → KeepsOutside a d slot IsThere
    all_keeps d three s l bytes now = ⊎_elim (turned_keeps s l bytes) (λ new. inr (new.0, inr (inl new.1))) (three s l bytes now)

  module _ (a b c : Image) (anchor : List ℕ) (one : StaysOutside a b slot (IsInCopy first.lba runs)) (two : Mixes b c slot last (anchor ∷ [])) where
    pub turned_stays : StaysOutside a c slot IsThere
    turned_stays s l = ⊎_elim
        (λ same. ⊎_elim (λ was. inl (same ∙ was)) (λ new. inr (new.0, inl new.1)) (one s l))
        (λ new. inr (new.0, inr (inr (one_in last l anchor (c s l) new.1).0)))
        (two s l)

    pub all_stays : (d : Image) → StaysOutside c d slot (IsInCopy second.lba runs) → StaysOutside a d slot IsThere
    all_stays d three s l = ⊎_elim
        (λ same. ⊎_elim (λ was. inl (same ∙ was)) (λ there. inr there) (turned_stays s l))
        (λ new. inr (new.0, inr (inl new.1)))
        (three s l)

-- ---- what a stop leaves

module _ {D : Type 0} (a b : BayState D) (slot : ℕ) (first second : Gate) (runs : List Run) (last : ℕ) (anchor : List ℕ) (apart : AreApart runs) (both : AreBothApart first second runs)
    (off_first : IsInCopy first.lba runs last → ⊥) (off_second : IsInCopy second.lba runs last → ⊥) where
  -- while the first copy is written
  first_adopted : (image : Image) → IsSettled a.may_hold a.held slot → IsGated a.may_hold slot first runs image → IsLeftTakingOver a.may_hold a.held slot first second runs last anchor image
  first_adopted image settled gated = record {
    other_slots = λ s l differs. ⊎_elim (λ was. was) (λ new. absurd (differs new.0)) (gated.outside s l);
    here = record {
      outside = λ l. ⊎_elim inl (λ there. inr (inl there)) (here l);
      turns = inl (
        ⊎_elim (λ was. inl (λ l there. settled l (image slot l) (was l))) inr gated.copy,
        λ l there. ⊎_elim (λ same. same) (λ again. absurd (both l again there)) (here l),
        ⊎_elim (λ same. same) (λ again. absurd (off_first again)) (here last),
      );
    };
  }
    where
      here : (l : ℕ) → (image slot l ≡ a.held slot l) ⊎ IsInCopy first.lba runs l
      here l = ⊎_elim (λ was. inl (settled l (image slot l) was)) (λ new. inr new.1) (gated.outside slot l)

  -- nothing is written yet
  pub adopting_start : (image : Image) → IsSettled a.may_hold a.held slot → IsLeft a.may_hold image → IsLeftTakingOver a.may_hold a.held slot first second runs last anchor image
  adopting_start image settled left = record {
    other_slots = λ s l differs. left s l;
    here = record {
      outside = λ l. inl (settled l (image slot l) (left slot l));
      turns = inl (inl (λ l there. settled l (image slot l) (left slot l)), λ l there. settled l (image slot l) (left slot l), settled last (image slot last) (left slot last));
    };
  }

  -- the first copy, which may have failed
  pub first_moments : IsSettled a.may_hold a.held slot → StopsLeave a b (IsGated a.may_hold slot first runs) → StopsLeave a b (IsLeftTakingOver a.may_hold a.held slot first second runs last anchor)
  first_moments settled one = stops_weaken one (λ image gated. first_adopted image settled gated)

  module _ (settled : IsSettled a.may_hold a.held slot) (one : IsCopyWritten a b slot first runs) where
    stays : (l : ℕ) → (b.held slot l ≡ a.held slot l) ⊎ IsInCopy first.lba runs l
    stays l = ⊎_elim inl (λ new. inr new.1) (copy_outside one slot l)

    same_last : b.held slot last ≡ a.held slot last
    same_last = ⊎_elim (λ same. same) (λ there. absurd (off_first there)) (stays last)

    same_second : (l : ℕ) → IsInCopy second.lba runs l → b.held slot l ≡ a.held slot l
    same_second l there = ⊎_elim (λ same. same) (λ again. absurd (both l again there)) (stays l)

    -- while the anchor is written
    anchor_adopted : (image : Image) → IsAmong b.may_hold slot last (anchor ∷ []) image → IsLeftTakingOver a.may_hold a.held slot first second runs last anchor image
    anchor_adopted image among = record {
      other_slots = λ s l differs. ⊎_elim
          (λ was. ⊎_elim (λ old. old) (λ new. absurd (differs new.0)) (one.left s l (image s l) was))
          (λ new. absurd (differs new.0))
          (among s l);
      here = record {
        outside = λ l. ⊎_elim
            (λ kept. ⊎_elim (λ was. inl (kept ∙ was)) (λ there. inr (inl there)) (stays l))
            (λ new. inr (inr (inr new.0)))
            (here l);
        turns = ⊎_elim
            (λ kept. inl (inr (inr first_kept), second_kept, kept ∙ same_last))
            (λ new. inr (first_kept, new.1, inl second_kept))
            (here last);
      };
    }
      where
        here : (l : ℕ) → (image slot l ≡ b.held slot l) ⊎ ((l ≡ last) × (image slot l ≡ anchor))
        here l = ⊎_elim (λ was. inl (one.durable l (image slot l) was)) (λ new. inr (one_in last l anchor (image slot l) new.1)) (among slot l)

        first_kept : HasCopy (image slot) first.lba first.closed runs
        first_kept = copy_kept (b.held slot) (image slot) first.lba first.closed runs (copy_stands apart one)
            (λ l there. ⊎_elim (λ kept. kept) (λ new. absurd (off_first (subst (IsInCopy first.lba runs) new.0 there))) (here l))

        second_kept : IsUntouched (a.held slot) (image slot) second.lba runs
        second_kept l there = ⊎_elim (λ kept. kept ∙ same_second l there) (λ new. absurd (off_second (subst (IsInCopy second.lba runs) new.0 there))) (here l)

    -- the first copy and the anchor, which may have failed
    pub turn_moments : (c : BayState D) → StopsLeave b c (IsAmong b.may_hold slot last (anchor ∷ [])) → StopsLeave a c (IsLeftTakingOver a.may_hold a.held slot first second runs last anchor)
    turn_moments c two = stops_then (first_moments settled one.any_moment) two anchor_adopted

    module _ (c : BayState D) (two : IsStaged b c slot last (anchor ∷ [])) where
      put : (s l : ℕ) → (c.held s l ≡ b.held s l) ⊎ ((s ≡ slot) × (l ≡ last))
      put s l = ⊎_elim
          (λ was. inl (ap (λ (f : Image). f s l) two.written ∙ was))
          (λ new. inr (new.0, (one_in last l anchor (put_run b.held slot last (anchor ∷ []) s l) new.1).0))
          (put_mixes b.held slot last (anchor ∷ []) s l)

      first_stands : HasCopy (c.held slot) first.lba first.closed runs
      first_stands = copy_kept (b.held slot) (c.held slot) first.lba first.closed runs (copy_stands apart one)
          (λ l there. ⊎_elim (λ kept. kept) (λ new. absurd (off_first (subst (IsInCopy first.lba runs) new.1 there))) (put slot l))

      outside : (l : ℕ) → (c.held slot l ≡ a.held slot l) ⊎ IsInCopy first.lba runs l ⊎ (l ≡ last)
      outside l = ⊎_elim
          (λ kept. ⊎_elim (λ was. inl (kept ∙ was)) (λ there. inr (inl there)) (stays l))
          (λ new. inr (inr new.1))
          (put slot l)

      left : (s l : ℕ) (bytes : List ℕ) → ((s ≡ slot) → ⊥) → c.may_hold s l bytes → a.may_hold s l bytes
      left s l bytes differs now = ⊎_elim
          (λ was. ⊎_elim (λ old. old) (λ new. absurd (differs new.0)) (one.left s l bytes was))
          (λ new. absurd (differs new.0))
          (two.left s l bytes now)

      -- while the second copy is written
      second_adopted : (image : Image) → IsGated c.may_hold slot second runs image → IsLeftTakingOver a.may_hold a.held slot first second runs last anchor image
      second_adopted image gated = record {
        other_slots = λ s l differs. left s l (image s l) differs (⊎_elim (λ was. was) (λ new. absurd (differs new.0)) (gated.outside s l));
        here = record {
          outside = λ l. ⊎_elim
              (λ kept. ⊎_elim (λ was. inl (kept ∙ was)) (λ there. inr (⊎_elim inl (λ at. inr (inr at)) there)) (outside l))
              (λ there. inr (inr (inl there)))
              (here l);
          turns = inr (
            copy_kept (c.held slot) (image slot) first.lba first.closed runs first_stands (λ l there. ⊎_elim (λ kept. kept) (λ again. absurd (both l there again)) (here l)),
            ⊎_elim (λ kept. kept ∙ opened two) (λ again. absurd (off_second again)) (here last),
            ⊎_elim (λ was. inl (λ l there. two.durable l (image slot l) (was l) ∙ second_before l there)) inr gated.copy,
          );
        };
      }
        where
          here : (l : ℕ) → (image slot l ≡ c.held slot l) ⊎ IsInCopy second.lba runs l
          here l = ⊎_elim (λ was. inl (two.durable l (image slot l) was)) (λ new. inr new.1) (gated.outside slot l)

          second_before : (l : ℕ) → IsInCopy second.lba runs l → c.held slot l ≡ a.held slot l
          second_before l there = ⊎_elim (λ kept. kept ∙ same_second l there) (λ new. absurd (off_second (subst (IsInCopy second.lba runs) new.1 there))) (put slot l)

      -- all three, the last of which may have failed
      pub adopting_moments : (d : BayState D) → StopsLeave c d (IsGated c.may_hold slot second runs) → StopsLeave a d (IsLeftTakingOver a.may_hold a.held slot first second runs last anchor)
      adopting_moments d three = stops_then (turn_moments c two.any_moment) three second_adopted

  -- all of it is there
  pub adoption_made : (c d : BayState D) → IsCopyWritten a b slot first runs → IsStaged b c slot last (anchor ∷ []) → IsCopyWritten c d slot second runs → IsAdoptionMade a d slot first second runs last anchor
  adoption_made c d one two three = record {
    other_slots = λ s l differs.
        ⊎_elim (λ same. same) (λ new. absurd (differs new.0)) (copy_outside three s l)
        ∙ ⊎_elim (λ same. same) (λ new. absurd (differs new.0)) (put s l)
        ∙ ⊎_elim (λ same. same) (λ new. absurd (differs new.0)) (copy_outside one s l);
    outside = λ l. ⊎_elim
        (λ kept. ⊎_elim
        (λ was. ⊎_elim (λ old. inl (kept ∙ was ∙ old)) (λ new. inr (inl new.1)) (copy_outside one slot l))
        (λ new. inr (inr (inr new.1)))
        (put slot l))
        (λ new. inr (inr (inl new.1)))
        (copy_outside three slot l);
    anchor_is = ⊎_elim (λ kept. kept ∙ opened two) (λ new. absurd (off_second new.1)) (copy_outside three slot last);
    first_is = copy_kept (c.held slot) (d.held slot) first.lba first.closed runs
        (copy_kept (b.held slot) (c.held slot) first.lba first.closed runs (copy_stands apart one)
        (λ l there. ⊎_elim (λ kept. kept) (λ new. absurd (off_first (subst (IsInCopy first.lba runs) new.1 there))) (put slot l)))
        (λ l there. ⊎_elim (λ kept. kept) (λ new. absurd (both l there new.1)) (copy_outside three slot l));
    second_is = copy_stands apart three;
    durable = three.durable;
    left = λ s l bytes differs now. ⊎_elim
        (λ was. ⊎_elim
        (λ old. ⊎_elim (λ older. older) (λ new. absurd (differs new.0)) (one.left s l bytes old))
        (λ new. absurd (differs new.0))
        (two.left s l bytes was))
        (λ new. absurd (differs new.0))
        (three.left s l bytes now);
  }
    where
      put : (s l : ℕ) → (c.held s l ≡ b.held s l) ⊎ ((s ≡ slot) × (l ≡ last))
      put s l = ⊎_elim
          (λ was. inl (ap (λ (f : Image). f s l) two.written ∙ was))
          (λ new. inr (new.0, (one_in last l anchor (put_run b.held slot last (anchor ∷ []) s l) new.1).0))
          (put_mixes b.held slot last (anchor ∷ []) s l)

-- ---- behind a good sync

module _ {D : Type 0} (a b : BayState D) (slot : ℕ) (first second : Gate) (runs : List Run) (last : ℕ) (anchor : List ℕ)
    (same_held : b.held ≡ a.held) (keeps : Keeps a.may_hold b.may_hold) where
  behind_sync : (image : Image) → IsLeftTakingOver b.may_hold b.held slot first second runs last anchor image → IsLeftTakingOver a.may_hold a.held slot first second runs last anchor image
  behind_sync image now = record {
    other_slots = λ s l differs. keeps s l (image s l) (now.other_slots s l differs);
    here = rw same_held at now.here;
  }

  module _ (only_now : (image : Image) → b.left_since b.moment image → IsLeft b.may_hold image)
      (settled : IsSettled b.may_hold b.held slot) (synced : StopsLeave a b (IsLeft a.may_hold)) (apart : AreApart runs) (both : AreBothApart first second runs)
      (off_first : IsInCopy first.lba runs last → ⊥) (off_second : IsInCopy second.lba runs last → ⊥) where
    pub adoption_moments : (c : BayState D) → StopsLeave b c (IsLeftTakingOver b.may_hold b.held slot first second runs last anchor) → StopsLeaveSince a c (IsLeftTakingOver a.may_hold a.held slot first second runs last anchor)
    adoption_moments c rest = since_sync only_now synced (stops_weaken rest behind_sync)
        (λ image left. behind_sync image (adopting_start b b slot first second runs last anchor apart both off_first off_second image settled left))

    pub adoption_written : (c : BayState D) → StopsLeave b c (IsLeftTakingOver b.may_hold b.held slot first second runs last anchor) → IsAdoptionMade b c slot first second runs last anchor
        → IsAdoptionWritten a c slot first second runs last anchor
    adoption_written c rest made = record {
      made = record {
        other_slots = λ s l differs. made.other_slots s l differs ∙ ap (λ (f : Image). f s l) same_held;
        outside = λ l. ⊎_elim (λ was. inl (was ∙ ap (λ (f : Image). f slot l) same_held)) inr (made.outside l);
        anchor_is = made.anchor_is;
        first_is = made.first_is;
        second_is = made.second_is;
        durable = made.durable;
        left = λ s l bytes differs now. keeps s l bytes (made.left s l bytes differs now);
      };
      since = adoption_moments c rest;
    }
