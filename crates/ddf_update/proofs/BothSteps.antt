-- What a stop leaves while two copies are written one after the other.
use Rattle.std.proofs.Common.{◌≡◌, ◌⊎◌, ℕ, ◌-◌, List, [], ◌∷◌, get_or, inl, inr, refl, ◌∙◌, ⊎_elim, arith}
use Rattle.ddf_bay.specs.State.{BayState}
use Rattle.ddf_bay.specs.Sectors.{Image, Outcomes, IsLeft}
use Rattle.ddf_bay.specs.Moments.{StopsLeave, IsSettled}
use Rattle.ddf_bay.proofs.Steps.{stops_then, stops_weaken}
use Rattle.ddf_bay.proofs.Runs.{inside, after, put_mixes}
use Rattle.ddf_copy.specs.declared.run.Run.{Run}
use Rattle.ddf_update.specs.declared.gate.Gate.{Gate}
use Rattle.ddf_copy.specs.Runs.{AreApart, HasCopy, IsInCopy, put_runs}
use Rattle.ddf_update.specs.Gate.{KeepsOutside, IsGated, IsCopyWritten, AreBothApart, IsLeftUpdating, AreBothWritten}
use Rattle.ddf_update.proofs.Reading.{is_in_runs, behind_header, puts_mix, puts_inside}
use Rattle.ddf_update.proofs.GateSteps.{one_in}

-- a copy whose sectors stay stands on
pub copy_kept : (before now : ℕ → List ℕ) (lba : ℕ) (header : List ℕ) (runs : List Run) → HasCopy before lba header runs
    → ((l : ℕ) → IsInCopy lba runs l → now l ≡ before l) → HasCopy now lba header runs
copy_kept before now lba header runs stood kept = record {
  header_is = kept lba (inl refl) ∙ stood.header_is;
  sections_are = λ l bytes there. kept l (inr (is_in_runs lba runs l bytes there)) ∙ stood.sections_are l bytes there;
}

module _ {D : Type 0} {a b : BayState D} {slot : ℕ} {gate : Gate} {runs : List Run} where
  -- a copy that was written stands
  pub copy_stands : AreApart runs → IsCopyWritten a b slot gate runs → HasCopy (b.held slot) gate.lba gate.closed runs
  copy_stands apart done = record {
    header_is =
        let e : gate.lba - gate.lba ≡ 0 = omega arith in
        let zeroth : get_or (gate.closed ∷ []) (gate.lba - gate.lba) [] ≡ gate.closed = rw e refl in
        done.written slot gate.lba ∙ inside sections slot gate.lba (gate.closed ∷ []) gate.lba (omega arith) (omega arith) ∙ zeroth;
    sections_are = λ l bytes there.
        done.written slot l ∙ after sections slot gate.lba (gate.closed ∷ []) slot l (omega (arith, behind_header gate.lba runs l apart (is_in_runs gate.lba runs l bytes there))) ∙ puts_inside a.held slot gate.lba runs l bytes apart there;
  }
    where
      sections : Image
      sections = put_runs a.held slot gate.lba runs

  -- and all outside it is as it was
  pub copy_outside : IsCopyWritten a b slot gate runs → (s l : ℕ) → (b.held s l ≡ a.held s l) ⊎ ((s ≡ slot) × IsInCopy gate.lba runs l)
  copy_outside done s l = ⊎_elim
      (λ same. ⊎_elim
      (λ was. inl (done.written s l ∙ same ∙ was))
      (λ here. inr (here.0, inr (is_in_runs gate.lba runs l (put_runs a.held slot gate.lba runs s l) here.1)))
      (puts_mix a.held slot gate.lba runs s l))
      (λ here. inr (here.0, inl (one_in gate.lba l gate.closed _ here.1).0))
      (put_mixes (put_runs a.held slot gate.lba runs) slot gate.lba (gate.closed ∷ []) s l)

module _ (may : Outcomes) (held : Image) (slot : ℕ) (first second : Gate) (runs : List Run) (image : Image) (both : AreBothApart first second runs) where
  -- while the first copy is written
  pub first_image : IsSettled may held slot → IsGated may slot first runs image → IsLeftUpdating may held slot first second runs image
  first_image settled gated = record {
    other_slots = λ s l differs. ⊎_elim (λ was. was) (λ new. absurd (differs new.0)) (gated.outside s l);
    here = record {
      outside = λ l. ⊎_elim inl (λ there. inr (inl there)) (here l);
      copies = inl (
        ⊎_elim (λ was. inl (λ l there. settled l (image slot l) (was l))) inr gated.copy,
        λ l there. ⊎_elim (λ same. same) (λ again. absurd (both l again there)) (here l),
      );
    };
  }
    where
      here : (l : ℕ) → (image slot l ≡ held slot l) ⊎ IsInCopy first.lba runs l
      here l = ⊎_elim (λ was. inl (settled l (image slot l) was)) (λ new. inr new.1) (gated.outside slot l)

  -- while the second is written, and the first stands
  pub second_image : (may_then : Outcomes) (held_then : Image) → KeepsOutside may may_then slot (IsInCopy first.lba runs)
      → ((l : ℕ) → (held_then slot l ≡ held slot l) ⊎ IsInCopy first.lba runs l) → HasCopy (held_then slot) first.lba first.closed runs
      → IsSettled may_then held_then slot → IsGated may_then slot second runs image → IsLeftUpdating may held slot first second runs image
  second_image may_then held_then keeps stays stands settled gated = record {
    other_slots = λ s l differs. ⊎_elim
        (λ was. ⊎_elim (λ old. old) (λ new. absurd (differs new.0)) (keeps s l (image s l) was))
        (λ new. absurd (differs new.0))
        (gated.outside s l);
    here = record {
      outside = λ l. ⊎_elim
          (λ same. ⊎_elim (λ was. inl (same ∙ was)) (λ there. inr (inl there)) (stays l))
          (λ there. inr (inr there))
          (here l);
      copies = inr (
        copy_kept (held_then slot) (image slot) first.lba first.closed runs stands (λ l there. ⊎_elim (λ same. same) (λ again. absurd (both l there again)) (here l)),
        ⊎_elim
            (λ was. inl (λ l there. settled l (image slot l) (was l) ∙ ⊎_elim (λ same. same) (λ again. absurd (both l again there)) (stays l)))
            inr
            gated.copy,
      );
    };
  }
    where
      here : (l : ℕ) → (image slot l ≡ held_then slot l) ⊎ IsInCopy second.lba runs l
      here l = ⊎_elim (λ was. inl (settled l (image slot l) was)) (λ new. inr new.1) (gated.outside slot l)

-- before the first call
pub updating_start : (may : Outcomes) (held : Image) (slot : ℕ) (first second : Gate) (runs : List Run) (image : Image)
    → IsSettled may held slot → IsLeft may image → IsLeftUpdating may held slot first second runs image
updating_start may held slot first second runs image settled left = record {
  other_slots = λ s l differs. left s l;
  here = record {
    outside = λ l. inl (settled l (image slot l) (left slot l));
    copies = inl (inl (λ l there. settled l (image slot l) (left slot l)), λ l there. settled l (image slot l) (left slot l));
  };
}

module _ {D : Type 0} (a b c : BayState D) (slot : ℕ) (first second : Gate) (runs : List Run)
    (apart : AreApart runs) (both : AreBothApart first second runs) (one : IsCopyWritten a b slot first runs) where
  -- both copies, the second of which may have failed
  pub both_moments : IsSettled a.may_hold a.held slot → StopsLeave b c (IsGated b.may_hold slot second runs)
      → StopsLeave a c (IsLeftUpdating a.may_hold a.held slot first second runs)
  both_moments settled two = stops_then
      (stops_weaken one.any_moment (λ image gated. first_image a.may_hold a.held slot first second runs image both settled gated))
      two
      (λ image gated. second_image a.may_hold a.held slot first second runs image both b.may_hold b.held one.left stays (copy_stands apart one) one.durable gated)
    where
      stays : (l : ℕ) → (b.held slot l ≡ a.held slot l) ⊎ IsInCopy first.lba runs l
      stays l = ⊎_elim inl (λ new. inr new.1) (copy_outside one slot l)

  -- both are there
  pub both_copied : IsCopyWritten b c slot second runs → AreBothWritten a c slot first second runs
  both_copied two = record {
    other_slots = λ s l differs. ⊎_elim (λ same. same) (λ new. absurd (differs new.0)) (copy_outside two s l) ∙ ⊎_elim (λ same. same) (λ new. absurd (differs new.0)) (copy_outside one s l);
    outside = λ l. ⊎_elim
        (λ same. ⊎_elim (λ was. inl (same ∙ was)) (λ new. inr (inl new.1)) (copy_outside one slot l))
        (λ new. inr (inr new.1))
        (copy_outside two slot l);
    first_is = copy_kept (b.held slot) (c.held slot) first.lba first.closed runs (copy_stands apart one) (λ l there. ⊎_elim (λ same. same) (λ new. absurd (both l there new.1)) (copy_outside two slot l));
    second_is = copy_stands apart two;
    durable = two.durable;
    left = λ s l bytes differs now. ⊎_elim
        (λ was. ⊎_elim (λ old. old) (λ new. absurd (differs new.0)) (one.left s l bytes was))
        (λ new. absurd (differs new.0))
        (two.left s l bytes now);
  }
