-- What a stop leaves in each of the three steps of a copy.
use Rattle.std.proofs.lemmas.Grind.{common_steps}
use Rattle.std.proofs.Common.{◌≡◌, ◌⊎◌, ℕ, ◌+◌, ◌-◌, List, [], ◌∷◌, get_or, inl, inr, refl, sym, ◌∙◌, ap, subst, ⊎_elim, arith}
use Rattle.ddf_bay.specs.State.{BayState}
use Rattle.ddf_bay.specs.Sectors.{Image, Outcomes, InRun, put_run}
use Rattle.ddf_bay.specs.Moments.{StopsLeave, Adds, Mixes, IsAmong, IsSettled}
use Rattle.ddf_bay.proofs.Steps.{stops_then, stops_weaken}
use Rattle.ddf_bay.proofs.Runs.{inside, put_mixes}
use Rattle.ddf_copy.specs.declared.run.Run.{Run}
use Rattle.ddf_update.specs.declared.gate.Gate.{Gate}
use Rattle.ddf_copy.specs.Runs.{AreApart, InRuns, IsInCopy, RunsCover, put_runs}
use Rattle.ddf_update.specs.Stage.{AddsRuns, MixesRuns, IsAmongRuns, IsStaged, AreStaged}
use Rattle.ddf_update.specs.Gate.{KeepsOutside, StaysOutside, IsGated, IsCopyWritten}
use Rattle.ddf_update.proofs.Reading.{is_in_runs, off_header, puts_outside, puts_inside}

-- a run of one sector
pub one_in : (lba l : ℕ) (bytes v : List ℕ) → InRun lba (bytes ∷ []) l v → (l ≡ lba) × (v ≡ bytes)
one_in lba l bytes v there =
    let first : l - lba ≡ 0 = omega (arith, there.from, there.below) in
    let here : l ≡ lba = omega (arith, there.from, there.below) in
    (here, rw first at there.are)

-- what may be left after each step
module _ (a b : Outcomes) (slot : ℕ) (gate : Gate) (runs : List Run) where
  header_keeps : (bytes : List ℕ) → Adds a b slot gate.lba (bytes ∷ []) → KeepsOutside a b slot (IsInCopy gate.lba runs)
  header_keeps bytes adds s l v now = ⊎_elim inl (λ new. inr (new.0, inl (one_in gate.lba l bytes v new.1).0)) (adds s l v now)

  runs_keep : AddsRuns a b slot gate.lba runs → KeepsOutside a b slot (IsInCopy gate.lba runs)
  runs_keep adds s l v now = ⊎_elim inl (λ new. inr (new.0, inr (is_in_runs gate.lba runs l v new.1))) (adds s l v now)

-- outside some sectors, step after step
outside_then : (a b c : Outcomes) (slot : ℕ) (IsThere : ℕ → Type 0) → KeepsOutside a b slot IsThere → KeepsOutside b c slot IsThere → KeepsOutside a c slot IsThere
outside_then a b c slot IsThere first second s l v now = ⊎_elim (first s l v) inr (second s l v now)

module _ (a b c : Outcomes) (slot : ℕ) (gate : Gate) (runs : List Run) (bytes : List ℕ) (header : Adds a b slot gate.lba (bytes ∷ [])) (sections : AddsRuns b c slot gate.lba runs) where
  -- what the first two steps leave outside the copy
  pub two_keep : KeepsOutside a c slot (IsInCopy gate.lba runs)
  two_keep = outside_then a b c slot (IsInCopy gate.lba runs) (header_keeps a b slot gate runs bytes header) (runs_keep b c slot gate runs sections)

  -- and all three
  pub three_keep : (d : Outcomes) (last : List ℕ) → Adds c d slot gate.lba (last ∷ []) → KeepsOutside a d slot (IsInCopy gate.lba runs)
  three_keep d last again = outside_then a c d slot (IsInCopy gate.lba runs) two_keep (header_keeps c d slot gate runs last again)

-- what is held after each step
stays_then : (a b c : Image) (slot : ℕ) (IsThere : ℕ → Type 0) → StaysOutside a b slot IsThere → StaysOutside b c slot IsThere → StaysOutside a c slot IsThere
stays_then a b c slot IsThere first second s l = ⊎_elim (λ same. ⊎_elim (λ was. inl (same ∙ was)) inr (first s l)) inr (second s l)

module _ (a b : Image) (slot : ℕ) (gate : Gate) (runs : List Run) where
  header_stays : (bytes : List ℕ) → Mixes a b slot gate.lba (bytes ∷ []) → StaysOutside a b slot (IsInCopy gate.lba runs)
  header_stays bytes mixes s l = ⊎_elim inl (λ new. inr (new.0, inl (one_in gate.lba l bytes (b s l) new.1).0)) (mixes s l)

  runs_stay : MixesRuns a b slot gate.lba runs → StaysOutside a b slot (IsInCopy gate.lba runs)
  runs_stay mixes s l = ⊎_elim inl (λ new. inr (new.0, inr (is_in_runs gate.lba runs l (b s l) new.1))) (mixes s l)

module _ (a b c : Image) (slot : ℕ) (gate : Gate) (runs : List Run) (bytes : List ℕ) (header : Mixes a b slot gate.lba (bytes ∷ [])) (sections : MixesRuns b c slot gate.lba runs) where
  pub two_stay : StaysOutside a c slot (IsInCopy gate.lba runs)
  two_stay = stays_then a b c slot (IsInCopy gate.lba runs) (header_stays a b slot gate runs bytes header) (runs_stay b c slot gate runs sections)

  pub three_stay : (d : Image) (last : List ℕ) → Mixes c d slot gate.lba (last ∷ []) → StaysOutside a d slot (IsInCopy gate.lba runs)
  three_stay d last again = stays_then a c d slot (IsInCopy gate.lba runs) two_stay (header_stays c d slot gate runs last again)

module _ (may : Outcomes) (slot : ℕ) (gate : Gate) (runs : List Run) (image : Image) where
  -- the header is opened
  opening : IsAmong may slot gate.lba (gate.opened ∷ []) image → IsGated may slot gate runs image
  opening among = record {
    outside = λ s l. ⊎_elim inl (λ new. inr (new.0, inl (one_in gate.lba l gate.opened (image s l) new.1).0)) (among s l);
    copy = ⊎_elim
        (λ was. inl (λ l. ⊎_elim (λ same. same) (λ new. subst (λ (k : ℕ). may slot k (image slot k)) (sym (one_in gate.lba l gate.opened (image slot l) new.1).0) was) (among slot l)))
        (λ new. inr (inl (one_in gate.lba gate.lba gate.opened (image slot gate.lba) new.1).1))
        (among slot gate.lba);
  }

  module _ (between : Outcomes) (held : Image) (keeps : KeepsOutside may between slot (IsInCopy gate.lba runs)) (settled : IsSettled between held slot)
      (is_open : held slot gate.lba ≡ gate.opened) (apart : AreApart runs) where
    -- the sections are written
    filling : IsAmongRuns between slot gate.lba runs image → IsGated may slot gate runs image
    filling among = record {
      outside = λ s l. ⊎_elim (keeps s l (image s l)) (λ new. inr (new.0, inr (is_in_runs gate.lba runs l (image s l) new.1))) (among s l);
      copy = inr (inl (⊎_elim
          (λ was. settled gate.lba (image slot gate.lba) was ∙ is_open)
          (λ new. absurd (off_header gate.lba runs apart (is_in_runs gate.lba runs gate.lba (image slot gate.lba) new.1)))
          (among slot gate.lba)));
    }

    -- the header is closed
    closing : ((l : ℕ) (bytes : List ℕ) → InRuns gate.lba runs l bytes → held slot l ≡ bytes) → IsAmong between slot gate.lba (gate.closed ∷ []) image → IsGated may slot gate runs image
    closing filled among = record {
      outside = λ s l. ⊎_elim (keeps s l (image s l)) (λ new. inr (new.0, inl (one_in gate.lba l gate.closed (image s l) new.1).0)) (among s l);
      copy = ⊎_elim
          (λ was. inr (inl (settled gate.lba (image slot gate.lba) was ∙ is_open)))
          (λ new. inr (inr (record { header_is = (one_in gate.lba gate.lba gate.closed (image slot gate.lba) new.1).1; sections_are = stands })))
          (among slot gate.lba);
    }
      where
        stands : (l : ℕ) (bytes : List ℕ) → InRuns gate.lba runs l bytes → image slot l ≡ bytes
        stands l bytes there = ⊎_elim
            (λ was. settled l (image slot l) was ∙ filled l bytes there)
            (λ new. absurd (off_header gate.lba runs apart (subst (RunsCover gate.lba runs) (one_in gate.lba l gate.closed (image slot l) new.1).0 (is_in_runs gate.lba runs l bytes there))))
            (among slot l)

-- the header is open after the first step
pub opened : {D : Type 0} {a b : BayState D} {slot lba : ℕ} {bytes : List ℕ}
    → IsStaged a b slot lba (bytes ∷ []) → b.held slot lba ≡ bytes
opened {a = a} {slot = slot} {lba = lba} {bytes = bytes} first =
    let e : lba - lba ≡ 0 = omega arith in
    let zeroth : get_or (bytes ∷ []) (lba - lba) [] ≡ bytes = rw e refl in
    ap (λ (f : Image). f slot lba) first.written ∙ inside a.held slot lba (bytes ∷ []) lba (omega arith) (omega arith) ∙ zeroth

-- The closed header covers the open one.
same_over : (f g : Image) (slot lba : ℕ) (bytes : List ℕ) (s l : ℕ) → ((s ≡ slot) × (l ≡ lba)) ⊎ (f s l ≡ g s l)
    → put_run f slot lba (bytes ∷ []) s l ≡ put_run g slot lba (bytes ∷ []) s l
same_over f g slot lba bytes s l (inl here) =
    let e : lba - lba ≡ 0 = omega arith in
    rw (here.0, here.1) (inside f slot lba (bytes ∷ []) lba (omega arith) (omega arith) ∙ sym (inside g slot lba (bytes ∷ []) lba (omega arith) (omega arith)))
same_over f g slot lba bytes s l (inr same) = grind (arith, common_steps)

runs_over : (f g : Image) (slot lba : ℕ) (runs : List Run) (s l : ℕ) → f s l ≡ g s l → put_runs f slot lba runs s l ≡ put_runs g slot lba runs s l
runs_over f g slot lba [] s l same = same
runs_over f g slot lba (run ∷ runs) s l same =
    runs_over (put_run f slot (lba + run.offset) run.sectors) (put_run g slot (lba + run.offset) run.sectors) slot lba runs s l (grind (arith, common_steps))

three_runs : (image : Image) (slot lba : ℕ) (open_bytes closed_bytes : List ℕ) (runs : List Run) (s l : ℕ)
    → put_run (put_runs (put_run image slot lba (open_bytes ∷ [])) slot lba runs) slot lba (closed_bytes ∷ []) s l ≡ put_run (put_runs image slot lba runs) slot lba (closed_bytes ∷ []) s l
three_runs image slot lba open_bytes closed_bytes runs s l =
    same_over (put_runs (put_run image slot lba (open_bytes ∷ [])) slot lba runs) (put_runs image slot lba runs) slot lba closed_bytes s l
    (⊎_elim
    (λ same. inr (runs_over (put_run image slot lba (open_bytes ∷ [])) image slot lba runs s l same))
    (λ here. inl (here.0, (one_in lba l open_bytes (put_run image slot lba (open_bytes ∷ []) s l) here.1).0))
    (put_mixes image slot lba (open_bytes ∷ []) s l))

module _ {D : Type 0} {a b c : BayState D} {slot : ℕ} {gate : Gate} {runs : List Run} where
  -- the first two steps, the second of which may have failed
  pub filled_moments : AreApart runs → IsStaged a b slot gate.lba (gate.opened ∷ [])
      → StopsLeave b c (IsAmongRuns b.may_hold slot gate.lba runs)
      → StopsLeave a c (IsGated a.may_hold slot gate runs)
  filled_moments apart first second = stops_then
      (stops_weaken first.any_moment (opening a.may_hold slot gate runs))
      second
      (λ image among. filling a.may_hold slot gate runs image b.may_hold b.held (header_keeps a.may_hold b.may_hold slot gate runs gate.opened first.left) first.durable (opened first) apart among)

  -- all three, the last of which may have failed
  pub gated : {d : BayState D} → AreApart runs → IsStaged a b slot gate.lba (gate.opened ∷ [])
      → AreStaged b c slot gate.lba runs
      → StopsLeave c d (IsAmong c.may_hold slot gate.lba (gate.closed ∷ []))
      → StopsLeave a d (IsGated a.may_hold slot gate runs)
  gated apart first second third = stops_then
      (filled_moments apart first second.any_moment)
      third
      (λ image among. closing a.may_hold slot gate runs image c.may_hold c.held (two_keep a.may_hold b.may_hold c.may_hold slot gate runs gate.opened first.left second.left) second.durable still_open apart filled among)
    where
      still_open : c.held slot gate.lba ≡ gate.opened
      still_open = ap (λ (f : Image). f slot gate.lba) second.written ∙ puts_outside b.held slot gate.lba runs gate.lba (off_header gate.lba runs apart) ∙ opened first

      filled : (l : ℕ) (bytes : List ℕ) → InRuns gate.lba runs l bytes → c.held slot l ≡ bytes
      filled l bytes there = ap (λ (f : Image). f slot l) second.written ∙ puts_inside b.held slot gate.lba runs l bytes apart there

  -- after all three the copy stands
  pub copied : {d : BayState D} → AreApart runs → IsStaged a b slot gate.lba (gate.opened ∷ [])
      → AreStaged b c slot gate.lba runs
      → IsStaged c d slot gate.lba (gate.closed ∷ [])
      → IsCopyWritten a d slot gate runs
  copied {d = d} apart first second third = record {
    written = λ s l.
        let e = ap (λ (f : Image). put_run f slot gate.lba (gate.closed ∷ [])) (second.written ∙ ap (λ (f : Image). put_runs f slot gate.lba runs) first.written) in
        ap (λ (f : Image). f s l) (third.written ∙ e) ∙ three_runs a.held slot gate.lba gate.opened gate.closed runs s l;
    durable = third.durable;
    left = three_keep a.may_hold b.may_hold c.may_hold slot gate runs gate.opened first.left second.left d.may_hold gate.closed third.left;
    any_moment = gated apart first second third.any_moment;
  }
