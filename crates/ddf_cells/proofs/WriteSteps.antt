-- Writes of blocks, call by call.
use Rattle.std.proofs.Common.{◌≡◌, ◌∙◌, ◌⊎◌, inl, inr, ⊎_elim, ℕ, zero, suc, ◌+◌, ◌-◌, ◌<◌, Bool, true, false, List, [], ◌∷◌, refl, sym, ap, subst, arith, length, replicate}
use Rattle.std.specs.Prelude.{slice_index_or, slice_set}
use Rattle.ddf_lemmas.proofs.Lists.{touch_count}
use Rattle.ddf_bay.specs.State.{BayState}
use Rattle.ddf_bay.specs.Sectors.{Image, InRun, IsLeft}
use Rattle.ddf_bay.specs.Moments.{StopsLeave, Adds, Mixes, IsAmong, SpendsWrites}
use Rattle.ddf_bay.proofs.Steps.{stops_start, stops_then, stops_weaken}
use Rattle.ddf_array.specs.declared.site.Site.{Site}
use Rattle.ddf_array.specs.Places.{site_on}
use Rattle.ddf_array.specs.Volume.{Volume, IsVolume}
use Rattle.ddf_read.specs.Reading.{OnlyReads}
use Rattle.ddf_cells.specs.CellsOn.{GivesCells}
use Rattle.ddf_cells.specs.Touching.{Giving, IsAmongGiven, IsGivenOn, Writes, AreSet, IsTouchedSlot}
use Rattle.ddf_array.specs.Apart.{IsApart}
use Rattle.ddf_cells.proofs.OnCells.{OnCell, on_cell, one_owner}
use Rattle.ddf_cells.proofs.CopiesOn.{on_position}

-- a slot is touched
pub touch_up : (touched : List Bool) (slot s : ℕ) → slot < length touched → IsTouchedSlot touched s → IsTouchedSlot (slice_set touched slot true) s
touch_up [] slot s below is = absurd (omega (arith, below))
touch_up (b ∷ bs) zero zero below is = refl
touch_up (b ∷ bs) zero (suc s) below is = is
touch_up (b ∷ bs) (suc slot) zero below is = is
touch_up (b ∷ bs) (suc slot) (suc s) below is = touch_up bs slot s (omega (arith, below)) is

pub touch_here : (touched : List Bool) (slot : ℕ) → slot < length touched → IsTouchedSlot (slice_set touched slot true) slot
touch_here [] slot below = absurd (omega (arith, below))
touch_here (b ∷ bs) zero below = refl
touch_here (b ∷ bs) (suc slot) below = touch_here bs slot (omega (arith, below))

pub touch_only : (touched : List Bool) (slot s : ℕ) → IsTouchedSlot (slice_set touched slot true) s → IsTouchedSlot touched s ⊎ (s ≡ slot)
touch_only [] slot s is = inl is
touch_only (b ∷ bs) zero zero is = inr refl
touch_only (b ∷ bs) zero (suc s) is = inl is
touch_only (b ∷ bs) (suc slot) zero is = inl is
touch_only (b ∷ bs) (suc slot) (suc s) is = ⊎_elim inl (λ same. inr (ap suc same)) (touch_only bs slot s is)

-- none of so many is before the first
pub none_touched : (n s : ℕ) → IsTouchedSlot (replicate n false) s → ⊥
none_touched zero s is = cc
none_touched (suc n) zero is = cc
none_touched (suc n) (suc s) is = none_touched n s is

-- the first sector of a run gets bytes
given_first : (May : Giving) (slot lba : ℕ) (run : List (List ℕ)) → 0 < length run → ((l : ℕ) (bytes : List ℕ) → InRun lba run l bytes → May slot l bytes) → IsGivenOn May slot
given_first May slot lba run some gives = record {
  lba = lba;
  bytes = slice_index_or run (lba - lba) [];
  is_given = gives lba (slice_index_or run (lba - lba) []) (record { from = omega arith; below = omega (arith, some); are = refl });
}

module _ (May : Giving) (tells : Type 0) {D : Type 0} where
  -- before the first call
  pub writes_start : (a : BayState D) (touched : List Bool) → Writes May tells a a touched touched
  writes_start a touched = record {
    goes_on = λ bay leads. leads;
    same_sizes = refl;
    reads_rise = λ s. omega arith;
    writes_rise = λ s. omega arith;
    held = λ tells s l. inl refl;
    left = λ s l bytes left. inl left;
    any_moment = stops_start a (IsAmongGiven May a.may_hold);
    touched_up = λ s is. is;
    touched_only = λ s is. inl is;
    same_count = refl;
  }

  -- one call more
  pub writes_then : {a b c : BayState D} {t u w : List Bool} → Writes May tells a b t u → Writes May tells b c u w → Writes May tells a c t w
  writes_then {a = a} {b = b} {c = c} {t = t} {u = u} {w = w} first next = record {
    goes_on = λ bay leads. first.goes_on bay (next.goes_on bay leads);
    same_sizes = next.same_sizes ∙ first.same_sizes;
    reads_rise = λ s. omega (arith, first.reads_rise s, next.reads_rise s);
    writes_rise = λ s. omega (arith, first.writes_rise s, next.writes_rise s);
    held = λ tells s l. ⊎_elim
        (λ same. ⊎_elim (λ was. inl (same ∙ was)) (λ given. inr (subst (λ bytes. May s l bytes) (sym same) given.0, next.touched_up s given.1)) (first.held tells s l))
        inr
        (next.held tells s l);
    left = λ s l bytes left. ⊎_elim
        (λ was. ⊎_elim inl (λ given. inr (given.0, next.touched_up s given.1)) (first.left s l bytes was))
        inr
        (next.left s l bytes left);
    any_moment = stops_then {Q = IsAmongGiven May b.may_hold} first.any_moment next.any_moment
        (λ image among s l. ⊎_elim (λ may. ⊎_elim inl (λ given. inr given.0) (first.left s l (image s l) may)) inr (among s l));
    touched_up = λ s is. next.touched_up s (first.touched_up s is);
    touched_only = λ s is. ⊎_elim (λ was. first.touched_only s was) inr (next.touched_only s is);
    same_count = next.same_count ∙ first.same_count;
  }

  -- calls that only read
  pub writes_read : {a b : BayState D} (touched : List Bool) → OnlyReads a b → Writes May tells a b touched touched
  writes_read {a = a} {b = b} touched reads = record {
    goes_on = reads.reads.goes_on;
    same_sizes = reads.reads.same_sizes;
    reads_rise = reads.never_falls;
    writes_rise = λ s. let same = ap (λ (f : ℕ → ℕ). f s) reads.same_writes in omega (arith, same);
    held = λ tells s l. inl (ap (λ (f : Image). f s l) reads.reads.same_held);
    left = λ s l bytes left. inl (reads.reads.keeps s l bytes left);
    any_moment = stops_weaken {Q = IsLeft a.may_hold} reads.reads.any_moment (λ image left s l. inl (left s l));
    touched_up = λ s is. is;
    touched_only = λ s is. inl is;
    same_count = refl;
  }

  -- a run is written to a touched slot
  pub writes_run : {a b : BayState D} (slot lba : ℕ) (run : List (List ℕ)) (touched : List Bool) (n m : ℕ) → slot < length touched → 0 < length run
      → ((l : ℕ) (bytes : List ℕ) → InRun lba run l bytes → May slot l bytes)
      → (tells → Mixes a.held b.held slot lba run) → Adds a.may_hold b.may_hold slot lba run → StopsLeave a b (IsAmong a.may_hold slot lba run) → SpendsWrites a b slot n m
      → Writes May tells a b touched (slice_set touched slot true)
  writes_run {a = a} {b = b} slot lba run touched n m below some gives mixes adds moments spends =
      let here = touch_here touched slot below in
      let given : (s l : ℕ) (bytes : List ℕ) → (s ≡ slot) × InRun lba run l bytes → May s l bytes =
      λ s l bytes new. subst (λ n. May n l bytes) (sym new.0) (gives l bytes new.1) in
      record {
        goes_on = spends.goes_on;
        same_sizes = spends.same_sizes;
        reads_rise = λ s. let same = ap (λ (f : ℕ → ℕ). f s) spends.same in omega (arith, same);
        writes_rise = spends.rises;
        held = λ tells s l. ⊎_elim inl (λ new. inr (given s l (b.held s l) new, subst (IsTouchedSlot (slice_set touched slot true)) (sym new.0) here)) (mixes tells s l);
        left = λ s l bytes left. ⊎_elim inl (λ new. inr (given s l bytes new, subst (IsTouchedSlot (slice_set touched slot true)) (sym new.0) here)) (adds s l bytes left);
        any_moment = stops_weaken {Q = IsAmong a.may_hold slot lba run} moments (λ image among s l. ⊎_elim inl (λ new. inr (given s l (image s l) new)) (among s l));
        touched_up = λ s is. touch_up touched slot s below is;
        touched_only = λ s is. ⊎_elim inl (λ same. inr (subst (IsGivenOn May) (sym same) (given_first May slot lba run some gives))) (touch_only touched slot s is);
        same_count = touch_count touched slot;
      }

-- calls that may give less
pub writes_wider : (May Wide : Giving) (tells : Type 0) {D : Type 0} {a b : BayState D} {t u : List Bool} → ((s l : ℕ) (bytes : List ℕ) → May s l bytes → Wide s l bytes)
    → Writes May tells a b t u → Writes Wide tells a b t u
writes_wider May Wide tells {a = a} {b = b} wide writes = record {
  goes_on = writes.goes_on;
  same_sizes = writes.same_sizes;
  reads_rise = writes.reads_rise;
  writes_rise = writes.writes_rise;
  held = λ tells s l. ⊎_elim inl (λ given. inr (wide s l (b.held s l) given.0, given.1)) (writes.held tells s l);
  left = λ s l bytes left. ⊎_elim inl (λ given. inr (wide s l bytes given.0, given.1)) (writes.left s l bytes left);
  any_moment = stops_weaken {Q = IsAmongGiven May a.may_hold} writes.any_moment (λ image among s l. ⊎_elim inl (λ given. inr (wide s l (image s l) given)) (among s l));
  touched_up = writes.touched_up;
  touched_only = λ s is. ⊎_elim inl (λ given. inr (record { lba = given.lba; bytes = given.bytes; is_given = wide s given.lba given.bytes given.is_given })) (writes.touched_only s is);
  same_count = writes.same_count;
}

-- ---- what was set stays

-- calls that give a cell of these blocks nothing but its bytes
abbrev pub KeepsCells : Volume → (start : ℕ) → List (List ℕ) → Giving → Type 0
KeepsCells v start sectors May = (e p k : ℕ) (one : Site) (bytes : List ℕ) → OnCell v e p (start + k) one → May one.slot one.lba bytes → bytes ≡ slice_index_or sectors k []

module _ (v : Volume) (known : IsVolume v) (start : ℕ) (sectors : List (List ℕ)) where
  -- bytes that a write gives a cell of a block are the block's
  pub given_cell : IsApart v → KeepsCells v start sectors (GivesCells v start sectors)
  given_cell apart e p k one bytes cell given =
      let other = on_position v known (start + given.0.k) given.0.i (site_on one.slot one.lba) given.0.is_cell in
      let same = one_owner v known apart e p other.element other.position (start + k) (start + given.0.k) one cell (on_cell v known other.element other.position (start + given.0.k) one other.on) in
      let k_same : given.0.k ≡ k = omega (arith, same) in
      given.1 ∙ ap (λ n. slice_index_or sectors n []) k_same

  pub set_stays : (May : Giving) → KeepsCells v start sectors May → {D : Type 0} {a b : BayState D} (tells : Type 0) {t u : List Bool} (e p from to : ℕ) → tells → Writes May tells a b t u
      → AreSet v e p start from to sectors a.held t → AreSet v e p start from to sectors b.held u
  set_stays May keeps {a = a} {b = b} tells e p from to tell step set k one above below cell =
      let was = set k one above below cell in
      (⊎_elim (λ same. same ∙ was.0) (λ given. keeps e p k one (b.held one.slot one.lba) (on_cell v known e p (start + k) one cell) given.0) (step.held tell one.slot one.lba), step.touched_up one.slot was.1)
