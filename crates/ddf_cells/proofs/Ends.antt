-- What holds once calls gave sectors bytes, and the slots that were touched are synced.
use Rattle.std.proofs.Common.{◌≡◌, ◌∙◌, ◌⊎◌, inl, inr, ⊎_elim, ℕ, ◌<◌, ◌≤◌, Bool, true, false, List, refl, sym, ap, subst, arith, length}
use Rattle.std.specs.Prelude.{Result, Ok, Err, IfErr, slice_index_or}
use Rattle.std.proofs.lemmas.Bool.{cases_lt}
use Rattle.ddf_bay.specs.State.{BayState}
use Rattle.ddf_bay.specs.Sectors.{Image, IsLeft}
use Rattle.ddf_bay.specs.Moments.{IsSettled, Keeps, SpendsOver, StopsLeave}
use Rattle.ddf_bay.proofs.Steps.{stops_then}
use Rattle.ddf_cells.specs.Touching.{Giving, GoesBetween, IsAmongGiven, IsGivenOn, IsTouchedSlot, Writes}

-- two things of an error
pub both_of_err : {T E : Type 0} (r : Result T E) (P Q : E → Type 0) → IfErr r P → IfErr r Q → IfErr r (λ e. P e × Q e)
both_of_err (Ok x) P Q p q = p
both_of_err (Err e) P Q p q = (p, q)

module _ (May : Giving) (tells : Type 0) {D : Type 0} {old b : BayState D} {t u : List Bool} (w : Writes May tells old b t u) where
  pub held_by : tells → (s l : ℕ) → (b.held s l ≡ old.held s l) ⊎ May s l (b.held s l)
  held_by tell s l = ⊎_elim inl (λ given. inr given.0) (w.held tell s l)

  pub left_by : (s l : ℕ) (bytes : List ℕ) → b.may_hold s l bytes → old.may_hold s l bytes ⊎ May s l bytes
  left_by s l bytes left = ⊎_elim inl (λ given. inr given.0) (w.left s l bytes left)

  pub goes_by : GoesBetween old b
  goes_by = record { goes_on = w.goes_on; same_sizes = w.same_sizes; reads_rise = w.reads_rise; writes_rise = w.writes_rise }

  -- a slot that is touched, where none was before
  pub touched_by : ((s : ℕ) → IsTouchedSlot t s → ⊥) → (s : ℕ) → IsTouchedSlot u s → IsGivenOn May s
  touched_by none s is = ⊎_elim (λ was. absurd (none s was)) (λ given. given) (w.touched_only s is)

  -- after the syncs
  module _ (n : BayState D) (keeps : Keeps b.may_hold n.may_hold) (same : n.held ≡ b.held) where
    pub moments_end : StopsLeave b n (IsLeft b.may_hold) → StopsLeave old n (IsAmongGiven May old.may_hold)
    moments_end moments = stops_then {Q = IsLeft b.may_hold} w.any_moment moments (λ image left s l. left_by s l (image s l) (left s l))

    pub held_end : tells → (s l : ℕ) → (n.held s l ≡ old.held s l) ⊎ May s l (n.held s l)
    held_end tell = subst (λ (f : Image). (s l : ℕ) → (f s l ≡ old.held s l) ⊎ May s l (f s l)) (sym same) (held_by tell)

    pub left_end : (s l : ℕ) (bytes : List ℕ) → n.may_hold s l bytes → old.may_hold s l bytes ⊎ May s l bytes
    left_end s l bytes left = left_by s l bytes (keeps s l bytes left)

    pub goes_end : {m k : ℕ} → SpendsOver b n m k → GoesBetween old n
    goes_end spends = record {
      goes_on = λ bay leads. w.goes_on bay (spends.goes_on bay leads);
      same_sizes = spends.same_sizes ∙ w.same_sizes;
      reads_rise = λ s. omega (arith, w.reads_rise s, spends.reads_rise s);
      writes_rise = λ s. omega (arith, w.writes_rise s, spends.writes_rise s);
    }

    -- a slot where nothing was pending has nothing pending
    pub settled_end : tells → ((s l : ℕ) (bytes : List ℕ) → May s l bytes → s < length old.sizes) → ((slot : ℕ) → slot < length old.sizes → IsTouchedSlot u slot → IsSettled n.may_hold n.held slot)
        → (slot : ℕ) → IsSettled old.may_hold old.held slot → IsSettled n.may_hold n.held slot
    settled_end tell there synced slot settled = by (slice_index_or u slot false) refl
      where
        untouched : ((l : ℕ) (bytes : List ℕ) → May slot l bytes → IsTouchedSlot u slot → ⊥) → IsSettled n.may_hold n.held slot
        untouched never l bytes left =
            let was : old.may_hold slot l bytes = ⊎_elim (λ before. before) (λ given. absurd (never l bytes given.0 given.1)) (w.left slot l bytes (keeps slot l bytes left)) in
            let held : b.held slot l ≡ old.held slot l = ⊎_elim (λ before. before) (λ given. absurd (never l (b.held slot l) given.0 given.1)) (w.held tell slot l) in
            settled l bytes was ∙ sym (ap (λ (f : Image). f slot l) same ∙ held)

        by : (touched : Bool) → slice_index_or u slot false ≡ touched → IsSettled n.may_hold n.held slot
        by false is = untouched (λ l bytes given on. absurd (differ (sym is ∙ on)))
          where
            differ : false ≡ true → ⊥
            differ e = cc
        by true is = ⊎_elim
            (λ (on : slot < length old.sizes). synced slot on is)
            (λ (past : length old.sizes ≤ slot). untouched (λ l bytes given on. omega (arith, past, there slot l bytes given)))
            (cases_lt slot (length old.sizes))
