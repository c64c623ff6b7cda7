-- The lines of a batch, one after another.
use Rattle.std.proofs.Common.{◌≡◌, ◌∙◌, ℕ, ◌+◌, ◌<◌, ◌≤◌, List, [], ◌∷◌, length, get_or, drop, Option, Bool, true, false, ◌||◌, nat_lt, refl, sym, subst, ap, arith}
use Rattle.std.specs.Prelude.{IsTrue, nat_le}
use Rattle.std.proofs.Common.{length-drop}
use Rattle.std.proofs.lemmas.List.{drop_more, nil_from_length}
use Rattle.ddf_bytes.specs.declared.stamp.Stamp.{Stamp}
use Rattle.ddf_bay.specs.State.{BayState}
use Rattle.ddf_words.specs.Words.{Word}
use Rattle.ddf_batch.specs.Batch.{AreLinesRun, Going, IsRun, goes_on, is_batch_status, whole_status}
use Rattle.ddf_batch.specs.Line.{Point}

module _ {B : Type 0} (tells : Type 0) (disks : B → BayState B) (told : Type 0) (stamp : Stamp) (group : Option (List ℕ)) (images : List Word) (lines : List (List ℕ)) (start now : Point B) (refused : Bool) (n : ℕ) where
  abbrev Runs : List (List ℕ) → (from to : Point B) → Bool → ℕ → Type 0
  Runs some from to before status = AreLinesRun tells disks told stamp group images some from to before status

  -- However the others are run, all are.
  abbrev pub SoFar : Type 0
  SoFar = (to : Point B) (status : ℕ) → Runs (drop n lines) now to refused status → Runs lines start to false status

  -- none is left
  pub runs_end : SoFar → length lines ≤ n → Runs lines start now false (whole_status refused)
  runs_end so_far all = so_far now (whole_status refused) (subst (λ (some : List (List ℕ)). Runs some now now refused (whole_status refused)) (sym (drop_all lines n all)) (refl, refl))
    where
      drop_all : (some : List (List ℕ)) (m : ℕ) → length some ≤ m → drop m some ≡ []
      drop_all some m e = nil_from_length (drop m some) (omega (arith, length-drop m some))

  module _ (so_far : SoFar) (next : Point B) (line : List ℕ) (code : ℕ) (lt : n < length lines) (here : line ≡ get_or lines n line) (run : IsRun tells disks told stamp group images line now next code) where
    left : drop n lines ≡ line ∷ drop (n + 1) lines
    left = drop_more lines n line lt ∙ ap (λ (it : List ℕ). it ∷ drop (n + 1) lines) (sym here)

    -- behind this one the next follows
    pub runs_on : goes_on code ≡ true → (to : Point B) (status : ℕ) → Runs (drop (n + 1) lines) next to (refused || nat_lt 0 code) status → Runs lines start to false status
    runs_on goes to status others = so_far to status (subst (λ (some : List (List ℕ)). Runs some now to refused status) (sym left)
        (next, code, run, subst (λ (going : Bool). Going going (Runs (drop (n + 1) lines) next to (refused || nat_lt 0 code) status) ((to ≡ next) × (status ≡ code))) (sym goes) others))

    -- this one is the last
    pub runs_stop : goes_on code ≡ false → Runs lines start next false code
    runs_stop stops = so_far next code (subst (λ (some : List (List ℕ)). Runs some now next refused code) (sym left)
        (next, code, run, subst (λ (going : Bool). Going going (Runs (drop (n + 1) lines) next next (refused || nat_lt 0 code) code) ((next ≡ next) × (code ≡ code))) (sym stops) (refl, refl)))

-- ---- statuses

pub stopped_status : (code : ℕ) → 2 < code → nat_le code 6 ≡ true → IsTrue (is_batch_status code)
stopped_status code past few = grind arith

pub whole_is_status : (refused : Bool) → IsTrue (is_batch_status (whole_status refused))
whole_is_status true = refl
whole_is_status false = refl

pub goes_past : (code : ℕ) → (2 < code → ⊥) → goes_on code ≡ true
goes_past code few = grind arith

pub stops_past : (code : ℕ) → 2 < code → goes_on code ≡ false
stops_past code past = grind arith
