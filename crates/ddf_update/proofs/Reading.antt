-- Reading an image after the runs of a copy were put in it.
use Rattle.std.proofs.Common.{◌≡◌, ◌⊎◌, ℕ, ◌+◌, ◌-◌, ◌<◌, List, [], ◌∷◌, inl, inr, refl, sym, ◌∙◌, ⊎_elim, arith}
use Rattle.ddf_bay.specs.Sectors.{Image, put_run}
use Rattle.ddf_bay.proofs.Runs.{inside, put_mixes}
use Rattle.ddf_copy.specs.declared.run.Run.{Run}
use Rattle.ddf_copy.specs.Runs.{InRuns, RunsCover, put_runs, AreApart}

-- the sectors of runs
pub is_in_runs : (lba : ℕ) (runs : List Run) (l : ℕ) (bytes : List ℕ) → InRuns lba runs l bytes → RunsCover lba runs l
is_in_runs lba [] l bytes there = there
is_in_runs lba (run ∷ runs) l bytes (inl there) = inl (there.from, there.below)
is_in_runs lba (run ∷ runs) l bytes (inr there) = inr (is_in_runs lba runs l bytes there)

pub behind_header : (lba : ℕ) (runs : List Run) (l : ℕ) → AreApart runs → RunsCover lba runs l → lba < l
behind_header lba [] l apart there = absurd there
behind_header lba (run ∷ runs) l apart (inl there) = omega (arith, apart.0, there.0)
behind_header lba (run ∷ runs) l apart (inr there) = behind_header lba runs l apart.2 there

-- no run has the header's sector
pub off_header : (lba : ℕ) (runs : List Run) → AreApart runs → RunsCover lba runs lba → ⊥
off_header lba runs apart there = omega (arith, behind_header lba runs lba apart there)

from_start : (lba : ℕ) (runs : List Run) (l : ℕ) → RunsCover lba runs l → RunsCover 0 runs (l - lba)
from_start lba [] l there = there
from_start lba (run ∷ runs) l (inl there) = inl (omega (arith, there.0), omega (arith, there.0, there.1))
from_start lba (run ∷ runs) l (inr there) = inr (from_start lba runs l there)

-- after runs were put in, each sector is as it was or has the bytes of one of the runs
pub puts_mix : (image : Image) (slot lba : ℕ) (runs : List Run) (s l : ℕ)
    → (put_runs image slot lba runs s l ≡ image s l) ⊎ ((s ≡ slot) × InRuns lba runs l (put_runs image slot lba runs s l))
puts_mix image slot lba [] s l = inl refl
puts_mix image slot lba (run ∷ runs) s l = ⊎_elim
    (λ same. ⊎_elim
    (λ was. inl (same ∙ was))
    (λ here. inr (here.0, inl (rw same here.1)))
    (put_mixes image slot (lba + run.offset) run.sectors s l))
    (λ here. inr (here.0, inr here.1))
    (puts_mix (put_run image slot (lba + run.offset) run.sectors) slot lba runs s l)

pub puts_outside : (image : Image) (slot lba : ℕ) (runs : List Run) (l : ℕ) → (RunsCover lba runs l → ⊥) → put_runs image slot lba runs slot l ≡ image slot l
puts_outside image slot lba runs l outside =
    ⊎_elim (λ same. same) (λ here. absurd (outside (is_in_runs lba runs l (put_runs image slot lba runs slot l) here.1))) (puts_mix image slot lba runs slot l)

-- the bytes of each run, where no two share a sector
pub puts_inside : (image : Image) (slot lba : ℕ) (runs : List Run) (l : ℕ) (bytes : List ℕ) → AreApart runs → InRuns lba runs l bytes → put_runs image slot lba runs slot l ≡ bytes
puts_inside image slot lba [] l bytes apart there = absurd there
puts_inside image slot lba (run ∷ runs) l bytes apart (inl there) =
    puts_outside (put_run image slot (lba + run.offset) run.sectors) slot lba runs l
    (λ again. apart.1 (l - lba) (omega (arith, there.from)) (omega (arith, there.from, there.below)) (from_start lba runs l again))
    ∙ inside image slot (lba + run.offset) run.sectors l there.from there.below ∙ sym there.are
puts_inside image slot lba (run ∷ runs) l bytes apart (inr there) =
    puts_inside (put_run image slot (lba + run.offset) run.sectors) slot lba runs l bytes apart.2 there
