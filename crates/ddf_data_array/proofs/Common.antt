-- What several crates above ask of the definitions of this one.
use Rattle.std.proofs.Common.{Bool, List, ℕ}
use Rattle.ddf_bay.specs.Sectors.{Image}
use Rattle.ddf_array.specs.Values.{given}
use Rattle.ddf_array.specs.Volume.{Volume}
use Rattle.ddf_data_array.specs.Allowed.{Allowed, May}
use Rattle.ddf_data_array.specs.Kept.{IsKeptData}

-- An array that keeps what each of its blocks may have keeps also what they may have by other words.
pub kept_more : (is_absent : ℕ → ℕ → Bool) (v : Volume) (image : Image) (one other : Allowed) → ((block : ℕ) (bytes : List ℕ) → May (one block) bytes → May (other block) bytes)
    → IsKeptData is_absent v image one → IsKeptData is_absent v image other
kept_more is_absent v image one other may kept = record { sound = kept.sound; reads = λ block k source at. may block (given image source) (kept.reads block k source at); rows = kept.rows }
