-- A disk whose copies carry one log.
use Rattle.std.specs.Prelude.{◌≡◌, ℕ, List, Option, Ok}
use Rattle.ddf_header.specs.declared.reading.Header.{Header}
use Rattle.ddf_tables.specs.BadBlocks.{LogValue}
use Rattle.ddf_copy.specs.declared.copy.DiskCopy.{DiskCopy}
use Rattle.ddf_copy.specs.declared.which.Which.{Which}
use Rattle.ddf_copy.specs.Anchor.{anchor_at}
use Rattle.ddf_copy.specs.Copies.{copy_of}
use Rattle.ddf_badblocks.specs.Ranges.{swap}
use Rattle.ddf_logs.specs.Logs.{configured_size, exchange_at}

-- the sectors of a slot as they are seen through the exchange that it gave at some moment
abbrev pub exchanged_at : (size : ℕ) → (before : ℕ → List ℕ) → (sector : ℕ → List ℕ) → ℕ → List ℕ
exchanged_at size before sector l = sector (swap size (exchange_at size before) l)

-- It has this anchor and a whole copy under it, and each whole copy carries this log, to the byte, and lists the disk with so many sectors for arrays.
pub record CarryLog (size : ℕ) (sector : ℕ → List ℕ) (anchor : Header) (bad : Option LogValue) (sectors : Option ℕ) : Type 0 where
  pub is_anchored : anchor_at size sector ≡ Ok anchor
  pub place : Which
  pub whole : DiskCopy
  pub is_there : copy_of size sector anchor place ≡ Ok whole
  pub each : (which : Which) (copy : DiskCopy) → copy_of size sector anchor which ≡ Ok copy → (copy.bad ≡ bad) × (configured_size copy ≡ sectors)
