-- The gate of a stage: a sealed sector that names the block which is staged behind it (profile).
use Rattle.std.specs.Prelude.{◌≡◌, ℕ, ◌<◌, ◌^◌, Bool, true, List, [], ◌∷◌, length, replicate, Option, Some, None, nat_eq, if◌then◌else◌}
use Rattle.std.specs.Int.{w16, w64}
use Rattle.std.specs.Cmp.Lexicographic.{pointwise}
use Rattle.ddf_bytes.specs.Bytes.{bytes_at, number_at}
use Rattle.ddf_seal.specs.Unread.{Field, plain_at, u8_at, u16_at, u64_at}
use Rattle.ddf_seal.specs.Records.{record_bytes}
use Rattle.ddf_stage.specs.declared.gate.Gate.{Gate}
use Rattle.ddf_stage.specs.declared.layout.TheConstants.{ARRAY_AT, MARKER_AT, OPEN_AT, BLOCK_AT, PARITIES_AT}

abbrev pub gate_signature : ℕ
gate_signature = 0x5354_4147

-- RDDFSTAG
abbrev pub marker : List ℕ
marker = 0x52 ∷ 0x44 ∷ 0x44 ∷ 0x46 ∷ 0x53 ∷ 0x54 ∷ 0x41 ∷ 0x47 ∷ []

abbrev pub open_flag : Bool → ℕ
open_flag is_open = if is_open then 1 else 0

abbrev pub gate_fields : Bool → Gate → List Field
gate_fields is_open gate =
    plain_at ARRAY_AT 24 gate.array ∷ plain_at MARKER_AT 8 marker ∷ u8_at OPEN_AT (open_flag is_open) ∷ u64_at BLOCK_AT gate.block ∷ u16_at PARITIES_AT gate.parities ∷ []

-- all bytes that no field names are zeros
unfoldable pub blank : List ℕ
blank = replicate 512 0

-- a gate can be written: its values fit their places
pub record IsGate (gate : Gate) : Type 0 where
  pub array_size : length gate.array ≡ 24
  pub block_fits : gate.block < 2 ^ 64
  pub parities_fit : gate.parities < 2 ^ 16

-- the sector of a gate, open or closed
unfoldable pub gate_bytes : Bool → Gate → List ℕ
gate_bytes is_open gate = record_bytes gate_signature (gate_fields is_open gate) blank

-- the values in the places of the fields
abbrev pub gate_at : List ℕ → Gate
gate_at sector = record { array = bytes_at sector ARRAY_AT 24; block = number_at w64 sector BLOCK_AT; parities = number_at w16 sector PARITIES_AT }

-- stands open in a sector; none where the sector is another
unfoldable pub opened : List ℕ → Option Gate
opened sector = if pointwise nat_eq (gate_bytes true (gate_at sector)) sector then Some (gate_at sector) else None
