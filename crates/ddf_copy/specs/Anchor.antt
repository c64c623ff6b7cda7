-- The anchor of a disk, by its size and the bytes of its sectors (SNIA DDF 2.0).
use Rattle.std.specs.Prelude.{ℕ, ◌-◌, List, ◌==◌, Result, Ok, Err, if◌then◌else◌}
use Rattle.std.specs.Int.{w32}
use Rattle.ddf_bytes.specs.Bytes.{number_at}
use Rattle.ddf_header.specs.declared.kind.HeaderKind.TheVariants.{Anchor}
use Rattle.ddf_header.specs.declared.reading.Header.{Header}
use Rattle.ddf_header.specs.declared.fault.HeaderFault.{HeaderFault}
use Rattle.ddf_header.specs.Header.{header_signature, decoded}
use Rattle.ddf_copy.specs.declared.fault.AnchorFault.{AnchorFault}
use Rattle.ddf_copy.specs.declared.fault.AnchorFault.TheVariants.{Blank, Damaged}

abbrev pub anchor_or_damage : Result Header HeaderFault → Result Header AnchorFault
anchor_or_damage (Ok anchor) = Ok anchor
anchor_or_damage (Err fault) = Err (Damaged fault)

-- Behind the signature of a header, a disk's last sector is to be an anchor.
unfoldable pub anchor_in : List ℕ → Result Header AnchorFault
anchor_in last = if number_at w32 last 0 == header_signature then anchor_or_damage (decoded Anchor last) else Err Blank

-- the anchor of a disk of so many sectors
unfoldable pub anchor_at : (size : ℕ) → (ℕ → List ℕ) → Result Header AnchorFault
anchor_at size sector = if size == 0 then Err Blank else anchor_in (sector (size - 1))
