-- What several crates above ask of the definitions of this one.
use Rattle.std.proofs.Common.{Err, List, Ok, Result, ap, ℕ, ◌≡◌}
use Rattle.ddf_seal.specs.declared.sealing.SealFault.{SealFault}
use Rattle.ddf_header.specs.declared.fault.HeaderFault.{HeaderFault}
use Rattle.ddf_header.specs.declared.reading.Header.{Header}
use Rattle.ddf_tables.specs.declared.fault.TableFault.{TableFault}
use Rattle.ddf_copy.proofs.Gates.{ok_parts}
use Rattle.ddf_copy.specs.Anchor.{anchor_or_damage}
use Rattle.ddf_copy.specs.Gate.{gate_fault, gated}
use Rattle.ddf_copy.specs.Sections.{in_section, in_sector}
use Rattle.ddf_copy.specs.declared.fault.SectionName.{SectionName}
use Rattle.ddf_copy.specs.declared.which.Which.{Which}

pub by_fault : (read : Result Header HeaderFault) (anchor : Header) → anchor_or_damage read ≡ Ok anchor → read ≡ Ok anchor
by_fault (Ok found) anchor is = cc
by_fault (Err fault) anchor is = cc

pub in_section_ok : {T : Type 0} (name : SectionName) (read : Result T TableFault) (value : T) → in_section name read ≡ Ok value → read ≡ Ok value
in_section_ok name (Ok x) value is = cc
in_section_ok name (Err fault) value is = cc

pub in_sector_ok : {T : Type 0} (name : SectionName) (read : Result T SealFault) (value : T) → in_sector name read ≡ Ok value → read ≡ Ok value
in_sector_ok name (Ok x) value is = cc
in_sector_ok name (Err fault) value is = cc

pub gated_read : (size : ℕ) (anchor : Header) (which : Which) (sector : List ℕ) (read : Result Header HeaderFault) (header : Header) → gated size anchor which sector read ≡ Ok header → read ≡ Ok header
gated_read size anchor which sector (Ok value) header h = ap Ok (ok_parts (gate_fault size anchor which value sector) value header h).1
gated_read size anchor which sector (Err fault) header h = absurd cc
