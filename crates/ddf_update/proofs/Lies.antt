-- What is prepared lies on the slot, in a few runs.
use Rattle.std.proofs.Common.{◌≡◌, ℕ, ◌-◌, ◌<◌, ◌≤◌, List, [], ◌∷◌, length, ◌∙◌, arith}
use Rattle.ddf_header.specs.declared.geometry.Geometry.{Geometry}
use Rattle.ddf_header.specs.declared.reading.Header.{Header}
use Rattle.ddf_header.specs.Geometry.{section_of}
use Rattle.ddf_copy.specs.declared.copy.DiskCopy.{DiskCopy}
use Rattle.ddf_copy.specs.declared.raw.Raw.{Raw}
use Rattle.ddf_copy.specs.declared.run.Run.{Run}
use Rattle.ddf_copy.specs.declared.which.Which.{Which}
use Rattle.ddf_copy.specs.Headers.{IsUnder, closed_header}
use Rattle.ddf_copy.specs.Gate.{header_bytes}
use Rattle.ddf_copy.specs.Runs.{AreOn, AreRunsOf, log_run, runs_at}
use Rattle.ddf_copy.specs.Which.{other_of, place_of}
use Rattle.ddf_copy.proofs.Gates.{gate_from}
use Rattle.ddf_copy.proofs.Laid.{runs_laid, runs_on}
use Rattle.ddf_copy.proofs.Stands.{place_within}
use Rattle.ddf_update.specs.declared.gate.Gate.{Gate}
use Rattle.ddf_update.specs.declared.prepared.Mode.{Mode}
use Rattle.ddf_update.specs.declared.prepared.Prepared.{Prepared}
use Rattle.ddf_update.specs.Prepared.{IsGateOf, IsPrepared, LiesOn, written_first}

log_few : (geometry : Geometry) (sectors : List (List ℕ)) → length (log_run (section_of geometry 5) sectors) ≤ 1
log_few geometry [] = omega arith
log_few geometry (sector ∷ sectors) = omega arith

pub few_at : (geometry : Geometry) (raw : Raw) → length (runs_at geometry raw) ≤ 6
few_at geometry raw = let few = log_few geometry raw.bad_blocks in omega (arith, few)

-- a copy has at most six sections that are written
pub few_runs : (copy : DiskCopy) (runs : List Run) → AreRunsOf copy runs → length runs ≤ 6
few_runs copy runs are = rw are.are_runs (few_at copy.header.geometry are.raw)

-- a copy that can be written under the anchor of a slot lies on it
gate_within : (size : ℕ) (anchor : Header) (copy : DiskCopy) (which : Which) (gate : Gate) → IsUnder size anchor copy → IsGateOf copy which gate → gate.lba < size
gate_within size anchor copy which gate under is = rw (is.lba_is, under.in_place which) (place_within size anchor copy which under)

runs_within : (size : ℕ) (anchor : Header) (copy : DiskCopy) (which : Which) (gate : Gate) (runs : List Run) → IsUnder size anchor copy → IsGateOf copy which gate → AreRunsOf copy runs → AreOn size gate.lba runs
runs_within size anchor copy which gate runs under is are = λ k run at.
    let room = (gate_from size anchor which (closed_header copy which) (header_bytes (closed_header copy which)) (under.has_gate which)).has_room in
    let on = runs_on (size - 1) (place_of which anchor) (place_of (other_of which) anchor) copy.header.geometry runs (runs_laid copy runs under.is_copy are) room k run at in
    let lba : gate.lba ≡ place_of which anchor = is.lba_is ∙ under.in_place which in
    (on.0, omega (arith, on.1, lba))

pub lies_on : (size : ℕ) (anchor : Header) (copy : DiskCopy) (last : Which) (mode : Mode) (prepared : Prepared) → IsUnder size anchor copy → IsPrepared copy last mode prepared → LiesOn size prepared
lies_on size anchor copy last mode prepared under is = record {
  first_header = gate_within size anchor copy (written_first mode last) prepared.first under is.first_is;
  first_room = runs_within size anchor copy (written_first mode last) prepared.first prepared.runs under is.first_is is.runs_are;
  second_header = gate_within size anchor copy (other_of (written_first mode last)) prepared.second under is.second_is;
  second_room = runs_within size anchor copy (other_of (written_first mode last)) prepared.second prepared.runs under is.second_is is.runs_are;
}
