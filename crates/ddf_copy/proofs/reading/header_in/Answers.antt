use Rattle.std.proofs.Common.{◌-◌, ◌∙◌, ◌≡◌, ℕ, List, None, sym, subst}
use Rattle.ddf_header.proofs.Encoded.{encoded_again}
use Rattle.ddf_header.specs.Header.{IsHeaderOf}
use Rattle.ddf_copy.specs.Gate.{gate_fault}
use Rattle.ddf_copy.specs.Which.{kind_of}
use Rattle.ddf_copy.specs.Which.{other_of, place_of}
use Rattle.ddf_copy.proofs.Gates.{gate_from, no_call_failed, sections_fit}
use Rattle.ddf_copy.proofs.reading.header_in.Goals as goal

pub returns-in-None-clause-closed : goal.returns-in-None-clause-closed
returns-in-None-clause-closed c =
    (gate_from c.args.size c.args.anchor.now c.args.which c.in-Ok.header c.args.sector.now (sym c.gate_fault.ensures ∙ c.in-None.is)).is_closed

pub returns-in-None-clause-fit : goal.returns-in-None-clause-fit
returns-in-None-clause-fit c =
    let gate = gate_from c.args.size c.args.anchor.now c.args.which c.in-Ok.header c.args.sector.now (sym c.gate_fault.ensures ∙ c.in-None.is) in
    sections_fit (c.args.size - 1) (place_of c.args.which c.args.anchor.now) (place_of (other_of c.args.which) c.args.anchor.now) c.in-Ok.header.geometry.sections gate.has_room

pub returns-in-Some-clause-no_look : goal.returns-in-Some-clause-no_look
returns-in-Some-clause-no_look c =
    no_call_failed c.args.size c.args.anchor.now c.args.which c.in-Ok.header c.args.sector.now c.in-Some.fault (sym c.gate_fault.ensures ∙ c.in-Some.is)

pub returns-in-None-clause-read : goal.returns-in-None-clause-read
returns-in-None-clause-read c =
    let header = c.in-Ok.header in
    let is = (rw c.kind.ensures at c.decode.ensures.ok header).0 c.in-Ok.is in
    let same = sym (encoded_again (kind_of c.args.which) header c.args.sector.now is) in
    record {
      is_header = subst (λ (bytes : List ℕ). IsHeaderOf (kind_of c.args.which) header bytes) same is;
      has_gate = subst (λ (bytes : List ℕ). gate_fault c.args.size c.args.anchor.now c.args.which header bytes ≡ None) same (sym c.gate_fault.ensures ∙ c.in-None.is);
    }
