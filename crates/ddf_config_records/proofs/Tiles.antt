-- Places that follow one another without a gap: no byte is in two of them, and none is left out.
use Rattle.std.proofs.Common.{◌≡◌, ℕ, ◌+◌, ◌-◌, ◌<◌, ◌≤◌, List, [], ◌∷◌, ◌++◌, length, replicate, get_or, sym, ◌∙◌, subst, arith, inl, inr}
use Rattle.std.proofs.lemmas.Bool.{cases_lt}
use Rattle.std.proofs.lemmas.List.{length-replicate, get_or-replicate, ext_get_or}
use Rattle.ddf_seal.specs.declared.unread.Span.{Span}
use Rattle.ddf_seal.specs.Unread.{cleared, cleared_one}
use Rattle.ddf_seal.proofs.Placing.{get_or-placed_in}
use Rattle.ddf_seal.proofs.Same.{AreWithin, IsOutsideAll, placed_outside, cleared_outside}
use Rattle.ddf_seal.proofs.Records.{AreAllApart}
use Rattle.ddf_config_records.proofs.Spans.{AreFrom, one_apart}

abbrev pub AreTiles : ℕ → List Span → ℕ → Type 0
AreTiles from [] to = from ≡ to
AreTiles from (span ∷ spans) to = (span.at ≡ from) × AreTiles (from + span.length) spans to

pub tiles-append : (from mid to : ℕ) (a b : List Span) → AreTiles from a mid → AreTiles mid b to → AreTiles from (a ++ b) to
tiles-append from mid to [] b h k = subst (λ (n : ℕ). AreTiles n b to) (sym h) k
tiles-append from mid to (span ∷ a) b h k = (h.0, tiles-append (from + span.length) mid to a b h.1 k)

tiles_rise : (from to : ℕ) (spans : List Span) → AreTiles from spans to → from ≤ to
tiles_rise from to [] h = omega arith
tiles_rise from to (span ∷ spans) h = let rest = tiles_rise (from + span.length) to spans h.1 in omega arith

pub tiles_within : (from to size : ℕ) (spans : List Span) → AreTiles from spans to → to ≤ size → AreWithin size spans
tiles_within from to size [] h le = tt
tiles_within from to size (span ∷ spans) h le =
    let rest = tiles_rise (from + span.length) to spans h.1 in
    let at = h.0 in
    (omega arith, tiles_within (from + span.length) to size spans h.1 le)

tiles_from : (low from to : ℕ) (spans : List Span) → low ≤ from → AreTiles from spans to → AreFrom low spans
tiles_from low from to [] le h = tt
tiles_from low from to (span ∷ spans) le h =
    let at = h.0 in
    (omega arith, tiles_from low (from + span.length) to spans (omega arith) h.1)

pub tiles_apart : (from to : ℕ) (spans : List Span) → AreTiles from spans to → AreAllApart spans
tiles_apart from to [] h = tt
tiles_apart from to (span ∷ spans) h =
    let at = h.0 in
    (one_apart (from + span.length) span spans (omega arith) (tiles_from (from + span.length) (from + span.length) to spans (omega arith) h.1), tiles_apart (from + span.length) to spans h.1)

from_outside : (low i : ℕ) (spans : List Span) → i < low → AreFrom low spans → IsOutsideAll spans i
from_outside low i [] lt h = tt
from_outside low i (span ∷ spans) lt h = let first = h.0 in (inl (omega arith), from_outside low i spans lt h.1)

all_zero : (from to : ℕ) (spans : List Span) (bytes : List ℕ) (i : ℕ) → AreTiles from spans to → to ≤ length bytes → from ≤ i → i < to → get_or (cleared spans bytes) i 0 ≡ 0
all_zero from to [] bytes i h le low high = absurd (omega arith)
all_zero from to (span ∷ spans) bytes i h le low high =
    let within = tiles_within from to (length bytes) (span ∷ spans) h le in
    let at = h.0 in
    let zeros : List ℕ = replicate span.length 0 in
    let len : length zeros ≡ span.length = length-replicate {A = ℕ} span.length 0 in
    let one = placed_outside bytes span zeros len within.0 in
    let here = within.0 in
    let next = cleared_one bytes span in
    elim (cases_lt i (from + span.length)) [
      | inl lt ↦
          let behind = tiles_from (from + span.length) (from + span.length) to spans (omega arith) h.1 in
          let rest = cleared_outside spans next (subst (λ (n : ℕ). AreWithin n spans) (sym one.size) within.1) in
          rest.same i (from_outside (from + span.length) i spans lt behind)
          ∙ get_or-placed_in bytes span.at zeros i 0 (omega arith) (omega arith) (omega arith) ∙ get_or-replicate {A = ℕ} span.length (i - span.at) 0 0 (omega arith)
      | inr past ↦ all_zero (from + span.length) to spans next i h.1 (omega (arith, one.size)) past high
    ]

-- where places fill the bytes, nothing is left
pub tiles_cleared : (spans : List Span) (bytes : List ℕ) → AreTiles 0 spans (length bytes) → cleared spans bytes ≡ replicate (length bytes) 0
tiles_cleared spans bytes h =
    let within = tiles_within 0 (length bytes) (length bytes) spans h (omega arith) in
    let size = (cleared_outside spans bytes within).size in
    let len = length-replicate {A = ℕ} (length bytes) 0 in
    ext_get_or 0 (cleared spans bytes) (replicate (length bytes) 0) (size ∙ sym len) (λ i lt.
    all_zero 0 (length bytes) spans bytes i h (omega arith) (omega arith) (omega (arith, size)) ∙ sym (get_or-replicate {A = ℕ} (length bytes) i 0 0 (omega (arith, size))))
