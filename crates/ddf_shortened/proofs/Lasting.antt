-- Where a slot ends by a later look.
use Rattle.std.specs.Prelude.{◌≡◌, ℕ, ◌-◌, true, false, not, ◌&&◌, ◌==◌, nat_lt, List}
use Rattle.std.proofs.Common.{ap, ◌∙◌}
use Rattle.std.proofs.lemmas.Bool.{and_from, and_left, and_parts, and_right, eq-eqb}
use Rattle.ddf_header.specs.Header.{header_signature}
use Rattle.ddf_shortened.specs.SlotEnds.{ends_early, is_any_signature, signature_of}

pub stays_early : (size : ℕ) (before now : ℕ → List ℕ) → ends_early size before ≡ true → now (size - 1) ≡ before (size - 1) → signature_of (now (size - 257)) ≡ header_signature → ends_early size now ≡ true
unfolding ends_early
stays_early size before now is same begins =
    let one = and_parts (nat_lt 257 size) (not (is_any_signature (signature_of (before (size - 1)))) && (signature_of (before (size - 257)) == header_signature)) is in
    let two = and_parts (not (is_any_signature (signature_of (before (size - 1))))) (signature_of (before (size - 257)) == header_signature) one.1 in
    and_from (nat_lt 257 size) (not (is_any_signature (signature_of (now (size - 1)))) && (signature_of (now (size - 257)) == header_signature)) one.0
    (and_from (not (is_any_signature (signature_of (now (size - 1))))) (signature_of (now (size - 257)) == header_signature)
    (ap (λ (bytes : List ℕ). not (is_any_signature (signature_of bytes))) same ∙ two.0)
    (eq-eqb (signature_of (now (size - 257))) header_signature begins))

pub stays_last : (size : ℕ) (now : ℕ → List ℕ) → is_any_signature (signature_of (now (size - 1))) ≡ true → ends_early size now ≡ false
unfolding ends_early
stays_last size now is =
    and_right (nat_lt 257 size) (not (is_any_signature (signature_of (now (size - 1)))) && (signature_of (now (size - 257)) == header_signature))
    (and_left (not (is_any_signature (signature_of (now (size - 1))))) (signature_of (now (size - 257)) == header_signature) (ap not is))
