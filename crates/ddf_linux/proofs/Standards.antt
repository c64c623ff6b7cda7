-- An anchor that is sealed as the standard says isn't sealed in Linux's kind.
use Rattle.std.proofs.Common.{◌≡◌, ℕ, ◌-◌, ◌≤◌, Bool, true, false, cond, eqb, List, length, get_or, Some, Result, Ok, Err, refl, ap, sym, ◌∙◌, arith}
use Rattle.std.specs.Prelude.{bit_xor}
use Rattle.std.specs.Int.{w32, to_be_bytes}
use Rattle.std.specs.Int.Bits.{xor_self, xor_zero_l}
use lib.Bits.{xor_assoc}
use Rattle.std.proofs.lemmas.Bool.{eq-eqb, eqb-false}
use Rattle.ddf_bay.specs.Sectors.{IsWhole}
use Rattle.ddf_seal.specs.Crc.{bit_steps}
use Rattle.ddf_seal.specs.Seal.{IsSealed, record_crc, seal_check}
use Rattle.ddf_seal.proofs.Seals.{sealed_from_check}
use Rattle.ddf_seal.specs.declared.sealing.SealFault.{SealFault}
use Rattle.ddf_header.specs.Header.{header_signature}
use Rattle.ddf_linux.specs.declared.kind.SlotKind.{SlotKind}
use Rattle.ddf_linux.specs.declared.kind.SlotKind.TheVariants.{Plain, Turned}
use Rattle.ddf_linux.specs.declared.places.Places.{Places}
use Rattle.ddf_linux.specs.Crcs.{IsLinuxSealed, constant_of, linux_record_crc}
use Rattle.ddf_linux.specs.CrcLaws.{bytes_of_sum, counted}
use Rattle.ddf_linux.specs.Kinds.{kind_by, kind_if, kind_of_sectors, turn}
use Rattle.ddf_linux.specs.Places.{constant_at, names, places_of, signature_of}
use Rattle.ddf_linux.specs.Turning.{added, turned}
use Rattle.ddf_linux.specs.TurnLaws.{by_bytes, by_length}
use Rattle.ddf_linux.proofs.Listed.{linux_anchor}

-- ---- by its places

pub other_left : (places : Places) (anchor : List ℕ) → signature_of anchor ≡ header_signature → names places anchor ≡ false → turn (Turned places) places.anchor anchor ≡ anchor
unfolding constant_at
other_left places anchor begins named = rw (begins, eq-eqb places.anchor places.anchor refl, named) refl

-- ---- by its seal

same_byte : (x m : ℕ) → bit_xor x m ≡ x → m ≡ 0
same_byte x m is = sym (xor_zero_l m) ∙ ap (λ (n : ℕ). bit_xor n m) (sym (xor_self x)) ∙ xor_assoc x x m ∙ ap (bit_xor x) is ∙ xor_self x

-- the first byte of what the two CRCs of a sector differ by
abbrev first_byte : ℕ → ℕ
first_byte n = get_or (to_be_bytes w32 n) 0 0

sum_is_one : (a k : ℕ) → added (to_be_bytes w32 a) (to_be_bytes w32 k) ≡ to_be_bytes w32 a → first_byte k ≡ 0
unfolding added
sum_is_one a k is = same_byte (first_byte a) (first_byte k) (ap (λ (bytes : List ℕ). get_or bytes 0 0) is)

differ : eqb (first_byte (constant_of 512)) 0 ≡ false
unfolding bit_steps
differ = refl

-- no sector is sealed in both kinds
never_both : (signature : ℕ) (bytes : List ℕ) → length bytes ≡ 512 → IsSealed signature bytes → IsLinuxSealed signature bytes → ⊥
never_both signature bytes long sealed linux =
    let enough : 8 ≤ length bytes = omega (arith, long) in
    let counts : record_crc bytes ≡ bit_xor (linux_record_crc bytes) (constant_of 512) =
    counted signature bytes enough ∙ ap (λ (n : ℕ). bit_xor (linux_record_crc bytes) (constant_of n)) long in
    let same : added (to_be_bytes w32 (linux_record_crc bytes)) (to_be_bytes w32 (constant_of 512)) ≡ to_be_bytes w32 (linux_record_crc bytes) =
    sym (bytes_of_sum (linux_record_crc bytes) (constant_of 512)) ∙ sym (ap (to_be_bytes w32) counts) ∙ sym sealed.crc_stands ∙ linux.crc_stands in
    eqb-false (first_byte (constant_of 512)) 0 differ (sum_is_one (linux_record_crc bytes) (constant_of 512) same)

either_plain : (none : Bool) {kind : SlotKind} → kind ≡ Plain → cond none Plain kind ≡ Plain
either_plain true is = refl
either_plain false is = is

kind_plain : (check : Result Unit SealFault) (places : Places) → (check ≡ Ok tt → ⊥) → kind_if check places ≡ Plain
kind_plain (Ok tt) places never = absurd (never refl)
kind_plain (Err fault) places never = refl

pub standard_is_plain : (size : ℕ) (sector : ℕ → List ℕ) → IsWhole (sector (size - 1)) → IsSealed header_signature (sector (size - 1)) → kind_of_sectors size sector ≡ Plain
unfolding kind_by
standard_is_plain size sector whole sealed =
    let bytes : List ℕ = sector (size - 1) in
    let anchor : List ℕ = turned (constant_of 512) bytes in
    let long : length anchor ≡ 512 = by_length (Some (constant_of 512)) bytes ∙ whole.size in
    let never : seal_check header_signature anchor ≡ Ok tt → ⊥ =
    λ check.
    let linux = (linux_anchor header_signature bytes anchor whole.size refl).1 (sealed_from_check header_signature anchor (omega (arith, long)) (by_bytes (Some (constant_of 512)) bytes whole.are_bytes) check) in
    never_both header_signature bytes whole.size sealed linux in
    either_plain (eqb size 0) (kind_plain (seal_check header_signature anchor) (places_of (size - 1) anchor) never)
