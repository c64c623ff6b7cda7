-- What the check of a seal says.
use Rattle.std.proofs.Common.{◌≡◌, ℕ, zero, suc, ◌+◌, ◌-◌, replicate, ◌<◌, ◌≤◌, ◌^◌, true, cond, eqb, List, length, Result, Ok, Err, refl, ◌∙◌, ap, arith, inl, inr}
use Rattle.std.specs.Int.{w32, from_be_bytes}
use Rattle.std.proofs.lemmas.Bool.{cases_lt, cases_eq, eq-eqb, ne_eqb}
use Rattle.std.proofs.lemmas.Nat.{from_be_bytes-to_be_bytes_4}
use Rattle.ddf_bytes.specs.Bytes.{number_at}
use Rattle.ddf_seal.specs.declared.sealing.SealFault.{SealFault}
use Rattle.ddf_seal.specs.declared.sealing.SealFault.TheVariants.{Signature, Crc}
use Rattle.ddf_seal.specs.declared.sealing.TheConstants.{SIGNATURE_AT, CRC_AT}
use Rattle.ddf_seal.specs.Seal.{IsSealed, seal_check, record_crc}
use Rattle.ddf_seal.specs.Unread.{AreBytes, u32_at, placed}
use Rattle.ddf_seal.proofs.CrcSteps.{crc_fits}
use Rattle.ddf_seal.proofs.Placing.{get_or-placed_below, get_or-placed_in, get_or-placed_above}
use Rattle.ddf_seal.proofs.Spelled.{spelled_from_stands}

good : Result Unit SealFault
good = Ok tt

chosen : (a b : ℕ) (x : Result Unit SealFault) (e : SealFault) → cond (eqb a b) x (Err e) ≡ Ok tt → (a ≡ b) × (x ≡ Ok tt)
chosen a b x e h =
    elim (cases_eq a b) [
      | inl same ↦ (same, rw (eq-eqb a b same) at h)
      | inr other ↦ let wrong = rw (ne_eqb a b other) at h in absurd cc
    ]

four : AreBytes (replicate 4 255)
four zero = omega arith
four (suc zero) = omega arith
four (suc (suc zero)) = omega arith
four (suc (suc (suc zero))) = omega arith
four (suc (suc (suc (suc i)))) = omega arith

pub AreBytes-placed : (bytes : List ℕ) (at : ℕ) (new : List ℕ) → at + length new ≤ length bytes → AreBytes bytes → AreBytes new → AreBytes (placed bytes at new)
AreBytes-placed bytes at new within fits fit i =
    elim (cases_lt i at) [
      | inl lt ↦ rw (get_or-placed_below bytes at new i 0 within lt) (fits i)
      | inr le ↦ elim (cases_lt i (at + length new)) [
        | inl lt ↦ rw (get_or-placed_in bytes at new i 0 within le lt) (fit (i - at))
        | inr past ↦ rw (get_or-placed_above bytes at new i 0 within past) (fits i)
      ]
    ]

-- a seal that passes the check stands
pub sealed_from_check : (signature : ℕ) (bytes : List ℕ) → 8 ≤ length bytes → AreBytes bytes → seal_check signature bytes ≡ Ok tt → IsSealed signature bytes
sealed_from_check signature bytes long fits h =
    let first = chosen (number_at w32 bytes SIGNATURE_AT) signature (cond (eqb (number_at w32 bytes CRC_AT) (record_crc bytes)) (Ok tt) (Err (Crc (number_at w32 bytes CRC_AT) (record_crc bytes)))) (Signature (number_at w32 bytes SIGNATURE_AT)) h in
    let second = chosen (number_at w32 bytes CRC_AT) (record_crc bytes) (Ok tt) (Crc (number_at w32 bytes CRC_AT) (record_crc bytes)) first.1 in
    record {
      signature_stands = spelled_from_stands bytes (u32_at SIGNATURE_AT signature) fits (omega arith) first.0;
      crc_stands = spelled_from_stands bytes (u32_at CRC_AT (record_crc bytes)) fits (omega arith) second.0;
    }

record_crc_fits : (bytes : List ℕ) → 8 ≤ length bytes → AreBytes bytes → record_crc bytes < 2 ^ 32
unfolding placed
record_crc_fits bytes long fits = crc_fits (placed bytes CRC_AT (replicate 4 255)) (AreBytes-placed bytes CRC_AT (replicate 4 255) long fits four)

-- a seal that stands passes the check
pub check_from_sealed : (signature : ℕ) (bytes : List ℕ) → 8 ≤ length bytes → AreBytes bytes → signature < 2 ^ 32 → IsSealed signature bytes → seal_check signature bytes ≡ Ok tt
check_from_sealed signature bytes long are fits is =
    let signed : number_at w32 bytes SIGNATURE_AT ≡ signature = ap (from_be_bytes w32) is.signature_stands ∙ from_be_bytes-to_be_bytes_4 signature fits in
    let counted : number_at w32 bytes CRC_AT ≡ record_crc bytes = ap (from_be_bytes w32) is.crc_stands ∙ from_be_bytes-to_be_bytes_4 (record_crc bytes) (record_crc_fits bytes long are) in
    let first : eqb (number_at w32 bytes SIGNATURE_AT) signature ≡ true = eq-eqb (number_at w32 bytes SIGNATURE_AT) signature signed in
    let second : eqb (number_at w32 bytes CRC_AT) (record_crc bytes) ≡ true = eq-eqb (number_at w32 bytes CRC_AT) (record_crc bytes) counted in
    rw (first, second) refl
