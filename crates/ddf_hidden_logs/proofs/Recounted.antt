-- The section of a log with another count of entries: it reads as a log with so many, and only its first sector is another one.
use Rattle.std.proofs.Common.{◌≡◌, ◌∙◌, ℕ, zero, suc, ◌+◌, ◌*◌, ◌-◌, ◌<◌, ◌≤◌, ◌^◌, false, ltb, List, ◌++◌, length, take, drop, get_or, None, Ok, inr, refl, sym, ap, arith}
use Rattle.std.specs.Int.{w16, w32, to_be_bytes, from_be_bytes}
use Rattle.std.proofs.lemmas.Bool.{le-ltb}
use Rattle.std.proofs.lemmas.List.{ext_get_or, get_or-drop, length-drop, take-append-drop}
use Rattle.std.proofs.lemmas.Nat.{from_be_bytes-to_be_bytes_2}
use Rattle.ddf_bytes.specs.Bytes.{bytes_at, number_at}
use Rattle.ddf_bytes.specs.Choices.{first_of, ok_unless}
use Rattle.ddf_seal.specs.declared.sealing.TheConstants.{SIGNATURE_AT, CRC_AT}
use Rattle.ddf_seal.specs.declared.unread.Span.{Span}
use Rattle.ddf_seal.specs.Seal.{IsSealed, record_crc, seal_check, seal_place, sealed}
use Rattle.ddf_seal.specs.Unread.{AreBytes, placed}
use Rattle.ddf_seal.proofs.Records.{sealed_is, sealed_outside}
use Rattle.ddf_seal.proofs.Same.{IsOutside, SameAt, bytes_at-placed, bytes_at-same, placed_outside}
use Rattle.ddf_seal.proofs.Seals.{check_from_sealed, AreBytes-placed}
use Rattle.ddf_tables.specs.declared.layout.TheConstants.{LOG_COUNT_AT, LOG_ENTRIES_AT, LOG_ENTRY_BYTES}
use Rattle.ddf_tables.specs.BadBlocks.{decoded_log, entries_that_fit, entry_at, log_at, log_faults, log_signature}
use Rattle.ddf_tables.proofs.Parts.{length-each_at}
use Rattle.ddf_hidden_logs.specs.Recounts.{recounted}

-- ---- bytes stay bytes

four_bytes : (n : ℕ) → AreBytes (to_be_bytes w32 n)
four_bytes n zero = omega arith
four_bytes n (suc zero) = omega arith
four_bytes n (suc (suc zero)) = omega arith
four_bytes n (suc (suc (suc zero))) = omega arith
four_bytes n (suc (suc (suc (suc i)))) = omega arith

two_bytes : (n : ℕ) → AreBytes (to_be_bytes w16 n)
two_bytes n zero = omega arith
two_bytes n (suc zero) = omega arith
two_bytes n (suc (suc i)) = omega arith

sealed_bytes : (signature : ℕ) (bytes : List ℕ) → 8 ≤ length bytes → AreBytes bytes → AreBytes (sealed signature bytes)
unfolding placed
sealed_bytes signature bytes long are =
    let first : Span = record { at = SIGNATURE_AT; length = 4 } in
    let signed = placed bytes SIGNATURE_AT (to_be_bytes w32 signature) in
    let size = (placed_outside bytes first (to_be_bytes w32 signature) refl (omega (arith, long))).size in
    AreBytes-placed signed CRC_AT (to_be_bytes w32 (record_crc signed)) (omega (arith, long, size)) (AreBytes-placed bytes SIGNATURE_AT (to_be_bytes w32 signature) (omega (arith, long)) are (four_bytes signature)) (four_bytes (record_crc signed))

-- ---- the section

module _ (section : List ℕ) (long : 512 ≤ length section) (count : ℕ) where
  abbrev place : Span
  place = record { at = LOG_COUNT_AT; length = 2 }

  abbrev counted : List ℕ
  counted = placed section LOG_COUNT_AT (to_be_bytes w16 count)

  recounted_is : recounted count section ≡ sealed log_signature counted
  unfolding recounted placed
  recounted_is = refl

  counted_same : SameAt (IsOutside place) counted section
  counted_same = placed_outside section place (to_be_bytes w16 count) refl (omega (arith, long))

  counted_long : 512 ≤ length counted
  counted_long = let size = counted_same.size in omega (arith, long, size)

  sealed_same : SameAt (IsOutside seal_place) (sealed log_signature counted) counted
  sealed_same = sealed_outside log_signature counted (let more = counted_long in omega (arith, more))

  pub recounted_size : length (recounted count section) ≡ length section
  recounted_size = ap length recounted_is ∙ (sealed_same).size ∙ (counted_same).size

  recounted_long : 512 ≤ length (recounted count section)
  recounted_long = let size = recounted_size in omega (arith, size, long)

  -- from byte 10 on it is the same
  later_same : (i : ℕ) → 10 ≤ i → get_or (recounted count section) i 0 ≡ get_or section i 0
  later_same i from =
      ap (λ (bytes : List ℕ). get_or bytes i 0) recounted_is
      ∙ (sealed_same).same i (inr (omega (arith, from)))
      ∙ (counted_same).same i (inr (omega (arith, from)))

  pub rest_same : drop 512 (recounted count section) ≡ drop 512 section
  rest_same =
      let size = recounted_size in
      ext_get_or 0 (drop 512 (recounted count section)) (drop 512 section)
      (length-drop 512 (recounted count section) ∙ ap (λ (n : ℕ). n - 512) size ∙ sym (length-drop 512 section))
      (λ i lt. get_or-drop 512 (recounted count section) i 0 ∙ later_same (512 + i) (omega arith) ∙ sym (get_or-drop 512 section i 0))

  -- it is its first sector and the rest of the section
  pub parts_are : take 512 (recounted count section) ++ drop 512 section ≡ recounted count section
  parts_are = ap (λ (rest : List ℕ). take 512 (recounted count section) ++ rest) (sym rest_same) ∙ take-append-drop 512 (recounted count section)

  module _ (are : AreBytes section) (small : count < 2 ^ 16) where
    pub recounted_bytes : AreBytes (recounted count section)
    recounted_bytes =
        let more = counted_long in
        rw recounted_is (sealed_bytes log_signature counted (omega (arith, more)) (AreBytes-placed section LOG_COUNT_AT (to_be_bytes w16 count) (omega (arith, long)) are (two_bytes count)))

    pub count_stands : number_at w16 (recounted count section) LOG_COUNT_AT ≡ count
    count_stands =
        let more = counted_long in
        let kept : bytes_at (sealed log_signature counted) LOG_COUNT_AT 2 ≡ bytes_at counted LOG_COUNT_AT 2 =
        bytes_at-same (IsOutside seal_place) (sealed log_signature counted) counted place (omega (arith, more)) (λ i low high. inr (omega (arith, low))) sealed_same in
        let there : bytes_at counted LOG_COUNT_AT 2 ≡ to_be_bytes w16 count = bytes_at-placed section place (to_be_bytes w16 count) refl (omega (arith, long)) in
        ap (λ (bytes : List ℕ). number_at w16 bytes LOG_COUNT_AT) recounted_is ∙ ap (from_be_bytes w16) (kept ∙ there) ∙ from_be_bytes-to_be_bytes_2 count small

    pub recounted_sealed : IsSealed log_signature (recounted count section)
    recounted_sealed = let more = counted_long in rw recounted_is (sealed_is log_signature counted (omega (arith, more)))

    seal_stands : seal_check log_signature (recounted count section) ≡ Ok tt
    seal_stands =
        let more = counted_long in
        let now = recounted_long in
        let is : IsSealed log_signature (recounted count section) = rw recounted_is (sealed_is log_signature counted (omega (arith, more))) in
        check_from_sealed log_signature (recounted count section) (omega (arith, now)) recounted_bytes (omega arith) is

    -- so many entries are read of it
    pub entries_are : length (log_at (recounted count section)).entries ≡ count
    entries_are = length-each_at (entry_at (recounted count section)) LOG_ENTRY_BYTES LOG_ENTRIES_AT (number_at w16 (recounted count section) LOG_COUNT_AT) ∙ count_stands

    -- it reads as a log, where so many entries fit
    pub recounted_reads : LOG_ENTRIES_AT + LOG_ENTRY_BYTES * count ≤ length section → decoded_log (recounted count section) ≡ Ok (log_at (recounted count section))
    recounted_reads fits =
        let size = recounted_size in
        let stated = count_stands in
        let room : LOG_ENTRIES_AT + LOG_ENTRY_BYTES * number_at w16 (recounted count section) LOG_COUNT_AT ≤ length (recounted count section) = omega (arith, size, stated, fits) in
        let none : ltb (entries_that_fit (length (recounted count section))) (number_at w16 (recounted count section) LOG_COUNT_AT) ≡ false =
        le-ltb (entries_that_fit (length (recounted count section))) (number_at w16 (recounted count section) LOG_COUNT_AT) (omega (arith, room)) in
        let fault : first_of (log_faults (recounted count section)) ≡ None = rw (seal_stands, none) refl in
        ap (λ o. ok_unless o (log_at (recounted count section))) fault
