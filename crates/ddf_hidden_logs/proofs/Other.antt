-- The other copy of a disk is seen whole where it is whole, and behind the same header: whether a log is sealed is the same with either sector of a mask in front of it.
use Rattle.std.proofs.Common.{◌≡◌, ◌≢◌, ◌⊎◌, ◌∙◌, ℕ, zero, suc, ◌+◌, ◌*◌, ◌-◌, ◌<◌, ◌≤◌, ◌^◌, true, false, ltb, List, [], ◌∷◌, ◌++◌, length, map, replicate, Option, Some, None, Result, Ok, Err, refl, sym, ap, inl, inr, ⊎_elim, arith}
use Rattle.std.specs.List.{range_with_len}
use Rattle.std.specs.Prelude.{◌==◌, ◌&&◌}
use Rattle.std.specs.Str.{bytes_eq}
use Rattle.std.proofs.lemmas.Slice.Eq.{bytes_eq-Decides}
use Rattle.std.specs.Int.{w16, from_be_bytes}
use Rattle.std.proofs.lemmas.Bool.{and_parts, cases_Bool, le-ltb, ne_eqb, or_cases}
use Rattle.std.proofs.lemmas.List.{get_or_append_left, length-append}
use Rattle.ddf_bay.specs.Sectors.{IsWhole}
use Rattle.ddf_bytes.specs.Bytes.{number_at}
use Rattle.ddf_bytes.specs.Choices.{first_of, ok_unless}
use Rattle.ddf_seal.specs.Seal.{IsSealed, record_crc}
use Rattle.ddf_seal.specs.Unread.{AreBytes, placed}
use Rattle.ddf_seal.specs.declared.sealing.TheConstants.{CRC_AT}
use Rattle.ddf_seal.specs.declared.unread.Span.{Span}
use Rattle.ddf_seal.proofs.CrcSteps.{crc_fits}
use Rattle.ddf_seal.proofs.Same.{SameAt, bytes_at-same}
use Rattle.ddf_seal.proofs.Seals.{check_from_sealed, AreBytes-placed}
use Rattle.ddf_seal.proofs.Common.{append_bytes}
use Rattle.ddf_header.specs.declared.geometry.Section.{Section}
use Rattle.ddf_header.specs.declared.geometry.Geometry.{Geometry}
use Rattle.ddf_header.specs.declared.reading.Header.{Header}
use Rattle.ddf_header.specs.Geometry.{section_of}
use Rattle.ddf_tables.specs.declared.fault.TableFault.{TableFault}
use Rattle.ddf_tables.specs.declared.layout.TheConstants.{LOG_COUNT_AT, LOG_ENTRIES_AT, LOG_ENTRY_BYTES}
use Rattle.ddf_tables.specs.BadBlocks.{LogValue, decoded_log, entries_that_fit, log_at, log_faults, log_signature}
use Rattle.ddf_copy.specs.declared.copy.DiskCopy.{DiskCopy}
use Rattle.ddf_copy.specs.declared.which.Which.{Which}
use Rattle.ddf_copy.specs.Copies.{copy_of}
use Rattle.ddf_copy.specs.declared.fault.SectionName.TheVariants as names
use Rattle.ddf_copy.specs.Sections.{bytes_in, in_section, log_in, some_log}
use Rattle.ddf_copy.specs.Which.{other_of, place_of}
use Rattle.ddf_copy.proofs.Places.{alike}
use Rattle.ddf_copy.proofs.Sectors.{log_is}
use Rattle.ddf_hidden_logs.specs.declared.mask.Mask.{Mask}
use Rattle.ddf_hidden_logs.specs.Masks.{is_either, is_place, is_sector, turned_by, turns_by}
use Rattle.ddf_hidden_logs.specs.Masks.{other_of as other_of_mask}
use Rattle.ddf_hidden_logs.specs.TurnLaws.{other_below, other_shown, when_not, when_turned}
use Rattle.ddf_hidden_logs.specs.Recounts.{mask_of_log}
use Rattle.ddf_hidden_logs.proofs.Logged.{first_and_rest, log_read, shown_copy}
use Rattle.ddf_hidden_logs.proofs.SealedAlike.{sealed_alike}
use Rattle.ddf_hidden_logs.proofs.Shows.{plain_at}
use Rattle.ddf_hidden_logs.proofs.Whole.{front_bytes, log_of_sectors, sectors_bytes, sectors_size}

-- ---- a log with either front

-- A first sector fronts a sealed log before these bytes, whose entries fit.
pub record IsFrontOf (first after : List ℕ) : Type 0 where
  pub size : length first ≡ 512
  pub are : AreBytes (first ++ after)
  pub sealed : IsSealed log_signature (first ++ after)
  pub fits : LOG_ENTRIES_AT + LOG_ENTRY_BYTES * number_at w16 (first ++ after) LOG_COUNT_AT ≤ length (first ++ after)

-- Both sectors of a mask do, in a section of so many sectors.
pub record IsEither (mask : Mask) (sectors : ℕ) : Type 0 where
  pub some : 0 < sectors
  pub after : List ℕ
  pub after_size : length after ≡ 512 * (sectors - 1)
  pub below_is : IsFrontOf mask.below after
  pub shown_is : IsFrontOf mask.shown after

crc_small : (bytes : List ℕ) → 8 ≤ length bytes → AreBytes bytes → record_crc bytes < 2 ^ 32
unfolding placed
crc_small bytes long are = crc_fits (placed bytes CRC_AT (replicate 4 255)) (AreBytes-placed bytes CRC_AT (replicate 4 255) long are four)
  where
    four : AreBytes (replicate 4 255)
    four zero = omega arith
    four (suc zero) = omega arith
    four (suc (suc zero)) = omega arith
    four (suc (suc (suc zero))) = omega arith
    four (suc (suc (suc (suc i)))) = omega arith

count_front : (first rest more : List ℕ) → length first ≡ 512 → length rest ≡ length more → number_at w16 (first ++ rest) LOG_COUNT_AT ≡ number_at w16 (first ++ more) LOG_COUNT_AT
count_front first rest more size same =
    let place : Span = record { at = LOG_COUNT_AT; length = 2 } in
    let alike : SameAt (λ i. i < 512) (first ++ rest) (first ++ more) = record {
      size = length-append first rest ∙ ap (λ (n : ℕ). length first + n) same ∙ sym (length-append first more);
      same = λ i lt. get_or_append_left first rest 0 i (omega (arith, lt, size)) ∙ sym (get_or_append_left first more 0 i (omega (arith, lt, size)));
    } in
    let long : 10 ≤ length (first ++ more) = let whole = length-append first more in omega (arith, whole, size) in
    ap (from_be_bytes w16) (bytes_at-same (λ i. i < 512) (first ++ rest) (first ++ more) place long (λ i low high. omega (arith, high)) alike)

sealed_reads : (section : List ℕ) → 32 ≤ length section → AreBytes section → IsSealed log_signature section
    → LOG_ENTRIES_AT + LOG_ENTRY_BYTES * number_at w16 section LOG_COUNT_AT ≤ length section → decoded_log section ≡ Ok (log_at section)
sealed_reads section long are sealed fits =
    let seal = check_from_sealed log_signature section (omega (arith, long)) are (omega arith) sealed in
    let none : ltb (entries_that_fit (length section)) (number_at w16 section LOG_COUNT_AT) ≡ false = le-ltb (entries_that_fit (length section)) (number_at w16 section LOG_COUNT_AT) (omega (arith, fits)) in
    let fault : first_of (log_faults section) ≡ None = rw (seal, none) refl in
    ap (λ o. ok_unless o (log_at section)) fault

-- a log with one front reads with the other one
front_reads : (one other after more : List ℕ) → IsFrontOf one after → IsFrontOf other after → length after ≡ length more → AreBytes more → IsSealed log_signature (one ++ more) → AreBytes (one ++ more)
    → AreBytes (other ++ more) → decoded_log (other ++ more) ≡ Ok (log_at (other ++ more))
front_reads one other after more first second same rest sealed are bytes =
    let long = length-append one after in
    let long_more = length-append one more in
    let size : length (other ++ more) ≡ length (other ++ after) = length-append other more ∙ ap (λ (n : ℕ). length other + n) (sym same) ∙ sym (length-append other after) in
    let whole = length-append other more in
    let one_size = first.size in
    let other_size = second.size in
    let also = sealed_alike log_signature one other after more (omega (arith, one_size)) (omega (arith, other_size)) same
    (crc_small (one ++ after) (omega (arith, long, one_size)) first.are) (crc_small (one ++ more) (omega (arith, long_more, one_size)) are) first.sealed second.sealed sealed in
    let count = count_front other more after other_size (sym same) in
    let fits = second.fits in
    sealed_reads (other ++ more) (omega (arith, whole, other_size)) bytes also (omega (arith, fits, count, size))

-- ---- a copy that is read elsewhere on the disk

either_of : (mask : Mask) (l : ℕ) (bytes : List ℕ) → turns_by mask l bytes ≡ true → (bytes ≡ mask.below) ⊎ (bytes ≡ mask.shown)
unfolding turns_by
either_of mask l bytes is =
    let a = and_parts (is_place mask l && is_either mask bytes) (is_sector mask.below && is_sector mask.shown) is in
    let b = and_parts (is_place mask l) (is_either mask bytes) a.0 in
    ⊎_elim
    (λ one. inl ((bytes_eq-Decides bytes mask.below).0 one))
    (λ other. inr ((bytes_eq-Decides bytes mask.shown).0 other))
    (or_cases (bytes_eq bytes mask.below) (bytes_eq bytes mask.shown) b.1)

has_log : (sectors : List (List ℕ)) (bad : Option LogValue) → 0 < length sectors → log_in sectors ≡ Ok bad → (one : LogValue) × (bad ≡ Some one)
has_log sectors bad some is =
    let present : (length sectors == 0) ≡ false = ne_eqb (length sectors) 0 (λ none. absurd (omega (arith, none, some))) in
    by (decoded_log (bytes_in sectors)) (rw present at is)
  where
    by : (read : Result LogValue TableFault) → some_log (in_section names.BadBlocks read) ≡ Ok bad → (one : LogValue) × (bad ≡ Some one)
    by (Ok value) e = (value, cc)
    by (Err fault) e = absurd cc

-- A copy is read there behind this header.
pub record IsThere (size : ℕ) (now : ℕ → List ℕ) (anchor : Header) (place : Which) (header : Header) : Type 0 where
  pub copy : DiskCopy
  pub is : copy_of size now anchor place ≡ Ok copy
  pub same_header : copy.header ≡ header

module _ (size : ℕ) (anchor : Header) (which : Which) (ref : ℕ → List ℕ) (copy : DiskCopy) (is : copy_of size ref anchor which ≡ Ok copy) (log : LogValue) (count : ℕ)
    (either : IsEither (mask_of_log anchor (section_of copy.header.geometry 5) log count) (section_of copy.header.geometry 5).length)
    (base now : ℕ → List ℕ) (whole : (l : ℕ) → IsWhole (base l)) (seen : (l : ℕ) → now l ≡ turned_by (mask_of_log anchor (section_of copy.header.geometry 5) log count) l (base l))
    (place : Which) (other : DiskCopy) (also : copy_of size base anchor place ≡ Ok other) where
  abbrev mask : Mask
  mask = mask_of_log anchor (section_of copy.header.geometry 5) log count

  abbrev its : Section
  its = section_of other.header.geometry 5

  abbrev front : ℕ
  front = place_of place anchor + its.offset

  abbrev rest : List (List ℕ)
  rest = map base (range_with_len (front + 1) (its.length - 1))

  same_section : its ≡ section_of copy.header.geometry 5
  same_section = ap (λ (geometry : Geometry). section_of geometry 5) (alike size anchor base ref place which other copy also is).same_sections

  its_some : 0 < its.length
  its_some = rw same_section either.some

  its_rest : length either.after ≡ 512 * (its.length - 1)
  its_rest = rw same_section either.after_size

  plain : (l : ℕ) → (l ≢ front) × (l ≢ place_of (other_of place) anchor + its.offset) → now l ≡ base l
  plain l off = seen l ∙ plain_at anchor (section_of copy.header.geometry 5) log count place l (base l) (rw same_section at off)

  log_there : log_in (base front ∷ rest) ≡ Ok other.bad
  log_there = ap log_in (sym (first_and_rest base front its.length its_some)) ∙ (log_read size base anchor place other also [] None refl).1

  as_read : (bad : Option LogValue) → log_in (now front ∷ rest) ≡ Ok bad → IsThere size now anchor place other.header
  as_read bad read = record { copy = record other { bad = bad }; is = shown_copy size base anchor place other also its_some now plain bad read; same_header = refl }

  more_size : length (bytes_in rest) ≡ 512 * (its.length - 1)
  more_size = sectors_size base whole (front + 1) (its.length - 1)

  -- its log is sealed
  sealed_there : IsSealed log_signature (base front ++ bytes_in rest)
  sealed_there =
      let one = has_log (base front ∷ rest) other.bad (omega arith) log_there in
      let read = log_of_sectors base whole front its.length one.0 ((log_read size base anchor place other also [] None refl).1 ∙ ap Ok one.1) in
      rw (ap bytes_in (first_and_rest base front its.length its_some)) at read.stands.is_record.is_sealed

  bytes_there : AreBytes (base front ++ bytes_in rest)
  bytes_there = rw (ap bytes_in (first_and_rest base front its.length its_some)) at (sectors_bytes base whole front its.length)

  with_front : (one another : List ℕ) → base front ≡ one → now front ≡ another → IsFrontOf one either.after → IsFrontOf another either.after → IsThere size now anchor place other.header
  with_front one another here there first second =
      let more = bytes_in rest in
      let same : length either.after ≡ length more = its_rest ∙ sym more_size in
      let sealed : IsSealed log_signature (one ++ more) = rw here at sealed_there in
      let are : AreBytes (one ++ more) = rw here at bytes_there in
      let rest_are : AreBytes more = sectors_bytes base whole (front + 1) (its.length - 1) in
      let bytes : AreBytes (another ++ more) = append_bytes another more (front_bytes another either.after second.are) rest_are in
      let read = front_reads one another either.after more first second same rest_are sealed are bytes in
      as_read (Some (log_at (another ++ more)))
      (log_is (now front ∷ rest) (log_at (another ++ more)) (omega arith) (ap (λ (head : List ℕ). decoded_log (head ++ more)) there ∙ read))

  turned : turns_by mask front (base front) ≡ true → IsThere size now anchor place other.header
  turned is_turned =
      let to = seen front ∙ when_turned mask front (base front) is_turned in
      ⊎_elim
      (λ below. with_front mask.below mask.shown below (to ∙ ap (other_of_mask mask) below ∙ other_below mask) either.below_is either.shown_is)
      (λ shown. with_front mask.shown mask.below shown (to ∙ ap (other_of_mask mask) shown ∙ other_shown mask) either.shown_is either.below_is)
      (either_of mask front (base front) is_turned)

  -- It is read behind the same header.
  pub is_there : IsThere size now anchor place other.header
  is_there = ⊎_elim
      (λ yes. turned yes)
      (λ none. as_read other.bad (ap (λ (head : List ℕ). log_in (head ∷ rest)) (seen front ∙ when_not mask front (base front) none) ∙ log_there))
      (cases_Bool (turns_by mask front (base front)))
