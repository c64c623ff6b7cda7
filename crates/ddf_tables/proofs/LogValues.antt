-- A bad block log is the value of its section exactly where it is read from it without a fault, and is written as that section.
use Rattle.std.proofs.Common.{◌≡◌, inl, ℕ, ◌+◌, ◌*◌, ◌≤◌, false, ltb, List, ◌∷◌, length, replicate, None, Result, Ok, refl, sym, ◌∙◌, ap, subst, arith, lit<, lit≤}
use Rattle.std.specs.Prelude.{IfOk}
use Rattle.std.specs.Result.{result_err}
use Rattle.std.specs.Int.{w16, w32, w64}
use Rattle.std.proofs.lemmas.Bool.{ltb-false, le-ltb}
use Rattle.std.proofs.lemmas.List.{length-replicate}
use Rattle.ddf_lemmas.proofs.Options.{none_from_map}
use Rattle.ddf_bytes.specs.declared.no_memory.NoMemory.{NoMemory}
use Rattle.ddf_bytes.specs.Bytes.{number_at}
use Rattle.ddf_bytes.specs.Choices.{first_of, ok_unless}
use Rattle.ddf_bytes.proofs.Nones.{none_first, none_when}
use Rattle.ddf_seal.specs.declared.unread.Span.{Span}
use Rattle.ddf_seal.specs.Seal.{seal_check, seal_place}
use Rattle.ddf_seal.specs.Unread.{AreBytes, places, cleared}
use Rattle.ddf_seal.proofs.Same.{AreWithin, cleared_outside, cleared-cleared}
use Rattle.ddf_seal.proofs.Seals.{sealed_from_check, check_from_sealed}
use Rattle.ddf_seal.proofs.Records.{AreAllApart, record_again, record_from_bytes, record_written, length-record_bytes}
use Rattle.ddf_seal.proofs.Common.{none_err}
use Rattle.ddf_tables.specs.declared.bad_blocks.BadBlock.{BadBlock}
use Rattle.ddf_tables.specs.declared.fault.TableFault.{TableFault}
use Rattle.ddf_tables.specs.declared.fault.TableFault.TheVariants as faults
use Rattle.ddf_tables.specs.declared.layout.TheConstants.{LOG_COUNT_AT, LOG_SPARE_COUNT_AT, LOG_FIRST_SPARE_AT, LOG_ENTRIES_AT, LOG_ENTRY_BYTES}
use Rattle.ddf_tables.specs.Places.{each_at}
use Rattle.ddf_tables.specs.Faults.{UpToMemory}
use Rattle.ddf_tables.specs.BadBlocks.{LogValue, log_signature, log_fields, IsLogOf, IsLog, log_bytes, entry_at, unread_of_log, log_at, entries_that_fit, log_faults, decoded_log, blank_log}
use Rattle.ddf_tables.proofs.Answers.{if_ok, if_ok_then}
use Rattle.ddf_tables.proofs.Parts.{length-each_at}
use Rattle.ddf_tables.proofs.LogEntries.{places_of_entries, entries_within, apart_from_entries, entries_apart, entries_stand, entries_only}

log_within : (log : LogValue) (size : ℕ) → LOG_ENTRIES_AT + LOG_ENTRY_BYTES * length log.entries ≤ size → AreWithin size (seal_place ∷ places (log_fields log))
log_within log size long = (omega arith, (omega arith, (omega arith, (omega arith, entries_within LOG_ENTRIES_AT size log.entries long))))

log_apart : (log : LogValue) → AreAllApart (seal_place ∷ places (log_fields log))
log_apart log =
    let count : Span = record { at = LOG_COUNT_AT; length = 2 } in
    let spares : Span = record { at = LOG_SPARE_COUNT_AT; length = 4 } in
    let first : Span = record { at = LOG_FIRST_SPARE_AT; length = 8 } in (
      (inl (lit≤ tt), (inl (lit≤ tt), (inl (lit≤ tt), apart_from_entries seal_place LOG_ENTRIES_AT log.entries (lit≤ tt)))),
      (
        (inl (lit≤ tt), (inl (lit≤ tt), apart_from_entries count LOG_ENTRIES_AT log.entries (lit≤ tt))),
        ((inl (lit≤ tt), apart_from_entries spares LOG_ENTRIES_AT log.entries (lit≤ tt)), (apart_from_entries first LOG_ENTRIES_AT log.entries (lit≤ tt), entries_apart LOG_ENTRIES_AT log.entries)),
      ),
    )

-- the rest of a log is its unread bytes
unread_is : (log : LogValue) (bytes : List ℕ) → unread_of_log (length log.entries) bytes ≡ cleared (seal_place ∷ places (log_fields log)) bytes
unread_is log bytes =
    ap (λ spans. cleared (seal_place ∷ record { at = LOG_COUNT_AT; length = 2 } ∷ record { at = LOG_SPARE_COUNT_AT; length = 4 } ∷ record { at = LOG_FIRST_SPARE_AT; length = 8 } ∷ spans) bytes) (sym (places_of_entries LOG_ENTRIES_AT log.entries))

-- ---- reading

log_from_section : (section : List ℕ) → LOG_ENTRIES_AT ≤ length section → AreBytes section → first_of (log_faults section) ≡ None → IsLogOf (log_at section) section
log_from_section section long are h =
    let none = none_first (log_faults section) h in
    let seal = seal_check log_signature section in
    let stated = number_at w16 section LOG_COUNT_AT in
    let fit = entries_that_fit (length section) in
    let fits : stated ≤ fit = ltb-false fit stated (none_when (ltb fit stated) (faults.Count stated fit) none.1.0) in
    let count = length-each_at (entry_at section) LOG_ENTRY_BYTES LOG_ENTRIES_AT stated in
    record {
      long = omega (arith, count);
      is_record = record {
        are_bytes = are;
        is_sealed = sealed_from_check log_signature section (omega arith) are (none_err seal (none_from_map faults.Seal (result_err seal) none.0));
        fields_stand = (sym count, (refl, (refl, entries_stand section LOG_ENTRIES_AT stated)));
        others_stay = ap (λ n. unread_of_log n section) (sym count) ∙ unread_is (log_at section) section;
      };
    }

pub section_of_log : (log : LogValue) (section : List ℕ) → IsLogOf log section → decoded_log section ≡ Ok log
section_of_log log section is =
    let long = is.long in
    let seal = check_from_sealed log_signature section (omega arith) is.is_record.are_bytes (lit< tt) is.is_record.is_sealed in
    let stand = is.is_record.fields_stand in
    let stated = number_at w16 section LOG_COUNT_AT in
    let count : stated ≡ length log.entries = stand.0 in
    let fit : ltb (entries_that_fit (length section)) stated ≡ false = le-ltb (entries_that_fit (length section)) stated (omega arith) in
    let none : first_of (log_faults section) ≡ None = rw (seal, fit) refl in
    let entries : each_at (entry_at section) LOG_ENTRY_BYTES LOG_ENTRIES_AT stated ≡ log.entries = ap (each_at (entry_at section) LOG_ENTRY_BYTES LOG_ENTRIES_AT) count ∙ entries_only section LOG_ENTRIES_AT log.entries stand.1.1.1 in
    let rest : unread_of_log stated section ≡ log.rest = ap (λ n. unread_of_log n section) count ∙ unread_is log section ∙ sym is.is_record.others_stay in
    let made : (entries : List BadBlock) (spare_count first_spare : ℕ) (rest : List ℕ) → LogValue =
    λ entries spare_count first_spare rest. record { entries = entries; spare_count = spare_count; first_spare = first_spare; rest = rest } in
    let same : log_at section ≡ log =
    ap (λ l. made l (number_at w32 section LOG_SPARE_COUNT_AT) (number_at w64 section LOG_FIRST_SPARE_AT) (unread_of_log stated section)) entries
    ∙ ap (λ n. made log.entries n (number_at w64 section LOG_FIRST_SPARE_AT) (unread_of_log stated section)) stand.1.0
    ∙ ap (λ n. made log.entries log.spare_count n (unread_of_log stated section)) stand.1.1.0
    ∙ ap (made log.entries log.spare_count log.first_spare) rest in
    ap (λ o. ok_unless o (log_at section)) none ∙ ap Ok same

pub log_decoded : (section : List ℕ) (result : Result LogValue TableFault) → LOG_ENTRIES_AT ≤ length section → AreBytes section → UpToMemory result (decoded_log section) → IfOk result (λ log. IsLogOf log section)
log_decoded section result long are given = if_ok (λ log. IsLogOf log section) (first_of (log_faults section)) (log_at section) result given (log_from_section section long are)

pub log_only : (section : List ℕ) (result : Result LogValue TableFault) → UpToMemory result (decoded_log section) → (log : LogValue) → IsLogOf log section → UpToMemory result (Ok log)
log_only section result given log is = subst (λ answer. UpToMemory result answer) (section_of_log log section is) given

-- ---- writing

pub log_again : (log : LogValue) (section : List ℕ) → IsLogOf log section → log_bytes log ≡ section
log_again log section is = record_again log_signature (log_fields log) log.rest section (log_within log (length section) is.long) is.is_record

length-rest_of_log : (log : LogValue) (section : List ℕ) → IsLogOf log section → length log.rest ≡ length section
length-rest_of_log log section is = ap length is.is_record.others_stay ∙ (cleared_outside (seal_place ∷ places (log_fields log)) section (log_within log (length section) is.long)).size

log_can_be_written : (log : LogValue) (section : List ℕ) → IsLogOf log section → IsLog log
log_can_be_written log section is =
    let size = length-rest_of_log log section is in
    let long = is.long in
    record { long = omega (arith, size); is_record = record_from_bytes log_signature (log_fields log) log.rest section (log_within log (length section) is.long) is.is_record }

pub log_writable : (section : List ℕ) (result : Result LogValue TableFault) → IfOk result (λ log. IsLogOf log section) → IfOk result IsLog
log_writable section result given = if_ok_then (λ log. IsLogOf log section) IsLog result (λ log. log_can_be_written log section) given

pub log_size : (section : List ℕ) (result : Result LogValue TableFault) → IfOk result (λ log. IsLogOf log section) → IfOk result (λ log. length log.rest ≡ length section)
log_size section result given = if_ok_then (λ log. IsLogOf log section) (λ log. length log.rest ≡ length section) result (λ log is. length-rest_of_log log section is) given

pub log_is_written : (log : LogValue) → IsLog log → AreBytes (log_bytes log) → IsLogOf log (log_bytes log)
log_is_written log can are =
    let long = can.long in
    let inside = log_within log (length log.rest) long in
    let size = length-record_bytes log_signature (log_fields log) log.rest inside can.is_record.fields_fit in
    record { long = omega (arith, size); is_record = record_written log_signature (log_fields log) log.rest inside (log_apart log) can.is_record are }

-- ---- a new one

blank_within : (size : ℕ) → LOG_ENTRIES_AT ≤ size → AreWithin (length {A = ℕ} (replicate size 255)) (seal_place ∷ places (log_fields (blank_log size)))
blank_within size long = let len = length-replicate {A = ℕ} size 255 in log_within (blank_log size) (length {A = ℕ} (replicate size 255)) (omega (arith, len))

length-blank_log : (size : ℕ) → LOG_ENTRIES_AT ≤ size → length (blank_log size).rest ≡ size
length-blank_log size long =
    let bytes : List ℕ = replicate size 255 in
    ap length (unread_is (blank_log size) bytes) ∙ (cleared_outside (seal_place ∷ places (log_fields (blank_log size))) bytes (blank_within size long)).size ∙ length-replicate {A = ℕ} size 255

blank_log_is_good : (size : ℕ) → LOG_ENTRIES_AT ≤ size → IsLog (blank_log size)
blank_log_is_good size long =
    let blank = blank_log size in
    let bytes : List ℕ = replicate size 255 in
    let spans = seal_place ∷ places (log_fields blank) in
    let rest : blank.rest ≡ cleared spans bytes = unread_is blank bytes in
    record {
      long = let size_of = length-blank_log size long in omega (arith, size_of);
      is_record = record {
        fields_fit = (lit< tt, (lit< tt, (lit< tt, tt)));
        others_clear = ap (cleared spans) rest ∙ cleared-cleared spans bytes (blank_within size long) ∙ sym rest;
      };
    }

rest_of : (a b : LogValue) → a ≡ b → a.rest ≡ b.rest
rest_of a b e = let f : LogValue → List ℕ = λ log. log.rest in ap f e

pub blank_log_writable : (size : ℕ) (result : Result LogValue NoMemory) → LOG_ENTRIES_AT ≤ size → IfOk result (λ log. log ≡ blank_log size) → IfOk result IsLog
blank_log_writable size result long given = if_ok_then (λ log. log ≡ blank_log size) IsLog result (λ log is. subst IsLog (sym is) (blank_log_is_good size long)) given

pub blank_log_size : (size : ℕ) (result : Result LogValue NoMemory) → LOG_ENTRIES_AT ≤ size → IfOk result (λ log. log ≡ blank_log size) → IfOk result (λ log. length log.rest ≡ size)
blank_log_size size result long given =
    if_ok_then (λ log. log ≡ blank_log size) (λ log. length log.rest ≡ size) result (λ log is. ap length (rest_of log (blank_log size) is) ∙ length-blank_log size long) given
