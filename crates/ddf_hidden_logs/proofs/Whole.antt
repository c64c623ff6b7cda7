-- The bytes of whole sectors, and a log that is read of them.
use Rattle.std.proofs.Common.{◌≡◌, ◌∙◌, ℕ, zero, suc, ◌+◌, ◌*◌, ◌<◌, ◌≤◌, ◌^◌, List, [], ◌∷◌, ◌++◌, length, take, map, Some, Result, Ok, Err, sym, inl, arith}
use Rattle.std.specs.List.{range_with_len}
use Rattle.std.specs.Prelude.{◌==◌, false}
use Rattle.std.proofs.lemmas.Bool.{ne_eqb}
use Rattle.std.proofs.lemmas.List.{length-append}
use Rattle.std.proofs.lemmas.List.FromFn.{length-map-range_with_len}
use Rattle.ddf_bay.specs.Sectors.{IsWhole}
use Rattle.ddf_seal.specs.Unread.{AreBytes}
use Rattle.ddf_seal.proofs.Common.{append_bytes}
use Rattle.ddf_tables.specs.declared.fault.TableFault.{TableFault}
use Rattle.ddf_tables.specs.declared.layout.TheConstants.{LOG_ENTRIES_AT, LOG_ENTRY_BYTES}
use Rattle.ddf_tables.specs.BadBlocks.{IsLog, IsLogOf, LogValue, decoded_log, log_bytes}
use Rattle.ddf_tables.proofs.LogValues.{log_again, log_decoded, log_writable}
use Rattle.ddf_copy.specs.declared.fault.SectionName.TheVariants as names
use Rattle.ddf_copy.specs.Sections.{bytes_in, in_section, log_in, some_log}

pub front_bytes : (xs ys : List ℕ) → AreBytes (xs ++ ys) → AreBytes xs
front_bytes [] ys are i = omega arith
front_bytes (x ∷ xs) ys are zero = are 0
front_bytes (x ∷ xs) ys are (suc i) = front_bytes xs ys (λ j. are (suc j)) i

pub take_bytes : (n : ℕ) (xs : List ℕ) → AreBytes xs → AreBytes (take n xs)
take_bytes zero xs are i = omega arith
take_bytes (suc n) [] are i = omega arith
take_bytes (suc n) (x ∷ xs) are zero = are 0
take_bytes (suc n) (x ∷ xs) are (suc i) = take_bytes n xs (λ j. are (suc j)) i

module _ (sector : ℕ → List ℕ) (whole : (l : ℕ) → IsWhole (sector l)) where
  pub sectors_bytes : (start count : ℕ) → AreBytes (bytes_in (map sector (range_with_len start count)))
  sectors_bytes start zero = λ i. omega arith
  sectors_bytes start (suc count) = append_bytes (sector start) (bytes_in (map sector (range_with_len (start + 1) count))) (whole start).are_bytes (sectors_bytes (start + 1) count)

  pub sectors_size : (start count : ℕ) → length (bytes_in (map sector (range_with_len start count))) ≡ 512 * count
  sectors_size start zero = omega arith
  sectors_size start (suc count) =
      let first = (whole start).size in
      let rest = sectors_size (start + 1) count in
      length-append (sector start) (bytes_in (map sector (range_with_len (start + 1) count))) ∙ omega (arith, first, rest)

some_of : (read : Result LogValue TableFault) (log : LogValue) → some_log (in_section names.BadBlocks read) ≡ Ok (Some log) → read ≡ Ok log
some_of (Ok value) log is = cc
some_of (Err fault) log is = absurd cc

-- A log that is read of sectors: there are some, and it stands in their bytes.
pub record IsReadOf (sector : ℕ → List ℕ) (start count : ℕ) (log : LogValue) : Type 0 where
  pub some : 0 < count
  pub stands : IsLogOf log (bytes_in (map sector (range_with_len start count)))
  pub written : log_bytes log ≡ bytes_in (map sector (range_with_len start count))
  pub room : LOG_ENTRIES_AT + LOG_ENTRY_BYTES * length log.entries ≤ 512 * count
  pub few : length log.entries < 2 ^ 16

pub log_of_sectors : (sector : ℕ → List ℕ) → ((l : ℕ) → IsWhole (sector l)) → (start count : ℕ) (log : LogValue) → log_in (map sector (range_with_len start count)) ≡ Ok (Some log) → IsReadOf sector start count log
log_of_sectors sector whole start zero log is = absurd cc
log_of_sectors sector whole start (suc count) log is =
    let section = bytes_in (map sector (range_with_len start (suc count))) in
    let size = sectors_size sector whole start (suc count) in
    let count_is = length-map-range_with_len sector start (suc count) in
    let present : (length (map sector (range_with_len start (suc count))) == 0) ≡ false = ne_eqb (length (map sector (range_with_len start (suc count)))) 0 (λ none. absurd (omega (arith, none, count_is))) in
    let decoded : decoded_log section ≡ Ok log = some_of (decoded_log section) log (rw present at is) in
    let stands : IsLogOf log section = log_decoded section (Ok log) (omega (arith, size)) (sectors_bytes sector whole start (suc count)) (inl (sym decoded)) in
    let can : IsLog log = log_writable section (Ok log) stands in
    record {
      some = omega arith;
      stands = stands;
      written = log_again log section stands;
      room = let long = stands.long in omega (arith, long, size);
      few = can.is_record.fields_fit.0;
    }
