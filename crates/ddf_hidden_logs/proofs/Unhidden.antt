-- A copy that is seen with the log that a mask shows stands below with the log that it hides.
use Rattle.std.proofs.Common.{◌≡◌, ◌≢◌, ◌∙◌, ℕ, ◌+◌, ◌*◌, ◌-◌, ◌<◌, ◌≤◌, ◌^◌, true, List, ◌∷◌, ◌++◌, length, take, drop, map, Some, Ok, sym, ap, inl, arith, drop_at, length-take-le, take_at}
use Rattle.std.proofs.lemmas.List.{take-append-drop}
use Rattle.std.specs.List.{range_with_len}
use Rattle.ddf_bay.specs.Sectors.{IsWhole}
use Rattle.ddf_seal.specs.Unread.{AreBytes}
use Rattle.ddf_header.specs.declared.geometry.Section.{Section}
use Rattle.ddf_header.specs.declared.reading.Header.{Header}
use Rattle.ddf_header.specs.Geometry.{section_of}
use Rattle.ddf_tables.specs.declared.layout.TheConstants.{LOG_ENTRIES_AT, LOG_ENTRY_BYTES}
use Rattle.ddf_tables.specs.BadBlocks.{IsLogOf, LogValue, decoded_log, log_at, log_bytes}
use Rattle.ddf_tables.proofs.LogValues.{log_again, log_decoded}
use Rattle.ddf_copy.specs.declared.copy.DiskCopy.{DiskCopy}
use Rattle.ddf_copy.specs.declared.which.Which.{Which}
use Rattle.ddf_copy.specs.Copies.{copy_of}
use Rattle.ddf_copy.specs.Sections.{bytes_in, log_in}
use Rattle.ddf_copy.specs.Which.{other_of, place_of}
use Rattle.ddf_copy.proofs.Sectors.{log_is}
use Rattle.ddf_hidden_logs.specs.declared.mask.Mask.{Mask}
use Rattle.ddf_hidden_logs.specs.Masks.{is_sector, turned_by}
use Rattle.ddf_hidden_logs.specs.Recounts.{mask_of_log, recounted}
use Rattle.ddf_hidden_logs.specs.TurnLaws.{by_twice, sector_of, shown_turned, shown_whole, turn_twice}
use Rattle.ddf_hidden_logs.proofs.Logged.{first_and_rest, shown_copy}
use Rattle.ddf_hidden_logs.proofs.Recounted.{recounted_bytes, recounted_reads, recounted_size, rest_same}
use Rattle.ddf_hidden_logs.proofs.Shows.{front_is_place, plain_at, read_log}
use Rattle.ddf_hidden_logs.proofs.Whole.{IsReadOf, take_bytes}

module _ (size : ℕ) (sector : ℕ → List ℕ) (whole : (l : ℕ) → IsWhole (sector l)) (anchor : Header) (which : Which) (seen : DiskCopy) (log : LogValue) (count : ℕ) where
  abbrev section : Section
  section = section_of seen.header.geometry 5

  abbrev mask : Mask
  mask = mask_of_log anchor section log count

  abbrev now : ℕ → List ℕ
  now l = turned_by mask l (sector l)

  abbrev bytes : List ℕ
  bytes = log_bytes log

  whole_now : (l : ℕ) → IsWhole (now l)
  whole_now l = shown_whole (Some mask) l (now l) (rw (turn_twice (Some mask) l (sector l)) (whole l))

  module _ (is : copy_of size now anchor which ≡ Ok seen) (has : seen.bad ≡ Some (log_at (recounted count bytes)))
      (log_size : length bytes ≡ 512 * section.length) (are : AreBytes bytes) (decoded : decoded_log bytes ≡ Ok log)
      (small : count < 2 ^ 16) (fits : LOG_ENTRIES_AT + LOG_ENTRY_BYTES * count ≤ 512 * section.length) where
    abbrev shown : LogValue
    shown = log_at (recounted count bytes)

    abbrev front : ℕ
    front = place_of which anchor + section.offset

    abbrev rest : List (List ℕ)
    rest = map now (range_with_len (front + 1) (section.length - 1))

    there : IsReadOf now front section.length shown
    there = read_log size now whole_now anchor which seen is shown has

    long : 512 ≤ length bytes
    long = let some = (there).some in omega (arith, some, log_size)

    again_size : length (recounted count bytes) ≡ length bytes
    again_size = recounted_size bytes long count

    shown_is : IsLogOf shown (recounted count bytes)
    shown_is =
        let enough = long in
        let same = again_size in
        log_decoded (recounted count bytes) (Ok shown) (omega (arith, enough, same)) (recounted_bytes bytes long count are small)
        (inl (sym (recounted_reads bytes long count are small (omega (arith, fits, log_size)))))

    -- what is seen of the section
    section_seen : now front ++ bytes_in rest ≡ recounted count bytes
    section_seen =
        sym (ap bytes_in (first_and_rest now front section.length (there).some)) ∙ sym (there).written ∙ log_again shown (recounted count bytes) shown_is

    front_seen : now front ≡ mask.shown
    front_seen = sym (take_at (now front) (bytes_in rest) 512 (whole_now front).size) ∙ ap (take 512) section_seen

    rest_seen : bytes_in rest ≡ drop 512 bytes
    rest_seen = sym (drop_at (now front) (bytes_in rest) 512 (whole_now front).size) ∙ ap (drop 512) section_seen ∙ rest_same bytes long count

    first : is_sector mask.below ≡ true
    first = sector_of (take 512 bytes) (length-take-le 512 bytes long) (take_bytes 512 bytes are)

    second : is_sector mask.shown ≡ true
    second =
        let enough = long in
        let same = again_size in
        sector_of (take 512 (recounted count bytes)) (length-take-le 512 (recounted count bytes) (omega (arith, enough, same))) (take_bytes 512 (recounted count bytes) (recounted_bytes bytes long count are small))

    -- what stands there
    front_below : sector front ≡ take 512 bytes
    front_below =
        sym (by_twice mask front (sector front)) ∙ ap (turned_by mask front) front_seen
        ∙ shown_turned mask front (front_is_place anchor section log count which) first second

    section_below : sector front ++ bytes_in rest ≡ bytes
    section_below = ap (λ (head : List ℕ). head ++ bytes_in rest) front_below ∙ ap (λ (others : List ℕ). take 512 bytes ++ others) rest_seen ∙ take-append-drop 512 bytes

    log_below : log_in (sector front ∷ rest) ≡ Ok (Some log)
    log_below = log_is (sector front ∷ rest) log (omega arith) (ap decoded_log section_below ∙ decoded)

    plain : (l : ℕ) → (l ≢ front) × (l ≢ place_of (other_of which) anchor + section.offset) → sector l ≡ now l
    plain l off = sym (plain_at anchor section log count which l (sector l) off)

    pub unhidden : copy_of size sector anchor which ≡ Ok (record seen { bad = Some log })
    unhidden = shown_copy size now anchor which seen is (there).some sector plain (Some log) log_below
