-- A disk that is seen through the mask of a copy's log shows this copy with another count of entries.
use Rattle.std.proofs.Common.{◌≡◌, ◌≢◌, ◌∙◌, ℕ, ◌+◌, ◌*◌, ◌-◌, ◌<◌, ◌≤◌, ◌^◌, Bool, true, false, List, ◌∷◌, ◌++◌, [], length, take, map, Option, Some, None, Ok, refl, sym, ap, arith, drop_at, length-take-le, take_at}
use Rattle.std.specs.Prelude.{option_map, ◌==◌, if◌then◌else◌}
use Rattle.std.specs.List.{range_with_len}
use Rattle.std.proofs.lemmas.Bool.{eq-eqb, eqb-true, ne_eqb, or_left, or_right}
use Rattle.ddf_bay.specs.Sectors.{IsWhole}
use Rattle.ddf_seal.specs.Unread.{AreBytes}
use Rattle.ddf_header.specs.declared.geometry.Section.{Section}
use Rattle.ddf_header.specs.declared.reading.Header.{Header}
use Rattle.ddf_header.specs.Geometry.{section_of}
use Rattle.ddf_tables.specs.declared.layout.TheConstants.{LOG_ENTRIES_AT, LOG_ENTRY_BYTES}
use Rattle.ddf_tables.specs.BadBlocks.{LogValue, decoded_log, log_at, log_bytes}
use Rattle.ddf_copy.specs.declared.copy.DiskCopy.{DiskCopy}
use Rattle.ddf_copy.specs.declared.which.Which.{Which}
use Rattle.ddf_copy.specs.declared.which.Which.TheVariants.{Primary, Secondary}
use Rattle.ddf_copy.specs.Copies.{copy_of}
use Rattle.ddf_copy.specs.Sections.{bytes_in, log_in}
use Rattle.ddf_copy.specs.Which.{other_of, place_of}
use Rattle.ddf_copy.proofs.Sectors.{log_is}
use Rattle.ddf_hidden_logs.specs.declared.mask.Mask.{Mask}
use Rattle.ddf_hidden_logs.specs.Masks.{is_place, is_sector, turn, turned_by, turns_by}
use Rattle.ddf_hidden_logs.specs.Recounts.{mask_by, mask_of_log, recounted, recounted_log}
use Rattle.ddf_hidden_logs.specs.TurnLaws.{below_turned, sector_of, when_not}
use Rattle.ddf_hidden_logs.proofs.Logged.{first_and_rest, log_read, shown_copy}
use Rattle.ddf_hidden_logs.proofs.Recounted.{entries_are, parts_are, recounted_bytes, recounted_reads, recounted_size}
use Rattle.ddf_hidden_logs.proofs.Whole.{IsReadOf, log_of_sectors, sectors_bytes, sectors_size, take_bytes}

-- ---- the places of a mask

pub front_is_place : (anchor : Header) (section : Section) (log : LogValue) (count : ℕ) (which : Which) → is_place (mask_of_log anchor section log count) (place_of which anchor + section.offset) ≡ true
front_is_place anchor section log count Primary = or_left _ _ (eq-eqb (anchor.primary_lba + section.offset) (anchor.primary_lba + section.offset) refl)
front_is_place anchor section log count Secondary = or_right _ _ (eq-eqb (anchor.secondary_lba + section.offset) (anchor.secondary_lba + section.offset) refl)

no_place : (anchor : Header) (section : Section) (log : LogValue) (count : ℕ) (which : Which) (l : ℕ) → l ≢ place_of which anchor + section.offset → l ≢ place_of (other_of which) anchor + section.offset
    → is_place (mask_of_log anchor section log count) l ≡ false
no_place anchor section log count Primary l own other = rw (ne_eqb l (anchor.primary_lba + section.offset) own, ne_eqb l (anchor.secondary_lba + section.offset) other) refl
no_place anchor section log count Secondary l own other = rw (ne_eqb l (anchor.primary_lba + section.offset) other, ne_eqb l (anchor.secondary_lba + section.offset) own) refl

not_turned : (mask : Mask) (l : ℕ) (bytes : List ℕ) → is_place mask l ≡ false → turns_by mask l bytes ≡ false
unfolding turns_by
not_turned mask l bytes none = rw none refl

plain_by : (mask : Mask) (l : ℕ) (bytes : List ℕ) → is_place mask l ≡ false → turned_by mask l bytes ≡ bytes
plain_by mask l bytes none = when_not mask l bytes (not_turned mask l bytes none)

-- a sector that isn't one of them is seen as it is
pub plain_at : (anchor : Header) (section : Section) (log : LogValue) (count : ℕ) (which : Which) (l : ℕ) (bytes : List ℕ) → (l ≢ place_of which anchor + section.offset) × (l ≢ place_of (other_of which) anchor + section.offset)
    → turned_by (mask_of_log anchor section log count) l bytes ≡ bytes
plain_at anchor section log count which l bytes off = plain_by (mask_of_log anchor section log count) l bytes (no_place anchor section log count which l off.0 off.1)

module _ (size : ℕ) (sector : ℕ → List ℕ) (whole : (l : ℕ) → IsWhole (sector l)) (anchor : Header) (which : Which) (copy : DiskCopy) (is : copy_of size sector anchor which ≡ Ok copy) where
  abbrev section : Section
  section = section_of copy.header.geometry 5

  abbrev front : ℕ
  front = place_of which anchor + section.offset

  -- its log, where it has one
  pub read_log : (log : LogValue) → copy.bad ≡ Some log → IsReadOf sector front section.length log
  read_log log has = log_of_sectors sector whole front section.length log ((log_read size sector anchor which copy is [] None refl).1 ∙ ap Ok has)

  module _ (log : LogValue) (has : copy.bad ≡ Some log) (count : ℕ) (small : count < 2 ^ 16) (fits : LOG_ENTRIES_AT + LOG_ENTRY_BYTES * count ≤ 512 * section.length) where
    pub read : IsReadOf sector front section.length log
    read = read_log log has

    abbrev pub mask : Mask
    mask = mask_of_log anchor section log count

    abbrev pub rest : List (List ℕ)
    rest = map sector (range_with_len (front + 1) (section.length - 1))

    abbrev pub bytes : List ℕ
    bytes = sector front ++ bytes_in rest

    pub written : log_bytes log ≡ bytes
    written = (read).written ∙ ap bytes_in (first_and_rest sector front section.length (read).some)

    pub bytes_are : AreBytes bytes
    bytes_are = rw (ap bytes_in (first_and_rest sector front section.length (read).some)) at (sectors_bytes sector whole front section.length)

    pub bytes_size : length bytes ≡ 512 * section.length
    bytes_size = ap length (sym (ap bytes_in (first_and_rest sector front section.length (read).some))) ∙ sectors_size sector whole front section.length

    pub long : 512 ≤ length bytes
    long = let size_is = bytes_size in let some = (read).some in omega (arith, size_is, some)

    pub below_is : mask.below ≡ sector front
    below_is = ap (take 512) written ∙ take_at (sector front) (bytes_in rest) 512 (whole front).size

    pub shown_is : mask.shown ≡ take 512 (recounted count bytes)
    shown_is = ap (λ (section : List ℕ). take 512 (recounted count section)) written

    first : is_sector mask.below ≡ true
    first = ap is_sector below_is ∙ sector_of (sector front) (whole front).size (whole front).are_bytes

    second : is_sector mask.shown ≡ true
    second =
        let size_is = recounted_size bytes long count in
        let enough = long in
        ap is_sector shown_is ∙ sector_of (take 512 (recounted count bytes)) (length-take-le 512 (recounted count bytes) (omega (arith, size_is, enough))) (take_bytes 512 (recounted count bytes) (recounted_bytes bytes long count bytes_are small))

    abbrev pub now : ℕ → List ℕ
    now l = turned_by mask l (sector l)

    front_now : now front ≡ take 512 (recounted count bytes)
    front_now =
        ap (turned_by mask front) (sym below_is)
        ∙ below_turned mask front (front_is_place anchor section log count which) first second
        ∙ shown_is

    plain : (l : ℕ) → (l ≢ front) × (l ≢ place_of (other_of which) anchor + section.offset) → now l ≡ sector l
    plain l off = plain_at anchor section log count which l (sector l) off

    -- the section that is seen
    section_now : bytes_in (now front ∷ rest) ≡ recounted count bytes
    section_now =
        ap (λ (bytes : List ℕ). bytes ++ bytes_in rest) front_now
        ∙ ap (λ (others : List ℕ). take 512 (recounted count bytes) ++ others) (sym (drop_at (sector front) (bytes_in rest) 512 (whole front).size))
        ∙ parts_are bytes long count

    log_now : log_in (now front ∷ rest) ≡ Ok (Some (log_at (recounted count bytes)))
    log_now =
        let size_is = bytes_size in
        log_is (now front ∷ rest) (log_at (recounted count bytes)) (omega arith)
        (ap decoded_log section_now ∙ recounted_reads bytes long count bytes_are small (omega (arith, size_is, fits)))

    pub copy_now : copy_of size now anchor which ≡ Ok (record copy { bad = Some (log_at (recounted count (log_bytes log))) })
    copy_now =
        shown_copy size sector anchor which copy is (read).some now plain (Some (log_at (recounted count bytes))) log_now
        ∙ ap (λ (section : List ℕ). Ok (record copy { bad = Some (log_at (recounted count section)) })) (sym written)

    -- it counts so many
    pub counted_now : length (log_at (recounted count (log_bytes log))).entries ≡ count
    counted_now = ap (λ (section : List ℕ). length (log_at (recounted count section)).entries) written ∙ entries_are bytes long count bytes_are small

  -- The copy is seen with so many entries, where they fit.
  module _ (count : ℕ) (fits : (log : LogValue) → copy.bad ≡ Some log → (count < 2 ^ 16) × (LOG_ENTRIES_AT + LOG_ENTRY_BYTES * count ≤ 512 * section.length)) where
    by_test : (log : LogValue) → copy.bad ≡ Some log → (same : Bool)
        → copy_of size (λ l. turn (if same then None else Some (mask_of_log anchor section log count)) l (sector l)) anchor which
        ≡ Ok (record copy { bad = Some (if same then log else log_at (recounted count (log_bytes log))) })
    by_test log has true = is ∙ ap (λ (bad : Option LogValue). Ok (record copy { bad = bad })) has
    by_test log has false = copy_now log has count (fits log has).0 (fits log has).1

    by_log : (bad : Option LogValue) → copy.bad ≡ bad
        → copy_of size (λ l. turn (mask_by anchor section bad count) l (sector l)) anchor which ≡ Ok (record copy { bad = option_map (recounted_log count) bad })
    by_log None has = is ∙ ap (λ (bad : Option LogValue). Ok (record copy { bad = bad })) has
    by_log (Some log) has = by_test log has (length log.entries == count)

    by_count : (log : LogValue) → copy.bad ≡ Some log → (same : Bool) → (length log.entries == count) ≡ same
        → length (if same then log else log_at (recounted count (log_bytes log))).entries ≡ count
    by_count log has true is = eqb-true (length log.entries) count is
    by_count log has false is = counted_now log has count (fits log has).0 (fits log has).1

    -- and they are so many
    pub counts : (log : LogValue) → copy.bad ≡ Some log → length (recounted_log count log).entries ≡ count
    counts log has = by_count log has (length log.entries == count) refl

    pub shows : copy_of size (λ l. turn (mask_by anchor section copy.bad count) l (sector l)) anchor which ≡ Ok (record copy { bad = option_map (recounted_log count) copy.bad })
    shows = by_log copy.bad refl
