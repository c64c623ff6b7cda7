-- A disk whose copies carry one log has the mask that it had, and so it is behind what is written of it as it is seen.
use Rattle.std.proofs.Common.{◌≡◌, ◌∙◌, ℕ, ◌+◌, ◌*◌, ◌-◌, Bool, true, false, List, length, Option, Some, None, Ok, refl, sym, ap, subst, arith}
use Rattle.std.specs.Prelude.{option_map, if◌then◌else◌, ◌==◌}
use Rattle.std.proofs.Math.Path.{fun_ext}
use Rattle.ddf_bay.specs.Sectors.{IsWhole}
use Rattle.ddf_seal.specs.Unread.{AreBytes}
use Rattle.ddf_header.specs.declared.geometry.Geometry.{Geometry}
use Rattle.ddf_header.specs.declared.geometry.Section.{Section}
use Rattle.ddf_header.specs.declared.reading.Header.{Header}
use Rattle.ddf_header.specs.Geometry.{section_of}
use Rattle.ddf_tables.specs.BadBlocks.{IsLogOf, LogValue, log_at, log_bytes}
use Rattle.ddf_tables.proofs.LogValues.{section_of_log}
use Rattle.ddf_copy.specs.declared.copy.DiskCopy.{DiskCopy}
use Rattle.ddf_copy.specs.declared.which.Which.{Which}
use Rattle.ddf_copy.specs.Anchor.{anchor_at}
use Rattle.ddf_copy.specs.Copies.{copies_of, copy_of, newest_of, standing_copy}
use Rattle.ddf_copy.specs.Which.{place_of}
use Rattle.ddf_copy.proofs.Places.{alike}
use Rattle.ddf_update.proofs.Changing.{same_anchor}
use Rattle.ddf_badblocks.specs.declared.range.Range.{Range}
use Rattle.ddf_badblocks.specs.Ranges.{swap}
use Rattle.ddf_badblocks.specs.SwapLaws.{swap_twice}
use Rattle.ddf_logs.specs.Logs.{bad_in, configured_size, exchange_at, seen_at}
use Rattle.ddf_logs.proofs.Carried.{same_exchange}
use Rattle.ddf_logs.proofs.Through.{exchange_seen, through}
use Rattle.ddf_hidden_logs.specs.declared.mask.Mask.{Mask}
use Rattle.ddf_hidden_logs.specs.Lasting.{CarryLog, exchanged_at}
use Rattle.ddf_hidden_logs.specs.Masks.{turn, turned_by}
use Rattle.ddf_hidden_logs.specs.Recounts.{mask_by, mask_of_log, recounted, recounted_log, with_log}
use Rattle.ddf_hidden_logs.specs.Shown.{mask_at, shown_at}
use Rattle.ddf_hidden_logs.specs.TurnLaws.{shown_whole, turn_twice}
use Rattle.ddf_hidden_logs.proofs.Carries.{carries_log, mask_carried}
use Rattle.ddf_hidden_logs.proofs.Counts.{bad_fits}
use Rattle.ddf_hidden_logs.proofs.Located.{last_off}
use Rattle.ddf_hidden_logs.proofs.Logged.{log_some}
use Rattle.ddf_hidden_logs.proofs.Newest.{either}
use Rattle.ddf_hidden_logs.proofs.Other.{is_there}
use Rattle.ddf_hidden_logs.proofs.Seen.{mask_standing, seen_anchor}
use Rattle.ddf_hidden_logs.proofs.Shows.{plain_at, read_log, shows}
use Rattle.ddf_hidden_logs.proofs.Unhidden.{unhidden}
use Rattle.ddf_hidden_logs.proofs.Whole.{sectors_bytes, sectors_size}

-- ---- a copy that is written as it is seen

module _ (size : ℕ) (before now : ℕ → List ℕ) (whole : (l : ℕ) → IsWhole (before l)) (whole_now : (l : ℕ) → IsWhole (now l)) (anchor : Header) (anchored : anchor_at size before ≡ Ok anchor)
    (which : Which) (copy : DiskCopy) (is : copy_of size before anchor which ≡ Ok copy) (stands : standing_copy (newest_of size before anchor) ≡ Some copy) where
  abbrev count : ℕ
  count = bad_in (size - 1) anchor (copies_of size before anchor)

  abbrev section : Section
  section = section_of copy.header.geometry 5

  pub own_mask : mask_at size before ≡ mask_by anchor section copy.bad count
  own_mask = mask_standing size before anchor anchored (Some copy) stands

  module _ (again : Which) (seen : DiskCopy) where
    module _ (log : LogValue) (has : copy.bad ≡ Some log) (there : copy_of size (λ l. turned_by (mask_of_log anchor section log count) l (now l)) anchor again ≡ Ok seen) where
      same_section : section ≡ section_of seen.header.geometry 5
      same_section = ap (λ (geometry : Geometry). section_of geometry 5)
          (alike size anchor before (λ l. turned_by (mask_of_log anchor section log count) l (now l)) which again copy seen is there).same_sections

      by_mask : seen.bad ≡ Some (log_at (recounted count (log_bytes log))) → copy_of size now anchor again ≡ Ok (record seen { bad = Some log })
      by_mask own =
          let read = read_log size before whole anchor which copy is log has in
          let fits = bad_fits size before whole anchor which copy is log has in
          let long : length (log_bytes log) ≡ 512 * section.length = ap length read.written ∙ sectors_size before whole (place_of which anchor + section.offset) section.length in
          let are : AreBytes (log_bytes log) = rw (sym read.written) at (sectors_bytes before whole (place_of which anchor + section.offset) section.length) in
          let itself : IsLogOf log (log_bytes log) = rw (sym read.written) at read.stands in
          unhidden size now whole_now anchor again seen log count
          (subst (λ (one : Section). copy_of size (λ l. turned_by (mask_of_log anchor one log count) l (now l)) anchor again ≡ Ok seen) same_section there)
          own
          (long ∙ ap (λ (one : Section). 512 * one.length) same_section)
          are
          (section_of_log log (log_bytes log) itself)
          fits.0
          (let room = fits.1 in let same : section.length ≡ (section_of seen.header.geometry 5).length = ap (λ (one : Section). one.length) same_section in omega (arith, room, same))

    by_test : (log : LogValue) → copy.bad ≡ Some log → (same : Bool)
        → copy_of size (λ l. turn (if same then None else Some (mask_of_log anchor section log count)) l (now l)) anchor again ≡ Ok seen
        → seen.bad ≡ Some (if same then log else log_at (recounted count (log_bytes log)))
        → copy_of size now anchor again ≡ Ok (record seen { bad = Some log })
    by_test log has true there own = there ∙ ap (λ (bad : Option LogValue). Ok (record seen { bad = bad })) own
    by_test log has false there own = by_mask log has there own

    by_log : (bad : Option LogValue) → copy.bad ≡ bad
        → copy_of size (λ l. turn (mask_by anchor section bad count) l (now l)) anchor again ≡ Ok seen
        → seen.bad ≡ option_map (recounted_log count) bad
        → copy_of size now anchor again ≡ Ok (record seen { bad = bad })
    by_log None has there own = there ∙ ap (λ (bad : Option LogValue). Ok (record seen { bad = bad })) own
    by_log (Some log) has there own = by_test log has (length log.entries == count) there own

    -- it stands there with the log that is there
    pub kept_log : copy_of size (λ l. turn (mask_at size before) l (now l)) anchor again ≡ Ok seen → seen.bad ≡ option_map (recounted_log count) copy.bad
        → copy_of size now anchor again ≡ Ok (record seen { bad = copy.bad })
    kept_log there own =
        by_log copy.bad refl (subst (λ (mask : Option Mask). copy_of size (λ l. turn mask l (now l)) anchor again ≡ Ok seen) own_mask there) own

  -- ---- all of the disk

  abbrev seen : ℕ → List ℕ
  seen l = turn (mask_at size before) l (now l)

  -- the last sector is seen as it is
  last_by : (bad : Option LogValue) → copy.bad ≡ bad → turn (mask_by anchor section bad count) (size - 1) (now (size - 1)) ≡ now (size - 1)
  last_by None has = refl
  last_by (Some log) has = by_same (length log.entries == count)
    where
      by_same : (same : Bool) → turn (if same then None else Some (mask_of_log anchor section log count)) (size - 1) (now (size - 1)) ≡ now (size - 1)
      by_same true = refl
      by_same false = plain_at anchor section log count which (size - 1) (now (size - 1)) (last_off size before anchor which copy is (log_some size before anchor which copy is log has))

  anchor_below : anchor_at size seen ≡ anchor_at size now
  anchor_below = same_anchor size seen now (ap (λ (mask : Option Mask). turn mask (size - 1) (now (size - 1))) own_mask ∙ last_by copy.bad refl)

  -- a copy that is whole below is seen whole
  abbrev IsSeen : (mask : Option Mask) → Which → Type 0
  IsSeen mask place = (one : DiskCopy) × (copy_of size (λ l. turn mask l (now l)) anchor place ≡ Ok one)

  seen_by : (bad : Option LogValue) → copy.bad ≡ bad → (place : Which) (one : DiskCopy) → copy_of size now anchor place ≡ Ok one → IsSeen (mask_by anchor section bad count) place
  seen_by None has place one there = (one, there)
  seen_by (Some log) has place one there = by_same (length log.entries == count)
    where
      by_same : (same : Bool) → IsSeen (if same then None else Some (mask_of_log anchor section log count)) place
      by_same true = (one, there)
      by_same false =
          let fits = bad_fits size before whole anchor which copy is log has in
          let found = is_there size anchor which before copy is log count (either size before whole anchor which copy is log has count fits.0 fits.1)
          now (λ l. turned_by (mask_of_log anchor section log count) l (now l)) whole_now (λ l. refl) place one there in
          (found.copy, found.is)

  seen_whole : (place : Which) (one : DiskCopy) → copy_of size now anchor place ≡ Ok one → IsSeen (mask_at size before) place
  seen_whole place one there = subst (λ (mask : Option Mask). IsSeen mask place) (sym own_mask) (seen_by copy.bad refl place one there)

  module _ (carry : CarryLog size before anchor copy.bad (configured_size copy)) (carry_seen : CarryLog size seen anchor (option_map (recounted_log count) copy.bad) (configured_size copy)) where
    each_now : (place : Which) (one : DiskCopy) → copy_of size now anchor place ≡ Ok one → (one.bad ≡ copy.bad) × (configured_size one ≡ configured_size copy)
    each_now place one there =
        let found = seen_whole place one there in
        let own = carry_seen.each place found.0 found.1 in
        let kept = kept_log place found.0 found.1 own.0 in
        let same : one ≡ with_log copy.bad found.0 = let both = sym there ∙ kept in cc in
        (ap (λ (this : DiskCopy). this.bad) same, ap configured_size same ∙ own.1)

    -- what stands there carries the log that was there
    pub carry_now : CarryLog size now anchor copy.bad (configured_size copy)
    carry_now = record {
      is_anchored = sym anchor_below ∙ carry_seen.is_anchored;
      place = carry_seen.place;
      whole = with_log copy.bad carry_seen.whole;
      is_there = kept_log carry_seen.place carry_seen.whole carry_seen.is_there (carry_seen.each carry_seen.place carry_seen.whole carry_seen.is_there).0;
      each = each_now;
    }

    pub mask_stays : mask_at size now ≡ mask_at size before
    mask_stays =
        mask_carried size now anchor before which copy is (configured_size copy) carry_now ∙ sym (mask_carried size before anchor before which copy is (configured_size copy) carry)

    pub exchange_stays : exchange_at size now ≡ exchange_at size before
    exchange_stays =
        same_exchange size now before anchor copy (carries_log size now anchor before which copy is (configured_size copy) carry_now refl)
        (carries_log size before anchor before which copy is (configured_size copy) carry refl)

-- ---- what a disk shows whose copies carry one log

module _ (size : ℕ) (before : ℕ → List ℕ) (whole : (l : ℕ) → IsWhole (before l)) (anchor : Header) (which : Which) (copy : DiskCopy)
    (is : copy_of size before anchor which ≡ Ok copy) (stands : standing_copy (newest_of size before anchor) ≡ Some copy) (carry : CarryLog size before anchor copy.bad (configured_size copy)) where
  abbrev counted : ℕ
  counted = bad_in (size - 1) anchor (copies_of size before anchor)

  its_mask : mask_at size before ≡ mask_by anchor (section_of copy.header.geometry 5) copy.bad counted
  its_mask = own_mask size before before whole whole anchor carry.is_anchored which copy is stands

  one_shown : (place : Which) (one : DiskCopy) → copy_of size before anchor place ≡ Ok one → one.bad ≡ copy.bad
      → copy_of size (shown_at size before) anchor place ≡ Ok (with_log (option_map (recounted_log counted) one.bad) one)
  one_shown place one there own =
      let masks : mask_by anchor (section_of one.header.geometry 5) one.bad counted ≡ mask_at size before =
      ap (λ (geometry : Geometry). mask_by anchor (section_of geometry 5) one.bad counted) (alike size anchor before before place which one copy there is).same_sections
      ∙ ap (λ (bad : Option LogValue). mask_by anchor (section_of copy.header.geometry 5) bad counted) own
      ∙ sym its_mask in
      subst (λ (mask : Option Mask). copy_of size (λ l. turn mask l (before l)) anchor place ≡ Ok (with_log (option_map (recounted_log counted) one.bad) one)) masks
      (shows size before whole anchor place one there counted (λ log has. bad_fits size before whole anchor place one there log has))

  -- a copy that is seen whole is whole below
  abbrev IsBelow : Which → Type 0
  IsBelow place = (one : DiskCopy) × (copy_of size before anchor place ≡ Ok one)

  below_by : (bad : Option LogValue) → copy.bad ≡ bad → (place : Which) (seen : DiskCopy)
      → copy_of size (λ l. turn (mask_by anchor (section_of copy.header.geometry 5) bad counted) l (before l)) anchor place ≡ Ok seen → IsBelow place
  below_by None has place seen there = (seen, there)
  below_by (Some log) has place seen there = by_same (length log.entries == counted) there
    where
      by_same : (same : Bool) → copy_of size (λ l. turn (if same then None else Some (mask_of_log anchor (section_of copy.header.geometry 5) log counted)) l (before l)) anchor place ≡ Ok seen → IsBelow place
      by_same true there = (seen, there)
      by_same false there =
          let fits = bad_fits size before whole anchor which copy is log has in
          let mask = mask_of_log anchor (section_of copy.header.geometry 5) log counted in
          let found = is_there size anchor which before copy is log counted (either size before whole anchor which copy is log has counted fits.0 fits.1)
          (λ l. turned_by mask l (before l)) before
          (λ l. shown_whole (Some mask) l (turned_by mask l (before l)) (rw (turn_twice (Some mask) l (before l)) (whole l)))
          (λ l. sym (turn_twice (Some mask) l (before l))) place seen there in
          (found.copy, found.is)

  below_whole : (place : Which) (seen : DiskCopy) → copy_of size (shown_at size before) anchor place ≡ Ok seen → IsBelow place
  below_whole place seen there =
      below_by copy.bad refl place seen (subst (λ (mask : Option Mask). copy_of size (λ l. turn mask l (before l)) anchor place ≡ Ok seen) its_mask there)

  each_shown : (place : Which) (seen : DiskCopy) → copy_of size (shown_at size before) anchor place ≡ Ok seen
      → (seen.bad ≡ option_map (recounted_log counted) copy.bad) × (configured_size seen ≡ configured_size copy)
  each_shown place seen there =
      let found = below_whole place seen there in
      let own = carry.each place found.0 found.1 in
      let kept = one_shown place found.0 found.1 own.0 in
      let same : seen ≡ with_log (option_map (recounted_log counted) found.0.bad) found.0 = let both = sym there ∙ kept in cc in
      (ap (λ (this : DiskCopy). this.bad) same ∙ ap (option_map (recounted_log counted)) own.0, ap configured_size same ∙ own.1)

  pub carry_shown : CarryLog size (shown_at size before) anchor (option_map (recounted_log counted) copy.bad) (configured_size copy)
  carry_shown =
      let own = carry.each carry.place carry.whole carry.is_there in
      record {
        is_anchored = seen_anchor size before ∙ carry.is_anchored;
        place = carry.place;
        whole = with_log (option_map (recounted_log counted) carry.whole.bad) carry.whole;
        is_there = one_shown carry.place carry.whole carry.is_there own.0;
        each = each_shown;
      }

-- ---- of a disk whose bad sectors are exchanged too

module _ (size : ℕ) (before now : ℕ → List ℕ) (whole : (l : ℕ) → IsWhole (before l)) (whole_now : (l : ℕ) → IsWhole (now l)) (anchor : Header) (which : Which) (copy : DiskCopy) where
  abbrev exchanged : (ℕ → List ℕ) → ℕ → List ℕ
  exchanged sector = exchanged_at size before sector

  module _ (anchored : anchor_at size (exchanged before) ≡ Ok anchor) (is : copy_of size (exchanged before) anchor which ≡ Ok copy) (stands : standing_copy (newest_of size (exchanged before) anchor) ≡ Some copy)
      (carry : CarryLog size (exchanged before) anchor copy.bad (configured_size copy))
      (carry_seen : CarryLog size (λ l. turn (mask_at size (exchanged before)) l (exchanged now l)) anchor
      (option_map (recounted_log (bad_in (size - 1) anchor (copies_of size (exchanged before) anchor))) copy.bad) (configured_size copy)) where
    exchanged_whole : (l : ℕ) → IsWhole (exchanged before l)
    exchanged_whole l = whole (swap size (exchange_at size before) l)

    exchanged_now : (l : ℕ) → IsWhole (exchanged now l)
    exchanged_now l = whole_now (swap size (exchange_at size before) l)

    pub mask_both : mask_at size (exchanged now) ≡ mask_at size (exchanged before)
    mask_both = mask_stays size (exchanged before) (exchanged now) exchanged_whole exchanged_now anchor anchored which copy is stands carry carry_seen

    same_between : exchange_at size (exchanged now) ≡ exchange_at size before
    same_between =
        exchange_stays size (exchanged before) (exchanged now) exchanged_whole exchanged_now anchor anchored which copy is stands carry carry_seen
        ∙ exchange_seen size before (seen_at size before) (through size before)

    -- what stands there is seen so through the exchange of what is seen
    back : now ≡ seen_at size (exchanged now)
    back = fun_ext (λ l.
        ap now (sym (swap_twice size (exchange_at size before) l))
        ∙ ap (λ (ranges : List Range). now (swap size (exchange_at size before) (swap size ranges l))) (sym same_between))

    pub exchange_both : exchange_at size now ≡ exchange_at size before
    exchange_both =
        ap (exchange_at size) back ∙ exchange_seen size (exchanged now) (seen_at size (exchanged now)) (through size (exchanged now)) ∙ same_between
