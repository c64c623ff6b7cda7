-- The mask of a disk whose copies carry one log.
use Rattle.std.proofs.Common.{◌≡◌, ◌⊎◌, ◌∙◌, ℕ, ◌-◌, Bool, true, false, List, length, Option, Some, None, Result, Ok, Err, refl, sym, ap, inl, inr, arith, eq-eqb}
use Rattle.std.specs.Prelude.{is_some, max, nat_lt, if◌then◌else◌}
use Rattle.std.specs.Option.{option_and_then, option_map_or}
use Rattle.std.proofs.lemmas.Bool.{and_from}
use Rattle.ddf_header.specs.declared.geometry.Geometry.{Geometry}
use Rattle.ddf_header.specs.declared.reading.Header.{Header}
use Rattle.ddf_header.specs.Geometry.{section_of}
use Rattle.ddf_tables.specs.BadBlocks.{LogValue}
use Rattle.ddf_copy.specs.declared.copy.DiskCopy.{DiskCopy}
use Rattle.ddf_copy.specs.declared.fault.CopyFault.{CopyFault}
use Rattle.ddf_copy.specs.declared.which.Which.{Which}
use Rattle.ddf_copy.specs.declared.which.Which.TheVariants.{Primary, Secondary}
use Rattle.ddf_copy.specs.Copies.{are_level, copy_of, newest_in, standing_copy}
use Rattle.ddf_copy.proofs.Places.{alike}
use Rattle.ddf_logs.specs.Kept.{kept_under}
use Rattle.ddf_logs.specs.Lasting.{CarryLogOf}
use Rattle.ddf_logs.specs.Logs.{carry_one, configured_size, entries_of, fitting, fitting_by, honoured, newer, same_logs}
use Rattle.ddf_logs.proofs.Carried.{logs_own, blocks_same, there_is}
use Rattle.ddf_logs.proofs.Standing.{standing_newer}
use Rattle.ddf_hidden_logs.specs.Lasting.{CarryLog}
use Rattle.ddf_hidden_logs.specs.Recounts.{mask_by, mask_if, mask_under}
use Rattle.ddf_hidden_logs.specs.Shown.{mask_at}
use Rattle.ddf_hidden_logs.proofs.Anchored.{mask_is}

-- ---- a log is the same as itself

log_same : (log : Option LogValue) → same_logs log log ≡ true
log_same None = refl
log_same (Some log) = and_from _ _ (and_from _ _ (blocks_same log.entries) (eq-eqb log.spare_count log.spare_count refl)) (eq-eqb log.first_spare log.first_spare refl)

-- ---- copies that carry it

-- a copy carries this log, lists its disk with so many sectors, and has these sections
record IsCarrier (bad : Option LogValue) (sectors : Option ℕ) (geometry : Geometry) (copy : DiskCopy) : Type 0 where
  own : copy.bad ≡ bad
  size : configured_size copy ≡ sectors
  sections : copy.header.geometry ≡ geometry

module _ (last : ℕ) (anchor : Header) (bad : Option LogValue) (sectors : Option ℕ) (geometry : Geometry) where
  abbrev Carrier : DiskCopy → Type 0
  Carrier copy = IsCarrier bad sectors geometry copy

  abbrev listed : ℕ
  listed = option_map_or (λ log. length log.entries) bad 0

  abbrev fit : Option LogValue
  fit = fitting_by last (kept_under anchor geometry) bad sectors

  -- what counts against the disk
  abbrev pub counting : ℕ
  counting = if is_some fit then 0 else listed

  fit_of : (copy : DiskCopy) → Carrier copy → fitting last anchor copy ≡ fit
  fit_of copy is =
      ap (λ (one : Geometry). fitting_by last (kept_under anchor one) copy.bad (configured_size copy)) is.sections
      ∙ ap (λ (size : Option ℕ). fitting_by last (kept_under anchor geometry) copy.bad size) is.size
      ∙ ap (λ (log : Option LogValue). fitting_by last (kept_under anchor geometry) log sectors) is.own

  mask_of : (copy : DiskCopy) (count : ℕ) → Carrier copy → mask_under anchor copy count ≡ mask_by anchor (section_of geometry 5) bad count
  mask_of copy count is =
      ap (λ (one : Geometry). mask_by anchor (section_of one 5) copy.bad count) is.sections
      ∙ ap (λ (log : Option LogValue). mask_by anchor (section_of geometry 5) log count) is.own

  listed_by : (copy : DiskCopy) → Carrier copy → entries_of (Ok copy) ≡ listed
  listed_by copy is = ap (λ (log : Option LogValue). option_map_or (λ one. length one.entries) log 0) is.own

  abbrev total : (standing : Option DiskCopy) → (same : Bool) → (most : ℕ) → ℕ
  total standing same most = if is_some (if same then option_and_then (fitting last anchor) standing else None) then 0 else most

  by_one : (standing : Option DiskCopy) (copy : DiskCopy) (same : Bool) (most : ℕ) → same ≡ true → standing ≡ Some copy → Carrier copy → most ≡ listed
      → mask_if anchor standing (total standing same most) ≡ mask_by anchor (section_of geometry 5) bad counting
  by_one standing copy same most one stands is all =
      ap (λ (test : Bool). mask_if anchor standing (total standing test most)) one
      ∙ ap (λ (found : Option DiskCopy). mask_if anchor found (total found true most)) stands
      ∙ mask_of copy (total (Some copy) true most) is
      ∙ ap (λ (found : Option LogValue). mask_by anchor (section_of geometry 5) bad (if is_some found then 0 else most)) (fit_of copy is)
      ∙ ap (λ (count : ℕ). mask_by anchor (section_of geometry 5) bad (if is_some fit then 0 else count)) all

  either_one : (test : Bool) (one two : DiskCopy) → Carrier one → Carrier two → Carrier (if test then two else one)
  either_one true one two is also = also
  either_one false one two is also = is

  all_give : (level : Bool) (primary secondary : Result DiskCopy CopyFault) → ((copy : DiskCopy) → primary ≡ Ok copy → Carrier copy) → ((copy : DiskCopy) → secondary ≡ Ok copy → Carrier copy)
      → ((copy : DiskCopy) × (primary ≡ Ok copy)) ⊎ ((copy : DiskCopy) × (secondary ≡ Ok copy))
      → mask_if anchor (standing_copy (newest_in level primary secondary)) (total (standing_copy (newest_in level primary secondary)) (carry_one primary secondary) (max (entries_of primary) (entries_of secondary)))
      ≡ mask_by anchor (section_of geometry 5) bad counting
  all_give level (Ok primary) (Ok secondary) first second some =
      let is = first primary refl in
      let also = second secondary refl in
      let one = listed_by primary is in
      let other = listed_by secondary also in
      let same : same_logs primary.bad secondary.bad ≡ true = ap (same_logs primary.bad) (also.own ∙ sym is.own) ∙ log_same primary.bad in
      by_one (standing_copy (newest_in level (Ok primary) (Ok secondary))) (newer primary secondary) (same_logs primary.bad secondary.bad) (max (entries_of (Ok primary)) (entries_of (Ok secondary))) same
      (sym (standing_newer level primary secondary)) (either_one (nat_lt primary.header.sequence secondary.header.sequence) primary secondary is also) (omega (arith, one, other))
  all_give level (Ok primary) (Err fault) first second some =
      let one = listed_by primary (first primary refl) in
      by_one (Some primary) primary true (max (entries_of (Ok primary)) 0) refl refl (first primary refl) (omega (arith, one))
  all_give level (Err fault) (Ok secondary) first second some =
      let one = listed_by secondary (second secondary refl) in
      by_one (Some secondary) secondary true (max 0 (entries_of (Ok secondary))) refl refl (second secondary refl) (omega (arith, one))
  all_give level (Err fault) (Err other) first second (inl whole) = absurd cc
  all_give level (Err fault) (Err other) first second (inr whole) = absurd cc

-- by a copy of some moment of the disk
module _ (size : ℕ) (sector : ℕ → List ℕ) (anchor : Header) (base : ℕ → List ℕ) (which : Which) (copy : DiskCopy) (is : copy_of size base anchor which ≡ Ok copy) (sectors : Option ℕ)
    (carry : CarryLog size sector anchor copy.bad sectors) where
  carrier : (place : Which) (one : DiskCopy) → copy_of size sector anchor place ≡ Ok one → IsCarrier copy.bad sectors copy.header.geometry one
  carrier place one there =
      let own = carry.each place one there in
      record { own = own.0; size = own.1; sections = (alike size anchor sector base place which one copy there is).same_sections }

  pub mask_carried : mask_at size sector ≡ mask_by anchor (section_of copy.header.geometry 5) copy.bad (counting (size - 1) anchor copy.bad sectors copy.header.geometry)
  unfolding honoured
  mask_carried =
      let primary = copy_of size sector anchor Primary in
      let secondary = copy_of size sector anchor Secondary in
      mask_is size sector anchor carry.is_anchored
      ∙ all_give (size - 1) anchor copy.bad sectors copy.header.geometry (are_level primary secondary) primary secondary (λ one there. carrier Primary one there) (λ one there. carrier Secondary one there)
      (there_is size sector anchor carry.place carry.whole carry.is_there)

  -- and so they carry the log of that copy, where it lists the disk so too
  pub carries_log : configured_size copy ≡ sectors → CarryLogOf size sector anchor copy
  carries_log same = record {
    is_anchored = carry.is_anchored;
    place = carry.place;
    whole = carry.whole;
    is_there = carry.is_there;
    each = λ place one there.
        let own = carrier place one there in
        record { logs = rw own.own (logs_own copy.bad); sections = own.sections; sectors = own.size ∙ sym same };
  }
