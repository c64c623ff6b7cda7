-- Copies that carry one log give one exchange.
use Rattle.std.proofs.Common.{◌≡◌, ◌⊎◌, ℕ, Bool, true, false, List, [], ◌∷◌, map, Option, Some, None, Result, Ok, Err, refl, sym, ap, ◌∙◌, inl, inr, eq-eqb}
use Rattle.std.proofs.lemmas.Bool.{and_from}
use Rattle.std.specs.Cmp.Lexicographic.{pointwise}
use Rattle.std.specs.Option.{option_and_then, option_map_or}
use Rattle.std.specs.Prelude.{◌-◌, nat_lt, if◌then◌else◌}
use Rattle.ddf_header.specs.declared.geometry.Geometry.{Geometry}
use Rattle.ddf_header.specs.declared.reading.Header.{Header}
use Rattle.ddf_tables.specs.declared.bad_blocks.BadBlock.{BadBlock}
use Rattle.ddf_tables.specs.BadBlocks.{LogValue}
use Rattle.ddf_copy.specs.declared.copy.DiskCopy.{DiskCopy}
use Rattle.ddf_copy.specs.declared.fault.CopyFault.{CopyFault}
use Rattle.ddf_copy.specs.declared.which.Which.{Which}
use Rattle.ddf_copy.specs.declared.which.Which.TheVariants.{Primary, Secondary}
use Rattle.ddf_copy.specs.Copies.{are_level, copy_of, newest_in, newest_of_both, standing_copy}
use Rattle.ddf_badblocks.specs.declared.fitting.Stretch.{Stretch}
use Rattle.ddf_badblocks.specs.declared.range.Range.{Range}
use Rattle.ddf_badblocks.specs.Fits.{fits, range_of, ranges_of}
use Rattle.ddf_logs.specs.Kept.{kept_under}
use Rattle.ddf_logs.specs.Lasting.{AreSameLogs, CarriesLogOf, CarryLogOf, IsSameLog}
use Rattle.ddf_logs.specs.Logs.{carry_one, configured_size, exchange_at, exchange_under, fitting, fitting_by, honoured, newer, same_block, same_log, same_logs}
use Rattle.ddf_logs.proofs.Standing.{standing_newer}

-- ---- the same log

made : (entries : List BadBlock) (spare_count first_spare : ℕ) (rest : List ℕ) → LogValue
made entries spare_count first_spare rest = record { entries = entries; spare_count = spare_count; first_spare = first_spare; rest = rest }

-- what fits doesn't depend on the rest
same_fits : (one other : LogValue) (size : ℕ) (kept : List Stretch) (last : ℕ) → IsSameLog one other → fits one size kept last ≡ fits other size kept last
unfolding made fits
same_fits one other size kept last is =
    ap (λ (entries : List BadBlock). fits (made entries one.spare_count one.first_spare []) size kept last) is.entries
    ∙ ap (λ (spares : ℕ). fits (made other.entries spares one.first_spare []) size kept last) is.spare_count
    ∙ ap (λ (first : ℕ). fits (made other.entries other.spare_count first []) size kept last) is.first_spare

same_ranges : (one other : LogValue) → IsSameLog one other → ranges_of one ≡ ranges_of other
same_ranges one other is = ap (λ (first : ℕ). map (range_of first) one.entries) is.first_spare ∙ ap (map (range_of other.first_spare)) is.entries

module _ (last : ℕ) (kept : List Stretch) where
  abbrev given : Option LogValue → List Range
  given found = option_map_or ranges_of found []

  by_tests : (one other : LogValue) (test : Bool) → ranges_of one ≡ ranges_of other → given (if test then Some one else None) ≡ given (if test then Some other else None)
  by_tests one other true same = same
  by_tests one other false same = refl

  same_given : (one other : Option LogValue) (size : Option ℕ) → AreSameLogs one other → given (fitting_by last kept one size) ≡ given (fitting_by last kept other size)
  same_given (Some one) (Some other) (Some size) is =
      by_tests one other (fits one size kept last) (same_ranges one other is)
      ∙ ap (λ (test : Bool). given (if test then Some other else None)) (same_fits one other size kept last is)
  same_given (Some one) (Some other) None is = refl
  same_given None None (Some size) is = refl
  same_given None None None is = refl
  same_given (Some one) None size is = absurd is
  same_given None (Some other) size is = absurd is

pub block_same : (block : BadBlock) → same_block block block ≡ true
block_same block = and_from _ _ (and_from _ _ (eq-eqb block.start block.start refl) (eq-eqb block.spare block.spare refl)) (eq-eqb block.count block.count refl)

pub blocks_same : (blocks : List BadBlock) → pointwise same_block blocks blocks ≡ true
blocks_same [] = refl
blocks_same (block ∷ blocks) = and_from _ _ (block_same block) (blocks_same blocks)

both_same : (one other log : LogValue) → IsSameLog one log → IsSameLog other log → same_log one other ≡ true
both_same one other log is also = and_from _ _
    (and_from _ _
    (ap (λ (entries : List BadBlock). pointwise same_block one.entries entries) (also.entries ∙ sym is.entries) ∙ blocks_same one.entries)
    (eq-eqb one.spare_count other.spare_count (is.spare_count ∙ sym also.spare_count)))
    (eq-eqb one.first_spare other.first_spare (is.first_spare ∙ sym also.first_spare))

logs_both : (one other log : Option LogValue) → AreSameLogs one log → AreSameLogs other log → same_logs one other ≡ true
logs_both (Some one) (Some other) (Some log) is also = both_same one other log is also
logs_both None None None is also = refl
logs_both (Some one) other None is also = absurd is
logs_both None other (Some log) is also = absurd is
logs_both (Some one) None (Some log) is also = absurd also
logs_both None (Some other) None is also = absurd also

pub logs_own : (log : Option LogValue) → AreSameLogs log log
logs_own (Some log) = record { entries = refl; spare_count = refl; first_spare = refl }
logs_own None = tt

-- ---- the exchange

-- the ranges that a copy's own log gives
abbrev pub ranges_for : (last : ℕ) → (anchor : Header) → DiskCopy → List Range
ranges_for last anchor copy = option_map_or ranges_of (fitting last anchor copy) []

module _ (last : ℕ) (anchor : Header) (other : DiskCopy) where
  one_gives : (copy : DiskCopy) → CarriesLogOf other copy → ranges_for last anchor copy ≡ ranges_for last anchor other
  one_gives copy carries =
      ap (λ (geometry : Geometry). option_map_or ranges_of (fitting_by last (kept_under anchor geometry) copy.bad (configured_size copy)) []) carries.sections
      ∙ ap (λ (size : Option ℕ). option_map_or ranges_of (fitting_by last (kept_under anchor other.header.geometry) copy.bad size) []) carries.sectors
      ∙ same_given last (kept_under anchor other.header.geometry) copy.bad other.bad (configured_size other) carries.logs

  either : (test : Bool) (one two : DiskCopy) → CarriesLogOf other one → CarriesLogOf other two → CarriesLogOf other (if test then two else one)
  either true one two is also = also
  either false one two is also = is

  abbrev chosen : (level : Bool) → Result DiskCopy CopyFault → Result DiskCopy CopyFault → Option LogValue
  chosen level primary secondary = if carry_one primary secondary then option_and_then (fitting last anchor) (standing_copy (newest_in level primary secondary)) else None

  all_give : (level : Bool) (primary secondary : Result DiskCopy CopyFault) → ((copy : DiskCopy) → primary ≡ Ok copy → CarriesLogOf other copy) → ((copy : DiskCopy) → secondary ≡ Ok copy → CarriesLogOf other copy)
      → ((copy : DiskCopy) × (primary ≡ Ok copy)) ⊎ ((copy : DiskCopy) × (secondary ≡ Ok copy)) → option_map_or ranges_of (chosen level primary secondary) [] ≡ ranges_for last anchor other
  all_give level (Ok primary) (Ok secondary) first second some =
      let is = first primary refl in
      let also = second secondary refl in
      ap (λ (test : Bool). option_map_or ranges_of (if test then option_and_then (fitting last anchor) (standing_copy (newest_of_both level primary secondary)) else None) []) (logs_both primary.bad secondary.bad other.bad is.logs also.logs)
      ∙ ap (λ (stands : Option DiskCopy). option_map_or ranges_of (option_and_then (fitting last anchor) stands) []) (sym (standing_newer level primary secondary))
      ∙ one_gives (newer primary secondary) (either (nat_lt primary.header.sequence secondary.header.sequence) primary secondary is also)
  all_give level (Ok primary) (Err fault) first second some = one_gives primary (first primary refl)
  all_give level (Err fault) (Ok secondary) first second some = one_gives secondary (second secondary refl)
  all_give level (Err fault) (Err other_fault) first second (inl whole) = absurd cc
  all_give level (Err fault) (Err other_fault) first second (inr whole) = absurd cc

-- there is one
pub there_is : (size : ℕ) (sector : ℕ → List ℕ) (anchor : Header) (place : Which) (copy : DiskCopy) → copy_of size sector anchor place ≡ Ok copy
    → ((copy : DiskCopy) × (copy_of size sector anchor Primary ≡ Ok copy)) ⊎ ((copy : DiskCopy) × (copy_of size sector anchor Secondary ≡ Ok copy))
there_is size sector anchor Primary copy is = inl (copy, is)
there_is size sector anchor Secondary copy is = inr (copy, is)

pub carried_exchange : (size : ℕ) (sector : ℕ → List ℕ) (anchor : Header) (other : DiskCopy) → CarryLogOf size sector anchor other → exchange_at size sector ≡ ranges_for (size - 1) anchor other
unfolding exchange_at honoured
carried_exchange size sector anchor other carry =
    let primary = copy_of size sector anchor Primary in
    let secondary = copy_of size sector anchor Secondary in
    ap (exchange_under size sector) carry.is_anchored
    ∙ all_give (size - 1) anchor other (are_level primary secondary) primary secondary (λ copy is. carry.each Primary copy is) (λ copy is. carry.each Secondary copy is)
    (there_is size sector anchor carry.place carry.whole carry.is_there)

-- two disks, or one at two moments, all of whose copies carry one log
pub same_exchange : (size : ℕ) (one two : ℕ → List ℕ) (anchor : Header) (other : DiskCopy) → CarryLogOf size one anchor other → CarryLogOf size two anchor other → exchange_at size one ≡ exchange_at size two
same_exchange size one two anchor other is also = carried_exchange size one anchor other is ∙ sym (carried_exchange size two anchor other also)
