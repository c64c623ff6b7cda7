-- What a log has that is honoured.
use Rattle.std.proofs.Common.{◌≡◌, ◌⊎◌, ℕ, Bool, true, false, List, Option, Some, None, refl, subst, inl, inr}
use Rattle.std.specs.Prelude.{if◌then◌else◌}
use Rattle.std.specs.Option.{option_and_then}
use Rattle.ddf_header.specs.declared.reading.Header.{Header}
use Rattle.ddf_tables.specs.BadBlocks.{LogValue}
use Rattle.ddf_copy.specs.declared.copy.DiskCopy.{DiskCopy}
use Rattle.ddf_copy.specs.declared.copies.Copies.{Copies}
use Rattle.ddf_copy.specs.Copies.{newest_of_copies, standing_copy}
use Rattle.ddf_badblocks.specs.declared.fitting.Stretch.{Stretch}
use Rattle.ddf_badblocks.specs.Fits.{fits}
use Rattle.ddf_logs.specs.Kept.{kept_under}
use Rattle.ddf_logs.specs.Logs.{carry_one, configured_size, fitting, fitting_by, honoured}

-- It is of the copy that stands for the disk, and fits there.
pub record IsHonoured (last : ℕ) (anchor : Header) (copies : Copies) (log : LogValue) : Type 0 where
  pub copy : DiskCopy
  pub given : ℕ
  pub stands : standing_copy (newest_of_copies copies) ≡ Some copy
  pub has_fit : fits log given (kept_under anchor copy.header.geometry) last ≡ true

carried : (carry : Bool) (found : Option LogValue) (log : LogValue) → (if carry then found else None) ≡ Some log → found ≡ Some log
carried true found log h = h
carried false found log h = absurd cc

module _ (last : ℕ) (kept : List Stretch) where
  by_test : (own log : LogValue) (given : ℕ) (test : Bool) → fits own given kept last ≡ test → (if test then Some own else None) ≡ Some log → fits log given kept last ≡ true
  by_test own log given true is h = let same : own ≡ log = cc in subst (λ (found : LogValue). fits found given kept last ≡ true) same is
  by_test own log given false is h = absurd cc

  by_size : (own : Option LogValue) (size : Option ℕ) (log : LogValue) → fitting_by last kept own size ≡ Some log → (given : ℕ) × (fits log given kept last ≡ true)
  by_size (Some own) (Some size) log h = (size, by_test own log size (fits own size kept last) refl h)
  by_size (Some own) None log h = absurd cc
  by_size None (Some size) log h = absurd cc
  by_size None None log h = absurd cc

module _ (last : ℕ) (anchor : Header) where
  by_copy : (copies : Copies) (found : Option DiskCopy) (log : LogValue) → standing_copy (newest_of_copies copies) ≡ found → option_and_then (fitting last anchor) found ≡ Some log → IsHonoured last anchor copies log
  by_copy copies (Some copy) log is h =
      let size = by_size last (kept_under anchor copy.header.geometry) copy.bad (configured_size copy) log h in
      record { copy = copy; given = size.0; stands = is; has_fit = size.1 }
  by_copy copies None log is h = absurd cc

  pub honoured_is : (copies : Copies) (log : LogValue) → honoured last anchor copies ≡ Some log → IsHonoured last anchor copies log
  unfolding honoured
  honoured_is copies log h =
      by_copy copies (standing_copy (newest_of_copies copies)) log refl
      (carried (carry_one copies.primary copies.secondary) (option_and_then (fitting last anchor) (standing_copy (newest_of_copies copies))) log h)

-- a log is honoured, or none is
pub log_or : (found : Option LogValue) → ((log : LogValue) × (found ≡ Some log)) ⊎ (found ≡ None)
log_or (Some log) = inl (log, refl)
log_or None = inr refl
