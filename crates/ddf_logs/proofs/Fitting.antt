-- The exchange of a log that fits a copy of a disk leaves both of its copies.
use Rattle.std.proofs.Common.{◌≡◌, ◌+◌, ◌-◌, ℕ, true, List, Ok, ap, ◌∙◌, sym, subst}
use Rattle.ddf_lemmas.proofs.Lists.{all_from}
use Rattle.ddf_header.specs.declared.reading.Header.{Header}
use Rattle.ddf_tables.specs.BadBlocks.{LogValue}
use Rattle.ddf_copy.specs.declared.copy.DiskCopy.{DiskCopy}
use Rattle.ddf_copy.specs.declared.which.Which.{Which}
use Rattle.ddf_copy.specs.Copies.{copy_of}
use Rattle.ddf_copy.specs.Which.{place_of}
use Rattle.ddf_update.specs.Update.{IsOfCopy}
use Rattle.ddf_badblocks.specs.Fits.{fits, ranges_of}
use Rattle.ddf_badblocks.specs.FitsLaws.{fits_keeps, fits_last}
use Rattle.ddf_badblocks.specs.Ranges.{swap}
use Rattle.ddf_logs.specs.Kept.{kept_under}
use Rattle.ddf_logs.proofs.Staying.{Stays, both_stay}
use Rattle.ddf_logs.proofs.Laid.{copy_eight, copy_sound}

module _ (size last : ℕ) (back : last + 1 ≡ size) (front : size - 1 ≡ last)
    (sector : ℕ → List ℕ) (anchor : Header) (which : Which) (copy : DiskCopy) (log : LogValue) (given : ℕ)
    (is : copy_of size sector anchor which ≡ Ok copy) (fit : fits log given (kept_under anchor copy.header.geometry) last ≡ true) where
  abbrev at : ℕ → ℕ
  at l = swap size (ranges_of log) l

  last_stays : at last ≡ last
  last_stays = subst (λ (n : ℕ). swap n (ranges_of log) last ≡ last) back (fits_last log given (kept_under anchor copy.header.geometry) last fit)

  pub last_kept : at (size - 1) ≡ size - 1
  last_kept = ap at front ∙ last_stays ∙ sym front

  pub records_kept : (place : Which) (l : ℕ) → IsOfCopy (place_of place anchor) copy.header.geometry l → at l ≡ l
  records_kept = both_stay at copy.header.geometry (copy_eight size sector anchor which copy is) (copy_sound size sector anchor which copy is) anchor
      (all_from (Stays at) (kept_under anchor copy.header.geometry)
      (λ place stretch here l from below. subst (λ (n : ℕ). swap n (ranges_of log) l ≡ l) back (fits_keeps log given (kept_under anchor copy.header.geometry) last fit place stretch here l from below)))
