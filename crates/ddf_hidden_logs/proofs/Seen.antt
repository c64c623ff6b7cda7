-- A disk as it is seen through its own mask.
use Rattle.std.proofs.Common.{◌≡◌, ◌∙◌, ℕ, ◌-◌, List, length, Option, Some, None, Result, Ok, Err, refl, ap}
use Rattle.std.specs.Prelude.{option_map, if◌then◌else◌, ◌==◌, true, false, Bool}
use Rattle.ddf_bay.specs.Sectors.{IsWhole}
use Rattle.ddf_header.specs.declared.reading.Header.{Header}
use Rattle.ddf_header.specs.Geometry.{section_of}
use Rattle.ddf_tables.specs.BadBlocks.{LogValue, log_at, log_bytes}
use Rattle.ddf_copy.specs.declared.copy.DiskCopy.{DiskCopy}
use Rattle.ddf_copy.specs.declared.fault.AnchorFault.{AnchorFault}
use Rattle.ddf_copy.specs.declared.which.Which.{Which}
use Rattle.ddf_copy.specs.Anchor.{anchor_at}
use Rattle.ddf_copy.specs.Copies.{copies_of, copy_of, newest_of, standing_copy}
use Rattle.ddf_copy.proofs.Places.{standing_whole}
use Rattle.ddf_update.proofs.Changing.{same_anchor}
use Rattle.ddf_logs.specs.Logs.{bad_in}
use Rattle.ddf_hidden_logs.specs.declared.mask.Mask.{Mask}
use Rattle.ddf_hidden_logs.specs.Masks.{turn}
use Rattle.ddf_hidden_logs.specs.Recounts.{mask_by, mask_if, mask_of_log, recounted, recounted_copy, recounted_log}
use Rattle.ddf_hidden_logs.specs.Shown.{mask_at, shown_at}
use Rattle.ddf_hidden_logs.proofs.Anchored.{mask_is, none_is}
use Rattle.ddf_hidden_logs.proofs.Counts.{bad_fits}
use Rattle.ddf_hidden_logs.proofs.Located.{last_off}
use Rattle.ddf_hidden_logs.proofs.Logged.{log_some}
use Rattle.ddf_hidden_logs.proofs.Newest.{newest_shown}
use Rattle.ddf_hidden_logs.proofs.Shows.{counts, plain_at, shows}

module _ (size : ℕ) (sector : ℕ → List ℕ) (anchor : Header) where
  abbrev count : ℕ
  count = bad_in (size - 1) anchor (copies_of size sector anchor)

  -- its mask is that of the copy that stands for it
  pub mask_standing : anchor_at size sector ≡ Ok anchor → (standing : Option DiskCopy) → standing_copy (newest_of size sector anchor) ≡ standing → mask_at size sector ≡ mask_if anchor standing count
  unfolding newest_of
  mask_standing anchored standing stands = mask_is size sector anchor anchored ∙ ap (λ (one : Option DiskCopy). mask_if anchor one count) stands

  module _ (whole : (l : ℕ) → IsWhole (sector l)) (which : Which) (copy : DiskCopy) (is : copy_of size sector anchor which ≡ Ok copy) where
    pub seen_copy : anchor_at size sector ≡ Ok anchor → standing_copy (newest_of size sector anchor) ≡ Some copy → copy_of size (shown_at size sector) anchor which ≡ Ok (recounted_copy count copy)
    seen_copy anchored stands =
        ap (λ (mask : Option Mask). copy_of size (λ l. turn mask l (sector l)) anchor which) (mask_standing anchored (Some copy) stands)
        ∙ shows size sector whole anchor which copy is count (λ log has. bad_fits size sector whole anchor which copy is log has)

    pub seen_count : (log : LogValue) → copy.bad ≡ Some log → length (recounted_log count log).entries ≡ count
    seen_count log has = counts size sector whole anchor which copy is count (λ one there. bad_fits size sector whole anchor which copy is one there) log has

  -- ---- the newest copy

  newest_by : (whole : (l : ℕ) → IsWhole (sector l)) (which : Which) (copy : DiskCopy) → copy_of size sector anchor which ≡ Ok copy → standing_copy (newest_of size sector anchor) ≡ Some copy
      → (bad : Option LogValue) → copy.bad ≡ bad
      → standing_copy (newest_of size (λ l. turn (mask_by anchor (section_of copy.header.geometry 5) bad count) l (sector l)) anchor) ≡ Some (record copy { bad = option_map (recounted_log count) bad })
  newest_by whole which copy is standing None has = standing ∙ ap (λ (bad : Option LogValue). Some (record copy { bad = bad })) has
  newest_by whole which copy is standing (Some log) has = by_test (length log.entries == count)
    where
      by_test : (same : Bool)
          → standing_copy (newest_of size (λ l. turn (if same then None else Some (mask_of_log anchor (section_of copy.header.geometry 5) log count)) l (sector l)) anchor)
          ≡ Some (record copy { bad = Some (if same then log else log_at (recounted count (log_bytes log))) })
      by_test true = standing ∙ ap (λ (bad : Option LogValue). Some (record copy { bad = bad })) has
      by_test false =
          let fits = bad_fits size sector whole anchor which copy is log has in
          newest_shown size sector whole anchor which copy is log has count fits.0 fits.1 standing

  newest_of_standing : (whole : (l : ℕ) → IsWhole (sector l)) (standing : Option DiskCopy) → standing_copy (newest_of size sector anchor) ≡ standing
      → standing_copy (newest_of size (λ l. turn (mask_if anchor standing count) l (sector l)) anchor) ≡ option_map (recounted_copy count) standing
  newest_of_standing whole None stands = stands
  newest_of_standing whole (Some copy) stands =
      let there = standing_whole size sector anchor copy stands in
      newest_by whole there.0 copy there.1 stands copy.bad refl

  -- the copy that stands for the disk is seen standing, with the count that counts
  pub seen_newest : (whole : (l : ℕ) → IsWhole (sector l)) → anchor_at size sector ≡ Ok anchor
      → standing_copy (newest_of size (shown_at size sector) anchor) ≡ option_map (recounted_copy count) (standing_copy (newest_of size sector anchor))
  seen_newest whole anchored =
      ap (λ (mask : Option Mask). standing_copy (newest_of size (λ l. turn mask l (sector l)) anchor)) (mask_standing anchored (standing_copy (newest_of size sector anchor)) refl)
      ∙ newest_of_standing whole (standing_copy (newest_of size sector anchor)) refl

  -- ---- the last sector

  last_by : (which : Which) (copy : DiskCopy) → copy_of size sector anchor which ≡ Ok copy → (bad : Option LogValue) → copy.bad ≡ bad
      → turn (mask_by anchor (section_of copy.header.geometry 5) bad count) (size - 1) (sector (size - 1)) ≡ sector (size - 1)
  last_by which copy is None has = refl
  last_by which copy is (Some log) has = by_test (length log.entries == count)
    where
      by_test : (same : Bool) → turn (if same then None else Some (mask_of_log anchor (section_of copy.header.geometry 5) log count)) (size - 1) (sector (size - 1)) ≡ sector (size - 1)
      by_test true = refl
      by_test false = plain_at anchor (section_of copy.header.geometry 5) log count which (size - 1) (sector (size - 1)) (last_off size sector anchor which copy is (log_some size sector anchor which copy is log has))

  last_of : anchor_at size sector ≡ Ok anchor → (standing : Option DiskCopy) → standing_copy (newest_of size sector anchor) ≡ standing → turn (mask_if anchor standing count) (size - 1) (sector (size - 1)) ≡ sector (size - 1)
  last_of anchored None stands = refl
  last_of anchored (Some copy) stands =
      let there = standing_whole size sector anchor copy stands in
      last_by there.0 copy there.1 copy.bad refl

  last_seen : anchor_at size sector ≡ Ok anchor → shown_at size sector (size - 1) ≡ sector (size - 1)
  last_seen anchored =
      ap (λ (mask : Option Mask). turn mask (size - 1) (sector (size - 1))) (mask_standing anchored (standing_copy (newest_of size sector anchor)) refl)
      ∙ last_of anchored (standing_copy (newest_of size sector anchor)) refl

pub seen_anchor : (size : ℕ) (sector : ℕ → List ℕ) → anchor_at size (shown_at size sector) ≡ anchor_at size sector
seen_anchor size sector = by (anchor_at size sector) refl
  where
    by : (found : Result Header AnchorFault) → anchor_at size sector ≡ found → anchor_at size (shown_at size sector) ≡ anchor_at size sector
    by (Ok anchor) anchored = same_anchor size (shown_at size sector) sector (last_seen size sector anchor anchored)
    by (Err fault) none = same_anchor size (shown_at size sector) sector (ap (λ (mask : Option Mask). turn mask (size - 1) (sector (size - 1))) (none_is size sector fault none))
