-- What holds of disks whose bad block logs are honoured: the laws of a bay, by those of the bay below.
use Rattle.std.specs.Prelude.{◌≡◌, ℕ, List, Option, refl}
use Rattle.ddf_bay.specs.Moments.{StopsLeave}
use Rattle.ddf_bay.specs.Sectors.{IsLeft}
use Rattle.ddf_bay.specs.State.{BayState}
use Rattle.ddf_bay.specs.Told.{IsTold}
use Rattle.ddf_fenced.specs.Fences.{gone_then, is_gone}
use Rattle.ddf_badblocks.specs.declared.range.Range.{Range}
use Rattle.ddf_badblocks.specs.Seen.{left_below, left_seen, place_twice, since_again}
use Rattle.ddf_badblocks.specs.State.{place, seen_image, seen_state}
use Rattle.ddf_hidden_logs.specs.declared.honoured.Honoured.{Honoured}
use Rattle.ddf_hidden_logs.specs.declared.mask.Mask.{Mask}
use Rattle.ddf_hidden_logs.specs.Honouring.{disks_of, inner_of, logs_of}
use Rattle.ddf_hidden_logs.specs.Masks.{mask_of, turn}
use Rattle.ddf_hidden_logs.specs.State.{shown_image, shown_state}
use Rattle.ddf_hidden_logs.specs.TurnLaws.{shown_left, shown_since, shown_whole}

-- ---- of a state whose sectors are exchanged, and of one whose logs are hidden

exchanged_told : {D : Type 0} (state : BayState D) (logs : List (List Range)) → IsTold state → IsTold (seen_state (place state.sizes logs) state)
exchanged_told state logs told =
    let at = place state.sizes logs in
    let twice = place_twice state.sizes logs in
    record {
      held = λ left s l. told.held left s (at s l);
      whole = λ s l bytes left. told.whole s (at s l) bytes left;
      only_now = λ image left. left_seen at twice state.may_hold image (told.only_now (seen_image at image) left);
      counts = λ t image le left. told.counts t (seen_image at image) le (left_below at twice state.may_hold image left);
      since = λ t image left. told.since t (seen_image at image) left;
    }

shown_told : {D : Type 0} (state : BayState D) (masks : List (Option Mask)) → IsTold state → IsTold (shown_state masks state)
shown_told state masks told = record {
  held = λ left. shown_left masks state.may_hold state.held (told.held left);
  whole = λ s l bytes left. shown_whole (mask_of masks s) l bytes (told.whole s l (turn (mask_of masks s) l bytes) left);
  only_now = λ image left. told.only_now (shown_image masks image) left;
  counts = λ t image le left. told.counts t (shown_image masks image) le left;
  since = λ t image left. told.since t (shown_image masks image) left;
}

exchanged_stops : {D : Type 0} (old new : BayState D) (logs logs' : List (List Range)) → new.sizes ≡ old.sizes → logs' ≡ logs → StopsLeave old new (IsLeft old.may_hold)
    → StopsLeave (seen_state (place old.sizes logs) old) (seen_state (place new.sizes logs') new) (IsLeft (seen_state (place old.sizes logs) old).may_hold)
exchanged_stops old new logs logs' sizes same stops = record { later = stops.later; since = since_again old.sizes new.sizes logs logs' old new sizes same stops }

shown_stops : {D : Type 0} (old new : BayState D) (masks masks' : List (Option Mask)) → masks' ≡ masks → StopsLeave old new (IsLeft old.may_hold)
    → StopsLeave (shown_state masks old) (shown_state masks' new) (IsLeft (shown_state masks old).may_hold)
shown_stops old new masks masks' same stops = record { later = stops.later; since = shown_since masks masks' old new same stops }

-- ---- of the bay

module _ {B : Type 0} (disks : B → BayState B) (bay : Honoured B) where
  pub told_of : IsTold (disks (inner_of bay)) → IsTold (disks_of disks bay)
  told_of told =
      let state = disks (inner_of bay) in
      let both = shown_told (seen_state (place state.sizes (logs_of bay)) state) bay.inner.masks.items (exchanged_told state (logs_of bay) told) in
      record { held = both.held; whole = both.whole; only_now = both.only_now; counts = both.counts; since = both.since }

  pub leads_of : (disks (inner_of bay)).leads_to (inner_of bay) → (disks_of disks bay).leads_to bay
  leads_of leads = ((((leads, refl), refl, refl), refl), refl)

  module _ (next : Honoured B) (leads : (disks_of disks bay).leads_to next) where
    pub leads_below : (disks (inner_of bay)).leads_to (inner_of next)
    leads_below = leads.0.0.0.0

    pub stops_of : StopsLeave (disks (inner_of bay)) (disks (inner_of next)) (IsLeft (disks (inner_of bay)).may_hold)
        → StopsLeave (disks_of disks bay) (disks_of disks next) (IsLeft (disks_of disks bay).may_hold)
    stops_of stops =
        let old = disks (inner_of bay) in
        let new = disks (inner_of next) in
        let both = shown_stops (seen_state (place old.sizes (logs_of bay)) old) (seen_state (place new.sizes (logs_of next)) new) bay.inner.masks.items next.inner.masks.items leads.1
        (exchanged_stops old new (logs_of bay) (logs_of next) leads.0.0.2 leads.0.0.1 stops) in
        record { later = both.later; since = both.since }

    pub stays_gone_of : (slot : ℕ) → ((disks (inner_of bay)).gone slot → (disks (inner_of next)).gone slot) → (disks_of disks bay).gone slot → (disks_of disks next).gone slot
    stays_gone_of slot stays gone =
        let first = bay.inner.inner.inner.inner.shut.items in
        let first' = next.inner.inner.inner.inner.shut.items in
        gone_then bay.inner.inner.shut.items next.inner.inner.shut.items (is_gone first (disks (inner_of bay)).gone) (is_gone first' (disks (inner_of next)).gone) slot leads.0.1
        (gone_then first first' (disks (inner_of bay)).gone (disks (inner_of next)).gone slot leads.0.0.0.1 stays) gone
