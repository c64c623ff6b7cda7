-- The front of a run that is written below, to one who sees the bay through an exchange.
use Rattle.std.proofs.Common.{◌≡◌, ℕ, ◌+◌, ◌<◌, ◌≤◌, List, [], ◌∷◌, length, take, ◌∙◌, ap, arith, length-take, subst}
use Rattle.ddf_badblocks.specs.declared.range.Range.{Range}
use Rattle.ddf_badblocks.specs.State.{place}
use Rattle.ddf_bay.specs.Sectors.{Image, Outcomes, put_run}
use Rattle.ddf_bay.specs.State.{BayState}
use Rattle.ddf_bay.specs.Moments.{StopsLeave, Adds, Mixes, IsAmong}
use Rattle.ddf_badblocks.specs.State.{seen_image, seen_state}
use Rattle.ddf_bay.proofs.Fronts.{front_adds, front_mixes, front_stops}
use Rattle.ddf_badblocks.proofs.Views.{adds_seen, mixes_seen, one_follows, put_seen, stops_seen}

module _ (at : ℕ → ℕ → ℕ) (twice : (s l : ℕ) → at s (at s l) ≡ l) (slot lba : ℕ) (from : List (List ℕ)) (count : ℕ) (most : count ≤ length from)
    (follow : (k : ℕ) → k < count → at slot (lba + k) ≡ at slot lba + k) (inner : ℕ) (is : inner ≡ at slot lba) where
  abbrev front : List (List ℕ)
  front = take count from

  follow_front : (k : ℕ) → k < length front → at slot (lba + k) ≡ at slot lba + k
  follow_front k lt =
      let long : length front ≡ count = simp length-take (omega (arith, most)) in
      follow k (omega (arith, lt, long))

  pub pieced_held : (old new : Image) → new ≡ put_run old slot inner front → seen_image at new ≡ put_run (seen_image at old) slot lba front
  pieced_held old new written =
      ap (seen_image at) (written ∙ ap (λ (l : ℕ). put_run old slot l front) is) ∙ put_seen at twice slot lba front follow_front old

  pub pieced_mixes : (old new : Image) → Mixes old new slot inner front → Mixes (seen_image at old) (seen_image at new) slot lba from
  pieced_mixes old new mixes = front_mixes lba from count most slot (seen_image at old) (seen_image at new) (mixes_seen at twice slot lba front follow_front old new (rw is at mixes))

  pub pieced_adds : (old new : Outcomes) → Adds old new slot inner front → Adds (λ s l v. old s (at s l) v) (λ s l v. new s (at s l) v) slot lba from
  pieced_adds old new adds = front_adds lba from count most slot (λ s l v. old s (at s l) v) (λ s l v. new s (at s l) v) (adds_seen at twice slot lba front follow_front old new (rw is at adds))

  pub pieced_stops : {D : Type 0} (old new : BayState D) → StopsLeave old new (IsAmong old.may_hold slot inner front)
      → StopsLeave (seen_state at old) (seen_state at new) (IsAmong (seen_state at old).may_hold slot lba from)
  pieced_stops old new stops = front_stops slot lba from count most (seen_state at old) (seen_state at new) (stops_seen at twice slot lba front follow_front old new (rw is at stops))

-- a sector by itself
module _ (at : ℕ → ℕ → ℕ) (twice : (s l : ℕ) → at s (at s l) ≡ l) (slot lba : ℕ) (sector : List ℕ) (inner : ℕ) (is : inner ≡ at slot lba) where
  follows : (k : ℕ) → k < length (sector ∷ []) → at slot (lba + k) ≡ at slot lba + k
  follows k lt = one_follows at slot lba k (omega (arith, lt))

  pub one_held : (old new : Image) → new ≡ put_run old slot inner (sector ∷ []) → seen_image at new ≡ put_run (seen_image at old) slot lba (sector ∷ [])
  one_held old new written =
      ap (seen_image at) (written ∙ ap (λ (l : ℕ). put_run old slot l (sector ∷ [])) is) ∙ put_seen at twice slot lba (sector ∷ []) follows old

  pub one_mixes : (old new : Image) → Mixes old new slot inner (sector ∷ []) → Mixes (seen_image at old) (seen_image at new) slot lba (sector ∷ [])
  one_mixes old new mixes = mixes_seen at twice slot lba (sector ∷ []) follows old new (rw is at mixes)

  pub one_adds : (old new : Outcomes) → Adds old new slot inner (sector ∷ []) → Adds (λ s l v. old s (at s l) v) (λ s l v. new s (at s l) v) slot lba (sector ∷ [])
  one_adds old new adds = adds_seen at twice slot lba (sector ∷ []) follows old new (rw is at adds)

  pub one_stops : {D : Type 0} (old new : BayState D) → StopsLeave old new (IsAmong old.may_hold slot inner (sector ∷ []))
      → StopsLeave (seen_state at old) (seen_state at new) (IsAmong (seen_state at old).may_hold slot lba (sector ∷ []))
  one_stops old new stops = stops_seen at twice slot lba (sector ∷ []) follows old new (rw is at stops)

-- what stops leave while a run is written, where the sizes are those of before
pub stops_again : {D : Type 0} (sizes sizes' : List ℕ) → sizes' ≡ sizes → (logs : List (List Range)) (slot lba : ℕ) (sectors : List (List ℕ)) (old new : BayState D)
    → StopsLeave (seen_state (place sizes' logs) old) (seen_state (place sizes' logs) new) (IsAmong (seen_state (place sizes' logs) old).may_hold slot lba sectors)
    → StopsLeave (seen_state (place sizes logs) old) (seen_state (place sizes logs) new) (IsAmong (seen_state (place sizes logs) old).may_hold slot lba sectors)
stops_again sizes sizes' same logs slot lba sectors old new stops =
    subst (λ (s : List ℕ). StopsLeave (seen_state (place s logs) old) (seen_state (place s logs) new) (IsAmong (seen_state (place s logs) old).may_hold slot lba sectors)) same stops
