-- Turning is its own inverse, and makes whole sectors of whole ones alone: the laws of a bay.
use Rattle.std.specs.Prelude.{◌≡◌, ◌⊎◌, ◌<◌, ◌≤◌, ℕ, zero, suc, true, false, ◌==◌, ◌&&◌, nat_lt, List, [], ◌∷◌, length, Option, Some, None, slice_index}
use Rattle.std.specs.List.{list_all}
use Rattle.std.specs.Str.{bytes_eq}
use Rattle.std.proofs.Common.{refl, ap, ◌∙◌, ⊎_elim, inl, inr, arith}
use Rattle.std.proofs.lemmas.Bool.{and_parts, and_from, cases_Bool, eqb-true, eq-eqb, ltb-true, lt-ltb, or_cases, or_left, or_right}
use Rattle.std.proofs.lemmas.Slice.Eq.{bytes_eq-Decides}
use Rattle.ddf_lemmas.proofs.Lists.{bytes_same}
use Rattle.ddf_bay.specs.Sectors.{Image, Outcomes, IsLeft, IsWhole}
use Rattle.ddf_bay.specs.State.{BayState}
use Rattle.ddf_bay.specs.Moments.{StopsLeave}
use Rattle.ddf_hidden_logs.specs.declared.mask.Mask.{Mask}
use Rattle.ddf_hidden_logs.specs.Masks.{is_either, is_place, is_sector, mask_of, other_of, turn, turned_by, turns, turns_by}
use Rattle.ddf_hidden_logs.specs.State.{shown_image}

-- ---- the two sectors of a mask

pub other_below : (mask : Mask) → other_of mask mask.below ≡ mask.shown
other_below mask = rw (bytes_same mask.below) refl

pub other_shown : (mask : Mask) → other_of mask mask.shown ≡ mask.below
other_shown mask = ⊎_elim
    (λ is. rw is ((bytes_eq-Decides mask.shown mask.below).0 is))
    (λ none. rw none refl)
    (cases_Bool (bytes_eq mask.shown mask.below))

-- what the test of a sector says
byte_of : (bytes : List ℕ) → list_all (λ byte. nat_lt byte 256) bytes ≡ true → (i : ℕ) → slice_index bytes i < 256
byte_of [] all i = omega arith
byte_of (byte ∷ bytes) all zero = ltb-true byte 256 ((and_parts (nat_lt byte 256) (list_all (λ b. nat_lt b 256) bytes) all).0)
byte_of (byte ∷ bytes) all (suc i) = byte_of bytes ((and_parts (nat_lt byte 256) (list_all (λ b. nat_lt b 256) bytes) all).1) i

pub whole_of : (bytes : List ℕ) → is_sector bytes ≡ true → IsWhole bytes
whole_of bytes is =
    let parts = and_parts (length bytes == 512) (list_all (λ byte. nat_lt byte 256) bytes) is in
    record { size = eqb-true (length bytes) 512 parts.0; are_bytes = byte_of bytes parts.1 }

every_byte : (bytes : List ℕ) → ((i : ℕ) → slice_index bytes i < 256) → list_all (λ byte. nat_lt byte 256) bytes ≡ true
every_byte [] are = refl
every_byte (byte ∷ bytes) are = and_from (nat_lt byte 256) (list_all (λ b. nat_lt b 256) bytes) (lt-ltb byte 256 (are 0)) (every_byte bytes (λ i. are (suc i)))

pub sector_of : (bytes : List ℕ) → length bytes ≡ 512 → ((i : ℕ) → slice_index bytes i < 256) → is_sector bytes ≡ true
sector_of bytes size are = and_from (length bytes == 512) (list_all (λ byte. nat_lt byte 256) bytes) (eq-eqb (length bytes) 512 size) (every_byte bytes are)

-- ---- sectors that are turned

module _ (mask : Mask) (l : ℕ) where
  record IsTurned (bytes : List ℕ) : Type 0 where
    place : is_place mask l ≡ true
    either : is_either mask bytes ≡ true
    first : is_sector mask.below ≡ true
    second : is_sector mask.shown ≡ true

  parts_of : (bytes : List ℕ) → turns_by mask l bytes ≡ true → IsTurned bytes
  unfolding turns_by
  parts_of bytes is =
      let a = and_parts (is_place mask l && is_either mask bytes) (is_sector mask.below && is_sector mask.shown) is in
      let b = and_parts (is_place mask l) (is_either mask bytes) a.0 in
      let c = and_parts (is_sector mask.below) (is_sector mask.shown) a.1 in
      record { place = b.0; either = b.1; first = c.0; second = c.1 }

  made_of : (bytes : List ℕ) → IsTurned bytes → turns_by mask l bytes ≡ true
  unfolding turns_by
  made_of bytes is = and_from _ _ (and_from _ _ is.place is.either) (and_from _ _ is.first is.second)

  pub when_turned : (bytes : List ℕ) → turns_by mask l bytes ≡ true → turned_by mask l bytes ≡ other_of mask bytes
  when_turned bytes is = rw is refl

  pub when_not : (bytes : List ℕ) → turns_by mask l bytes ≡ false → turned_by mask l bytes ≡ bytes
  when_not bytes none = rw none refl

  module _ (place : is_place mask l ≡ true) (first : is_sector mask.below ≡ true) (second : is_sector mask.shown ≡ true) where
    -- what stands there is seen as what is shown, and the other way round
    pub below_turned : turned_by mask l mask.below ≡ mask.shown
    below_turned =
        when_turned mask.below (made_of mask.below (record { place = place; either = or_left (bytes_eq mask.below mask.below) (bytes_eq mask.below mask.shown) (bytes_same mask.below); first = first; second = second }))
        ∙ other_below mask

    pub shown_turned : turned_by mask l mask.shown ≡ mask.below
    shown_turned =
        when_turned mask.shown (made_of mask.shown (record { place = place; either = or_right (bytes_eq mask.shown mask.below) (bytes_eq mask.shown mask.shown) (bytes_same mask.shown); first = first; second = second }))
        ∙ other_shown mask

  module _ (bytes : List ℕ) (is : turns_by mask l bytes ≡ true) where
    parts : IsTurned bytes
    parts = parts_of bytes is

    either_is : (bytes ≡ mask.below) ⊎ (bytes ≡ mask.shown)
    either_is = ⊎_elim
        (λ one. inl ((bytes_eq-Decides bytes mask.below).0 one))
        (λ other. inr ((bytes_eq-Decides bytes mask.shown).0 other))
        (or_cases (bytes_eq bytes mask.below) (bytes_eq bytes mask.shown) parts.either)

    turned_twice : turned_by mask l (turned_by mask l bytes) ≡ bytes
    turned_twice = ⊎_elim
        (λ below. rw below (ap (turned_by mask l) (below_turned parts.place parts.first parts.second) ∙ shown_turned parts.place parts.first parts.second))
        (λ shown. rw shown (ap (turned_by mask l) (shown_turned parts.place parts.first parts.second) ∙ below_turned parts.place parts.first parts.second))
        either_is

    turned_whole : IsWhole bytes
    turned_whole = ⊎_elim
        (λ below. rw below (whole_of mask.below parts.first))
        (λ shown. rw shown (whole_of mask.shown parts.second))
        either_is

  pub by_twice : (bytes : List ℕ) → turned_by mask l (turned_by mask l bytes) ≡ bytes
  by_twice bytes = ⊎_elim
      (λ is. turned_twice bytes is)
      (λ none. ap (turned_by mask l) (when_not bytes none) ∙ when_not bytes none)
      (cases_Bool (turns_by mask l bytes))

  by_whole : (bytes : List ℕ) → IsWhole (turned_by mask l bytes) → IsWhole bytes
  by_whole bytes whole = ⊎_elim
      (λ is. turned_whole bytes is)
      (λ none. rw (when_not bytes none) at whole)
      (cases_Bool (turns_by mask l bytes))

-- ---- on a slot

-- turning is its own inverse
pub turn_twice : (mask : Option Mask) (l : ℕ) (bytes : List ℕ) → turn mask l (turn mask l bytes) ≡ bytes
turn_twice None l bytes = refl
turn_twice (Some mask) l bytes = by_twice mask l bytes

-- a sector that isn't one of those that are turned
pub turn_plain : (mask : Option Mask) (l : ℕ) (bytes : List ℕ) → turns mask l bytes ≡ false → turn mask l bytes ≡ bytes
turn_plain None l bytes none = refl
turn_plain (Some mask) l bytes none = when_not mask l bytes none

-- a sector that a stop may leave is whole
pub shown_whole : (mask : Option Mask) (l : ℕ) (bytes : List ℕ) → IsWhole (turn mask l bytes) → IsWhole bytes
shown_whole None l bytes whole = whole
shown_whole (Some mask) l bytes whole = by_whole mask l bytes whole

-- the bay as it reads is one of its images as they are seen
pub shown_left : (masks : List (Option Mask)) (may : Outcomes) (held : Image) → IsLeft may held
    → (s l : ℕ) → may s l (turn (mask_of masks s) l (turn (mask_of masks s) l (held s l)))
shown_left masks may held left s l = rw (turn_twice (mask_of masks s) l (held s l)) (left s l)

-- What stops leave from one moment to another they leave as it is seen.
pub shown_since : {D : Type 0} (masks other : List (Option Mask)) (a b : BayState D) → other ≡ masks → StopsLeave a b (IsLeft a.may_hold)
    → (t : ℕ) (image : Image) → t ≤ a.moment → b.left_since t (shown_image other image)
    → a.left_since t (shown_image masks image) ⊎ ((s l : ℕ) → a.may_hold s l (turn (mask_of masks s) l (image s l)))
shown_since masks other a b same stops t image le left = stops.since t (shown_image masks image) le (rw same at left)
