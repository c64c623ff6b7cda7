-- The members with a row's data: which one stands at which place.
use Rattle.std.proofs.Common.{◌≡◌, ℕ, ◌+◌, ◌-◌, ◌<◌, ◌≤◌, ◌++◌, ⊎_elim, Some, slice_get, length, inl, inr, refl, ◌∙◌, arith, length-append}
use Rattle.std.proofs.lemmas.List.FromFn.{length-range_with_len}
use Rattle.std.proofs.lemmas.Bool.{cases_lt}
use Rattle.ddf_primary.specs.declared.parity.ParityLayout.{ParityLayout}
use Rattle.ddf_primary.specs.declared.parity.ParityLayout.TheVariants.{Raid4First, Raid4Last, Raid5ZeroRestart, Raid5LastRestart, Raid5LastContinuation}
use Rattle.ddf_primary.specs.Cells.{parity_on, data_around, before_parity, after_parity}
use Rattle.ddf_primary.proofs.Lists.{in_first_range, in_second_range, in_ranges, ranges_apart}

pub rising : (parity : ParityLayout) (members on : ℕ) → (parity ≡ Raid5LastContinuation → ⊥) → data_around parity members on ≡ before_parity on ++ after_parity members on
rising Raid4First members on other = refl
rising Raid4Last members on other = refl
rising Raid5ZeroRestart members on other = refl
rising Raid5LastRestart members on other = refl
rising Raid5LastContinuation members on other = absurd (other refl)

-- data restarts: members below the parity stand at their own place, the others one place lower
pub restart_low : (parity : ParityLayout) (members on place : ℕ) → (parity ≡ Raid5LastContinuation → ⊥) → place < on → slice_get (data_around parity members on) place ≡ Some place
restart_low parity members on place other below =
    rw (rising parity members on other) (in_first_range 0 on place place (after_parity members on) below (omega arith))

pub restart_high : (parity : ParityLayout) (members on place : ℕ) → (parity ≡ Raid5LastContinuation → ⊥) → on ≤ place → place + 1 < members → slice_get (data_around parity members on) place ≡ Some (place + 1)
restart_high parity members on place other past below =
    rw (rising parity members on other) (in_second_range 0 on (on + 1) (members - 1 - on) place (place + 1) past (omega arith) (omega arith))

-- data continues: first the members past the parity, and then those below it
pub continued_low : (members on place : ℕ) → place < members - 1 - on → slice_get (data_around Raid5LastContinuation members on) place ≡ Some (on + 1 + place)
continued_low members on place below =
    in_first_range (on + 1) (members - 1 - on) place (on + 1 + place) (before_parity on) below refl

pub continued_high : (members on place member : ℕ) → on < members → member < on → place ≡ members - 1 - on + member → slice_get (data_around Raid5LastContinuation members on) place ≡ Some member
continued_high members on place member within below at =
    in_second_range (on + 1) (members - 1 - on) 0 on place member (omega arith) (omega arith) (omega arith)

rising_length : (members on : ℕ) → on < members → length (before_parity on ++ after_parity members on) ≡ members - 1
rising_length members on within =
    length-append (before_parity on) (after_parity members on) ∙ omega (arith, length-range_with_len 0 on, length-range_with_len (on + 1) (members - 1 - on))

pub length-data_around : (parity : ParityLayout) (members on : ℕ) → on < members → length (data_around parity members on) ≡ members - 1
length-data_around Raid4First members on within = rising_length members on within
length-data_around Raid4Last members on within = rising_length members on within
length-data_around Raid5ZeroRestart members on within = rising_length members on within
length-data_around Raid5LastRestart members on within = rising_length members on within
length-data_around Raid5LastContinuation members on within =
    length-append (after_parity members on) (before_parity on) ∙ omega (arith, length-range_with_len 0 on, length-range_with_len (on + 1) (members - 1 - on))

-- one member stands at one place, the parity's at none
pub record PlaceAround (members on place member : ℕ) : Type 0 where
  pub not_parity : member ≡ on → ⊥
  pub within : member < members
  pub inside : place + 1 < members

rising_around : (members on place member : ℕ) → on < members → slice_get (before_parity on ++ after_parity members on) place ≡ Some member → PlaceAround members on place member
rising_around members on place member within at =
    let places = in_ranges 0 on (on + 1) (members - 1 - on) place member at in
    record {
      not_parity = λ same. grind (arith, places);
      within = grind (arith, places);
      inside = grind (arith, places);
    }

pub around : (parity : ParityLayout) (members on place member : ℕ) → on < members → slice_get (data_around parity members on) place ≡ Some member → PlaceAround members on place member
around Raid4First members on place member within at = rising_around members on place member within at
around Raid4Last members on place member within at = rising_around members on place member within at
around Raid5ZeroRestart members on place member within at = rising_around members on place member within at
around Raid5LastRestart members on place member within at = rising_around members on place member within at
around Raid5LastContinuation members on place member within at =
    let places = in_ranges (on + 1) (members - 1 - on) 0 on place member at in
    record {
      not_parity = λ same. grind (arith, places);
      within = grind (arith, places);
      inside = grind (arith, places);
    }

pub around_apart : (parity : ParityLayout) (members on i j member : ℕ) → slice_get (data_around parity members on) i ≡ Some member → slice_get (data_around parity members on) j ≡ Some member → i ≡ j
around_apart Raid4First members on i j member at_i at_j = ranges_apart 0 on (on + 1) (members - 1 - on) i j member (inl (omega arith)) at_i at_j
around_apart Raid4Last members on i j member at_i at_j = ranges_apart 0 on (on + 1) (members - 1 - on) i j member (inl (omega arith)) at_i at_j
around_apart Raid5ZeroRestart members on i j member at_i at_j = ranges_apart 0 on (on + 1) (members - 1 - on) i j member (inl (omega arith)) at_i at_j
around_apart Raid5LastRestart members on i j member at_i at_j = ranges_apart 0 on (on + 1) (members - 1 - on) i j member (inl (omega arith)) at_i at_j
around_apart Raid5LastContinuation members on i j member at_i at_j = ranges_apart (on + 1) (members - 1 - on) 0 on i j member (inr (omega arith)) at_i at_j

-- every member but the one with the parity has a place
pub record Placed (parity : ParityLayout) (members on member : ℕ) : Type 0 where
  pub place : ℕ
  pub at : slice_get (data_around parity members on) place ≡ Some member

rising_placed : (parity : ParityLayout) (members on member : ℕ) → (parity ≡ Raid5LastContinuation → ⊥) → member < members → (member ≡ on → ⊥) → Placed parity members on member
rising_placed parity members on member restarts known other =
    ⊎_elim (λ below. record { place = member; at = restart_low parity members on member restarts below })
    (λ past.
    let behind : member - 1 + 1 ≡ member = omega arith in
    record { place = member - 1; at = rw behind at (restart_high parity members on (member - 1) restarts (omega arith) (omega arith)) })
    (cases_lt member on)

continued_placed : (members on member : ℕ) → on < members → member < members → (member ≡ on → ⊥) → Placed Raid5LastContinuation members on member
continued_placed members on member within known other =
    ⊎_elim (λ below. record { place = members - 1 - on + member; at = continued_high members on (members - 1 - on + member) member within below refl })
    (λ past.
    let behind : on + 1 + (member - on - 1) ≡ member = omega arith in
    record { place = member - on - 1; at = rw behind at (continued_low members on (member - on - 1) (omega arith)) })
    (cases_lt member on)

pub around_placed : (parity : ParityLayout) (members on member : ℕ) → on < members → member < members → (member ≡ on → ⊥) → Placed parity members on member
around_placed Raid4First members on member within known other = rising_placed Raid4First members on member (λ e. cc) known other
around_placed Raid4Last members on member within known other = rising_placed Raid4Last members on member (λ e. cc) known other
around_placed Raid5ZeroRestart members on member within known other = rising_placed Raid5ZeroRestart members on member (λ e. cc) known other
around_placed Raid5LastRestart members on member within known other = rising_placed Raid5LastRestart members on member (λ e. cc) known other
around_placed Raid5LastContinuation members on member within known other = continued_placed members on member within known other

-- the parity is on one of the members
pub parity_on_within : (parity : ParityLayout) (members row : ℕ) → 0 < members → parity_on parity members row < members
parity_on_within Raid4First members row some = omega arith
parity_on_within Raid4Last members row some = omega arith
parity_on_within Raid5ZeroRestart members row some = omega arith
parity_on_within Raid5LastRestart members row some = omega arith
parity_on_within Raid5LastContinuation members row some = omega arith
