-- What a command came to that ended with status 0.
use Rattle.std.proofs.Common.{◌≡◌, ◌⊎◌, ℕ, ◌<◌, ◌==◌, ◌&&◌, Bool, true, false, not, List, Option, Some, None, Result, Ok, Err, if◌then◌else◌, refl, sym, subst, inl, inr, arith}
use Rattle.ddf_bytes.specs.declared.stamp.Stamp.{Stamp}
use Rattle.ddf_config.specs.declared.member.SpareUse.{SpareUse}
use Rattle.ddf_config.specs.declared.refusal.Refusal.{Refusal}
use Rattle.ddf_config.specs.declared.seat.Seat.{Seat}
use Rattle.ddf_config.specs.Configuration.{Configuration}
use Rattle.ddf_config.specs.Refusals.{first_refusal}
use Rattle.ddf_plan.specs.declared.change.Change.{Change}
use Rattle.ddf_plan.specs.declared.change.Change.TheVariants as changes
use Rattle.ddf_plan.specs.Lose.{is_among}
use Rattle.ddf_plan.specs.Members.{lost_by}
use Rattle.ddf_rewrite.proofs.Lists.{some_same}
use Rattle.ddf_words.specs.declared.command.Creation.{Creation}
use Rattle.ddf_words.specs.declared.command.SpareWord.{SpareWord}
use Rattle.ddf_words.specs.declared.command.Wish.TheVariants as wishes
use Rattle.ddf_request.specs.NewArray.{new_array, new_array_guid, unfit}
use Rattle.ddf_request.specs.Request.{change_for, create_change, if_fits, request_of, slots_named, spare_change}
use Rattle.ddf_request.specs.Request.{one as as_asked}
use Rattle.ddf_request.specs.Slots.{reference_on, slot_refusals}
use Rattle.ddf_request.specs.Spare.{use_of}
use Rattle.ddf_answer.specs.declared.failure.Failure.{Failure}
use Rattle.ddf_answer.specs.Call.{Answer}
use Rattle.ddf_answer.proofs.Common.{no_failure}
use Rattle.ddf_group_commands.specs.Change.{IsToldChange}
use Rattle.ddf_group_commands.proofs.Requested.{change_of}
use Rattle.ddf_exercise.specs.Taking.{counted}

-- ---- statuses

pub closes_other : (status number : ℕ) → 0 < number → (status ≡ number) ⊎ (status ≡ 6) → status ≡ 0 → ⊥
closes_other status number some (inl is) zero = omega (arith, some, is, zero)
closes_other status number some (inr is) zero = omega (arith, is, zero)

pub change_done : (outcome : Result ℕ Failure) (answer : Answer) → IsToldChange outcome answer → answer.status ≡ 0 → (sequence : ℕ) × (outcome ≡ Ok sequence)
change_done (Ok sequence) answer told zero = (sequence, refl)
change_done (Err failure) answer told zero = absurd (no_failure failure answer told zero)

-- A call that counts as done was done.
pub counted_done : (status : ℕ) (as_it_should : Bool) → 0 ≡ counted status as_it_should → status ≡ 0
counted_done status as_it_should is = by (status == 6) (status == 0 && not as_it_should) is
  where
    by : (six three : Bool) → 0 ≡ (if six then 5 else (if three then 3 else status)) → status ≡ 0
    by true three e = absurd (omega (arith, e))
    by false true e = absurd (omega (arith, e))
    by false false e = sym e

-- ---- what words for a change ask for

one_asked : (made : Result Change Refusal) (asked : Option Change) → as_asked made ≡ Ok asked → (change : Change) × (made ≡ Ok change) × (asked ≡ Some change)
one_asked (Ok change) asked is = (change, refl, let same : Some change ≡ asked = cc in sym same)
one_asked (Err refusal) asked is = absurd cc

module _ (config : Configuration) (seats : List Seat) (linux : List ℕ) (stamp : Stamp) (slots reference : ℕ) where
  -- a change that fails no disk of this reference
  abbrev Spares : Change → Type 0
  Spares change = is_among (lost_by change) reference ≡ false

  -- A creation fails none,
  pub creation_spares : (creation : Creation) (asked : Option Change) → request_of slots config seats linux stamp (wishes.Create creation) ≡ Ok asked → (change : Change) → asked ≡ Some change
      → is_among (lost_by change) reference ≡ false
  creation_spares creation asked is change named =
      let made = change_of (first_refusal (slot_refusals slots seats (slots_named (wishes.Create creation)))) (change_for config seats linux stamp (wishes.Create creation)) asked is in
      let from = one_asked (create_change config seats linux stamp creation) asked made in
      subst Spares (some_same from.2 named) (by (unfit linux seats creation) from.0 from.1)
    where
      by : (refused : Option Refusal) (only : Change) → if_fits refused config seats (changes.Create (new_array_guid config stamp) (new_array config seats creation)) ≡ Ok only → Spares only
      by (Some refusal) only e = absurd cc
      by None only e = let same : changes.Create (new_array_guid config stamp) (new_array config seats creation) ≡ only = cc in subst Spares same refl

  -- and so does a spare.
  pub spare_spares : (slot : ℕ) (word : SpareWord) (asked : Option Change) → request_of slots config seats linux stamp (wishes.Spare slot word) ≡ Ok asked → (change : Change) → asked ≡ Some change
      → is_among (lost_by change) reference ≡ false
  spare_spares slot word asked is change named =
      let made = change_of (first_refusal (slot_refusals slots seats (slots_named (wishes.Spare slot word)))) (change_for config seats linux stamp (wishes.Spare slot word)) asked is in
      let from = one_asked (spare_change (reference_on seats slot) (use_of config word)) asked made in
      subst Spares (some_same from.2 named) (by (use_of config word) from.0 from.1)
    where
      by : (found : Result SpareUse Refusal) (only : Change) → spare_change (reference_on seats slot) found ≡ Ok only → Spares only
      by (Ok use_as) only e = let same : changes.Spare (reference_on seats slot) use_as ≡ only = cc in subst Spares same refl
      by (Err refusal) only e = absurd cc
