-- Which change of a group a wish asks for, or why there is none, decided by its words and by which disks are there. What the change itself is
-- refused for comes behind.
use Rattle.std.specs.Prelude.{◌≡◌, ℕ, List, [], ◌∷◌, Option, Some, None, Result, Ok, Err}
use Rattle.ddf_bytes.specs.declared.stamp.Stamp.{Stamp}
use Rattle.ddf_config.specs.declared.member.SpareUse.{SpareUse}
use Rattle.ddf_config.specs.declared.array.Array.{Array}
use Rattle.ddf_config.specs.declared.seat.Seat.{Seat}
use Rattle.ddf_config.specs.declared.refusal.Refusal.{Refusal}
use Rattle.ddf_config.specs.declared.refusal.Refusal.TheVariants.{Held, NoArray}
use Rattle.ddf_config.specs.Configuration.{Configuration}
use Rattle.ddf_config.specs.Refusals.{first_refusal, refuse_if}
use Rattle.ddf_plan.specs.declared.change.Change.{Change}
use Rattle.ddf_plan.specs.declared.change.Change.TheVariants as changes
use Rattle.ddf_plan.specs.declared.fault.PlanFault.{PlanFault}
use Rattle.ddf_plan.specs.declared.fault.PlanFault.TheVariants.{Refused, Memory}
use Rattle.ddf_words.specs.declared.command.Creation.{Creation}
use Rattle.ddf_words.specs.declared.command.Wish.{Wish}
use Rattle.ddf_words.specs.declared.command.Wish.TheVariants.{Create, Delete, Accept, Spare, Fail}
use Rattle.ddf_request.specs.Named.{named_array, named_guid}
use Rattle.ddf_request.specs.NewArray.{IsCreation, new_array, new_array_guid, slots_of, unfit, unfit_refusal}
use Rattle.ddf_request.specs.Slots.{reference_on, slot_refusals}
use Rattle.ddf_request.specs.Spare.{use_of}
use Rattle.ddf_request.specs.Usable.{is_held, useless}
use Rattle.ddf_repair.specs.Accept.{accepted}

-- The answer is this meaning, or memory ran out.
abbrev pub IsRequested : {T : Type 0} → Result T Refusal → Result T PlanFault → Type 0
IsRequested meaning (Ok change) = meaning ≡ Ok change
IsRequested meaning (Err (Refused refusal)) = meaning ≡ Err refusal
IsRequested meaning (Err Memory) = Unit {0}

-- what words keep within
abbrev pub IsWish : Wish → Type 0
IsWish (Create creation) = IsCreation creation
IsWish other = Unit {0}

-- the slots that a wish names, in the order of its words
abbrev pub slots_named : Wish → List ℕ
slots_named (Create creation) = slots_of creation.elements
slots_named (Spare slot word) = slot ∷ []
slots_named (Fail slot) = slot ∷ []
slots_named other = []

-- ---- the change, where these slots have current members

-- Nothing refuses the array beside the plan, or it is refused.
abbrev pub if_fits : Option Refusal → Configuration → List Seat → Change → Result Change Refusal
if_fits None config seats change = Ok change
if_fits (Some fallback) config seats change = Err (unfit_refusal fallback config seats change)

-- `linux` are the disks that Linux reads.
abbrev pub create_change : Configuration → List Seat → (linux : List ℕ) → Stamp → Creation → Result Change Refusal
create_change config seats linux stamp creation =
    if_fits (unfit linux seats creation) config seats (changes.Create (new_array_guid config stamp) (new_array config seats creation))

-- The array with this name, or there is none.
abbrev pub delete_change : Configuration → (word : List ℕ) → Result Change Refusal
delete_change config word = elim (named_guid config.arrays word) [ None ↦ Err NoArray | Some guid ↦ Ok (changes.Delete guid) ]

abbrev pub spare_change : (reference : ℕ) → Result SpareUse Refusal → Result Change Refusal
spare_change reference (Ok use_as) = Ok (changes.Spare reference use_as)
spare_change reference (Err refusal) = Err refusal

-- An array is accepted unless it can't be used at all, or is held.
abbrev pub accept_refusal : Configuration → List Seat → (guid : List ℕ) → Array → Option Refusal
accept_refusal config seats guid array = first_refusal (useless config seats guid array ∷ refuse_if (is_held array) Held ∷ [])

-- Its mark is cleared. One that isn't marked stays as it is.
abbrev pub accept_array : Configuration → List Seat → (List ℕ × Array) → Result (Option Change) Refusal
accept_array config seats entry = elim (accept_refusal config seats entry.0 entry.1) [ None ↦ Ok (accepted config entry.0) | Some refusal ↦ Err refusal ]

-- The array with this name, or there is none.
abbrev pub accept_change : Configuration → List Seat → (word : List ℕ) → Result (Option Change) Refusal
accept_change config seats word = elim (named_array config.arrays word) [ None ↦ Err NoArray | Some entry ↦ accept_array config seats entry ]

-- there is a change
abbrev pub one : Result Change Refusal → Result (Option Change) Refusal
one (Ok change) = Ok (Some change)
one (Err refusal) = Err refusal

-- a row a wish
abbrev pub change_for : Configuration → List Seat → (linux : List ℕ) → Stamp → Wish → Result (Option Change) Refusal
change_for config seats linux stamp (Create creation) = one (create_change config seats linux stamp creation)
change_for config seats linux stamp (Delete name) = one (delete_change config name)
change_for config seats linux stamp (Accept name) = accept_change config seats name
change_for config seats linux stamp (Spare slot word) = one (spare_change (reference_on seats slot) (use_of config word))
change_for config seats linux stamp (Fail slot) = Ok (Some (changes.Fail (reference_on seats slot)))

-- ---- what is asked for

-- a change, unless something refuses it before
abbrev pub unless : Option Refusal → Result (Option Change) Refusal → Result (Option Change) Refusal
unless None change = change
unless (Some refusal) change = Err refusal

-- In order: each slot is there; the disk of each is a current member; then the change, where one is asked for.
abbrev pub request_of : (slots : ℕ) → Configuration → List Seat → (linux : List ℕ) → Stamp → Wish → Result (Option Change) Refusal
request_of slots config seats linux stamp wish = unless (first_refusal (slot_refusals slots seats (slots_named wish))) (change_for config seats linux stamp wish)
