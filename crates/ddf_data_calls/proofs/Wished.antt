-- What the wishes of the program's words ask of a group's data.
use Rattle.std.proofs.Common.{◌≡◌, ◌∙◌, ℕ, Bool, true, false, List, Option, Some, None, Result, Ok, Err, refl, ap, sym, subst, if◌then◌else◌}
use Rattle.std.specs.Prelude.{option_map}
use Rattle.std.specs.Map.{lookup}
use Rattle.std.specs.Option.{option_and_then}
use Rattle.ddf_bytes.specs.declared.stamp.Stamp.{Stamp}
use Rattle.ddf_bay.specs.Sectors.{Image}
use Rattle.ddf_config.specs.declared.array.Array.{Array}
use Rattle.ddf_config.specs.declared.member.SpareUse.{SpareUse}
use Rattle.ddf_config.specs.declared.refusal.Refusal.{Refusal}
use Rattle.ddf_config.specs.declared.refusal.Refusal.TheVariants.{NoArray}
use Rattle.ddf_config.specs.declared.seat.Seat.{Seat}
use Rattle.ddf_config.specs.Configuration.{Configuration}
use Rattle.ddf_config.specs.Members.{same_guid}
use Rattle.ddf_config.specs.Refusals.{first_refusal}
use Rattle.ddf_config.specs.States.{is_marked}
use Rattle.ddf_plan.specs.declared.change.Change.{Change}
use Rattle.ddf_plan.specs.declared.change.Change.TheVariants as changes
use Rattle.ddf_rewrite.proofs.Lists.{some_same}
use Rattle.ddf_data_group.specs.Grouped.{MayChange, Promises}
use Rattle.ddf_repair.specs.Accept.{accepted}
use Rattle.ddf_words.specs.declared.command.Creation.{Creation}
use Rattle.ddf_words.specs.declared.command.Wish.{Wish}
use Rattle.ddf_words.specs.declared.command.Wish.TheVariants.{Accept, Create, Delete, Fail, Spare}
use Rattle.ddf_request.specs.Named.{named_array, named_guid, with_array}
use Rattle.ddf_request.specs.NewArray.{new_array, new_array_guid, unfit}
use Rattle.ddf_request.specs.Request.{accept_array, accept_refusal, change_for, create_change, delete_change, if_fits, one, request_of, slots_named, spare_change, unless}
use Rattle.ddf_request.specs.Slots.{reference_on, slot_refusals}
use Rattle.ddf_request.specs.Spare.{use_of}
use Rattle.ddf_data_calls.specs.Calls.{MayAsk, MayWish}

module _ (config : Configuration) (seats : List Seat) (linux : List ℕ) (stamp : Stamp) (image : Image) (promises : Promises) where
  -- ---- a change that is asked for at any rate

  one_is : (made : Result Change Refusal) (asked : Option Change) → one made ≡ Ok asked → (change : Change) × (made ≡ Ok change) × (asked ≡ Some change)
  one_is (Ok change) asked is = (change, refl, let same : Some change ≡ asked = cc in sym same)
  one_is (Err refusal) asked is = absurd cc

  by_create : (creation : Creation) (asked : Option Change) → change_for config seats linux stamp (Create creation) ≡ Ok asked → promises (new_array_guid config stamp) ≡ None → MayAsk config seats image promises asked
  by_create creation asked is none =
      let from = one_is (create_change config seats linux stamp creation) asked is in
      subst (MayAsk config seats image promises) (sym from.2) (by (unfit linux seats creation) from.0 from.1)
    where
      by : (last : Option Refusal) (change : Change) → if_fits last config seats (changes.Create (new_array_guid config stamp) (new_array config seats creation)) ≡ Ok change → MayChange config seats image promises change
      by (Some last) change is = absurd cc
      by None change is =
          let same : changes.Create (new_array_guid config stamp) (new_array config seats creation) ≡ change = cc in
          subst (MayChange config seats image promises) same none

  by_delete : (name : List ℕ) (asked : Option Change) → change_for config seats linux stamp (Delete name) ≡ Ok asked → MayAsk config seats image promises asked
  by_delete name asked is =
      let from = one_is (delete_change config name) asked is in
      subst (MayAsk config seats image promises) (sym from.2) (by (named_guid config.arrays name) from.0 from.1)
    where
      by : (o : Option (List ℕ)) (change : Change) → ◌≡◌ {A = Result Change Refusal} (elim o [ None ↦ Err NoArray | Some guid ↦ Ok (changes.Delete guid) ]) (Ok change)
          → MayChange config seats image promises change
      by None change is = absurd cc
      by (Some guid) change is = let same : changes.Delete guid ≡ change = cc in subst (MayChange config seats image promises) same tt

  by_spare : (reference : ℕ) (used : Result SpareUse Refusal) (asked : Option Change) → one (spare_change reference used) ≡ Ok asked → MayAsk config seats image promises asked
  by_spare reference (Ok use_as) asked is = let same : Some (changes.Spare reference use_as) ≡ asked = cc in subst (MayAsk config seats image promises) same tt
  by_spare reference (Err refusal) asked is = absurd cc

  by_fail : (slot : ℕ) (asked : Option Change) → change_for config seats linux stamp (Fail slot) ≡ Ok asked → MayAsk config seats image promises asked
  by_fail slot asked is = let same : Some (changes.Fail (reference_on seats slot)) ≡ asked = cc in subst (MayAsk config seats image promises) same tt

  -- ---- an array that is accepted

  -- the array that a word names is one that is found by its GUID
  looked_up : (word guid : List ℕ) (array : Array) → named_array config.arrays word ≡ Some (guid, array) → lookup (same_guid guid) config.arrays ≡ Some array
  looked_up word guid array is = by_guid (named_guid config.arrays word) is
    where
      by_found : (key : List ℕ) (o : Option Array) → lookup (same_guid key) config.arrays ≡ o → ◌≡◌ {A = Option (List ℕ × Array)} (option_map (λ (one : Array). (key, one)) o) (Some (guid, array))
          → lookup (same_guid guid) config.arrays ≡ Some array
      by_found key None at is = absurd cc
      by_found key (Some other) at is =
          let both : ◌≡◌ {A = List ℕ × Array} (key, other) (guid, array) = sym (some_same is refl) in
          ap (λ (pair : List ℕ × Array). lookup (same_guid pair.0) config.arrays) (sym both) ∙ at ∙ ap (λ (pair : List ℕ × Array). Some pair.1) both

      by_guid : (o : Option (List ℕ)) → option_and_then (with_array config.arrays) o ≡ Some (guid, array) → lookup (same_guid guid) config.arrays ≡ Some array
      by_guid None is = absurd cc
      by_guid (Some key) is = by_found key (lookup (same_guid key) config.arrays) refl is

  by_accept : (name : List ℕ) (asked : Option Change) → change_for config seats linux stamp (Accept name) ≡ Ok asked → MayWish config seats stamp image promises (Accept name)
      → MayAsk config seats image promises asked
  by_accept name asked is may = by_entry (named_array config.arrays name) refl is
    where
      by_array : (guid : List ℕ) (entry : Array) → named_array config.arrays name ≡ Some (guid, entry) → (o : Option Array) → lookup (same_guid guid) config.arrays ≡ o
          → ◌≡◌ {A = Result (Option Change) Refusal} (Ok (elim o [ None ↦ None | Some array ↦ if is_marked array then Some (changes.Unmark guid array.init) else None ])) (Ok asked)
          → MayAsk config seats image promises asked
      by_array guid entry named None at is = let same : ◌≡◌ {A = Option Change} None asked = cc in subst (MayAsk config seats image promises) same tt
      by_array guid entry named (Some array) at is = by_mark (is_marked array) is
        where
          may_be : MayChange config seats image promises (changes.Unmark guid array.init)
          may_be other allowed own promised found same volume over =
              let key : lookup (same_guid other) config.arrays ≡ lookup (same_guid guid) config.arrays = ap (λ (k : List ℕ). lookup (same_guid k) config.arrays) same in
              let own_is : own ≡ entry = some_same found (key ∙ looked_up name guid entry named) in
              may guid own allowed volume (named ∙ ap (λ (one : Array). Some (guid, one)) (sym own_is)) (ap promises (sym same) ∙ promised) over

          by_mark : (marked : Bool) → ◌≡◌ {A = Result (Option Change) Refusal} (Ok (if marked then Some (changes.Unmark guid array.init) else None)) (Ok asked) → MayAsk config seats image promises asked
          by_mark true is = let same : Some (changes.Unmark guid array.init) ≡ asked = cc in subst (MayAsk config seats image promises) same may_be
          by_mark false is = let same : ◌≡◌ {A = Option Change} None asked = cc in subst (MayAsk config seats image promises) same tt

      by_refusal : (entry : List ℕ × Array) → named_array config.arrays name ≡ Some entry → (o : Option Refusal)
          → ◌≡◌ {A = Result (Option Change) Refusal} (elim o [ None ↦ Ok (accepted config entry.0) | Some refusal ↦ Err refusal ]) (Ok asked) → MayAsk config seats image promises asked
      by_refusal entry named None is = by_array entry.0 entry.1 named (lookup (same_guid entry.0) config.arrays) refl is
      by_refusal entry named (Some refusal) is = absurd cc

      by_entry : (o : Option (List ℕ × Array)) → named_array config.arrays name ≡ o
          → ◌≡◌ {A = Result (Option Change) Refusal} (elim o [ None ↦ Err NoArray | Some entry ↦ accept_array config seats entry ]) (Ok asked) → MayAsk config seats image promises asked
      by_entry None named is = absurd cc
      by_entry (Some entry) named is = by_refusal entry named (accept_refusal config seats entry.0 entry.1) is

  -- ---- each wish

  by_change : (wish : Wish) (asked : Option Change) → change_for config seats linux stamp wish ≡ Ok asked → MayWish config seats stamp image promises wish → MayAsk config seats image promises asked
  by_change (Create creation) asked is may = by_create creation asked is may
  by_change (Delete name) asked is may = by_delete name asked is
  by_change (Accept name) asked is may = by_accept name asked is may
  by_change (Spare slot word) asked is may = by_spare (reference_on seats slot) (use_of config word) asked is
  by_change (Fail slot) asked is may = by_fail slot asked is

  pub wish_may : (slots : ℕ) (wish : Wish) (asked : Option Change) → request_of slots config seats linux stamp wish ≡ Ok asked → MayWish config seats stamp image promises wish → MayAsk config seats image promises asked
  wish_may slots wish asked is may = by (first_refusal (slot_refusals slots seats (slots_named wish))) is
    where
      by : (o : Option Refusal) → unless o (change_for config seats linux stamp wish) ≡ Ok asked → MayAsk config seats image promises asked
      by None is = by_change wish asked is may
      by (Some refusal) is = absurd cc
