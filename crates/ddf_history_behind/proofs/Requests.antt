-- No command asks for the loss of no member.
use Rattle.std.proofs.Common.{◌≡◌, ℕ, Bool, true, false, List, [], ◌∷◌, ◌++◌, map, Option, Some, None, Result, Ok, Err, if◌then◌else◌, refl, subst}
use Rattle.std.specs.Prelude.{option_to_list}
use Rattle.std.specs.List.{AllByRecursion}
use Rattle.std.specs.Map.{lookup}
use Rattle.ddf_bytes.specs.declared.stamp.Stamp.{Stamp}
use Rattle.ddf_config.specs.declared.array.Array.{Array}
use Rattle.ddf_config.specs.declared.extent.Extent.{Extent}
use Rattle.ddf_config.specs.declared.member.SpareUse.{SpareUse}
use Rattle.ddf_config.specs.declared.refusal.Refusal.{Refusal}
use Rattle.ddf_config.specs.declared.refusal.Refusal.TheVariants.{NoArray}
use Rattle.ddf_config.specs.declared.seat.Seat.{Seat}
use Rattle.ddf_config.specs.Configuration.{Configuration}
use Rattle.ddf_config.specs.Members.{same_guid}
use Rattle.ddf_config.specs.Refusals.{first_refusal}
use Rattle.ddf_config.specs.States.{is_marked}
use Rattle.ddf_plan.specs.declared.change.Change.{Change}
use Rattle.ddf_plan.specs.declared.change.Change.TheVariants as changes
use Rattle.ddf_array.specs.Viewing.{is_array_redundant}
use Rattle.ddf_repair.specs.declared.first.Target.{Target}
use Rattle.ddf_repair.specs.declared.beginning.Begun.{Begun}
use Rattle.ddf_repair.specs.declared.beginning.Begun.TheVariants.{Again, Fresh, Nothing}
use Rattle.ddf_repair.specs.declared.beginning.RebuildFault.{RebuildFault}
use Rattle.ddf_repair.specs.declared.beginning.RebuildFault.TheVariants.{Memory, NoSpare, Small}
use Rattle.ddf_repair.specs.Accept.{accepted}
use Rattle.ddf_repair.specs.Begin.{begun}
use Rattle.ddf_repair.specs.Choose.{chosen}
use Rattle.ddf_repair.proofs.Begins.{is_fresh}
use Rattle.ddf_words.specs.declared.command.Creation.{Creation}
use Rattle.ddf_words.specs.declared.command.Wish.{Wish}
use Rattle.ddf_words.specs.declared.command.Wish.TheVariants.{Accept, Create, Delete, Fail, Spare}
use Rattle.ddf_request.specs.Named.{named_array, named_guid}
use Rattle.ddf_request.specs.NewArray.{new_array, new_array_guid, unfit}
use Rattle.ddf_request.specs.Request.{accept_change, accept_refusal, change_for, create_change, delete_change, if_fits, one, request_of, slots_named, spare_change, unless}
use Rattle.ddf_request.specs.Slots.{reference_on, slot_refusals}
use Rattle.ddf_request.specs.Spare.{use_of}
use Rattle.ddf_group_commands.specs.Assemble.{no_change}
use Rattle.ddf_group_commands.specs.Requests.{at_most_one, request_for}
use Rattle.ddf_write_commands.specs.Planned.{Entry, Refusing, asked_of, changes_around, request_around, unless_refused}
use Rattle.ddf_write_commands.specs.Resync.{resync_behind, resync_refusals, resync_request}
use Rattle.ddf_write_commands.specs.Write.{write_behind, write_refusals, write_request}
use Rattle.ddf_rebuild_command.specs.Asked.{bad_spare, changes_behind, kept_in, rebuild_asked, rebuild_changes, rebuild_refusals, rebuild_request, rebuild_unless, rows_in}
use Rattle.ddf_rebuild_command.specs.GoingBack.{back_to, copyback_asked, copyback_changes, copyback_refusals, copyback_request, copyback_unless, go_to, room_of}
use Rattle.ddf_rebuild_command.specs.PassedOver.{passed_over}
use Rattle.ddf_rebuild_command.specs.Notes.{notes}
use Rattle.ddf_history_behind.specs.Behind.{LosesSome}
use Rattle.ddf_history_behind.specs.Commands.{LosesNone}

-- ---- changes of a group

-- at most one change, which is no loss of no member
abbrev IsSome : Option Change → Type 0
IsSome change = AllByRecursion LosesSome (option_to_list change)

one_some : (asked : Result Change Refusal) (change : Option Change) → ((only : Change) → asked ≡ Ok only → LosesSome only) → one asked ≡ Ok change → IsSome change
one_some (Ok only) change some is = let same : Some only ≡ change = cc in subst IsSome same (some only refl, tt)
one_some (Err refusal) change some is = absurd cc

module _ (config : Configuration) (seats : List Seat) (linux : List ℕ) (stamp : Stamp) where
  created : (creation : Creation) (change : Change) → create_change config seats linux stamp creation ≡ Ok change → LosesSome change
  created creation change is = by (unfit linux seats creation) is
    where
      by : (refused : Option Refusal) → if_fits refused config seats (changes.Create (new_array_guid config stamp) (new_array config seats creation)) ≡ Ok change → LosesSome change
      by (Some refusal) e = absurd cc
      by None e = let same : changes.Create (new_array_guid config stamp) (new_array config seats creation) ≡ change = cc in subst LosesSome same tt

  deleted : (word : List ℕ) (change : Change) → delete_change config word ≡ Ok change → LosesSome change
  deleted word change is = by (named_guid config.arrays word) is
    where
      by : (found : Option (List ℕ)) → ◌≡◌ {A = Result Change Refusal} (elim found [ None ↦ Err NoArray | Some guid ↦ Ok (changes.Delete guid) ]) (Ok change) → LosesSome change
      by None e = absurd cc
      by (Some guid) e = let same : changes.Delete guid ≡ change = cc in subst LosesSome same tt

  spared : (reference : ℕ) (asked : Result SpareUse Refusal) (change : Change) → spare_change reference asked ≡ Ok change → LosesSome change
  spared reference (Ok use_as) change is = let same : changes.Spare reference use_as ≡ change = cc in subst LosesSome same tt
  spared reference (Err refusal) change is = absurd cc

  unmarked : (guid : List ℕ) → IsSome (accepted config guid)
  unmarked guid = by (lookup (same_guid guid) config.arrays)
    where
      cleared : (marked : Bool) (array : Array) → IsSome (if marked then Some (changes.Unmark guid array.init) else None)
      cleared true array = (tt, tt)
      cleared false array = tt

      by : (found : Option Array) → IsSome (elim found [ None ↦ None | Some array ↦ if is_marked array then Some (changes.Unmark guid array.init) else None ])
      by None = tt
      by (Some array) = cleared (is_marked array) array

  taken : (word : List ℕ) (change : Option Change) → accept_change config seats word ≡ Ok change → IsSome change
  taken word change is = by (named_array config.arrays word) is
    where
      unless_out : (entry : List ℕ × Array) (refusal : Option Refusal) → ◌≡◌ {A = Result (Option Change) Refusal} (elim refusal [ None ↦ Ok (accepted config entry.0) | Some refusal ↦ Err refusal ]) (Ok change)
          → IsSome change
      unless_out entry None e = let same : accepted config entry.0 ≡ change = cc in subst IsSome same (unmarked entry.0)
      unless_out entry (Some refusal) e = absurd cc

      by : (found : Option (List ℕ × Array)) → ◌≡◌ {A = Result (Option Change) Refusal}
          (elim found [ None ↦ Err NoArray | Some entry ↦ elim (accept_refusal config seats entry.0 entry.1) [ None ↦ Ok (accepted config entry.0) | Some refusal ↦ Err refusal ] ]) (Ok change) → IsSome change
      by None e = absurd cc
      by (Some entry) e = unless_out entry (accept_refusal config seats entry.0 entry.1) e

  wished : (wish : Wish) (change : Option Change) → change_for config seats linux stamp wish ≡ Ok change → IsSome change
  wished (Create creation) change is = one_some (create_change config seats linux stamp creation) change (created creation) is
  wished (Delete name) change is = one_some (delete_change config name) change (deleted name) is
  wished (Accept name) change is = taken name change is
  wished (Spare slot word) change is = one_some (spare_change (reference_on seats slot) (use_of config word)) change (spared (reference_on seats slot) (use_of config word)) is
  wished (Fail slot) change is = let same : Some (changes.Fail (reference_on seats slot)) ≡ change = cc in subst IsSome same (tt, tt)

  asked_for : (refusal : Option Refusal) (wish : Wish) (change : Option Change) → unless refusal (change_for config seats linux stamp wish) ≡ Ok change → IsSome change
  asked_for None wish change is = wished wish change is
  asked_for (Some refusal) wish change is = absurd cc

  at_most : (answer : Result (Option Change) Refusal) (all : List Change) → ((change : Option Change) → answer ≡ Ok change → IsSome change) → at_most_one answer ≡ Ok all
      → AllByRecursion LosesSome all
  at_most (Ok change) all some is = let same : option_to_list change ≡ all = cc in subst (AllByRecursion LosesSome) same (some change refl)
  at_most (Err refusal) all some is = absurd cc

pub changes_lose : (slots : ℕ) (stamp : Stamp) (wish : Wish) (linux : List ℕ) → LosesNone (request_for slots stamp wish linux)
changes_lose slots stamp wish linux config seats all is =
    at_most config seats linux stamp (request_of slots config seats linux stamp wish) all (λ change. asked_for config seats linux stamp (first_refusal (slot_refusals slots seats (slots_named wish))) wish change) is

pub none_lose : LosesNone no_change
none_lose config seats all is = let same : ◌≡◌ {A = List Change} [] all = cc in subst (AllByRecursion LosesSome) same tt

-- ---- blocks

-- The changes around the blocks of an array.
module _ (refusing : Refusing) (behind : Entry → List Change) (some : (entry : Entry) → AllByRecursion LosesSome (behind entry)) where
  marked : (b : Bool) (entry : Entry) → AllByRecursion LosesSome ((if b then changes.Mark entry.0 ∷ [] else []) ++ behind entry)
  marked true entry = (tt, some entry)
  marked false entry = some entry

  around : (word : List ℕ) → LosesNone (request_around refusing behind word)
  around word config seats all is = by (named_array config.arrays word) is
    where
      accepts : (entry : Entry) (refusal : Option Refusal) → unless_refused (changes_around behind entry) refusal ≡ Ok all → AllByRecursion LosesSome all
      accepts entry None e = let same : changes_around behind entry ≡ all = cc in subst (AllByRecursion LosesSome) same (marked (is_array_redundant entry.1) entry)
      accepts entry (Some refusal) e = absurd cc

      by : (found : Option Entry) → asked_of refusing behind config seats found ≡ Ok all → AllByRecursion LosesSome all
      by None e = absurd cc
      by (Some entry) e = accepts entry (first_refusal (refusing config seats entry)) e

pub resyncs_lose : (word : List ℕ) → LosesNone (resync_request word)
resyncs_lose word = around resync_refusals resync_behind (λ entry. (tt, tt)) word

pub writes_lose : (word : List ℕ) (start count : ℕ) → LosesNone (write_request word start count)
writes_lose word start count = around (write_refusals start count) write_behind (λ entry. cleared (is_array_redundant entry.1) entry.0 entry.1.init) word
  where
    cleared : (b : Bool) (guid : List ℕ) (init : ℕ) → AllByRecursion LosesSome (if b then changes.Unmark guid init ∷ [] else [])
    cleared true guid init = (tt, tt)
    cleared false guid init = tt

-- ---- rebuilds

-- Notes and the end.
noted : (entry : Entry) (target : Target) (rows : List ℕ)
    → AllByRecursion LosesSome (map (λ (row : ℕ). changes.Progress entry.0 target.element target.position row) rows ++ changes.Finish entry.0 target.element target.position ∷ [])
noted entry target [] = (tt, tt)
noted entry target (row ∷ rows) = (tt, noted entry target rows)

module _ (config : Configuration) (seats : List Seat) (aside : List ℕ) (entry : Entry) where
  -- The change that begins puts a spare in.
  begins : (target : Target) (change : Change) → begun config entry.0 seats aside ≡ Ok (Fresh target change) → LosesSome change
  begins target change is = subst LosesSome (is_fresh config entry.0 seats aside target change is).change_is tt

  rebuilt : (answer : Result Begun RebuildFault) → begun config entry.0 seats aside ≡ answer → (all : List Change) → rebuild_changes seats entry answer ≡ Ok all → AllByRecursion LosesSome all
  rebuilt (Ok Nothing) found all is = let same : ◌≡◌ {A = List Change} [] all = cc in subst (AllByRecursion LosesSome) same tt
  rebuilt (Ok (Again target)) found all is =
      let same : changes_behind entry target (kept_in entry.1 target) ≡ all = cc in
      subst (AllByRecursion LosesSome) same (noted entry target (notes (kept_in entry.1 target) (rows_in entry.1 target.element)))
  rebuilt (Ok (Fresh target change)) found all is = by (bad_spare seats change) is
    where
      by : (refusal : Option Refusal) → unless_refused (change ∷ changes_behind entry target 0) refusal ≡ Ok all → AllByRecursion LosesSome all
      by None e =
          let same : change ∷ changes_behind entry target 0 ≡ all = cc in
          subst (AllByRecursion LosesSome) same (begins target change found, noted entry target (notes 0 (rows_in entry.1 target.element)))
      by (Some refusal) e = absurd cc
  rebuilt (Err NoSpare) found all is = absurd cc
  rebuilt (Err (Small needed most)) found all is = absurd cc
  rebuilt (Err Memory) found all is = let same : ◌≡◌ {A = List Change} [] all = cc in subst (AllByRecursion LosesSome) same tt

pub rebuilds_lose : (word : List ℕ) (linux : List ℕ) → LosesNone (rebuild_request word linux)
rebuilds_lose word linux config seats all is = by (named_array config.arrays word) is
  where
    unless_out : (entry : Entry) (refusal : Option Refusal) → rebuild_unless config seats linux entry refusal ≡ Ok all → AllByRecursion LosesSome all
    unless_out entry None e = rebuilt config seats (passed_over linux entry.1) entry (begun config entry.0 seats (passed_over linux entry.1)) refl all e
    unless_out entry (Some refusal) e = absurd cc

    by : (found : Option Entry) → rebuild_asked config seats linux found ≡ Ok all → AllByRecursion LosesSome all
    by None e = absurd cc
    by (Some entry) e = unless_out entry (first_refusal (rebuild_refusals config seats entry)) e

-- ---- copybacks

pub copybacks_lose : (count : ℕ) (word : List ℕ) (slot : ℕ) (linux : List ℕ) → LosesNone (copyback_request count word slot linux)
copybacks_lose count word slot linux config seats all is = by (named_array config.arrays word) is
  where
    went : (entry : Entry) (target : Target) (room : Result Extent Refusal) → go_to entry target room ≡ Ok all → AllByRecursion LosesSome all
    went entry target (Ok room) e =
        let same : back_to entry target room ∷ [] ≡ all = cc in
        subst (AllByRecursion LosesSome) same (tt, tt)
    went entry target (Err refusal) e = absurd cc

    back : (entry : Entry) (target : Option Target) → copyback_changes config seats linux entry slot target ≡ Ok all → AllByRecursion LosesSome all
    back entry None e = absurd cc
    back entry (Some target) e = went entry target (room_of config seats linux entry slot (reference_on seats slot) target) e

    unless_back : (entry : Entry) (refusal : Option Refusal) → copyback_unless config seats linux entry slot refusal ≡ Ok all → AllByRecursion LosesSome all
    unless_back entry None e = back entry (chosen config entry.0 seats) e
    unless_back entry (Some refusal) e = absurd cc

    by : (found : Option Entry) → copyback_asked count config seats linux slot found ≡ Ok all → AllByRecursion LosesSome all
    by None e = absurd cc
    by (Some entry) e = unless_back entry (first_refusal (copyback_refusals count config seats entry slot)) e
