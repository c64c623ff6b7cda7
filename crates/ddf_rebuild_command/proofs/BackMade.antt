-- How it is planned how a position goes back, or why it doesn't.
use Rattle.std.proofs.Common.{◌≡◌, ◌∙◌, ℕ, ◌==◌, ◌&&◌, Bool, List, [], ◌∷◌, ◌++◌, Option, Some, None, Result, Ok, Err, sym, ap, subst}
use Rattle.std.specs.Prelude.{option_map, find, nat_lt}
use Rattle.std.specs.List.{list_any}
use Rattle.std.specs.Option.{option_or}
use Rattle.ddf_config.specs.declared.array.Array.{Array}
use Rattle.ddf_config.specs.declared.extent.Extent.{Extent}
use Rattle.ddf_config.specs.declared.refusal.Refusal.{Refusal}
use Rattle.ddf_config.specs.declared.refusal.Refusal.TheVariants.{BadBlocks, InUse, Level}
use Rattle.ddf_config.specs.declared.seat.Seat.{Seat}
use Rattle.ddf_config.specs.Configuration.{Configuration}
use Rattle.ddf_config.specs.Refusals.{first_refusal, refuse_if}
use Rattle.ddf_config.specs.Seats.{slot_of}
use Rattle.ddf_config.specs.States.{is_marked}
use Rattle.ddf_config.proofs.Firsts.{first_append}
use Rattle.ddf_repair.specs.declared.first.Target.{Target}
use Rattle.ddf_repair.specs.Choose.{chosen, room_for}
use Rattle.ddf_array.specs.Viewing.{is_array_within, view_of}
use Rattle.ddf_array.specs.Volume.{Volume}
use Rattle.ddf_array.specs.Within.{is_within}
use Rattle.ddf_request.specs.Named.{named_array}
use Rattle.ddf_request.specs.Slots.{slot_refusals}
use Rattle.ddf_answer.specs.declared.failure.Failure.{Failure}
use Rattle.ddf_answer.specs.declared.failure.Failure.TheVariants.{Conflict, Disk, Memory, Refused, Split}
use Rattle.ddf_read_commands.specs.declared.using.Access.TheVariants.{Reads}
use Rattle.ddf_read_commands.specs.Use.{IsUsable, MayUse, array_refusals, use_refusal}
use Rattle.ddf_write_commands.specs.Planned.{Entry}
use Rattle.ddf_rebuild_command.specs.declared.going_back.GoingBack.{GoingBack}
use Rattle.ddf_rebuild_command.specs.Asked.{rebuild_refusals}
use Rattle.ddf_rebuild_command.specs.BackPlans.{IsHere, MayGo, MayGoBack}
use Rattle.ddf_rebuild_command.specs.GoingBack.{copyback_asked, copyback_refusals, copyback_request, copyback_unless, disk_refusals, is_misread_on, is_taken, room_of, room_unless}
use Rattle.ddf_rebuild_command.specs.PassedOver.{passed_over}
use Rattle.ddf_rebuild_command.proofs.BackChosen.{is_chosen}
use Rattle.ddf_rebuild_command.proofs.PlanMade.{more, more_is}
use Rattle.ddf_rebuild_command.proofs.Views.{is_at}

-- ---- the room

abbrev unless : Result Extent Refusal → Option Refusal → Result Extent Refusal
unless other refusal = elim refusal [ None ↦ other | Some one ↦ Err one ]

abbrev unless_bad : Extent → Option Seat → Result Extent Refusal
unless_bad room found = elim (option_map (λ (seat : Seat). BadBlocks seat.slot) found) [ None ↦ Ok room | Some refusal ↦ Err refusal ]

-- Nothing refuses a disk, by what is known of it.
pub disk_free : (config : Configuration) (linux : List ℕ) (array : Array) (slot reference : ℕ) (taken misread : Bool) (number : ℕ) (one two : Option Refusal) (aside : List ℕ)
    → one ≡ refuse_if taken (InUse number) → number ≡ slot → taken ≡ is_taken config array reference → two ≡ refuse_if misread (Level 0x11)
    → misread ≡ list_any (λ other. other == reference) aside → aside ≡ passed_over linux array → first_refusal (one ∷ two ∷ []) ≡ None
    → first_refusal (disk_refusals config linux array slot reference) ≡ None
disk_free config linux array slot reference taken misread number one two aside one_is number_is taken_is two_is misread_is aside_is none =
    let first : one ≡ refuse_if (is_taken config array reference) (InUse slot) =
    one_is ∙ ap (λ (b : Bool). refuse_if b (InUse number)) taken_is ∙ ap (λ (n : ℕ). refuse_if (is_taken config array reference) (InUse n)) number_is in
    let second : two ≡ refuse_if (is_misread_on linux array reference) (Level 0x11) =
    two_is ∙ ap (λ (b : Bool). refuse_if b (Level 0x11)) (misread_is ∙ ap (λ (l : List ℕ). list_any (λ other. other == reference) l) aside_is) in
    ap (λ (r : Option Refusal). first_refusal (r ∷ refuse_if (is_misread_on linux array reference) (Level 0x11) ∷ [])) (sym first)
    ∙ ap (λ (r : Option Refusal). first_refusal (one ∷ r ∷ [])) (sym second) ∙ none

-- A disk that has room lists bad blocks.
pub bad_room : (config : Configuration) (seats : List Seat) (linux : List ℕ) (entry : Entry) (slot reference : ℕ) (target : Target) (room : Extent) (seat : Seat)
    → first_refusal (disk_refusals config linux entry.1 slot reference) ≡ None → room_for config entry.0 seats target reference ≡ Some room
    → find (λ (one : Seat). nat_lt 0 one.bad && one.reference == reference) seats ≡ Some seat → room_of config seats linux entry slot reference target ≡ Err (BadBlocks seat.slot)
bad_room config seats linux entry slot reference target room seat free is bad =
    ap (unless (room_unless seats slot reference (room_for config entry.0 seats target reference))) free ∙ ap (room_unless seats slot reference) is ∙ ap (unless_bad room) bad

-- The position that goes back is in sync, and its disk is here.
pub here_at : (config : Configuration) (guid : List ℕ) (seats : List Seat) (view : Volume) → view_of config guid seats ≡ Ok view → (target : Target) → chosen config guid seats ≡ Some target
    → IsHere view target.element target.position
here_at config guid seats view is target h =
    let back = is_chosen config guid seats target h in
    let at = is_at config guid seats view is target.element target.position back.held back.is_held in
    record {
      part = at.part;
      place = at.place;
      slot = slot_of seats back.held.reference;
      is_part = at.is_part;
      is_place = at.is_place;
      is_synced = at.synced_is ∙ back.is_synced;
      is_there = at.is_there back.here;
    }

-- ---- an array that a word names, where the slot is one and its disk a current member

module _ (count : ℕ) (config : Configuration) (seats : List Seat) (linux word : List ℕ) (slot : ℕ) (there : first_refusal (slot_refusals count seats (slot ∷ [])) ≡ None) where
  behind : (others : List (Option Refusal)) → first_refusal (slot_refusals count seats (slot ∷ []) ++ others) ≡ first_refusal others
  behind others = first_append (slot_refusals count seats (slot ∷ [])) others ∙ ap (λ (r : Option Refusal). option_or r (first_refusal others)) there

  -- Of one that can't be used no position goes back.
  pub not_usable_back : (entry : Entry) → named_array config.arrays word ≡ Some entry → (failure : Failure) → MayUse Reads config seats word 0 0 (Err failure)
      → MayGoBack count config seats linux word slot (Err failure)
  not_usable_back entry named (Refused refusal) may =
      let used : first_refusal (array_refusals Reads config seats entry.0 entry.1 0 0) ≡ Some refusal =
      subst (λ (found : Option Entry). use_refusal Reads config seats found 0 0 ≡ Some refusal) named may in
      ap (copyback_asked count config seats linux slot) named
      ∙ ap (copyback_unless config seats linux entry slot)
      (behind (rebuild_refusals config seats entry)
      ∙ first_append (array_refusals Reads config seats entry.0 entry.1 0 0) (more (is_array_within seats entry.1) (is_marked entry.1))
      ∙ ap (λ (r : Option Refusal). option_or r (first_refusal (more (is_array_within seats entry.1) (is_marked entry.1)))) used)
  not_usable_back entry named (Disk other) may = absurd may
  not_usable_back entry named (Conflict i j sequence differ) may = absurd may
  not_usable_back entry named (Split i j) may = absurd may
  not_usable_back entry named Memory may = tt

  module _ (used : List ℕ × Volume) (usable : IsUsable Reads config seats word 0 0 used) where
    abbrev own : Entry
    own = (used.0, usable.array)

    all_is : first_refusal (copyback_refusals count config seats own slot) ≡ first_refusal (more (is_within used.1) used.1.marked)
    all_is = behind (rebuild_refusals config seats own) ∙ more_is config seats linux word used usable

    -- Of one that can be used the view decides.
    pub refused_back : (refusal : Refusal) → first_refusal (more (is_within used.1) used.1.marked) ≡ Some refusal → copyback_request count word slot linux config seats ≡ Err refusal
    refused_back refusal e = ap (copyback_asked count config seats linux slot) usable.is_named ∙ ap (copyback_unless config seats linux own slot) (all_is ∙ e)

    module _ (none : first_refusal (more (is_within used.1) used.1.marked) ≡ None) where
      own_back : (result : Result GoingBack Failure) → MayGo config seats linux own slot result → MayGoBack count config seats linux word slot result
      own_back (Ok plan) is = record { entry = own; is_named = usable.is_named; accepted = all_is ∙ none; goes = is }
      own_back (Err (Refused refusal)) is =
          ap (copyback_asked count config seats linux slot) usable.is_named ∙ ap (copyback_unless config seats linux own slot) (all_is ∙ none) ∙ is
      own_back (Err (Disk other)) is = absurd is
      own_back (Err (Conflict i j sequence differ)) is = absurd is
      own_back (Err (Split i j)) is = absurd is
      own_back (Err Memory) is = tt

      -- What is planned of the array is planned of the word.
      pub back_of : (entry : Entry) → named_array config.arrays word ≡ Some entry → (result : Result GoingBack Failure) → MayGo config seats linux (used.0, entry.1) slot result
          → MayGoBack count config seats linux word slot result
      back_of entry named result is =
          let both : Some entry ≡ Some own = sym named ∙ usable.is_named in
          let same : entry ≡ own = cc in
          own_back result (subst (λ (one : Array). MayGo config seats linux (used.0, one) slot result) (ap (λ (one : Entry). one.1) same) is)
