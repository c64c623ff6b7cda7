-- What an import is asked, by its parts, and one that isn't readied.
use Rattle.std.proofs.Common.{◌≡◌, ℕ, Bool, true, false, List, Option, Some, None, Result, Ok, Err, inl, ap, subst, sym, ◌∙◌}
use Rattle.std.specs.Prelude.{slice_get, slice_index_or}
use Rattle.ddf_lemmas.proofs.Lists.{in_map}
use Rattle.ddf_bay.specs.ReadsOnly.{ReadsOnly}
use Rattle.ddf_config.specs.declared.refusal.Refusal.{Refusal}
use Rattle.ddf_config.specs.declared.refusal.Refusal.TheVariants.{NoGroup}
use Rattle.ddf_config.specs.declared.seat.Seat.{Seat}
use Rattle.ddf_config.specs.Refusals.{first_refusal}
use Rattle.ddf_seats.specs.declared.fault.GroupFault.{GroupFault}
use Rattle.ddf_seats.specs.declared.fault.GroupFault.TheVariants as faults
use Rattle.ddf_seats.specs.declared.seated.Seated.{Seated}
use Rattle.ddf_assembly.specs.Assembled.{IsAssembledGroup}
use Rattle.ddf_seats.specs.Group.{GroupValue}
use Rattle.ddf_joining.specs.Importing.{IsImportReadied, first_causes}
use Rattle.ddf_joining.specs.Joining.{Joining, joining}
use Rattle.ddf_seats.specs.Seated.{seated}
use Rattle.ddf_assembly.specs.Slots.{LeaveNone, first_left_out}
use Rattle.ddf_seats.proofs.CommittedSeats.{seated_is}
use Rattle.ddf_assembly.proofs.LeftOut.{left_out_seat}
use Rattle.ddf_answer.specs.declared.failure.Failure.{Failure}
use Rattle.ddf_answer.specs.declared.failure.Failure.TheVariants.{Conflict, Disk, Memory, Refused, Split}
use Rattle.ddf_answer.specs.Call.{Work}
use Rattle.ddf_group_commands.specs.Change.{failure_of_group}
use Rattle.ddf_import_command.specs.Import.{IsImported, IsImportReadyOr, import_asked, joining_unless, keeps_disks}

module _ (timestamp : ℕ) (left : List Bool) (native other : GroupValue) where
  abbrev first : Option Refusal
  first = first_refusal (first_causes native other)

  abbrev out : Option ℕ
  out = first_left_out left other.seats

  abbrev keeps : Bool
  keeps = keeps_disks native other.seats

  -- What comes first refuses it,
  pub asked_first : (refusal : Refusal) → first ≡ Some refusal → import_asked timestamp left native other ≡ Err (Refused refusal)
  asked_first refusal is = ap (λ (one : Option Refusal). joining_unless one out keeps (joining timestamp native other)) is

  module _ (none : first ≡ None) where
    behind : import_asked timestamp left native other ≡ joining_unless None out keeps (joining timestamp native other)
    behind = ap (λ (one : Option Refusal). joining_unless one out keeps (joining timestamp native other)) none

    -- then a disk that was left out,
    pub asked_out : (slot : ℕ) → out ≡ Some slot → import_asked timestamp left native other ≡ Err (Disk slot)
    asked_out slot is = behind ∙ ap (λ (one : Option ℕ). joining_unless None one keeps (joining timestamp native other)) is

    module _ (seen : out ≡ None) where
      known : import_asked timestamp left native other ≡ joining_unless None None keeps (joining timestamp native other)
      known = behind ∙ ap (λ (one : Option ℕ). joining_unless None one keeps (joining timestamp native other)) seen

      -- then one that the group doesn't keep,
      pub asked_unknown : keeps ≡ false → import_asked timestamp left native other ≡ Err (Refused NoGroup)
      asked_unknown is = known ∙ ap (λ (one : Bool). joining_unless None None one (joining timestamp native other)) is

      module _ (kept : keeps ≡ true) where
        last : (made : Result Joining GroupFault) → joining timestamp native other ≡ made → import_asked timestamp left native other ≡ joining_unless None None true made
        last made is =
            known ∙ ap (λ (one : Bool). joining_unless None None one (joining timestamp native other)) kept
            ∙ ap (λ (one : Result Joining GroupFault). joining_unless None None true one) is

        -- and then what refuses the join.
        pub asked_made : (made : Joining) → joining timestamp native other ≡ Ok made → import_asked timestamp left native other ≡ Ok made
        asked_made made is = last (Ok made) is

        pub join_fails : (fault : GroupFault) → IsImportReadied (Err fault) (joining timestamp native other) → IsImportReadyOr timestamp left native other (Err (failure_of_group fault))
        join_fails (faults.Refused refusal) is = last (Err (faults.Refused refusal)) is
        join_fails faults.SequenceSpent is = last (Err faults.SequenceSpent) is
        join_fails faults.Memory is = tt

-- ---- one that isn't readied

-- Where it is asked that a disk was left out, one was.
out_asked : (first : Option Refusal) (out : Option ℕ) (keeps : Bool) (made : Result Joining GroupFault) (slot : ℕ) → joining_unless first out keeps made ≡ Err (Disk slot) → out ≡ Some slot
out_asked (Some refusal) out keeps made slot is = absurd cc
out_asked None (Some other) keeps made slot is = cc
out_asked None None false made slot is = absurd cc
out_asked None None true (Ok made) slot is = absurd cc
out_asked None None true (Err (faults.Refused refusal)) slot is = absurd cc
out_asked None None true (Err faults.SequenceSpent) slot is = absurd cc
out_asked None None true (Err faults.Memory) slot is = absurd cc

-- No seat's slot was left out by the look that found its group.
seat_seen : (group : GroupValue) (left : List Bool) → IsAssembledGroup group → LeaveNone left group.newest → (place : ℕ) (seat : Seat) → slice_get group.seats place ≡ Some seat
    → slice_index_or left seat.slot false ≡ false
seat_seen group left assembled none place seat at =
    let found = in_map (λ (disk : Seated). disk.seat) (seated group) place seat (subst (λ (seats : List Seat). slice_get seats place ≡ Some seat) (sym assembled.are_seated) at) in
    let disk = seated_is group place found.0 found.1 in
    subst (λ (one : Seat). slice_index_or left one.slot false ≡ false) found.2 (none found.0.seat.slot disk.found disk.is_found)

-- It writes nothing.
pub not_readied : {D : Type 0} (work : Work D) (timestamp : ℕ) (left also : List Bool) (native other : GroupValue) (failure : Failure) → IsAssembledGroup other → LeaveNone also other.newest
    → IsImportReadyOr timestamp left native other (Err failure) → ReadsOnly work.old work.new → IsImported work also native other (import_asked timestamp left native other) (Err failure)
not_readied work timestamp left also native other (Refused refusal) assembled none is reads = (is, reads)
not_readied work timestamp left also native other (Disk slot) assembled none is reads =
    let seat = left_out_seat left other.seats slot
    (out_asked (first_refusal (first_causes native other)) (first_left_out left other.seats) (keeps_disks native other.seats) (joining timestamp native other) slot is) in
    inl (record {
      is_asked = is;
      seen = subst (λ (n : ℕ). slice_index_or also n false ≡ false) seat.on_slot (seat_seen other also assembled none seat.place seat.seat seat.is_seat);
      reads = reads;
    })
not_readied work timestamp left also native other Memory assembled none is reads = reads
not_readied work timestamp left also native other (Conflict i j sequence differ) assembled none is reads = absurd is
not_readied work timestamp left also native other (Split i j) assembled none is reads = absurd is

-- A slot that is asked for was left out by the first look.
pub first_left : (timestamp : ℕ) (left : List Bool) (native other : GroupValue) (slot : ℕ) → import_asked timestamp left native other ≡ Err (Disk slot) → slice_index_or left slot false ≡ true
first_left timestamp left native other slot is =
    (left_out_seat left other.seats slot
    (out_asked (first_refusal (first_causes native other)) (first_left_out left other.seats) (keeps_disks native other.seats) (joining timestamp native other) slot is)).is_out
