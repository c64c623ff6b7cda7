-- What `rebuild` asks of a group, and what it is refused for.
use Rattle.std.specs.Prelude.{ℕ, not, ◌&&◌, ◌==◌, nat_lt, List, [], ◌∷◌, ◌++◌, find, length, map, Option, Some, None, option_map, slice_get, Result, Ok, Err}
use Rattle.std.specs.Option.{option_and_then}
use Rattle.ddf_config.specs.declared.array.Array.{Array}
use Rattle.ddf_config.specs.declared.refusal.Refusal.{Refusal}
use Rattle.ddf_config.specs.declared.refusal.Refusal.TheVariants as refusals
use Rattle.ddf_config.specs.declared.seat.Seat.{Seat}
use Rattle.ddf_config.specs.Configuration.{Configuration}
use Rattle.ddf_config.specs.ElementValue.{ElementValue}
use Rattle.ddf_config.specs.Refusals.{first_refusal, refuse_if}
use Rattle.ddf_config.specs.Shapes.{element_shape}
use Rattle.ddf_config.specs.States.{is_marked}
use Rattle.ddf_plan.specs.declared.change.Change.{Change}
use Rattle.ddf_plan.specs.declared.change.Change.TheVariants.{Begin, Finish, Progress}
use Rattle.ddf_plan.specs.Rebuild.{element_at}
use Rattle.ddf_repair.specs.declared.first.Target.{Target}
use Rattle.ddf_repair.specs.declared.beginning.Begun.{Begun}
use Rattle.ddf_repair.specs.declared.beginning.Begun.TheVariants.{Nothing, Fresh, Again}
use Rattle.ddf_repair.specs.declared.beginning.RebuildFault.{RebuildFault}
use Rattle.ddf_repair.specs.declared.beginning.RebuildFault.TheVariants.{NoSpare, Small, Memory}
use Rattle.ddf_repair.specs.Begin.{begun}
use Rattle.ddf_array.specs.Viewing.{is_array_within}
use Rattle.ddf_rebuild.specs.Target.{row_count}
use Rattle.ddf_request.specs.Named.{named_array}
use Rattle.ddf_group_commands.specs.Change.{Request}
use Rattle.ddf_read_commands.specs.declared.using.Access.TheVariants.{Reads}
use Rattle.ddf_read_commands.specs.Use.{array_refusals}
use Rattle.ddf_write_commands.specs.Planned.{Entry, unless_refused}
use Rattle.ddf_rebuild_command.specs.Notes.{notes}
use Rattle.ddf_rebuild_command.specs.PassedOver.{passed_over}

-- ---- what it is refused for

-- Behind what any use of its blocks is refused for: the array isn't within its level; it is marked, so that nothing tells which of its copies are right.
abbrev pub rebuild_refusals : Configuration → List Seat → Entry → List (Option Refusal)
rebuild_refusals config seats entry =
    array_refusals Reads config seats entry.0 entry.1 0 0
    ++ refuse_if (not (is_array_within seats entry.1)) refusals.Lost
    ∷ refuse_if (is_marked entry.1) refusals.Marked
    ∷ []

-- the seat of a member lists bad blocks
abbrev pub bad_on : (reference : ℕ) → List Seat → Option Refusal
bad_on reference seats =
    option_map (λ (seat : Seat). refusals.BadBlocks seat.slot) (find (λ (seat : Seat). nat_lt 0 seat.bad && seat.reference == reference) seats)

-- so does that of the spare which takes the place of a disk
abbrev pub bad_spare : List Seat → Change → Option Refusal
bad_spare seats (Begin guid element position reference start) = bad_on reference seats
bad_spare seats other = None

-- ---- the rows of a position

-- the rows of an element of the array, a last part strip a row of its own
abbrev pub rows_in : Array → (element : ℕ) → ℕ
rows_in array element =
    elim (option_and_then (element_shape (length array.elements)) (element_at array element)) [ None ↦ 0 | Some shape ↦ row_count shape ]

-- those of a position that an earlier rebuild has set
abbrev pub part_kept : (position : ℕ) → Option ElementValue → ℕ
part_kept position part =
    elim part [ None ↦ 0 | Some element ↦ elim (slice_get element.positions position) [ None ↦ 0 | Some held ↦ held.row ] ]

abbrev pub kept_in : Array → Target → ℕ
kept_in array target = part_kept target.position (element_at array target.element)

-- ---- the changes

-- Behind so many rows that are kept: a note of its progress at each row where it notes it, and at the end that the position is in sync.
abbrev pub changes_behind : Entry → Target → (kept : ℕ) → List Change
changes_behind entry target kept =
    map (λ row. Progress entry.0 target.element target.position row) (notes kept (rows_in entry.1 target.element)) ++ Finish entry.0 target.element target.position ∷ []

-- Of no position that is out of sync nothing is asked. A position whose disk is a current member is rebuilt where it is, from the rows on that are kept; any other gets
-- a spare first. That `begun` lacks memory isn't among its answers.
abbrev pub rebuild_changes : List Seat → Entry → Result Begun RebuildFault → Result (List Change) Refusal
rebuild_changes seats entry (Ok Nothing) = Ok []
rebuild_changes seats entry (Ok (Again target)) = Ok (changes_behind entry target (kept_in entry.1 target))
rebuild_changes seats entry (Ok (Fresh target change)) = unless_refused (change ∷ changes_behind entry target 0) (bad_spare seats change)
rebuild_changes seats entry (Err NoSpare) = Err refusals.NoSpare
rebuild_changes seats entry (Err (Small needed found)) = Err (refusals.Small needed found)
rebuild_changes seats entry (Err Memory) = Ok []

-- of the members whose disks Linux reads, where it takes the array for another layout, none is the spare
abbrev pub rebuild_unless : Configuration → List Seat → (linux : List ℕ) → Entry → Option Refusal → Result (List Change) Refusal
rebuild_unless config seats linux entry None = rebuild_changes seats entry (begun config entry.0 seats (passed_over linux entry.1))
rebuild_unless config seats linux entry (Some refusal) = Err refusal

abbrev pub rebuild_asked : Configuration → List Seat → (linux : List ℕ) → Option Entry → Result (List Change) Refusal
rebuild_asked config seats linux None = Err refusals.NoArray
rebuild_asked config seats linux (Some entry) = rebuild_unless config seats linux entry (first_refusal (rebuild_refusals config seats entry))

-- the changes that a rebuild of the array is that a word names, or why there are none, of a group of which Linux reads these members' disks
abbrev pub rebuild_request : (word : List ℕ) → (linux : List ℕ) → Request
rebuild_request word linux config seats = rebuild_asked config seats linux (named_array config.arrays word)
