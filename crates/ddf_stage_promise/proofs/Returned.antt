-- What reads give with what is staged laid over the disks.
use Rattle.std.proofs.Common.{◌≡◌, ℕ, ◌<◌, ◌^◌, Bool, true, List, Some, Ok, subst}
use Rattle.ddf_bytes.specs.Counts.{Rose}
use Rattle.ddf_bay.specs.Sectors.{Image}
use Rattle.ddf_config.specs.declared.seat.Seat.{Seat}
use Rattle.ddf_config.specs.Configuration.{Configuration}
use Rattle.ddf_array.specs.Volume.{Volume, IsVolume}
use Rattle.ddf_array.specs.Losing.{AreFewer}
use Rattle.ddf_array.specs.Sources.{sources}
use Rattle.ddf_array.specs.Viewing.{view_of}
use Rattle.ddf_array.proofs.Viewed.{from_view}
use Rattle.ddf_read.specs.Reading.{IsGivenBy}
use Rattle.ddf_data_array.specs.Allowed.{Allowed, May}
use Rattle.ddf_data_array.proofs.Given.{read_may}
use Rattle.ddf_data_group.specs.Over.{absent_in}
use Rattle.ddf_data_group.specs.Grouped.{KeepsArrays, Promises}
use Rattle.ddf_data_group.proofs.Keeping.{kept_fewer}
use Rattle.ddf_history.specs.Issued.{Past, IsSince}
use Rattle.ddf_history.specs.Groups.{groups}
use Rattle.ddf_data_group.proofs.Common.{view_over}
use Rattle.ddf_data_history.proofs.Steps.{seats_are}
use Rattle.ddf_stage_data.specs.Moments.{through}
use Rattle.ddf_stage_promise.specs.Cells.{cells_in}
use Rattle.ddf_stage_promise.specs.Footing.{Footing}
use Rattle.ddf_stage_promise.specs.Staged.{KeepsStaged, arrays_by, desks_on, does_count, losing, seats_on}

pub read_over : (group : List ℕ) (footing : Footing) → ((slot : ℕ) → footing.floor slot < 2 ^ 64) → (past : Past (groups group)) (number : ℕ) (config : Configuration) → IsSince past.changes number config
    → (image : Image) (promises : Promises) → KeepsStaged group footing past image promises → (lost : ℕ → Bool) → ((slot : ℕ) → past.lost slot ≡ true → lost slot ≡ true)
    → (counts : Bool) → does_count footing past.changes.own_from number ≡ counts
    → (seats : List Seat) → AreFewer (seats_on group footing (losing group footing past lost) config) seats
    → (guid : List ℕ) (allowed : Allowed) (v : Volume) → promises guid ≡ Some allowed → view_of config guid seats ≡ Ok v → IsVolume v
    → (old new : ℕ → ℕ) (block : ℕ) (bytes : List ℕ)
    → IsGivenBy (λ slot. Rose (old slot) (new slot))
    (through (desks_on group footing (losing group footing past lost) config) (arrays_by counts config) (cells_in config (seats_on group footing (losing group footing past lost) config)) image) (sources v block) bytes
    → May (allowed block) bytes
read_over group footing small past number config since image promises kept lost stay counts is seats few guid allowed v promised e known old new block bytes given =
    let view = from_view config guid seats v e in
    let over = through (desks_on group footing (losing group footing past lost) config) (arrays_by counts config) (cells_in config (seats_on group footing (losing group footing past lost) config)) image in
    let counted = subst
    (λ (b : Bool). KeepsArrays config (seats_on group footing (losing group footing past lost) config)
    (through (desks_on group footing (losing group footing past lost) config) (arrays_by b config) (cells_in config (seats_on group footing (losing group footing past lost) config)) image) promises)
    is (kept lost stay number config since) in
    let keeps = kept_fewer config.members (seats_on group footing (losing group footing past lost) config) seats view.array over allowed (seats_are group footing.floor small (losing group footing past lost) config) few
    (counted guid allowed view.array promised view.array_is) in
    read_may old new (absent_in config.members seats view.array.elements) v over allowed block bytes (keeps v (view_over config guid seats v known e)) given
