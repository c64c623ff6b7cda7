-- What reads give over a history.
use Rattle.std.proofs.Common.{◌≡◌, ℕ, ◌<◌, ◌^◌, List, Some, Ok}
use Rattle.ddf_bytes.specs.Counts.{Rose}
use Rattle.ddf_bay.specs.Sectors.{Image}
use Rattle.ddf_config.specs.declared.seat.Seat.{Seat}
use Rattle.ddf_config.specs.Configuration.{Configuration}
use Rattle.ddf_array.specs.Volume.{Volume, IsVolume}
use Rattle.ddf_array.specs.Losing.{AreFewer}
use Rattle.ddf_array.specs.Sources.{sources}
use Rattle.ddf_array.specs.Viewing.{view_of}
use Rattle.ddf_array.proofs.Viewed.{from_view}
use Rattle.ddf_read.specs.Reading.{IsGivenBy}
use Rattle.ddf_data_array.specs.Allowed.{Allowed, May}
use Rattle.ddf_data_array.proofs.Given.{read_may}
use Rattle.ddf_data_group.specs.Over.{absent_in}
use Rattle.ddf_data_group.specs.Grouped.{Promises}
use Rattle.ddf_data_group.proofs.Keeping.{kept_fewer}
use Rattle.ddf_history.specs.Issued.{Past, IsSince}
use Rattle.ddf_history.specs.Groups.{groups}
use Rattle.ddf_data_group.proofs.Common.{view_over}
use Rattle.ddf_data_history.specs.Promised.{KeepsData, seats_in}
use Rattle.ddf_data_history.proofs.Steps.{seats_are}

pub read_since : (group : List ℕ) (floor : ℕ → ℕ) → ((slot : ℕ) → floor slot < 2 ^ 64) → (past : Past (groups group)) (number : ℕ) (config : Configuration) → IsSince past.changes number config
    → (image : Image) (promises : Promises) → KeepsData group past floor image promises → (seats : List Seat) → AreFewer (seats_in group past floor config) seats
    → (guid : List ℕ) (allowed : Allowed) (v : Volume) → promises guid ≡ Some allowed → view_of config guid seats ≡ Ok v → IsVolume v
    → (old new : ℕ → ℕ) (block : ℕ) (bytes : List ℕ) → IsGivenBy (λ slot. Rose (old slot) (new slot)) image (sources v block) bytes → May (allowed block) bytes
read_since group floor small past number config since image promises kept seats few guid allowed v promised e known old new block bytes given =
    let view = from_view config guid seats v e in
    let keeps = kept_fewer config.members (seats_in group past floor config) seats view.array image allowed (seats_are group floor small past config) few
    (kept number config since guid allowed view.array promised view.array_is) in
    read_may old new (absent_in config.members seats view.array.elements) v image allowed block bytes (keeps v (view_over config guid seats v known e)) given
