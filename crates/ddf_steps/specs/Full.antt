-- Which table of a group's disks has no room for what a change gives them (profile).
use Rattle.std.specs.Prelude.{ℕ, Bool, false, not, ◌==◌, nat_le, List, [], ◌∷◌, fold, Option, Some, None, if◌then◌else◌}
use Rattle.std.specs.List.{list_all}
use Rattle.ddf_config.specs.declared.refusal.FullTable.{FullTable}
use Rattle.ddf_config.specs.declared.refusal.FullTable.TheVariants.{Disks, Arrays, Records, Notes, Spares}
use Rattle.ddf_config.specs.Configuration.{Configuration}
use Rattle.ddf_rewrite.specs.Before.{Before}
use Rattle.ddf_rewrite.specs.Room.{full_after_change}
use Rattle.ddf_seats.specs.declared.seated.Seated.{Seated}
use Rattle.ddf_steps.specs.Steps.{stays_in}
use Rattle.ddf_seats.specs.Changing.{record_length}

-- in this order the tables are told
abbrev pub rank : FullTable → ℕ
rank Disks = 0
rank Arrays = 1
rank Records = 2
rank Notes = 3
rank Spares = 4

abbrev pub lesser : Option FullTable → Option FullTable → Option FullTable
lesser None other = other
lesser (Some one) None = Some one
lesser (Some one) (Some other) = if nat_le (rank one) (rank other) then Some one else Some other

-- the records of two disks have different lengths
abbrev pub lengths_differ : List Seated → Bool
lengths_differ [] = false
lengths_differ (disk ∷ disks) = not (list_all (λ other. record_length other == record_length disk) disks)

-- the first table of a disk that has no room
abbrev pub full_on : Before → Configuration → (timestamp : ℕ) → Seated → Option FullTable
full_on leaders config timestamp disk = full_after_change disk.copy leaders config timestamp

-- of those that it writes: a disk that doesn't stay a current member, as one that fails, isn't written and needs no room
abbrev pub full_where_written : Before → Configuration → (timestamp : ℕ) → Seated → Option FullTable
full_where_written leaders config timestamp disk = if stays_in config disk then full_on leaders config timestamp disk else None

-- the least table that is full on some disk that is written
unfoldable pub least_full : Before → Configuration → (timestamp : ℕ) → List Seated → Option FullTable
least_full leaders config timestamp disks = fold (λ least disk. lesser least (full_where_written leaders config timestamp disk)) None disks

-- Records of different lengths come first, then the least table that is full on some disk that is written.
unfoldable pub full_of : (timestamp : ℕ) → Before → Configuration → List Seated → Option FullTable
full_of timestamp leaders config disks = if lengths_differ disks then Some Records else least_full leaders config timestamp disks
