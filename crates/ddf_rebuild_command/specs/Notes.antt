-- Where a rebuild notes how far it has come (profile).
use Rattle.std.specs.Prelude.{ℕ, zero, suc, ◌+◌, ◌*◌, ◌/◌, ◌&&◌, nat_lt, List, [], ◌∷◌, filter, map}

-- numbers one after another, so many, from one on
unfoldable pub upwards : (from count : ℕ) → List ℕ
upwards from zero = []
upwards from (suc count) = from ∷ upwards (from + 1) count

-- how many rows lie between two notes: 1,024, or so many times as many that there are at most 63 notes
abbrev pub rows_between : (rows : ℕ) → ℕ
rows_between rows = 1024 * ((rows + 65535) / 65536)

-- The rows at which it notes how far it has come: the multiples of these that lie above the rows that are kept, and below all. 64 times as many are at
-- least all rows.
unfoldable pub notes : (kept rows : ℕ) → List ℕ
notes kept rows = filter (λ row. nat_lt kept row && nat_lt row rows) (map (λ number. number * rows_between rows) (upwards 1 63))
