-- Notes of rebuilds, on examples.
use Rattle.std.proofs.Common.{◌≡◌, [], ◌∷◌, length, refl}
use Rattle.ddf_rebuild_command.specs.Notes.{notes, rows_between, upwards}

-- An element of at most 1,024 rows has none.
none_at_all : notes 0 1024 ≡ []
unfolding notes upwards
none_at_all = refl

two_notes : notes 0 2049 ≡ 1024 ∷ 2048 ∷ []
unfolding notes upwards
two_notes = refl

-- One that is reached already isn't noted again.
one_left : notes 1024 2049 ≡ 2048 ∷ []
unfolding notes upwards
one_left = refl

none_past : notes 5000 2049 ≡ []
unfolding notes upwards
none_past = refl

-- 65,536 rows have 63 notes, and more have no more.
most_notes : length (notes 0 65536) ≡ 63
unfolding notes upwards
most_notes = refl

further_apart : rows_between 65537 ≡ 2048
further_apart = refl

still_few : length (notes 0 65537) ≡ 32
unfolding notes upwards
still_few = refl

-- The greatest element there is has 63 as well.
greatest : length (notes 0 281474976710656) ≡ 63
unfolding notes upwards
greatest = refl
