-- The two copies of a disk's records (SNIA DDF 2.0).
use Rattle.std.specs.Prelude.{ℕ}
use Rattle.ddf_header.specs.declared.kind.HeaderKind.{HeaderKind}
use Rattle.ddf_header.specs.declared.kind.HeaderKind.TheVariants as kinds
use Rattle.ddf_header.specs.declared.reading.Header.{Header}
use Rattle.ddf_copy.specs.declared.which.Which.{Which}
use Rattle.ddf_copy.specs.declared.which.Which.TheVariants.{Primary, Secondary}

-- the kind of its header
abbrev pub kind_of : Which → HeaderKind
kind_of Primary = kinds.Primary
kind_of Secondary = kinds.Secondary

-- where its header stands, by one of the disk's headers
abbrev pub place_of : Which → Header → ℕ
place_of Primary header = header.primary_lba
place_of Secondary header = header.secondary_lba

abbrev pub other_of : Which → Which
other_of Primary = Secondary
other_of Secondary = Primary
