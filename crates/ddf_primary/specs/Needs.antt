-- What each primary level does with a block, told once (the standard's tables of RAID levels): whether each member holds it, how the
-- parity of its row lies, and which members an element can do without.
use Rattle.std.specs.Prelude.{ℕ, Bool, true, false, not, ◌||◌, ◌==◌, List, length, get_or, Option, Some, None, is_some, if◌then◌else◌}
use Rattle.std.specs.List.{list_all, range_with_len}
use Rattle.ddf_mirror1e.specs.declared.spread.Spread.{Spread}
use Rattle.ddf_mirror1e.specs.declared.spread.Spread.TheVariants.{Adjacent, Offset}
use Rattle.ddf_mirror1e.specs.Copies.{begins_pairs, following}
use Rattle.ddf_primary.specs.declared.layout.Layout.{Layout}
use Rattle.ddf_primary.specs.declared.layout.Layout.TheVariants.{Raid0, Raid1, Parity, Jbod, Concatenation, Mirror}
use Rattle.ddf_primary.specs.declared.need.Need.{Need}
use Rattle.ddf_primary.specs.declared.need.Need.TheVariants.{All, One, AllButOne, Neighbours}
use Rattle.ddf_primary.specs.declared.parity.ParityLayout.{ParityLayout}

-- the level that holds each block on every member, at the same sector: RAID 1
abbrev pub is_on_every : Layout → Bool
is_on_every Raid0 = false
is_on_every Raid1 = true
is_on_every (Parity parity) = false
is_on_every Jbod = false
is_on_every Concatenation = false
is_on_every (Mirror spread) = false

-- the level that holds each block on two members, of which one stands behind the other: RAID 1E
abbrev pub is_on_two : Layout → Bool
is_on_two Raid0 = false
is_on_two Raid1 = false
is_on_two (Parity parity) = false
is_on_two Jbod = false
is_on_two Concatenation = false
is_on_two (Mirror spread) = true

-- those that hold a block on more than one member
abbrev pub keeps_copies : Layout → Bool
keeps_copies Raid0 = false
keeps_copies Raid1 = true
keeps_copies (Parity parity) = false
keeps_copies Jbod = false
keeps_copies Concatenation = false
keeps_copies (Mirror spread) = true

-- where the parity of each row lies, for the levels that keep it: RAID 4 and 5
abbrev pub parity_of : Layout → Option ParityLayout
parity_of Raid0 = None
parity_of Raid1 = None
parity_of (Parity parity) = Some parity
parity_of Jbod = None
parity_of Concatenation = None
parity_of (Mirror spread) = None

abbrev pub keeps_parity : Layout → Bool
keeps_parity layout = is_some (parity_of layout)

-- which members an element of a layout needs
abbrev pub need_by : Layout → Need
need_by Raid0 = All
need_by Raid1 = One
need_by (Parity parity) = AllButOne
need_by Jbod = All
need_by Concatenation = All
need_by (Mirror spread) = Neighbours spread

-- of RAID 1E: where first copies lie on a member, it or the one behind it, with the second copies, is there
abbrev pub one_of_two : Spread → List Bool → (member : ℕ) → Bool
one_of_two spread there member =
    not (begins_pairs spread (length there) member) || (get_or there member false || get_or there (following (length there) member) false)

-- and that of each such two, where the list tells of each member whether it is there
abbrev pub one_of_each : Spread → List Bool → Bool
one_of_each spread there = list_all (one_of_two spread there) (range_with_len 0 (length there))

-- what an element needs by the codes of its level and qualifier, of which the qualifier tells only how RAID 1E spreads its copies; of a
-- level that isn't served, all
abbrev pub need_of_1e : ℕ → Need
need_of_1e qualifier =
    if qualifier == 0 then Neighbours Adjacent
    else (if qualifier == 1 then Neighbours Offset
    else All)

abbrev pub need_of : (level qualifier : ℕ) → Need
need_of level qualifier =
    if level == 0x01 then One
    else (if level == 0x04 || level == 0x05 then AllButOne
    else (if level == 0x11 then need_of_1e qualifier
    else All))

-- the codes of the levels that keep data in more than one place: RAID 1, 4, 5 and 1E
abbrev pub keeps_more_of : ℕ → Bool
keeps_more_of level = level == 0x01 || (level == 0x04 || level == 0x05) || level == 0x11
