-- The codes of the primary levels and qualifiers (the standard's tables of RAID levels), and what
-- each level takes.
use Rattle.std.specs.Prelude.{ℕ, ◌^◌, ◌*◌, ◌==◌, nat_le, Bool, ◌&&◌, IsTrue, ◌<◌, ◌≤◌, if◌then◌else◌, Result, Ok, Err}
use Rattle.ddf_mirror1e.specs.declared.spread.Spread.TheVariants.{Adjacent, Offset}
use Rattle.ddf_primary.specs.declared.layout.Layout.{Layout}
use Rattle.ddf_primary.specs.declared.layout.Layout.TheVariants.{Raid0, Raid1, Parity, Jbod, Concatenation, Mirror}
use Rattle.ddf_primary.specs.declared.parity.ParityLayout.TheVariants.{Raid4First, Raid4Last, Raid5ZeroRestart, Raid5LastRestart, Raid5LastContinuation}
use Rattle.ddf_primary.specs.declared.fault.ShapeFault.{ShapeFault}
use Rattle.ddf_primary.specs.declared.fault.ShapeFault.TheVariants.{Level, Qualifier, MemberCount, Blocks}
use Rattle.ddf_primary.specs.Placement.{Placement, placement}

-- 00 simple, 01 multi
abbrev pub raid_1 : ℕ → Result Layout ShapeFault
raid_1 qualifier = if nat_le qualifier 1 then Ok Raid1 else Err (Qualifier qualifier)

-- 00 parity in the first extent, 01 in the last
abbrev pub raid_4 : ℕ → Result Layout ShapeFault
raid_4 qualifier =
    if qualifier == 0 then Ok (Parity Raid4First)
    else (if qualifier == 1 then Ok (Parity Raid4Last)
    else Err (Qualifier qualifier))

-- 00 rotating parity 0 with data restart, 02 rotating parity N with data restart,
-- 03 rotating parity N with data continuation
abbrev pub raid_5 : ℕ → Result Layout ShapeFault
raid_5 qualifier =
    if qualifier == 0 then Ok (Parity Raid5ZeroRestart)
    else (if qualifier == 2 then Ok (Parity Raid5LastRestart)
    else (if qualifier == 3 then Ok (Parity Raid5LastContinuation)
    else Err (Qualifier qualifier)))

-- 00 adjacent, 01 offset
abbrev pub raid_1e : ℕ → Result Layout ShapeFault
raid_1e qualifier =
    if qualifier == 0 then Ok (Mirror Adjacent)
    else (if qualifier == 1 then Ok (Mirror Offset)
    else Err (Qualifier qualifier))

-- the layout that a primary level and its qualifier name; RAID 0, JBOD and concatenation take any
abbrev pub served_layout : ℕ → ℕ → Result Layout ShapeFault
served_layout level qualifier =
    if level == 0x00 then Ok Raid0
    else (if level == 0x01 then raid_1 qualifier
    else (if level == 0x04 then raid_4 qualifier
    else (if level == 0x05 then raid_5 qualifier
    else (if level == 0x0F then Ok Jbod
    else (if level == 0x11 then raid_1e qualifier
    else (if level == 0x1F then Ok Concatenation
    else Err (Level level)))))))

-- how many members a layout has; that RAID 1 has two or more, and RAID 1E three, is profile
abbrev pub takes_members : Layout → ℕ → Bool
takes_members Raid0 members = nat_le 1 members
takes_members Raid1 members = nat_le 2 members
takes_members (Parity _) members = nat_le 2 members
takes_members Jbod members = members == 1
takes_members Concatenation members = nat_le 1 members
takes_members (Mirror spread) members = nat_le 3 members

-- how many blocks its members may have: one data row's strips at least where the level has rows (profile)
abbrev pub least_blocks : Layout → ℕ → ℕ
least_blocks Raid0 strip = strip
least_blocks Raid1 strip = 1
least_blocks (Parity _) strip = strip
least_blocks Jbod strip = 1
least_blocks Concatenation strip = 1
least_blocks (Mirror spread) strip = 2 * strip

abbrev pub takes_blocks : Layout → ℕ → ℕ → Bool
takes_blocks layout strip blocks = nat_le (least_blocks layout strip) blocks && nat_le blocks (2 ^ 48)

-- the shape of a known layout, or what it does not take
abbrev pub sized_shape : Layout → ℕ → ℕ → ℕ → Result Placement ShapeFault
sized_shape layout members strip blocks =
    if takes_members layout members then
    (if takes_blocks layout strip blocks then Ok (placement layout members strip blocks)
    else Err (Blocks blocks))
    else Err (MemberCount members)

-- the shape that these numbers name, or the first fault
abbrev pub shape_of : (level qualifier members strip blocks : ℕ) → Result Placement ShapeFault
shape_of level qualifier members strip blocks =
    elim (served_layout level qualifier) [
      | Ok layout ↦ sized_shape layout members strip blocks
      | Err fault ↦ Err fault
    ]

-- what every shape keeps
pub record IsShape (shape : Placement) : Type 0 where
  pub members_fit : shape.members < 2 ^ 16
  pub members_taken : IsTrue (takes_members shape.layout shape.members)
  pub some_strip : 1 ≤ shape.strip
  pub small_strip : shape.strip ≤ 2 ^ 31
  pub blocks_taken : IsTrue (takes_blocks shape.layout shape.strip shape.blocks)
