-- The names of the primary RAID levels, by their codes in the standard. Some of them aren't served.
use Rattle.std.specs.Prelude.{ℕ, List, codes, ◌==◌, if◌then◌else◌}

abbrev pub level_name : ℕ → List ℕ
level_name level =
    if level == 0x00 then codes "RAID 0" else
    if level == 0x01 then codes "RAID 1" else
    if level == 0x03 then codes "RAID 3" else
    if level == 0x04 then codes "RAID 4" else
    if level == 0x05 then codes "RAID 5" else
    if level == 0x06 then codes "RAID 6" else
    if level == 0x07 then codes "MDF" else
    if level == 0x0F then codes "JBOD" else
    if level == 0x11 then codes "RAID 1E" else
    if level == 0x15 then codes "RAID 5E" else
    if level == 0x1F then codes "Concatenation" else
    if level == 0x25 then codes "RAID 5EE" else
    if level == 0x35 then codes "RAID 5R" else
    codes "unknown"
