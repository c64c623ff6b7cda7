-- Why a header or a copy isn't what it is to be, as it prints.
use Rattle.std.specs.Prelude.{ℕ, List, ◌++◌, codes}
use Rattle.std.specs.Fmt.{decimal}
use Rattle.ddf_seal.specs.declared.sealing.SealFault.{SealFault}
use Rattle.ddf_seal.specs.declared.sealing.SealFault.TheVariants as seal_faults
use Rattle.ddf_header.specs.declared.fault.HeaderFault.{HeaderFault}
use Rattle.ddf_header.specs.declared.fault.HeaderFault.TheVariants as faults
use Rattle.ddf_tables.specs.declared.fault.TableFault.{TableFault}
use Rattle.ddf_tables.specs.declared.fault.TableFault.TheVariants as table_faults
use Rattle.ddf_copy.specs.declared.fault.SectionName.{SectionName}
use Rattle.ddf_copy.specs.declared.fault.SectionName.TheVariants as names
use Rattle.ddf_copy.specs.declared.fault.CopyFault.{CopyFault}
use Rattle.ddf_copy.specs.declared.fault.CopyFault.TheVariants as copy_faults
use Rattle.ddf_text.specs.Hexes.{hex8, hex32}

-- why bytes aren't sealed
abbrev pub seal_reason : SealFault → List ℕ
seal_reason (seal_faults.Signature found) = codes "signature " ++ hex32 found
seal_reason (seal_faults.Crc stored counted) = codes "crc " ++ hex32 stored ++ codes " " ++ hex32 counted

-- why a sector is no header of its kind
abbrev pub reason_text : HeaderFault → List ℕ
reason_text (faults.Seal fault) = seal_reason fault
reason_text faults.Revision = codes "revision"
reason_text (faults.OpenFlag flag) = codes "openflag " ++ hex8 flag
reason_text faults.Place = codes "place"
reason_text (faults.Kind kind) = codes "kind " ++ hex8 kind
reason_text (faults.Geometry offset) = codes "geometry " ++ decimal offset

-- the word of a section
abbrev pub section_word : SectionName → List ℕ
section_word names.Controller = codes "controller"
section_word names.Disks = codes "disks"
section_word names.Arrays = codes "arrays"
section_word names.Records = codes "records"
section_word names.DiskData = codes "diskdata"
section_word names.BadBlocks = codes "badblocks"

-- why a section isn't what it is to be
abbrev pub section_reason : TableFault → List ℕ
section_reason (table_faults.Seal fault) = seal_reason fault
section_reason (table_faults.Count stated found) = codes "count " ++ decimal stated ++ codes " " ++ decimal found
section_reason (table_faults.TwiceSameReference reference) = codes "twice"
section_reason (table_faults.TwiceSameGuid guid) = codes "twice"
section_reason table_faults.Memory = codes "memory"

-- why a copy isn't whole
abbrev pub copy_reason : CopyFault → List ℕ
copy_reason (copy_faults.Header fault) = codes "header " ++ reason_text fault
copy_reason (copy_faults.Opened sequence) = codes "open"
copy_reason (copy_faults.Anchor offset) = codes "anchor " ++ decimal offset
copy_reason (copy_faults.Room offset) = codes "room " ++ decimal offset
copy_reason (copy_faults.Section name fault) = section_word name ++ codes " " ++ section_reason fault
copy_reason (copy_faults.Slot slot fault) = codes "record " ++ decimal slot ++ codes " " ++ seal_reason fault
copy_reason (copy_faults.Disk slot) = codes "fault"
copy_reason copy_faults.Memory = codes "memory"
