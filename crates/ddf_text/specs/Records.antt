-- The lines that `examine` prints of the records of a copy.
use Rattle.std.specs.Prelude.{ℕ, suc, List, [], ◌∷◌, ◌++◌, length, Option, Some, None, codes}
use Rattle.std.specs.List.{flat_map}
use Rattle.std.specs.Fmt.{decimal}
use Rattle.hex.specs.Hex.{encode_lower}
use Rattle.ddf_tables.specs.declared.disks.DiskRow.{DiskRow}
use Rattle.ddf_tables.specs.declared.disks.DiskRow.TheVariants as disk_rows
use Rattle.ddf_tables.specs.declared.arrays.ArrayRow.{ArrayRow}
use Rattle.ddf_tables.specs.declared.arrays.ArrayRow.TheVariants as array_rows
use Rattle.ddf_tables.specs.BadBlocks.{LogValue}
use Rattle.ddf_config_records.specs.declared.place.Place.{Place}
use Rattle.ddf_config_records.specs.ElementValue.{ElementValue}
use Rattle.ddf_config_records.specs.declared.slot.RecordSlot.{RecordSlot}
use Rattle.ddf_config_records.specs.declared.slot.RecordSlot.TheVariants as slots
use Rattle.ddf_config_records.specs.declared.spare.SpareRecord.{SpareRecord}
use Rattle.ddf_copy.specs.declared.copy.DiskCopy.{DiskCopy}
use Rattle.ddf_name.specs.Names.{name_text}
use Rattle.ddf_text.specs.Hexes.{hex8, hex16, hex32}

abbrev pub disk_line : DiskRow → List ℕ
disk_line (disk_rows.Entry disk) =
    codes "disk " ++ hex32 disk.reference ++ codes " " ++ encode_lower disk.guid ++ codes " type " ++ hex16 disk.kind.0
    ++ codes " state " ++ hex16 disk.state.0 ++ codes " size " ++ decimal disk.size ++ codes "\n"
disk_line (disk_rows.Unused whole) = []

abbrev pub array_line : ArrayRow → List ℕ
array_line (array_rows.Entry array) =
    codes "array " ++ name_text array.name ++ codes " " ++ encode_lower array.guid ++ codes " number " ++ decimal array.number
    ++ codes " state " ++ hex8 array.state ++ codes " init " ++ hex8 array.init ++ codes "\n"
array_line (array_rows.Unused whole) = []

abbrev pub member_text : Place → List ℕ
member_text member = codes " " ++ hex32 member.reference ++ codes "+" ++ decimal member.start

-- which element of which array
abbrev pub element_name : ElementValue → List ℕ
element_name element = codes " " ++ encode_lower element.array ++ codes " " ++ decimal element.index ++ codes " of " ++ decimal element.elements

-- how it lies on its members
abbrev pub element_layout : ElementValue → List ℕ
element_layout element =
    codes " level " ++ hex8 element.level ++ codes " " ++ hex8 element.qualifier ++ codes " strip " ++ decimal element.strip
    ++ codes " blocks " ++ decimal element.blocks ++ codes " members"

abbrev pub record_head : ℕ → List ℕ
record_head slot = codes "record " ++ decimal slot ++ codes " "

abbrev pub element_line : ℕ → List ℕ → ElementValue → List ℕ
element_line slot kind element = record_head slot ++ kind ++ element_name element ++ element_layout element ++ flat_map member_text element.members ++ codes "\n"

abbrev pub guid_text : List ℕ → List ℕ
guid_text guid = codes " " ++ encode_lower guid

abbrev pub spare_line : ℕ → SpareRecord → List ℕ
spare_line slot spare = record_head slot ++ codes "spare " ++ hex8 spare.kind ++ flat_map guid_text spare.arrays ++ codes "\n"

-- the line of a slot of the configuration records
abbrev pub record_line : ℕ → RecordSlot → List ℕ
record_line slot (slots.Element element) = element_line slot (codes "element") element
record_line slot (slots.Copied element) = element_line slot (codes "copy") element
record_line slot (slots.Spare spare) = spare_line slot spare
record_line slot (slots.Notes notes) = record_head slot ++ codes "notes sequence " ++ decimal notes.sequence ++ codes "\n"
record_line slot (slots.Vendor guid rest) = record_head slot ++ codes "vendor " ++ encode_lower guid ++ codes "\n"
record_line slot (slots.Unread fault rest) = codes "record " ++ decimal slot ++ codes " unread\n"
record_line slot (slots.Unused rest) = []

-- those of all slots, from one on
abbrev pub record_lines : ℕ → List RecordSlot → List ℕ
record_lines slot [] = []
record_lines slot (held ∷ others) = record_line slot held ++ record_lines (suc slot) others

abbrev pub bad_blocks_line : Option LogValue → List ℕ
bad_blocks_line None = []
bad_blocks_line (Some log) = codes "bad blocks " ++ decimal (length log.entries) ++ codes "\n"

-- what the sections of a copy hold
abbrev pub sections_text : DiskCopy → List ℕ
sections_text copy =
    flat_map disk_line copy.disks.rows ++ flat_map array_line copy.arrays.rows
    ++ record_lines 0 copy.slots ++ bad_blocks_line copy.bad
