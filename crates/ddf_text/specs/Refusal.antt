-- The lines of refusals, and of a disk that failed.
use Rattle.std.specs.Prelude.{ℕ, List, ◌++◌, codes}
use Rattle.std.specs.Fmt.{decimal}
use Rattle.ddf_config.specs.declared.refusal.FullTable.{FullTable}
use Rattle.ddf_config.specs.declared.refusal.FullTable.TheVariants.{Disks, Arrays, Records, Notes, Spares}
use Rattle.ddf_config.specs.declared.refusal.Refusal.{Refusal}
use Rattle.ddf_config.specs.declared.refusal.Refusal.TheVariants.{BadBlocks, Clash, Degraded, Full, Geometry, Held, InUse, Level, Lost, Marked, NameTaken, NoArray, NoExtent, NoGroup, NoSlot, NoSpare, NoStage, NoStandIn, NotBlank, NotMember, Range, SequenceSpent, SeveralGroups, Shape, ShortPayload, Small, Unsettled, Unsure, Words}
use Rattle.ddf_text.specs.Hexes.{hex8}
use Rattle.ddf_text.specs.Levels.{level_name}
use Rattle.hex.specs.Hex.{encode_lower}

-- the table with too little room
abbrev pub table_word : FullTable → List ℕ
table_word Disks = codes "disks"
table_word Arrays = codes "arrays"
table_word Records = codes "records"
table_word Notes = codes "notes"
table_word Spares = codes "spares"

-- why a command isn't done
abbrev pub refusal_text : Refusal → List ℕ
refusal_text (Words place) = codes "refused 10 word " ++ decimal place
refusal_text (NotBlank slot) = codes "refused 11 slot " ++ decimal slot ++ codes " not blank"
refusal_text NoGroup = codes "refused 12 no group"
refusal_text (SeveralGroups first second) = codes "refused 13 groups at slots " ++ decimal first ++ codes " " ++ decimal second
refusal_text (NoSlot slot) = codes "refused 14 no slot " ++ decimal slot
refusal_text (NotMember slot) = codes "refused 15 slot " ++ decimal slot ++ codes " not a member"
refusal_text NoArray = codes "refused 16 no array"
refusal_text NameTaken = codes "refused 17 name taken"
refusal_text (Level level) = codes "refused 18 level " ++ hex8 level ++ codes " " ++ level_name level
refusal_text Shape = codes "refused 19 shape"
refusal_text (NoExtent slot) = codes "refused 20 no extent on slot " ++ decimal slot
refusal_text (Full table) = codes "refused 21 full " ++ table_word table
refusal_text Lost = codes "refused 22 lost"
refusal_text Unsure = codes "refused 23 unsure"
refusal_text Marked = codes "refused 24 marked"
refusal_text Degraded = codes "refused 25 degraded"
refusal_text (Range capacity) = codes "refused 26 range " ++ decimal capacity
refusal_text NoSpare = codes "refused 27 no spare"
refusal_text (Small needed found) = codes "refused 28 small " ++ decimal needed ++ codes " " ++ decimal found
refusal_text Geometry = codes "refused 29 geometry"
refusal_text SequenceSpent = codes "refused 30 sequence spent"
refusal_text (BadBlocks slot) = codes "refused 31 bad blocks on slot " ++ decimal slot
refusal_text (ShortPayload found) = codes "refused 32 short payload " ++ decimal found
refusal_text (InUse slot) = codes "refused 33 slot " ++ decimal slot ++ codes " in use"
refusal_text (Clash guid) = codes "refused 34 clash " ++ encode_lower guid
refusal_text Held = codes "refused 35 held"
refusal_text (NoStage slot) = codes "refused 37 no stage on slot " ++ decimal slot
refusal_text NoStandIn = codes "refused 38 no stand-in"
refusal_text Unsettled = codes "refused 39 unsettled"

abbrev pub refusal_line : Refusal → List ℕ
refusal_line refusal = refusal_text refusal ++ codes "\n"

-- a call on a slot failed
abbrev pub disk_fault_line : ℕ → List ℕ
disk_fault_line slot = codes "disk fault slot " ++ decimal slot ++ codes "\n"
