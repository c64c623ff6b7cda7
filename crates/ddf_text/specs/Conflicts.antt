-- The lines of records of one group that contradict each other.
use Rattle.std.specs.Prelude.{ℕ, List, ◌++◌, codes}
use Rattle.std.specs.Fmt.{decimal}
use Rattle.hex.specs.Hex.{encode_lower}
use Rattle.ddf_group.specs.declared.answer.Differ.{Differ}
use Rattle.ddf_group.specs.declared.answer.Differ.TheVariants.{Array, Copies, Disk, Element, Twin}
use Rattle.ddf_text.specs.Hexes.{hex32}

-- in what they do
abbrev pub differ_text : Differ → List ℕ
differ_text Copies = codes "copies"
differ_text (Twin reference) = codes "twin " ++ hex32 reference
differ_text (Disk reference) = codes "disk " ++ hex32 reference
differ_text (Array guid) = codes "array " ++ encode_lower guid
differ_text (Element array index) = codes "element " ++ encode_lower array ++ codes " " ++ decimal index

-- two of the newest records
abbrev pub conflict_text : (i j sequence : ℕ) → Differ → List ℕ
conflict_text i j sequence differ =
    codes "conflict slots " ++ decimal i ++ codes " " ++ decimal j ++ codes " sequence " ++ decimal sequence ++ codes " " ++ differ_text differ

abbrev pub conflict_line : (i j sequence : ℕ) → Differ → List ℕ
conflict_line i j sequence differ = conflict_text i j sequence differ ++ codes "\n"

-- a newest record, and an older one that lists its disk as missing
abbrev pub split_text : (i j : ℕ) → List ℕ
split_text i j = codes "split slots " ++ decimal i ++ codes " " ++ decimal j

abbrev pub split_line : (i j : ℕ) → List ℕ
split_line i j = split_text i j ++ codes "\n"
