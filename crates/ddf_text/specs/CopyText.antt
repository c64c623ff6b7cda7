-- The lines that `examine` prints of the copies of a disk.
use Rattle.std.specs.Prelude.{ℕ, List, [], ◌++◌, Option, Some, None, Result, Ok, Err, codes}
use Rattle.ddf_copy.specs.declared.which.Which.TheVariants.{Primary, Secondary}
use Rattle.ddf_copy.specs.declared.copy.DiskCopy.{DiskCopy}
use Rattle.ddf_copy.specs.declared.fault.CopyFault.{CopyFault}
use Rattle.ddf_copy.specs.declared.copies.Copies.{Copies}
use Rattle.ddf_copy.specs.declared.newest_copy.Newest.{Newest}
use Rattle.ddf_copy.specs.declared.newest_copy.Newest.TheVariants as newests
use Rattle.ddf_copy.specs.Copies.{newest_of_copies}
use Rattle.ddf_text.specs.Reasons.{copy_reason}
use Rattle.ddf_text.specs.Records.{sections_text}

-- that a copy is whole, or why it isn't
abbrev pub copy_text : Result DiskCopy CopyFault → List ℕ
copy_text (Ok copy) = codes "whole"
copy_text (Err fault) = copy_reason fault

abbrev pub copy_line : List ℕ → Result DiskCopy CopyFault → List ℕ
copy_line which copy = which ++ codes " copy " ++ copy_text copy ++ codes "\n"

unfoldable pub copy_lines : Copies → List ℕ
copy_lines copies = copy_line (codes "primary") copies.primary ++ copy_line (codes "secondary") copies.secondary

-- which copy is the newest
abbrev pub newest_word : Newest → List ℕ
newest_word (newests.One Primary copy) = codes "primary"
newest_word (newests.One Secondary copy) = codes "secondary"
newest_word (newests.Level copy) = codes "level"
newest_word (newests.TwoDiffer primary secondary) = codes "differ"
newest_word (newests.Neither first second) = codes "neither"

abbrev pub newest_line : Newest → List ℕ
newest_line newest = codes "newest " ++ newest_word newest ++ codes "\n"

-- the copy whose records are listed: the newest, and of two of one sequence the primary one
abbrev pub listed : Newest → Option DiskCopy
listed (newests.One which copy) = Some copy
listed (newests.Level copy) = Some copy
listed (newests.TwoDiffer primary secondary) = Some primary
listed (newests.Neither first second) = None

abbrev pub listing_text : Option DiskCopy → List ℕ
listing_text None = []
listing_text (Some copy) = sections_text copy

-- which copy is the newest, and its records
unfoldable pub newest_text : Newest → List ℕ
newest_text newest = newest_line newest ++ listing_text (listed newest)

-- whether each copy is whole, which is the newest, and its records
abbrev pub copies_text : Copies → List ℕ
copies_text copies = copy_lines copies ++ newest_text (newest_of_copies copies)
