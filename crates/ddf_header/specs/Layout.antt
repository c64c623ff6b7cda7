-- What the types of a header are written as (SNIA DDF 2.0, the DDF header).
use Rattle.std.specs.Prelude.{ℕ, List, Option, Some, None, if◌then◌else◌, codes}
use Rattle.std.specs.Str.{bytes_eq}
use Rattle.ddf_header.specs.declared.kind.HeaderKind.{HeaderKind}
use Rattle.ddf_header.specs.declared.kind.HeaderKind.TheVariants.{Anchor, Primary, Secondary}
use Rattle.ddf_header.specs.declared.kind.Revision.{Revision}
use Rattle.ddf_header.specs.declared.kind.Revision.TheVariants.{R100, R120, R200}

-- the type byte
abbrev pub kind_code : HeaderKind → ℕ
kind_code Anchor = 0
kind_code Primary = 1
kind_code Secondary = 2

-- the eight characters of a revision
abbrev pub revision_text : Revision → List ℕ
revision_text R100 = codes "01.00.00"
revision_text R120 = codes "01.02.00"
revision_text R200 = codes "02.00.00"

-- the revision that a text names
unfoldable pub revision_of : List ℕ → Option Revision
revision_of text =
    if bytes_eq text (revision_text R100) then Some R100
    else if bytes_eq text (revision_text R120) then Some R120
    else if bytes_eq text (revision_text R200) then Some R200
    else None
