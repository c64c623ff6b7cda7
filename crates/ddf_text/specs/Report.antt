-- The lines that `examine` prints of a slot.
use Rattle.std.specs.Prelude.{ℕ, ◌-◌, List, [], ◌++◌, Option, Some, None, Result, Ok, Err, ◌==◌, nat_lt, codes, if◌then◌else◌}
use Rattle.std.specs.Fmt.{decimal}
use Rattle.hex.specs.Hex.{encode_lower}
use Rattle.ddf_header.specs.declared.reading.Header.{Header}
use Rattle.ddf_header.specs.Layout.{revision_text}
use Rattle.ddf_text.specs.declared.view.HeaderView.{HeaderView}
use Rattle.ddf_text.specs.declared.view.HeaderView.TheVariants as header_views
use Rattle.ddf_text.specs.declared.view.Headers.{Headers}
use Rattle.ddf_text.specs.declared.view.DiskView.{DiskView}
use Rattle.ddf_text.specs.declared.view.DiskView.TheVariants as views
use Rattle.ddf_copy.specs.declared.fault.ShowFault.{ShowFault}
use Rattle.ddf_copy.specs.declared.fault.ShowFault.TheVariants.{Disk, Memory}
use Rattle.ddf_text.specs.Reasons.{reason_text}
use Rattle.ddf_text.specs.CopyText.{copies_text}

-- a primary or secondary header
abbrev pub header_text : HeaderView → List ℕ
header_text (header_views.Header header) =
    (if header.openness == 0 then codes "closed" else codes "open") ++ codes " sequence " ++ decimal header.sequence
header_text header_views.Room = codes "room"
header_text (header_views.Fault fault) = reason_text fault

-- the sequence of a header whose gate is closed
abbrev pub closed_sequence : HeaderView → Option ℕ
closed_sequence (header_views.Header header) = if header.openness == 0 then Some header.sequence else None
closed_sequence view = None

-- which closed header has the greater sequence
abbrev pub closed_text : Option ℕ → Option ℕ → List ℕ
closed_text None None = codes "none"
closed_text (Some primary) None = codes "primary"
closed_text None (Some secondary) = codes "secondary"
closed_text (Some primary) (Some secondary) =
    if primary == secondary then codes "both" else if nat_lt secondary primary then codes "primary" else codes "secondary"

abbrev pub group_line : ℕ → ℕ → Header → List ℕ
group_line slot sectors anchor =
    codes "slot " ++ decimal slot ++ codes " sectors " ++ decimal sectors ++ codes " group " ++ encode_lower anchor.guid
    ++ codes " revision " ++ revision_text anchor.revision ++ codes "\n"

abbrev pub place_line : ℕ → Header → List ℕ
place_line sectors anchor =
    codes "anchor " ++ decimal (sectors - 1) ++ codes " primary " ++ decimal anchor.primary_lba
    ++ codes " secondary " ++ decimal anchor.secondary_lba ++ codes " workspace " ++ decimal anchor.geometry.workspace_lba
    ++ codes " length " ++ decimal anchor.geometry.workspace_length ++ codes "\n"

abbrev pub headers_lines : Headers → List ℕ
headers_lines headers =
    codes "primary header " ++ header_text headers.primary ++ codes "\nsecondary header " ++ header_text headers.secondary
    ++ codes "\nclosed " ++ closed_text (closed_sequence headers.primary) (closed_sequence headers.secondary) ++ codes "\n"

-- a call on the slot failed
abbrev pub fault_text : ℕ → List ℕ
fault_text slot = codes "slot " ++ decimal slot ++ codes " fault\n"

-- the lines of the three headers
unfoldable pub head_text : ℕ → ℕ → Headers → List ℕ
head_text slot sectors headers = group_line slot sectors headers.anchor ++ place_line sectors headers.anchor ++ headers_lines headers

-- what the slot shows
abbrev pub view_text : ℕ → ℕ → DiskView → List ℕ
view_text slot sectors views.Blank = codes "slot " ++ decimal slot ++ codes " blank\n"
view_text slot sectors (views.Damaged fault) = codes "slot " ++ decimal slot ++ codes " damaged " ++ reason_text fault ++ codes "\n"
view_text slot sectors (views.Headers headers) = head_text slot sectors headers ++ copies_text headers.copies

-- what is told of a look at a slot
abbrev pub report_text : ℕ → ℕ → Result DiskView ShowFault → List ℕ
report_text slot sectors (Ok view) = view_text slot sectors view
report_text slot sectors (Err (Disk named)) = fault_text slot
report_text slot sectors (Err Memory) = []

-- Something is told of it: memory didn't run out.
abbrev pub IsTold : Result DiskView ShowFault → Type 0
IsTold (Ok view) = Unit {0}
IsTold (Err (Disk named)) = Unit {0}
IsTold (Err Memory) = ⊥
