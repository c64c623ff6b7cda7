use Rattle.std.proofs.Common.{◌≡◌, take}
use Rattle.ddf_seal.specs.Unread.{placed}
use Rattle.ddf_header.specs.declared.layout.TheConstants.{SECTIONS_AT}
use Rattle.ddf_header.proofs.Sections.{section_bytes}
use Rattle.ddf_header.proofs.geometry.put_sections.Given as goal

abbrev pub invariant-loop-index : goal.invariant-loop-index
invariant-loop-index l = l.header ≡ placed l.initial.header SECTIONS_AT (section_bytes (take l.index l.sections))
