use Rattle.std.proofs.Common.{◌≡◌, take}
use Rattle.ddf_seal.specs.Unread.{cleared}
use Rattle.ddf_seal.proofs.unread.clear.Given as goal

abbrev pub invariant-loop-field : goal.invariant-loop-field
invariant-loop-field l = l.bytes ≡ cleared (take l.field-index l.fields) l.fn.bytes
