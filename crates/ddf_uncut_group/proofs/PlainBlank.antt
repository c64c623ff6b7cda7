-- A disk of zeros is blank.
use Rattle.std.proofs.Common.{◌≡◌, ℕ, ◌==◌, Bool, true, false, [], Result, Err, if◌then◌else◌, refl}
use Rattle.ddf_bay.specs.Logged.{held_of, zeros}
use Rattle.ddf_header.specs.declared.reading.Header.{Header}
use Rattle.ddf_copy.specs.declared.fault.AnchorFault.{AnchorFault}
use Rattle.ddf_copy.specs.declared.fault.AnchorFault.TheVariants.{Blank}
use Rattle.ddf_copy.specs.Anchor.{anchor_at, anchor_in}

-- A sector of zeros is no anchor.
zeros_blank : anchor_in zeros ≡ Err Blank
unfolding anchor_in zeros
zeros_blank = refl

-- So a disk of zeros has none.
pub held_blank : (size slot : ℕ) → anchor_at size (held_of [] slot) ≡ Err Blank
unfolding anchor_at
held_blank size slot = by (size == 0)
  where
    by : (none : Bool) → ◌≡◌ {A = Result Header AnchorFault} (if none then Err Blank else anchor_in zeros) (Err Blank)
    by true = refl
    by false = zeros_blank
