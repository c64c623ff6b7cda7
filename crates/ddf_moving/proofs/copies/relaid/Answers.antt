use Rattle.std.proofs.Common.{sym, subst}
use Rattle.ddf_header.specs.declared.reading.Header.{Header}
use Rattle.ddf_header.specs.Geometry.{IsSound}
use Rattle.ddf_moving.proofs.Can.{sound_moved}
use Rattle.ddf_moving.proofs.copies.relaid.Goals as goal

pub copy_behind-requires-clause-sound : goal.copy_behind-requires-clause-sound
copy_behind-requires-clause-sound c =
    subst (λ (header : Header). IsSound header.geometry) (sym c.moved_header-header.ensures)
    (sound_moved c.args.old.now c.args.like.now c.requires.old c.requires.like c.args.places.now.length)
