use Rattle.std.proofs.Common.{◌≡◌, ℕ, ◌+◌, ◌<◌, ◌^◌, Some, sym, ap, ◌∙◌, subst, arith}
use Rattle.ddf_copy.specs.Written.{CanBeCopy}
use Rattle.ddf_import.specs.Moving.{moved}
use Rattle.ddf_moving.specs.Places.{copy_length}
use Rattle.ddf_moving.proofs.Can.{IsPlaced, moved_by, relaid_can}
use Rattle.ddf_moving.proofs.copies.moved_copy.Goals as goal

pub returns-in_ok-relaid-in-Some-clause-writable : goal.returns-in_ok-relaid-in-Some-clause-writable
returns-in_ok-relaid-in-Some-clause-writable c = λ x some.
    let old = c.args.old.now in
    let like = c.args.like.now in
    let places = c.in-Some.places in
    let from = old.header.geometry.workspace_lba in
    let many = old.header.geometry.workspace_length in
    let copy = copy_length like.header.geometry in
    let asked : moved from c.from-length.result c.copy_length-copy.result ≡ moved from many copy =
    ap (λ (n : ℕ). moved from n c.copy_length-copy.result) c.from-length.ensures ∙ ap (λ (n : ℕ). moved from many n) c.copy_length-copy.ensures.exact in
    let is : moved from many copy ≡ Some places = sym asked ∙ sym c.moved.ensures.exact ∙ c.in-Some.is in
    let by = moved_by from many copy places is in
    let placed : IsPlaced old like places = record { room = by.0; primary_is = by.1; secondary_is = by.2; length_is = by.3 } in
    let small = c.requires.old.header_can.is_record.fields_fit.1.1.1.1.1.1.1.1.0 in
    let fits : from + many < 2 ^ 64 = omega (arith, c.requires.place, small) in
    let same : c.in_ok-relaid-in-Some.field-0 ≡ x = cc in
    subst CanBeCopy (sym c.in_ok-relaid-in-Some.ensures ∙ same) (relaid_can old like c.requires.old c.requires.like places placed fits)
