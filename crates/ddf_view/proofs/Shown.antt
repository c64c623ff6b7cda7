-- What follows where a view gives a part of a configuration.
use Rattle.std.proofs.Common.{◌≡◌, ℕ, Bool, true, false, ◌&&◌, eqb, List, refl, ap}
use Rattle.std.proofs.lemmas.Bool.{and_parts, eqb-true, false≢true}
use Rattle.std.specs.Str.{bytes_eq}
use Rattle.ddf_config.specs.declared.member.SpareUse.{SpareUse}
use Rattle.ddf_config.specs.declared.element.Position.{Position}
use Rattle.ddf_config.specs.ElementValue.{ElementValue as ElementPlan}
use Rattle.ddf_config.specs.declared.member.SpareUse.TheVariants as spares
use Rattle.std.specs.Cmp.Lexicographic.{pointwise}
use Rattle.ddf_view.specs.Shows.{same_flag, same_place, same_position, same_plan, same_spare}
use Rattle.ddf_view.proofs.Tests.{same_bytes, match_same, and_three, and_five}

pub flag_same : (a b : Bool) → same_flag a b ≡ true → a ≡ b
flag_same true true h = refl
flag_same true false h = absurd (false≢true h)
flag_same false true h = absurd (false≢true h)
flag_same false false h = refl

unfoldable pub make_position : (reference start : ℕ) (synced : Bool) (row : ℕ) → Position
make_position reference start synced row = record { reference = reference; start = start; synced = synced; row = row }

pub position_same : (a b : Position) → same_position a b ≡ true → a ≡ b
unfolding make_position
position_same a b h =
    let parts = and_three (same_place a b) (same_flag a.synced b.synced) (eqb a.row b.row) h in
    let place = and_parts (eqb a.reference b.reference) (eqb a.start b.start) parts.0 in
    let reference : a.reference ≡ b.reference = eqb-true a.reference b.reference place.0 in
    let start : a.start ≡ b.start = eqb-true a.start b.start place.1 in
    let synced : a.synced ≡ b.synced = flag_same a.synced b.synced parts.1 in
    let row : a.row ≡ b.row = eqb-true a.row b.row parts.2 in
    let made : make_position a.reference a.start a.synced a.row ≡ make_position b.reference b.start b.synced b.row = rw (reference, start, synced, row) refl in
    made

unfoldable pub make_plan : (level qualifier strip blocks stand_in : ℕ) → List Position → ElementPlan
make_plan level qualifier strip blocks stand_in positions =
    record { level = level; qualifier = qualifier; strip = strip; blocks = blocks; stand_in = stand_in; positions = positions }

pub plan_same : (a b : ElementPlan) → same_plan true a b ≡ true → a ≡ b
unfolding make_plan
plan_same a b h =
    let all = and_parts (eqb a.level b.level && eqb a.qualifier b.qualifier && eqb a.strip b.strip && eqb a.blocks b.blocks && eqb a.stand_in b.stand_in) (pointwise same_position a.positions b.positions) h in
    let parts = and_five (eqb a.level b.level) (eqb a.qualifier b.qualifier) (eqb a.strip b.strip) (eqb a.blocks b.blocks) (eqb a.stand_in b.stand_in) all.0 in
    let level : a.level ≡ b.level = eqb-true a.level b.level parts.0 in
    let qualifier : a.qualifier ≡ b.qualifier = eqb-true a.qualifier b.qualifier parts.1 in
    let strip : a.strip ≡ b.strip = eqb-true a.strip b.strip parts.2 in
    let blocks : a.blocks ≡ b.blocks = eqb-true a.blocks b.blocks parts.3 in
    let stand_in : a.stand_in ≡ b.stand_in = eqb-true a.stand_in b.stand_in parts.4 in
    let positions : a.positions ≡ b.positions = match_same same_position position_same a.positions b.positions all.1 in
    let made : make_plan a.level a.qualifier a.strip a.blocks a.stand_in a.positions ≡ make_plan b.level b.qualifier b.strip b.blocks b.stand_in b.positions = rw (level, qualifier, strip, blocks, stand_in, positions) refl in
    made

pub spare_same : (a b : SpareUse) → same_spare a b ≡ true → a ≡ b
spare_same spares.No spares.No h = refl
spare_same spares.No spares.Global h = absurd (false≢true h)
spare_same spares.No spares.Revertible h = absurd (false≢true h)
spare_same spares.No (spares.Dedicated others) h = absurd (false≢true h)
spare_same spares.Global spares.No h = absurd (false≢true h)
spare_same spares.Global spares.Global h = refl
spare_same spares.Global spares.Revertible h = absurd (false≢true h)
spare_same spares.Global (spares.Dedicated others) h = absurd (false≢true h)
spare_same spares.Revertible spares.No h = absurd (false≢true h)
spare_same spares.Revertible spares.Global h = absurd (false≢true h)
spare_same spares.Revertible spares.Revertible h = refl
spare_same spares.Revertible (spares.Dedicated others) h = absurd (false≢true h)
spare_same (spares.Dedicated arrays) spares.No h = absurd (false≢true h)
spare_same (spares.Dedicated arrays) spares.Global h = absurd (false≢true h)
spare_same (spares.Dedicated arrays) spares.Revertible h = absurd (false≢true h)
spare_same (spares.Dedicated arrays) (spares.Dedicated others) h = ap spares.Dedicated (match_same bytes_eq same_bytes arrays others h)
