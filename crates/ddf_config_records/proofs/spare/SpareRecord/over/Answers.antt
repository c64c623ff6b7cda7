use Rattle.std.proofs.Common.{◌≡◌, ◌∷◌, ◌∙◌, ap, sym, subst, length, option_copied, List, ℕ, arith}
use Rattle.ddf_seal.specs.Seal.{seal_place}
use Rattle.ddf_seal.specs.Unread.{u16_at, cleared, places, written}
use Rattle.ddf_config_records.specs.declared.layout.TheConstants.{SPARE_POPULATED_AT, SPARE_MAXIMUM_AT}
use Rattle.ddf_config_records.specs.Elements.{record_size}
use Rattle.ddf_config_records.specs.Spares.{spare_fields, CanBeSpare}
use Rattle.ddf_config_records.specs.Building.{secondary_fields, spare_bytes, spare_numbers}
use Rattle.ddf_config_records.proofs.Building.{record_small, spare_over_can}
use Rattle.ddf_config_records.proofs.spare.SpareRecord.over.Goals as goal

pub set_numbers-requires-clause-small : goal.set_numbers-requires-clause-small
set_numbers-requires-clause-small c = omega (arith, record_small c.args.geometry.now c.requires.sound, c.spare_entries.ensures)

pub returns-clause-exact : goal.returns-clause-exact
returns-clause-exact c =
    let spare = c.args.self in
    let geometry = c.args.geometry.now in
    let spans = seal_place ∷ places (spare_fields spare) in
    let count : length c.items-count.result.now ≡ length spare.arrays = ap length c.items-count.ensures in
    let set : c.set_numbers.new.bytes.items ≡ written (spare_numbers geometry (length spare.arrays)) c.in_ok-rest.rest.items =
    c.set_numbers.ensures.exact
    ∙ ap (λ (n : ℕ). written (u16_at SPARE_POPULATED_AT n ∷ u16_at SPARE_MAXIMUM_AT c.spare_entries.result ∷ secondary_fields n) c.in_ok-rest.rest.items) count
    ∙ ap (λ (n : ℕ). written (u16_at SPARE_POPULATED_AT (length spare.arrays) ∷ u16_at SPARE_MAXIMUM_AT n ∷ secondary_fields (length spare.arrays)) c.in_ok-rest.rest.items) c.spare_entries.ensures in
    let rest : c.clear_fields.new.bytes.items ≡ cleared spans (written (spare_numbers geometry (length spare.arrays)) (spare_bytes geometry (option_copied c.args.bytes))) =
    c.clear_fields.ensures spare (sym count) ∙ ap (cleared spans) (set ∙ ap (written (spare_numbers geometry (length spare.arrays))) c.in_ok-rest.ensures.exact) in
    c.with_rest.ensures.exact ∙ ap (λ (l : List ℕ). record spare { rest = l }) rest

pub returns-clause-writable : goal.returns-clause-writable
returns-clause-writable c =
    let geometry = c.args.geometry.now in
    let bytes = spare_bytes geometry (option_copied c.args.bytes) in
    let long : length bytes ≡ record_size geometry = sym (ap length c.in_ok-rest.ensures.exact) ∙ c.in_ok-rest.ensures.size in
    subst (CanBeSpare geometry) (sym (returns-clause-exact c)) (spare_over_can geometry bytes c.args.self c.requires.sound long c.requires.room c.with_rest.ensures.fits)
