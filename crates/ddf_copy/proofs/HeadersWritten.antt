-- The headers that a copy is written behind can be written.
use Rattle.std.proofs.Common.{ℕ, ◌≤◌, refl, arith}
use Rattle.std.proofs.lemmas.Bool.{le-leb}
use Rattle.ddf_header.specs.declared.kind.HeaderKind.TheVariants.{Anchor}
use Rattle.ddf_header.specs.declared.reading.Header.{Header}
use Rattle.ddf_header.specs.Header.{IsWritable, is_open_flag}
use Rattle.ddf_copy.specs.declared.which.Which.{Which}
use Rattle.ddf_copy.specs.declared.which.Which.TheVariants.{Primary, Secondary}
use Rattle.ddf_copy.specs.Which.{kind_of}

-- a header with another kind, open flag and sequence
pub gate_can : (header : Header) (which : Which) (openness : ℕ) → openness ≤ 15 → IsWritable header.kind header
    → IsWritable (kind_of which) (record header { kind = kind_of which; openness = openness })
unfolding is_open_flag
gate_can header Primary openness low can =
    let fits = can.is_record.fields_fit in
    record {
      is_header = record { of_kind = refl; has_flag = le-leb openness 15 low; has_places = can.is_header.has_places; has_geometry = can.is_header.has_geometry };
      is_record = record { fields_fit = (fits.0, (fits.1.0, (fits.1.1.0, (fits.1.1.1.0, (omega (arith, low), (fits.1.1.1.1.1.0, (fits.1.1.1.1.1.1.0, (omega arith, fits.1.1.1.1.1.1.1.1)))))))); others_clear = can.is_record.others_clear };
      rest_size = can.rest_size;
    }
gate_can header Secondary openness low can =
    let fits = can.is_record.fields_fit in
    record {
      is_header = record { of_kind = refl; has_flag = le-leb openness 15 low; has_places = can.is_header.has_places; has_geometry = can.is_header.has_geometry };
      is_record = record { fields_fit = (fits.0, (fits.1.0, (fits.1.1.0, (fits.1.1.1.0, (omega (arith, low), (fits.1.1.1.1.1.0, (fits.1.1.1.1.1.1.0, (omega arith, fits.1.1.1.1.1.1.1.1)))))))); others_clear = can.is_record.others_clear };
      rest_size = can.rest_size;
    }

pub anchor_can : (header : Header) → IsWritable header.kind header → IsWritable Anchor (record header { kind = Anchor; openness = 0xFF; sequence = 0xFFFF_FFFF })
unfolding is_open_flag
anchor_can header can =
    let fits = can.is_record.fields_fit in
    record {
      is_header = record { of_kind = refl; has_flag = refl; has_places = can.is_header.has_places; has_geometry = can.is_header.has_geometry };
      is_record = record { fields_fit = (fits.0, (fits.1.0, (omega arith, (fits.1.1.1.0, (omega arith, (fits.1.1.1.1.1.0, (fits.1.1.1.1.1.1.0, (omega arith, fits.1.1.1.1.1.1.1.1)))))))); others_clear = can.is_record.others_clear };
      rest_size = can.rest_size;
    }
