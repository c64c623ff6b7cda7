-- No number of a layout is great, and none of them is nothing.
use Rattle.std.proofs.Common.{◌≡◌, ℕ, ◌≤◌, None, refl, arith}
use Rattle.ddf_header.specs.Geometry.{geometry_fault, is_bad_section, is_long, is_maximum, is_member_maximum, is_short, least_bytes, meets}
use Rattle.ddf_update.specs.declared.new_layout.NewLayout.{NewLayout}
use Rattle.ddf_update.specs.declared.new_layout.NewLayout.TheVariants.{Large, Small}
use Rattle.ddf_update.specs.NewCopies.{new_geometry}
use Rattle.ddf_update.specs.NewLayouts.{copy_length, members_of, record_length_of, rows_of, slots_of}

pub few_rows : (layout : NewLayout) → rows_of layout ≤ 63
few_rows Small = omega arith
few_rows Large = omega arith

pub some_slots : (layout : NewLayout) → 1 ≤ slots_of layout
some_slots Small = omega arith
some_slots Large = omega arith

-- the numbers in a header fit their fields
pub record AreFew (layout : NewLayout) : Type 0 where
  pub rows : rows_of layout ≤ 63
  pub record_length : record_length_of layout ≤ 3
  pub members : members_of layout ≤ 64
  pub sectors : copy_length layout ≤ 200

pub are_few : (layout : NewLayout) → AreFew layout
are_few Small = record { rows = omega arith; record_length = omega arith; members = omega arith; sectors = omega arith }
are_few Large = record { rows = omega arith; record_length = omega arith; members = omega arith; sectors = omega arith }

pub no_geometry_fault : (layout : NewLayout) (size : ℕ) → geometry_fault (new_geometry layout size) ≡ None
unfolding geometry_fault is_bad_section is_long is_maximum is_member_maximum is_short least_bytes meets
no_geometry_fault Small size = refl
no_geometry_fault Large size = refl
