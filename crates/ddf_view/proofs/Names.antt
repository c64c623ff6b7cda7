-- The names in the tables of a copy.
use Rattle.std.proofs.Common.{◌≡◌, List, [], ◌∷◌, refl, ap, subst, map, filter_map, nat_eq}
use Rattle.std.specs.List.{IsDistinct}
use Rattle.std.specs.Str.{bytes_eq}
use Rattle.ddf_tables.specs.declared.disks.DiskRow.{DiskRow}
use Rattle.ddf_tables.specs.declared.disks.DiskRow.TheVariants as disk_rows
use Rattle.ddf_tables.specs.declared.arrays.ArrayRow.{ArrayRow}
use Rattle.ddf_tables.specs.declared.arrays.ArrayRow.TheVariants as array_rows
use Rattle.ddf_tables.specs.Disks.{reference_of}
use Rattle.ddf_tables.specs.Arrays.{guid_of}
use Rattle.ddf_copy.specs.declared.copy.DiskCopy.{DiskCopy}
use Rattle.ddf_copy.specs.Written.{CanBeCopy}
use Rattle.ddf_view.specs.View.{View, array_of, disk_of, view_of}
use Rattle.ddf_view.specs.Readable.{DoNamesDiffer}

pub references : (rows : List DiskRow) → filter_map reference_of rows ≡ map (λ disk. disk.reference) (filter_map disk_of rows)
references [] = refl
references (disk_rows.Entry entry ∷ rows) = ap (λ others. entry.reference ∷ others) (references rows)
references (disk_rows.Unused whole ∷ rows) = references rows

pub guids : (rows : List ArrayRow) → filter_map guid_of rows ≡ map (λ entry. entry.guid) (filter_map array_of rows)
guids [] = refl
guids (array_rows.Entry entry ∷ rows) = ap (λ others. entry.guid ∷ others) (guids rows)
guids (array_rows.Unused whole ∷ rows) = guids rows

pub names_differ : (copy : DiskCopy) (views : List View) → CanBeCopy copy → DoNamesDiffer (view_of copy ∷ views)
unfolding view_of
names_differ copy views can = record {
  references = subst (λ names. IsDistinct nat_eq names) (references copy.disks.rows) can.disks_can.have_names.all_differ;
  guids = subst (λ names. IsDistinct bytes_eq names) (guids copy.arrays.rows) can.arrays_can.have_names.all_differ;
}
