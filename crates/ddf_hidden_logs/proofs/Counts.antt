-- What counts against a disk can be the count of its log.
use Rattle.std.proofs.Common.{◌≡◌, ℕ, ◌+◌, ◌*◌, ◌<◌, ◌≤◌, ◌^◌, Bool, true, false, List, length, Option, Some, None, Result, Ok, Err, refl, sym, ap, arith}
use Rattle.std.specs.Prelude.{max, is_some, if◌then◌else◌, ◌-◌}
use Rattle.std.specs.Option.{option_map_or}
use Rattle.ddf_bay.specs.Sectors.{IsWhole}
use Rattle.ddf_header.specs.declared.geometry.Geometry.{Geometry}
use Rattle.ddf_header.specs.declared.reading.Header.{Header}
use Rattle.ddf_header.specs.Geometry.{section_of}
use Rattle.ddf_tables.specs.declared.layout.TheConstants.{LOG_ENTRIES_AT, LOG_ENTRY_BYTES}
use Rattle.ddf_tables.specs.BadBlocks.{LogValue}
use Rattle.ddf_copy.specs.declared.copy.DiskCopy.{DiskCopy}
use Rattle.ddf_copy.specs.declared.fault.CopyFault.{CopyFault}
use Rattle.ddf_copy.specs.declared.which.Which.{Which}
use Rattle.ddf_copy.specs.declared.which.Which.TheVariants.{Primary, Secondary}
use Rattle.ddf_copy.specs.Copies.{copies_of, copy_of}
use Rattle.ddf_copy.proofs.Places.{alike}
use Rattle.ddf_logs.specs.Logs.{bad_in, entries_of, honoured}
use Rattle.ddf_hidden_logs.proofs.Shows.{read_log}

-- so many entries have room in so many sectors
abbrev pub Fits : (sectors count : ℕ) → Type 0
Fits sectors count = (count < 2 ^ 16) × (LOG_ENTRIES_AT + LOG_ENTRY_BYTES * count ≤ 512 * sectors)

none_fits : (sectors : ℕ) → 0 < sectors → Fits sectors 0
none_fits sectors some = (omega arith, omega (arith, some))

module _ (size : ℕ) (sector : ℕ → List ℕ) (whole : (l : ℕ) → IsWhole (sector l)) (anchor : Header) (which : Which) (copy : DiskCopy) (is : copy_of size sector anchor which ≡ Ok copy)
    (log : LogValue) (has : copy.bad ≡ Some log) where
  abbrev sectors : ℕ
  sectors = (section_of copy.header.geometry 5).length

  some : 0 < sectors
  some = (read_log size sector whole anchor which copy is log has).some

  -- the entries that a whole copy lists do
  of_log : (place : Which) (other : DiskCopy) → copy_of size sector anchor place ≡ Ok other → (bad : Option LogValue) → other.bad ≡ bad → Fits sectors (option_map_or (λ one. length one.entries) bad 0)
  of_log place other also None none = none_fits sectors some
  of_log place other also (Some one) there =
      let read = read_log size sector whole anchor place other also one there in
      let same : section_of other.header.geometry 5 ≡ section_of copy.header.geometry 5 = ap (λ (geometry : Geometry). section_of geometry 5) (sym (alike size anchor sector sector which place copy other is also).same_sections) in
      let room : LOG_ENTRIES_AT + LOG_ENTRY_BYTES * length one.entries ≤ 512 * sectors = rw same at read.room in
      (read.few, room)

  of_read : (place : Which) (found : Result DiskCopy CopyFault) → copy_of size sector anchor place ≡ found → Fits sectors (entries_of found)
  of_read place (Ok other) also = of_log place other also other.bad refl
  of_read place (Err fault) none = none_fits sectors some

  of_larger : (one other : ℕ) → Fits sectors one → Fits sectors other → Fits sectors (max one other)
  of_larger one other first second = let few = first.0 in let also = second.0 in let room = first.1 in let more = second.1 in (omega (arith, few, also), omega (arith, room, more))

  of_test : (test : Bool) (one other : ℕ) → Fits sectors one → Fits sectors other → Fits sectors (if test then 0 else max one other)
  of_test true one other first second = none_fits sectors some
  of_test false one other first second = of_larger one other first second

  -- and so does what counts against the disk
  pub bad_fits : Fits sectors (bad_in (size - 1) anchor (copies_of size sector anchor))
  bad_fits =
      of_test (is_some (honoured (size - 1) anchor (copies_of size sector anchor)))
      (entries_of (copy_of size sector anchor Primary))
      (entries_of (copy_of size sector anchor Secondary))
      (of_read Primary (copy_of size sector anchor Primary) refl)
      (of_read Secondary (copy_of size sector anchor Secondary) refl)
