-- The spare record that a change gives can be written.
use Rattle.std.proofs.Common.{◌≡◌, ℕ, suc, ◌<◌, ◌≤◌, ◌^◌, Bool, true, false, cond, List, [], ◌∷◌, length, map, Option, Some, None, refl, ap, sym, ◌∙◌, subst, arith}
use Rattle.std.proofs.lemmas.List.{length-replicate}
use Rattle.std.specs.Prelude.{slice_get, filter, nat_eq}
use Rattle.std.specs.List.{AllByRecursion}
use Rattle.std.specs.Map.{lookup}
use Rattle.std.proofs.lemmas.Bool.{cond-false, cond-true}
use Rattle.ddf_seal.proofs.Records.{written_outside}
use Rattle.ddf_header.specs.declared.geometry.Geometry.{Geometry}
use Rattle.ddf_header.specs.Geometry.{IsSound}
use Rattle.ddf_config_records.specs.declared.spare.SpareRecord.{SpareRecord}
use Rattle.ddf_config_records.specs.declared.layout.TheConstants.{SPARE_ENTRIES_AT}
use Rattle.ddf_config_records.specs.Elements.{record_size, HasRoom}
use Rattle.ddf_config_records.specs.Spares.{spare_fields, CanBeSpare}
use Rattle.ddf_config_records.specs.Building.{spare_bytes, spare_entries}
use Rattle.ddf_config_records.proofs.SpareRecords.{count_fits, spare_within}
use Rattle.ddf_config_records.proofs.Building.{entries_fit, spare_over_can}
use Rattle.ddf_config.specs.Configuration.{Configuration}
use Rattle.ddf_config.specs.declared.array.Array.{Array}
use Rattle.ddf_config.specs.declared.member.Member.{Member}
use Rattle.ddf_config.specs.declared.member.SpareUse.TheVariants as uses
use Rattle.ddf_config.specs.declared.member.SpareUse.{SpareUse}
use Rattle.ddf_rewrite.specs.Elements.{is_spare_for}
use Rattle.ddf_rewrite.specs.Hold.{FitsArray}
use Rattle.ddf_rewrite.specs.Readable.{HasSpares}
use Rattle.ddf_rewrite.specs.Spares.{arrays_of_spare, kind_of_spare, same_spare_record, spare_after, spare_at_time, spare_use, time_of}

-- ---- the record of a spare

kind_small : (use_as : SpareUse) → kind_of_spare use_as < 2 ^ 8
kind_small uses.No = omega arith
kind_small uses.Global = omega arith
kind_small uses.Revertible = omega arith
kind_small (uses.Dedicated arrays) = omega arith

abbrev pub CanBeOwn : Geometry → Option SpareRecord → Type 0
CanBeOwn geometry None = Unit {0}
CanBeOwn geometry (Some own) = CanBeSpare geometry own

-- the bytes that a record is written over have its size
bytes_long : (geometry : Geometry) (own : Option SpareRecord) → HasRoom geometry → CanBeOwn geometry own → length (spare_bytes geometry own) ≡ record_size geometry
bytes_long geometry None room can = length-replicate {A = ℕ} (record_size geometry) 255
bytes_long geometry (Some spare) room can =
    let whole = room.whole in
    let size = can.size in
    let fits = count_fits spare.rest (omega (arith, whole, size)) in
    let counted = can.counted in
    let within = spare_within spare (length spare.rest) (omega (arith, whole, size)) (omega (arith, fits, counted)) in
    (written_outside (spare_fields spare) spare.rest within.1 can.is_record.fields_fit).size ∙ size

at_time_can : (geometry : Geometry) (own : Option SpareRecord) (timestamp : ℕ) (use_as : SpareUse) → IsSound geometry → HasRoom geometry → timestamp < 2 ^ 32 → AllByRecursion (λ guid. length guid ≡ 24) (arrays_of_spare use_as)
    → length (arrays_of_spare use_as) ≤ spare_entries geometry → CanBeOwn geometry own → CanBeSpare geometry (spare_at_time geometry own timestamp use_as)
at_time_can geometry own timestamp use_as sound room time guids few can =
    spare_over_can geometry (spare_bytes geometry own) (record { timestamp = timestamp; kind = kind_of_spare use_as; arrays = arrays_of_spare use_as; rest = [] }) sound (bytes_long geometry own room can) few
    (time, (kind_small use_as, entries_fit SPARE_ENTRIES_AT (arrays_of_spare use_as) guids))

-- with another time
timed_can : (geometry : Geometry) (spare : SpareRecord) (timestamp : ℕ) → timestamp < 2 ^ 32 → CanBeSpare geometry spare → CanBeSpare geometry (record spare { timestamp = timestamp })
timed_can geometry spare timestamp time can = record {
  size = can.size;
  counted = can.counted;
  is_record = record { fields_fit = (time, can.is_record.fields_fit.1); others_clear = can.is_record.others_clear };
}

time_small : (own new : SpareRecord) → own.timestamp < 2 ^ 32 → new.timestamp < 2 ^ 32 → time_of own new < 2 ^ 32
time_small own new mine its = go (same_spare_record new own)
  where
    go : (b : Bool) → cond b own.timestamp new.timestamp < 2 ^ 32
    go true = mine
    go false = its

-- The spare record after a change can be written.
pub spare_can : (geometry : Geometry) (timestamp : ℕ) (use_as : SpareUse) (own : Option SpareRecord) → IsSound geometry → HasRoom geometry → timestamp < 2 ^ 32 → AllByRecursion (λ guid. length guid ≡ 24) (arrays_of_spare use_as)
    → length (arrays_of_spare use_as) ≤ spare_entries geometry → CanBeOwn geometry own → CanBeSpare geometry (spare_after geometry timestamp use_as own)
unfolding spare_after
spare_can geometry timestamp use_as None sound room time guids few can = at_time_can geometry None timestamp use_as sound room time guids few can
spare_can geometry timestamp use_as (Some own) sound room time guids few can =
    let new = spare_at_time geometry (Some own) timestamp use_as in
    timed_can geometry new (time_of own new) (time_small own new can.is_record.fields_fit.0 time) (at_time_can geometry (Some own) timestamp use_as sound room time guids few can)

-- ---- the arrays of a spare

found_member : (reference : ℕ) (members : List (ℕ × Member)) (member : Member) → lookup (nat_eq reference) members ≡ Some member → (i : ℕ) × (one : ℕ × Member) × (slice_get members i ≡ Some one) × (one.1 ≡ member)
found_member reference [] member h = absurd cc
found_member reference (x ∷ members) member h = go (found_member reference members member) (nat_eq reference x.0) refl
  where
    go : (lookup (nat_eq reference) members ≡ Some member → (i : ℕ) × (one : ℕ × Member) × (slice_get members i ≡ Some one) × (one.1 ≡ member)) → (b : Bool) → nat_eq reference x.0 ≡ b
        → (i : ℕ) × (one : ℕ × Member) × (slice_get (x ∷ members) i ≡ Some one) × (one.1 ≡ member)
    go later true e = let got : Some x.1 ≡ Some member = sym (cond-true (nat_eq reference x.0) (Some x.1) (lookup (nat_eq reference) members) e) ∙ h in (0, x, refl, cc)
    go later false e = let rest = later (sym (cond-false (nat_eq reference x.0) (Some x.1) (lookup (nat_eq reference) members) e) ∙ h) in (suc rest.0, rest.1, rest.2, rest.3)

guids_long : (t : List ℕ → Bool) (arrays : List (List ℕ × Array)) → AllByRecursion FitsArray arrays → AllByRecursion (λ guid. length guid ≡ 24) (filter t (map (λ entry. entry.0) arrays))
guids_long t [] all = tt
guids_long t (entry ∷ arrays) all = go (guids_long t arrays all.1) (t entry.0) refl
  where
    go : AllByRecursion (λ guid. length guid ≡ 24) (filter t (map (λ one. one.0) arrays)) → (b : Bool) → t entry.0 ≡ b → AllByRecursion (λ guid. length guid ≡ 24) (filter t (entry.0 ∷ map (λ one. one.0) arrays))
    go rest true e = rw e (all.0.guid, rest)
    go rest false e = rw e rest

-- The arrays of a spare are arrays of the configuration.
pub spare_arrays_fit : (config : Configuration) (reference : ℕ) → HasSpares config → AllByRecursion FitsArray config.arrays → AllByRecursion (λ guid. length guid ≡ 24) (arrays_of_spare (spare_use config reference))
spare_arrays_fit config reference spares fit = go (lookup (nat_eq reference) config.members) refl
  where
    by_use : (i : ℕ) (one : ℕ × Member) → slice_get config.members i ≡ Some one → (use_as : SpareUse) → one.1.spare ≡ use_as → AllByRecursion (λ guid. length guid ≡ 24) (arrays_of_spare use_as)
    by_use i one at uses.No e = tt
    by_use i one at uses.Global e = tt
    by_use i one at uses.Revertible e = tt
    by_use i one at (uses.Dedicated arrays) e =
        subst (λ (l : List (List ℕ)). AllByRecursion (λ guid. length guid ≡ 24) l) (spares.listed i one arrays at e).0 (guids_long (λ guid. is_spare_for guid (uses.Dedicated arrays)) config.arrays fit)

    go : (o : Option Member) → lookup (nat_eq reference) config.members ≡ o → AllByRecursion (λ guid. length guid ≡ 24) (arrays_of_spare (elim o [ None ↦ uses.No | Some member ↦ member.spare ]))
    go None e = tt
    go (Some member) e =
        let place = found_member reference config.members member e in
        by_use place.0 place.1 place.2 member.spare (ap (λ (one : Member). one.spare) place.3)
