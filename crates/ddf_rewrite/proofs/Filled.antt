-- Entries by which Linux knows the disks that are being filled say the same of their disks as those that they are made of.
use Rattle.std.proofs.Common.{◌≡◌, ℕ, ◌+◌, Bool, true, false, not, ◌&&◌, cond, eqb, List, [], ◌∷◌, length, map, Option, Some, None, refl, sym, ap, ◌∙◌, arith}
use Rattle.std.proofs.lemmas.List.{length-map}
use Rattle.std.proofs.lemmas.Nat.{and_or_apart}
use Rattle.std.specs.Prelude.{filter, find}
use Rattle.std.specs.Option.{option_eq}
use Rattle.std.specs.List.{AllByRecursion, enumerate_from}
use Rattle.std.specs.Int.RustNames.{bit_and}
use Rattle.std.specs.Str.{bytes_eq}
use Rattle.std.specs.Cmp.Lexicographic.{pointwise}
use Rattle.ddf_header.specs.declared.kind.Revision.{Revision}
use Rattle.ddf_tables.specs.DiskFlags.{spare}
use Rattle.ddf_tables.specs.Disks.{IsDiskRow}
use Rattle.ddf_tables.specs.declared.disks.DiskEntry.{DiskEntry}
use Rattle.ddf_tables.specs.declared.disks.DiskRow.TheVariants as disk_rows
use Rattle.ddf_config.specs.Configuration.{Configuration}
use Rattle.ddf_config.specs.declared.member.Member.{Member}
use Rattle.ddf_config.specs.declared.member.SpareUse.{SpareUse}
use Rattle.ddf_config.specs.declared.member.SpareUse.TheVariants as uses
use Rattle.ddf_view.specs.Differ.{numbered_disk, same_disk, told_kind}
use Rattle.ddf_view.specs.Reading.{dedicated_or_not, is_dedicated, spare_in, spare_of_kind}
use Rattle.ddf_view.specs.Shows.{gives_member, gives_spare, same_spare}
use Rattle.ddf_view.specs.View.{View, has_bit}
use Rattle.ddf_rewrite.specs.Disks.{disks_for, filled, is_behind, is_filled, is_linux, with_flag}
use Rattle.ddf_rewrite.specs.Wanted.{Wanted, all_wanted}
use Rattle.ddf_rewrite.proofs.Flags.{flag_fits, flag_other}

-- ---- the type

told_flag : (test : Bool) (kind : ℕ) → bit_and (with_flag test spare kind) 0xFFF7 ≡ bit_and kind 0xFFF7
told_flag true kind = and_or_apart 0xFFF7 kind spare refl
told_flag false kind = refl

told_as : (rebuilt global linux noted behind : Bool) (kind : ℕ)
    → cond (rebuilt && not global) (bit_and (with_flag (rebuilt && not global && linux && noted && behind) spare kind) 0xFFF7) (with_flag (rebuilt && not global && linux && noted && behind) spare kind)
    ≡ cond (rebuilt && not global) (bit_and kind 0xFFF7) kind
told_as true true linux noted behind kind = refl
told_as true false linux noted behind kind = told_flag (linux && noted && behind) kind
told_as false global linux noted behind kind = refl

-- it tells alike whether the disk is a spare for every array
pub filled_global : (revision : Revision) (noted : Bool) (all : List Wanted) (disk : DiskEntry) → has_bit (filled revision noted all disk).kind.0 2 ≡ has_bit disk.kind.0 2
filled_global revision noted all disk = ap (λ (n : ℕ). eqb n 1) (flag_other (is_filled revision noted all disk) spare disk.kind.0 2 refl)

-- the type is compared alike
pub filled_told : (revision : Revision) (noted : Bool) (all : List Wanted) (disk : DiskEntry) → told_kind (filled revision noted all disk) ≡ told_kind disk
filled_told revision noted all disk =
    let made = (filled revision noted all disk).kind.0 in
    ap (λ (b : Bool). cond (has_bit disk.state.0 2 && not b) (bit_and made 0xFFF7) made) (filled_global revision noted all disk)
    ∙ told_as (has_bit disk.state.0 2) (has_bit disk.kind.0 2) (is_linux revision) noted (is_behind all disk.reference) disk.kind.0

-- and what the disk is a spare for
kind_alike : (rebuilt global linux noted behind : Bool) (kind : ℕ) → has_bit kind 2 ≡ global → (otherwise : SpareUse)
    → spare_of_kind (with_flag (rebuilt && not global && linux && noted && behind) spare kind) otherwise ≡ spare_of_kind kind otherwise
kind_alike false global linux noted behind kind is otherwise = refl
kind_alike true true linux noted behind kind is otherwise = refl
kind_alike true false linux noted behind kind is otherwise =
    let made = with_flag (linux && noted && behind) spare kind in
    let bit : has_bit made 2 ≡ has_bit kind 2 = ap (λ (n : ℕ). eqb n 1) (flag_other (linux && noted && behind) spare kind 2 refl) in
    ap (λ (b : Bool). cond b (cond (has_bit made 3) uses.Revertible uses.Global) otherwise) (bit ∙ is)
    ∙ sym (ap (λ (b : Bool). cond b (cond (has_bit kind 3) uses.Revertible uses.Global) otherwise) is)

pub filled_use : (revision : Revision) (noted : Bool) (all : List Wanted) (disk : DiskEntry) (otherwise : SpareUse) → spare_of_kind (filled revision noted all disk).kind.0 otherwise ≡ spare_of_kind disk.kind.0 otherwise
filled_use revision noted all disk otherwise =
    kind_alike (has_bit disk.state.0 2) (has_bit disk.kind.0 2) (is_linux revision) noted (is_behind all disk.reference) disk.kind.0 refl otherwise

-- ---- what is given

-- members
pub filled_gives : (revision : Revision) (noted : Bool) (all : List Wanted) (disks : List DiskEntry) (members : List (ℕ × Member))
    → pointwise gives_member (map (filled revision noted all) disks) members ≡ pointwise gives_member disks members
filled_gives revision noted all [] [] = refl
filled_gives revision noted all [] (member ∷ members) = refl
filled_gives revision noted all (disk ∷ disks) [] = refl
filled_gives revision noted all (disk ∷ disks) (member ∷ members) = ap (λ (b : Bool). gives_member disk member && b) (filled_gives revision noted all disks members)

-- the spare use of a member
filled_spare : (revision : Revision) (noted : Bool) (all : List Wanted) (view : View) (disk : DiskEntry) (member : ℕ × Member) → gives_spare view (filled revision noted all disk) member ≡ gives_spare view disk member
unfolding spare_in
filled_spare revision noted all view disk member =
    let otherwise = dedicated_or_not (map (λ row. row.guid) (filter (is_dedicated (view ∷ []) disk.reference) view.arrays)) in
    ap (λ (use_ : SpareUse). same_spare use_ member.1.spare) (filled_use revision noted all disk otherwise)

pub filled_spares : (revision : Revision) (noted : Bool) (all : List Wanted) (view : View) (disks : List DiskEntry) (members : List (ℕ × Member))
    → pointwise (gives_spare view) (map (filled revision noted all) disks) members ≡ pointwise (gives_spare view) disks members
filled_spares revision noted all view [] [] = refl
filled_spares revision noted all view [] (member ∷ members) = refl
filled_spares revision noted all view (disk ∷ disks) [] = refl
filled_spares revision noted all view (disk ∷ disks) (member ∷ members) =
    ap (λ (b : Bool). b && pointwise (gives_spare view) (map (filled revision noted all) disks) members) (filled_spare revision noted all view disk member)
    ∙ ap (λ (b : Bool). gives_spare view disk member && b) (filled_spares revision noted all view disks members)

-- ---- what is compared

-- what is made of an item is as the item
pub find_made : {X : Type 0} (p : ℕ × X → Bool) (same : ℕ × X → ℕ × X → Bool) (f : X → X) → ((n : ℕ) (x : X) → p (n, f x) ≡ p (n, x)) → ((n : ℕ) (x : X) (other : ℕ × X) → same (n, f x) other ≡ same (n, x) other)
    → (n : ℕ) (xs : List X) (o : Option (ℕ × X)) → option_eq same (find p (enumerate_from n (map f xs))) o ≡ option_eq same (find p (enumerate_from n xs)) o
find_made p same f alike is n [] o = refl
find_made {X = X} p same f alike is n (x ∷ xs) o = go (find_made p same f alike is (n + 1) xs o) (p (n, x)) refl
  where
    one : (o : Option (ℕ × X)) → option_eq same (Some (n, f x)) o ≡ option_eq same (Some (n, x)) o
    one None = refl
    one (Some other) = is n x other

    go : option_eq same (find p (enumerate_from (n + 1) (map f xs))) o ≡ option_eq same (find p (enumerate_from (n + 1) xs)) o → (b : Bool) → p (n, x) ≡ b
        → option_eq same (find p (enumerate_from n (map f (x ∷ xs)))) o ≡ option_eq same (find p (enumerate_from n (x ∷ xs))) o
    go rest true e = let made : p (n, f x) ≡ true = alike n x ∙ e in rw (e, made) (one o)
    go rest false e = let made : p (n, f x) ≡ false = alike n x ∙ e in rw (e, made) rest

-- so it is where it is compared with
find_made_with : {X : Type 0} (p : ℕ × X → Bool) (same : ℕ × X → ℕ × X → Bool) (f : X → X) → ((n : ℕ) (x : X) → p (n, f x) ≡ p (n, x)) → ((n : ℕ) (x : X) (other : ℕ × X) → same other (n, f x) ≡ same other (n, x))
    → (n : ℕ) (xs : List X) (o : Option (ℕ × X)) → option_eq same o (find p (enumerate_from n (map f xs))) ≡ option_eq same o (find p (enumerate_from n xs))
find_made_with p same f alike is n [] o = refl
find_made_with {X = X} p same f alike is n (x ∷ xs) o = go (find_made_with p same f alike is (n + 1) xs o) (p (n, x)) refl
  where
    one : (o : Option (ℕ × X)) → option_eq same o (Some (n, f x)) ≡ option_eq same o (Some (n, x))
    one None = refl
    one (Some other) = is n x other

    go : option_eq same o (find p (enumerate_from (n + 1) (map f xs))) ≡ option_eq same o (find p (enumerate_from (n + 1) xs)) → (b : Bool) → p (n, x) ≡ b
        → option_eq same o (find p (enumerate_from n (map f (x ∷ xs)))) ≡ option_eq same o (find p (enumerate_from n (x ∷ xs)))
    go rest true e = let made : p (n, f x) ≡ true = alike n x ∙ e in rw (e, made) (one o)
    go rest false e = let made : p (n, f x) ≡ false = alike n x ∙ e in rw (e, made) rest

-- a disk, with its place
filled_same : (revision : Revision) (noted : Bool) (all : List Wanted) (n : ℕ) (disk : DiskEntry) (other : ℕ × DiskEntry) → same_disk (n, filled revision noted all disk) other ≡ same_disk (n, disk) other
filled_same revision noted all n disk other =
    ap (λ (kind : ℕ). eqb n other.0 && bytes_eq disk.guid other.1.guid && eqb kind (told_kind other.1) && eqb disk.state.0 other.1.state.0 && eqb disk.size other.1.size) (filled_told revision noted all disk)

filled_same_with : (revision : Revision) (noted : Bool) (all : List Wanted) (n : ℕ) (disk : DiskEntry) (other : ℕ × DiskEntry) → same_disk other (n, filled revision noted all disk) ≡ same_disk other (n, disk)
filled_same_with revision noted all n disk other =
    ap (λ (kind : ℕ). eqb other.0 n && bytes_eq other.1.guid disk.guid && eqb (told_kind other.1) kind && eqb other.1.state.0 disk.state.0 && eqb other.1.size disk.size) (filled_told revision noted all disk)

-- Tables compare alike.
pub filled_alike : (revision : Revision) (noted : Bool) (config : Configuration) (disks : List DiskEntry) (reference : ℕ) (o : Option (ℕ × DiskEntry))
    → option_eq same_disk (numbered_disk reference (disks_for revision noted config disks)) o ≡ option_eq same_disk (numbered_disk reference disks) o
unfolding disks_for
filled_alike revision noted config disks reference o =
    find_made (λ pair. eqb pair.1.reference reference) same_disk (filled revision noted (all_wanted config)) (λ n disk. refl) (λ n disk other. filled_same revision noted (all_wanted config) n disk other) 0 disks o

pub filled_alike_with : (revision : Revision) (noted : Bool) (config : Configuration) (disks : List DiskEntry) (reference : ℕ) (o : Option (ℕ × DiskEntry))
    → option_eq same_disk o (numbered_disk reference (disks_for revision noted config disks)) ≡ option_eq same_disk o (numbered_disk reference disks)
unfolding disks_for
filled_alike_with revision noted config disks reference o =
    find_made_with (λ pair. eqb pair.1.reference reference) same_disk (filled revision noted (all_wanted config)) (λ n disk. refl) (λ n disk other. filled_same_with revision noted (all_wanted config) n disk other) 0 disks o

-- Two tables differ in a disk where what they are made of does.
pub both_filled : (config : Configuration) (revision other_revision : Revision) (noted other_noted : Bool) (disks others : List DiskEntry) (reference : ℕ)
    → option_eq same_disk (numbered_disk reference (disks_for revision noted config disks)) (numbered_disk reference (disks_for other_revision other_noted config others)) ≡ option_eq same_disk (numbered_disk reference disks) (numbered_disk reference others)
both_filled config revision other_revision noted other_noted disks others reference =
    filled_alike revision noted config disks reference (numbered_disk reference (disks_for other_revision other_noted config others))
    ∙ filled_alike_with other_revision other_noted config others reference (numbered_disk reference disks)

-- ---- a table

-- as many entries
pub filled_count : (revision : Revision) (noted : Bool) (config : Configuration) (disks : List DiskEntry) → length (disks_for revision noted config disks) ≡ length disks
unfolding disks_for
filled_count revision noted config disks = length-map disks (filled revision noted (all_wanted config))

-- with their references
pub filled_references : (revision : Revision) (noted : Bool) (all : List Wanted) (disks : List DiskEntry) → map (λ (disk : DiskEntry). disk.reference) (map (filled revision noted all) disks) ≡ map (λ (disk : DiskEntry). disk.reference) disks
filled_references revision noted all [] = refl
filled_references revision noted all (disk ∷ disks) = ap (λ (list : List ℕ). disk.reference ∷ list) (filled_references revision noted all disks)

-- that can be written
filled_row : (revision : Revision) (noted : Bool) (all : List Wanted) (disk : DiskEntry) → IsDiskRow (disk_rows.Entry disk) → IsDiskRow (disk_rows.Entry (filled revision noted all disk))
filled_row revision noted all disk is =
    let fit = is.0.fields_fit in (
      record {
        fields_fit = (fit.0, (fit.1.0, (flag_fits (is_filled revision noted all disk) spare disk.kind.0 (omega arith) fit.1.1.0, fit.1.1.1)));
        others_clear = is.0.others_clear;
      },
      is.1,
      is.2,
    )

pub filled_rows : (revision : Revision) (noted : Bool) (all : List Wanted) (disks : List DiskEntry) → AllByRecursion (λ disk. IsDiskRow (disk_rows.Entry disk)) disks → AllByRecursion (λ disk. IsDiskRow (disk_rows.Entry disk)) (map (filled revision noted all) disks)
filled_rows revision noted all [] are = tt
filled_rows revision noted all (disk ∷ disks) are = (filled_row revision noted all disk are.0, filled_rows revision noted all disks are.1)
