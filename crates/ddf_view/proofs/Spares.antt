-- The spares that are gathered by arrays give each disk the use that it has.
use Rattle.std.proofs.Common.{◌≡◌, ℕ, Bool, true, false, ◌&&◌, ◌||◌, cond, eqb, List, [], ◌∷◌, ◌++◌, map, Option, Some, None, refl, ap, ◌∙◌}
use Rattle.std.proofs.lemmas.List.Folds.{list_any-append}
use Rattle.std.specs.Prelude.{filter, filter_map}
use Rattle.std.specs.List.{cons_option, flat_map, list_any, range_with_len}
use Rattle.ddf_tables.specs.declared.disks.DiskEntry.{DiskEntry}
use Rattle.ddf_tables.specs.declared.arrays.ArrayEntry.{ArrayEntry}
use Rattle.ddf_config.specs.declared.member.Member.{Member}
use Rattle.ddf_config.specs.declared.member.SpareUse.{SpareUse}
use Rattle.ddf_view.specs.View.{HeldRecord, View, find_held}
use Rattle.ddf_view.specs.Reading.{arrays_in, count_in, dedicated_or_not, elements_in, is_associated, is_dedicated, member_entry_in, names_array, spare_in, spare_of_kind}
use Rattle.ddf_view.specs.Spares.{dedicated_among, entry_with, held_spares, listed_in, member_entry_among, named_by, named_in, counts_own, spare_among, spare_names, spares_of}

-- ---- an array

-- a test of the spares of each record
any_held : (p : ℕ → Bool) (f : ℕ → Option HeldRecord) (xs : List ℕ) → list_any p (flat_map (λ x. held_spares (f x)) xs) ≡ list_any (λ held. list_any p held.element.spares) (filter_map f xs)
any_held p f [] = refl
any_held p f (x ∷ xs) =
    list_any-append p (held_spares (f x)) (flat_map (λ x. held_spares (f x)) xs) ∙ ap (λ (b : Bool). list_any p (held_spares (f x)) || b) (any_held p f xs) ∙ at_one (f x)
  where
    at_one : (o : Option HeldRecord) → (list_any p (held_spares o) || list_any (λ held. list_any p held.element.spares) (filter_map f xs)) ≡ list_any (λ held. list_any p held.element.spares) (cons_option o (filter_map f xs))
    at_one None = refl
    at_one (Some held) = refl

-- a test of the disks that name an array
any_named : (reference : ℕ) (array : List ℕ) (views : List View) → list_any (λ spare. eqb spare reference) (flat_map (named_by array) views) ≡ list_any (names_array reference array) views
any_named reference array [] = refl
any_named reference array (view ∷ views) =
    list_any-append (λ spare. eqb spare reference) (named_by array view) (flat_map (named_by array) views)
    ∙ ap (λ (b : Bool). list_any (λ spare. eqb spare reference) (named_by array view) || b) (any_named reference array views)
    ∙ ap (λ (b : Bool). b || list_any (names_array reference array) views) (at_one (spare_names array view))
  where
    both : (b : Bool) → (b || false) ≡ (b && true)
    both true = refl
    both false = refl

    neither : (b : Bool) → false ≡ (b && false)
    neither true = refl
    neither false = refl

    at_one : (named : Bool) → list_any (λ spare. eqb spare reference) (cond named (view.reference ∷ []) []) ≡ (eqb view.reference reference && named)
    at_one true = both (eqb view.reference reference)
    at_one false = neither (eqb view.reference reference)

-- the same, where they count
any_counted : (reference : ℕ) (array : List ℕ) (views : List View) → list_any (λ spare. eqb spare reference) (named_in views array) ≡ (counts_own views array && list_any (names_array reference array) views)
any_counted reference array views = where_counted (counts_own views array) ∙ ap (λ (b : Bool). counts_own views array && b) (any_named reference array views)
  where
    where_counted : (b : Bool) → list_any (λ spare. eqb spare reference) (cond b (flat_map (named_by array) views) []) ≡ (b && list_any (λ spare. eqb spare reference) (flat_map (named_by array) views))
    where_counted true = refl
    where_counted false = refl

-- A disk is among the spares of an array where it is dedicated to it.
stands_in : (views : List View) (reference : ℕ) (entry : ArrayEntry) → list_any (λ spare. eqb spare reference) (spares_of views entry).references ≡ is_dedicated views reference entry
stands_in views reference entry =
    list_any-append (λ spare. eqb spare reference) (listed_in views entry.guid) (named_in views entry.guid)
    ∙ ap (λ (b : Bool). b || list_any (λ spare. eqb spare reference) (named_in views entry.guid))
    (any_held (λ spare. eqb spare reference) (λ index. find_held entry.guid index (elements_in views)) (range_with_len 0 (count_in (elements_in views) entry.guid)))
    ∙ ap (λ (b : Bool). is_associated (elements_in views) reference entry.guid || b) (any_counted reference entry.guid views)

-- ---- a disk

-- the arrays that it is dedicated to
dedicated_alike : (views : List View) (reference : ℕ) (entries : List ArrayEntry) → dedicated_among (map (spares_of views) entries) reference ≡ map (λ entry. entry.guid) (filter (is_dedicated views reference) entries)
dedicated_alike views reference [] = refl
dedicated_alike views reference (entry ∷ entries) =
    ap (λ (b : Bool). cond b (entry.guid ∷ []) [] ++ dedicated_among (map (spares_of views) entries) reference) (stands_in views reference entry)
    ∙ ap (λ (list : List (List ℕ)). cond (is_dedicated views reference entry) (entry.guid ∷ []) [] ++ list) (dedicated_alike views reference entries)
    ∙ at_one (is_dedicated views reference entry)
  where
    at_one : (b : Bool) → (cond b (entry.guid ∷ []) [] ++ map (λ one. one.guid) (filter (is_dedicated views reference) entries)) ≡ map (λ one. one.guid) (cond b (entry ∷ filter (is_dedicated views reference) entries) (filter (is_dedicated views reference) entries))
    at_one true = refl
    at_one false = refl

-- its use
spare_alike : (views : List View) (disk : DiskEntry) → spare_among (map (spares_of views) (arrays_in views)) disk ≡ spare_in views disk
unfolding spare_in
spare_alike views disk = ap (λ (list : List (List ℕ)). spare_of_kind disk.kind.0 (dedicated_or_not list)) (dedicated_alike views disk.reference (arrays_in views))

-- Members are given alike.
pub members_alike : (views : List View) (disks : List DiskEntry) → map (member_entry_among (map (spares_of views) (arrays_in views))) disks ≡ map (member_entry_in views) disks
members_alike views [] = refl
members_alike views (disk ∷ disks) =
    ap (λ (spare : SpareUse). entry_with disk spare ∷ map (member_entry_among (map (spares_of views) (arrays_in views))) disks) (spare_alike views disk)
    ∙ ap (λ (list : List (ℕ × Member)). entry_with disk (spare_in views disk) ∷ list) (members_alike views disks)
