-- What leaders record of the elements of an array, which counts where the lowest leader lists the array.
use Rattle.std.proofs.Common.{◌≡◌, ℕ, zero, suc, Bool, true, false, ◌||◌, cond, List, [], ◌∷◌, map, Some, None, ap, sym, ◌∙◌}
use Rattle.std.specs.Prelude.{slice_get}
use Rattle.std.specs.List.{list_any}
use Rattle.std.specs.Str.{bytes_eq}
use Rattle.std.proofs.lemmas.Bool.{or_right}
use Rattle.ddf_lemmas.proofs.Lists.{bytes_same, in_map}
use Rattle.ddf_tables.specs.declared.arrays.ArrayEntry.{ArrayEntry}
use Rattle.ddf_config.specs.declared.array.Array.{Array}
use Rattle.ddf_view.specs.Reading.{array_in, arrays_in, disks_in, elements_in, read}
use Rattle.ddf_view.specs.View.{HeldRecord, View, find_held}
use Rattle.ddf_rewrite.specs.Before.{Before, before, is_listed, leading_record}
use Rattle.ddf_rewrite.specs.Wanted.{Wanted, all_wanted}
use Rattle.ddf_rewrite.proofs.AllWanted.{wanted_place}

-- what is recorded of an element is held
pub leading_held : (leaders : Before) (array : List ℕ) (index : ℕ) (held : HeldRecord) → leading_record leaders array index ≡ Some held → find_held array index leaders.elements ≡ Some held
leading_held leaders array index held h = go (is_listed leaders array) h
  where
    go : (b : Bool) → cond b (find_held array index leaders.elements) None ≡ Some held → find_held array index leaders.elements ≡ Some held
    go true e = e
    go false e = absurd (let none : None ≡ Some held = e in cc)

-- what is held of an array that is listed is recorded
pub listed_leads : (leaders : Before) (array : List ℕ) (index : ℕ) → is_listed leaders array ≡ true → leading_record leaders array index ≡ find_held array index leaders.elements
listed_leads leaders array index is = ap (λ (b : Bool). cond b (find_held array index leaders.elements) None) is

-- an array is listed where an entry has its GUID
entry_listed : (entries : List ArrayEntry) (a : ℕ) (entry : ArrayEntry) → slice_get entries a ≡ Some entry → list_any (λ guid. bytes_eq guid entry.guid) (map (λ one. one.guid) entries) ≡ true
entry_listed [] a entry at = absurd cc
entry_listed (x ∷ entries) zero entry at =
    let same : x ≡ entry = cc in
    let is : bytes_eq x.guid entry.guid ≡ true = ap (λ (one : ArrayEntry). bytes_eq one.guid entry.guid) same ∙ bytes_same entry.guid in
    ap (λ (b : Bool). b || list_any (λ guid. bytes_eq guid entry.guid) (map (λ one. one.guid) entries)) is
entry_listed (x ∷ entries) (suc a) entry at =
    or_right (bytes_eq x.guid entry.guid) (list_any (λ guid. bytes_eq guid entry.guid) (map (λ one. one.guid) entries)) (entry_listed entries a entry at)

-- The arrays of a configuration that views give are those that the first one lists.
pub read_listed : (group : List ℕ) (sequence : ℕ) (views : List View) (n : ℕ) (wanted : Wanted) → slice_get (all_wanted (read group sequence views)) n ≡ Some wanted → is_listed (before views) wanted.guid ≡ true
unfolding read
read_listed group sequence views n wanted at =
    let of = wanted_place (read group sequence views) n wanted at in
    let from = in_map (λ (entry : ArrayEntry). (entry.guid, array_in (disks_in views) (elements_in views) entry)) (arrays_in views) of.a of.entry of.at in
    let guid : wanted.guid ≡ from.0.guid = of.guid_is ∙ ap (λ (pair : List ℕ × Array). pair.0) (sym from.2) in
    ap (is_listed (before views)) guid ∙ entry_listed (arrays_in views) of.a from.0 from.1
