-- An array keeps what it keeps where two images are alike but at cells that it hasn't any more; and so does a group.
use Rattle.std.proofs.Common.{◌≡◌, ◌≢◌, ◌∙◌, ◌⊎◌, inl, inr, ⊎_elim, ℕ, ◌+◌, Bool, true, false, List, [], ◌∷◌, Some, Ok, refl, sym, ap, subst, nat_eq, slice_get, ◌&&◌}
use Rattle.std.specs.Prelude.{◌==◌}
use Rattle.std.specs.Map.{lookup}
use Rattle.std.proofs.lemmas.Bool.{eq-eqb, eqb-true, and_from}
use Rattle.ddf_lemmas.proofs.Options.{some_is, same_some}
use Rattle.ddf_lemmas.proofs.Tests.{and_first, and_second, true_false}
use Rattle.ddf_bay.specs.Sectors.{Image}
use Rattle.ddf_config.specs.declared.array.Array.{Array}
use Rattle.ddf_config.specs.declared.seat.Seat.{Seat}
use Rattle.ddf_config.specs.Configuration.{Configuration}
use Rattle.ddf_config.specs.Members.{same_guid}
use Rattle.ddf_array.specs.Apart.{AreSeats, IsApart}
use Rattle.ddf_array.specs.declared.part.Part.{Part}
use Rattle.ddf_array.specs.declared.place.Place.{Place}
use Rattle.ddf_array.specs.Places.{site_on}
use Rattle.ddf_array.specs.Sound.{AreSectors}
use Rattle.ddf_array.specs.Viewing.{view_of}
use Rattle.ddf_array.specs.Volume.{Volume, IsVolume}
use Rattle.ddf_array.proofs.Apart.{view_apart}
use Rattle.ddf_cells.specs.Alike.{AreAlike, IsCell}
use Rattle.ddf_cells.specs.Apart.{LiesAt}
use Rattle.ddf_cells.proofs.Alike.{depth_below}
use Rattle.ddf_cells.proofs.LyingApart.{lie_apart}
use Rattle.ddf_cells.proofs.Surely.{of_place}
use Rattle.ddf_rebuild.specs.Target.{IsInRows, IsTarget}
use Rattle.ddf_rebuild.proofs.Aiming.{cell_lies}
use Rattle.ddf_data_array.specs.Allowed.{Allowed}
use Rattle.ddf_data_array.specs.Kept.{IsKeptData}
use Rattle.ddf_data_array.proofs.RowsKept.{no_rows, rows_still}
use Rattle.ddf_data_array.proofs.Same.{kept_alike, kept_same}
use Rattle.ddf_data_group.specs.Clear.{ChangesItsCells, IsItsCell}
use Rattle.ddf_data_group.specs.Grouped.{KeepsArrays, Promises}
use Rattle.ddf_data_group.specs.Over.{AreCurrentSeats, IsOver, absent_in}
use Rattle.ddf_data_group.proofs.Clearly.{others_same, used}
use Rattle.ddf_data_group.proofs.Entries.{guid_is}
use Rattle.ddf_data_history.proofs.Viewed.{over_unique}
use Rattle.ddf_stage_promise.proofs.Remains.{Remains, lay, place_up}

-- ---- one array

-- The images are the same at each sector of the array's extents, but for cells that were available and aren't any more.
abbrev pub AreAlikeBut : (v w : Volume) → Image → Image → Type 0
AreAlikeBut v w one other = (e p x s l : ℕ) → LiesAt w e p x s l → (one s l ≡ other s l) ⊎ (IsCell v s l × (IsCell w s l → ⊥))

module _ (v w : Volume) (w_known : IsVolume w) (apart : IsApart v) (remains : Remains v w) (one other : Image) (are : AreSectors other) (alike : AreAlikeBut v w one other) where
  same : AreAlike w one other
  same s l cell =
      let lies = cell_lies w s l cell in
      ⊎_elim (λ e. e) (λ gone. absurd (gone.1 cell)) (alike cell.element cell.position cell.sector s l lies)

  -- a position that is out of sync with rows that count had no available cells
  not_target : (e p : ℕ) (part : Part) (place : Place) (slot sector : ℕ) → IsTarget w e p part place slot → IsInRows part.shape 0 place.row sector → IsCell v slot (place.start + sector) → ⊥
  not_target e p part place slot sector target rows cell =
      let up = place_up v w remains e p part place target.is_part target.is_place in
      ⊎_elim
      (λ stays.
      let lies : LiesAt w e p sector slot (place.start + sector) = record {
        part = part;
        place = place;
        is_part = target.is_part;
        is_place = target.is_place;
        below = depth_below w w_known part sector rows.below;
        is_there = target.is_there;
        lba_is = refl;
      } in
      let here = lay v w remains e p sector slot (place.start + sector) lies in
      let there = cell_lies v slot (place.start + sector) cell in
      let at = lie_apart v apart cell.element cell.position cell.sector e p sector slot (place.start + sector) there here in
      let of = of_place cell.part.places cell.position cell.sector (site_on slot (place.start + sector)) cell.is_site in
      let part_same : cell.part ≡ up.0 = some_is (sym cell.is_part ∙ ap (slice_get v.parts) at.0 ∙ up.2) in
      let place_same : of.place ≡ up.1 = some_is (sym of.is_place ∙ ap (λ (q : Part). slice_get q.places cell.position) part_same ∙ ap (slice_get up.0.places) at.1 ∙ up.3) in
      let sync : true ≡ false = sym of.is_synced ∙ ap (λ (q : Place). q.synced) place_same ∙ sym stays.0 ∙ target.is_out in
      cc)
      (λ out. no_rows part place.row sector out.1 rows) up.4.sync_is

  pub kept_between : (is_absent : ℕ → ℕ → Bool) (allowed : Allowed) → IsKeptData is_absent w one allowed → IsKeptData is_absent w other allowed
  kept_between is_absent allowed kept =
      kept_alike w w_known one other same is_absent allowed are
      (rows_still is_absent w w_known one other same (λ e p part place slot sector target rows.
      ⊎_elim (λ stays. sym stays) (λ gone. absurd (not_target e p part place slot sector target rows gone.0))
      (alike e p sector slot (place.start + sector)
      (record {
        part = part;
        place = place;
        is_part = target.is_part;
        is_place = target.is_place;
        below = depth_below w w_known part sector rows.below;
        is_there = target.is_there;
        lba_is = refl;
      }))) kept.rows)
      kept

-- ---- a sector of one array is none of another

-- an image of nothing, and one that differs from it at one sector
abbrev blank : Image
blank s l = []

abbrev spot_by : Bool → List ℕ
spot_by true = 0 ∷ []
spot_by false = []

abbrev spotted : (s l : ℕ) → Image
spotted s l t m = spot_by ((t == s) && (m == l))

module _ (config : Configuration) (guid : List ℕ) (seats : List Seat) (v : Volume) (view : view_of config guid seats ≡ Ok v) (known : IsVolume v) (are : AreCurrentSeats config.members seats) (seated : AreSeats config.members seats) where
  spot_changes : (s l : ℕ) → IsCell v s l → ChangesItsCells v blank (spotted s l)
  spot_changes s l cell t m = by ((t == s) && (m == l)) refl
    where
      its : IsItsCell v s l
      its = record { element = cell.element; position = cell.position; sector = cell.sector; lies = cell_lies v s l cell }

      by : (b : Bool) → ((t == s) && (m == l)) ≡ b → (◌≡◌ {A = List ℕ} (spot_by ((t == s) && (m == l))) []) ⊎ IsItsCell v t m
      by true is =
          let on = eqb-true t s (and_first (t == s) (m == l) is) in
          let at = eqb-true m l (and_second (t == s) (m == l) is) in
          inr (subst (λ (n : ℕ). IsItsCell v n m) (sym on) (subst (IsItsCell v s) (sym at) its))
      by false is = inl (ap spot_by is)

  -- an available sector of an array that can be used is one of no other array's extents
  pub aside : (s l : ℕ) → IsCell v s l → (other : List ℕ) (array : Array) (u : Volume) → other ≢ guid → lookup (same_guid other) config.arrays ≡ Some array → IsOver seats array u
      → (e p x : ℕ) → LiesAt u e p x s l → ⊥
  aside s l cell other array u differs found over e p x lies =
      let same = others_same config guid seats v (used config guid seats v view known) are seated blank (spotted s l) (spot_changes s l cell) other array u differs found over e p x s l lies in
      let here : ((s == s) && (l == l)) ≡ true = and_from (s == s) (l == l) (eq-eqb s s refl) (eq-eqb l l refl) in
      let never : ◌≡◌ {A = List ℕ} [] (0 ∷ []) = same ∙ ap spot_by here in
      cc

-- ---- the arrays of a group

-- From one configuration over seats to another: each array of the later one was one of the earlier, of which less may be available now.
abbrev pub ArraysRemain : (before after : Configuration) (seats fewer : List Seat) → Type 0
ArraysRemain before after seats fewer =
    (guid : List ℕ) (array : Array) → lookup (same_guid guid) after.arrays ≡ Some array
    → (was : Array) × (lookup (same_guid guid) before.arrays ≡ Some was) × ((w : Volume) → IsOver fewer array w → (v : Volume) × IsOver seats was v × Remains v w)

module _ (before after : Configuration) (seats fewer : List Seat) (are : AreCurrentSeats before.members seats) (seated : AreSeats before.members seats) (remain : ArraysRemain before after seats fewer)
    (Below : ℕ → ℕ → Type 0) (below : (array : Array) (w : Volume) → IsOver fewer array w → (e p x s l : ℕ) → LiesAt w e p x s l → Below s l)
    (guid : List ℕ) (v : Volume) (view : view_of before guid seats ≡ Ok v) (known : IsVolume v) (one other : Image) (are_other : AreSectors one → AreSectors other)
    -- the images are alike where arrays lie, but at available cells of one array, which it hasn't any more
    (alike : (s l : ℕ) → Below s l → (one s l ≡ other s l) ⊎ (IsCell v s l × ((w : Volume) → Remains v w → IsCell w s l → (array : Array) → lookup (same_guid guid) after.arrays ≡ Some array → IsOver fewer array w → ⊥))) where
  by_guid : (b : Bool) (its : List ℕ) → same_guid guid its ≡ b → (allowed : Allowed) (array : Array) → lookup (same_guid its) after.arrays ≡ Some array → (w : Volume) → IsOver fewer array w → (is_absent : ℕ → ℕ → Bool)
      → IsKeptData is_absent w one allowed → IsKeptData is_absent w other allowed
  by_guid true its is allowed array found w over is_absent kept =
      let same = guid_is guid its is in
      let here : lookup (same_guid guid) after.arrays ≡ Some array = ap (λ (g : List ℕ). lookup (same_guid g) after.arrays) same ∙ found in
      let was = remain guid array here in
      let from = was.2 w over in
      let use_of = used before guid seats v view known in
      let arrays : use_of.array ≡ was.0 = same_some (lookup (same_guid guid) before.arrays) use_of.array was.0 use_of.is_found was.1 in
      let is_v : from.0 ≡ v = over_unique seats was.0 from.0 v from.1 (subst (λ (a : Array). IsOver seats a v) arrays use_of.over) in
      let remains : Remains v w = subst (λ (u : Volume). Remains u w) is_v from.2 in
      kept_between v w over.is_volume (view_apart before guid seats v view seated) remains one other (are_other kept.sound.are_sectors)
      (λ e p x s l lies. ⊎_elim inl (λ gone. inr (gone.0, λ cell. gone.1 w remains cell array here over)) (alike s l (below array w over e p x s l lies))) is_absent allowed kept
  by_guid false its differs allowed array found w over is_absent kept =
      let was = remain its array found in
      let from = was.2 w over in
      kept_same is_absent w one other allowed over.is_volume (are_other kept.sound.are_sectors)
      (λ e p x s l lies.
      ⊎_elim (λ same. same)
      (λ gone. absurd (aside before guid seats v view known are seated s l gone.0 its was.0 from.0
      (λ same. true_false (same_guid guid its) (ap (same_guid guid) same ∙ self guid) differs) was.1 from.1 e p x (lay from.0 w from.2 e p x s l lies)))
      (alike s l (below array w over e p x s l lies))) kept
    where
      self : (xs : List ℕ) → same_guid xs xs ≡ true
      self [] = refl
      self (x ∷ xs) = and_from (nat_eq x x) (same_guid xs xs) (eq-eqb x x refl) (self xs)

  pub arrays_between : (promises : Promises) → KeepsArrays after fewer one promises → KeepsArrays after fewer other promises
  arrays_between promises kept its allowed array promised found w over =
      by_guid (same_guid guid its) its refl allowed array found w over (absent_in after.members fewer array.elements) (kept its allowed array promised found w over)
