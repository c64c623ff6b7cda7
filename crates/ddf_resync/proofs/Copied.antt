-- The copies of blocks, made equal run by run.
use Rattle.std.proofs.Common.{◌≡◌, ◌∙◌, ◌⊎◌, inl, inr, ⊎_elim, ℕ, suc, ◌+◌, ◌-◌, ◌<◌, ◌≤◌, List, [], ◌∷◌, Bool, true, false, Some, refl, sym, ap, subst, arith, map, length, slice_get}
use Rattle.std.specs.Prelude.{slice_index_or}
use Rattle.std.proofs.lemmas.Bool.{cases_lt}
use Rattle.ddf_lemmas.proofs.Lists.{in_map}
use Rattle.ddf_bay.specs.Sectors.{Image}
use Rattle.ddf_array.specs.declared.site.Site.{Site}
use Rattle.ddf_array.specs.Apart.{IsApart}
use Rattle.ddf_array.specs.Places.{site_on}
use Rattle.ddf_array.specs.Sources.{Source, copies, copy, first_copy, sources, trusts_parity}
use Rattle.ddf_array.specs.Values.{bytes_at, given}
use Rattle.ddf_array.specs.Volume.{Volume, IsVolume}
use Rattle.ddf_read.specs.Reading.{IsGivenBy}
use Rattle.ddf_read.proofs.BlockSources.{sources_untrusted}
use Rattle.ddf_read.proofs.GivenLaws.{one_of}
use Rattle.ddf_read.proofs.Tries.{IsGivenBy-wider, Within}
use Rattle.ddf_read.proofs.Common.{first_taken_by}
use Rattle.ddf_cells.specs.CellsOn.{GivesCells}
use Rattle.ddf_cells.specs.Touching.{IsTouchedSlot}
use Rattle.ddf_cells.proofs.CopiesOn.{on_position}
use Rattle.ddf_cells.proofs.Lists.{some_not_none}
use Rattle.ddf_cells.proofs.OnCells.{on_cell, one_owner}
use Rattle.ddf_resync.specs.Copying.{AreAsBefore, AreCopied, AreNoted, HasOneCopy}
use Rattle.ddf_resync.specs.Resyncing.{IsHeld, MayResync}
use Rattle.ddf_resync.specs.Several.{has_other}

-- ---- what copies give

-- bytes of the first copy
pub first_by : (failed : ℕ → Type 0) (image : Image) (cs : List Site) (i : ℕ) (one : Site) (bytes : List ℕ) → slice_get cs i ≡ Some one → ((first : Site) → slice_get cs 0 ≡ Some first → bytes ≡ bytes_at image first) → IsGivenBy failed image (map copy cs) bytes
first_by failed image [] i one bytes at is = absurd (some_not_none one (sym at))
first_by failed image (c ∷ cs) i one bytes at is = inl (is c refl)

pub given_alone : (failed : ℕ → Type 0) (v : Volume) (image : Image) (block i : ℕ) (one : Site) (bytes : List ℕ) → HasOneCopy v block → slice_get (copies v block) i ≡ Some one → bytes ≡ bytes_at image one
    → IsGivenBy failed image (map copy (copies v block)) bytes
given_alone failed v image block i one bytes alone at is =
    first_by failed image (copies v block) i one bytes at (λ first is_first. is ∙ ap (bytes_at image) (alone i 0 one first at is_first))

-- the same of another image that has the same there
given_same : (failed : ℕ → Type 0) (a b : Image) (cs : List Site) (bytes : List ℕ) → ((i : ℕ) (one : Site) → slice_get cs i ≡ Some one → bytes_at a one ≡ bytes_at b one) → IsGivenBy failed a (map copy cs) bytes → IsGivenBy failed b (map copy cs) bytes
given_same failed a b [] bytes same is = is
given_same failed a b (c ∷ cs) bytes same is = ⊎_elim (λ here. inl (here ∙ same 0 c refl)) (λ later. inr (later.0, given_same failed a b cs bytes (λ i one at. same (suc i) one at) later.1)) is

pub given_held : (v : Volume) (failed : ℕ → Type 0) (image : Image) (block : ℕ) (bytes : List ℕ) → IsGivenBy failed image (map copy (copies v block)) bytes → IsHeld v image block bytes
given_held v failed image block bytes is =
    let from = one_of failed image (map copy (copies v block)) bytes is in
    let its = in_map copy (copies v block) from.0 from.1.0 from.1.1 in
    record { number = from.0; other = its.0; is_copy = its.1; bytes_are = from.1.2 ∙ ap (given image) (sym its.2) }

pub first_taken : (failed : ℕ → Type 0) (v : Volume) (image : Image) (block : ℕ) (first : Site) (bytes : List ℕ) → first_copy v block ≡ Some first → (failed first.slot → ⊥) → IsGivenBy failed image (map copy (copies v block)) bytes
    → bytes ≡ bytes_at image first
first_taken failed v image block first bytes at never is = first_taken_by failed image (copies v block) first bytes at never is

pub given_marked : (v : Volume) → trusts_parity v ≡ false → (failed : ℕ → Type 0) (image : Image) (block : ℕ) (bytes : List ℕ) → IsGivenBy failed image (sources v block) bytes → IsGivenBy failed image (map copy (copies v block)) bytes
given_marked v marked failed image block bytes is = subst (λ (l : List Source). IsGivenBy failed image l bytes) (sources_untrusted v block marked) is

-- ---- blocks of a range

module _ (v : Volume) where
  -- none is copied yet
  pub copied_start : (failed : ℕ → Type 0) (image : Image) (from : ℕ) → AreCopied failed v image image from from
  copied_start failed image from = record {
    equal = λ b i j one other above below at at'. absurd (omega (arith, above, below));
    given = λ b i one above below at. absurd (omega (arith, above, below));
    earlier = λ b i one before at. refl;
    later = λ b i one behind at. refl;
  }

  -- blocks with one cell need nothing
  pub copied_alone : (failed : ℕ → Type 0) (image : Image) (from n : ℕ) → ((k : ℕ) → k < n → HasOneCopy v (from + k)) → AreCopied failed v image image from (from + n)
  copied_alone failed image from n alone = record {
    equal = λ b i j one other above below at at'. ap (bytes_at image) (its b above below i j one other at at');
    given = λ b i one above below at. given_alone failed v image b i one (bytes_at image one) (its b above below) at refl;
    earlier = λ b i one before at. refl;
    later = λ b i one behind at. refl;
  }
    where
      its : (b : ℕ) → from ≤ b → b < from + n → HasOneCopy v b
      its b above below = let same : from + (b - from) ≡ b = omega (arith, above) in subst (HasOneCopy v) same (alone (b - from) (omega (arith, above, below)))

  -- a run is read, and written to all cells of its blocks
  module _ (failed : ℕ → Type 0) (old new : Image) (from n : ℕ) (out : List (List ℕ)) (are : (k : ℕ) → k < n → IsGivenBy failed old (map copy (copies v (from + k))) (slice_index_or out k []))
      (set : (k i : ℕ) (one : Site) → k < n → slice_get (copies v (from + k)) i ≡ Some one → bytes_at new one ≡ slice_index_or out k [])
      (stays : (b i : ℕ) (one : Site) → ((k : ℕ) → k < n → b ≡ from + k → ⊥) → slice_get (copies v b) i ≡ Some one → bytes_at new one ≡ bytes_at old one) where
    set_at : (b i : ℕ) (one : Site) → from ≤ b → b < from + n → slice_get (copies v b) i ≡ Some one → bytes_at new one ≡ slice_index_or out (b - from) []
    set_at b i one above below at =
        let same : from + (b - from) ≡ b = omega (arith, above) in set (b - from) i one (omega (arith, above, below)) (ap (λ m. slice_get (copies v m) i) same ∙ at)

    pub copied_run : AreCopied failed v old new from (from + n)
    copied_run = record {
      equal = λ b i j one other above below at at'. set_at b i one above below at ∙ sym (set_at b j other above below at');
      given = λ b i one above below at.
          let same : from + (b - from) ≡ b = omega (arith, above) in
          subst (λ bytes. IsGivenBy failed old (map copy (copies v b)) bytes) (sym (set_at b i one above below at))
          (subst (λ m. IsGivenBy failed old (map copy (copies v m)) (slice_index_or out (b - from) [])) same (are (b - from) (omega (arith, above, below))));
      earlier = λ b i one before at. stays b i one (λ k below same. omega (arith, before, same)) at;
      later = λ b i one behind at. stays b i one (λ k below same. omega (arith, behind, below, same)) at;
    }

  -- one range after another
  pub copied_then : {P Q R : ℕ → Type 0} (a b c : Image) (from mid to : ℕ) → from ≤ mid → mid ≤ to → Within P R → Within Q R → AreCopied P v a b from mid → AreCopied Q v b c mid to → AreCopied R v a c from to
  copied_then {R = R} a b c from mid to le le' first_within next_within first next = record {
    equal = λ n i j one other above below at at'. ⊎_elim
        (λ (early : n < mid). next.earlier n i one early at ∙ first.equal n i j one other above early at at' ∙ sym (next.earlier n j other early at'))
        (λ (late : mid ≤ n). next.equal n i j one other late below at at')
        (cases_lt n mid);
    given = λ n i one above below at. ⊎_elim
        (λ (early : n < mid).
        subst (λ bytes. IsGivenBy R a (map copy (copies v n)) bytes) (sym (next.earlier n i one early at)) (IsGivenBy-wider first_within a (map copy (copies v n)) (bytes_at b one) (first.given n i one above early at)))
        (λ (late : mid ≤ n).
        given_same R b a (copies v n) (bytes_at c one) (λ j other is. first.later n j other late is) (IsGivenBy-wider next_within b (map copy (copies v n)) (bytes_at c one) (next.given n i one late below at)))
        (cases_lt n mid);
    earlier = λ n i one before at. next.earlier n i one (omega (arith, before, le)) at ∙ first.earlier n i one before at;
    later = λ n i one behind at. next.later n i one behind at ∙ first.later n i one (omega (arith, behind, le')) at;
  }

  pub copied_wider : {P Q : ℕ → Type 0} → Within P Q → (a b : Image) (from to : ℕ) → AreCopied P v a b from to → AreCopied Q v a b from to
  copied_wider within a b from to was = record {
    equal = was.equal;
    given = λ n i one above below at. IsGivenBy-wider within a (map copy (copies v n)) (bytes_at b one) (was.given n i one above below at);
    earlier = was.earlier;
    later = was.later;
  }

  pub noted_then : (t u : List Bool) (from mid to : ℕ) → ((s : ℕ) → IsTouchedSlot t s → IsTouchedSlot u s) → AreNoted v t from mid → AreNoted v u mid to → AreNoted v u from to
  noted_then t u from mid to up first next b i one above below several at = ⊎_elim
      (λ (early : b < mid). up one.slot (first b i one above early several at))
      (λ (late : mid ≤ b). next b i one late below several at)
      (cases_lt b mid)

-- ---- what is written

module _ (v : Volume) (known : IsVolume v) (apart : IsApart v) (block : ℕ) (out : List (List ℕ)) where
  pub stays_by : (old new : Image) → ((s l : ℕ) → (new s l ≡ old s l) ⊎ GivesCells v block out s l (new s l)) → (b i : ℕ) (one : Site) → ((k : ℕ) → k < length out → b ≡ block + k → ⊥) → slice_get (copies v b) i ≡ Some one
      → bytes_at new one ≡ bytes_at old one
  stays_by old new only b i one other at =
      let on = on_position v known b i one at in
      ⊎_elim (λ same. same)
      (λ given.
      let its = on_position v known (block + given.0.k) given.0.i (site_on one.slot one.lba) given.0.is_cell in
      let same = one_owner v known apart on.element on.position its.element its.position b (block + given.0.k) one (on_cell v known on.element on.position b one on.on) (on_cell v known its.element its.position (block + given.0.k) one its.on) in
      absurd (other given.0.k given.0.below same))
      (only one.slot one.lba)

  pub taken_by : (tells : Type 0) (before old : Image) → ((k : ℕ) → k < length out → has_other v (block + k) ≡ true) → (tells → AreAsBefore v before old block)
      → (tells → (k : ℕ) → k < length out → IsHeld v old (block + k) (slice_index_or out k [])) → (s l : ℕ) (bytes : List ℕ)
      → GivesCells v block out s l bytes → MayResync v tells before s l bytes
  taken_by tells before old several same held s l bytes gives =
      inl (record {
        block = block + gives.0.k;
        i = gives.0.i;
        is_cell = gives.0.is_cell;
        several = several gives.0.k gives.0.below;
        held = λ tell.
            let is = held tell gives.0.k gives.0.below in
            record { number = is.number; other = is.other; is_copy = is.is_copy; bytes_are = gives.1 ∙ is.bytes_are ∙ same tell (block + gives.0.k) is.number is.other (omega arith) is.is_copy };
      })
