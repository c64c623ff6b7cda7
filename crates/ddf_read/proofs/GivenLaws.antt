-- What a read gives, of one source or of the first.
use Rattle.std.proofs.Common.{◌≡◌, ◌∙◌, ⊎_elim, ℕ, suc, ◌+◌, List, [], ◌∷◌, ◌++◌, Bool, true, false, Some, refl, sym, ap, map, slice_get}
use Rattle.std.specs.Prelude.{option_map, slice_index_or, if◌then◌else◌}
use Rattle.ddf_bay.specs.Sectors.{Image}
use Rattle.ddf_array.specs.Sources.{Source, copy, row, copies, rows, sources, trusts_parity}
use Rattle.ddf_array.specs.Values.{given, value}
use Rattle.ddf_array.specs.Volume.{Volume}
use Rattle.ddf_read.specs.Given.{AreGiven, AreValues}
use Rattle.ddf_read.specs.Reading.{FirstHasSlot, IsGivenBy, IsOn}
use Rattle.ddf_read.proofs.SourceSlots.{first_on}

pub one_of : (failed : ℕ → Type 0) (image : Image) (all : List Source) (bytes : List ℕ) → IsGivenBy failed image all bytes
    → (k : ℕ) × ((source : Source) × (slice_get all k ≡ Some source) × (bytes ≡ given image source))
one_of failed image [] bytes is = absurd is
one_of failed image (source ∷ all) bytes is =
    ⊎_elim (λ here. (0, (source, refl, here))) (λ later. let rest = one_of failed image all bytes later.1 in (suc rest.0, rest.1)) is

pub first_of : (failed : ℕ → Type 0) (image : Image) (all : List Source) (bytes : List ℕ) → (FirstHasSlot failed all → ⊥) → IsGivenBy failed image all bytes
    → (source : Source) × (slice_get all 0 ≡ Some source) × (bytes ≡ given image source)
first_of failed image [] bytes never is = absurd is
first_of failed image (source ∷ all) bytes never is = ⊎_elim (λ here. (source, refl, here)) (λ later. absurd (never later.0)) is

front : (xs ys : List Source) (x : Source) → slice_get xs 0 ≡ Some x → slice_get (xs ++ ys) 0 ≡ Some x
front [] ys x e = absurd (cc)
front (y ∷ xs) ys x e = e

first_of_every : (trusts : Bool) (copied rowed : List Source) (x : Source) → slice_get (if trusts then copied ++ rowed else copied) 0 ≡ Some x → slice_get (copied ++ rowed) 0 ≡ Some x
first_of_every true copied rowed x e = e
first_of_every false copied rowed x e = front copied rowed x e

-- the first source that may be used is the first of all
pub value_of : (failed : ℕ → Type 0) (volume : Volume) (image : Image) (block : ℕ) (bytes : List ℕ) → (FirstHasSlot failed (sources volume block) → ⊥)
    → IsGivenBy failed image (sources volume block) bytes → value volume image block ≡ Some bytes
value_of failed volume image block bytes never is =
    let first = first_of failed image (sources volume block) bytes never is in
    ap (option_map (given image)) (first_of_every (trusts_parity volume) (map copy (copies volume block)) (map row (rows volume block)) first.0 first.1)
    ∙ ap Some (sym first.2)

-- where no read failed on a slot of the array, each block is read as its value
pub values_of : (failed : ℕ → Type 0) (volume : Volume) (image : Image) (start count : ℕ) (sectors : List (List ℕ)) → ((slot : ℕ) → IsOn volume slot → failed slot → ⊥)
    → AreGiven failed image volume start count sectors → AreValues image volume start count sectors
values_of failed volume image start count sectors never are k below =
    value_of failed volume image (start + k) (slice_index_or sectors k [])
    (λ has. let found = first_on volume failed (start + k) has in never found.0 found.1.0 found.1.1)
    (are k below)
