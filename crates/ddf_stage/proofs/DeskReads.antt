-- What is read of a desk is what stands there.
use Rattle.std.proofs.Common.{◌≡◌, ◌∙◌, ℕ, zero, suc, ◌+◌, ◌<◌, ◌≤◌, Bool, true, List, [], ◌∷◌, Option, Some, None, refl, sym, ap, arith, length, drop, slice_get}
use Rattle.std.specs.Prelude.{slice_index_or, if◌then◌else◌}
use Rattle.std.proofs.Common.{add-one}
use Rattle.ddf_bay.proofs.Steps.{costs_most}
use Rattle.ddf_bay.specs.Moments.{SpendsReads}
use Rattle.ddf_bay.specs.Sectors.{Image, IsRead}
use Rattle.ddf_bay.specs.State.{BayState}
use Rattle.ddf_stage.specs.declared.desk.Desk.{Desk}
use Rattle.ddf_stage.specs.declared.desk.Staged.{Staged}
use Rattle.ddf_stage.specs.declared.gate.Gate.{Gate}
use Rattle.ddf_stage.specs.Gate.{opened}
use Rattle.ddf_stage.specs.Laid.{first_open, most_reads, names_one, on_desk, sectors_from, staged_behind}

pub sectors_are : (held : ℕ → List ℕ) (a : ℕ) (xs : List (List ℕ)) → ((k : ℕ) → k < length xs → held (a + k) ≡ slice_index_or xs k []) → sectors_from held a (length xs) ≡ xs
sectors_are held a [] same = refl
sectors_are held a (x ∷ xs) same =
    let zeroth : a ≡ a + 0 = omega arith in
    let first : held a ≡ x = ap held zeroth ∙ same 0 (omega arith) in
    ap (λ (y : List ℕ). y ∷ sectors_from held (a + 1) (length xs)) first
    ∙ ap (λ (ys : List (List ℕ)). x ∷ ys) (sectors_are held (a + 1) xs (λ k below. let next : a + 1 + k ≡ a + suc k = omega arith in ap held next ∙ same (suc k) (omega (arith, below))))

unfoldable pub staged_from : (gate : Gate) (sectors : List (List ℕ)) → Staged
staged_from gate sectors = record { gate = gate; sectors = sectors }

pub behind_gate : (image : Image) (desk : Desk) (gate : Gate) (sectors : List (List ℕ)) → length sectors ≡ 17 → ((k : ℕ) → k < 17 → image desk.slot (desk.lba + 1 + k) ≡ slice_index_or sectors k [])
    → staged_behind image desk gate ≡ record { gate = gate; sectors = sectors }
unfolding staged_from
behind_gate image desk gate sectors size same =
    let all : sectors_from (image desk.slot) (desk.lba + 1) 17 ≡ sectors =
    ap (sectors_from (image desk.slot) (desk.lba + 1)) (sym size) ∙ sectors_are (image desk.slot) (desk.lba + 1) sectors (λ k below. same k (omega (arith, below, size))) in
    ap (staged_from gate) all

pub on_desk_open : (arrays : List (List ℕ)) (image : Image) (desk : Desk) (gate : Gate) → opened (image desk.slot desk.lba) ≡ Some gate → names_one arrays gate ≡ true
    → on_desk arrays image desk ≡ Some (staged_behind image desk gate)
on_desk_open arrays image desk gate is names =
    ap (λ (o : Option Gate). elim o [ None ↦ None | Some gate ↦ if names_one arrays gate then Some (staged_behind image desk gate) else None ]) is
    ∙ ap (λ (b : Bool). if b then Some (staged_behind image desk gate) else None) names

pub read_is : (arrays : List (List ℕ)) (image : Image) (desk : Desk) (gate : Gate) (sectors : List (List ℕ)) → opened (image desk.slot desk.lba) ≡ Some gate → names_one arrays gate ≡ true
    → length sectors ≡ 17 → IsRead (image desk.slot) (desk.lba + 1) sectors → Some (record { gate = gate; sectors = sectors }) ≡ on_desk arrays image desk
read_is arrays image desk gate sectors is names size read =
    sym (on_desk_open arrays image desk gate is names ∙ ap Some (behind_gate image desk gate sectors size (λ k below. sym (read k (omega (arith, below, size))))))

-- ---- the first of some desks

pub rest_is : (desks : List Desk) (k : ℕ) (desk : Desk) → slice_get desks k ≡ Some desk → drop k desks ≡ desk ∷ drop (k + 1) desks
rest_is [] k desk at = absurd (cc)
rest_is (first ∷ rest) zero desk at = let e : first ≡ desk = cc in ap (λ (x : Desk). x ∷ rest) e
rest_is (first ∷ rest) (suc k) desk at = rw add-one (rest_is rest k desk at ∙ rw add-one refl)

pub passed : (arrays : List (List ℕ)) (image : Image) (desks : List Desk) (k : ℕ) (desk : Desk) → slice_get desks k ≡ Some desk → on_desk arrays image desk ≡ None
    → first_open arrays image (drop k desks) ≡ first_open arrays image (drop (k + 1) desks)
passed arrays image desks k desk at none =
    ap (first_open arrays image) (rest_is desks k desk at)
    ∙ ap (λ (o : Option Staged). elim o [ None ↦ first_open arrays image (drop (k + 1) desks) | Some staged ↦ Some staged ]) none

pub stopped : (arrays : List (List ℕ)) (image : Image) (desks : List Desk) (k : ℕ) (desk : Desk) (staged : Staged) → slice_get desks k ≡ Some desk → on_desk arrays image desk ≡ Some staged
    → first_open arrays image (drop k desks) ≡ Some staged
stopped arrays image desks k desk staged at some =
    ap (first_open arrays image) (rest_is desks k desk at)
    ∙ ap (λ (o : Option Staged). elim o [ None ↦ first_open arrays image (drop (k + 1) desks) | Some staged ↦ Some staged ]) some

-- ---- how much is read

-- less is said of reads
pub reads_most : {D : Type 0} {a b : BayState D} {slot i : ℕ} (j : ℕ) → SpendsReads a b slot i → i ≤ j → SpendsReads a b slot j
reads_most j spends most = record {
  goes_on = spends.goes_on;
  told = spends.told;
  same_sizes = spends.same_sizes;
  same = spends.same;
  rises = spends.rises;
  other_slots = spends.other_slots;
  costs = costs_most 0 j spends.costs (omega arith) most;
}

-- Something stands on a desk behind an open gate that names one of the arrays.
pub stands_there : {P : Type 0} (arrays : List (List ℕ)) (image : Image) (desk : Desk) (gate : Gate) → opened (image desk.slot desk.lba) ≡ Some gate → names_one arrays gate ≡ true
    → on_desk arrays image desk ≡ None → P
stands_there arrays image desk gate is names none =
    let both : Some (staged_behind image desk gate) ≡ None = sym (on_desk_open arrays image desk gate is names) ∙ none in absurd (cc)

-- the reads of one desk, by what stands there
reads_by : (staged : Option Staged) (now next rest : ℕ) → (staged ≡ None → next ≤ now + 1) → next ≤ now + 2 → next ≤ now + elim staged [ None ↦ suc rest | Some staged ↦ 2 ]
reads_by None now next rest shut most = let one = shut refl in omega (arith, one)
reads_by (Some staged) now next rest shut most = most

-- the reads of the desk that is next are some of those
pub reads_within : (arrays : List (List ℕ)) (image : Image) (desks : List Desk) (k : ℕ) (desk : Desk) → slice_get desks k ≡ Some desk → (now next : ℕ)
    → (on_desk arrays image desk ≡ None → next ≤ now + 1) → next ≤ now + 2 → next ≤ now + most_reads arrays image (drop k desks)
reads_within arrays image desks k desk at now next shut most =
    rw (rest_is desks k desk at) (reads_by (on_desk arrays image desk) now next (most_reads arrays image (drop (k + 1) desks)) shut most)

-- where nothing stands on it one read goes
pub reads_passed : (arrays : List (List ℕ)) (image : Image) (desks : List Desk) (k : ℕ) (desk : Desk) → slice_get desks k ≡ Some desk → on_desk arrays image desk ≡ None
    → most_reads arrays image (drop k desks) ≡ suc (most_reads arrays image (drop (k + 1) desks))
reads_passed arrays image desks k desk at none =
    ap (most_reads arrays image) (rest_is desks k desk at)
    ∙ ap (λ (o : Option Staged). elim o [ None ↦ suc (most_reads arrays image (drop (k + 1) desks)) | Some staged ↦ 2 ]) none
