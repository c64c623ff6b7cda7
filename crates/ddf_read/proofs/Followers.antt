-- First copies that follow one another, strip by strip.
use Rattle.std.proofs.Common.{◌≡◌, ◌∙◌, ⊎_elim, ℕ, ◌+◌, ◌-◌, ◌<◌, ◌≤◌, Some, slice_get, sym, ap, arith}
use Rattle.std.specs.Option.{option_map}
use Rattle.std.proofs.lemmas.Bool.{cases_lt}
use Rattle.std.proofs.lemmas.Option.{slice_get-map}
use Rattle.ddf_array.specs.declared.site.Site.{Site}
use Rattle.ddf_array.specs.Places.{site_on}
use Rattle.ddf_array.specs.Volume.{Volume}
use Rattle.ddf_array.specs.Sources.{copies, first_copy}
use Rattle.ddf_read.specs.Along.{further, LieAlong}
use Rattle.ddf_read.specs.Stretches.{FollowFrom}

-- in one strip
first_along : (v : Volume) (block count k : ℕ) (site : Site) → LieAlong v block count → k < count → first_copy v block ≡ Some site → first_copy v (block + k) ≡ Some (further k site)
first_along v block count k site along below first =
    ap (λ l. slice_get l 0) (along.copies_are k below) ∙ slice_get-map (further k) (copies v block) 0 ∙ ap (option_map (further k)) first

pub follow_first : (v : Volume) (start count : ℕ) (first : Site) → LieAlong v start count → first_copy v start ≡ Some first → FollowFrom v first start count
follow_first v start count first along is k below = first_along v start count k first along below is

-- and in one strip more
pub follow_more : (v : Volume) (start count more : ℕ) (first : Site) → FollowFrom v first start count → LieAlong v (start + count) more
    → first_copy v (start + count) ≡ Some (site_on first.slot (first.lba + count)) → FollowFrom v first start (count + more)
follow_more v start count more first follow along next k below =
    ⊎_elim
    (λ (earlier : k < count). follow k earlier)
    (λ (later : count ≤ k).
    let block : start + count + (k - count) ≡ start + k = omega arith in
    let lba : first.lba + count + (k - count) ≡ first.lba + k = omega arith in
    ap (first_copy v) (sym block)
    ∙ first_along v (start + count) more (k - count) (site_on first.slot (first.lba + count)) along (omega arith) next
    ∙ ap (λ n. Some (site_on first.slot n)) lba)
    (cases_lt k count)
