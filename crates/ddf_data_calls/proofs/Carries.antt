-- A call that keeps a history and the data of a group carries the data.
use Rattle.std.proofs.Common.{ℕ, List, inl, inr, ⊎_elim}
use Rattle.ddf_bay.specs.Sectors.{Image}
use Rattle.ddf_bay.specs.State.{BayState}
use Rattle.ddf_array.specs.Sound.{AreSectors}
use Rattle.ddf_data_group.specs.Grouped.{Promises}
use Rattle.ddf_history.specs.Groups.{groups}
use Rattle.ddf_history.specs.Issued.{Past}
use Rattle.ddf_data_history.specs.Carried.{CarriesData}
use Rattle.ddf_data_calls.specs.Calls.{KeepsBoth}

-- where all that a stop left on the way has sectors of 512 bytes
pub carries_data : (group : List ℕ) {D : Type 0} (old new : BayState D) (floor : ℕ → ℕ) (promises : Promises) (Goes Ends : Past (groups group) → Type 0) (May Is : Promises → Promises → Type 0)
    → KeepsBoth group old new floor Goes Ends (May promises) (Is promises) → ((t : ℕ) (image : Image) → new.left_since t image → AreSectors image)
    → CarriesData group old new floor promises Goes Ends May Is
carries_data group old new floor promises Goes Ends May Is keeps whole = record {
  any_moment = record {
    later = keeps.any_moment.later;
    since = λ t image le was_left. ⊎_elim inl
        (λ way. let both = way (whole t image was_left) in inr (both.now, both.promised, both.goes, both.may, both.keeps))
        (keeps.any_moment.since t image le was_left);
  };
  ends = λ tells. let last = keeps.ends tells in (last.now, last.promised, last.ends, last.is_so, last.all_data);
}
