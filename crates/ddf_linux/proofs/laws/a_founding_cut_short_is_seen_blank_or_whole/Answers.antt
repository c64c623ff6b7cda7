use Rattle.std.proofs.Common.{inl, inr}
use Rattle.ddf_linux.proofs.SeenAnew.{whole_anew}
use Rattle.ddf_linux.proofs.laws.a_founding_cut_short_is_seen_blank_or_whole.Goals as goal

pub returns : goal.returns
returns g c = λ layout bay slots copy image left place slot at large kind on_disk.
    elim (left.each place slot at) [
      | inl before ↦ inl before
      | inr now ↦ inr (rw kind (whole_anew layout _ large (image slot) (copy place) on_disk now))
    ]
