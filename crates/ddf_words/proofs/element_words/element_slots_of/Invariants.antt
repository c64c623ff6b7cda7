use Rattle.std.proofs.Common.{◌≡◌, ◌≤◌, length, map, take}
use Rattle.std.specs.Fmt.{decimal}
use Rattle.std.specs.List.{All, slice_split}
use Rattle.ddf_words.proofs.Elements.{is_comma}
use Rattle.ddf_words.proofs.element_words.element_slots_of.Given as goal

abbrev pub invariant-loop-part : goal.invariant-loop-part
invariant-loop-part l = record {
  can_next : (goal.iterator-loop-part).can_next l.part-iterator;
  is_finite : (goal.iterator-loop-part).is_finite l.part-iterator;
  many : length l.slots.items ≡ length l.yielded;
  spelled : map decimal l.slots.items ≡ take (length l.yielded) (slice_split is_comma l.text);
  few : length l.slots.items ≤ 64;
  within : All (λ slot. slot ≤ 63) l.slots.items;
}
