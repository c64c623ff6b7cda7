use Rattle.std.proofs.Common.{◌≡◌, ◌^◌, length}
use Rattle.std.specs.Prelude.{IsTrue, nat_le}
use Rattle.std.specs.List.{list_all}
use Rattle.ddf_bay.specs.Files.{AreEmptyUnlessOpen}
use Rattle.ddf_bay.proofs.file.FileBay.open_as.Given as goal

abbrev pub invariant-loop-path : goal.invariant-loop-path
invariant-loop-path g l = record {
  files : length l.files.items ≡ l.path-index;
  sizes : length l.sizes.items ≡ l.path-index;
  small : IsTrue (list_all (λ n. nat_le n (2 ^ 55)) l.sizes.items);
  closed : AreEmptyUnlessOpen l.files.items l.sizes.items;
}
