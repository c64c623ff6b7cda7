-- Trying sources by calls that only read, one after another.
use Rattle.std.proofs.Common.{ℕ, ◌+◌, ◌<◌, List, ◌++◌, Option, sym, subst}
use Rattle.std.specs.List.{range_with_len, flat_map}
use Rattle.std.specs.Option.{option_or}
use Rattle.ddf_bay.specs.Sectors.{Image}
use Rattle.ddf_bay.specs.State.{BayState}
use Rattle.ddf_array.specs.Sources.{Source, sources}
use Rattle.ddf_array.proofs.Ranges.{flat-more, flat-around}
use Rattle.ddf_read.specs.Reading.{OnlyReads, Failed, IsGivenBy, NotRead}
use Rattle.ddf_read.proofs.OnlyReading.{failed_before, failed_behind}
use Rattle.ddf_read.proofs.Tries.{IsGivenBy-wider, NotRead-wider, not_read_then, given_behind, given_before, all_failed_of}

module _ {D : Type 0} {a b c : BayState D} (so_far : OnlyReads a b) (next : OnlyReads b c) where
  -- the bytes of a later call, by what the bay held before
  pub given_later : (sources : List Source) (bytes : List ℕ) → IsGivenBy (Failed b c) b.held sources bytes → IsGivenBy (Failed a c) a.held sources bytes
  given_later sources bytes given =
      subst (λ (image : Image). IsGivenBy (Failed a c) image sources bytes) so_far.reads.same_held
      (IsGivenBy-wider (failed_before so_far next) b.held sources bytes given)

  -- two lists
  pub not_read_twice : (first second : List Source) (one other : Option ℕ) → NotRead (Failed a b) first one → NotRead (Failed b c) second other
      → NotRead (Failed a c) (first ++ second) (option_or one other)
  not_read_twice first second one other p q =
      not_read_then (Failed a c) first second one other (NotRead-wider (failed_behind so_far next) first one p) (NotRead-wider (failed_before so_far next) second other q)

  pub read_second : (first second : List Source) (one : Option ℕ) (bytes : List ℕ) → NotRead (Failed a b) first one
      → IsGivenBy (Failed b c) b.held second bytes → IsGivenBy (Failed a c) a.held (first ++ second) bytes
  read_second first second one bytes p q =
      let failed = all_failed_of (Failed a c) first one (NotRead-wider (failed_behind so_far next) first one p) in
      given_behind (Failed a c) a.held first second bytes failed (given_later second bytes q)

  -- number by number
  pub not_read_more : (each : ℕ → List Source) (n : ℕ) (one other : Option ℕ) → NotRead (Failed a b) (flat_map each (range_with_len 0 n)) one
      → NotRead (Failed b c) (each n) other → NotRead (Failed a c) (flat_map each (range_with_len 0 (n + 1))) (option_or one other)
  not_read_more each n one other p q =
      subst (λ (l : List Source). NotRead (Failed a c) l (option_or one other)) (sym (flat-more each n))
      (not_read_twice (flat_map each (range_with_len 0 n)) (each n) one other p q)

  pub read_at : (each : ℕ → List Source) (n k : ℕ) (one : Option ℕ) (bytes : List ℕ) → k < n → NotRead (Failed a b) (flat_map each (range_with_len 0 k)) one
      → IsGivenBy (Failed b c) b.held (each k) bytes → IsGivenBy (Failed a c) a.held (flat_map each (range_with_len 0 n)) bytes
  read_at each n k one bytes below p q =
      let first = flat_map each (range_with_len 0 k) in
      subst (λ (l : List Source). IsGivenBy (Failed a c) a.held l bytes) (sym (flat-around each n k below))
      (read_second first (each k ++ _) one bytes p (given_before (Failed b c) b.held (each k) _ bytes q))
