-- Trying sources in order.
use Rattle.std.proofs.Common.{◌≡◌, ◌∙◌, inl, inr, ⊎_elim, ℕ, List, [], ◌∷◌, ◌++◌, Option, Some, None, sym, ap, subst}
use Rattle.std.specs.Option.{option_or}
use Rattle.ddf_bay.specs.Sectors.{Image}
use Rattle.ddf_array.specs.declared.site.Site.{Site}
use Rattle.ddf_array.specs.Sources.{Source, copy, row}
use Rattle.ddf_read.specs.Reading.{HasSite, HasSlot, FirstHasSlot, AllHaveSlot, IsGivenBy, NoneLeft, NotRead}

-- a kind of slots within another
abbrev pub Within : (ℕ → Type 0) → (ℕ → Type 0) → Type 0
Within P Q = (slot : ℕ) → P slot → Q slot

module _ {P Q : ℕ → Type 0} (within : Within P Q) where
  pub HasSite-wider : (sites : List Site) → HasSite P sites → HasSite Q sites
  HasSite-wider [] has = has
  HasSite-wider (site ∷ sites) has = ⊎_elim (λ here. inl (within site.slot here)) (λ there. inr (HasSite-wider sites there)) has

  pub HasSlot-wider : (source : Source) → HasSlot P source → HasSlot Q source
  HasSlot-wider (copy site) has = within site.slot has
  HasSlot-wider (row sites) has = HasSite-wider sites has

  pub AllHaveSlot-wider : (sources : List Source) → AllHaveSlot P sources → AllHaveSlot Q sources
  AllHaveSlot-wider [] have = have
  AllHaveSlot-wider (source ∷ sources) have = (HasSlot-wider source have.0, AllHaveSlot-wider sources have.1)

  pub IsGivenBy-wider : (image : Image) (sources : List Source) (bytes : List ℕ) → IsGivenBy P image sources bytes → IsGivenBy Q image sources bytes
  IsGivenBy-wider image [] bytes is = is
  IsGivenBy-wider image (source ∷ sources) bytes is =
      ⊎_elim inl (λ later. inr (HasSlot-wider source later.0, IsGivenBy-wider image sources bytes later.1)) is

  pub NotRead-wider : (sources : List Source) (first : Option ℕ) → NotRead P sources first → NotRead Q sources first
  NotRead-wider sources None is = is
  NotRead-wider sources (Some slot) is = record {
    all_failed = AllHaveSlot-wider sources is.all_failed;
    this_failed = within slot is.this_failed;
    is_of_first = is.is_of_first;
  }

module _ (P : ℕ → Type 0) where
  pub AllHaveSlot-append : (before after : List Source) → AllHaveSlot P before → AllHaveSlot P after → AllHaveSlot P (before ++ after)
  AllHaveSlot-append [] after a b = b
  AllHaveSlot-append (source ∷ before) after a b = (a.0, AllHaveSlot-append before after a.1 b)

  -- the first source stays the first before others
  pub FirstHasSlot-append : (before after : List Source) → FirstHasSlot P before → FirstHasSlot P (before ++ after)
  FirstHasSlot-append [] after has = absurd has
  FirstHasSlot-append (source ∷ before) after has = has

  -- behind sources that failed
  pub given_behind : (image : Image) (before after : List Source) (bytes : List ℕ) → AllHaveSlot P before → IsGivenBy P image after bytes → IsGivenBy P image (before ++ after) bytes
  given_behind image [] after bytes failed is = is
  given_behind image (source ∷ before) after bytes failed is = inr (failed.0, given_behind image before after bytes failed.1 is)

  -- before others
  pub given_before : (image : Image) (before after : List Source) (bytes : List ℕ) → IsGivenBy P image before bytes → IsGivenBy P image (before ++ after) bytes
  given_before image [] after bytes is = absurd is
  given_before image (source ∷ before) after bytes is =
      ⊎_elim inl (λ later. inr (later.0, given_before image before after bytes later.1)) is

  pub all_failed_of : (sources : List Source) (first : Option ℕ) → NotRead P sources first → AllHaveSlot P sources
  all_failed_of sources None none = subst (λ (l : List Source). AllHaveSlot P l) (sym none) tt
  all_failed_of sources (Some slot) left = left.all_failed

-- two lists of sources, none of which was read
pub not_read_then : (P : ℕ → Type 0) (before after : List Source) (first next : Option ℕ) → NotRead P before first → NotRead P after next → NotRead P (before ++ after) (option_or first next)
not_read_then P before after None None a b = ap (λ l. l ++ after) a ∙ b
not_read_then P before after None (Some slot) a b = subst (λ (l : List Source). NoneLeft P (l ++ after) slot) (sym a) b
not_read_then P before after (Some slot) next a b = record {
  all_failed = AllHaveSlot-append P before after a.all_failed (all_failed_of P after next b);
  this_failed = a.this_failed;
  is_of_first = FirstHasSlot-append (λ other. other ≡ slot) before after a.is_of_first;
}
