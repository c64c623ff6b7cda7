-- A bay that comes back from below an exchange of its sectors, of which nothing was written.
use Rattle.std.proofs.Common.{◌≡◌, ◌∙◌, ℕ, ◌+◌, ◌*◌, ◌≤◌, List, length, ap, subst, sym, refl, arith, ⊎_elim, inl, inr}
use Rattle.std.specs.Prelude.{◌⊎◌}
use Rattle.std.proofs.Math.Path.{fun_ext}
use Rattle.ddf_bay.specs.Moments.{Keeps}
use Rattle.ddf_bay.specs.ReadsOnly.{ReadsOnly}
use Rattle.ddf_bay.specs.Sectors.{Image, IsLeft}
use Rattle.ddf_bay.specs.State.{BayState}
use Rattle.ddf_fenced.specs.declared.fenced.Fenced.{Fenced}
use Rattle.ddf_badblocks.specs.declared.range.Range.{Range}
use Rattle.ddf_badblocks.specs.declared.remapped.Remapped.{Remapped}
use Rattle.ddf_badblocks.specs.Seen.{place_twice}
use Rattle.ddf_badblocks.specs.State.{place, seen_image}
use Rattle.ddf_logs.specs.Looks as seen
use Rattle.ddf_hidden_logs.specs.Honouring.{Exchanges, IsGivenBack, LooksBehind}

module _ {D : Type 0} (at : ℕ → ℕ → ℕ) (twice : (s l : ℕ) → at s (at s l) ≡ l) (a b : BayState D) where
  -- an image that is seen twice is itself
  image_twice : (image : Image) → seen_image at (seen_image at image) ≡ image
  image_twice image = fun_ext (λ (s : ℕ). fun_ext (λ (l : ℕ). ap (image s) (twice s l)))

  held_below : seen_image at b.held ≡ seen_image at a.held → b.held ≡ a.held
  held_below same = sym (image_twice b.held) ∙ ap (seen_image at) same ∙ image_twice a.held

  keeps_below : ((s l : ℕ) (bytes : List ℕ) → b.may_hold s (at s l) bytes → a.may_hold s (at s l) bytes) → Keeps a.may_hold b.may_hold
  keeps_below keeps s l bytes may =
      subst (λ (n : ℕ). a.may_hold s n bytes) (twice s l) (keeps s (at s l) bytes (subst (λ (n : ℕ). b.may_hold s n bytes) (sym (twice s l)) may))

  since_below : ((t : ℕ) (image : Image) → t ≤ a.moment → b.left_since t (seen_image at image) → a.left_since t (seen_image at image) ⊎ ((s l : ℕ) → a.may_hold s (at s l) (image s l)))
      → (t : ℕ) (image : Image) → t ≤ a.moment → b.left_since t image → a.left_since t image ⊎ IsLeft a.may_hold image
  since_below since t image le left = ⊎_elim
      (λ was. inl (subst (λ (one : Image). a.left_since t one) (image_twice image) was))
      (λ now. inr (λ s l. subst (λ (n : ℕ). a.may_hold s n (image s n)) (twice s l) (now s (at s l))))
      (since t (seen_image at image) le (subst (λ (one : Image). b.left_since t one) (sym (image_twice image)) left))

module _ {B : Type 0} (disks : B → BayState B) (leads : (bay : B) → (disks bay).leads_to bay) (old looked : Remapped (Fenced B))
    (reads : ReadsOnly (seen.disks_of disks old) (seen.disks_of disks looked)) where
  abbrev a : BayState B
  a = disks (seen.below old)

  abbrev b : BayState B
  b = disks (seen.below looked)

  abbrev at : ℕ → ℕ → ℕ
  at = place a.sizes old.logs.items

  same_logs : looked.logs.items ≡ old.logs.items
  same_logs = (reads.goes_on looked ((leads (seen.below looked), refl), refl, refl)).1

  same_place : place b.sizes looked.logs.items ≡ at
  same_place = ap (λ (sizes : List ℕ). place sizes looked.logs.items) reads.same_sizes ∙ ap (λ (logs : List (List Range)). place a.sizes logs) same_logs

  twice : (s l : ℕ) → at s (at s l) ≡ l
  twice s l = place_twice a.sizes old.logs.items s l

  leads_back : a.leads_to (seen.below looked)
  leads_back = (reads.goes_on looked ((leads (seen.below looked), refl), refl, refl)).0.0

  -- of the bay below nothing was written either
  pub given_behind : (first : B) → ReadsOnly (disks first) a → (disks first).leads_to (seen.below looked)
  given_behind first before = before.goes_on (seen.below looked) leads_back

  pub later_back : a.moment ≤ b.moment
  later_back = reads.any_moment.later

  pub held_back : b.held ≡ a.held
  held_back = held_below at twice a b (subst (λ (one : ℕ → ℕ → ℕ). seen_image one b.held ≡ seen_image at a.held) same_place reads.same_held)

  pub keeps_back : Keeps a.may_hold b.may_hold
  keeps_back = keeps_below at twice a b
      (subst (λ (one : ℕ → ℕ → ℕ). (s l : ℕ) (bytes : List ℕ) → b.may_hold s (one s l) bytes → a.may_hold s (at s l) bytes) same_place reads.keeps)

  pub since_back : (t : ℕ) (image : Image) → t ≤ a.moment → b.left_since t image → a.left_since t image ⊎ IsLeft a.may_hold image
  since_back = since_below at twice a b
      (subst (λ (one : ℕ → ℕ → ℕ). (t : ℕ) (image : Image) → t ≤ a.moment → b.left_since t (seen_image one image) → a.left_since t (seen_image at image) ⊎ ((s l : ℕ) → a.may_hold s (at s l) (image s l)))
      same_place reads.any_moment.since)

module _ {B : Type 0} (disks : B → BayState B) (leads : (bay : B) → (disks bay).leads_to bay) (old : B) where
  -- the first look gave the bay back
  pub given_first : (back : B) → ReadsOnly (disks old) (disks back) → (disks back).calls ≤ (disks old).calls + 15 * length (disks old).sizes → IsGivenBack disks old back
  given_first back reads calls = record {
    leads = reads.goes_on back (leads back);
    same_sizes = reads.same_sizes;
    same_held = reads.same_held;
    keeps = reads.keeps;
    any_moment = reads.any_moment;
    none_written = reads.none_written;
    none_asked = reads.none_asked;
    looks = inl calls;
  }

  -- the second one did, behind the first
  given_below : {tells : Type 0} (between looked : Remapped (Fenced B)) → Exchanges tells disks old between
      → ReadsOnly (seen.disks_of disks between) (seen.disks_of disks looked)
      → (seen.disks_of disks looked).calls ≤ (seen.disks_of disks between).calls + 15 * length (disks (seen.below between)).sizes
      → IsGivenBack disks old (seen.below looked)
  given_below between looked exchanges reads calls =
      let first = exchanges.reads in
      let later : (disks (seen.below between)).moment ≤ (disks (seen.below looked)).moment = later_back disks leads between looked reads in
      record {
        leads = given_behind disks leads between looked reads old first;
        same_sizes = reads.same_sizes ∙ first.same_sizes;
        same_held = held_back disks leads between looked reads ∙ first.same_held;
        keeps = λ s l bytes may. first.keeps s l bytes (keeps_back disks leads between looked reads s l bytes may);
        any_moment = record {
          later = omega (arith, first.any_moment.later, later);
          since = λ t image le left. ⊎_elim
              (first.any_moment.since t image le)
              (λ now. inr (λ s l. first.keeps s l (image s l) (now s l)))
              (since_back disks leads between looked reads t image (omega (arith, le, first.any_moment.later)) left);
        };
        none_written = reads.none_written ∙ first.none_written;
        none_asked = reads.none_asked ∙ first.none_asked;
        looks = inr (record {
          between = between;
          calls = exchanges.calls;
          made = exchanges.made;
          behind = record { looked = looked; is_below = refl; reads = reads; calls = calls };
        });
      }

  pub given_second : {tells : Type 0} (between : Remapped (Fenced B)) → Exchanges tells disks old between → (back : B) → LooksBehind disks between back → IsGivenBack disks old back
  given_second between exchanges back behind =
      subst (λ (one : B). IsGivenBack disks old one) (sym behind.is_below) (given_below between behind.looked exchanges behind.reads behind.calls)
