-- The type and the state of a disk after a change.
use Rattle.std.proofs.Common.{◌≡◌, ℕ, ◌<◌, ◌^◌, ◌||◌, Bool, true, false, cond, eqb, List, min, max, refl, ap, ◌∙◌, arith}
use Rattle.std.proofs.lemmas.Nat.{or_lt, and_le_r}
use Rattle.std.proofs.lemmas.Nat.Bits.{bit_at_and, bit_at_or}
use Rattle.std.specs.Int.{bit_at}
use Rattle.std.specs.Int.RustNames.{bit_and}
use Rattle.ddf_lemmas.proofs.Tests.{max_zero}
use Rattle.ddf_tables.specs.DiskFlags.{in_array, global_spare, spare, online, rebuilding}
use Rattle.ddf_config.specs.declared.member.Member.{Member}
use Rattle.ddf_view.specs.View.{has_bit}
use Rattle.ddf_rewrite.specs.Wanted.{Wanted}
use Rattle.ddf_rewrite.specs.Disks.{has_spare_bit, is_global, is_referred, is_behind, with_flag, kind_after, state_after}

min_none : (n : ℕ) → min n 0 ≡ 0
min_none n = omega arith

-- a flag leaves the other bits
pub flag_other : (test : Bool) (flag bits place : ℕ) → bit_at flag place ≡ 0 → bit_at (with_flag test flag bits) place ≡ bit_at bits place
flag_other true flag bits place none = bit_at_or bits flag place ∙ ap (max (bit_at bits place)) none ∙ max_zero (bit_at bits place)
flag_other false flag bits place none = refl

-- a bit that a mask doesn't keep is clear
masked : (kept mask place : ℕ) → bit_at mask place ≡ 0 → bit_at (bit_and kept mask) place ≡ 0
masked kept mask place none = bit_at_and kept mask place ∙ ap (min (bit_at kept place)) none ∙ min_none (bit_at kept place)

pub flag_fits : (test : Bool) (flag bits : ℕ) → flag < 2 ^ 16 → bits < 2 ^ 16 → with_flag test flag bits < 2 ^ 16
flag_fits true flag bits small fits = or_lt 16 bits flag fits small
flag_fits false flag bits small fits = fits

-- ---- the state

current_bit : (behind : Bool) (kept place : ℕ) → bit_at 0x38 place ≡ 0 → bit_at online place ≡ 0 → bit_at rebuilding place ≡ 0 → has_bit (with_flag behind rebuilding (with_flag true online (bit_and kept 0x38))) place ≡ false
current_bit behind kept place mask one four =
    let clear : bit_at (with_flag behind rebuilding (with_flag true online (bit_and kept 0x38))) place ≡ 0 =
    flag_other behind rebuilding (with_flag true online (bit_and kept 0x38)) place four ∙ flag_other true online (bit_and kept 0x38) place one ∙ masked kept 0x38 place mask in
    ap (λ (n : ℕ). eqb n 1) clear

-- The state tells whether the disk is missing.
pub missing_after : (all : List Wanted) (entry : ℕ × Member) (kept : ℕ) → (has_bit (state_after all entry kept) 1 || has_bit (state_after all entry kept) 6) ≡ entry.1.missing
unfolding state_after
missing_after all entry kept = go entry.1.missing
  where
    current : ℕ
    current = with_flag (is_behind all entry.0) rebuilding (with_flag true online (bit_and kept 0x38))

    go : (b : Bool) → (has_bit (cond b 0x42 current) 1 || has_bit (cond b 0x42 current) 6) ≡ b
    go true = refl
    go false =
        let failed = current_bit (is_behind all entry.0) kept 1 refl refl refl in
        let gone = current_bit (is_behind all entry.0) kept 6 refl refl refl in
        rw (failed, gone) refl

pub state_fits : (all : List Wanted) (entry : ℕ × Member) (kept : ℕ) → state_after all entry kept < 2 ^ 16
unfolding state_after
state_fits all entry kept = go entry.1.missing
  where
    go : (b : Bool) → cond b 0x42 (with_flag (is_behind all entry.0) rebuilding (with_flag true online (bit_and kept 0x38))) < 2 ^ 16
    go true = omega arith
    go false =
        let low = and_le_r kept 0x38 in
        flag_fits (is_behind all entry.0) rebuilding (with_flag true online (bit_and kept 0x38)) (omega arith) (flag_fits true online (bit_and kept 0x38) (omega arith) (omega (arith, low)))

-- It tells that a current disk is being rebuilt where a position on it is out of sync.
pub rebuilding_after : (all : List Wanted) (entry : ℕ × Member) (kept : ℕ) → entry.1.missing ≡ false → is_behind all entry.0 ≡ true → has_bit (state_after all entry kept) 2 ≡ true
unfolding state_after
rebuilding_after all entry kept current behind =
    let low = with_flag true online (bit_and kept 0x38) in
    let none : bit_at low 2 ≡ 0 = flag_other true online (bit_and kept 0x38) 2 refl ∙ masked kept 0x38 2 refl in
    rw (current, behind) (ap (λ (n : ℕ). eqb n 1) (bit_at_or low rebuilding 2 ∙ ap (λ (n : ℕ). max n 1) none))

-- ---- the type

-- The type tells whether the disk is a spare for every array.
pub kind_global : (all : List Wanted) (entry : ℕ × Member) (kept : ℕ) → has_bit (kind_after all entry kept) 2 ≡ is_global entry.1.spare
unfolding kind_after
kind_global all entry kept =
    let low = with_flag (is_referred all entry.0) in_array (bit_and kept 0xFFF1) in
    let none : bit_at low 2 ≡ 0 = flag_other (is_referred all entry.0) in_array (bit_and kept 0xFFF1) 2 refl ∙ masked kept 0xFFF1 2 refl in
    ap (λ (n : ℕ). eqb n 1) (flag_other (has_spare_bit entry.1.spare) spare (with_flag (is_global entry.1.spare) global_spare low) 2 refl) ∙ one (is_global entry.1.spare) low none
  where
    one : (b : Bool) (bits : ℕ) → bit_at bits 2 ≡ 0 → eqb (bit_at (with_flag b global_spare bits) 2) 1 ≡ b
    one true bits none = ap (λ (n : ℕ). eqb n 1) (bit_at_or bits 4 2 ∙ ap (λ (n : ℕ). max n 1) none)
    one false bits none = ap (λ (n : ℕ). eqb n 1) none

-- And whether it is one for some, or gives its place back.
pub kind_spare : (all : List Wanted) (entry : ℕ × Member) (kept : ℕ) → has_bit (kind_after all entry kept) 3 ≡ has_spare_bit entry.1.spare
unfolding kind_after
kind_spare all entry kept =
    let low = with_flag (is_referred all entry.0) in_array (bit_and kept 0xFFF1) in
    let global = with_flag (is_global entry.1.spare) global_spare low in
    let none : bit_at global 3 ≡ 0 =
    flag_other (is_global entry.1.spare) global_spare low 3 refl ∙ flag_other (is_referred all entry.0) in_array (bit_and kept 0xFFF1) 3 refl ∙ masked kept 0xFFF1 3 refl in
    one (has_spare_bit entry.1.spare) global none
  where
    one : (b : Bool) (bits : ℕ) → bit_at bits 3 ≡ 0 → eqb (bit_at (with_flag b spare bits) 3) 1 ≡ b
    one true bits none = ap (λ (n : ℕ). eqb n 1) (bit_at_or bits 8 3 ∙ ap (λ (n : ℕ). max n 1) none)
    one false bits none = ap (λ (n : ℕ). eqb n 1) none

pub kind_fits : (all : List Wanted) (entry : ℕ × Member) (kept : ℕ) → kind_after all entry kept < 2 ^ 16
unfolding kind_after
kind_fits all entry kept =
    let kept_fits = and_le_r kept 0xFFF1 in
    let referred = with_flag (is_referred all entry.0) in_array (bit_and kept 0xFFF1) in
    let global = with_flag (is_global entry.1.spare) global_spare referred in
    flag_fits (has_spare_bit entry.1.spare) spare global (omega arith)
    (flag_fits (is_global entry.1.spare) global_spare referred (omega arith) (flag_fits (is_referred all entry.0) in_array (bit_and kept 0xFFF1) (omega arith) (omega (arith, kept_fits))))
