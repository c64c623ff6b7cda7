-- The properties of a served layout are those of its level's code, and of its qualifier's.
use Rattle.std.proofs.Common.{◌≡◌, ◌∙◌, ℕ, Bool, true, false, Result, Ok, Err, refl, sym, ap, subst, ◌||◌}
use Rattle.std.specs.Prelude.{nat_le, ◌==◌, if◌then◌else◌}
use Rattle.std.proofs.lemmas.Bool.{eqb-true}
use Rattle.ddf_mirror1e.specs.declared.spread.Spread.TheVariants.{Adjacent, Offset}
use Rattle.ddf_primary.specs.declared.layout.Layout.{Layout}
use Rattle.ddf_primary.specs.declared.layout.Layout.TheVariants.{Raid0, Raid1, Parity, Jbod, Concatenation, Mirror}
use Rattle.ddf_primary.specs.declared.need.Need.{Need}
use Rattle.ddf_primary.specs.declared.need.Need.TheVariants.{All, Neighbours}
use Rattle.ddf_primary.specs.declared.parity.ParityLayout.TheVariants.{Raid4First, Raid4Last, Raid5ZeroRestart, Raid5LastRestart, Raid5LastContinuation}
use Rattle.ddf_primary.specs.declared.fault.ShapeFault.{ShapeFault}
use Rattle.ddf_primary.specs.declared.fault.ShapeFault.TheVariants.{Level, Qualifier}
use Rattle.ddf_primary.specs.Needs.{keeps_copies, keeps_more_of, keeps_parity, need_by, need_of}
use Rattle.ddf_primary.specs.Levels.{served_layout, raid_1, raid_1e, raid_4, raid_5}

pub record IsAsCoded (level qualifier : ℕ) (layout : Layout) : Type 0 where
  pub need : need_by layout ≡ need_of level qualifier
  pub more : (keeps_copies layout || keeps_parity layout) ≡ keeps_more_of level

abbrev Answer : Type 0
Answer = Result Layout ShapeFault

module _ (qualifier : ℕ) (layout : Layout) where
  -- the layout of a code that is known, by another name
  named : (level code : ℕ) (one : Layout) → (level == code) ≡ true → one ≡ layout → IsAsCoded code qualifier one → IsAsCoded level qualifier layout
  named level code one is same coded =
      subst (λ n. IsAsCoded n qualifier layout) (sym (eqb-true level code is)) (subst (IsAsCoded code qualifier) same coded)

  raid_1_is : (a : Bool) → ◌≡◌ {A = Answer} (if a then Ok Raid1 else Err (Qualifier qualifier)) (Ok layout) → IsAsCoded 0x01 qualifier layout
  raid_1_is true e = let same : Raid1 ≡ layout = cc in subst (IsAsCoded 0x01 qualifier) same (record { need = refl; more = refl })
  raid_1_is false e = absurd (cc)

  raid_4_is : (a b : Bool) → ◌≡◌ {A = Answer} (if a then Ok (Parity Raid4First) else (if b then Ok (Parity Raid4Last) else Err (Qualifier qualifier))) (Ok layout) → IsAsCoded 0x04 qualifier layout
  raid_4_is true b e = let same : Parity Raid4First ≡ layout = cc in subst (IsAsCoded 0x04 qualifier) same (record { need = refl; more = refl })
  raid_4_is false true e = let same : Parity Raid4Last ≡ layout = cc in subst (IsAsCoded 0x04 qualifier) same (record { need = refl; more = refl })
  raid_4_is false false e = absurd (cc)

  raid_5_is : (a b d : Bool)
      → ◌≡◌ {A = Answer} (if a then Ok (Parity Raid5ZeroRestart) else (if b then Ok (Parity Raid5LastRestart) else (if d then Ok (Parity Raid5LastContinuation) else Err (Qualifier qualifier)))) (Ok layout)
      → IsAsCoded 0x05 qualifier layout
  raid_5_is true b d e = let same : Parity Raid5ZeroRestart ≡ layout = cc in subst (IsAsCoded 0x05 qualifier) same (record { need = refl; more = refl })
  raid_5_is false true d e = let same : Parity Raid5LastRestart ≡ layout = cc in subst (IsAsCoded 0x05 qualifier) same (record { need = refl; more = refl })
  raid_5_is false false true e = let same : Parity Raid5LastContinuation ≡ layout = cc in subst (IsAsCoded 0x05 qualifier) same (record { need = refl; more = refl })
  raid_5_is false false false e = absurd (cc)

  -- how the copies are spread, by the tests of the qualifier
  abbrev spread_need : (a b : Bool) → Need
  spread_need a b = if a then Neighbours Adjacent else (if b then Neighbours Offset else All)

  raid_1e_is : (a b : Bool) → (qualifier == 0) ≡ a → (qualifier == 1) ≡ b
      → ◌≡◌ {A = Answer} (if a then Ok (Mirror Adjacent) else (if b then Ok (Mirror Offset) else Err (Qualifier qualifier))) (Ok layout) → IsAsCoded 0x11 qualifier layout
  raid_1e_is true b first second e =
      let same : Mirror Adjacent ≡ layout = cc in
      subst (IsAsCoded 0x11 qualifier) same (record { need = sym (ap (λ a. spread_need a (qualifier == 1)) first); more = refl })
  raid_1e_is false true first second e =
      let same : Mirror Offset ≡ layout = cc in
      subst (IsAsCoded 0x11 qualifier) same (record { need = sym (ap (λ a. spread_need a (qualifier == 1)) first ∙ ap (spread_need false) second); more = refl })
  raid_1e_is false false first second e = absurd (cc)

  module _ (level : ℕ) where
    -- the tests of the codes, from one on
    abbrev from_1F : Answer
    from_1F = if level == 0x1F then Ok Concatenation else Err (Level level)

    abbrev from_11 : Answer
    from_11 = if level == 0x11 then raid_1e qualifier else from_1F

    abbrev from_0F : Answer
    from_0F = if level == 0x0F then Ok Jbod else from_11

    abbrev from_5 : Answer
    from_5 = if level == 0x05 then raid_5 qualifier else from_0F

    abbrev from_4 : Answer
    from_4 = if level == 0x04 then raid_4 qualifier else from_5

    abbrev from_1 : Answer
    from_1 = if level == 0x01 then raid_1 qualifier else from_4

    by_1F : (a : Bool) → (level == 0x1F) ≡ a → ◌≡◌ {A = Answer} (if a then Ok Concatenation else Err (Level level)) (Ok layout) → IsAsCoded level qualifier layout
    by_1F true is e = let same : Concatenation ≡ layout = cc in named level 0x1F Concatenation is same (record { need = refl; more = refl })
    by_1F false is e = absurd (cc)

    by_11 : (a : Bool) → (level == 0x11) ≡ a → ◌≡◌ {A = Answer} (if a then raid_1e qualifier else from_1F) (Ok layout) → IsAsCoded level qualifier layout
    by_11 true is e = named level 0x11 layout is refl (raid_1e_is (qualifier == 0) (qualifier == 1) refl refl e)
    by_11 false is e = by_1F (level == 0x1F) refl e

    by_0F : (a : Bool) → (level == 0x0F) ≡ a → ◌≡◌ {A = Answer} (if a then Ok Jbod else from_11) (Ok layout) → IsAsCoded level qualifier layout
    by_0F true is e = let same : Jbod ≡ layout = cc in named level 0x0F Jbod is same (record { need = refl; more = refl })
    by_0F false is e = by_11 (level == 0x11) refl e

    by_5 : (a : Bool) → (level == 0x05) ≡ a → ◌≡◌ {A = Answer} (if a then raid_5 qualifier else from_0F) (Ok layout) → IsAsCoded level qualifier layout
    by_5 true is e = named level 0x05 layout is refl (raid_5_is (qualifier == 0) (qualifier == 2) (qualifier == 3) e)
    by_5 false is e = by_0F (level == 0x0F) refl e

    by_4 : (a : Bool) → (level == 0x04) ≡ a → ◌≡◌ {A = Answer} (if a then raid_4 qualifier else from_5) (Ok layout) → IsAsCoded level qualifier layout
    by_4 true is e = named level 0x04 layout is refl (raid_4_is (qualifier == 0) (qualifier == 1) e)
    by_4 false is e = by_5 (level == 0x05) refl e

    by_1 : (a : Bool) → (level == 0x01) ≡ a → ◌≡◌ {A = Answer} (if a then raid_1 qualifier else from_4) (Ok layout) → IsAsCoded level qualifier layout
    by_1 true is e = named level 0x01 layout is refl (raid_1_is (nat_le qualifier 1) e)
    by_1 false is e = by_4 (level == 0x04) refl e

    by_0 : (a : Bool) → (level == 0x00) ≡ a → ◌≡◌ {A = Answer} (if a then Ok Raid0 else from_1) (Ok layout) → IsAsCoded level qualifier layout
    by_0 true is e = let same : Raid0 ≡ layout = cc in named level 0x00 Raid0 is same (record { need = refl; more = refl })
    by_0 false is e = by_1 (level == 0x01) refl e

pub served : (level qualifier : ℕ) (layout : Layout) → served_layout level qualifier ≡ Ok layout → IsAsCoded level qualifier layout
served level qualifier layout e = by_0 qualifier layout level (level == 0x00) refl e
