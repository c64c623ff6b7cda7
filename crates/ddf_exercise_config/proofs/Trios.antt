-- The array of an exercise on the disks that it lies on, in its turns.
use Rattle.std.proofs.Common.{◌≡◌, ℕ, Bool, true, false, List, [], ◌∷◌, refl}
use Rattle.ddf_config.specs.declared.member.Member.{Member}
use Rattle.ddf_config.specs.declared.member.SpareUse.{SpareUse}
use Rattle.ddf_config.specs.Extents.{extents}
use Rattle.ddf_config.specs.Served.{is_served}
use Rattle.ddf_config.specs.States.{low_state}
use Rattle.ddf_config.specs.declared.member.SpareUse.TheVariants.{No}
use Rattle.ddf_exercise_config.specs.Disks.{AreApart, Disks}
use Rattle.ddf_exercise_config.specs.Stages.{array, members, position}
use Rattle.ddf_exercise_config.proofs.Levels as levels
use Rattle.ddf_exercise_config.proofs.Tables as tables

module _ (disks : Disks) (apart : AreApart disks) (sm tm : Bool) (fu hu : SpareUse) where
  abbrev table : List (ℕ × Member)
  table = members disks sm tm fu hu

  -- ---- opening

  pub opening_served : (sx sy sz : Bool) (state init : ℕ) (guid : List ℕ) → is_served table (extents ((guid, array (position disks.first sx ∷ position disks.second sy ∷ position disks.third sz ∷ []) state init) ∷ [])) (array (position disks.first sx ∷ position disks.second sy ∷ position disks.third sz ∷ []) state init) ≡ true
  opening_served sx sy sz state init guid = levels.served (members disks sm tm fu hu) disks.first disks.second disks.third apart.first_second apart.first_third apart.second_third (tables.second_first disks apart) (tables.third_first disks apart) (tables.third_second disks apart) false sm tm No No No (tables.at_first disks apart sm tm fu hu) (tables.at_second disks apart sm tm fu hu) (tables.at_third disks apart sm tm fu hu) sx sy sz state init guid

  pub opening_low_whole : (state init : ℕ) → sm ≡ false → tm ≡ false → low_state table (array (position disks.first true ∷ position disks.second true ∷ position disks.third true ∷ []) state init) ≡ 0
  opening_low_whole state init n_sm n_tm = levels.low_whole (members disks sm tm fu hu) disks.first disks.second disks.third apart.first_second apart.first_third apart.second_third (tables.second_first disks apart) (tables.third_first disks apart) (tables.third_second disks apart) false sm tm No No No (tables.at_first disks apart sm tm fu hu) (tables.at_second disks apart sm tm fu hu) (tables.at_third disks apart sm tm fu hu) state init refl n_sm n_tm

  pub opening_low_second : (state init : ℕ) → tm ≡ false → low_state table (array (position disks.first true ∷ position disks.second false ∷ position disks.third true ∷ []) state init) ≡ 1
  opening_low_second state init n_tm = levels.low_second (members disks sm tm fu hu) disks.first disks.second disks.third apart.first_second apart.first_third apart.second_third (tables.second_first disks apart) (tables.third_first disks apart) (tables.third_second disks apart) false sm tm No No No (tables.at_first disks apart sm tm fu hu) (tables.at_second disks apart sm tm fu hu) (tables.at_third disks apart sm tm fu hu) state init refl n_tm

  pub opening_low_third : (state init : ℕ) → sm ≡ false → low_state table (array (position disks.first true ∷ position disks.second true ∷ position disks.third false ∷ []) state init) ≡ 1
  opening_low_third state init n_sm = levels.low_third (members disks sm tm fu hu) disks.first disks.second disks.third apart.first_second apart.first_third apart.second_third (tables.second_first disks apart) (tables.third_first disks apart) (tables.third_second disks apart) false sm tm No No No (tables.at_first disks apart sm tm fu hu) (tables.at_second disks apart sm tm fu hu) (tables.at_third disks apart sm tm fu hu) state init refl n_sm

  -- ---- middle

  pub middle_served : (sx sy sz : Bool) (state init : ℕ) (guid : List ℕ) → is_served table (extents ((guid, array (position disks.first sx ∷ position disks.fourth sy ∷ position disks.third sz ∷ []) state init) ∷ [])) (array (position disks.first sx ∷ position disks.fourth sy ∷ position disks.third sz ∷ []) state init) ≡ true
  middle_served sx sy sz state init guid = levels.served (members disks sm tm fu hu) disks.first disks.fourth disks.third apart.first_fourth apart.first_third (tables.fourth_third disks apart) (tables.fourth_first disks apart) (tables.third_first disks apart) apart.third_fourth false false tm No fu No (tables.at_first disks apart sm tm fu hu) (tables.at_fourth disks apart sm tm fu hu) (tables.at_third disks apart sm tm fu hu) sx sy sz state init guid

  pub middle_low_whole : (state init : ℕ) → tm ≡ false → low_state table (array (position disks.first true ∷ position disks.fourth true ∷ position disks.third true ∷ []) state init) ≡ 0
  middle_low_whole state init n_tm = levels.low_whole (members disks sm tm fu hu) disks.first disks.fourth disks.third apart.first_fourth apart.first_third (tables.fourth_third disks apart) (tables.fourth_first disks apart) (tables.third_first disks apart) apart.third_fourth false false tm No fu No (tables.at_first disks apart sm tm fu hu) (tables.at_fourth disks apart sm tm fu hu) (tables.at_third disks apart sm tm fu hu) state init refl refl n_tm

  pub middle_low_second : (state init : ℕ) → tm ≡ false → low_state table (array (position disks.first true ∷ position disks.fourth false ∷ position disks.third true ∷ []) state init) ≡ 1
  middle_low_second state init n_tm = levels.low_second (members disks sm tm fu hu) disks.first disks.fourth disks.third apart.first_fourth apart.first_third (tables.fourth_third disks apart) (tables.fourth_first disks apart) (tables.third_first disks apart) apart.third_fourth false false tm No fu No (tables.at_first disks apart sm tm fu hu) (tables.at_fourth disks apart sm tm fu hu) (tables.at_third disks apart sm tm fu hu) state init refl n_tm

  pub middle_low_third : (state init : ℕ) → low_state table (array (position disks.first true ∷ position disks.fourth true ∷ position disks.third false ∷ []) state init) ≡ 1
  middle_low_third state init = levels.low_third (members disks sm tm fu hu) disks.first disks.fourth disks.third apart.first_fourth apart.first_third (tables.fourth_third disks apart) (tables.fourth_first disks apart) (tables.third_first disks apart) apart.third_fourth false false tm No fu No (tables.at_first disks apart sm tm fu hu) (tables.at_fourth disks apart sm tm fu hu) (tables.at_third disks apart sm tm fu hu) state init refl refl

  -- ---- closing

  pub closing_served : (sx sy sz : Bool) (state init : ℕ) (guid : List ℕ) → is_served table (extents ((guid, array (position disks.first sx ∷ position disks.fourth sy ∷ position disks.fifth sz ∷ []) state init) ∷ [])) (array (position disks.first sx ∷ position disks.fourth sy ∷ position disks.fifth sz ∷ []) state init) ≡ true
  closing_served sx sy sz state init guid = levels.served (members disks sm tm fu hu) disks.first disks.fourth disks.fifth apart.first_fourth apart.first_fifth apart.fourth_fifth (tables.fourth_first disks apart) (tables.fifth_first disks apart) (tables.fifth_fourth disks apart) false false false No fu hu (tables.at_first disks apart sm tm fu hu) (tables.at_fourth disks apart sm tm fu hu) (tables.at_fifth disks apart sm tm fu hu) sx sy sz state init guid

  pub closing_low_whole : (state init : ℕ) → low_state table (array (position disks.first true ∷ position disks.fourth true ∷ position disks.fifth true ∷ []) state init) ≡ 0
  closing_low_whole state init = levels.low_whole (members disks sm tm fu hu) disks.first disks.fourth disks.fifth apart.first_fourth apart.first_fifth apart.fourth_fifth (tables.fourth_first disks apart) (tables.fifth_first disks apart) (tables.fifth_fourth disks apart) false false false No fu hu (tables.at_first disks apart sm tm fu hu) (tables.at_fourth disks apart sm tm fu hu) (tables.at_fifth disks apart sm tm fu hu) state init refl refl refl

  pub closing_low_second : (state init : ℕ) → low_state table (array (position disks.first true ∷ position disks.fourth false ∷ position disks.fifth true ∷ []) state init) ≡ 1
  closing_low_second state init = levels.low_second (members disks sm tm fu hu) disks.first disks.fourth disks.fifth apart.first_fourth apart.first_fifth apart.fourth_fifth (tables.fourth_first disks apart) (tables.fifth_first disks apart) (tables.fifth_fourth disks apart) false false false No fu hu (tables.at_first disks apart sm tm fu hu) (tables.at_fourth disks apart sm tm fu hu) (tables.at_fifth disks apart sm tm fu hu) state init refl refl

  pub closing_low_third : (state init : ℕ) → low_state table (array (position disks.first true ∷ position disks.fourth true ∷ position disks.fifth false ∷ []) state init) ≡ 1
  closing_low_third state init = levels.low_third (members disks sm tm fu hu) disks.first disks.fourth disks.fifth apart.first_fourth apart.first_fifth apart.fourth_fifth (tables.fourth_first disks apart) (tables.fifth_first disks apart) (tables.fifth_fourth disks apart) false false false No fu hu (tables.at_first disks apart sm tm fu hu) (tables.at_fourth disks apart sm tm fu hu) (tables.at_fifth disks apart sm tm fu hu) state init refl refl
