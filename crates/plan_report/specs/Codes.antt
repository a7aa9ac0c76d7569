-- The words of refusals and of effects.
use Rattle.std.specs.Prelude.{ℕ, List, codes}
use Rattle.game_types.specs.declared.effects.EffectKind.{EffectKind}
use Rattle.game_types.specs.declared.effects.EffectKind.TheVariants.{Speed, Productivity, Consumption, Pollution}
use Rattle.plan_lines.specs.declared.reply.RefusalCode.{RefusalCode}
use Rattle.plan_lines.specs.declared.reply.RefusalCode.TheVariants.{Q1, Q2, Q3, Q4, Q5, X1, X2, X3, X4, M1, M2, M3, H1, H2, H3, H4, H5, P1, P2, P3, P4, P5, K1, K2, K3, K4, K5, L1, L2, L3, L4, U1, U2, U3, B1, V1, V2}

abbrev pub code_word : RefusalCode → List ℕ
code_word Q1 = codes "Q1"
code_word Q2 = codes "Q2"
code_word Q3 = codes "Q3"
code_word Q4 = codes "Q4"
code_word Q5 = codes "Q5"
code_word X1 = codes "X1"
code_word X2 = codes "X2"
code_word X3 = codes "X3"
code_word X4 = codes "X4"
code_word M1 = codes "M1"
code_word M2 = codes "M2"
code_word M3 = codes "M3"
code_word H1 = codes "H1"
code_word H2 = codes "H2"
code_word H3 = codes "H3"
code_word H4 = codes "H4"
code_word H5 = codes "H5"
code_word P1 = codes "P1"
code_word P2 = codes "P2"
code_word P3 = codes "P3"
code_word P4 = codes "P4"
code_word P5 = codes "P5"
code_word K1 = codes "K1"
code_word K2 = codes "K2"
code_word K3 = codes "K3"
code_word K4 = codes "K4"
code_word K5 = codes "K5"
code_word L1 = codes "L1"
code_word L2 = codes "L2"
code_word L3 = codes "L3"
code_word L4 = codes "L4"
code_word U1 = codes "U1"
code_word U2 = codes "U2"
code_word U3 = codes "U3"
code_word B1 = codes "B1"
code_word V1 = codes "V1"
code_word V2 = codes "V2"

abbrev pub effect_word : EffectKind → List ℕ
effect_word Speed = codes "speed"
effect_word Productivity = codes "productivity"
effect_word Consumption = codes "consumption"
effect_word Pollution = codes "pollution"
