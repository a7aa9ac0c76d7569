use Rattle.std.proofs.Common.{refl, sym, arith}
use Rattle.linear_table.proofs.WellFormed.{form_is, form_columns}
use Rattle.linear_table.proofs.Linear.is_well_formed.Goals as goal

pub returns-then-not-columns_are_sound : goal.returns-then-not-columns_are_sound
returns-then-not-columns_are_sound c = (λ e. cc, λ h. absurd (c.if-not-columns_are_sound.ensures.not (form_columns c.args.self.now h)))

pub returns : goal.returns
returns c = (
  λ _. form_is c.args.self.now (omega arith) c.if-not-wants_are_sound.ensures.yes c.if-not-goods_differ.ensures.yes c.if-not-columns_are_sound.ensures.yes c.if-not-kinds_rise.ensures.yes c.if-not-names_differ.ensures.yes,
  λ _. refl,
)
