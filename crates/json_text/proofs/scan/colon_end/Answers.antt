use Rattle.std.proofs.Common.{◌∙◌, ◌∷◌, sym, arith}
use Rattle.json_text.specs.Machine.{colon, value, wanted_value}
use Rattle.json_text.specs.declared.class.Class.TheVariants.{Colon}
use Rattle.json_text.proofs.Steps.{from-class, from-end, from-colon-refused}
use Rattle.json_text.proofs.Lexed.{said}
use Rattle.json_text.proofs.Spaces.{colon_spelled}
use Rattle.std.proofs.Common.{subst, inr, length, ◌≤◌}
use Rattle.std.specs.Prelude.{slice_range}
use Rattle.json_text.specs.Text.{IsSpace}
use Rattle.json_text.proofs.scan.colon_end.Goals as goal

pub returns-then-place-bytes-clause-fault : goal.returns-then-place-bytes-clause-fault
returns-then-place-bytes-clause-fault c = λ w n f fs. c.skip_space-place.ensures.skips w (colon n f fs) tt ∙ from-end w c.args.bytes.now c.skip_space-place.result (colon n f fs) (omega arith) ∙ said _ _ _ _ c.not_json.ensures.code c.not_json.ensures.at

pub returns-in-Colon-clause-colon : goal.returns-in-Colon-clause-colon
returns-in-Colon-clause-colon c = λ w n f fs. c.skip_space-place.ensures.skips w (colon n f fs) tt ∙ from-class w c.args.bytes.now c.skip_space-place.result (colon n f fs) Colon (omega arith) (sym c.class_of.ensures ∙ c.in-Colon.is) ∙ c.skip_space.ensures.skips w (value (wanted_value w f fs) n (f ∷ fs)) tt

pub returns-in-Colon-clause-spelled : goal.returns-in-Colon-clause-spelled
returns-in-Colon-clause-spelled c = colon_spelled c.args.bytes.now c.args.at c.skip_space-place.result c.skip_space.result (omega arith) (omega arith) (omega arith) c.skip_space-place.ensures.space (sym c.class_of.ensures ∙ c.in-Colon.is) c.skip_space.ensures.space

pub returns-in_default : goal.returns-in_default
returns-in_default c = record {
  within = tt;
  no_space = tt;
  spelled = tt;
  cut = subst (λ k. (c.args.at ≤ k) × (k ≤ length c.args.bytes.now) × IsSpace (slice_range c.args.bytes.now c.args.at k)) (sym c.not_json-in_default.ensures.at) (c.skip_space-place.ensures.behind, c.skip_space-place.ensures.within, c.skip_space-place.ensures.space);
  code = inr c.not_json-in_default.ensures.code;
  colon = tt;
  fault = λ w n f fs. c.skip_space-place.ensures.skips w (colon n f fs) tt ∙ from-colon-refused w c.args.bytes.now c.skip_space-place.result n f fs (omega arith) (c.skip_space-place.ensures.no_space (omega arith)) (λ e. c.in_default.not-Colon (c.class_of.ensures ∙ e)) ∙ said _ _ _ _ c.not_json-in_default.ensures.code c.not_json-in_default.ensures.at;
}

pub returns-then-place-bytes-clause-cut : goal.returns-then-place-bytes-clause-cut
returns-then-place-bytes-clause-cut c = subst (λ k. (c.args.at ≤ k) × (k ≤ length c.args.bytes.now) × IsSpace (slice_range c.args.bytes.now c.args.at k)) (sym c.not_json.ensures.at) (c.skip_space-place.ensures.behind, c.skip_space-place.ensures.within, c.skip_space-place.ensures.space)
