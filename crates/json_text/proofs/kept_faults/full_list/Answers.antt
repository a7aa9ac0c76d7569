use Rattle.std.proofs.Common.{◌∙◌, sym, arith, inl, inr}
use Rattle.json_text.proofs.Lexed.{said}
use Rattle.json_text.proofs.SpanLemmas.{from-full-open, from-full-deep, from-full-scalar, from-full-other}
use Rattle.json_text.proofs.kept_faults.full_list.Goals as goal

pub returns-then-depth-lt-MAX_OPEN : goal.returns-then-depth-lt-MAX_OPEN
returns-then-depth-lt-MAX_OPEN c = λ w n f fs d full. from-full-open w c.args.bytes.now c.args.at n f fs (omega arith) (elim c.in-OpenList.is [ inl e ↦ inl (sym c.class_of.ensures ∙ e) | inr e ↦ inr (sym c.class_of.ensures ∙ e) ]) (omega (arith, d)) full ∙ said _ _ _ _ c.too_many.ensures.code c.too_many.ensures.at

pub returns-else-depth-lt-MAX_OPEN : goal.returns-else-depth-lt-MAX_OPEN
returns-else-depth-lt-MAX_OPEN c = λ w n f fs d full. from-full-deep w c.args.bytes.now c.args.at n f fs (omega arith) (elim c.in-OpenList.is [ inl e ↦ inl (sym c.class_of.ensures ∙ e) | inr e ↦ inr (sym c.class_of.ensures ∙ e) ]) (omega (arith, d)) full ∙ said _ _ _ _ c.too_deep.ensures.code c.too_deep.ensures.at

pub returns-in-Quote : goal.returns-in-Quote
returns-in-Quote c = λ w n f fs d full. from-full-scalar w c.args.bytes.now c.args.at n f fs (omega arith) (elim c.in-Quote.is [ inl e ↦ inl (sym c.class_of.ensures ∙ e) | inr x ↦ inr (elim x [ inl e ↦ inl (sym c.class_of.ensures ∙ e) | inr y ↦ inr (elim y [ inl e ↦ inl (sym c.class_of.ensures ∙ e) | inr z ↦ inr (elim z [ inl e ↦ inl (sym c.class_of.ensures ∙ e) | inr e ↦ inr (sym c.class_of.ensures ∙ e) ]) ]) ]) ]) full
    ∙ said _ _ _ _ c.too_many-in-Quote.ensures.code c.too_many-in-Quote.ensures.at

pub returns-in_default : goal.returns-in_default
returns-in_default c = λ w n f fs d full. from-full-other w c.args.bytes.now c.args.at n f fs (omega arith) c.requires.inside.no_space c.requires.inside.no_end
    (λ x. elim x [ inl e ↦ c.in_default.not-OpenList (c.class_of.ensures ∙ e) | inr e ↦ c.in_default.not-OpenObject (c.class_of.ensures ∙ e) ])
    (λ x. elim x [ inl e ↦ c.in_default.not-Quote (c.class_of.ensures ∙ e) | inr y ↦ elim y [ inl e ↦ c.in_default.not-Zero (c.class_of.ensures ∙ e) | inr z ↦ elim z [ inl e ↦ c.in_default.not-Digit (c.class_of.ensures ∙ e) | inr u ↦ elim u [ inl e ↦ c.in_default.not-Minus (c.class_of.ensures ∙ e) | inr e ↦ c.in_default.not-Letter (c.class_of.ensures ∙ e) ] ] ] ])
    ∙ said _ _ _ _ c.not_json.ensures.code c.not_json.ensures.at
