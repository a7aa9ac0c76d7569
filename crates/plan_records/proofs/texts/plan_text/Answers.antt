use Rattle.std.proofs.Common.{◌≡◌, ◌∙◌, ◌++◌, List, ℕ, ap, ap₂, map}
use Rattle.std.specs.List.{flat_map, zip}
use Rattle.std.proofs.lemmas.Result.{IfOk-weaker}
use Rattle.plan_records.specs.Records.{head_text, price_of, row_of, streams_of, total_record, want_of}
use Rattle.plan_records.specs.Texts.{plan_text, record_text, records_text}
use Rattle.plan_records.proofs.texts.plan_text.Goals as goal

whole : (h r w s p t r' w' s' p' t' : List ℕ) → r ≡ r' → w ≡ w' → s ≡ s' → p ≡ p' → t ≡ t' → h ++ (r ++ (w ++ (s ++ (p ++ t)))) ≡ h ++ (r' ++ (w' ++ (s' ++ (p' ++ t'))))
whole h r w s p t r' w' s' p' t' a b c d e = cc

-- the parts, each by the text that was made of it
pub returns : goal.returns
unfolding plan_text
returns c =
    let g = c.args.game.now in
    let table = c.args.table.now in
    let solved = c.args.solved.now in
    let rates = c.as_slice-rates.ensures in
    IfOk-weaker c.all_texts.result
    (λ text. text.items ≡ head_text ++ (c.as_slice-4.result.now ++ (c.as_slice-5.result.now ++ (c.as_slice-6.result.now ++ (c.as_slice-7.result.now ++ c.as_slice-8.result.now)))))
    (λ text. text.items ≡ plan_text g table solved.goods.now solved.columns.now solved.rows.now solved.total.now solved.plan.now)
    (λ text made. made
    ∙ whole head_text c.as_slice-4.result.now c.as_slice-5.result.now c.as_slice-6.result.now c.as_slice-7.result.now c.as_slice-8.result.now
    (records_text (map (row_of g) (zip table.rows (zip solved.plan.now.rates solved.rows.now))))
    (records_text (map (want_of g) table.wants))
    (flat_map records_text (map (streams_of g) (zip solved.columns.now solved.plan.now.rates)))
    (records_text (map (price_of g) (zip solved.goods.now solved.plan.now.prices)))
    (record_text (total_record table.name solved.total.now solved.plan.now.cost))
    (c.as_slice-4.ensures.value ∙ (c.in_ok-rows.ensures ∙ ap₂ (λ rows ns. records_text (map (row_of g) (zip rows (zip ns solved.rows.now)))) c.as_slice.ensures rates))
    (c.as_slice-5.ensures.value ∙ (c.in_ok-wants.ensures ∙ ap (λ wants. records_text (map (want_of g) wants)) c.as_slice-2.ensures))
    (c.as_slice-6.ensures.value ∙ (c.in_ok-streams.ensures ∙ ap (λ ns. flat_map records_text (map (streams_of g) (zip solved.columns.now ns))) rates))
    (c.as_slice-7.ensures.value ∙ (c.in_ok-prices.ensures ∙ ap (λ prices. records_text (map (price_of g) (zip solved.goods.now prices))) c.as_slice-3.ensures))
    (c.as_slice-8.ensures.value ∙ (c.in_ok-total.ensures ∙ ap (λ name. record_text (total_record name solved.total.now solved.plan.now.cost)) c.as_str.ensures)))
    c.all_texts.ensures
