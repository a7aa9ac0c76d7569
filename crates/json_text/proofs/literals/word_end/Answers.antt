use Rattle.std.proofs.Common.{◌∙◌, arith}
use Rattle.json_text.proofs.Lexed.{from-word, from-word-wrong, from-word-cut, from-word-ends, said}
use Rattle.std.proofs.Common.{subst, sym, ap, take, length, ◌≡◌}
use Rattle.std.proofs.Math.Seq.{take-length}
use Rattle.json_text.specs.Cutting.{WordCut}
use Rattle.json_text.proofs.Cuts.{word_cut, word_more}
use Rattle.json_text.proofs.literals.word_end.Goals as goal

pub returns-then-i-bytes-clause-fault : goal.returns-then-i-bytes-clause-fault
returns-then-i-bytes-clause-fault c = λ w v n fs. c.loop-k.invariant.word w v n fs ∙ from-word-cut w c.args.bytes.now c.args.rest.now c.loop-k.i c.loop-k.k v n fs (omega arith) (omega arith) ∙ said _ _ _ _ c.not_json.ensures.code c.not_json.ensures.at

pub returns-then-bytes-i-clause-fault : goal.returns-then-bytes-i-clause-fault
returns-then-bytes-i-clause-fault c = λ w v n fs. c.loop-k.invariant.word w v n fs ∙ from-word-wrong w c.args.bytes.now c.args.rest.now c.loop-k.i c.loop-k.k v n fs (omega arith) (omega arith) c.if-bytes-i.true ∙ said _ _ _ _ c.not_json-then-bytes-i.ensures.code c.not_json-then-bytes-i.ensures.at

pub loop-k-preserved : goal.loop-k-preserved
loop-k-preserved c = record {
  place = omega arith;
  within = omega arith;
  short = omega arith;
  read = word_more c.args.bytes.now c.args.rest.now c.args.at c.loop-k.i c.loop-k.k (omega arith) (omega arith) (omega arith) c.loop-k.invariant.read c.if-bytes-i.false;
  word = λ w v n fs. c.loop-k.invariant.word w v n fs ∙ from-word w c.args.bytes.now c.args.rest.now c.loop-k.i c.loop-k.k v n fs (omega arith) (omega arith) c.if-bytes-i.false;
}

pub returns-clause-word : goal.returns-clause-word
returns-clause-word c = λ w v n fs. c.loop-k.invariant.word w v n fs ∙ from-word-ends w c.args.bytes.now c.args.rest.now c.loop-k.i c.loop-k.k v n fs (omega arith)

pub returns-then-i-bytes-clause-cut : goal.returns-then-i-bytes-clause-cut
returns-then-i-bytes-clause-cut c = subst (λ x. WordCut c.args.bytes.now c.args.at x c.args.rest.now) (sym c.not_json.ensures.at) (word_cut c.args.bytes.now c.args.rest.now c.args.at c.loop-k.i c.loop-k.k (omega arith) (omega arith) (omega arith) c.loop-k.invariant.read)

pub returns-then-bytes-i-clause-cut : goal.returns-then-bytes-i-clause-cut
returns-then-bytes-i-clause-cut c = subst (λ x. WordCut c.args.bytes.now c.args.at x c.args.rest.now) (sym c.not_json-then-bytes-i.ensures.at) (word_cut c.args.bytes.now c.args.rest.now c.args.at c.loop-k.i c.loop-k.k (omega arith) (omega arith) (omega arith) c.loop-k.invariant.read)

pub returns-clause-spelled : goal.returns-clause-spelled
returns-clause-spelled c = let all : c.loop-k.k ≡ length c.args.rest.now = omega arith in c.loop-k.invariant.read ∙ ap (λ m. take m c.args.rest.now) all ∙ take-length c.args.rest.now
