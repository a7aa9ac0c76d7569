use Rattle.std.proofs.Common.{string_bytes}
use Rattle.plan_report.proofs.Texts.{TextSoFar}
use Rattle.page_rows.specs.Pieces.{piece_text}
use Rattle.page_rows.proofs.pieces.text_of.Given as goal

abbrev pub invariant-loop-piece : goal.invariant-loop-piece
invariant-loop-piece l = TextSoFar (λ text. text) piece_text l.pieces l.piece-index (string_bytes l.text)
