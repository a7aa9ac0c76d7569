use Rattle.std.proofs.Common.{◌≡◌, ◌∙◌, ◌++◌, List, ℕ, ap, sym, string_bytes}
use Rattle.planner_core.specs.Lines.{Planned}
use Rattle.std.proofs.lemmas.Result.{on_ok_weaker}
use Rattle.std.specs.Prelude.{nat_lt}
use Rattle.serde_json.specs.Written.{comma_if}
use Rattle.catalog_text.proofs.sections.write_thing.Goals as goal

pub returns-clause-written : goal.returns-clause-written
returns-clause-written g c =
    on_ok_weaker c.push_later.result
    (λ written. record {
      text = string_bytes c.in_ok-known.known;
      is_text = c.in_ok-known.ensures c.args.planner.now.state c.args.kind c.args.number (sym (c.game.ensures.game ∙ ap (λ (p : Planned). p.state.book.game) c.in_ok-thing.ensures.stays)) c.in_ok-thing.ensures.thing;
      written = written ∙ ap (λ (t : List ℕ). string_bytes c.args.text.now ++ (comma_if (nat_lt 0 c.args.number) ++ t)) c.as_str.ensures.value;
    })
    c.push_later.ensures
