use Rattle.std.proofs.Common.{◌≡◌, ◌∙◌, ℕ, Bool, true, false, refl, sym, get_or, arith}
use Rattle.std.specs.Prelude.{◌&&◌, ◌==◌, not}
use Rattle.std.proofs.lemmas.Bool.Decides.{nat_tests}
use Rattle.std.specs.Prelude.{slice_range}
use Rattle.json_text.specs.Lexing.{lexed}
use Rattle.json_text.specs.declared.lex.Lex.TheVariants.{Between}
use Rattle.json_text.proofs.Lexed.{plain_runs, plain_unmarked, unmarked_join, escape_here, escape_later, join, from-cut, from-quote, from-later, said}
use Rattle.std.proofs.Common.{subst, length, ◌≤◌}
use Rattle.json_text.specs.Lexing.{LexRuns}
use Rattle.json_text.proofs.Cuts.{runs_join}
use Rattle.json_text.proofs.strings.string_rest.Goals as goal

pub returns-then-place-bytes-clause-fault : goal.returns-then-place-bytes-clause-fault
returns-then-place-bytes-clause-fault c = λ w q n fs.
    let p = plain_runs (slice_range c.args.bytes.now c.chars.i c.plain_end-place.result) c.plain_end-place.ensures.plain in
    let j = join c.args.bytes.now c.args.start c.chars.i c.plain_end-place.result (omega arith) (omega arith) (omega arith) c.chars.invariant.runs c.chars.invariant.whole p.runs p.end_is in
    from-cut w c.args.bytes.now c.args.start c.plain_end-place.result q _ n fs (omega arith) (omega arith) (omega arith) j.runs ∙ said _ _ _ _ c.not_json.ensures.code c.not_json.ensures.at

pub returns-then-byte-eq34-clause-runs : goal.returns-then-byte-eq34-clause-runs
returns-then-byte-eq34-clause-runs c =
    let p = plain_runs (slice_range c.args.bytes.now c.chars.i c.plain_end-place.result) c.plain_end-place.ensures.plain in
    (join c.args.bytes.now c.args.start c.chars.i c.plain_end-place.result (omega arith) (omega arith) (omega arith) c.chars.invariant.runs c.chars.invariant.whole p.runs p.end_is).runs

pub returns-then-byte-eq34-clause-whole : goal.returns-then-byte-eq34-clause-whole
returns-then-byte-eq34-clause-whole c =
    let p = plain_runs (slice_range c.args.bytes.now c.chars.i c.plain_end-place.result) c.plain_end-place.ensures.plain in
    (join c.args.bytes.now c.args.start c.chars.i c.plain_end-place.result (omega arith) (omega arith) (omega arith) c.chars.invariant.runs c.chars.invariant.whole p.runs p.end_is).whole

pub returns-then-byte-eq34-clause-plain : goal.returns-then-byte-eq34-clause-plain
returns-then-byte-eq34-clause-plain c = λ e. unmarked_join c.args.bytes.now c.args.start c.chars.i c.plain_end-place.result (omega arith) (omega arith) (omega arith) (c.chars.invariant.shown e) (plain_unmarked (slice_range c.args.bytes.now c.chars.i c.plain_end-place.result) c.plain_end-place.ensures.plain)

pub returns-then-byte-eq34-clause-escape : goal.returns-then-byte-eq34-clause-escape
returns-then-byte-eq34-clause-escape c = λ e. escape_later c.args.bytes.now c.args.start c.chars.i c.plain_end-place.result (omega arith) (c.chars.invariant.marked e)

pub returns-then-byte-eq34-clause-text : goal.returns-then-byte-eq34-clause-text
returns-then-byte-eq34-clause-text c = λ w q n fs.
    let p = plain_runs (slice_range c.args.bytes.now c.chars.i c.plain_end-place.result) c.plain_end-place.ensures.plain in
    let j = join c.args.bytes.now c.args.start c.chars.i c.plain_end-place.result (omega arith) (omega arith) (omega arith) c.chars.invariant.runs c.chars.invariant.whole p.runs p.end_is in
    from-quote w c.args.bytes.now c.args.start c.plain_end-place.result q n fs (omega arith) (omega arith) j.runs j.whole c.if-byte-eq34.true

pub returns-in-Err-clause-fault : goal.returns-in-Err-clause-fault
returns-in-Err-clause-fault c = λ w q n fs.
    let p = plain_runs (slice_range c.args.bytes.now c.chars.i c.plain_end-place.result) c.plain_end-place.ensures.plain in
    let j = join c.args.bytes.now c.args.start c.chars.i c.plain_end-place.result (omega arith) (omega arith) (omega arith) c.chars.invariant.runs c.chars.invariant.whole p.runs p.end_is in
    from-later w c.args.bytes.now c.args.start c.plain_end-place.result q _ _ n fs (omega arith) (omega arith) j.runs j.whole (c.in-Err.ensures.fault w q (lexed Between (slice_range c.args.bytes.now c.args.start c.plain_end-place.result)) n fs)

plain_left : (plain : Bool) (b : ℕ) → (plain && not (b == 92)) ≡ true → (plain ≡ true) × (b ≡ 92 → ⊥)
plain_left true b h = (refl, other b h)
  where
    other : (b : ℕ) → not (b == 92) ≡ true → b ≡ 92 → ⊥
    other b h e = grind (arith, nat_tests)
plain_left false b h = absurd (cc)

escaped : {P : Type 0} → (plain : Bool) (b : ℕ) → (plain && not (b == 92)) ≡ false → (plain ≡ false → P) → (plain ≡ true → b ≡ 92 → P) → P
escaped true b h f g = g refl (back b h)
  where
    back : (b : ℕ) → not (b == 92) ≡ false → b ≡ 92
    back b h = grind (arith, nat_tests)
escaped false b h f g = f refl

pub chars-init : goal.chars-init
chars-init c =
    let xs = slice_range c.args.bytes.now c.args.start c.args.at in
    let p = plain_runs xs c.requires.plain in
    record {
      behind = c.requires.behind;
      within = c.requires.within;
      runs = p.runs;
      whole = p.end_is;
      shown = λ e. plain_unmarked xs c.requires.plain;
      marked = λ e. absurd (cc);
    }

pub chars-preserved : goal.chars-preserved
chars-preserved c =
    let bytes = c.args.bytes.now in
    let place = c.plain_end-place.result in
    let p = plain_runs (slice_range bytes c.chars.i place) c.plain_end-place.ensures.plain in
    let j = join bytes c.args.start c.chars.i place (omega arith) (omega arith) (omega arith) c.chars.invariant.runs c.chars.invariant.whole p.runs p.end_is in
    let before = (λ (yes : c.chars.plain ≡ true). unmarked_join bytes c.args.start c.chars.i place (omega arith) (omega arith) (omega arith) (c.chars.invariant.shown yes) (plain_unmarked (slice_range bytes c.chars.i place) c.plain_end-place.ensures.plain)) in
    let k = join bytes c.args.start place c.in-Ok.end (omega arith) (omega (arith, c.in-Ok.ensures.within)) (omega (arith, c.in-Ok.ensures.within)) j.runs j.whole c.in-Ok.ensures.runs c.in-Ok.ensures.whole in
    record {
      behind = omega (arith, c.in-Ok.ensures.within);
      within = omega (arith, c.in-Ok.ensures.within);
      runs = k.runs;
      whole = k.whole;
      shown = λ e.
          let both = plain_left c.chars.plain (get_or bytes place 0) (sym c.stays_plain-plain.ensures ∙ e) in
          unmarked_join bytes c.args.start place c.in-Ok.end (omega arith) (omega (arith, c.in-Ok.ensures.within)) (omega (arith, c.in-Ok.ensures.within)) (before both.0) (c.in-Ok.ensures.unmarked both.1);
      marked = λ e. escaped c.chars.plain (get_or bytes place 0) (sym c.stays_plain-plain.ensures ∙ e)
          (λ no. escape_later bytes c.args.start c.chars.i c.in-Ok.end (omega (arith, c.in-Ok.ensures.within)) (c.chars.invariant.marked no))
          (λ yes back. escape_here bytes c.args.start place c.in-Ok.end (omega arith) (omega (arith, c.in-Ok.ensures.within)) (before yes) back);
    }

pub returns-then-place-bytes-clause-cut : goal.returns-then-place-bytes-clause-cut
returns-then-place-bytes-clause-cut c =
    let p = plain_runs (slice_range c.args.bytes.now c.chars.i c.plain_end-place.result) c.plain_end-place.ensures.plain in
    let j = join c.args.bytes.now c.args.start c.chars.i c.plain_end-place.result (omega arith) (omega arith) (omega arith) c.chars.invariant.runs c.chars.invariant.whole p.runs p.end_is in
    subst (λ k. (c.args.start ≤ k) × (k ≤ length c.args.bytes.now) × LexRuns Between (slice_range c.args.bytes.now c.args.start k)) (sym c.not_json.ensures.at) (omega arith, omega arith, j.runs)

pub returns-in-Err-clause-cut : goal.returns-in-Err-clause-cut
returns-in-Err-clause-cut c =
    let p = plain_runs (slice_range c.args.bytes.now c.chars.i c.plain_end-place.result) c.plain_end-place.ensures.plain in
    let j = join c.args.bytes.now c.args.start c.chars.i c.plain_end-place.result (omega arith) (omega arith) (omega arith) c.chars.invariant.runs c.chars.invariant.whole p.runs p.end_is in
    let h = c.in-Err.ensures.cut in
    (omega (arith, h.0), h.1, runs_join c.args.bytes.now c.args.start c.plain_end-place.result c.in-Err.fault.at (omega arith) h.0 h.1 j.runs j.whole h.2)
