-- The keys of an object behind its first few members, in a set. Only clauses of private functions cite it.
use Rattle.std.specs.Prelude.{◌≡◌, ℕ, List, drop, Vec}
use Rattle.std.specs.List.{list_any}
use Rattle.std.specs.Str.{bytes_eq}
use Rattle.std.specs.declared.alloc.Global.{Global}
use Rattle.json_text.specs.SpanSeen.{text_seen}
use Rattle.json_text.specs.declared.span.SpanMember.{SpanMember}

-- the set has the keys of the members behind the first 16
abbrev pub AreLate : List (Vec ℕ Global) → List SpanMember → Type 0
AreLate late members = (q : List ℕ) → list_any (λ k. bytes_eq q k.items) late ≡ list_any (λ m. bytes_eq (text_seen m.key) q) (drop 16 members)
