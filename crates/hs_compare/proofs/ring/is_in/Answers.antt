use Rattle.std.proofs.Common.{◌≡◌, false, List, [], ◌∷◌, length, refl, ◌∙◌, rules, arith}
use Rattle.hs_compare.proofs.Prelude.{TraceId}
use Rattle.hs_compare.specs.Ringing.{is_among}
use Rattle.hs_compare.proofs.Rings.{among_is}
use Rattle.hs_compare.proofs.ring.is_in.Goals as goal

not_among : (traces : List TraceId) (trace : TraceId) → length traces ≡ 0 → false ≡ is_among traces trace
not_among [] trace none = refl
not_among (t ∷ traces) trace none = absurd (omega arith)

pub returns-then-is_empty : goal.returns-then-is_empty
returns-then-is_empty c = not_among c.args.traces.now.keys c.args.trace (search rules)

pub returns : goal.returns
returns c = c.contains.ensures ∙ among_is c.args.traces.now.keys c.args.trace
