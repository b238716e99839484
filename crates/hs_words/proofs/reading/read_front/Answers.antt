use Rattle.std.proofs.Common.{◌≡◌, ◌++◌, List, ℕ, ap, ◌∙◌}
use Rattle.std.specs.Int.{w16, w32, w128, to_be_bytes}
use Rattle.hs_words.specs.Pages.{header_bytes, counts_bytes}
use Rattle.hs_words.proofs.reading.read_front.Goals as goal

-- seven fields, each in front of what is left
seven : (t n u p f c d : ℕ) (a b e g h i j k : List ℕ) → a ≡ to_be_bytes w128 t ++ b → b ≡ to_be_bytes w16 n ++ e → e ≡ to_be_bytes w16 u ++ g → g ≡ to_be_bytes w32 p ++ h → h ≡ to_be_bytes w32 f ++ i
    → i ≡ to_be_bytes w16 c ++ j → j ≡ to_be_bytes w16 d ++ k
    → a ≡ header_bytes (record { trace = record { 0 = t }; client = record { node = n; number = u }; page = p; first = f }) ++ counts_bytes c d ++ k
unfolding header_bytes counts_bytes
seven t n u p f c d a b e g h i j k trace node number page first count used =
    let x = to_be_bytes w128 t in
    let y = x ++ to_be_bytes w16 n in
    let z = y ++ to_be_bytes w16 u in
    let v = z ++ to_be_bytes w32 p in
    let w = v ++ to_be_bytes w32 f in
    trace ∙ ap (λ r. x ++ r) node ∙ ap (λ r. y ++ r) number ∙ ap (λ r. z ++ r) page ∙ ap (λ r. v ++ r) first ∙ ap (λ r. w ++ r) count ∙ ap (λ r. w ++ to_be_bytes w16 c ++ r) used

pub returns-clause-some : goal.returns-clause-some
returns-clause-some c =
    seven _ _ _ _ _ _ _ _ _ _ _ _ _ _ _ c.in_ok-trace.ensures.some.0 c.in_ok-node.ensures.some.0 c.in_ok-number.ensures.some.0 c.in_ok-page.ensures.some.0 c.in_ok-first.ensures.some.0 c.in_ok-count.ensures.some.0
    c.in_ok-used.ensures.some.0
