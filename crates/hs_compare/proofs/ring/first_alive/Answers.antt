use Rattle.std.proofs.Common.{◌≡◌, ◌≤◌, ◌∷◌, length, drop, sym, ap, ◌∙◌, arith}
use Rattle.hs_compare.proofs.Prelude.{Buffer, TracedRecord, alive}
use Rattle.hs_compare.proofs.Firsts.{drop-less}
use Rattle.hs_compare.proofs.Rings.{alive_first, alive_at}
use Rattle.hs_compare.proofs.ring.first_alive.Goals as goal

pub returns-then-not-is_in-clause-alive : goal.returns-then-not-is_in-clause-alive
returns-then-not-is_in-clause-alive c =
    let named = c.args.named.now.keys in
    let ring = c.loop-noted.ring.items in
    let noted = c.in-Some.noted in
    c.loop-noted.invariant.0 ∙ alive_first named ring noted c.is_in.result c.in-Some.ensures.value c.is_in.ensures
    ∙ ap (λ b. alive_at b noted (alive named (drop 1 ring))) c.if-not-is_in.true
    ∙ ap (λ (b : Buffer TracedRecord). noted ∷ alive named b.items) (sym c.pop_front.ensures.items)

pub loop-noted-preserved : goal.loop-noted-preserved
loop-noted-preserved c =
    let named = c.args.named.now.keys in
    let ring = c.loop-noted.ring.items in
    let noted = c.in-Some.noted in
    let items = ap (λ (b : Buffer TracedRecord). b.items) c.pop_front.ensures.items in
    let capacity = ap (λ (b : Buffer TracedRecord). b.capacity) c.pop_front.ensures.items in
    let shorter : length c.pop_front.new.self.items ≤ length ring = omega (arith, ap length items, drop-less 1 ring) in
    let same : alive named c.args.ring.now.items ≡ alive named c.pop_front.new.self.items =
    c.loop-noted.invariant.0 ∙ alive_first named ring noted c.is_in.result c.in-Some.ensures.value c.is_in.ensures
    ∙ ap (λ b. alive_at b noted (alive named (drop 1 ring))) c.if-not-is_in.false
    ∙ ap (alive named) (sym items) in
    (same, capacity ∙ c.loop-noted.invariant.1, omega (arith, shorter, c.loop-noted.invariant.2))
