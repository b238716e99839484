use Rattle.std.proofs.Common.{◌≤◌, [], ◌∷◌, ◌++◌, length, drop, sym, ap, ◌∙◌, arith}
use Rattle.hs_compare.proofs.Prelude.{append-nil, length_push, Buffer, TracedRecord}
use Rattle.hs_compare.proofs.Firsts.{first_some, kept_whole}
use Rattle.hs_compare.proofs.Rings.{passed, alive_at}
use Rattle.hs_compare.proofs.ring.pass.Goals as goal

pub returns-then-not-is_in-clause-passes : goal.returns-then-not-is_in-clause-passes
returns-then-not-is_in-clause-passes c =
    let named = c.args.named.now.keys in
    let ring = c.args.ring.now.items in
    let noted = c.in-Some.noted in
    let rest = drop 1 ring in
    let popped = ap (λ (b : Buffer TracedRecord). b.items) c.pop_front.ensures.items in
    let capacity = ap (λ (b : Buffer TracedRecord). b.capacity) c.pop_front.ensures.items in
    let fits : length (c.pop_front.new.self.items ++ noted ∷ []) ≤ c.pop_front.new.self.capacity =
    omega (arith, length_push c.pop_front.new.self.items noted, ap length popped, ap length (first_some ring noted c.in-Some.ensures.value), capacity, c.requires) in
    ap (λ (b : Buffer TracedRecord). b.items) c.push_back.ensures.items ∙ kept_whole c.pop_front.new.self.capacity (c.pop_front.new.self.items ++ noted ∷ []) fits
    ∙ ap (λ xs. xs ++ noted ∷ []) popped
    ∙ ap (λ xs. rest ++ xs) (ap (λ b. alive_at b noted []) (sym c.if-not-is_in.true) ∙ sym (passed named ring noted c.is_in.result c.in-Some.ensures.value c.is_in.ensures))

pub returns-then-not-is_in-clause-shorter : goal.returns-then-not-is_in-clause-shorter
returns-then-not-is_in-clause-shorter c =
    let ring = c.args.ring.now.items in
    let noted = c.in-Some.noted in
    let popped = ap (λ (b : Buffer TracedRecord). b.items) c.pop_front.ensures.items in
    let capacity = ap (λ (b : Buffer TracedRecord). b.capacity) c.pop_front.ensures.items in
    let long = ap length (first_some ring noted c.in-Some.ensures.value) in
    let fits : length (c.pop_front.new.self.items ++ noted ∷ []) ≤ c.pop_front.new.self.capacity =
    omega (arith, length_push c.pop_front.new.self.items noted, ap length popped, long, capacity, c.requires) in
    let items = ap (λ (b : Buffer TracedRecord). b.items) c.push_back.ensures.items ∙ kept_whole c.pop_front.new.self.capacity (c.pop_front.new.self.items ++ noted ∷ []) fits in
    omega (arith, ap length items, length_push c.pop_front.new.self.items noted, ap length popped, long)

pub returns-else-not-is_in-clause-passes : goal.returns-else-not-is_in-clause-passes
returns-else-not-is_in-clause-passes c =
    let named = c.args.named.now.keys in
    let ring = c.args.ring.now.items in
    let noted = c.in-Some.noted in
    let rest = drop 1 ring in
    ap (λ (b : Buffer TracedRecord). b.items) c.pop_front.ensures.items ∙ sym (append-nil rest)
    ∙ ap (λ xs. rest ++ xs) (ap (λ b. alive_at b noted []) (sym c.if-not-is_in.false) ∙ sym (passed named ring noted c.is_in.result c.in-Some.ensures.value c.is_in.ensures))
