use Rattle.std.proofs.Common.{◌≡◌, ◌≤◌, [], ◌∷◌, ◌++◌, length, ap, ◌∙◌, arith}
use Rattle.hs_compare.proofs.Prelude.{length_push, Buffer, TracedRecord, alive}
use Rattle.hs_compare.proofs.Firsts.{kept_whole}
use Rattle.hs_compare.proofs.Rings.{alive_more}
use Rattle.hs_compare.proofs.ring.join.Goals as goal

pub returns : goal.returns
returns c =
    let named = c.args.named.now.keys in
    let ring = c.make_place.new.ring.items in
    let noted = c.args.noted in
    let capacity = ap (λ (b : Buffer TracedRecord). b.capacity) c.push_back.ensures.items in
    let fits : length (ring ++ noted ∷ []) ≤ c.make_place.new.ring.capacity = omega (arith, length_push ring noted, c.make_place.ensures.place) in
    let items : c.push_back.new.self.items ≡ ring ++ noted ∷ [] = ap (λ (b : Buffer TracedRecord). b.items) c.push_back.ensures.items ∙ kept_whole c.make_place.new.ring.capacity (ring ++ noted ∷ []) fits in
    record {
      alive = ap (alive named) items ∙ alive_more named ring noted c.requires.alive ∙ ap (λ xs. xs ++ noted ∷ []) c.make_place.ensures.alive;
      within = omega (arith, ap length items, fits, capacity);
      capacity = capacity ∙ c.make_place.ensures.capacity;
    }
