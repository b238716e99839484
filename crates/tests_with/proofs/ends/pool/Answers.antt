use Rattle.std.proofs.Common.{◌≡◌, ℕ, List, [], ◌∷◌, length, sym, ap, ◌∙◌, subst, arith}
use Rattle.std.proofs.lemmas.List.FromFn.{length-map-range_with_len}
use Rattle.hs_base.proofs.Parts.{last_of_one}
use Rattle.hs_words.specs.Chunks.{Contents, clear_chunk, clear_chunks}
use Rattle.hs_ring.specs.Parts.{Drawing}
use Rattle.tests_with.proofs.ends.pool.Goals as goal

pub make-requires-2-clause-few : goal.make-requires-2-clause-few
make-requires-2-clause-few c =
    omega (arith, ap (λ (l : List Contents). length l) c.in_ok-chunks.ensures, length-map-range_with_len (clear_chunk c.args.size) 0 c.args.buffers, c.requires.buffers)

pub make-requires-2-clause-clear : goal.make-requires-2-clause-clear
make-requires-2-clause-clear c =
    let many : length c.in_ok-chunks.chunks.items ≡ c.args.buffers = ap (λ (l : List Contents). length l) c.in_ok-chunks.ensures ∙ length-map-range_with_len (clear_chunk c.args.size) 0 c.args.buffers in
    (c.args.size, c.in_ok-chunks.ensures ∙ ap (λ (n : ℕ). clear_chunks n c.args.size) (sym many))

pub unreachable-requires : goal.unreachable-requires
unreachable-requires c =
    let many : length c.in_ok-chunks.chunks.items ≡ c.args.buffers = ap (λ (l : List Contents). length l) c.in_ok-chunks.ensures ∙ length-map-range_with_len (clear_chunk c.args.size) 0 c.args.buffers in
    let new = c.in_ok-giver.ensures c.args.size (c.in_ok-chunks.ensures ∙ ap (λ (n : ℕ). clear_chunks n c.args.size) (sym many)) in
    let one = new.drawers_are in
    let none = c.in_default.ensures.none.0 in
    absurd cc

pub returns : goal.returns
returns c =
    let many : length c.in_ok-chunks.chunks.items ≡ c.args.buffers = ap (λ (l : List Contents). length l) c.in_ok-chunks.ensures ∙ length-map-range_with_len (clear_chunk c.args.size) 0 c.args.buffers in
    let new = c.in_ok-giver.ensures c.args.size (c.in_ok-chunks.ensures ∙ ap (λ (n : ℕ). clear_chunks n c.args.size) (sym many)) in
    let drawer : c.in-Some.drawer ≡ _ = last_of_one c.pop.new.self.items c.in-Some.drawer _ (sym new.drawers_are ∙ c.in-Some.ensures.some) in
    record {
      giver_is = subst (λ (n : ℕ). c.in_ok-giver.giver ≡ record { pool = c.in_ok-giver.giver.pool; buffers = n; size = c.args.size; drawers = 1; floor = 0; turns = [] }) many new.giver_is;
      drawers_are = subst (λ (n : ℕ). c.in-Some.drawer ∷ [] ≡ record { pool = c.in_ok-giver.giver.pool; buffers = n; size = c.args.size; number = 0; most = c.args.draws; left = c.args.draws; floor = 0; answers = [] } ∷ []) many (ap (λ (d : Drawing). d ∷ []) drawer);
    }
