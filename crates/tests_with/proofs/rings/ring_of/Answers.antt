use Rattle.std.proofs.Common.{◌≡◌, ℕ, List, length, IfOk, sym, ap, ◌∙◌, subst, arith}
use Rattle.std.proofs.lemmas.List.FromFn.{length-map-range_with_len}
use Rattle.hs_base.specs.declared.limits.TheConstants.{MIN_SIZE}
use Rattle.hs_words.specs.Chunks.{Contents, clear_chunk, clear_chunks}
use Rattle.hs_ring.specs.Parts.{AreNewEnds}
use Rattle.tests_with.proofs.rings.ring_of.Goals as goal

pub make-requires-2-clause-few : goal.make-requires-2-clause-few
make-requires-2-clause-few c =
    omega (arith, ap (λ (l : List Contents). length l) c.in_ok-chunks.ensures, length-map-range_with_len (clear_chunk MIN_SIZE) 0 c.args.chunks, c.requires.chunks)

pub make-requires-2-clause-clear : goal.make-requires-2-clause-clear
make-requires-2-clause-clear c =
    let many : length c.in_ok-chunks.chunks.items ≡ c.args.chunks = ap (λ (l : List Contents). length l) c.in_ok-chunks.ensures ∙ length-map-range_with_len (clear_chunk MIN_SIZE) 0 c.args.chunks in
    (MIN_SIZE, c.in_ok-chunks.ensures ∙ ap (λ (n : ℕ). clear_chunks n MIN_SIZE) (sym many))

pub returns : goal.returns
returns c =
    let many : length c.in_ok-chunks.chunks.items ≡ c.args.chunks = ap (λ (l : List Contents). length l) c.in_ok-chunks.ensures ∙ length-map-range_with_len (clear_chunk MIN_SIZE) 0 c.args.chunks in
    let clear = c.in_ok-chunks.ensures ∙ ap (λ (n : ℕ). clear_chunks n MIN_SIZE) (sym many) in
    subst (λ (n : ℕ). IfOk c.make-2.result (λ ends. AreNewEnds n MIN_SIZE c.args.allowances.now ends.0 ends.1.items)) many (c.make-2.ensures MIN_SIZE clear)
