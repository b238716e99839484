use Rattle.std.proofs.Common.{◌≡◌, ℕ, ◌-◌, ◌++◌, ◌∷◌, [], List, length, replicate, sym, ap, ◌∙◌, arith}
use Rattle.std.proofs.lemmas.List.{length-replicate}
use Rattle.std.proofs.lemmas.List.FromFn.{length-map-range_with_len, map-range_with_len_more}
use Rattle.hs_words.specs.Chunks.{Contents, clear_chunk, clear_chunks}
use Rattle.hs_words.proofs.chunk.Stock.make.Goals as goal

pub push-requires : goal.push-requires
push-requires c =
    let made : length c.loop-number.chunks.items ≡ c.loop-number.number = ap length c.loop-number.invariant.made ∙ length-map-range_with_len (clear_chunk c.args.size) 0 c.loop-number.number in
    omega (arith, made, c.loop-number.invariant.room, c.loop-number-test.true)

pub new_chunk-requires-clause-zeros : goal.new_chunk-requires-clause-zeros
new_chunk-requires-clause-zeros c =
    let zeros = c.in-Ok.ensures.items_if_clones_equal (λ y same. same) in
    zeros ∙ ap (λ n. replicate n 0) (sym (ap length zeros ∙ length-replicate {A = ℕ} _ 0))

pub loop-number-preserved : goal.loop-number-preserved
loop-number-preserved c =
    let n = c.loop-number.number in
    let size : length c.in-Ok.bytes.items - 8 ≡ c.args.size = omega (arith, c.in-Ok.ensures.len, c.in-Ok.bytes.ok.0) in
    record {
      made =
          c.push.ensures.items
          ∙ ap (λ (chunk : Contents). c.loop-number.chunks.items ++ chunk ∷ []) c.new_chunk.ensures
          ∙ ap (λ (cs : List Contents). cs ++ clear_chunk (length c.in-Ok.bytes.items - 8) n ∷ []) c.loop-number.invariant.made
          ∙ ap (λ m. clear_chunks n c.args.size ++ clear_chunk m n ∷ []) size
          ∙ sym (map-range_with_len_more (clear_chunk c.args.size) 0 n n (omega arith));
      room = omega (arith, c.push.ensures.room, c.loop-number.invariant.room);
    }
