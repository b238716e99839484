use Rattle.std.proofs.Common.{◌≡◌, ◌+◌, ◌*◌, ◌%◌, ap, ◌∙◌, arith, map, refl}
use Rattle.hs_records.specs.Views.{operations_of}
use Rattle.hs_make.specs.Words.{Words, words_from, from, behind_parts}
use Rattle.hs_make.specs.Made.{depth_at}
use Rattle.hs_make.proofs.Clients.{adds_nothing, adds_visit}
use Rattle.hs_make.proofs.Drawn.{word_more, three_drawn, visit_more}
use Rattle.hs_make.proofs.request.draw_request.Goals as goal

pub loop-node-init : goal.loop-node-init
unfolding behind_parts
loop-node-init c =
    record {
      len = c.requires;
      added = adds_nothing c.args.request (words_from c.args.generator.now) (map operations_of c.args.clients.now.items);
      words =
          three_drawn (words_from c.args.generator.now) (words_from c.draw.new.generator) (words_from c.pick-client.new.generator) (words_from c.pick.new.generator) c.draw.ensures.rest
          c.pick-client.ensures.rest c.pick.ensures.rest;
    }

pub loop-node-preserved : goal.loop-node-preserved
loop-node-preserved c =
    let words : Words = words_from c.args.generator.now in
    let now = c.loop-node.invariant in
    let client : c.pick-client.result ≡ words 1 % 4 = c.pick-client.ensures.picked ∙ (λ i. c.draw.ensures.rest i 0 % c.from-2.ensures i) in
    let second : words_from c.pick-client.new.generator ≡ from 2 words =
    word_more 1 2 words (words_from c.draw.new.generator) (words_from c.pick-client.new.generator) refl c.draw.ensures.rest c.pick-client.ensures.rest in
    let depth : 1 + c.pick.result ≡ depth_at words = ap (λ n. 1 + n) (c.pick.ensures.picked ∙ (λ i. second i 0 % c.from-3.ensures i)) in
    let place : c.from-in-loop-node.result * c.from-in-loop-node-2.result + c.pick-client.result ≡ 4 * c.loop-node.node + words 1 % 4 =
    λ i. c.from-in-loop-node.ensures i * c.from-in-loop-node-2.ensures i + client i in
    let trace : c.from.result ≡ words 0 = c.from.ensures ∙ c.draw.ensures.word in
    record {
      len = now.len;
      added =
          adds_visit c.loop-node.node c.args.request (c.from-in-loop-node.result * c.from-in-loop-node-2.result + c.pick-client.result) c.from.result (1 + c.pick.result) words (words_from c.loop-node.generator)
          (map operations_of c.args.clients.now.items) c.loop-node.clients.items c.index_mut.result.now c.draw_visit.new.operations (omega arith) place trace depth now.added now.words (omega (arith, place, now.len, c.loop-node.clients.ok))
          c.index_mut.ensures.value c.in_ok-draw_visit.ensures.visited;
      words = visit_more c.loop-node.node words (words_from c.loop-node.generator) (words_from c.draw_visit.new.generator) now.words c.in_ok-draw_visit.ensures.rest;
    }
