use Rattle.std.proofs.Common.{◌≡◌, ◌+◌, ◌%◌, ap, ◌∙◌, arith, length}
use Rattle.hs_make.specs.Words.{words_from, each_below}
use Rattle.hs_make.specs.Made.{bytes_at}
use Rattle.hs_make.proofs.Sequences.{length-each_below}
use Rattle.hs_make.proofs.Drawn.{byte_more, word_more}
use Rattle.hs_make.proofs.draws.draw_payload.Goals as goal

pub bytes-init : goal.bytes-init
unfolding each_below
bytes-init c = record { bytes = c.in_ok-payload.ensures.empty; words = c.pick-length.ensures.rest; room = omega (arith, c.in_ok-payload.ensures.room) }

pub push-requires : goal.push-requires
push-requires c =
    let len : length (bytes_at c.bytes.counter (words_from c.args.generator.now)) ≡ c.bytes.counter = length-each_below c.bytes.counter (λ i. words_from c.args.generator.now (1 + i) % 256) in
    let same : length c.bytes.payload.items ≡ c.bytes.counter = ap length c.bytes.invariant.bytes ∙ len in
    omega (arith, same)

pub bytes-preserved : goal.bytes-preserved
bytes-preserved c =
    record {
      bytes = c.push.ensures.items ∙ byte_more c.bytes.counter c.pick.result (words_from c.args.generator.now) (words_from c.bytes.generator) c.bytes.payload.items c.bytes.invariant.bytes c.bytes.invariant.words c.pick.ensures.picked;
      words = word_more (1 + c.bytes.counter) (1 + (c.bytes.counter + 1)) (words_from c.args.generator.now) (words_from c.bytes.generator) (words_from c.pick.new.generator) (omega arith) c.bytes.invariant.words c.pick.ensures.rest;
      room = omega arith;
    }
