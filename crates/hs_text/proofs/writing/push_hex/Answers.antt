use Rattle.std.proofs.Common.{arith, length-set, ◌∙◌}
use Rattle.hs_text.proofs.TextLemmas.{hex_step}
use Rattle.hs_text.proofs.writing.push_hex.Goals as goal

pub loop-place-preserved : goal.loop-place-preserved
loop-place-preserved c =
    let so_far = c.loop-place.invariant in
    record {
      text = hex_step _ c.loop-place.text c.loop-place.rest c.loop-place.place c.args.digits c.loop-place-test.true c.loop-place.auto.place (omega (arith, so_far.size, c.requires)) so_far.text;
      size = length-set _ _ _ ∙ so_far.size;
    }
