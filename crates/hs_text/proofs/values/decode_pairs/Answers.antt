use Rattle.std.proofs.Common.{arith, ◌∙◌, ap, ◌+◌, ◌*◌, ℕ, length-set}
use Rattle.hs_text.proofs.Pairs.{pair_step}
use Rattle.hs_text.proofs.values.decode_pairs.Goals as goal

pub loop-place-preserved : goal.loop-place-preserved
loop-place-preserved c =
    let so_far = c.loop-place.invariant in
    record {
      size = omega (arith, so_far.size, length-set {A = ℕ});
      bytes = pair_step c.args.word.now c.loop-place.out c.loop-place.place _ (omega (arith, so_far.size)) (omega arith) (omega (arith, c.hex_value.ensures.value, c.hex_value-in-loop-place.ensures.value)) so_far.bytes;
    }
