use Rattle.std.proofs.Common.{◌<◌, refl, sym, ◌∙◌, length-set, arith}
use Rattle.hex.specs.Hex.{encode_with}
use Rattle.hs_text.proofs.DigitLemmas.{hex_more}
use Rattle.hs_text.proofs.digits.write_hex.Goals as goal

pub loop-byte-init : goal.loop-byte-init
unfolding encode_with
loop-byte-init c = record { place = refl; size = c.requires; done = refl }

pub loop-byte-preserved : goal.loop-byte-preserved
loop-byte-preserved c =
    let so_far = c.loop-byte.invariant in
    let small : c.from-pair.result < 256 = omega arith in
    record {
      place = omega arith;
      size = length-set _ _ _ ∙ length-set _ _ _ ∙ so_far.size;
      done = hex_more c.args.bytes.now c.loop-byte.text c.loop-byte.byte-index c.loop-byte.at c.from-pair.result _ so_far.place (omega arith) so_far.size (sym c.from-pair.ensures) small so_far.done;
    }
