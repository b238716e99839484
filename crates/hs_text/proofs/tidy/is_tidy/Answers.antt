use Rattle.std.proofs.Common.{◌≤◌, length, sym, ◌∙◌, arith}
use Rattle.hs_text.proofs.TidyLines.{tidy_by_bytes, tidy_at_end}
use Rattle.hs_text.proofs.tidy.is_tidy.Goals as goal

pub returns : goal.returns
returns c =
    let end = c.loop-byte-test.false in
    let past : length c.args.text.now ≤ c.loop-byte.byte-index = omega (arith, end) in
    sym (tidy_at_end c.loop-byte.is_tidy c.loop-byte.is_behind c.args.text.now c.loop-byte.byte-index past) ∙ sym c.loop-byte.invariant ∙ sym (tidy_by_bytes c.args.text.now)
