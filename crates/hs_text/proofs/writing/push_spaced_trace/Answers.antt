use Rattle.hs_text.proofs.DigitLemmas.{wide_trace}
use Rattle.hs_text.proofs.writing.push_spaced_trace.Goals as goal

pub returns : goal.returns
returns c = wide_trace c.args.version c.args.trace _ _ _ _ c.if-version-eq1.false c.in_ok-push_spaced_sixteen.ensures c.hex_sixteen.ensures c.in_ok-extend_from_slice.ensures.items
