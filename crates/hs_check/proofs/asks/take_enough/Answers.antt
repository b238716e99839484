use Rattle.std.proofs.Common.{◌≡◌, ◌+◌, ◌-◌, ◌<◌, true, leb, min, length, get_or, sym, ap, ◌∙◌, arith}
use Rattle.hs_check.proofs.Prelude.{MAX_TAKEN, ask_enough_at}
use Rattle.hs_check.proofs.Asked.{enough_more}
use Rattle.hs_check.proofs.asks.take_enough.Goals as goal

pub loop-pass-preserved : goal.loop-pass-preserved
loop-pass-preserved c =
    let i = c.loop-pass.pass in
    let taken = c.args.taken.now in
    let sent = c.args.sent.now in
    let heard = c.args.heard.now in
    let low : i < length taken - 1 = omega (arith, c.saturating_sub-pass-end.ensures) in
    let waits = c.at-waiting.ensures ∙ ap (λ n. get_or sent n 0) c.at.ensures in
    let enough : ask_enough_at taken sent heard i ≡ true =
    ap (λ n. leb (min (n - get_or taken i 0) MAX_TAKEN) (get_or taken (i + 1) 0 - get_or taken i 0)) (sym waits) ∙ sym c.is_enough.ensures ∙ c.if-not-is_enough.false in
    record { least = omega arith; is = enough_more taken sent heard i _ low enough c.loop-pass.invariant.is }
