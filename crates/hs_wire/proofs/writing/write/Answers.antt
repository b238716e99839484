use Rattle.std.proofs.Common.{◌≡◌, ◌+◌, sym, ◌∙◌, arith}
use Rattle.hs_wire.proofs.Prelude.{plain}
use Rattle.hs_wire.proofs.Putting.{length-message}
use Rattle.hs_wire.proofs.writing.write.Goals as goal

pub returns-then-out-wanted-clause-short : goal.returns-then-out-wanted-clause-short
returns-then-out-wanted-clause-short c wanted e =
    let len = c.len_of-wanted.result in
    let same : 20 + len ≡ wanted = cc in
    let all = length-message (plain c.args.message.now) len (sym c.len_of-wanted.ensures.bytes) in
    (sym same ∙ sym all, omega (arith, same, c.if-out-wanted.true))
