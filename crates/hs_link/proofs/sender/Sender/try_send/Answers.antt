use Rattle.std.proofs.Common.{refl, arith}
use Rattle.hs_link.proofs.sender.Sender.try_send.Goals as goal

pub returns-then-places-eq0-clause-tried : goal.returns-then-places-eq0-clause-tried
returns-then-places-eq0-clause-tried g c =
    let flushed = c.flush.ensures in let none = c.if-places-eq0.true in
    (refl, flushed.sent, (λ place. let most = c.places.ensures.most 1 place in absurd (omega (arith, most, none))), (λ waits. flushed.kept (let left = flushed.left in omega (arith, waits, left))))
