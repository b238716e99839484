use Rattle.std.proofs.Common.{length, length-append, ap, arith}
use Rattle.hs_link.proofs.sender.Sender.send.Goals as goal

pub send_within-requires-clause-place : goal.send_within-requires-clause-place
send_within-requires-clause-place g c =
    let all = length-append c.args.self.now.put c.args.self.now.outbox in let room = c.requires.room in let small = c.self.invariant.6 in let is = ap (λ v. v.room) c.self.view_is in
    (omega (arith, all, room), omega (arith, all, room, small, is))
