use Rattle.std.proofs.Common.{◌≡◌, ◌<◌, length, sym, arith}
use Rattle.hs_check_follow.proofs.Replayed.{may_miss, missed}
use Rattle.hs_check_follow.proofs.replay.Replay.miss.Goals as goal

pub returns : goal.returns
returns c = λ n earlier at.
    let r = c.args.self.now in
    let all : r.gone ≡ length r.waiting.items = omega (arith, r.waiting.ok.0, at.behind) in
    (may_miss n earlier r.waiting.items r.gone r.out.items r.owed at all c.if-self-eq0.false, missed n earlier r.waiting.items r.gone r.out.items r.owed at all c.if-self-eq0.false)
