use Rattle.std.proofs.Common.{◌≡◌, ◌<◌, length, sym, arith}
use Rattle.hs_check_follow.proofs.Replayed.{found_some, found_none, empty, owed_few}
use Rattle.hs_check_follow.proofs.replay.Replay.find_none.Goals as goal

pub overflow_add-self : goal.overflow_add-self
overflow_add-self c =
    let (n, earlier, at, few) = c.requires in
    let r = c.args.self.now in
    let low = owed_few n earlier r.waiting.items r.gone r.out.items r.owed at in
    omega (arith, low, few)

pub returns : goal.returns
returns c = λ n earlier at.
    let r = c.args.self.now in
    let all : r.gone ≡ length r.waiting.items = omega (arith, r.waiting.ok.0, at.behind) in
    (found_none n earlier r.waiting.items r.gone r.out.items r.owed at all, empty n earlier r.waiting.items r.gone r.out.items r.owed at all)
