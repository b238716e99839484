use Rattle.std.proofs.Common.{arith}
use Rattle.hs_workload.proofs.Prelude.{draft_of}
use Rattle.hs_workload.proofs.Numbers.{least_size}
use Rattle.hs_workload.proofs.draft.Reader.size.Goals as goal

pub returns-clause-least : goal.returns-clause-least
returns-clause-least c =
    let low = least_size (draft_of c.args.self.now) c.requires.sound c.requires.started in
    let same = c.setting.ensures in
    omega (arith, low, same)
