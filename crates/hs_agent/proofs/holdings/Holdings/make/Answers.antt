use Rattle.std.proofs.Common.{ap, subst}
use Rattle.hs_base.specs.Notes.{Noted}
use Rattle.hs_agent.proofs.Prelude.{IfOk, ChunkNote, first_point, Holds}
use Rattle.hs_records.specs.Plain.{settings_of}
use Rattle.hs_agent.proofs.holdings.Holdings.make.Goals as goal

pub returns : goal.returns
returns g c =
    subst (λ b. IfOk c.empty.result (λ holdings. Holds holdings (first_point (settings_of c.args.settings.now) c.args.node.0 b))) (ap (λ (n : Noted ChunkNote). n.keeps) c.new-standings.ensures) c.empty.ensures
