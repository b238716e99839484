use Rattle.std.proofs.Common.{sym, ap, subst}
use Rattle.hs_base.specs.Notes.{Noted}
use Rattle.hs_agent.proofs.Prelude.{ChunkNote, Kept, first_point, Holds}
use Rattle.hs_records.specs.Plain.{settings_of}
use Rattle.hs_agent.proofs.holdings.Holdings.bare.Goals as goal

pub returns : goal.returns
returns g c =
    let point = first_point (settings_of c.args.settings.now) c.args.node.0 in
    subst (λ (k : Kept g.row.L.Denot). Holds k (point _)) (sym c.fill.ensures)
    (subst (λ b. Holds c.in_ok-holdings.holdings (point b)) (ap (λ (n : Noted ChunkNote). n.keeps) c.bare-standings.ensures) c.in_ok-holdings.ensures)
