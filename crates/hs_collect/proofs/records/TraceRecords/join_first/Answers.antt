use Rattle.hs_collect.proofs.Prelude.{wholes_of}
use Rattle.hs_collect.proofs.Joined.{joins_none, if_joins}
use Rattle.hs_collect.proofs.records.TraceRecords.join_first.Goals as goal

pub returns-clause-joins : goal.returns-clause-joins
returns-clause-joins c =
    if_joins c.join_before.result c.args.header c.args.place (wholes_of c.args.self.now) c.args.points.now.items c.in-Some.first.now _ c.in-Some.ensures c.join_before.ensures.its c.join_before.ensures.joined

pub returns-in_default-clause-joins : goal.returns-in_default-clause-joins
returns-in_default-clause-joins c = joins_none c.args.header c.args.place (wholes_of c.args.self.now) c.args.points.now.items c.in_default.ensures
