use Rattle.std.proofs.Common.{refl, arith}
use Rattle.hs_records.specs.declared.setting.Setting.TheVariants as words
use Rattle.hs_run.proofs.Prelude.{workload_of}
use Rattle.hs_run.proofs.Begun.{begins_at, site_begins}
use Rattle.hs_run.proofs.making.make_site.Goals as goal

pub overflow_cast-node : goal.overflow_cast-node
overflow_cast-node c = let few = (c.requires.valid.head words.Nodes).1 in omega (arith, few, c.requires.low)

pub make-requires : goal.make-requires
make-requires c =
    let W = workload_of c.args.workload.now in
    let begun = c.in_ok-callers.field-0 in
    (W, c.requires.valid, refl, c.requires.low, begins_at W c.args.number begun.callers.items begun.port c.in_ok-callers.ensures)

pub returns : goal.returns
returns c =
    let W = workload_of c.args.workload.now in
    let begun = c.in_ok-callers.field-0 in
    let made = c.in_ok-agent.ensures W refl (begins_at W c.args.number begun.callers.items begun.port c.in_ok-callers.ensures) in
    site_begins W c.args.number begun.callers.items begun.port c.in_ok-callers.ensures c.in_ok-agent.agent made.0 made.1
