use Rattle.std.proofs.Common.{[], refl, ap, subst, arith}
use Rattle.hs_agent.specs.Runs.{Follows, new_run}
use Rattle.hs_records.specs.declared.setting.Setting.TheVariants as settings
use Rattle.hs_records.specs.Plain.{PlainSettings}
use Rattle.hs_run_actors.proofs.Stages.{turns_begin, works_none}
use Rattle.hs_run_actors.proofs.agent.AgentActor.make.Goals as goal

pub make-requires-clause-size : goal.make-requires-clause-size
make-requires-clause-size c =
    let (W, valid, same, low, begins) = c.requires in
    let size = ap (λ s. s.size) same in
    let within = valid.head settings.Size in
    let least = within.0 in
    let most = within.1 in
    (omega (arith, size, least), omega (arith, size, most))

pub make-requires-clause-nodes : goal.make-requires-clause-nodes
make-requires-clause-nodes c =
    let (W, valid, same, low, begins) = c.requires in
    let nodes = ap (λ s. s.nodes) same in
    let most = (valid.head settings.Nodes).1 in
    omega (arith, nodes, most)

pub returns : goal.returns
returns c = λ W same begins.
    let follows = subst (λ (s : PlainSettings). Follows c.in_ok-make.field-0 (new_run s c.args.node)) same c.in_ok-make.ensures in (
      record {
        stands = record {
          works = works_none W c.args.node c.args.port.giver.pool c.in_ok-make.field-0 c.new-2.result.items c.new-2.ensures.items follows;
          asks_are = c.new.ensures.items;
          askable = tt;
          lines_are = begins.lines;
          turns = turns_begin W.settings c.args.node [] c.args.port.giver.turns begins.turns;
        };
        received = record { chunks = begins.chunks; crumbs = begins.crumbs; triggers = begins.triggers };
        clients_are = ap (λ (s : PlainSettings). s.clients) same;
      },
      refl,
    )
