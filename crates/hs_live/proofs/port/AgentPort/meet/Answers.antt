use Rattle.std.proofs.Common.{map, sym, ap, ◌∙◌, arith}
use Rattle.hs_live.proofs.Prelude.{Giving, incoming}
use Rattle.hs_live.proofs.Ports.{of_met}
use Rattle.hs_live.proofs.port.AgentPort.meet.Goals as goal

pub invariant_of-self : goal.invariant_of-self
invariant_of-self c =
    let s = c.self.inside in
    let is = c.self.invariant in
    let met = c.meet.ensures.met in
    let pool = ap (λ (g : Giving). g.pool) met.pool.giver_hears in
    let size = ap (λ (g : Giving). g.size) met.pool.giver_hears in
    let chunks = of_met s.giver c.meet.new.giver (map incoming s.chunks.items) (map incoming c.meet.new.chunks.items) c.args.number c.args.client.now.chunks c.meet.new.self.chunks pool size is.of_chunks met.chunks in
    let crumbs = of_met s.giver c.meet.new.giver s.crumbs.items c.meet.new.crumbs.items c.args.number c.args.client.now.crumbs c.meet.new.self.crumbs pool size is.of_crumbs met.crumbs in
    let triggers = of_met s.giver c.meet.new.giver s.triggers.items c.meet.new.triggers.items c.args.number c.args.client.now.triggers c.meet.new.self.triggers pool size is.of_triggers met.triggers in
    record {
      some = omega (arith, is.some, chunks.count);
      few = omega (arith, is.few, chunks.count);
      crumbs = crumbs.count ∙ is.crumbs ∙ sym chunks.count;
      triggers = triggers.count ∙ is.triggers ∙ sym chunks.count;
      of_chunks = chunks.are;
      of_crumbs = crumbs.are;
      of_triggers = triggers.are;
    }
