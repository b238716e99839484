use Rattle.std.proofs.Common.{◌≡◌, true, map, refl, sym, subst, arith}
use Rattle.hs_live.proofs.Prelude.{AllByRecursion, fired_by, is_declared, Trigger, Watch, Outgoing, Key, PlainClient, Port, IsMate, outgoing, incoming, live_of, writing_in}
use Rattle.hs_live.specs.Calls.{MeetsAt}
use Rattle.hs_live.proofs.Sound.{sound_met}
use Rattle.hs_live.proofs.Ports.{heard_room, met_buffers, mate_of_buffers}
use Rattle.hs_live.proofs.client.Client.meet.Goals as goal

pub meet_at-requires : goal.meet_at-requires
meet_at-requires c =
    let items = c.args.chunks.now.items in
    mate_of_buffers items c.args.number c.self.inside.writer.chunks (subst (λ (l : PlainClient). IsMate c.args.number (map incoming items) l.chunks) (sym c.self.view_is) c.requires.chunks)

pub invariant_of-self : goal.invariant_of-self
invariant_of-self c =
    let s = c.self.inside in
    let is = c.self.invariant in
    let chunks = c.meet_at.ensures in
    let crumbs = c.meet_at-2.ensures in
    let triggers = c.meet_at-3.ensures in
    let seen = met_buffers c.args.chunks.now.items c.meet_at.new.receivers.items c.args.number s.writer.chunks c.meet_at.new.sender chunks in
    let one = heard_room s.writer.chunks c.meet_at.new.sender chunks.receiver chunks.sender_is in
    let two = heard_room s.crumbs c.meet_at-2.new.sender crumbs.receiver crumbs.sender_is in
    let three = heard_room s.triggers c.meet_at-3.new.sender triggers.receiver triggers.sender_is in
    record {
      writer = sound_met (writing_in s.writer) c.meet.new.drawer (outgoing c.meet_at.new.sender) _ _ is.writer c.meet.ensures.drawer_hears seen.sender_is;
      rooms = omega (arith, is.rooms, one, two, three);
      declared = subst (λ (o : Outgoing Trigger Key). AllByRecursion (λ (watch : Watch). is_declared o.key.rules (fired_by watch.rule) ≡ true) s.autos.items) (sym triggers.sender_is) is.declared;
    }

pub returns-clause-met : goal.returns-clause-met
returns-clause-met c =
    let s = c.self.inside in
    let number = c.args.number in
    let old : Port = record { giver = c.args.giver.now; chunks = map incoming c.args.chunks.now.items; crumbs = c.args.crumbs.now.items; triggers = c.args.triggers.now.items } in
    let new : Port = record { giver = c.meet.new.self; chunks = map incoming c.meet_at.new.receivers.items; crumbs = c.meet_at-2.new.receivers.items; triggers = c.meet_at-3.new.receivers.items } in
    let client : PlainClient =
    live_of (record { writer = record { core = s.writer.core; drawer = c.meet.new.drawer; chunks = c.meet_at.new.sender }; autos = s.autos; crumbs = c.meet_at-2.new.sender; triggers = c.meet_at-3.new.sender }) in
    subst (λ (l : PlainClient). MeetsAt number old l new client) c.self.view_is
    (record {
      chunks = met_buffers c.args.chunks.now.items c.meet_at.new.receivers.items number s.writer.chunks c.meet_at.new.sender c.meet_at.ensures;
      crumbs = c.meet_at-2.ensures;
      triggers = c.meet_at-3.ensures;
      pool = c.meet.ensures;
      core = refl;
      autos = refl;
    })
