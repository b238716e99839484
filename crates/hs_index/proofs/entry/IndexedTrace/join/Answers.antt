use Rattle.std.proofs.Common.{◌++◌, length, map, sym, ap, ◌∙◌, le_refl, le_trans}
use Rattle.std.proofs.lemmas.Iterator.Adapters.{YieldsList-from_vec}
use Rattle.std.proofs.lemmas.Iterator.Consumers.{YieldsList-turn, YieldsList-end}
use Rattle.std.proofs.lemmas.List.{append-nil, map-id}
use Rattle.hs_words.specs.Buffers.{buffer_of}
use Rattle.hs_index.specs.Index.{PlainIndexedTrace}
use Rattle.hs_index.proofs.Moved.{joined_more, joined_room}
use Rattle.hs_index.proofs.entry.IndexedTrace.join.Goals as goal

pub loop-held-init : goal.loop-held-init
loop-held-init g c = (tt, tt, sym (append-nil (map (buffer_of {L = g.row.L.Denot} {g = g.L.Token}) c.args.others.now.items)), c.requires, le_refl c.args.others.now.room)

pub push-requires : goal.push-requires
push-requires g c =
    let held = c.self.inside.held.items in
    let all = YieldsList-from_vec {s = c.into_iter-held-iterator.result} held (c.into_iter-held-iterator.ensures.into_iter_gives.0 ∙ c.into_vec-held-items.ensures.items)
    (c.into_iter-held-iterator.ensures.into_iter_gives.1 ∙ c.into_vec-held-items.result.ok.0 ∙ ap length c.into_vec-held-items.ensures.items) in
    let turn = YieldsList-turn all c.loop-held.yielded c.loop-held.held-iterator c.loop-held.yielded_by c.next.result c.next.new.self c.in-Some.held c.in-Some.is c.next.ensures.steps in
    joined_room (buffer_of {L = g.row.L.Denot} {g = g.L.Token}) c.loop-held.others.items c.args.others.now.items c.loop-held.yielded held c.args.self.chunks c.loop-held.others.room
    (ap (λ (n : PlainIndexedTrace g.row.L.Denot). n.chunks) c.self.view_is) turn.0 c.loop-held.invariant.2 c.loop-held.invariant.3

pub loop-held-preserved : goal.loop-held-preserved
loop-held-preserved g c = (
  tt,
  tt,
  joined_more (buffer_of {L = g.row.L.Denot} {g = g.L.Token}) (map (buffer_of {L = g.row.L.Denot} {g = g.L.Token}) c.args.others.now.items) c.loop-held.others.items c.push.new.self.items c.loop-held.yielded c.in-Some.held
      c.push.ensures.items c.loop-held.invariant.2,
  le_trans c.loop-held.invariant.3 c.push.ensures.room,
  le_trans c.loop-held.invariant.4 c.push.ensures.room,
)

pub returns : goal.returns
returns g c =
    let held = c.self.inside.held.items in
    let f = buffer_of {L = g.row.L.Denot} {g = g.L.Token} in
    let all = YieldsList-from_vec {s = c.into_iter-held-iterator.result} held (c.into_iter-held-iterator.ensures.into_iter_gives.0 ∙ c.into_vec-held-items.ensures.items)
    (c.into_iter-held-iterator.ensures.into_iter_gives.1 ∙ c.into_vec-held-items.result.ok.0 ∙ ap length c.into_vec-held-items.ensures.items) in
    let done = YieldsList-end all c.loop-held.yielded c.loop-held.held-iterator c.loop-held.yielded_by c.next.result c.next.new.self c.in-None.is c.next.ensures.steps in
    record {
      items =
          c.loop-held.invariant.2
          ∙ ap (λ l. map f c.args.others.now.items ++ l) (ap (map f) (sym (map-id c.loop-held.yielded) ∙ done.0) ∙ ap (λ (n : PlainIndexedTrace g.row.L.Denot). n.chunks) c.self.view_is);
      room = c.loop-held.invariant.4;
    }
