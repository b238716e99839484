use Rattle.std.proofs.Common.{arith, ◌++◌, length, map, sym, ap, ◌∙◌, subst}
use Rattle.hs_replay_client.proofs.Prelude.{option_to_list, buffer_of, writing_in, Core, IsClear}
use Rattle.hs_replay_client.proofs.Recording.{fresh, records_wrote, records_drew}
use Rattle.hs_replay_client.proofs.writer.Writer.piece.Goals as goal

pub next_draw-requires : goal.next_draw-requires
next_draw-requires g c = (c.args.self.now.core.size, c.requires.ready 1 (omega arith))

pub returns-in-Written : goal.returns-in-Written
returns-in-Written g c =
    records_wrote g.W.Well.way (writing_in c.args.self.now) c.piece.new.self c.args.moment c.args.payload.now c.args.more c.args.well.now c.requires.sound c.in-Written.ensures.may c.in-Written.ensures.after

pub returns-in_ok-drawn-in-NeedPage : goal.returns-in_ok-drawn-in-NeedPage
returns-in_ok-drawn-in-NeedPage g c =
    let old = c.args.self.now in
    let turned = c.in-NeedPage.ensures in
    let d = c.in_ok-drawn-in-NeedPage.ensures in
    records_drew g.W.Well.way (writing_in old) c.piece.new.self c.supply.new.self (map buffer_of c.keep.new.chunks.items) (length c.args.payload.now) c.args.moment c.args.payload.now c.args.more c.args.well.now
    c.in_ok-drawn-in-NeedPage.drawn c.next_draw.new.self
    (record {
      sound = c.requires.sound;
      opened = c.requires.open;
      may = turned.may;
      is = turned.after;
      sends = c.in_ok-keep-in-NeedPage.ensures ∙ ap (λ handed. map buffer_of old.chunks.items ++ option_to_list handed) turned.answer.4;
      clear = d.clear;
      left = d.ready;
      draws = d.draws;
      ready = c.requires.ready 1 (omega arith);
    })
    c.supply.ensures.may c.supply.ensures.after

pub supply-requires-clause-clear : goal.supply-requires-clause-clear
supply-requires-clause-clear g c =
    fresh c.piece.new.self c.in_ok-drawn-in-NeedPage.drawn
    (subst (λ n. IsClear n c.in_ok-drawn-in-NeedPage.drawn) (sym (ap (λ (k : Core (Unit {0})). k.size) c.in-NeedPage.ensures.after)) (c.in_ok-drawn-in-NeedPage.ensures.clear c.args.self.now.core.size 0 (c.requires.ready 1 (omega arith))))
