use Rattle.std.proofs.Common.{◌≡◌, ◌∙◌, [], ◌∷◌, ◌++◌, List, length, map, sym, ap, subst}
use Rattle.hs_replay.proofs.Prelude.{YieldsList-from_vec, YieldsList-turn, YieldsList-end, range_with_len, item_there, client_book_of, ClientBook, client_noted}
use Rattle.hs_replay.proofs.Ended.{is_done, noted_more}
use Rattle.hs_replay.proofs.finishing.note_players.Goals as goal

pub finish-requires : goal.finish-requires
finish-requires c =
    let (W, m, n, ended) = c.requires in
    let all = YieldsList-from_vec {s = c.into_iter-player-iterator.result} c.args.players.items (cc) (cc) in
    let turn = YieldsList-turn all c.loop-player.yielded c.loop-player.player-iterator c.loop-player.yielded_by c.next.result c.next.new.self c.in-Some.player c.in-Some.is c.next.ensures.steps in
    let stood = item_there c.args.players.items (length c.loop-player.yielded) c.in-Some.player turn in
    is_done W m n c.args.players.items (length c.loop-player.yielded) c.in-Some.player ended stood

pub loop-player-preserved : goal.loop-player-preserved
loop-player-preserved c =
    let all = YieldsList-from_vec {s = c.into_iter-player-iterator.result} c.args.players.items (cc) (cc) in
    let turn = YieldsList-turn all c.loop-player.yielded c.loop-player.player-iterator c.loop-player.yielded_by c.next.result c.next.new.self c.in-Some.player c.in-Some.is c.next.ensures.steps in
    let stood = item_there c.args.players.items (length c.loop-player.yielded) c.in-Some.player turn in (
      tt,
      tt,
      λ W m n ended.
          subst (λ (books : List ClientBook). map client_book_of books ≡ map client_book_of c.args.clients.now.items ++ map (client_noted W m n) (range_with_len 0 (length (c.loop-player.yielded ++ c.in-Some.player ∷ [])))) (sym c.in_ok-append.ensures.ok)
          (noted_more W m n c.args.players.items c.loop-player.yielded c.in-Some.player c.args.clients.now.items c.loop-player.clients.items c.finish.result ended stood c.finish.ensures (c.loop-player.invariant.2 W m n ended)),
    )

pub returns : goal.returns
returns c = λ W m n ended.
    let all = YieldsList-from_vec {s = c.into_iter-player-iterator.result} c.args.players.items (cc) (cc) in
    let last = YieldsList-end all c.loop-player.yielded c.loop-player.player-iterator c.loop-player.yielded_by c.next.result c.next.new.self c.in-None.is c.next.ensures.steps in
    c.loop-player.invariant.2 W m n ended ∙ ap (λ k. map client_book_of c.args.clients.now.items ++ map (client_noted W m n) (range_with_len 0 k)) (last.1 ∙ ended.count)
