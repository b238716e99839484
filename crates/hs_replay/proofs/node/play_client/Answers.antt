use Rattle.std.proofs.Common.{get_or}
use Rattle.hs_replay.proofs.Prelude.{lent_is, lent_from}
use Rattle.hs_replay.proofs.Lists.{on_ok}
use Rattle.hs_replay.proofs.node.play_client.Goals as goal

pub play-requires-clause-within : goal.play-requires-clause-within
play-requires-clause-within c =
    let items = c.args.players.now.items in
    let now = c.as_mut_slice.result.now in
    c.requires.within (get_or now c.args.client c.index-as_mut_slice-client.result) (lent_from items now c.args.client c.index-as_mut_slice-client.result c.as_mut_slice.ensures.value c.requires.client)

pub returns-clause-goes : goal.returns-clause-goes
returns-clause-goes c =
    let items = c.args.players.now.items in
    let now = c.as_mut_slice.result.now in
    on_ok c.play.result _ _ c.play.ensures.goes (λ goes. record {
      before = get_or now c.args.client c.index-as_mut_slice-client.result;
      stood = lent_from items now c.args.client c.index-as_mut_slice-client.result c.as_mut_slice.ensures.value c.requires.client;
      now = c.play.new.self;
      set = lent_is items now c.args.client c.play.new.self c.as_mut_slice.ensures.value;
      became = goes;
    })
