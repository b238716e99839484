use Rattle.std.proofs.Common.{map, arith}
use Rattle.hs_replay_client.proofs.Prelude.{on_ok_weaker, done_behind, operation_of}
use Rattle.hs_replay_client.proofs.Pooling.{drew, went_pooled}
use Rattle.hs_replay_client.proofs.client.ReplayClient.play.Goals as goal

pub play_from-requires : goal.play_from-requires
play_from-requires c =
    let w = c.requires.within in
    record {
      settings = w.settings;
      client = w.client;
      drawn = w.drawn;
      done = w.done;
      k = w.k;
      l = w.l;
      m = w.m;
      at = w.at;
      rules_are = w.rules_are;
      ready = λ fewer few. let stamps = c.requires.stamps in (w.sized, omega (arith, few, stamps));
    }

pub returns-clause-goes : goal.returns-clause-goes
returns-clause-goes c =
    on_ok_weaker c.play_from.result
    (λ goes. λ settings client drawn done k l m history at after.
    let ops = map operation_of c.args.operations.now in
    went_pooled settings client ops drawn done (done_behind c.args.stride done ops) k l m history c.args.self.now c.play_from.new.self c.args.pool.now c.play_from.new.well at after (goes settings client drawn done k l m at))
    c.play_from.ensures

pub returns-clause-pool : goal.returns-clause-pool
returns-clause-pool c =
    let w = c.requires.within in
    on_ok_weaker c.play_from.result
    (λ goes. let went = goes w.settings w.client w.drawn w.done w.k w.l w.m w.at in let d = drew went.more c.args.pool.now c.play_from.new.well went.draws in (d.buffers, d.sized))
    c.play_from.ensures
