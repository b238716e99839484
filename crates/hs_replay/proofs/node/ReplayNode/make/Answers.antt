use Rattle.std.proofs.Common.{◌≡◌, ◌∙◌, ap, sym, arith, length, subst}
use Rattle.hs_replay.proofs.Prelude.{clear_chunks, Follows, new_run, PlainSettings, settings_of, PlainReplayNode}
use Rattle.hs_base.specs.Rules.{AreRules}
use Rattle.hs_records.specs.declared.setting.Setting.TheVariants as settings
use Rattle.hs_words.proofs.Chunks.{length_clear}
use Rattle.hs_replay.proofs.Begun.{new_node, new_pool}
use Rattle.hs_replay.proofs.node.ReplayNode.make.Goals as goal

pub make-requires-clause-some : goal.make-requires-clause-some
make-requires-clause-some c =
    let (W, new) = c.requires in
    let same = ap (λ s. s.buffers) new.are.settings_are in
    let bound = (new.valid.head settings.Buffers).0 in
    omega (arith, same, bound)

pub make-requires-clause-few : goal.make-requires-clause-few
make-requires-clause-few c =
    let (W, new) = c.requires in
    let same = ap (λ s. s.buffers) new.are.settings_are in
    let bound = (new.valid.head settings.Buffers).1 in
    omega (arith, same, bound)

pub make-requires-clause-least : goal.make-requires-clause-least
make-requires-clause-least c =
    let (W, new) = c.requires in
    let same = ap (λ s. s.size) new.are.settings_are in
    let bound = (new.valid.head settings.Size).0 in
    omega (arith, same, bound)

pub make-requires-clause-most : goal.make-requires-clause-most
make-requires-clause-most c =
    let (W, new) = c.requires in
    let same = ap (λ s. s.size) new.are.settings_are in
    let bound = (new.valid.head settings.Size).1 in
    omega (arith, same, bound)

pub make-requires-2-clause-some : goal.make-requires-2-clause-some
make-requires-2-clause-some c =
    let (W, new) = c.requires in
    let count = ap length c.in_ok-stock.ensures in
    let clear = length_clear c.args.settings.now.buffers c.args.settings.now.size in
    let same = ap (λ s. s.buffers) new.are.settings_are in
    let bound = (new.valid.head settings.Buffers).0 in
    omega (arith, count, clear, same, bound)

pub make-requires-2-clause-few : goal.make-requires-2-clause-few
make-requires-2-clause-few c =
    let (W, new) = c.requires in
    let count = ap length c.in_ok-stock.ensures in
    let clear = length_clear c.args.settings.now.buffers c.args.settings.now.size in
    let same = ap (λ s. s.buffers) new.are.settings_are in
    let bound = (new.valid.head settings.Buffers).1 in
    omega (arith, count, clear, same, bound)

pub make-requires-3-clause-nodes : goal.make-requires-3-clause-nodes
make-requires-3-clause-nodes c =
    let (W, new) = c.requires in
    let same = ap (λ s. s.nodes) new.are.settings_are in
    let bound = (new.valid.head settings.Nodes).1 in
    omega (arith, same, bound)

pub make-requires-2-clause-clear : goal.make-requires-2-clause-clear
make-requires-2-clause-clear c =
    let count = ap length c.in_ok-stock.ensures ∙ length_clear c.args.settings.now.buffers c.args.settings.now.size in
    (c.args.settings.now.size, c.in_ok-stock.ensures ∙ ap (λ k. clear_chunks k c.args.settings.now.size) (sym count))

pub make-requires-3-clause-rules : goal.make-requires-3-clause-rules
make-requires-3-clause-rules c =
    let (W, new) = c.requires in
    subst AreRules (sym (ap (λ s. s.triggers) new.are.settings_are)) new.valid.rules

pub make-requires-3-clause-size : goal.make-requires-3-clause-size
make-requires-3-clause-size c =
    let (W, new) = c.requires in
    let same = ap (λ s. s.size) new.are.settings_are in
    let within = new.valid.head settings.Size in
    let low = within.0 in
    let high = within.1 in
    (omega (arith, same, low), omega (arith, same, high))

pub returns : goal.returns
returns c = λ W new.
    let node : PlainReplayNode = record { pool = c.in_ok-pool.pool; players = c.in_ok-players.players.items; agent = c.in_ok-agent.agent; asks = c.new.result.items; said = c.new-2.result.items } in
    let are : settings_of c.args.settings.now ≡ W.settings = new.are.settings_are in
    let clear : c.in_ok-stock.stock.items ≡ clear_chunks W.settings.buffers W.settings.size =
    c.in_ok-stock.ensures ∙ ap (λ (s : PlainSettings). clear_chunks s.buffers s.size) are in
    let pool = new_pool W.settings c.in_ok-pool.pool c.in_ok-stock.stock.items clear c.in_ok-pool.ensures.queue c.in_ok-pool.ensures.after c.in_ok-pool.ensures.buffers in
    let agent = subst (λ (s : PlainSettings). Follows c.in_ok-agent.agent (new_run s c.args.node)) are c.in_ok-agent.ensures in
    new_node c.machines_start_so.ensures W c.args.node new.low node (c.in_ok-players.ensures W new) agent pool c.new.ensures.items c.new-2.ensures.items
