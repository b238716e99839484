use Rattle.std.proofs.Common.{◌≡◌, ◌∙◌, None, ap, sym, subst, nat_eq, length}
use Rattle.hs_replay.proofs.Prelude.{same_Some, is_left_bare, followed, are_clients_bare, replay_node_in, PlainReplayNode, NodeIsAt, run_of}
use Rattle.hs_replay.proofs.LeftOver.{first_off, second_off, third_off, fourth, remain_flag, asks_flag, said_flag, pins_flag}
use Rattle.hs_replay.proofs.node.ReplayNode.is_bare.Goals as goal

pub returns-then-not-clients_are_bare : goal.returns-then-not-clients_are_bare
returns-then-not-clients_are_bare c = λ W m n still done run there.
    let same = same_Some run still.at.run (sym there ∙ still.at.at) in
    let clients : are_clients_bare still.at.run ≡ c.clients_are_bare.result = sym (c.clients_are_bare.ensures W m n still done still.at.run still.at.at) in
    sym (ap (is_left_bare (followed W m.journal)) same ∙ first_off (are_clients_bare still.at.run) (asks_flag W m still.at.run) (said_flag W m still.at.run) (pins_flag still.at.run) (clients ∙ c.if-not-clients_are_bare.true))

pub returns-then-not-is_empty : goal.returns-then-not-is_empty
returns-then-not-is_empty c = λ W m n still done run there.
    let at : NodeIsAt W m n (replay_node_in c.self.inside) = subst (λ (p : PlainReplayNode). NodeIsAt W m n p) (sym c.self.view_is) still.at in
    let same = same_Some run at.run (sym there ∙ at.at) in
    let flags : is_left_bare (followed W m.journal) run ≡ is_left_bare (followed W m.journal) at.run = ap (is_left_bare (followed W m.journal)) same in
    let asks : asks_flag W m at.run ≡ c.is_empty.result = sym (remain_flag _ _ c.self.inside.asks.items _ c.is_empty.result at.stands.asks c.self.inside.asks.ok.0 c.is_empty.ensures) in
    sym (flags ∙ second_off (are_clients_bare at.run) (asks_flag W m at.run) (said_flag W m at.run) (pins_flag at.run) (asks ∙ c.if-not-is_empty.true))

pub returns-then-not-is_empty-2 : goal.returns-then-not-is_empty-2
returns-then-not-is_empty-2 c = λ W m n still done run there.
    let at : NodeIsAt W m n (replay_node_in c.self.inside) = subst (λ (p : PlainReplayNode). NodeIsAt W m n p) (sym c.self.view_is) still.at in
    let same = same_Some run at.run (sym there ∙ at.at) in
    let flags : is_left_bare (followed W m.journal) run ≡ is_left_bare (followed W m.journal) at.run = ap (is_left_bare (followed W m.journal)) same in
    let said : said_flag W m at.run ≡ c.is_empty-2.result = sym (remain_flag _ _ c.self.inside.said.items _ c.is_empty-2.result at.stands.said c.self.inside.said.ok.0 c.is_empty-2.ensures) in
    sym (flags ∙ third_off (are_clients_bare at.run) (asks_flag W m at.run) (said_flag W m at.run) (pins_flag at.run) (said ∙ c.if-not-is_empty-2.true))

pub returns : goal.returns
returns c = λ W m n still done run there.
    let at : NodeIsAt W m n (replay_node_in c.self.inside) = subst (λ (p : PlainReplayNode). NodeIsAt W m n p) (sym c.self.view_is) still.at in
    let same = same_Some run at.run (sym there ∙ at.at) in
    let flags : is_left_bare (followed W m.journal) run ≡ is_left_bare (followed W m.journal) at.run = ap (is_left_bare (followed W m.journal)) same in
    let clients : are_clients_bare at.run ≡ c.clients_are_bare.result = sym (c.clients_are_bare.ensures W m n still done at.run at.at) in
    let asks : asks_flag W m at.run ≡ c.is_empty.result = sym (remain_flag _ _ c.self.inside.asks.items _ c.is_empty.result at.stands.asks c.self.inside.asks.ok.0 c.is_empty.ensures) in
    let said : said_flag W m at.run ≡ c.is_empty-2.result = sym (remain_flag _ _ c.self.inside.said.items _ c.is_empty-2.result at.stands.said c.self.inside.said.ok.0 c.is_empty-2.ensures) in
    let follow = run_of W.settings at.run at.stands.agent.buffers None in
    let pins = c.pinned.ensures follow at.stands.agent.follows in
    let pinned : nat_eq c.pinned.result 0 ≡ pins_flag at.run = ap (λ k. nat_eq k 0) pins ∙ ap (λ s. nat_eq (length s.pinned) 0) (sym at.stands.agent.comes) in
    pinned ∙ sym (flags ∙ fourth (are_clients_bare at.run) (asks_flag W m at.run) (said_flag W m at.run) (pins_flag at.run) (clients ∙ c.if-not-clients_are_bare.false) (asks ∙ c.if-not-is_empty.false) (said ∙ c.if-not-is_empty-2.false))
