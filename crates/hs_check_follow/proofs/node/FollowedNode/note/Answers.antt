use Rattle.std.proofs.Common.{length, refl, sym, ap, ◌∙◌}
use Rattle.hs_check_follow.proofs.Prelude.{AgentState}
use Rattle.hs_check_follow.proofs.Filing.{nothing_noted, appended}
use Rattle.hs_check_follow.proofs.node.FollowedNode.note.Goals as goal

pub returns-then-not-last : goal.returns-then-not-last
returns-then-not-last c = nothing_noted c.args.self.now c.args.last c.if-not-last.true

pub returns : goal.returns
returns c =
    record {
      follower = refl;
      next = refl;
      hands = λ W J run log s. c.in_ok-append.ensures.ok ∙ appended c.args.self.now.hands.items c.args.last c.in_hand.result _ c.if-not-last.false
          (c.in_hand.ensures _ s.agent.follows refl ∙ ap (λ (state : AgentState). length state.hand) (sym s.agent.comes));
      told = λ W J run log s. c.in_ok-append-2.ensures.ok ∙ appended c.args.self.now.told.items c.args.last c.len.result _ c.if-not-last.false
          (c.len.ensures ∙ ap length s.said);
    }
