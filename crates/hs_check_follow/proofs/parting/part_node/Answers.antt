use Rattle.std.proofs.Common.{List, ap, map, ◌++◌, ◌∙◌}
use Rattle.std.proofs.lemmas.Result.{IfOk-weaker}
use Rattle.hs_check_follow.proofs.Prelude.{FollowedClient}
use Rattle.hs_check_follow.specs.declared.found.FoundClient.{FoundClient}
use Rattle.hs_check_follow.proofs.parting.part_node.Goals as goal

pub returns-clause-found : goal.returns-clause-found
returns-clause-found c =
    let left : List FoundClient = map (λ (s : FollowedClient). s.found) c.args.tracked.follower.clients.items in
    IfOk-weaker c.part_agent.result _ _
    (λ all is.
    record {
      clients = is.0 ∙ ap (λ (l : List FoundClient). l ++ left) c.new.ensures.items;
      gives = is.1;
      hands = is.2;
      said = is.3;
      told = is.4 ∙ c.len.ensures;
      pinned = λ run follows. is.5 ∙ c.pinned.ensures run follows;
    })
    c.part_agent.ensures.found
