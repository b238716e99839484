use Rattle.std.proofs.Common.{◌≡◌, ℕ, List, ◌+◌, length, get_or, Some, refl, sym, ap, ◌∙◌, arith}
use Rattle.hs_check_follow.proofs.Prelude.{slice_get-get_or, same_Some, slice_get, NodeId, Told, ChangesAt, FollowedNode}
use Rattle.hs_records.specs.declared.setting.Setting.TheVariants as settings
use Rattle.hs_check_follow.proofs.Heard.{nothing_left, no_node, not_told, below, heard_one}
use Rattle.hs_check_follow.proofs.Lists.{indexed}
use Rattle.hs_check_follow.proofs.coordinator.FollowedCoordinator.hear.Goals as goal

pub returns-then-self-told : goal.returns-then-self-told
returns-then-self-told c = (refl, λ W J run m. nothing_left W J run c.args.told.now c.args.nodes.now c.args.self.now m c.if-self-told.true)

pub returns-then-place-nodes : goal.returns-then-place-nodes
returns-then-place-nodes c = (refl, λ W J run m. no_node W J run c.args.told.now c.args.nodes.now c.args.self.now m (get_or c.args.told.now c.args.self.now.next (record { 0 = 0 })) (slice_get-get_or c.args.told.now c.args.self.now.next (record { 0 = 0 }) c.if-self-told.false) c.if-place-nodes.true)

pub returns-then-heard-said : goal.returns-then-heard-said
returns-then-heard-said c = (
  refl,
  λ W J run m.
      let node : NodeId = (get_or c.args.told.now c.args.self.now.next (record { 0 = 0 })) in
      let node_is = slice_get-get_or c.args.told.now c.args.self.now.next (record { 0 = 0 }) c.if-self-told.false in
      let t_is = indexed c.args.nodes.now node.0 c.index-nodes-place.result c.if-place-nodes.false c.index-nodes-place.is in
      let low = c.if-place-nodes.false in
      let nodes = m.nodes_are.many in
      let counts = m.hearing.many in
      let count_is = slice_get-get_or c.args.self.now.counts.items node.0 0 (omega (arith, low, nodes, counts)) in
      let high = c.if-heard-said.true in
      let same = c.as_slice-said.ensures ∙ ap (λ (t : FollowedNode). t.follower.said.items) (sym c.index-nodes-place.is) in
      let list = ap (λ (l : List ℕ). get_or l node.0 0) c.as_slice.ensures in
      let long = ap length same in
      not_told W J run c.args.told.now c.args.nodes.now c.args.self.now m node node_is c.index-nodes-place.result t_is (get_or c.args.self.now.counts.items node.0 0) count_is (omega (arith, high, long, list)),
)

pub step-requires-clause-crumbs : goal.step-requires-clause-crumbs
step-requires-clause-crumbs c =
    let (W, J, run, m) = c.requires in
    let node : NodeId = (get_or c.args.told.now c.args.self.now.next (record { 0 = 0 })) in
    let node_is = slice_get-get_or c.args.told.now c.args.self.now.next (record { 0 = 0 }) c.if-self-told.false in
    let t_is = indexed c.args.nodes.now node.0 c.index-nodes-place.result c.if-place-nodes.false c.index-nodes-place.is in
    let low = c.if-place-nodes.false in
    let nodes = m.nodes_are.many in
    let counts = m.hearing.many in
    let count_is = slice_get-get_or c.args.self.now.counts.items node.0 0 (omega (arith, low, nodes, counts)) in
    let same = c.as_slice-said.ensures ∙ ap (λ (t : FollowedNode). t.follower.said.items) (sym c.index-nodes-place.is) in
    let list = ap (λ (l : List ℕ). get_or l node.0 0) c.as_slice.ensures in
    let said_is : slice_get c.index-nodes-place.result.follower.said.items (get_or c.args.self.now.counts.items node.0 0) ≡ Some c.index-said-heard.result =
    ap (λ (l : List Told). slice_get l (get_or c.args.self.now.counts.items node.0 0)) (sym same) ∙ ap (λ k. slice_get c.as_slice-said.result.now k) (sym list)
    ∙ indexed c.as_slice-said.result.now (get_or c.as_slice.result.now node.0 0) c.index-said-heard.result c.if-heard-said.false c.index-said-heard.is in
    below W J run c.args.told.now c.args.nodes.now c.args.self.now m node node_is c.index-nodes-place.result t_is (get_or c.args.self.now.counts.items node.0 0) count_is c.index-said-heard.result said_is

pub send_all-requires : goal.send_all-requires
send_all-requires c =
    let (W, J, run, m) = c.requires in
    let count = m.hearing.lists in
    let most = (m.valid.head settings.Nodes).1 in
    omega (arith, count, most)

pub returns : goal.returns
returns c = (
  (c.if-self-told.false, refl),
  λ W J run m.
      let node : NodeId = (get_or c.args.told.now c.args.self.now.next (record { 0 = 0 })) in
      let node_is = slice_get-get_or c.args.told.now c.args.self.now.next (record { 0 = 0 }) c.if-self-told.false in
      let t_is = indexed c.args.nodes.now node.0 c.index-nodes-place.result c.if-place-nodes.false c.index-nodes-place.is in
      let low = c.if-place-nodes.false in
      let nodes = m.nodes_are.many in
      let counts = m.hearing.many in
      let count = get_or c.args.self.now.counts.items node.0 0 in
      let count_is = slice_get-get_or c.args.self.now.counts.items node.0 0 (omega (arith, low, nodes, counts)) in
      let same = c.as_slice-said.ensures ∙ ap (λ (t : FollowedNode). t.follower.said.items) (sym c.index-nodes-place.is) in
      let list = ap (λ (l : List ℕ). get_or l node.0 0) c.as_slice.ensures in
      let said_is : slice_get c.index-nodes-place.result.follower.said.items (get_or c.args.self.now.counts.items node.0 0) ≡ Some c.index-said-heard.result =
      ap (λ (l : List Told). slice_get l (get_or c.args.self.now.counts.items node.0 0)) (sym same) ∙ ap (λ k. slice_get c.as_slice-said.result.now k) (sym list)
      ∙ indexed c.as_slice-said.result.now (get_or c.as_slice.result.now node.0 0) c.index-said-heard.result c.if-heard-said.false c.index-said-heard.is in
      let set = c.set_count.ensures in
      let counted : ChangesAt node.0 c.args.self.now.counts.items c.set_count.new.counts.items (λ old new. new ≡ old + 1) = record {
        before = set.before;
        stood = set.stood;
        now = set.now;
        set = set.set;
        became = set.became ∙ ap (λ k. k + 1) (list ∙ same_Some count set.before (sym count_is ∙ set.stood));
      } in
      heard_one W J run c.args.told.now c.args.nodes.now c.args.self.now m node node_is c.index-nodes-place.result t_is count count_is c.index-said-heard.result said_is c.step_by_step.ensures c.in_ok-asks.asks
      (c.in_ok-asks.ensures.asks run.heard m.hearing.taken) _ (c.in_ok-asks.ensures.taken run.heard m.hearing.taken) c.in_ok-asks.ensures.nodes c.in_ok-send_all.ensures counted refl c.in_ok-append.ensures.ok,
)
