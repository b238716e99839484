-- A pass of any machine on its way: what it adds to a node's events and to its log.
use Rattle.std.proofs.Common.{◌≡◌, ℕ, List, [], ◌++◌, length, refl, sym, ap, ◌∙◌, Some, arith, map, slice_get, append_assoc}
use Rattle.hs_law_run.proofs.Prelude.{range_with_len, map-append, slice_get_within, same_Some, all_at, get_there, Step, noted_as, AgentEvent, PlainWorkload, node_sends, NodeRun, followed, Known, pool_events, Machine, pass_steps, give_steps, agents_take, agents_give, passes, heard_in, node_at, IsReached}
use Rattle.hs_law_run.specs.Reaching as reaching
use Rattle.hs_law_run.proofs.Came.{came}
use Rattle.hs_law_run.proofs.Followed.{count_nodes, give_there}
use Rattle.hs_law_run.proofs.Giving.{gives_there}
use Rattle.hs_law_run.proofs.Hearing.{hears_so}
use Rattle.hs_law_run.proofs.Keeping.{own_sends}
use Rattle.hs_law_run.proofs.Standing.{number_at}
use Rattle.hs_law_run.proofs.Taking.{before, done, comes_to, agent_takes}
use Rattle.hs_law_run.proofs.Walks.{IsEmptied}
use Rattle.hs_law_run.proofs.Takes.{gives}

module _ (k : Known) (W : PlainWorkload) where
  pub record PassFrom (m : Machine) (i : ℕ) (later : NodeRun) : Type 0 where
    pub node : NodeRun
    pub stands : slice_get (followed W m.journal).nodes i ≡ Some node
    pub number : node.node ≡ i
    pub sends : node.sends ≡ node_sends W m.journal i
    -- so it stands when it has taken
    pub taken : NodeRun
    pub taken_there : node_at W (agents_take W m).journal i ≡ Some taken
    pub from : ℕ
    pub from_is : from ≡ length (pool_events taken)
    pub count : ℕ
    pub count_is : count ≡ length taken.state.hand
    pub new : List AgentEvent
    pub events : later.events ≡ node.events ++ new
    pub noted : map noted_as new ≡ pass_steps W m (followed W m.journal) node ++ gives (range_with_len from count)
    pub log : later.state.log ≡ node.state.log ++ (pass_steps W m (followed W m.journal) node ++ gives (range_with_len from count))
    pub emptied : later.state.hand ≡ []
    -- so it stands before the coordinator hears
    pub given_there : node_at W (agents_give W (agents_take W m)).journal i ≡ Some later

  pub pass_from : (m : Machine) → IsReached W m → (i : ℕ) (later : NodeRun) → slice_get (followed W (passes W m).journal).nodes i ≡ Some later → PassFrom m i later
  pass_from m r i later stands =
      let low = slice_get_within (followed W (passes W m).journal).nodes i later stands in
      let now = count_nodes k W (passes W m).journal in
      let was = count_nodes k W m.journal in
      let node = get_there (followed W m.journal).nodes i (omega (arith, low, now, was)) in
      let a = agents_take W m in
      let ra = reaching.Takes m r in
      let t = agent_takes k W m r i node.0 node.1 in
      let c = came k.adds W.settings (heard_in W m.journal) (pass_steps W m (followed W m.journal) node.0) node.0 t.later t.takes in
      let v = comes_to k W a ra give_steps (gives_there k W a ra) i t.later t.node in
      let d = came k.adds W.settings (before k W a ra).heard (give_steps t.later) t.later v.later v.came in
      let b = agents_give W a in
      let h = hears_so k W b (reaching.Gives a ra) in
      let same : v.later ≡ later = same_Some v.later later (sym (ap (λ (nodes : List NodeRun). slice_get nodes i) h.nodes ∙ v.there) ∙ stands) in
      let number = number_at k W m i node.0 node.1 in
      record {
        node = node.0;
        stands = node.1;
        number = number;
        sends = own_sends k W m.journal i node.0 node.1 ∙ ap (node_sends W m.journal) number;
        taken = t.later;
        taken_there = t.node;
        from = length (pool_events t.later);
        from_is = refl;
        count = length t.later.state.hand;
        count_is = refl;
        new = c.new ++ d.new;
        events = ap (λ (n : NodeRun). n.events) (sym same) ∙ d.events ∙ ap (λ (es : List AgentEvent). es ++ d.new) c.events ∙ append_assoc node.0.events c.new d.new;
        noted = map-append noted_as c.new d.new ∙ ap (λ (front : List Step). front ++ map noted_as d.new) c.noted ∙ ap (λ (last : List Step). pass_steps W m (followed W m.journal) node.0 ++ last) d.noted;
        log =
            ap (λ (n : NodeRun). n.state.log) (sym same)
            ∙ d.log
            ∙ ap (λ (log : List Step). log ++ give_steps t.later) c.log
            ∙ append_assoc node.0.state.log (pass_steps W m (followed W m.journal) node.0) (give_steps t.later);
        emptied =
            ap (λ (n : NodeRun). n.state.hand) (sym same)
            ∙ (all_at (IsEmptied k.noted W.settings (before k W a ra).heard) (followed W b.journal).nodes i v.later (give_there k W a (done k W a ra)).each v.there).hand;
        given_there = v.there ∙ ap Some same;
      }
