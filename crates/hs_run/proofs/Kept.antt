-- The pools of the nodes keep their sizes and their drawers.
use Rattle.std.proofs.Common.{◌≡◌, ℕ, zero, suc, ◌<◌, ◌≤◌, sym, ap, subst, ◌∙◌, Some, arith, slice_get}
use Rattle.hs_run.proofs.Prelude.{slice_get_within, PlainWorkload, IsValid, PlainClientActor, PlainNodeActors, RunState, RunStands, Came}
use Rattle.hs_run.specs.Laws.{AllBegin, PoolsAreKept}
use Rattle.hs_run.proofs.StoryMoments.{site_of, site_there, stands_at, site_stands, site_acts, site_meets, giver_same}
use Rattle.hs_run.proofs.StoryMeetings.{caller_at, here_at, goes_at, caller_met, caller_moved}

module _ (W : PlainWorkload) (valid : IsValid W) (rounds : ℕ) (m : RunState) (came : Came W rounds m) (begins : AllBegin W (came.at 0)) (node : ℕ) (few : node < W.settings.nodes) where
  record KeptAt (k : ℕ) : Type 0 where
    buffers : (site_of W valid rounds m came (came.at k) node).agent.port.giver.buffers ≡ W.settings.buffers
    drawers : (site_of W valid rounds m came (came.at k) node).agent.port.giver.drawers ≡ W.settings.clients
    numbers : (client : ℕ) → client < W.settings.clients → (caller_at W valid rounds m came node k client).client.drawer.number ≡ client

  kept_at : (k : ℕ) → k ≤ rounds → KeptAt k
  kept_at zero low =
      let b = begins.pools node (site_of W valid rounds m came (came.at 0) node) (site_there W valid rounds m came (came.at 0) came.begun.stands node few) in
      record { buffers = b.buffers; drawers = b.drawers; numbers = λ client own. b.numbers client (caller_at W valid rounds m came node 0 client) (here_at W valid rounds m came node few 0 client (omega arith) own) }
  kept_at (suc k) low =
      let before = kept_at k (omega (arith, low)) in
      let gives = (site_acts W valid rounds m came k node (omega (arith, low)) few).passes.gives in
      let met = (site_meets W valid rounds m came k node (omega (arith, low)) few).giver in
      let same = giver_same W valid rounds m came k node (omega (arith, low)) few in
      record {
        buffers = ap (λ g. g.buffers) same ∙ met.buffers ∙ gives.buffers ∙ before.buffers;
        drawers = ap (λ g. g.drawers) same ∙ met.drawers ∙ gives.drawers ∙ before.drawers;
        numbers = λ client own.
            ap (λ (c : PlainClientActor). c.client.drawer.number) (caller_moved W valid rounds m came node few k client (omega (arith, low)) own)
            ∙ ap (λ d. d.number) (caller_met W valid rounds m came node few k client (omega (arith, low)) own).drawer
            ∙ (goes_at W valid rounds m came node few k client (omega (arith, low)) own).draws.number ∙ before.numbers client own;
      }

pub pools_kept : PoolsAreKept
pools_kept W rounds m valid came begins node site there =
    let stands : RunStands W m = subst (RunStands W) came.last (stands_at W valid rounds m came rounds (omega arith)) in
    let within = slice_get_within m.standing.nodes node site there in
    let count = stands.count in
    let few : node < W.settings.nodes = omega (arith, within, count) in
    let kept = kept_at W valid rounds m came begins node few rounds (omega arith) in
    let same : Some (site_of W valid rounds m came (came.at rounds) node) ≡ Some site =
    sym (site_there W valid rounds m came (came.at rounds) (stands_at W valid rounds m came rounds (omega arith)) node few) ∙ ap (λ (moment : RunState). slice_get moment.standing.nodes node) came.last ∙ there in
    let is : site_of W valid rounds m came (came.at rounds) node ≡ site = cc in
    let long = (site_stands W valid rounds m came rounds node (omega arith) few).count in
    record {
      buffers = ap (λ (s : PlainNodeActors). s.agent.port.giver.buffers) (sym is) ∙ kept.buffers;
      drawers = ap (λ (s : PlainNodeActors). s.agent.port.giver.drawers) (sym is) ∙ kept.drawers;
      numbers = λ client caller mine.
          let here = ap (λ (s : PlainNodeActors). slice_get s.callers client) is ∙ mine in
          let inside = slice_get_within (site_of W valid rounds m came (came.at rounds) node).callers client caller here in
          let own : client < W.settings.clients = omega (arith, inside, long) in
          let one : Some (caller_at W valid rounds m came node rounds client) ≡ Some caller = sym (here_at W valid rounds m came node few rounds client (omega arith) own) ∙ here in
          let caller_is : caller_at W valid rounds m came node rounds client ≡ caller = cc in
          ap (λ (c : PlainClientActor). c.client.drawer.number) (sym caller_is) ∙ kept.numbers client own;
    }
