-- Behind the rounds only so many passes are paid for.
use Rattle.std.proofs.Common.{◌≡◌, ℕ, zero, suc, Bool, cond, eq-eqb, ◌+◌, ◌*◌, ◌<◌, ◌≤◌, List, [], ◌∷◌, ◌++◌, length, refl, sym, ap, ◌∙◌, Some, arith, slice_get}
use Rattle.hs_run.proofs.Prelude.{AllByRecursion, length-append, length-map, get_there, few_nodes, MAX_OPERATIONS, Messages, noted_as, AgentEvent, asks_in, crumbs_in, triggers_in, steps_of, PlainWorkload, heard_of, asks_for, NodeWork, came_of, closed, PlainClosedAgent, PlainCoordinatorActor, RunState, Came, AllSents, IsClosedAgentAt, ClosingAt}
use Rattle.hs_base.specs.declared.limits.TheConstants.{MAX_NODES, MAX_CLIENTS}
use Rattle.hs_law_agent.specs.Laws.{EventsAddFew, EventsGoOn, StepsSayWhatTheyTell}
use Rattle.hs_law_agent.specs.Stepping.{Chunk, Crumbed, Triggered, Asked, Turn, Answered, Given, Missed, Unread, Took, Gave}
use Rattle.hs_law_journal.specs.Doings.{chunk_in, chunks_in, crumb_in, trigger_in}
use Rattle.hs_law_journal.specs.Following.{asks_to}
use Rattle.hs_law_journal.proofs.Sums.{sum_to}
use Rattle.hs_law_run.proofs.Closing.{sum_const}
use Rattle.hs_law_run.proofs.FewAsks.{asks_few}
use Rattle.hs_run_actors.specs.Agents.{IsWithin, state_at}
use Rattle.hs_run.specs.Accounts.{worked, load_of, done_for, total, PaysFor}
use Rattle.hs_run.specs.Closings.{SentsFit, most_passes}
use Rattle.hs_run.proofs.FewTaken.{few_clients}
use Rattle.hs_run.proofs.Gains.{load_taken}
use Rattle.hs_run.proofs.Numbered.{all_numbered}
use Rattle.hs_run.proofs.Paying.{chunk_count}
use Rattle.hs_run.proofs.Totals.{total_both, total_le, total_lt, total_few}

-- ---- what an agent took, client by client

taken_of : List AgentEvent → ℕ → ℕ
taken_of events client = length (chunks_in client events) + length (crumbs_in client events) + length (triggers_in client events)

-- an event more takes nothing back
taken_more : (e : AgentEvent) (es : List AgentEvent) (client : ℕ) → taken_of es client ≤ taken_of (e ∷ es) client
unfolding taken_of
taken_more e es client =
    let x = length-append (chunk_in client e) (chunks_in client es) in
    let y = length-append (crumb_in client e) (crumbs_in client es) in
    let z = length-append (trigger_in client e) (triggers_in client es) in
    omega (arith, x, y, z)

taken_chunk : (client : ℕ) (sheet : _) (es : List AgentEvent) → taken_of es client < taken_of (Took (Chunk client sheet) ∷ es) client
unfolding taken_of
taken_chunk client sheet es =
    let whole = length-append (chunk_in client (Took (Chunk client sheet))) (chunks_in client es) in
    let one : length (chunk_in client (Took (Chunk client sheet))) ≡ 1 = ap (λ (b : Bool). length (cond b (sheet ∷ []) [])) (eq-eqb client client refl) in
    omega (arith, whole, one)

taken_crumb : (client : ℕ) (crumb : _) (es : List AgentEvent) → taken_of es client < taken_of (Took (Crumbed client crumb) ∷ es) client
unfolding taken_of
taken_crumb client crumb es =
    let whole = length-append (crumb_in client (Took (Crumbed client crumb))) (crumbs_in client es) in
    let one : length (crumb_in client (Took (Crumbed client crumb))) ≡ 1 = ap (λ (b : Bool). length (cond b (crumb ∷ []) [])) (eq-eqb client client refl) in
    omega (arith, whole, one)

taken_trigger : (client : ℕ) (trigger : _) (es : List AgentEvent) → taken_of es client < taken_of (Took (Triggered client trigger) ∷ es) client
unfolding taken_of
taken_trigger client trigger es =
    let whole = length-append (trigger_in client (Took (Triggered client trigger))) (triggers_in client es) in
    let one : length (trigger_in client (Took (Triggered client trigger))) ≡ 1 = ap (λ (b : Bool). length (cond b (trigger ∷ []) [])) (eq-eqb client client refl) in
    omega (arith, whole, one)

-- an item more of some client
one_more : (clients client : ℕ) (e : AgentEvent) (es : List AgentEvent) → client < clients → taken_of es client < taken_of (e ∷ es) client → total (taken_of es) clients < total (taken_of (e ∷ es)) clients
one_more clients client e es low less = total_lt (taken_of es) (taken_of (e ∷ es)) clients client (λ k _. taken_more e es k) low less

same_more : (clients : ℕ) (e : AgentEvent) (es : List AgentEvent) → total (taken_of es) clients ≤ total (taken_of (e ∷ es)) clients
same_more clients e es = total_le (taken_of es) (taken_of (e ∷ es)) clients (λ k _. taken_more e es k)

-- so what an agent took is what it took of its clients, and asks
worked_few : (W : PlainWorkload) (node : ℕ) (events : List AgentEvent) → AllByRecursion (IsWithin W node) events → worked (steps_of events) ≤ total (taken_of events) W.settings.clients + length (asks_in events)
worked_few W node [] within = omega arith
worked_few W node (Took (Chunk client sheet) ∷ es) within =
    let rest = worked_few W node es within.1 in let more = one_more W.settings.clients client (Took (Chunk client sheet)) es within.0.0 (taken_chunk client sheet es) in omega (arith, rest, more)
worked_few W node (Took (Crumbed client crumb) ∷ es) within =
    let rest = worked_few W node es within.1 in let more = one_more W.settings.clients client (Took (Crumbed client crumb)) es within.0.0 (taken_crumb client crumb es) in omega (arith, rest, more)
worked_few W node (Took (Triggered client trigger) ∷ es) within =
    let rest = worked_few W node es within.1 in let more = one_more W.settings.clients client (Took (Triggered client trigger)) es within.0.0 (taken_trigger client trigger es) in omega (arith, rest, more)
worked_few W node (Took (Asked ask) ∷ es) within = let rest = worked_few W node es within.1 in let same = same_more W.settings.clients (Took (Asked ask)) es in omega (arith, rest, same)
worked_few W node (Took Turn ∷ es) within = let rest = worked_few W node es within.1 in let same = same_more W.settings.clients (Took Turn) es in omega (arith, rest, same)
worked_few W node (Gave (Given stamp) ∷ es) within = let rest = worked_few W node es within.1 in let same = same_more W.settings.clients (Gave (Given stamp)) es in omega (arith, rest, same)
worked_few W node (Gave (Missed stamp) ∷ es) within = let rest = worked_few W node es within.1 in let same = same_more W.settings.clients (Gave (Missed stamp)) es in omega (arith, rest, same)
worked_few W node (Gave Unread ∷ es) within = let rest = worked_few W node es within.1 in let same = same_more W.settings.clients (Gave Unread) es in omega (arith, rest, same)

-- ---- all nodes

module _ (few : EventsAddFew) (says : StepsSayWhatTheyTell) (on : EventsGoOn) (W : PlainWorkload) (rounds : ℕ) (m : RunState) (came : Came W rounds m) (sents : AllSents) (fit : SentsFit W sents) (nodes : List PlainClosedAgent) (c : PlainCoordinatorActor)
    (at : ClosingAt W rounds m sents nodes c)
  where
    abbrev works : ℕ → NodeWork
    works node = (at.posts node).work

    module _ (node : ℕ) (low : node < W.settings.nodes) (shut : PlainClosedAgent) (there : slice_get nodes node ≡ Some shut) where
      stood : IsClosedAgentAt W node sents (works node) shut
      stood = at.stand.stands.each node shut there

      taken_few : (client : ℕ) → client < W.settings.clients → taken_of (works node).events client ≤ 4 * MAX_OPERATIONS
      unfolding taken_of
      taken_few client own =
          let lines = stood.is.stands.lines_are in
          let chunk = get_there shut.chunks client (let count = sym (length-map shut.chunks _) ∙ lines.chunks.count in omega (arith, own, count)) in
          let crumb = get_there shut.crumbs client (let count = sym (length-map shut.crumbs _) ∙ lines.crumbs.count in omega (arith, own, count)) in
          let trigger = get_there shut.triggers client (let count = sym (length-map shut.triggers _) ∙ lines.triggers.count in omega (arith, own, count)) in
          let x = ap length (stood.is.left.chunks client chunk.0 chunk.1) in
          let y = ap length (stood.is.left.crumbs client crumb.0 crumb.1) in
          let z = ap length (stood.is.left.triggers client trigger.0 trigger.1) in
          let long_x = length-append (came_of client (works node)) chunk.0.items in
          let long_y = length-append (crumbs_in client (works node).events) crumb.0.items in
          let long_z = length-append (triggers_in client (works node).events) trigger.0.items in
          let same = chunk_count W node sents (works node) shut stood client in
          let chunks = fit.chunks node client low own in
          let crumbs = fit.crumbs node client low own in
          let triggers = fit.triggers node client low own in
          omega (arith, x, y, z, long_x, long_y, long_z, same, chunks, crumbs, triggers)

      asks_taken : length (asks_in (works node).events) ≤ MAX_NODES * MAX_OPERATIONS
      asks_taken =
          let taken = ap length stood.is.stands.asks_are in
          let front = length-append (asks_in (works node).events) shut.asks in
          let asked = ap length (at.stand.coordinates.asks_are node low) in
          let both = length-append (works node).asked (asks_for node c.asks) in
          let most = asks_few (λ _. MAX_OPERATIONS) W.settings.nodes node at.heard (all_numbered few says on W rounds m came sents nodes c at node) in
          let sum = sum_const MAX_OPERATIONS W.settings.nodes in
          let some = few_nodes W at.stand.valid in
          omega (arith, taken, front, asked, both, most, sum, some)

      worked_most : worked (steps_of (works node).events) ≤ 20 * MAX_NODES * MAX_OPERATIONS
      worked_most =
          let all = worked_few W (works node).node (works node).events stood.is.stands.works.is.within in
          let items = total_few (taken_of (works node).events) (4 * MAX_OPERATIONS) W.settings.clients MAX_CLIENTS (few_clients W at.stand.valid) taken_few in
          let asks = asks_taken in
          omega (arith, all, items, asks)

      done_most : done_for node at.heard (works node) ≤ 2 * (20 * MAX_NODES * MAX_OPERATIONS) + load_of W (works node)
      done_most =
          let most = worked_most in
          let told = get_there c.told node (let count = at.stand.coordinates.count in omega (arith, count, low)) in
          let waits = ap length (at.stand.coordinates.waits node told.0 told.1) in
          let heard = length-append (heard_of node at.heard) told.0 in
          let said = ap length stood.is.stands.works.said_is in
          let both = length-append (works node).moved shut.said in
          omega (arith, most, waits, heard, said, both)

    each_most : (node : ℕ) → node < W.settings.nodes → done_for node at.heard (works node) ≤ 2 * (20 * MAX_NODES * MAX_OPERATIONS) + load_of W (works node)
    each_most node low = let count = at.stand.count in let shut = get_there nodes node (omega (arith, low, count)) in done_most node low shut.0 shut.1

    pub few_passes : (passes : ℕ) → PaysFor W passes works at.heard → passes ≤ most_passes
    few_passes passes pays =
        let all = total_le (λ node. done_for node at.heard (works node)) (λ node. 2 * (20 * MAX_NODES * MAX_OPERATIONS) + load_of W (works node)) W.settings.nodes each_most in
        let both = total_both (λ _. 2 * (20 * MAX_NODES * MAX_OPERATIONS)) (λ node. load_of W (works node)) W.settings.nodes in
        let most = total_few (λ _. 2 * (20 * MAX_NODES * MAX_OPERATIONS)) (2 * (20 * MAX_NODES * MAX_OPERATIONS)) W.settings.nodes MAX_NODES (few_nodes W at.stand.valid) (λ _ _. omega arith) in
        omega (arith, pays, all, both, most)

-- no pass is paid for where nothing more was done than what there is
pub pays_begins : EventsAddFew → StepsSayWhatTheyTell → (W : PlainWorkload) (works : ℕ → NodeWork) (heard : Messages) → PaysFor W 0 works heard
pays_begins few says W works heard =
    let all = total_le (λ node. load_of W (works node)) (λ node. done_for node heard (works node)) W.settings.nodes (λ node _. let taken = load_taken few says W (works node) in omega (arith, taken)) in omega (arith, all)
