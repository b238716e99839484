-- A pass behind the rounds, before which anything is left, is paid for.
use Rattle.std.proofs.Common.{◌≡◌, inl, inr, ℕ, ◌+◌, ◌<◌, ◌≤◌, List, ◌∷◌, ◌++◌, length, sym, ap, subst, ◌∙◌, arith}
use Rattle.hs_run.proofs.Prelude.{AllByRecursion, length-append, length-map, slice_get_within, get_there, Messages, Sheet, EventsAddThis, PlainWorkload, Leased, Buffer, PlainCoordinatorActor, Hears, heard_of, ListsHaveTheirChunks, NodeWork, came_of, is_of, PlainClosedAgent, RunState, moved_by, asked_by, AllSents, IsClosedAgentAt, Passing, Asked, ClosingAt}
use Rattle.hs_agent.specs.Points.{sheet_in}
use Rattle.hs_base.proofs.Alls.{all_at, all_by_place, all_front, all_map}
use Rattle.hs_law_agent.specs.Laws.{CanReport, ChunksStandByTheirClaim, EventsAddFew, EventsGoOn, sheets_of, StepsSayWhatTheyTell, TurnsReport}
use Rattle.hs_law_journal.proofs.ItemsTaken.{sheets_taken}
use Rattle.hs_law_journal.proofs.Shares.{HaveWeights}
use Rattle.hs_law_journal.specs.Doings.{chunks_in}
use Rattle.hs_run_actors.specs.Agents.{IsPageThere, state_at}
use Rattle.hs_run.proofs.Chunks.{chunks_came}
use Rattle.hs_law_journal.proofs.Lists.{all_passing}
use Rattle.hs_words.specs.Chunks.{used_of}
use Rattle.hs_run.specs.Accounts.{load_of, done_for, PaysFor}
use Rattle.hs_run.specs.Closings.{SentsFit}
use Rattle.hs_run.specs.Shutting.{IsSomethingLeft}
use Rattle.hs_run.proofs.Gains.{Gains}
use Rattle.hs_run.proofs.Pages.{of_client}
use Rattle.hs_run.proofs.Reporting.{pins_report}
use Rattle.hs_run.proofs.Totals.{total_both, total_lt}
use Rattle.hs_run.proofs.Waiting.{Waits, AMessage, node_waits, find_told, pass_even, pass_gains}

-- what is known of agents
pub record Laws (W : PlainWorkload) : Type 0 where
  pub adds : EventsAddThis
  pub few : EventsAddFew
  pub says : StepsSayWhatTheyTell
  pub goes_on : EventsGoOn
  pub reports : TurnsReport
  pub places : ListsHaveTheirChunks
  pub claims : ChunksStandByTheirClaim
  pub weights : HaveWeights W.settings.triggers

-- ---- one node

module _ (W : PlainWorkload) (node : ℕ) (sents : AllSents) (work : NodeWork) (shut : PlainClosedAgent) (at : IsClosedAgentAt W node sents work shut) where
  -- the chunks of a client are as many as the buffers in which they came
  pub chunk_count : (client : ℕ) → length (chunks_in client work.events) ≡ length (came_of client work)
  chunk_count client = ap length (chunks_came W work.node client work.events work.came at.is.stands.works.is.sheets at.is.stands.works.is.within) ∙ length-map (came_of client work) sheet_in

  abbrev Fits : Buffer Leased → Type 0
  Fits buffer = used_of (sheet_in buffer) ≤ W.settings.size

  came_fits : (fit : SentsFit W sents) → node < W.settings.nodes → AllByRecursion Fits work.came
  came_fits fit low =
      all_by_place Fits work.came
      (λ i buffer h.
      let pages = at.is.stands.works.is.pages in
      let there = all_at (IsPageThere W work.node work.pool) work.came i buffer pages h in
      let own = there.is.low in
      let count = sym (length-map shut.chunks _) ∙ at.is.stands.lines_are.chunks.count in
      let rest = get_there shut.chunks there.client (omega (arith, own, count)) in
      let sent = subst (AllByRecursion Fits) (sym (at.is.left.chunks there.client rest.0 rest.1)) (fit.fit node there.client low own) in
      let came = all_passing Fits (is_of there.client) work.came (all_front Fits (came_of there.client work) rest.0.items sent) in
      all_at (λ (b : Buffer Leased). is_of there.client b ≡ _ → Fits b) work.came i buffer came h
      (of_client W work.node work.pool buffer there))

  taken_fits : EventsAddThis → (fit : SentsFit W sents) → node < W.settings.nodes → AllByRecursion (λ (sheet : Sheet). used_of sheet ≤ W.settings.size) (sheets_of (state_at W work).taken)
  taken_fits adds fit low =
      subst (AllByRecursion (λ (sheet : Sheet). used_of sheet ≤ W.settings.size)) (at.is.stands.works.is.sheets ∙ sym (sheets_taken adds W.settings work.node work.events))
      (all_map (λ (sheet : Sheet). used_of sheet ≤ W.settings.size) sheet_in work.came (came_fits fit low))

  pub reports_pinned : Laws W → (fit : SentsFit W sents) → node < W.settings.nodes → (place : ℕ) (others : List ℕ) → (state_at W work).pinned ≡ place ∷ others → CanReport W.settings (state_at W work)
  reports_pinned laws fit low = pins_report laws.places laws.claims laws.few W laws.weights work.node work.events at.is.stands.works.is.within (taken_fits laws.adds fit low)

-- ---- all nodes

module _ (W : PlainWorkload) (laws : Laws W) (rounds : ℕ) (m : RunState) (sents : AllSents) (old nodes last : List PlainClosedAgent) (c c1 c2 c3 : PlainCoordinatorActor) (at : ClosingAt W rounds m sents old c)
    (p : Passing W sents at.heard (λ node. (at.posts node).work) (length old) old nodes c1) (more : Messages) (hears : Hears W at.heard more (moved_by p.works) (asked_by p.works) c2)
    (a : Asked W sents (at.heard ++ more) p.works nodes last c3)
  where
    abbrev before : ℕ → NodeWork
    before node = (at.posts node).work

    abbrev heard' : Messages
    heard' = at.heard ++ more

    -- the account of a node: it gains nothing less, and one where something waits
    record Account (node : ℕ) : Type 0 where
      stays : Gains W 0 (before node) (length (heard_of node at.heard)) (a.works node) (length (heard_of node heard'))
      gains : Waits W node (sents node) at.heard (before node) → Gains W 1 (before node) (length (heard_of node at.heard)) (a.works node) (length (heard_of node heard'))

    account : (node : ℕ) → node < W.settings.nodes → Account node
    account node low =
        let count = at.stand.count in
        let many = p.many in
        let all = a.only.many in
        let x = get_there old node (omega (arith, low, count)) in
        let y = get_there nodes node (omega (arith, low, count, many)) in
        let z = get_there last node (omega (arith, low, count, many, all)) in
        let passed = (p.passed node x.0 y.0 (slice_get_within old node x.0 x.1) x.1 y.1).0 in
        let stood = at.stand.stands.each node x.0 x.1 in
        let stands = a.stands.each node z.0 z.1 in
        let told = get_there c.told node (let n = at.stand.coordinates.count in omega (arith, n, low)) in
        let waits = ap length (at.stand.coordinates.waits node told.0 told.1) in
        let both = length-append (heard_of node at.heard) told.0 in
        let numbered = stands.node_is ∙ sym stood.node_is in
        let few : length (heard_of node at.heard) ≤ length (before node).moved = omega (arith, waits, both) in
        let chunks_old = chunk_count W node sents (before node) x.0 stood in
        let chunks_new = chunk_count W node sents (a.works node) z.0 stands in
        record {
          stays = pass_even laws.few laws.says laws.goes_on laws.reports W node sents (before node) (p.works node) (a.works node) x.0.giver y.0.giver passed (a.same node).0 numbered at.heard heard' few (hears.all node low) chunks_old chunks_new;
          gains = pass_gains laws.few laws.says laws.goes_on laws.reports W node sents (before node) (p.works node) (a.works node) x.0.giver y.0.giver passed (a.same node).0 numbered at.heard heard' few (hears.all node low) chunks_old chunks_new;
        }

    -- the two sides of the account
    abbrev one : ℕ → ℕ
    one node = load_of W (a.works node) + done_for node at.heard (before node)

    abbrev other : ℕ → ℕ
    other node = load_of W (before node) + done_for node heard' (a.works node)

    each : (node : ℕ) → node < W.settings.nodes → one node ≤ other node
    each node low = let stays = (account node low).stays in omega (arith, stays)

    some_waits : SentsFit W sents → IsSomethingLeft W before old c → (node : ℕ) × (node < W.settings.nodes) × Waits W node (sents node) at.heard (before node)
    some_waits fit (inl left) =
        let inside = slice_get_within old left.0 left.1 left.2 in
        let count = at.stand.count in
        let low : left.0 < W.settings.nodes = omega (arith, inside, count) in
        let stood = at.stand.stands.each left.0 left.1 left.2 in
        (left.0, low, node_waits W left.0 sents at.heard (before left.0) left.1 stood (at.said left.0 left.1 left.2) (reports_pinned W left.0 sents (before left.0) left.1 stood laws fit low) left.3)
    some_waits fit (inr left) =
        let told = find_told c.told left in
        let inside = slice_get_within c.told told.0 (told.1 ∷ told.2) told.3 in
        let count = at.stand.coordinates.count in
        let whole = ap length (at.stand.coordinates.waits told.0 (told.1 ∷ told.2) told.3) in
        let both = length-append (heard_of told.0 at.heard) (told.1 ∷ told.2) in
        (told.0, omega (arith, inside, count), AMessage (omega (arith, whole, both)))

    pub pays_on : SentsFit W sents → IsSomethingLeft W before old c → (passes : ℕ) → PaysFor W passes before at.heard → PaysFor W (passes + 1) a.works heard'
    pays_on fit left passes pays =
        let some = some_waits fit left in
        let gain = (account some.0 some.1).gains some.2 in
        let less : one some.0 < other some.0 = omega (arith, gain) in
        let all = total_lt one other W.settings.nodes some.0 each some.1 less in
        let x = total_both (λ node. load_of W (a.works node)) (λ node. done_for node at.heard (before node)) W.settings.nodes in
        let y = total_both (λ node. load_of W (before node)) (λ node. done_for node heard' (a.works node)) W.settings.nodes in
        omega (arith, all, x, y, pays)
