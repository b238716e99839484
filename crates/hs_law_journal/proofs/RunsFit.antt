-- Whatever journal is followed, what is ready may be taken, and what is told leads to nodes that there are. Few triggers are admitted,
-- since few are sent.
use Rattle.std.proofs.Common.{◌≡◌, ℕ, zero, suc, ◌+◌, ◌*◌, ◌<◌, ◌≤◌, ◌^◌, true, List, [], length, refl, sym, ap, ◌∙◌, Some, None, arith, option_map, slice_get, ltb}
use Rattle.hs_law_journal.proofs.Prelude.{range_with_len, option_map_or, and_parts, length-map, slice_get-map, all_each, all_at, is_declared, Ask, PlainJournal, CrumbsLeadBelow, Took, PlainWorkload, ClientSends, client_sends, node_sends, operations_at, place_of, IsValid, IsOfJournal, Queue, Triggers, taken, asks_to, NodeRun, Run, run_start, Leads, sent_to, supply}
use Rattle.std.proofs.lemmas.List.FromFn.{length-range_with_len}
use Rattle.hs_base.proofs.Ranges.{range_at}
use Rattle.hs_base.specs.declared.limits.TheConstants.{MAX_OPERATIONS}
use Rattle.hs_records.specs.declared.setting.Setting.TheVariants as settings
use Rattle.hs_law_journal.specs.Fitting.{RunsFit}
use Rattle.hs_law_journal.specs.Known.{Known}
use Rattle.hs_law_journal.proofs.FewSent.{sends_few}
use Rattle.hs_law_journal.proofs.Sums.{sum_to}
use Rattle.hs_law_journal.proofs.Fit.{event_fits, node_sends_fit}
use Rattle.hs_law_journal.proofs.Groups.{Speaks, all_spoken, asks_known, is_known, admitted_at, triggers_in}
use Rattle.hs_law_journal.proofs.Sizes.{client_few}
use Rattle.hs_law_journal.proofs.Telling.{Tells, leads_tell, starts_tell}

-- a sum of terms that are at most so great
sum_small : (f : ℕ → ℕ) (most n : ℕ) → ((i : ℕ) → i < n → f i ≤ most) → sum_to f n ≤ n * most
sum_small f most zero each = omega arith
sum_small f most (suc n) each =
    let rest = sum_small f most n (λ i low. each i (omega (arith, low))) in
    let here = each n (omega arith) in
    let row : suc n * most ≡ n * most + most = omega arith in
    omega (arith, rest, here, row)

module _ (k : Known) (W : PlainWorkload) (valid : IsValid W) (J : PlainJournal) where
  triggers_few : (i c : ℕ) → length (client_sends W J i c).triggers ≤ MAX_OPERATIONS
  triggers_few i c =
      let place = place_of W.settings.clients i c in
      let ops = operations_at W place in
      let sent = sends_few W.settings.autos [] 0 None ops in
      let all = client_few k.counted W.settings.size W.clients place in
      let most = valid.few in
      omega (arith, sent, all, most)

  module _ (run : Run) (leads : Leads W.settings (run_start W J) run) (i : ℕ) (node : NodeRun) (stands : slice_get run.nodes i ≡ Some node) where
    own : IsOfJournal W J node
    own = all_at (IsOfJournal W J) run.nodes i node (k.runs W J run leads).each stands

    long : length node.sends ≡ W.settings.clients
    long = ap length own.sends ∙ length-map (range_with_len 0 W.settings.clients) (client_sends W J node.node) ∙ length-range_with_len 0 W.settings.clients

    client_at : (c : ℕ) → c < W.settings.clients → slice_get node.sends c ≡ Some (client_sends W J node.node c)
    client_at c low =
        let zeroth : 0 + c ≡ c = omega arith in
        ap (λ (all : List ClientSends). slice_get all c) own.sends ∙ slice_get-map (client_sends W J node.node) (range_with_len 0 W.settings.clients) c
        ∙ ap (option_map (client_sends W J node.node)) (range_at 0 W.settings.clients c low ∙ ap Some zeroth)

    taken_few : (c : ℕ) → c < W.settings.clients → taken (Triggers c) node.state.log ≤ MAX_OPERATIONS
    taken_few c low =
        let most = all_at (λ (n : NodeRun). (queue : Queue) → taken queue n.state.log ≤ supply n run.heard queue) run.nodes i node (k.unsent W J run leads).items stands (Triggers c) in
        let there = ap (λ o. option_map_or (sent_to (Triggers c)) o 0) (client_at c low) in
        let few = triggers_few node.node c in
        omega (arith, most, there, few)

    admits_few : node.state.admitted ≤ triggers_in (length node.sends) node.state.log → node.state.admitted + 1 < 2 ^ 32
    admits_few few =
        let same = ap (λ (n : ℕ). triggers_in n node.state.log) long in
        let small = sum_small (λ c. taken (Triggers c) node.state.log) MAX_OPERATIONS W.settings.clients taken_few in
        let clients = (valid.head settings.Clients).1 in
        omega (arith, few, same, small, clients)

pub runs_fit : Known → CrumbsLeadBelow → RunsFit
runs_fit k below W valid J run leads i node stands =
    let spoken = all_spoken k.few k.adds k.says W J run leads in
    let speaks = all_at (Speaks W.settings run.nodes) run.nodes i node spoken.nodes stands in
    let number = spoken.numbers i node stands in
    let sends = (own k W valid J run leads i node stands).sends ∙ ap (node_sends W J) number in
    let tells = all_at (Tells W.settings) run.nodes i node (leads_tell W.settings below (run_start W J) run leads (starts_tell W valid J (range_with_len 0 W.settings.nodes))) stands in
    record {
      takes =
          λ step input met.
          event_fits W.settings i node.state (admits_few k W valid J run leads i node stands speaks.few) node run.heard step (Took input) refl number
          (λ c s at. node_sends_fit W valid J i c s (ap (λ (all : List ClientSends). slice_get all c) (sym sends) ∙ at))
          (all_each (λ (ask : Ask). is_known W.settings run.nodes ask.group ≡ true) (λ (ask : Ask). is_declared W.settings.triggers ask.group.trigger ≡ true) (asks_to node.node run.heard)
          (λ ask h. (and_parts (ltb ask.group.id.number (admitted_at run.nodes ask.group.id.node)) (is_declared W.settings.triggers ask.group.trigger) h).1)
          (asks_known (is_known W.settings run.nodes) node.node [] run.heard tt spoken.heard))
          met;
      told = tells.leads.said;
    }
