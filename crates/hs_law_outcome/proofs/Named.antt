-- What can be performed of a journal names what is there: a step that takes from a client names a client of its node, and the
-- coordinator takes a message from a node.
use Rattle.std.proofs.Common.{◌≡◌, inl, inr, ℕ, zero, suc, ◌<◌, true, List, [], ◌∷◌, ◌++◌, length, refl, sym, subst, Some, None, set, option_map, slice_get, count_by, eqb-true, nat_eq}
use Rattle.hs_law_outcome.proofs.Prelude.{AllByRecursion, list_all, and_parts, nil_from_length, same_Some, slice_get_within, option_unmap, NodeId, Message, Messages, message, Step, Chunk, Crumbed, Triggered, AgentEvent, Took, PlainSettings, ClientSends, Chunks, Crumbs, Triggers, NodeRun, Run, event_of, next_of, perform, step_node, is_from, is_done, Performs, Leads, Stays, Goes}
use Rattle.std.proofs.lemmas.List.{length-set}
use Rattle.hs_records.specs.declared.journal.Step.TheVariants as steps
use Rattle.hs_law_journal.specs.Following.{step_of, message_of, hear}
use Rattle.hs_law_outcome.proofs.GotPages.{then_parts}

-- a step that names no client but one of so many
abbrev pub NamesClient : ℕ → Step → Type 0
NamesClient clients (steps.Chunk client) = client < clients
NamesClient clients (steps.Crumb client) = client < clients
NamesClient clients (steps.Trigger client) = client < clients
NamesClient clients steps.Ask = Unit {0}
NamesClient clients steps.Turn = Unit {0}
NamesClient clients (steps.Given stamp) = Unit {0}
NamesClient clients (steps.Missed stamp) = Unit {0}
NamesClient clients steps.Unread = Unit {0}

abbrev pub LogIsNamed : NodeRun → Type 0
LogIsNamed run = AllByRecursion (NamesClient (length run.sends)) run.left

-- what is left of a run names what is there
pub record IsNamed (run : Run) : Type 0 where
  pub logs : AllByRecursion LogIsNamed run.nodes
  pub told : AllByRecursion (λ (node : NodeId). node.0 < length run.nodes) run.left

-- ---- one step back

step_named : (run : NodeRun) (heard : Messages) (step : Step) (event : AgentEvent) → event_of run heard step ≡ Some event → NamesClient (length run.sends) step
step_named run heard (steps.Chunk client) event h =
    let s = then_parts (λ (sends : ClientSends). option_map (λ sheet. Took (Chunk client sheet)) (next_of (Chunks client) run.state sends.chunks)) (slice_get run.sends client) event h in
    slice_get_within run.sends client s.0 s.1
step_named run heard (steps.Crumb client) event h =
    let s = then_parts (λ (sends : ClientSends). option_map (λ crumb. Took (Crumbed client crumb)) (next_of (Crumbs client) run.state sends.crumbs)) (slice_get run.sends client) event h in
    slice_get_within run.sends client s.0 s.1
step_named run heard (steps.Trigger client) event h =
    let s = then_parts (λ (sends : ClientSends). option_map (λ trigger. Took (Triggered client trigger)) (next_of (Triggers client) run.state sends.triggers)) (slice_get run.sends client) event h in
    slice_get_within run.sends client s.0 s.1
step_named run heard steps.Ask event h = tt
step_named run heard steps.Turn event h = tt
step_named run heard (steps.Given stamp) event h = tt
step_named run heard (steps.Missed stamp) event h = tt
step_named run heard steps.Unread event h = tt

log_named : (settings : PlainSettings) (heard : Messages) (run stepped : NodeRun) → step_node settings heard run ≡ Some stepped → LogIsNamed stepped → LogIsNamed run
log_named settings heard run stepped h all = by_log run.left refl h
  where
    by_log : (log : List Step) → run.left ≡ log → step_of settings heard run log ≡ Some stepped → LogIsNamed run
    by_log [] is h = let no : None ≡ Some stepped = h in absurd cc
    by_log (step ∷ rest) is h =
        let p = option_unmap (perform settings rest run) (event_of run heard step) stepped h in
        subst (AllByRecursion (NamesClient (length run.sends))) (sym is) (step_named run heard step p.0 p.1, subst LogIsNamed (sym p.2) all)

all_unset : {X : Type 0} (P : X → Type 0) (xs : List X) (place : ℕ) (x y : X) → slice_get xs place ≡ Some x → (P y → P x) → AllByRecursion P (set xs place y) → AllByRecursion P xs
all_unset P [] place x y h back all = tt
all_unset P (z ∷ xs) zero x y h back all = (subst P (sym (same_Some z x h)) (back all.0), all.1)
all_unset P (z ∷ xs) (suc place) x y h back all = (all.0, all_unset P xs place x y h back all.1)

heard_named : (run next : Run) → hear run run.left ≡ Some next → IsNamed next → IsNamed run
heard_named run next h all = by_left run.left refl h
  where
    by_left : (left : List NodeId) → run.left ≡ left → hear run left ≡ Some next → IsNamed run
    by_left [] is h = let no : None ≡ Some next = h in absurd cc
    by_left (node ∷ rest) is h =
        let p = option_unmap (λ (m : Message). record run { left = rest; heard = run.heard ++ m ∷ [] }) (message_of run.nodes run.heard node) next h in
        let s = then_parts (λ (r : NodeRun). option_map (message node) (slice_get r.state.said (count_by (is_from node) run.heard))) (slice_get run.nodes node.0) p.0 p.1 in
        let was = subst IsNamed (sym p.2) all in
        record {
          logs = was.logs;
          told = subst (AllByRecursion (λ (n : NodeId). n.0 < length run.nodes)) (sym is) (slice_get_within run.nodes node.0 s.0 s.1, was.told);
        }

back_named : (settings : PlainSettings) (run next : Run) → Performs settings run next → IsNamed next → IsNamed run
back_named settings run next (inl s) all =
    let was = subst IsNamed s.result all in
    record {
      logs = all_unset LogIsNamed run.nodes s.place s.node s.stepped s.stands (log_named settings run.heard s.node s.stepped s.ready) was.logs;
      told = subst (λ n. AllByRecursion (λ (node : NodeId). node.0 < n) run.left) (length-set run.nodes s.place s.stepped) was.told;
    }
back_named settings run next (inr h) all = heard_named run next h all

-- ---- all steps

leads_named : (settings : PlainSettings) (run last : Run) → Leads settings run last → IsNamed last → IsNamed run
leads_named settings run last (Stays r) all = all
leads_named settings run last (Goes r next l step more) all = back_named settings run next step (leads_named settings next last more all)

none_left : (nodes : List NodeRun) → list_all (λ (node : NodeRun). nat_eq (length node.left) 0) nodes ≡ true → AllByRecursion LogIsNamed nodes
none_left [] h = tt
none_left (node ∷ nodes) h =
    let both = and_parts (nat_eq (length node.left) 0) (list_all (λ (node : NodeRun). nat_eq (length node.left) 0) nodes) h in
    (subst (AllByRecursion (NamesClient (length node.sends))) (sym (nil_from_length node.left (eqb-true (length node.left) 0 both.0))) tt, none_left nodes both.1)

-- where nothing is left in the end, all that there was names what is there
pub followed_named : (settings : PlainSettings) (run last : Run) → Leads settings run last → is_done last ≡ true → IsNamed run
followed_named settings run last leads done =
    let over = and_parts (list_all (λ (node : NodeRun). nat_eq (length node.left) 0) last.nodes) (nat_eq (length last.left) 0) done in
    leads_named settings run last leads
    (record {
      logs = none_left last.nodes over.0;
      told = subst (AllByRecursion (λ (node : NodeId). node.0 < length last.nodes)) (sym (nil_from_length last.left (eqb-true (length last.left) 0 over.1))) tt;
    })
