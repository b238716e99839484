-- What a valid workload is, and a journal of which nothing is left when it was followed.
use Rattle.std.proofs.Common.{◌≡◌, ℕ, true, List, [], ◌∷◌, ◌++◌, length, sym, ap, subst, ◌∙◌, append-nil, nat_eq}
use Rattle.hs_law_outcome.proofs.Prelude.{AllByRecursion, list_all, and_parts, eqb-true, nil_from_length, all_each, PlainJournal, PlainWorkload, IsPoolHistory, IsOfJournal, NodeRun, Run, log_at, is_done, pool_history, NoBufferIsOutTwice, EndsItsTraces}
use Rattle.hs_records.specs.Validity.{IsValid}
use Rattle.hs_records.specs.declared.setting.Setting.TheVariants as settings
use Rattle.hs_records.proofs.Sizes.{bracketed}
use Rattle.hs_law_outcome.specs.Headline.{DidItsLog, HaveOneWriter}

pub ends_its_traces : (W : PlainWorkload) → IsValid W → EndsItsTraces W
ends_its_traces W valid = record { size = (valid.head settings.Size).0; ends = bracketed W.version W.settings W.clients valid.each }

nothing_left : {X : Type 0} (done left log : List X) → length left ≡ 0 → done ++ left ≡ log → done ≡ log
nothing_left done left log none all =
    sym (append-nil done) ∙ ap (λ rest. done ++ rest) (sym (nil_from_length left none)) ∙ all

module _ (W : PlainWorkload) (J : PlainJournal) where
  did_logs : (nodes : List NodeRun) → list_all (λ (node : NodeRun). nat_eq (length node.left) 0) nodes ≡ true → AllByRecursion (IsOfJournal W J) nodes → AllByRecursion (DidItsLog J) nodes
  did_logs [] done all = tt
  did_logs (node ∷ nodes) done all =
      let parts = and_parts (nat_eq (length node.left) 0) (list_all (λ (node : NodeRun). nat_eq (length node.left) 0) nodes) done in
      (nothing_left node.state.log node.left (log_at J node.node) (eqb-true (length node.left) 0 parts.0) all.0.log, did_logs nodes parts.1 all.1)

  pub all_did_their_logs : (run : Run) → is_done run ≡ true → AllByRecursion (IsOfJournal W J) run.nodes → AllByRecursion (DidItsLog J) run.nodes
  all_did_their_logs run done all =
      did_logs run.nodes (and_parts (list_all (λ (node : NodeRun). nat_eq (length node.left) 0) run.nodes) (nat_eq (length run.left) 0) done).0 all

pub have_one_writer : NoBufferIsOutTwice → (buffers : ℕ) (nodes : List NodeRun) → AllByRecursion (λ (run : NodeRun). IsPoolHistory buffers (pool_history run)) nodes
    → AllByRecursion (λ (run : NodeRun). HaveOneWriter (pool_history run)) nodes
have_one_writer once buffers nodes all =
    all_each (λ (run : NodeRun). IsPoolHistory buffers (pool_history run)) (λ (run : NodeRun). HaveOneWriter (pool_history run)) nodes
    (λ run history buffer earlier later is. once buffers buffer earlier later (subst (IsPoolHistory buffers) is history))
    all
