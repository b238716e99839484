-- No offer of the schedule is unread.
use Rattle.std.proofs.Common.{◌≡◌, ℕ, zero, suc, ◌<◌, false, List, [], ◌∷◌, ◌++◌, refl, sym, subst, map}
use Rattle.hs_law_run.proofs.Prelude.{AllByRecursion, range_with_len, Step, noted_as, AgentEvent, PlainWorkload, followed, is_unread, all_append, Known}
use Rattle.hs_law_journal.specs.Doings.{all_events}
use Rattle.hs_law_run.proofs.Passes.{pass_at, events_grow, starts_bare}
use Rattle.hs_law_run.proofs.Takes.{before_turn, all_takes}
use Rattle.hs_law_run.proofs.Told.{all_events_are}
use Rattle.hs_law_run.specs.Unread.{IsRead}
use Rattle.hs_law_run.specs.Told.{gone, events_at, node_doings}
use Rattle.hs_records.specs.declared.journal.Step.TheVariants as steps

all_noted : (events : List AgentEvent) (log : List Step) → map noted_as events ≡ log → AllByRecursion (λ (step : Step). is_unread step ≡ false) log → AllByRecursion IsRead events
all_noted events log e all = unmapped events (subst (AllByRecursion (λ (step : Step). is_unread step ≡ false)) (sym e) all)
  where
    unmapped : (events : List AgentEvent) → AllByRecursion (λ (step : Step). is_unread step ≡ false) (map noted_as events) → AllByRecursion IsRead events
    unmapped [] all = tt
    unmapped (event ∷ events) all = (all.0, unmapped events all.1)

gives_read : (stamps : List ℕ) → AllByRecursion (λ (step : Step). is_unread step ≡ false) (map (λ (stamp : ℕ). steps.Given stamp) stamps)
gives_read [] = tt
gives_read (stamp ∷ stamps) = (refl, gives_read stamps)

module _ (known : Known) (W : PlainWorkload) (i : ℕ) (low : i < W.settings.nodes) where
  new_read : (k : ℕ) → AllByRecursion IsRead (pass_at known W k i low).from.new
  new_read k =
      let a = (pass_at known W k i low).from in
      all_noted a.new _ a.noted
      (all_append (λ (step : Step). is_unread step ≡ false) (before_turn W (gone W k) (followed W (gone W k).journal) a.node ++ steps.Turn ∷ []) (map (λ (stamp : ℕ). steps.Given stamp) (range_with_len a.from a.count))
      (all_append (λ (step : Step). is_unread step ≡ false) (before_turn W (gone W k) (followed W (gone W k).journal) a.node) (steps.Turn ∷ [])
      (all_takes (λ (step : Step). is_unread step ≡ false) (λ client. refl) (λ client. refl) (λ client. refl) refl W (gone W k) (followed W (gone W k).journal) a.node) (refl, tt))
      (gives_read (range_with_len a.from a.count)))

  events_read : (k : ℕ) → AllByRecursion IsRead (events_at W i k)
  events_read zero = subst (AllByRecursion IsRead) (sym (starts_bare known W i)) tt
  events_read (suc k) = subst (AllByRecursion IsRead) (sym (events_grow known W k i low)) (all_append IsRead (events_at W i k) (pass_at known W k i low).from.new (events_read k) (new_read k))

  pub all_read : (count : ℕ) → AllByRecursion IsRead (all_events (node_doings W count i))
  all_read count = subst (AllByRecursion IsRead) (sym (all_events_are known W count i low)) (events_read count)
