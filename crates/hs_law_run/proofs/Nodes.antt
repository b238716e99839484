-- The nodes of what was done stand by their numbers, and their logs in the journal.
use Rattle.std.proofs.Common.{◌≡◌, ℕ, ◌+◌, ◌<◌, List, [], length, refl, sym, ap, ◌∙◌, Option, Some, None, arith, map, option_map, slice_get, unwrap_or}
use Rattle.hs_law_run.proofs.Prelude.{slice_get-map, slice_get_within, length-map, length-range_with_len, same_Some, range_at, Step, PlainWorkload, log_at, NodeDoings, Doings, all_events, steps_of, journal_of, ArePlayable}
pub use Rattle.hs_law_journal.proofs.ItemsTaken.{own_log}

module _ (W : PlainWorkload) (d : Doings) (facts : ArePlayable W d) where
  pub node_there : (v : ℕ) → v < W.settings.nodes → (n : NodeDoings) × (slice_get d.nodes v ≡ Some n) × (n.node ≡ v)
  node_there v low =
      let named : slice_get (map (λ (n : NodeDoings). n.node) d.nodes) v ≡ Some (0 + v) = ap (λ names. slice_get names v) facts.numbers ∙ range_at 0 W.settings.nodes v low in
      let found = unmapped (slice_get d.nodes v) (0 + v) (sym (slice_get-map (λ (n : NodeDoings). n.node) d.nodes v) ∙ named) in
      let zeroth : 0 + v ≡ v = omega arith in (found.0, found.1, found.2 ∙ zeroth)
    where
      unmapped : (o : Option NodeDoings) (y : ℕ) → option_map (λ (n : NodeDoings). n.node) o ≡ Some y → (n : NodeDoings) × (o ≡ Some n) × (n.node ≡ y)
      unmapped None y h = let no : None ≡ Some y = h in absurd cc
      unmapped (Some n) y h = (n, refl, same_Some n.node y h)

  pub number_is : (v : ℕ) (n : NodeDoings) → slice_get d.nodes v ≡ Some n → n.node ≡ v
  number_is v n h =
      let within = slice_get_within d.nodes v n h in
      let long = sym (length-map d.nodes (λ (n : NodeDoings). n.node)) ∙ ap length facts.numbers ∙ length-range_with_len 0 W.settings.nodes in
      let zeroth : 0 + v ≡ v = omega arith in
      same_Some n.node v
      (sym (slice_get-map (λ (n : NodeDoings). n.node) d.nodes v ∙ ap (option_map (λ (n : NodeDoings). n.node)) h) ∙ ap (λ names. slice_get names v) facts.numbers ∙ range_at 0 W.settings.nodes v (omega (arith, within, long)) ∙ ap (λ m. Some m) zeroth)

  pub log_there : (v : ℕ) (n : NodeDoings) → slice_get d.nodes v ≡ Some n → log_at (journal_of W d) v ≡ steps_of (all_events n)
  log_there v n h =
      ap (λ (o : Option (List Step)). unwrap_or o []) (slice_get-map (λ (n : NodeDoings). steps_of (all_events n)) d.nodes v ∙ ap (option_map (λ (n : NodeDoings). steps_of (all_events n))) h)
