-- The history of a followed node's pool, from the events that were told of it.
use Rattle.std.proofs.Common.{◌≡◌, ℕ, ◌*◌, Bool, List, length, map, sym, ap, ◌∙◌}
use Rattle.hs_check_follow.proofs.Prelude.{filter_map, length-map, all_at, PlainJournal, GivenPlace, PlainWorkload, NodeRun, log_at, run_start, followed, given_stamp, GivesAreNoted, FollowingPlaysOut, StampedPoolEvent, by_stamp, is_history, pool_history, pool_events, FoundNode, StampedEvent, pool_event, drawn_from, node_timed}
use Rattle.hs_law_journal.specs.Gives.{GivesAsNoted}
use Rattle.hs_check_follow.proofs.Knowing.{KnownAt}
use Rattle.hs_check_follow.proofs.NodeEvents.{events_are}

module _ (W : PlainWorkload) (J : PlainJournal) (gives : GivesAreNoted) (plays : FollowingPlaysOut) (i : ℕ) (f : FoundNode) (k : KnownAt W J i f) where
  pub noted : map (λ (g : GivenPlace). g.stamp) k.run.state.given ≡ filter_map given_stamp k.run.state.log
  noted = all_at GivesAsNoted (followed W J).nodes i k.run (gives W J (followed W J) (plays W J).leads) k.at

  -- what was told are the events of the pool
  pub told_events : (timed : List StampedEvent) → timed ≡ node_timed (drawn_from J (i * W.settings.clients) f.clients.items) (log_at J i) f.gives.items → map pool_event timed ≡ pool_events k.run
  told_events timed told = ap (map pool_event) told ∙ events_are W J i f k noted

  pub history_told : (timed : List StampedEvent) → timed ≡ node_timed (drawn_from J (i * W.settings.clients) f.clients.items) (log_at J i) f.gives.items
      → (result : Bool) → result ≡ is_history W.settings.buffers (map (λ (e : StampedPoolEvent). e.event) (by_stamp (λ (e : StampedPoolEvent). e.stamp) (length timed) (map pool_event timed)))
      → result ≡ is_history W.settings.buffers (pool_history k.run)
  history_told timed told result answer =
      answer
      ∙ sym (ap (λ n. is_history W.settings.buffers (map (λ (e : StampedPoolEvent). e.event) (by_stamp (λ (e : StampedPoolEvent). e.stamp) n (map pool_event timed)))) (length-map timed pool_event))
      ∙ ap (λ (l : List StampedPoolEvent). is_history W.settings.buffers (map (λ (e : StampedPoolEvent). e.event) (by_stamp (λ (e : StampedPoolEvent). e.stamp) (length l) l))) (told_events timed told)
