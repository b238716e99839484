-- At the start nothing was performed, and nothing happened at the pools.
use Rattle.std.proofs.Common.{◌≡◌, ℕ, ◌*◌, ◌≤◌, List, [], ◌∷◌, length, refl, sym, ap, ◌∙◌, Some, arith, slice_get}
use Rattle.hs_law_run.proofs.Prelude.{ClientId, PlainJournal, PlainWorkload, drawn_pages, ClientSends, client_sends, node_sends, operations_at, place_of, timed_pages, NodeRun, followed, pool_history, Known, machine_start}
use Rattle.hs_law_run.specs.Reaching as reaching
use Rattle.hs_law_run.specs.Reaching.{MachinesStartSo}
use Rattle.hs_law_run.proofs.Bounds.{pages_row}
use Rattle.hs_law_run.proofs.Closing.{sum_const}
use Rattle.hs_law_run.proofs.Counting.{events_few}
use Rattle.hs_law_run.proofs.Followed.{starts_at}
use Rattle.hs_law_run.proofs.Giving.{history_long}
use Rattle.hs_law_run.proofs.Holding.{pages_in}
use Rattle.hs_law_run.proofs.Keeping.{own_sends, undrawn, no_pages}
use Rattle.hs_law_run.proofs.Standing.{held_at, number_at}

none_of : {X : Type 0} (xs : List X) → length xs ≤ 0 → xs ≡ []
none_of [] low = refl
none_of (x ∷ xs) low = absurd (omega (arith, low))

module _ (k : Known) (W : PlainWorkload) where
  abbrev J : PlainJournal
  J = (machine_start W).journal

  none_drawn : (i c : ℕ) → length (client_sends W J i c).drawn ≤ 0
  none_drawn i c =
      let client : ClientId = record { node = i; number = c } in
      let place = place_of W.settings.clients i c in
      let drew = undrawn k W W.clients place in
      let none =
      ap length
      (ap (drawn_pages W.settings.size client (operations_at W place)) drew ∙ no_pages k W client (timed_pages W.settings.size (operations_at W place)))
      in
      omega (arith, none)

  pools_start : (i : ℕ) (run : NodeRun) → slice_get (followed W J).nodes i ≡ Some run → pool_history run ≡ []
  pools_start i run at =
      let held = held_at k W (machine_start W) reaching.Starts i run at in
      let long = history_long W.settings run held in
      let few = events_few W.settings run held in
      let sends = own_sends k W J i run at ∙ ap (node_sends W J) (number_at k W (machine_start W) i run at) in
      let pages = ap (λ (sends : List ClientSends). length (pages_in sends)) sends in
      let row = pages_row (client_sends W J i) (λ c. 0) W.settings.clients (none_drawn i) in
      let none = sum_const 0 W.settings.clients in
      let zeroes : W.settings.clients * 0 ≡ 0 = omega arith in
      none_of (pool_history run) (omega (arith, long, few, pages, row, none, zeroes))

pub machines_start_so : Known → MachinesStartSo
machines_start_so k W = record { run = sym (starts_at k W); pools = pools_start k W }
