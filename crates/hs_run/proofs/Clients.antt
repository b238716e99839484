-- The operations of a node's clients, as they lie in the workload.
use Rattle.std.proofs.Common.{◌≡◌, ℕ, ◌+◌, ◌*◌, ◌<◌, List, [], length, map, take, drop, refl, ap, ◌∙◌, arith, slice_get, unwrap_or, length-take, length-drop}
use Rattle.hs_run.proofs.Prelude.{length-map, Listing, IsValid, operations_of, workload_of, Op, Workload, last_low, AreClients}
use Rattle.hs_records.proofs.Sizes.{operations_sliced}

pub clients_are : (w : Workload) → IsValid (workload_of w) → (n : ℕ) → n < w.settings.nodes → (given : List (Listing Op)) → given ≡ w.clients.items → (count : ℕ) → count ≡ w.settings.clients
    → AreClients (workload_of w) n w.settings (take count (drop (n * w.settings.clients) given))
clients_are w valid n low given same count is =
    let W = workload_of w in
    let most = last_low W valid n low in
    let mapped = length-map w.clients.items operations_of in
    let long = ap length same in
    let dropped = length-drop (n * w.settings.clients) given in
    let taken = length-take count (drop (n * w.settings.clients) given) in
    record {
      settings_are = refl;
      count = omega (arith, most, mapped, long, dropped, taken, is);
      each = λ client ops found.
          operations_sliced given (n * w.settings.clients) count client ops found ∙ ap (λ (l : List (Listing Op)). unwrap_or (slice_get (map operations_of l) (n * w.settings.clients + client)) []) same;
    }
