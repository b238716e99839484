use Rattle.std.proofs.Common.{◌≡◌, ℕ, List, length, drop}
use Rattle.hs_check.proofs.Prelude.{zip, list_all, range_with_len, client_in_pace, passes_of, PlainSettings, ClientSends, AreFound, IsFoundClient}
use Rattle.hs_check.proofs.items.items_in_pace.Given as goal

abbrev pub invariant-loop-number : goal.invariant-loop-number
invariant-loop-number l =
    (settings : PlainSettings) (sends : List ClientSends) → settings.stride ≡ l.stride → AreFound IsFoundClient sends l.clients
    → list_all (λ (c : ℕ × ClientSends). client_in_pace settings (passes_of l.log) c.0 c.1) (zip (range_with_len l.number (length (drop l.number sends))) (drop l.number sends))
    ≡ list_all (λ (c : ℕ × ClientSends). client_in_pace settings (passes_of l.log) c.0 c.1) (zip (range_with_len 0 (length sends)) sends)
