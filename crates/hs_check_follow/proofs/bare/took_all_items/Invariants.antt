use Rattle.std.proofs.Common.{◌≡◌, ℕ, ◌-◌, List, length, drop}
use Rattle.hs_check_follow.proofs.Prelude.{zip, list_all, range_with_len, took_all, ClientSends, AreFound, IsFoundClient}
use Rattle.hs_check_follow.proofs.bare.took_all_items.Given as goal

abbrev pub invariant-loop-number : goal.invariant-loop-number
invariant-loop-number l =
    (sends : List ClientSends) → AreFound IsFoundClient sends l.clients
    → list_all (λ (c : ℕ × ClientSends). took_all l.log c.0 c.1) (zip (range_with_len l.number (length (drop l.number sends))) (drop l.number sends))
    ≡ list_all (λ (c : ℕ × ClientSends). took_all l.log c.0 c.1) (zip (range_with_len 0 (length sends)) sends)
