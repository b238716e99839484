use Rattle.std.proofs.Common.{◌≡◌, ◌∷◌, ℕ, length, take}
use Rattle.hs_agent.proofs.Prelude.{list_any, has_node}
use Rattle.hs_pins.specs.Remembered.{has_crumb}
use Rattle.hs_agent.proofs.holdings.Holdings.crumbs.Given as goal

-- the crumbs of the traces so far
abbrev pub invariant-loop-place : goal.invariant-loop-place
invariant-loop-place g l =
    record {
      most : l.place-end ≡ length l.ask.laterals;
      nodes : (n : ℕ) → has_node l.crumbs n ≡ list_any (λ trace. has_crumb l.self.pins.claims trace n) (l.ask.group.lead ∷ take l.place l.ask.laterals);
    }
