-- Whether an agent made passes enough: as many as the first agent, and at least as many as there are rounds.
use Rattle.std.specs.Prelude.{ℕ, Bool, ◌&&◌, ◌==◌, nat_le}

abbrev pub are_enough : (turns first rounds : ℕ) → Bool
are_enough turns first rounds = turns == first && nat_le rounds turns
