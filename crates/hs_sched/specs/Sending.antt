-- Sends one after another, over whatever holds the queues. Each send is one step, from the queues before it to those
-- after it; a list of trigger ids says whose next item each step sends.
use Rattle.std.specs.Prelude.{◌≡◌, ℕ, ◌<◌, ◌≤◌, ◌^◌, List, [], ◌∷◌, All}

-- steps that send for these ids lead from the old queues to the new
abbrev pub SendsEach : {Q : Type 0} → (Q → ℕ → Q → Type 0) → Q → List ℕ → Q → Type 0
SendsEach sends old [] new = new ≡ old
SendsEach {Q} sends old (id ∷ ids) new = (next : Q) × (sends old id next) × (SendsEach sends next ids new)

-- no item of an id costs more than the size
abbrev pub CostAtMost : ℕ → (ℕ → List ℕ) → Type 0
CostAtMost size costs = (id : ℕ) → id < 2 ^ 8 → All (λ cost. cost ≤ size) (costs id)
