-- What becomes of what is kept when the first of the hand is offered, and when the pool answered. The offered chunk is out
-- of the agent's hands, with its lease; where it comes back it is the first of the hand again, with the lease that it has then.
use Rattle.std.specs.Prelude.{◌≡◌, ℕ, Bool, true, false, List, ◌∷◌, Option, Some, None}
use Rattle.std.specs.Option.{option_map_or}
use Rattle.hs_words.specs.Buffers.{Buffer}
use Rattle.hs_words.specs.Chunks.{Contents}
use Rattle.hs_agent.specs.declared.hand.Left.{Left}
use Rattle.hs_agent.specs.Placing.{Placed, placed_at, place_of, untagged}
use Rattle.hs_agent.specs.Keeping.{Kept, behind}

pub record Offers {L : Type 0} (old : Kept L) (buffer : Buffer L) (new : Kept L) : Type 0 where
  pub first : Placed L
  pub was : old.hand ≡ first ∷ new.hand
  pub handed : buffer ≡ untagged first
  pub offered : new.offered ≡ Some (place_of first)
  pub others : new ≡ record old { hand = new.hand; offered = new.offered }

-- So is the chunk that is first in the hand, while none is offered.
pub record Leads {L : Type 0} (kept : Kept L) (chunk : Contents) (lease : L) (left : Left) (again : Bool) : Type 0 where
  pub first : Placed L
  pub others : List (Placed L)
  pub is : kept.hand ≡ first ∷ others
  pub chunk_is : chunk ≡ first.chunk
  pub lease_is : lease ≡ first.lease.lease
  pub lefts : List Left
  pub left_is : kept.offered ≡ None → kept.lefts ≡ left ∷ lefts
  pub again_is : again ≡ kept.again

-- a chunk at this place came back
abbrev pub back_at : {L : Type 0} → Kept L → ℕ → Buffer L → Kept L
back_at kept place buffer =
    record kept {
      hand = placed_at place buffer ∷ kept.hand;
      offered = None;
      again = true;
    }

-- the chunk is gone for good
abbrev pub gone : {L : Type 0} → Kept L → Kept L
gone kept = record kept { lefts = behind kept.lefts; offered = None; again = false }

-- the pool answered, and the chunk came back or did not
abbrev pub answered : {L : Type 0} → Option (Buffer L) → Kept L → Kept L
answered None kept = gone kept
answered (Some buffer) kept = option_map_or (λ place. back_at kept place buffer) kept.offered kept
