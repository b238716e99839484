-- The token bucket of a trigger id, over the moments of all its attempts, here the latest attempt first. A moment is in
-- microseconds, and a level in the parts of a token that flow in then at one token a second. Moments may come in any order: an attempt is made at the greatest
-- moment so far.
use Rattle.std.specs.Prelude.{◌≡◌, ℕ, ◌+◌, ◌-◌, ◌*◌, ◌≤◌, List, [], ◌∷◌, max, min, if◌then◌else◌, nat_le, refl}
use Rattle.hs_base.specs.declared.limits.TheConstants.{TOKEN, MAX_BURST, MAX_RATE}
use Rattle.hs_pins.specs.declared.bucket.Attempt.{Attempt}
use Rattle.hs_pins.specs.declared.bucket.Attempt.TheVariants.{Admitted, Limited}

-- a burst in tokens and a rate in tokens a second, within their limits
abbrev pub IsBucketRule : ℕ → ℕ → Type 0
IsBucketRule burst rate = (1 ≤ burst) × (burst ≤ MAX_BURST) × (rate ≤ MAX_RATE)

-- the greatest of these moments, and 0 where there is none
abbrev pub greatest : List ℕ → ℕ
greatest [] = 0
greatest (moment ∷ earlier) = max moment (greatest earlier)

-- The least of a full bucket and, for each admitted attempt, of a full bucket just before it and what has flowed in since
-- then, less a token for that attempt and for each one admitted after it. They were admitted at these moments, the latest
-- first, and `taken` counts the tokens up to the first of them.
abbrev pub least_since : ℕ → ℕ → ℕ → ℕ → List ℕ → ℕ
least_since burst rate now taken [] = burst * TOKEN
least_since burst rate now taken (admitted ∷ before) =
    min (burst * TOKEN + rate * (now - admitted) - taken * TOKEN) (least_since burst rate now (taken + 1) before)

-- the level at a moment, before an attempt there
abbrev pub level_at : ℕ → ℕ → List ℕ → ℕ → ℕ
level_at burst rate admitted now = least_since burst rate now 1 admitted

-- The moments of the admitted attempts, the latest first: an attempt is admitted where a whole token is there.
abbrev pub admitted_of : ℕ → ℕ → List ℕ → List ℕ
admitted_of burst rate [] = []
admitted_of burst rate (moment ∷ earlier) =
    if nat_le TOKEN (level_at burst rate (admitted_of burst rate earlier) (greatest (moment ∷ earlier)))
    then greatest (moment ∷ earlier) ∷ admitted_of burst rate earlier else admitted_of burst rate earlier

-- the level that an attempt at a moment finds
abbrev pub level_found : ℕ → ℕ → List ℕ → ℕ → ℕ
level_found burst rate earlier moment = level_at burst rate (admitted_of burst rate earlier) (greatest (moment ∷ earlier))

-- the answer to an attempt at a moment, after the earlier ones
abbrev pub attempted : ℕ → ℕ → List ℕ → ℕ → Attempt
attempted burst rate earlier moment =
    if nat_le TOKEN (level_found burst rate earlier moment) then Admitted else Limited (level_found burst rate earlier moment)

-- what a bucket keeps in place of its attempts
pub record BucketState : Type 0 where
  pub burst : ℕ
  pub rate : ℕ
  pub level : ℕ
  pub moment : ℕ

pub record IsBucketState (s : BucketState) : Type 0 where
  pub rule : IsBucketRule s.burst s.rate
  pub full : s.level ≤ s.burst * TOKEN

-- these are the moments of the attempts that a bucket has taken
pub record HasAttempted (s : BucketState) (moments : List ℕ) : Type 0 where
  pub moment : s.moment ≡ greatest moments
  pub level : s.level ≡ level_at s.burst s.rate (admitted_of s.burst s.rate moments) (greatest moments)

-- a full bucket that has taken no attempt
abbrev pub fresh_bucket : ℕ → ℕ → BucketState
fresh_bucket burst rate = record { burst = burst; rate = rate; level = burst * TOKEN; moment = 0 }

a_fresh_bucket_has_taken_nothing : (burst rate : ℕ) → HasAttempted (fresh_bucket burst rate) []
a_fresh_bucket_has_taken_nothing burst rate = record { moment = refl; level = refl }
