-- A bucket of one token at one token a second, and one of two tokens at three a second.
use Rattle.std.specs.Prelude.{◌≡◌, ℕ, List, [], ◌∷◌, refl}
use Rattle.hs_pins.specs.declared.bucket.Attempt.{Attempt}
use Rattle.hs_pins.specs.declared.bucket.Attempt.TheVariants.{Admitted, Limited}
use Rattle.hs_pins.specs.Buckets.{greatest, admitted_of, level_found, attempted}

-- the answers to attempts at these moments, the first first, each after the ones before it
abbrev answers : ℕ → ℕ → List ℕ → List ℕ → List Attempt
answers burst rate earlier [] = []
answers burst rate earlier (moment ∷ moments) = attempted burst rate earlier moment ∷ answers burst rate (moment ∷ earlier) moments

-- a token is back after a second and not before; a moment that is earlier than the bucket's brings nothing
one_a_second : answers 1 1 [] (0 ∷ 999999 ∷ 1000000 ∷ 500000 ∷ []) ≡ Admitted ∷ Limited 999999 ∷ Admitted ∷ Limited 0 ∷ []
one_a_second = refl

levels_found : (level_found 1 1 [] 0 ≡ 1000000) × (level_found 1 1 (0 ∷ []) 999999 ≡ 999999) × (level_found 1 1 (999999 ∷ 0 ∷ []) 1000000 ≡ 1000000)
levels_found = (refl, refl, refl)

-- two at once are the burst, and a third waits for a third of a second
two_at_once : answers 2 3 [] (7 ∷ 7 ∷ 7 ∷ 333340 ∷ 333341 ∷ []) ≡ Admitted ∷ Admitted ∷ Limited 0 ∷ Limited 999999 ∷ Admitted ∷ []
two_at_once = refl

-- a bucket holds no more than its burst, however long nothing comes
no_more_than_the_burst : answers 2 3 [] (0 ∷ 9000000 ∷ 9000000 ∷ 9000000 ∷ []) ≡ Admitted ∷ Admitted ∷ Admitted ∷ Limited 0 ∷ []
no_more_than_the_burst = refl

-- nothing flows in at rate 0
no_rate : answers 1 0 [] (0 ∷ 9000000 ∷ []) ≡ Admitted ∷ Limited 0 ∷ []
no_rate = refl

-- a limited attempt moves the bucket's moment too
limited_moves_on : (answers 1 1 [] (5 ∷ 400005 ∷ 300000 ∷ 1000005 ∷ []) ≡ Admitted ∷ Limited 400000 ∷ Limited 400000 ∷ Admitted ∷ []) × (admitted_of 1 1 (1000005 ∷ 300000 ∷ 400005 ∷ 5 ∷ []) ≡ 1000005 ∷ 5 ∷ []) × (greatest (300000 ∷ 400005 ∷ 5 ∷ []) ≡ 400005)
limited_moves_on = (refl, refl, refl)
