-- The words that a generator draws, as a sequence. What is drawn from them is said of the words from a place on. Parts
-- lie one behind another: each begins where the one before it has taken its last word.
use Rattle.std.specs.Prelude.{◌≡◌, ℕ, zero, suc, ◌+◌, ◌-◌, ◌^◌, List, [], ◌∷◌, map, refl}
use Rattle.std.specs.List.{range_with_len}
use Rattle.rand_core.specs.Stream.{fill_bytes}
use Rattle.rand_core.specs.Steps.{stream_of, word_bytes, u32_at}
use Rattle.rand_xoshiro.specs.Xoshiro256.{plus_plus, of_seed}
use Rattle.rand_xoshiro.specs.SplitMix64.{splitmix_seed}

-- by how many words were drawn before
abbrev pub Words : Type 0
Words = ℕ → ℕ

-- what xoshiro256++ draws from this state on
unfoldable pub words_from : List ℕ → Words
words_from state zero = (plus_plus state).0
words_from state (suc n) = words_from (plus_plus state).1 n

-- what it draws when SplitMix64 has made its state of this number
unfoldable pub seeded_words : ℕ → Words
seeded_words seed = words_from (of_seed (splitmix_seed 32 seed))

-- the words from a place on
abbrev pub from : ℕ → Words → Words
from place words = λ n. words (place + n)

-- The words behind the first n parts. What a part leaves of the words from its place on may hang on its number.
unfoldable pub behind_parts : (ℕ → Words → Words) → ℕ → Words → Words
behind_parts behind zero words = words
behind_parts behind (suc n) words = behind n (behind_parts behind n words)

-- what stands for each number below n, in their order
unfoldable pub each_below : {A : Type 0} → ℕ → (ℕ → A) → List A
each_below n item = map item (range_with_len 0 n)

-- worked examples: words of three seeds, and the words behind two parts, the first of one word and the second of two
first_words_drawn : (seeded_words 0 0 ≡ 0x53175d61490b23df) × (seeded_words 1 0 ≡ 0xcfc5d07f6f03c29b) × (seeded_words (2 ^ 64 - 1) 0 ≡ 0x56ccf8ce948e27b2)
    × (seeded_words 0 3 ≡ 0x02eebf8c3bbe5e1a)
unfolding seeded_words words_from fill_bytes stream_of word_bytes u32_at
first_words_drawn = (refl, refl, refl, refl)

behind_two_parts : each_below 3 (behind_parts (λ number. from (number + 1)) 2 (λ n. 10 + n)) ≡ 13 ∷ 14 ∷ 15 ∷ []
unfolding behind_parts each_below
behind_two_parts = refl
