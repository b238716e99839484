-- What stands for each number below a bound, and the words of a generator from a place on.
use Rattle.std.proofs.Common.{◌≡◌, ℕ, suc, ◌+◌, ◌<◌, List, [], ◌∷◌, ◌++◌, length, get_or, arith, ap, sym, ◌∙◌, add-one, add_assoc, zero-add}
use Rattle.std.proofs.lemmas.List.FromFn.{map-range_with_len_more, length-map-range_with_len, get_or-map-range_with_len, fill_by_all}
use Rattle.rand_xoshiro.specs.Xoshiro256.{plus_plus}
use Rattle.hs_make.specs.Words.{Words, words_from, from, behind_parts, each_below}

pub each_below-more : {A : Type 0} (n : ℕ) (item : ℕ → A) → each_below (n + 1) item ≡ each_below n item ++ item n ∷ []
unfolding each_below
each_below-more n item = map-range_with_len_more item 0 n n (omega arith)

pub length-each_below : {A : Type 0} (n : ℕ) (item : ℕ → A) → length (each_below n item) ≡ n
unfolding each_below
length-each_below n item = length-map-range_with_len item 0 n

pub get_or-each_below : {A : Type 0} (n : ℕ) (item : ℕ → A) (i : ℕ) (d : A) → i < n → get_or (each_below n item) i d ≡ item i
unfolding each_below
get_or-each_below n item i d h = get_or-map-range_with_len item 0 n i i d h (omega arith)

-- a list with the right length and items
pub is_each_below : {A : Type 0} (item : ℕ → A) (xs : List A) (n : ℕ) (d : A) → length xs ≡ n → ((k : ℕ) → k < n → get_or xs k d ≡ item k) → xs ≡ each_below n item
unfolding each_below
is_each_below item xs n d len same = fill_by_all item xs n d len same

pub words_from-next : (state : List ℕ) → words_from (plus_plus state).1 ≡ from 1 (words_from state)
unfolding words_from
words_from-next state =
    let next : (n : ℕ) → suc n ≡ 1 + n = λ n. omega arith in
    let same : (n : ℕ) → words_from state (suc n) ≡ words_from state (1 + n) = λ n. ap (words_from state) (next n) in
    λ i. λ n. same n i

pub from-none : (words : Words) → from 0 words ≡ words
from-none words = let same : (n : ℕ) → words (0 + n) ≡ words n = λ n. ap words (zero-add n) in λ i. λ n. same n i

pub from-from : (words : Words) (a b : ℕ) → from b (from a words) ≡ from (a + b) words
from-from words a b = let same : (n : ℕ) → words (a + (b + n)) ≡ words (a + b + n) = λ n. ap words (sym (add_assoc a b n)) in λ i. λ n. same n i

pub behind_parts-more : (behind : ℕ → Words → Words) (n : ℕ) (words : Words) → behind_parts behind (n + 1) words ≡ behind n (behind_parts behind n words)
unfolding behind_parts
behind_parts-more behind n words = ap (λ m. behind_parts behind m words) (add-one n)

pub each_below-suc : {A : Type 0} (n : ℕ) (item : ℕ → A) → each_below (suc n) item ≡ each_below n item ++ item n ∷ []
each_below-suc n item = ap (λ m. each_below m item) (sym (add-one n)) ∙ each_below-more n item
