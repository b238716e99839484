-- Bytes from pairs of digits, one after another.
use Rattle.std.proofs.Common.{◌≡◌, ℕ, suc, ◌+◌, ◌*◌, ◌^◌, ◌<◌, ◌≤◌, ◌++◌, ◌∷◌, [], List, length, take, drop, get_or, set, true, refl, sym, ap, subst, ◌∙◌, arith}
use Rattle.std.proofs.Math.Nat.{pow-le-pow_right, pow-suc}
use Rattle.std.specs.List.{list_all}
use Rattle.std.proofs.lemmas.List.{append_assoc, append-nil, drop_all, drop_more, take-append-drop, take_all, take_more_set}
use Rattle.std.proofs.lemmas.List.Folds.{list_all-append}
use Rattle.std.proofs.lemmas.Bool.{and_parts}
use Rattle.std.proofs.lemmas.List.Sums.{AllPass-from_list_all}
use Rattle.hs_text.specs.Text.{is_hex_digit, hex_digit_of, hex_value_after, bytes_of_pairs}

-- a byte of a word of digits is one
pub digit_at : (word : List ℕ) (i : ℕ) → list_all is_hex_digit word ≡ true → i < length word → is_hex_digit (get_or word i 0) ≡ true
digit_at word i all inside = AllPass-from_list_all is_hex_digit word all i 0 inside

drop-pair : (word : List ℕ) (i : ℕ) → 2 * i + 1 < length word → drop (2 * i) word ≡ get_or word (2 * i) 0 ∷ get_or word (2 * i + 1) 0 ∷ drop (2 * (i + 1)) word
drop-pair word i fits =
    let a = drop_more word (2 * i) 0 (omega arith) in
    let b = drop_more word (2 * i + 1) 0 (omega arith) in
    let two : 2 * i + 1 + 1 ≡ 2 * (i + 1) = omega arith in
    rw (a, b, two) refl

-- one byte more is decoded
pub pair_step : (word out : List ℕ) (i v : ℕ) → 2 * i + 1 < length word → i < length out → v ≡ 16 * hex_digit_of (get_or word (2 * i) 0) + hex_digit_of (get_or word (2 * i + 1) 0)
    → bytes_of_pairs word ≡ take i out ++ bytes_of_pairs (drop (2 * i) word) → bytes_of_pairs word ≡ take (i + 1) (set out i v) ++ bytes_of_pairs (drop (2 * (i + 1)) word)
pair_step word out i v fits room is so_far =
    let rest : List ℕ = bytes_of_pairs (drop (2 * (i + 1)) word) in
    so_far ∙ ap (λ (w : List ℕ). take i out ++ bytes_of_pairs w) (drop-pair word i fits) ∙ ap (λ (b : ℕ). take i out ++ (b ∷ rest)) (sym is)
    ∙ sym (append_assoc (take i out) (v ∷ []) rest) ∙ ap (λ (f : List ℕ). f ++ rest) (sym (take_more_set out i v room))

-- every pair is decoded
pub pairs_done : (word out : List ℕ) (i : ℕ) → length out ≤ i → length word ≡ 2 * length out
    → bytes_of_pairs word ≡ take i out ++ bytes_of_pairs (drop (2 * i) word) → out ≡ bytes_of_pairs word
pairs_done word out i past size so_far =
    sym (so_far ∙ ap (λ (w : List ℕ). take i out ++ bytes_of_pairs w) (drop_all (2 * i) word (omega arith)) ∙ append-nil (take i out) ∙ take_all i out past)

-- digits behind those that were read before
pub hex_value_after-append : (n : ℕ) (xs ys : List ℕ) → hex_value_after n (xs ++ ys) ≡ hex_value_after (hex_value_after n xs) ys
hex_value_after-append n [] ys = refl
hex_value_after-append n (b ∷ xs) ys = hex_value_after-append (16 * n + hex_digit_of b) xs ys

pub hex_value_in_parts : (word : List ℕ) (i : ℕ) → i ≤ length word → hex_value_after 0 word ≡ hex_value_after (hex_value_after 0 (take i word)) (drop i word)
hex_value_in_parts word i within = ap (hex_value_after 0) (sym (take-append-drop i word)) ∙ hex_value_after-append 0 (take i word) (drop i word)

-- a digit is below 16
pub digit_below : (b : ℕ) → is_hex_digit b ≡ true → hex_digit_of b < 16
digit_below b digit = grind arith

-- one more digit fits 64 bits
pub few_room : (n i : ℕ) → n < 16 ^ i → i < 16 → 16 * n + 15 < 2 ^ 64
few_room n i small within =
    let most : 16 ^ suc i ≤ 16 ^ 16 = pow-le-pow_right {n = 16} (omega arith) {i = suc i} {j = 16} (omega arith) in
    omega (arith, pow-suc 16 i, most)

-- the parts of a word of digits are words of digits
pub digits_in_parts : (word : List ℕ) (i : ℕ) → list_all is_hex_digit word ≡ true → (list_all is_hex_digit (take i word) ≡ true) × (list_all is_hex_digit (drop i word) ≡ true)
digits_in_parts word i all =
    and_parts (list_all is_hex_digit (take i word)) (list_all is_hex_digit (drop i word))
    (sym (list_all-append is_hex_digit (take i word) (drop i word)) ∙ ap (list_all is_hex_digit) (take-append-drop i word) ∙ all)

-- one digit more is read
pub value_more : (xs : List ℕ) (n i d : ℕ) → i < length xs → d ≡ hex_digit_of (get_or xs i 0) → hex_value_after n (drop i xs) ≡ hex_value_after (16 * n + d) (drop (i + 1) xs)
value_more xs n i d inside is = ap (hex_value_after n) (drop_more xs i 0 inside) ∙ ap (λ (v : ℕ). hex_value_after (16 * n + v) (drop (i + 1) xs)) (sym is)

pub small_more : (n i j d : ℕ) → n < 16 ^ i → d < 16 → j ≡ suc i → 16 * n + d < 16 ^ j
small_more n i j d small below next = subst (λ (k : ℕ). 16 * n + d < 16 ^ k) (sym next) (omega (arith, pow-suc 16 i, small))
