-- Pairs of digits, and what numbers are in them.
use Rattle.std.proofs.Common.{◌≡◌, ◌≢◌, ℕ, zero, suc, ◌+◌, ◌-◌, ◌*◌, ◌/◌, ◌%◌, ◌^◌, ◌<◌, ◌≤◌, Bool, true, ◌&&◌, cond, T, eqb, List, [], ◌∷◌, ◌++◌, length, take, set, length-set, get_or, refl, sym, ap, ◌∙◌, inl, inr, arith, eq-zero-or-pos, eqb→eq, append_assoc, append-nil}
use Rattle.std.proofs.Math.Nat.{div-div-eq-div-mul, pow-succ'}
use borrow.Author.Tests.{ne_eqb}
use lib.Ieee.Fits.{and_l, and_r}
use Rattle.std.proofs.lemmas.List.{take_more, take_more_set}
use Rattle.hex.specs.Hex.{encode_with, encode_lower, lower_digits}
use Rattle.std.specs.Fmt.{decimal}
use Rattle.itoa.proofs.Decimal.{PAIRS_at, decimal_pair, decimal_four}
use Rattle.hs_text.specs.Digits.{two_digits, four_digits}
use Rattle.hs_text.specs.Text.{hex_text}
use Rattle.hs_text.specs.Writing.{trace_word}
use Rattle.hs_base.specs.declared.ids.TraceId.{TraceId}
use Rattle.hs_text.specs.declared.digits.TheConstants.{DECIMAL_PAIRS, HEX_PAIRS}

pub decimal_pairs_at : (p : ℕ) → p < 100 → (get_or DECIMAL_PAIRS (p * 2) 0 ≡ 48 + p / 10) × (get_or DECIMAL_PAIRS (p * 2 + 1) 0 ≡ 48 + p % 10)
decimal_pairs_at p h = PAIRS_at p h

-- whether the first pairs, so many of them, are those of hexadecimal digits
abbrev are_hex_pairs : ℕ → Bool
are_hex_pairs zero = true
are_hex_pairs (suc p) = (eqb (get_or HEX_PAIRS (p * 2) 0) (get_or lower_digits (p / 16) 0) && eqb (get_or HEX_PAIRS (p * 2 + 1) 0) (get_or lower_digits (p % 16) 0)) && are_hex_pairs p

below : (n p : ℕ) → T (are_hex_pairs n) → p < n → (get_or HEX_PAIRS (p * 2) 0 ≡ get_or lower_digits (p / 16) 0) × (get_or HEX_PAIRS (p * 2 + 1) 0 ≡ get_or lower_digits (p % 16) 0)
below zero p t h = absurd (omega arith)
below (suc n) p t h =
    elim (eq-zero-or-pos (n - p)) [
      | inl z ↦ let e : p ≡ n = omega arith in let a = and_l _ (are_hex_pairs n) t in rw e (eqb→eq _ _ (and_l _ _ a), eqb→eq _ _ (and_r _ _ a))
      | inr g ↦ below n p (and_r _ (are_hex_pairs n) t) (omega arith)
    ]

pub hex_pairs_at : (p : ℕ) → p < 256 → (get_or HEX_PAIRS (p * 2) 0 ≡ get_or lower_digits (p / 16) 0) × (get_or HEX_PAIRS (p * 2 + 1) 0 ≡ get_or lower_digits (p % 16) 0)
hex_pairs_at p h = below 256 p tt h

-- the digits of a number are those of its front and those behind
pub hex_text_split : (low high n : ℕ) → hex_text (low + high) n ≡ hex_text high (n / 16 ^ low) ++ hex_text low n
hex_text_split zero high n =
    let e : zero + high ≡ high = omega arith in
    let f : n / 16 ^ zero ≡ n = omega arith in
    rw (e, f, append-nil) refl
hex_text_split (suc low) high n =
    let digit = get_or lower_digits (n % 16) 0 in
    let e : suc low + high ≡ suc (low + high) = omega arith in
    let front : n / 16 / 16 ^ low ≡ n / 16 ^ suc low = div-div-eq-div-mul n 16 (16 ^ low) ∙ ap (λ k. n / k) (sym (pow-succ' 16 low)) in
    ap (λ digits. hex_text digits n) e
    ∙ ap (λ text. text ++ (digit ∷ [])) (hex_text_split low high (n / 16) ∙ ap (λ m. hex_text high m ++ hex_text low (n / 16)) front)
    ∙ append_assoc (hex_text high (n / 16 ^ suc low)) (hex_text low (n / 16)) (digit ∷ [])

pub hex_two : (n : ℕ) → get_or HEX_PAIRS (n % 256 * 2) 0 ∷ get_or HEX_PAIRS (n % 256 * 2 + 1) 0 ∷ [] ≡ hex_text 2 n
hex_two n =
    let p = hex_pairs_at (n % 256) (omega arith) in
    let a : n % 256 / 16 ≡ n / 16 % 16 = omega arith in
    let b : n % 256 % 16 ≡ n % 16 = omega arith in
    rw (p.0, p.1, a, b) refl

pub hex_halves_of_eight : (n : ℕ) (high low : List ℕ) → high ≡ hex_text 4 (n / 65536) → low ≡ hex_text 4 n
    → get_or high 0 0 ∷ get_or high 1 0 ∷ get_or high 2 0 ∷ get_or high 3 0 ∷ get_or low 0 0 ∷ get_or low 1 0 ∷ get_or low 2 0 ∷ get_or low 3 0 ∷ [] ≡ hex_text 8 n
hex_halves_of_eight n high low are_high are_low = rw (are_high, are_low) (sym (hex_text_split 4 4 n))

pub hex_halves_of_sixteen : (n : ℕ) (high low : List ℕ) → high ≡ hex_text 8 (n / 4294967296) → low ≡ hex_text 8 n
    → get_or high 0 0 ∷ get_or high 1 0 ∷ get_or high 2 0 ∷ get_or high 3 0 ∷ get_or high 4 0 ∷ get_or high 5 0 ∷ get_or high 6 0 ∷ get_or high 7 0
    ∷ get_or low 0 0 ∷ get_or low 1 0 ∷ get_or low 2 0 ∷ get_or low 3 0 ∷ get_or low 4 0 ∷ get_or low 5 0 ∷ get_or low 6 0 ∷ get_or low 7 0 ∷ [] ≡ hex_text 16 n
hex_halves_of_sixteen n high low are_high are_low = rw (are_high, are_low) (sym (hex_text_split 8 8 n))

-- two digits that were appended one by one
pub two_put : (n : ℕ) (before once twice : List ℕ) → n < 100 → once ≡ before ++ (get_or DECIMAL_PAIRS (n * 2) 0 ∷ []) → twice ≡ once ++ (get_or DECIMAL_PAIRS (n * 2 + 1) 0 ∷ [])
    → twice ≡ before ++ two_digits n
two_put n before once twice small first second =
    let p = decimal_pairs_at n small in
    rw (second, first, append_assoc, p.0, p.1) refl

-- a number's front, and the digits behind it
pub pair_put : (n : ℕ) (before front whole : List ℕ) → 100 ≤ n → n < 2 ^ 64 → front ≡ before ++ decimal (n / 100) → whole ≡ front ++ two_digits (n % 100) → whole ≡ before ++ decimal n
pair_put n before front whole long fits first second = rw (second, first, append_assoc) (ap (λ text. before ++ text) (sym (decimal_pair n long fits)))

pub four_put : (n : ℕ) (before front whole : List ℕ) → 10000 ≤ n → n < 2 ^ 64 → front ≡ before ++ decimal (n / 10000) → whole ≡ front ++ four_digits (n % 10000) → whole ≡ before ++ decimal n
four_put n before front whole long fits first second = rw (second, first, append_assoc) (ap (λ text. before ++ text) (sym (decimal_four n long fits)))

-- a trace of 32 digits, in two halves
pub wide_trace : (version : ℕ) (trace : TraceId) (before high low whole : List ℕ) → version ≢ 1 → high ≡ before ++ (32 ∷ hex_text 16 (trace.0 / 18446744073709551616)) → low ≡ hex_text 16 trace.0 → whole ≡ high ++ low
    → whole ≡ before ++ (32 ∷ trace_word version trace)
wide_trace version trace before high low whole wide first last second =
    let digits = ap (λ (is : Bool). hex_text (cond is 16 32) trace.0) (ne_eqb version 1 wide) in
    second ∙ ap (λ text. text ++ low) first ∙ append_assoc before (32 ∷ hex_text 16 (trace.0 / 18446744073709551616)) low
    ∙ ap (λ text. before ++ (32 ∷ (hex_text 16 (trace.0 / 18446744073709551616) ++ text))) last
    ∙ ap (λ text. before ++ (32 ∷ text)) (sym (digits ∙ hex_text_split 16 16 trace.0))

encode-push : (bytes : List ℕ) (b : ℕ) → encode_lower (bytes ++ b ∷ []) ≡ encode_lower bytes ++ (get_or lower_digits (b / 16) 0 ∷ get_or lower_digits (b % 16) 0 ∷ [])
unfolding encode_with
encode-push [] b = refl
encode-push (a ∷ bytes) b = ap (λ text. get_or lower_digits (a / 16) 0 ∷ get_or lower_digits (a % 16) 0 ∷ text) (encode-push bytes b)

-- the digits of one byte more
pub hex_more : (bytes text : List ℕ) (i at b d : ℕ) → at ≡ 2 * i → i < length bytes → length text ≡ 2 * length bytes → get_or bytes i d ≡ b → b < 256 → take at text ≡ encode_lower (take i bytes)
    → take (at + 2) (set (set text at (get_or HEX_PAIRS (b * 2) 0)) (at + 1) (get_or HEX_PAIRS (b * 2 + 1) 0)) ≡ encode_lower (take (i + 1) bytes)
hex_more bytes text i at b d place inside size is small so_far =
    let p = hex_pairs_at b small in
    let first = set text at (get_or HEX_PAIRS (b * 2) 0) in
    let high = get_or HEX_PAIRS (b * 2) 0 in
    let low = get_or HEX_PAIRS (b * 2 + 1) 0 in
    let e : at + 2 ≡ at + 1 + 1 = omega arith in
    let same : length first ≡ length text = length-set text at high in
    ap (λ n. take n (set first (at + 1) low)) e ∙ take_more_set first (at + 1) low (omega arith) ∙ ap (λ t. t ++ (low ∷ [])) (take_more_set text at high (omega arith))
    ∙ append_assoc (take at text) (high ∷ []) (low ∷ []) ∙ ap (λ t. t ++ (high ∷ low ∷ [])) so_far
    ∙ ap (λ h. encode_lower (take i bytes) ++ (h ∷ low ∷ [])) p.0 ∙ ap (λ l. encode_lower (take i bytes) ++ (get_or lower_digits (b / 16) 0 ∷ l ∷ [])) p.1
    ∙ sym (encode-push (take i bytes) b) ∙ ap (λ x. encode_lower (take i bytes ++ (x ∷ []))) (sym is) ∙ ap encode_lower (sym (take_more bytes i d inside))
