-- What the words of a text say, as the functions of `text` find it.
use Rattle.std.proofs.Common.{◌≡◌, ◌≢◌, ◌<◌, ◌^◌, ◌+◌, ◌*◌, ◌/◌, ◌%◌, [], ◌∷◌, ap, sym, ◌∙◌, drop, ℕ, zero, suc, ◌++◌, append_assoc, set, take, ◌-◌, ◌≤◌, if◌then◌else◌, List, Bor, Some, None, Result, Ok, Err, length, get_or, nat_eq, not, ◌||◌, true, arith, refl}
use Rattle.std.proofs.Math.Nat.{pow-le-pow_right, pow-suc}
use Rattle.std.proofs.lemmas.Fmt.{IsAscii-from_digits}
use Rattle.std.proofs.lemmas.List.{drop-set, length-take-le}
use Rattle.std.proofs.Math.Seq.{take-set-lt}
use Rattle.std.proofs.lemmas.Str.{IsUtf8-from_ascii}
use Rattle.std.proofs.lemmas.Str.Parse.{parse_plain}
use Rattle.std.proofs.lemmas.Bool.{and_parts}
use Rattle.std.specs.List.{list_all}
use Rattle.std.specs.Option.{IfSome}
use Rattle.std.specs.Result.{MatchResult, OkIff, result_ok}
use Rattle.std.specs.Str.{IsUtf8, all_ascii_digits}
use Rattle.std.specs.Str.Parse.{digits_value, ParsesUnsigned}
use Rattle.hs_text.specs.TextLaws.{numerals, lower_digit}
use Rattle.hs_text.specs.Text.{hex_text, number_of, is_hex_digit, hex_digit_of, is_payload, payload_of, bytes_of_pairs}
use Rattle.hex.specs.Hex.{lower_digits, decode_of, decode_pairs, value_at, digit_or_error}
use Rattle.hex.proofs.HexLemmas.{decode_of-even}
use Rattle.hex.specs.declared.error.FromHexError.{FromHexError}

after_parse : {E : Type 0} (word : List ℕ) (r : Result ℕ E) → OkIff r ((all_ascii_digits word ≡ true) × (0 < length word) × (digits_value 10 word < 2 ^ 64)) (digits_value 10 word)
    → 0 < length word → (nat_eq (length word) 1 || not (nat_eq (get_or word 0 0) 48)) ≡ true → result_ok r ≡ number_of word
after_parse word (Ok n) parsed some lead = grind arith
after_parse word (Err e) parsed some lead = grind arith

pub number_parsed : {E : Type 0} (word : List ℕ) (r : Result ℕ E) → ParsesUnsigned 64 10 word r → 0 < length word → get_or word 0 0 ≢ 43
    → (nat_eq (length word) 1 || not (nat_eq (get_or word 0 0) 48)) ≡ true → result_ok r ≡ number_of word
number_parsed word r parsed some plain lead = after_parse word r (parse_plain numerals 64 word r parsed plain) some lead

-- what `from_utf8` gives is the word, and what it refuses is no number
pub utf8_word : {E : Type 0} (P : E → Type 0) (word : List ℕ) (r : Result (Bor (List ℕ)) E) (text : Bor (List ℕ)) → MatchResult r (λ s. (s.now ≡ word) × IsUtf8 word) P → Some text ≡ result_ok r → text.now ≡ word
utf8_word P word (Ok s) text h e = cc
utf8_word P word (Err e) text h d = cc

pub utf8_refused : {E : Type 0} (Q : E → Type 0) (word : List ℕ) (r : Result (Bor (List ℕ)) E) → MatchResult r (λ s. (s.now ≡ word) × IsUtf8 word) (λ e. ¬ (IsUtf8 word) × Q e) → None ≡ result_ok r → None ≡ number_of word
utf8_refused Q word (Ok s) h e = cc
utf8_refused Q word (Err e) h d =
    let refused : all_ascii_digits word ≡ true → ⊥ = λ digits. h.0 (IsUtf8-from_ascii word (IsAscii-from_digits word (numerals.to word digits))) in
    grind arith

decode_lower : (i : ℕ) (word : List ℕ) → length word % 2 ≡ 0 → list_all is_hex_digit word ≡ true → decode_pairs i word ≡ Ok (bytes_of_pairs word)
unfolding decode_pairs
decode_lower i [] even all = refl
decode_lower i (a ∷ []) even all = absurd (omega arith)
decode_lower i (a ∷ b ∷ rest) even all =
    let first = and_parts (is_hex_digit a) (list_all is_hex_digit (b ∷ rest)) all in
    let second = and_parts (is_hex_digit b) (list_all is_hex_digit rest) first.1 in
    let high : value_at a i ≡ Ok (hex_digit_of a) = ap (digit_or_error a i) (lower_digit a first.0) in
    let low : value_at b (i + 1) ≡ Ok (hex_digit_of b) = ap (digit_or_error b (i + 1)) (lower_digit b second.0) in
    let more = decode_lower (i + 2) rest (omega arith) second.1 in
    let byte : hex_digit_of a * 16 + hex_digit_of b ≡ 16 * hex_digit_of a + hex_digit_of b = omega arith in
    rw (high, low, more, byte) refl

length-bytes_of_pairs : (word : List ℕ) → length (bytes_of_pairs word) ≡ length word / 2
length-bytes_of_pairs [] = refl
length-bytes_of_pairs (a ∷ []) = refl
length-bytes_of_pairs (a ∷ b ∷ rest) = let e = length-bytes_of_pairs rest in omega (arith, e)

pub payload_length : (word : List ℕ) → is_payload word ≡ true → IfSome (payload_of word) (λ bytes. length word / 2 ≡ length bytes)
payload_length word is =
    let e = length-bytes_of_pairs word in
    grind arith

pub payload_decoded : (word : List ℕ) → is_payload word ≡ true → length word ≢ 1 → (decode_of word ≡ Ok (bytes_of_pairs word)) × (payload_of word ≡ Some (bytes_of_pairs word))
payload_decoded word is long =
    let even : length word % 2 ≡ 0 = grind arith in
    let all : list_all is_hex_digit word ≡ true = grind arith in
    (decode_of-even word even ∙ decode_lower 0 word even all, grind arith)

pub decoded_bytes : (word bytes : List ℕ) → is_payload word ≡ true → length word ≢ 1 → decode_of word ≡ Ok bytes → payload_of word ≡ Some bytes
decoded_bytes word bytes is long decoded =
    let d = payload_decoded word is long in
    cc

pub decoded_error : (word : List ℕ) (e : FromHexError) → is_payload word ≡ true → length word ≢ 1 → decode_of word ≡ Err e → ⊥
decoded_error word e is long refused =
    let d = payload_decoded word is long in
    cc

pub digit_small : (b digit : ℕ) → Some digit ≡ (if is_hex_digit b then Some (hex_digit_of b) else None) → digit < 16
digit_small b digit is = grind arith

-- one more digit fits 128 bits
pub hex_room : (n i : ℕ) → n < 16 ^ i → i < 32 → 16 * n + 15 < 2 ^ 128
hex_room n i small within =
    let most : 16 ^ suc i ≤ 16 ^ 32 = pow-le-pow_right {n = 16} (omega arith) {i = suc i} {j = 32} (omega arith) in
    omega (arith, pow-suc 16 i, most)

-- a digit written in front of those that stand behind it
pub digit_in_front : (text : List ℕ) (place digits digit : ℕ) → 0 < place → place ≤ digits → digits ≤ length text → drop (place - 1) (take digits (set text (place - 1) digit)) ≡ digit ∷ drop place (take digits text)
digit_in_front text zero digits digit some below fits = absurd (omega arith)
digit_in_front text (suc place) digits digit some below fits =
    let inside : place < digits = omega arith in
    let short : place < length (take digits text) = omega (arith, length-take-le digits text fits) in
    let same : suc place - 1 ≡ place = omega arith in
    let next : place + 1 ≡ suc place = omega arith in
    rw (same, take-set-lt digits text place digit inside, drop-set (take digits text) place digit short, next) refl

pub hex_step : (whole text : List ℕ) (rest place digits : ℕ) → 0 < place → place ≤ digits → digits ≤ length text → whole ≡ hex_text place rest ++ drop place (take digits text)
    → whole ≡ hex_text (place - 1) (rest / 16) ++ drop (place - 1) (take digits (set text (place - 1) (get_or lower_digits (rest % 16) 0)))
hex_step whole text rest zero digits some below fits so_far = absurd (omega arith)
hex_step whole text rest (suc place) digits some below fits so_far =
    let digit = get_or lower_digits (rest % 16) 0 in
    let front = digit_in_front text (suc place) digits digit some below fits in
    let same : suc place - 1 ≡ place = omega arith in
    so_far ∙ append_assoc (hex_text place (rest / 16)) (digit ∷ []) (drop (suc place) (take digits text))
    ∙ ap (λ n. hex_text n (rest / 16) ++ (digit ∷ drop (suc place) (take digits text))) (sym same)
    ∙ ap (λ tail. hex_text (suc place - 1) (rest / 16) ++ tail) (sym front)
