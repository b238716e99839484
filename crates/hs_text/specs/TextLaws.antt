-- What the words of a text promise: each number, trace and payload has one text, and a text stands for one of them.
-- The words of a line are the words that it was made of. Crates above cite these theorems.
use Rattle.std.proofs.Common.{◌≡◌, ◌<◌, ◌+◌, ◌*◌, ◌/◌, ◌%◌, ◌^◌, ◌&&◌, ◌||◌, not, nat_eq, nat_lt, nat_le, ℕ, zero, suc, zero-add, Bool, true, false, List, [], ◌∷◌, ◌++◌, length, get_or, take, length-append, if◌then◌else◌, Some, None, arith, refl, sym, ap, ◌∙◌}
use Rattle.std.specs.Prelude.{decimal}
use borrow.Author.Tests.{ne_eqb}
use Rattle.std.specs.List.{list_all, list_any, All}
use Rattle.std.specs.Str.{all_ascii_digits}
use Rattle.std.specs.Str.Parse.{digits_value}
use Rattle.std.proofs.Math.Nat.{pow-suc}
use Rattle.std.proofs.Math.Seq.{take-suc}
use Rattle.std.proofs.lemmas.List.{take_all, length-take-le}
use Rattle.std.proofs.lemmas.List.Elements.{All-head, All-tail, All-cons, All-nil}
use Rattle.std.proofs.lemmas.List.Splits.{slice_split_none, slice_split_at, join_with_byte-slice_split}
use Rattle.std.specs.Char.{is_ascii_digit}
use Rattle.std.proofs.lemmas.Bool.{and_parts, eqb-true}
use Rattle.std.proofs.lemmas.Fmt.{decimal_digit, decimal_nonempty, first_decimal, digits_decimal, digits_value-decimal, decimal-digits_value}
use Rattle.std.proofs.lemmas.Str.Parse.{IsNumeralModel, numerals_by_value, tells_all_ascii_digits}
use Rattle.std.proofs.lemmas.List.Folds.{list_all-append, list_any-append}
use Rattle.std.proofs.lemmas.List.FromFn.{get_or-range_with_len}
use Rattle.std.proofs.lemmas.List.Sums.{AllPass-from_list_all}
use Rattle.std.specs.List.{range_with_len}
use Rattle.hex.specs.Hex.{encode_with, encode_lower, lower_digits, hex_digit_value}
use Rattle.hex.proofs.HexLemmas.{length-encode_with, IsDigits-lower_digits}
use Rattle.hs_text.specs.LineFaults.{line_fault_of}
use Rattle.hs_text.specs.Text.{has_bad_byte, has_bad_spaces, words_of, line_of, number_of, hex_of, hex_text, hex_value_after, is_hex_digit, hex_digit_of, payload_of, payload_text, bytes_of_pairs}

-- whether a word has bytes that print, and no space
abbrev pub is_word : List ℕ → Bool
is_word word = not (nat_eq (length word) 0) && list_all (λ b. nat_le 33 b && nat_le b 126) word

-- ---- numbers

-- decimal digits in std's words
pub numerals : IsNumeralModel (λ ds. all_ascii_digits ds ≡ true) (digits_value 10)
numerals = numerals_by_value _ tells_all_ascii_digits

lead_decimal : (n : ℕ) → n < 2 ^ 64 → (nat_eq (length (decimal n)) 1 || not (nat_eq (get_or (decimal n) 0 0) 48)) ≡ true
lead_decimal zero small = rw (decimal_digit 0 (omega arith)) refl
lead_decimal (suc n) small =
    let first = first_decimal (suc n) (omega arith) small in
    grind arith

pub number_of-decimal : (n : ℕ) → n < 2 ^ 64 → number_of (decimal n) ≡ Some n
number_of-decimal n small =
    let digits : all_ascii_digits (decimal n) ≡ true = digits_decimal numerals n small in
    let value : digits_value 10 (decimal n) ≡ n = digits_value-decimal numerals n small in
    let some = decimal_nonempty n small in
    let lead = lead_decimal n small in
    grind arith

pub decimal-number_of : (word : List ℕ) (n : ℕ) → number_of word ≡ Some n → (word ≡ decimal n) × (n < 2 ^ 64)
decimal-number_of word n is =
    let digits : all_ascii_digits word ≡ true = grind arith in
    let some : 0 < length word = grind arith in
    let lead : get_or word 0 0 ≡ 48 → length word ≡ 1 = grind arith in
    let small : digits_value 10 word < 2 ^ 64 = grind arith in
    let value : digits_value 10 word ≡ n = grind arith in
    (sym (decimal-digits_value numerals word digits some lead small) ∙ ap decimal value, omega arith)

-- ---- digits of hexadecimal

-- a digit of lower case is one of either case
pub lower_digit : (b : ℕ) → is_hex_digit b ≡ true → hex_digit_value b ≡ Some (hex_digit_of b)
lower_digit b digit = grind arith

glyph_is_digit : (n : ℕ) → n < 16 → is_hex_digit (get_or lower_digits n 0) ≡ true
glyph_is_digit n small = AllPass-from_list_all is_hex_digit lower_digits refl n 0 small

glyph_value : (n : ℕ) → n < 16 → hex_digit_of (get_or lower_digits n 0) ≡ n
glyph_value n small =
    let either_case = IsDigits-lower_digits n small in
    let lower = lower_digit (get_or lower_digits n 0) (glyph_is_digit n small) in
    cc

-- a digit is the one that is written for what it stands for, by trying each byte
abbrev is_own_glyph : ℕ → Bool
is_own_glyph b = not (is_hex_digit b) || nat_eq (get_or lower_digits (hex_digit_of b) 0) b

value_glyph : (b : ℕ) → is_hex_digit b ≡ true → (get_or lower_digits (hex_digit_of b) 0 ≡ b) × (hex_digit_of b < 16)
value_glyph b digit =
    let low : b < 103 = grind arith in
    let at : get_or (range_with_len 0 103) b 0 ≡ b = get_or-range_with_len 0 103 b 0 low ∙ zero-add b in
    let tried : is_own_glyph (get_or (range_with_len 0 103) b 0) ≡ true = AllPass-from_list_all is_own_glyph (range_with_len 0 103) refl b 0 (omega (arith, low)) in
    (grind (arith, at), grind arith)

-- ---- traces

length-hex_text : (digits n : ℕ) → length (hex_text digits n) ≡ digits
length-hex_text zero n = refl
length-hex_text (suc digits) n = omega (arith, length-append (hex_text digits (n / 16)) (get_or lower_digits (n % 16) 0 ∷ []), length-hex_text digits (n / 16))

all-hex_text : (digits n : ℕ) → list_all is_hex_digit (hex_text digits n) ≡ true
all-hex_text zero n = refl
all-hex_text (suc digits) n =
    let split = list_all-append is_hex_digit (hex_text digits (n / 16)) (get_or lower_digits (n % 16) 0 ∷ []) in
    let front = all-hex_text digits (n / 16) in
    let last = glyph_is_digit (n % 16) (omega arith) in
    split ∙ rw (front, last) refl

hex_value-push : (m : ℕ) (word : List ℕ) (b : ℕ) → hex_value_after m (word ++ b ∷ []) ≡ 16 * hex_value_after m word + hex_digit_of b
hex_value-push m [] b = refl
hex_value-push m (a ∷ word) b = hex_value-push (16 * m + hex_digit_of a) word b

value-hex_text : (digits n : ℕ) → n < 16 ^ digits → hex_value_after 0 (hex_text digits n) ≡ n
value-hex_text zero n small = omega arith
value-hex_text (suc digits) n small =
    let front = value-hex_text digits (n / 16) (omega (arith, pow-suc 16 digits)) in
    let last = glyph_value (n % 16) (omega arith) in
    let split = hex_value-push 0 (hex_text digits (n / 16)) (get_or lower_digits (n % 16) 0) in
    omega (arith, split, front, last)

pub hex_of-hex_text : (digits n : ℕ) → n < 16 ^ digits → hex_of digits (hex_text digits n) ≡ Some n
hex_of-hex_text digits n small =
    let size = length-hex_text digits n in
    let all = all-hex_text digits n in
    let value = value-hex_text digits n small in
    grind arith

hex_text-value : (digits : ℕ) (word : List ℕ) → length word ≡ digits → list_all is_hex_digit word ≡ true → (hex_text digits (hex_value_after 0 word) ≡ word) × (hex_value_after 0 word < 16 ^ digits)
hex_text-value zero [] size all = (refl, omega arith)
hex_text-value zero (b ∷ word) size all = absurd (omega arith)
hex_text-value (suc digits) word size all =
    let front = take digits word in
    let last = get_or word digits 0 in
    let split : word ≡ front ++ last ∷ [] = sym (take_all (suc digits) word (omega arith)) ∙ take-suc word digits 0 (omega arith) in
    let parts = and_parts (list_all is_hex_digit front) (is_hex_digit last && true) (sym (list_all-append is_hex_digit front (last ∷ [])) ∙ ap (list_all is_hex_digit) (sym split) ∙ all) in
    let before = hex_text-value digits front (length-take-le digits word (omega arith)) parts.0 in
    let digit = value_glyph last (and_parts (is_hex_digit last) true parts.1).0 in
    let value : hex_value_after 0 word ≡ 16 * hex_value_after 0 front + hex_digit_of last = ap (hex_value_after 0) split ∙ hex_value-push 0 front last in
    let high : hex_value_after 0 word / 16 ≡ hex_value_after 0 front = omega (arith, value, digit.1) in
    let low : hex_value_after 0 word % 16 ≡ hex_digit_of last = omega (arith, value, digit.1) in (
      ap (λ m. hex_text digits m ++ get_or lower_digits (hex_value_after 0 word % 16) 0 ∷ []) high
          ∙ ap (λ m. hex_text digits (hex_value_after 0 front) ++ get_or lower_digits m 0 ∷ []) low
          ∙ ap (λ b. hex_text digits (hex_value_after 0 front) ++ b ∷ []) digit.0
          ∙ ap (λ w. w ++ last ∷ []) before.0 ∙ sym split,
      omega (arith, value, digit.1, before.1, pow-suc 16 digits),
    )

pub hex_text-hex_of : (digits : ℕ) (word : List ℕ) (n : ℕ) → hex_of digits word ≡ Some n → (word ≡ hex_text digits n) × (n < 16 ^ digits)
hex_text-hex_of digits word n is =
    let size : length word ≡ digits = grind arith in
    let all : list_all is_hex_digit word ≡ true = grind arith in
    let value : hex_value_after 0 word ≡ n = grind arith in
    let text = hex_text-value digits word size all in
    (sym text.0 ∙ ap (hex_text digits) value, omega (arith, value, text.1))

-- ---- payloads

encode-digits : (bytes : List ℕ) → All (λ b. b < 256) bytes → (list_all is_hex_digit (encode_lower bytes) ≡ true) × (bytes_of_pairs (encode_lower bytes) ≡ bytes)
unfolding encode_with
encode-digits [] small = (refl, refl)
encode-digits (b ∷ bytes) small =
    let fits : b < 256 = All-head (λ n. n < 256) b bytes small in
    let more = encode-digits bytes (All-tail (λ n. n < 256) b bytes small) in
    let high = glyph_is_digit (b / 16) (omega arith) in
    let low = glyph_is_digit (b % 16) (omega arith) in
    let high_value = glyph_value (b / 16) (omega arith) in
    let low_value = glyph_value (b % 16) (omega arith) in
    let whole : 16 * (b / 16) + b % 16 ≡ b = omega arith in
    (rw (high, low, more.0) refl, rw (high_value, low_value, whole, more.1) refl)

payload_of-pairs : (word : List ℕ) → 1 < length word → length word % 2 ≡ 0 → list_all is_hex_digit word ≡ true → payload_of word ≡ Some (bytes_of_pairs word)
payload_of-pairs word some even all = grind arith

pub payload_of-payload_text : (bytes : List ℕ) → All (λ b. b < 256) bytes → payload_of (payload_text bytes) ≡ Some bytes
payload_of-payload_text [] small = refl
payload_of-payload_text (b ∷ bytes) small =
    let digits = encode-digits (b ∷ bytes) small in
    let size = length-encode_with lower_digits (b ∷ bytes) in
    payload_of-pairs (encode_lower (b ∷ bytes)) (omega (arith, size)) (omega (arith, size)) digits.0 ∙ ap Some digits.1

encode-pairs : (word : List ℕ) → length word % 2 ≡ 0 → list_all is_hex_digit word ≡ true → (encode_lower (bytes_of_pairs word) ≡ word) × All (λ b. b < 256) (bytes_of_pairs word)
unfolding encode_with
encode-pairs [] even all = (refl, All-nil (λ b. b < 256))
encode-pairs (a ∷ []) even all = absurd (omega arith)
encode-pairs (a ∷ b ∷ rest) even all =
    let first = and_parts (is_hex_digit a) (list_all is_hex_digit (b ∷ rest)) all in
    let second = and_parts (is_hex_digit b) (list_all is_hex_digit rest) first.1 in
    let high = value_glyph a first.0 in
    let low = value_glyph b second.0 in
    let more = encode-pairs rest (omega arith) second.1 in
    let over : (16 * hex_digit_of a + hex_digit_of b) / 16 ≡ hex_digit_of a = omega (arith, high.1, low.1) in
    let under : (16 * hex_digit_of a + hex_digit_of b) % 16 ≡ hex_digit_of b = omega (arith, high.1, low.1) in
    (rw (over, under, high.0, low.0, more.0) refl, All-cons (λ n. n < 256) (16 * hex_digit_of a + hex_digit_of b) (bytes_of_pairs rest) (omega (arith, high.1, low.1)) more.1)

pair_parts : (dash some even all : Bool) (value bytes : List ℕ) → (if (false && dash) || (some && even && all) then Some value else None) ≡ Some bytes → (even ≡ true) × (all ≡ true) × (value ≡ bytes)
pair_parts dash true true true value bytes is = (refl, refl, cc)
pair_parts dash true true false value bytes is = cc
pair_parts dash true false all value bytes is = cc
pair_parts dash false even all value bytes is = cc

-- what a payload of more bytes than one is
pairs_of-payload : (word bytes : List ℕ) → 1 < length word → payload_of word ≡ Some bytes → (length word % 2 ≡ 0) × (list_all is_hex_digit word ≡ true) × (bytes_of_pairs word ≡ bytes)
pairs_of-payload word bytes some is =
    let long : nat_eq (length word) 1 ≡ false = ne_eqb (length word) 1 (omega arith) in
    let parts = pair_parts (nat_eq (get_or word 0 0) 45) _ _ _ _ bytes (rw long at is) in
    (eqb-true (length word % 2) 0 parts.0, parts.1, parts.2)

-- a word of one byte
alone : (dash : Bool) (bytes : List ℕ) → (if dash || false then Some [] else None) ≡ Some bytes → (dash ≡ true) × ([] ≡ bytes)
alone true bytes is = (refl, cc)
alone false bytes is = cc

pub payload_text-payload_of : (word bytes : List ℕ) → payload_of word ≡ Some bytes → (word ≡ payload_text bytes) × All (λ b. b < 256) bytes
payload_text-payload_of [] bytes is = cc
payload_text-payload_of (a ∷ []) bytes is =
    let parts = alone (nat_eq a 45) bytes is in
    let dash : a ≡ 45 = eqb-true a 45 parts.0 in
    let none = parts.1 in
    (rw (dash, ← none) refl, rw (← none) (All-nil (λ b. b < 256)))
payload_text-payload_of (a ∷ b ∷ rest) bytes is =
    let parts = pairs_of-payload (a ∷ b ∷ rest) bytes (omega arith) is in
    let same = parts.2 in
    let text = encode-pairs (a ∷ b ∷ rest) parts.0 parts.1 in
    (rw (← same) (sym text.0), rw (← same) text.1)

-- ---- words

pub line_of-words_of : (line : List ℕ) → line_of (words_of line) ≡ line
line_of-words_of line = join_with_byte-slice_split 32 line

no_space : (word : List ℕ) → is_word word ≡ true → All (λ b. nat_eq b 32 ≡ false) word
no_space word is =
    let prints = AllPass-from_list_all (λ b. nat_le 33 b && nat_le b 126) word (and_parts (not (nat_eq (length word) 0)) (list_all (λ b. nat_le 33 b && nat_le b 126) word) is).1 in
    λ k d within. let here = prints k d within in grind arith

-- words with no space in them are the words of their line
pub words_of-line_of : (first : List ℕ) (more : List (List ℕ)) → list_all is_word (first ∷ more) ≡ true → words_of (line_of (first ∷ more)) ≡ first ∷ more
words_of-line_of first [] all = slice_split_none (λ b. nat_eq b 32) first (no_space first (and_parts (is_word first) true all).0)
words_of-line_of first (next ∷ more) all =
    let parts = and_parts (is_word first) (list_all is_word (next ∷ more)) all in
    slice_split_at (λ b. nat_eq b 32) first 32 (line_of (next ∷ more)) (no_space first parts.0) refl ∙ ap (λ rest. first ∷ rest) (words_of-line_of next more parts.1)

-- what is written of numbers, traces and payloads is a word

digits_print : (word : List ℕ) → all_ascii_digits word ≡ true → list_all (λ b. nat_le 33 b && nat_le b 126) word ≡ true
digits_print [] all = refl
digits_print (b ∷ word) all =
    let parts = and_parts (is_ascii_digit b) (all_ascii_digits word) all in
    let more = digits_print word parts.1 in
    grind arith

hex_prints : (word : List ℕ) → list_all is_hex_digit word ≡ true → list_all (λ b. nat_le 33 b && nat_le b 126) word ≡ true
hex_prints [] all = refl
hex_prints (b ∷ word) all =
    let parts = and_parts (is_hex_digit b) (list_all is_hex_digit word) all in
    let more = hex_prints word parts.1 in
    grind arith

pub is_word-decimal : (n : ℕ) → n < 2 ^ 64 → is_word (decimal n) ≡ true
is_word-decimal n small =
    let some = decimal_nonempty n small in
    let prints = digits_print (decimal n) (digits_decimal numerals n small) in
    grind arith

pub is_word-hex_text : (digits n : ℕ) → 0 < digits → is_word (hex_text digits n) ≡ true
is_word-hex_text digits n some =
    let size = length-hex_text digits n in
    let prints = hex_prints (hex_text digits n) (all-hex_text digits n) in
    grind arith

pub is_word-payload_text : (bytes : List ℕ) → All (λ b. b < 256) bytes → is_word (payload_text bytes) ≡ true
is_word-payload_text [] small = refl
is_word-payload_text (b ∷ bytes) small =
    let size = length-encode_with lower_digits (b ∷ bytes) in
    let prints = hex_prints (encode_lower (b ∷ bytes)) (encode-digits (b ∷ bytes) small).0 in
    grind arith

-- ---- lines of words

word_prints : (word : List ℕ) → list_all (λ b. nat_le 33 b && nat_le b 126) word ≡ true → has_bad_byte word ≡ false
word_prints [] all = refl
word_prints (b ∷ word) all =
    let parts = and_parts (nat_le 33 b && nat_le b 126) (list_all (λ n. nat_le 33 n && nat_le n 126) word) all in
    let more = word_prints word parts.1 in
    grind arith

line_prints : (first : List ℕ) (more : List (List ℕ)) → list_all is_word (first ∷ more) ≡ true → has_bad_byte (line_of (first ∷ more)) ≡ false
line_prints first [] all = word_prints first (and_parts _ _ (and_parts (is_word first) true all).0).1
line_prints first (next ∷ more) all =
    let parts = and_parts (is_word first) (list_all is_word (next ∷ more)) all in
    let word = word_prints first (and_parts _ _ parts.0).1 in
    let rest = line_prints next more parts.1 in
    list_any-append (λ b. nat_lt b 32 || nat_lt 126 b) first (32 ∷ line_of (next ∷ more)) ∙ rw (word, rest) refl

no_empty : (words : List (List ℕ)) → list_all is_word words ≡ true → list_any (λ word. nat_eq (length word) 0) words ≡ false
no_empty [] all = refl
no_empty (word ∷ words) all =
    let parts = and_parts (is_word word) (list_all is_word words) all in
    let more = no_empty words parts.1 in
    grind arith

-- a line of words has no fault
pub line_fault_of-line_of : (first : List ℕ) (more : List (List ℕ)) → list_all is_word (first ∷ more) ≡ true → line_fault_of (line_of (first ∷ more)) ≡ None
line_fault_of-line_of first more all =
    let bytes = line_prints first more all in
    let spaces : has_bad_spaces (line_of (first ∷ more)) ≡ false = ap (list_any (λ word. nat_eq (length word) 0)) (words_of-line_of first more all) ∙ no_empty (first ∷ more) all in
    rw (bytes, spaces) refl
