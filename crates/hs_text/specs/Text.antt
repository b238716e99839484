-- The lines and the words of a text: each line is ended by one newline byte, and between two words stands one space. What a word
-- says is a number, a trace or a payload; each of these has one text, and what is no text of any is refused.
use Rattle.std.specs.Prelude.{◌≡◌, ℕ, zero, suc, ◌+◌, ◌-◌, ◌*◌, ◌/◌, ◌%◌, ◌^◌, Bool, true, false, not, ◌||◌, ◌&&◌, ◌==◌, nat_lt, nat_le, if◌then◌else◌, List, [], ◌∷◌, ◌++◌, length, slice_index, codes, Option, Some, None, refl, option_and_then, option_map}
use Rattle.std.specs.List.{slice_split, join_with_byte, flat_map, list_any, list_all}
use Rattle.std.specs.Str.{all_ascii_digits}
use Rattle.std.specs.Str.Parse.{digits_value}
use Rattle.hex.specs.Hex.{encode_lower, encode_with, lower_digits}

-- the words of a line: its parts between spaces
abbrev pub words_of : List ℕ → List (List ℕ)
words_of line = slice_split (λ b. b == 32) line

-- the line of these words
abbrev pub line_of : List (List ℕ) → List ℕ
line_of words = join_with_byte 32 words

-- the text of these lines
abbrev pub text_of : List (List ℕ) → List ℕ
text_of lines = flat_map (λ line. line ++ 10 ∷ []) lines

-- whether a line has a byte that does not print
abbrev pub has_bad_byte : List ℕ → Bool
has_bad_byte line = list_any (λ b. nat_lt b 32 || nat_lt 126 b) line

-- Whether a word of a line is empty: so it is where a space is first, last or behind another one, and in an empty line.
abbrev pub has_bad_spaces : List ℕ → Bool
has_bad_spaces line = list_any (λ word. length word == 0) (words_of line)

-- whether a word is decimal digits without a zero in front, at most 2^64 - 1
abbrev pub is_number : List ℕ → Bool
is_number word = not (length word == 0) && all_ascii_digits word && (length word == 1 || not (slice_index word 0 == 48)) && nat_lt (digits_value 10 word) (2 ^ 64)

-- the number that a word is
abbrev pub number_of : List ℕ → Option ℕ
number_of word = if is_number word then Some (digits_value 10 word) else None

-- the numbers that words are, where each is one
abbrev pub numbers_of : List (List ℕ) → Option (List ℕ)
numbers_of [] = Some []
numbers_of (word ∷ words) = option_and_then (λ n. option_map (λ ns. n ∷ ns) (numbers_of words)) (number_of word)

-- whether a byte is a digit of lower-case hexadecimal
abbrev pub is_hex_digit : ℕ → Bool
is_hex_digit b = (nat_le 48 b && nat_le b 57) || (nat_le 97 b && nat_le b 102)

-- what such a digit stands for
abbrev pub hex_digit_of : ℕ → ℕ
hex_digit_of b = if nat_le b 57 then b - 48 else b - 87

-- a number in so many lower-case hexadecimal digits, the highest first
abbrev pub hex_text : ℕ → ℕ → List ℕ
hex_text zero n = []
hex_text (suc digits) n = hex_text digits (n / 16) ++ slice_index lower_digits (n % 16) ∷ []

-- the number of these hexadecimal digits behind what was read before them
abbrev pub hex_value_after : ℕ → List ℕ → ℕ
hex_value_after n [] = n
hex_value_after n (b ∷ bs) = hex_value_after (16 * n + hex_digit_of b) bs

-- the number that a word of so many lower-case hexadecimal digits is
abbrev pub hex_of : ℕ → List ℕ → Option ℕ
hex_of digits word = if length word == digits && list_all is_hex_digit word then Some (hex_value_after 0 word) else None

-- a payload as a word: `-` for no bytes, and else two lower-case hexadecimal digits a byte
abbrev pub payload_text : List ℕ → List ℕ
payload_text [] = 45 ∷ []
payload_text (b ∷ bytes) = encode_lower (b ∷ bytes)

-- the bytes of pairs of digits
abbrev pub bytes_of_pairs : List ℕ → List ℕ
bytes_of_pairs [] = []
bytes_of_pairs (digit ∷ []) = []
bytes_of_pairs (high ∷ low ∷ rest) = (16 * hex_digit_of high + hex_digit_of low) ∷ bytes_of_pairs rest

-- whether a word is a payload
abbrev pub is_payload : List ℕ → Bool
is_payload word = (length word == 1 && slice_index word 0 == 45) || (not (length word == 0) && length word % 2 == 0 && list_all is_hex_digit word)

-- the payload that a word is
abbrev pub payload_of : List ℕ → Option (List ℕ)
payload_of word = if is_payload word then Some (if length word == 1 then [] else bytes_of_pairs word) else None

-- worked examples
words_of_client : words_of (codes "client 0 12") ≡ codes "client" ∷ codes "0" ∷ codes "12" ∷ []
words_of_client = refl

line_of_client : line_of (codes "client" ∷ codes "0" ∷ codes "12" ∷ []) ≡ codes "client 0 12"
line_of_client = refl

bad_spaces : (has_bad_spaces [] ≡ true) × (has_bad_spaces (codes " end") ≡ true) × (has_bad_spaces (codes "end ") ≡ true) × (has_bad_spaces (codes "a  b") ≡ true) × (has_bad_spaces (codes "a b") ≡ false)
bad_spaces = (refl, refl, refl, refl, refl)

bad_bytes : (has_bad_byte (9 ∷ []) ≡ true) × (has_bad_byte (127 ∷ []) ≡ true) × (has_bad_byte (codes "~ !") ≡ false)
bad_bytes = (refl, refl, refl)

numbers : (number_of (codes "0") ≡ Some 0) × (number_of (codes "10") ≡ Some 10) × (number_of (codes "01") ≡ None) × (number_of [] ≡ None) × (number_of (codes "+1") ≡ None)
numbers = (refl, refl, refl, refl, refl)

greatest_number : (number_of (codes "18446744073709551615") ≡ Some 18446744073709551615) × (number_of (codes "18446744073709551616") ≡ None)
greatest_number = (refl, refl)

traces : (hex_of 4 (codes "00af") ≡ Some 175) × (hex_of 4 (codes "00AF") ≡ None) × (hex_of 4 (codes "0af") ≡ None) × (hex_text 4 175 ≡ codes "00af")
traces = (refl, refl, refl, refl)

payloads : (payload_of (codes "-") ≡ Some []) × (payload_of (codes "00ff10") ≡ Some (0 ∷ 255 ∷ 16 ∷ [])) × (payload_of (codes "0") ≡ None) × (payload_of (codes "0G") ≡ None) × (payload_text (0 ∷ 255 ∷ 16 ∷ []) ≡ codes "00ff10") × (payload_text [] ≡ codes "-")
unfolding encode_with
payloads = (refl, refl, refl, refl, refl, refl)
