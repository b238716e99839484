-- Texts of plain characters: numbers, hexadecimal digits, payloads and the words of fates. In JSON they stand for themselves.
use Rattle.std.proofs.Common.{◌≡◌, ℕ, zero, suc, ◌/◌, ◌%◌, ◌<◌, Bool, true, false, cond, eqb, List, [], ◌∷◌, ◌++◌, get_or, decimal, codes, ap, ◌∙◌, refl, lit<, arith}
use Rattle.std.specs.Fmt.{digits, digits_onto, digit_glyph}
use Rattle.std.specs.List.{list_all, All, AllByRecursion}
use Rattle.std.proofs.lemmas.Bool.{and_from}
use Rattle.std.proofs.lemmas.Bool.Decides.{nat_tests}
use Rattle.std.proofs.lemmas.List.Elements.{All-head, All-tail}
use Rattle.std.proofs.lemmas.List.Sums.{AllPass-from_list_all}
use Rattle.hex.specs.Hex.{encode_with, lower_digits}
use Rattle.json.specs.Print.{escape_byte, escape, quoted}
use Rattle.hs_base.proofs.Bools.{first_true, second_true}
use Rattle.hs_base.specs.declared.ids.TraceId.{TraceId}
use Rattle.hs_base.specs.declared.told.Fate.{Fate}
use Rattle.hs_base.specs.declared.told.Fate.TheVariants.{Null, Live, Reported, Evicted, Abandoned}
use Rattle.hs_report.specs.OutcomeText.{fate_words, json_text}
use Rattle.hs_text.specs.Text.{line_of, hex_text, payload_text}
use Rattle.hs_base.specs.Ids.{trace_digits}
use Rattle.hs_text.specs.Writing.{trace_word}
use Rattle.hs_json.specs.Spelling.{is_plain, ArePlain}

pub plain_append : (xs ys : List ℕ) → ArePlain xs → ArePlain ys → ArePlain (xs ++ ys)
plain_append [] ys p q = q
plain_append (x ∷ xs) ys p q = and_from (is_plain x) (list_all is_plain (xs ++ ys)) (first_true (is_plain x) (list_all is_plain xs) p) (plain_append xs ys (second_true (is_plain x) (list_all is_plain xs) p) q)

glyph_plain : (d : ℕ) → d < 10 → is_plain (digit_glyph false d) ≡ true
glyph_plain d small = grind (arith, nat_tests)

onto_more : (b : Bool) (front rest : List ℕ) → ArePlain front → ArePlain rest → ArePlain (cond b front rest)
onto_more true front rest p q = p
onto_more false front rest p q = q

onto_plain : (k n : ℕ) (acc : List ℕ) → ArePlain acc → ArePlain (digits_onto k 10 false n acc)
onto_plain zero n acc p = p
onto_plain (suc k) n acc p =
    let all : ArePlain (digit_glyph false (n % 10) ∷ acc) = and_from (is_plain (digit_glyph false (n % 10))) (list_all is_plain acc) (glyph_plain (n % 10) (omega arith)) p in
    onto_more (eqb (n / 10) 0) (digit_glyph false (n % 10) ∷ acc) (digits_onto k 10 false (n / 10) (digit_glyph false (n % 10) ∷ acc)) all
    (onto_plain k (n / 10) (digit_glyph false (n % 10) ∷ acc) all)

pub plain_decimal : (n : ℕ) → ArePlain (decimal n)
unfolding digits
plain_decimal n = onto_plain 64 n [] refl

digit_plain : (k : ℕ) → k < 16 → is_plain (get_or lower_digits k 0) ≡ true
digit_plain k small = AllPass-from_list_all is_plain lower_digits refl k 0 small

pub plain_hex : (count n : ℕ) → ArePlain (hex_text count n)
plain_hex zero n = refl
plain_hex (suc count) n =
    plain_append (hex_text count (n / 16)) (get_or lower_digits (n % 16) 0 ∷ []) (plain_hex count (n / 16))
    (and_from (is_plain (get_or lower_digits (n % 16) 0)) true (digit_plain (n % 16) (omega arith)) refl)

plain_pairs : (bytes : List ℕ) → All (λ b. b < 256) bytes → ArePlain (encode_with lower_digits bytes)
unfolding encode_with
plain_pairs [] fit = refl
plain_pairs (b ∷ bytes) fit =
    let low = All-head (λ (b : ℕ). b < 256) b bytes fit in
    and_from (is_plain (get_or lower_digits (b / 16) 0)) _ (digit_plain (b / 16) (omega arith))
    (and_from (is_plain (get_or lower_digits (b % 16) 0)) _ (digit_plain (b % 16) (omega arith)) (plain_pairs bytes (All-tail (λ (b : ℕ). b < 256) b bytes fit)))

pub plain_payload : (bytes : List ℕ) → All (λ b. b < 256) bytes → ArePlain (payload_text bytes)
plain_payload [] fit = refl
plain_payload (b ∷ bytes) fit = plain_pairs (b ∷ bytes) fit

-- words with a space between two
plain_line : (word : List ℕ) (words : List (List ℕ)) → ArePlain word → AllByRecursion ArePlain words → ArePlain (line_of (word ∷ words))
plain_line word [] p all = p
plain_line word (next ∷ words) p all = plain_append word (32 ∷ line_of (next ∷ words)) p (plain_line next words all.0 all.1)

pub plain_trace : (version : ℕ) (trace : TraceId) → ArePlain (trace_word version trace)
plain_trace version trace = plain_hex (trace_digits version) trace.0

pub plain_fate : (version : ℕ) (fate : Fate) → ArePlain (line_of (fate_words version fate))
plain_fate version (Null stamp) = plain_line (codes "null") (decimal stamp ∷ []) refl (plain_decimal stamp, tt)
plain_fate version Live = refl
plain_fate version (Reported trigger lead) =
    plain_line (codes "reported") (decimal trigger.0 ∷ trace_word version lead ∷ []) refl (plain_decimal trigger.0, (plain_trace version lead, tt))
plain_fate version (Evicted chunks traces) = plain_line (codes "evicted") (decimal chunks ∷ decimal traces ∷ []) refl (plain_decimal chunks, (plain_decimal traces, tt))
plain_fate version (Abandoned trigger lead rank) =
    plain_line (codes "abandoned") (decimal trigger.0 ∷ trace_word version lead ∷ hex_text 16 rank.word ∷ []) refl
    (plain_decimal trigger.0, (plain_trace version lead, (plain_hex 16 rank.word, tt)))

-- ---- in JSON

stands : (b : ℕ) → is_plain b ≡ true → escape_byte b ≡ b ∷ []
unfolding escape_byte
stands b p = grind (arith, nat_tests)

escape_plain : (text : List ℕ) → ArePlain text → escape text ≡ text
escape_plain [] p = refl
escape_plain (b ∷ text) p =
    ap (λ t. t ++ escape text) (stands b (first_true (is_plain b) (list_all is_plain text) p)) ∙ ap (λ t. b ∷ t) (escape_plain text (second_true (is_plain b) (list_all is_plain text) p))

pub quoted_plain : (text : List ℕ) → ArePlain text → quoted text ≡ json_text text
quoted_plain text p = ap (λ t. 34 ∷ (t ++ 34 ∷ [])) (escape_plain text p)

-- plain characters are ASCII
low : (b : ℕ) → is_plain b ≡ true → b < 128
low b q = grind (arith, nat_tests)

pub plain_ascii : (text : List ℕ) → ArePlain text → (i : ℕ) → get_or text i 0 < 128
plain_ascii [] p i = lit< tt
plain_ascii (b ∷ text) p zero = low b (first_true (is_plain b) (list_all is_plain text) p)
plain_ascii (b ∷ text) p (suc i) = plain_ascii text (second_true (is_plain b) (list_all is_plain text) p) i
