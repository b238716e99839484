-- A word behind which a line goes on is not the last.
use Rattle.std.proofs.Common.{◌≡◌, ◌≢◌, ℕ, List, [], ◌∷◌, Err, get_or, nat_eq, true, ap, sym, ◌∙◌, arith}
use borrow.Author.Tests.{ne_eqb}
use Rattle.std.specs.List.{All, list_all}
use Rattle.std.proofs.lemmas.List.Elements.{All-cons, All-nil}
use Rattle.std.proofs.lemmas.List.Sums.{AllPass-from_list_all}
use Rattle.std.proofs.lemmas.List.Splits.{slice_split_none}
use Rattle.hs_text.specs.Text.{words_of, is_hex_digit, is_payload}
use Rattle.hs_text.specs.WordsLeft.{last_word, no_word}
use Rattle.hs_text.specs.JudgingLaws.{words_some}

pub last_word_many : {R : Type 0} (wrong : R) (word line : List ℕ) → last_word wrong (word ∷ words_of line) ≡ Err wrong
last_word_many wrong word line = ap (λ ws. last_word wrong (word ∷ ws)) (words_some line).are

pub no_word_many : {R : Type 0} (extra : R) (line : List ℕ) → no_word extra (words_of line) ≡ Err extra
no_word_many extra line = ap (no_word extra) (words_some line).are

-- a line with no space is one word
pub one_word : (line : List ℕ) → All (λ b. b ≢ 32) line → words_of line ≡ line ∷ []
one_word line no_space = slice_split_none (λ b. nat_eq b 32) line (λ k d within. ne_eqb (get_or line k d) 32 (no_space k d within))

no_space : (word : List ℕ) → list_all is_hex_digit word ≡ true → All (λ b. b ≢ 32) word
no_space word digits =
    λ k d within e.
    let digit : is_hex_digit (get_or word k d) ≡ true = AllPass-from_list_all is_hex_digit word digits k d within in
    let space : is_hex_digit 32 ≡ true = ap is_hex_digit (sym e) ∙ digit in
    absurd (grind arith)

-- a payload is one word
pub payload_word : (word : List ℕ) → is_payload word ≡ true → words_of word ≡ word ∷ []
payload_word [] is = absurd (grind arith)
payload_word (b ∷ []) is =
    let dash : nat_eq b 45 ≡ true = grind arith in
    one_word (b ∷ []) (All-cons (λ n. n ≢ 32) b [] (λ e. let other : nat_eq 32 45 ≡ true = ap (λ n. nat_eq n 45) (sym e) ∙ dash in absurd (grind arith)) (All-nil (λ n. n ≢ 32)))
payload_word (a ∷ b ∷ rest) is = one_word (a ∷ b ∷ rest) (no_space (a ∷ b ∷ rest) (grind arith))

pub ruleset last_words = (last_word_many, one_word)
