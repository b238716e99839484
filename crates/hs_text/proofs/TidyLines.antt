-- A line of a tidy text has no fault, and what follows it is tidy. Crates above cite this.
use Rattle.std.proofs.Common.{◌≡◌, ◌≢◌, ℕ, zero, suc, ◌≤◌, length, drop, Bool, true, false, not, ◌||◌, ◌&&◌, cond, nat_eq, nat_lt, List, [], ◌∷◌, ◌++◌, Some, None, refl, sym, ap, ◌∙◌, arith}
use borrow.Author.Tests.{ne_eqb}
use Rattle.std.specs.List.{All, list_all, zip}
use Rattle.std.proofs.lemmas.List.Elements.{All-head, All-tail}
use Rattle.hs_text.specs.Text.{has_bad_byte, has_bad_spaces}
use Rattle.hs_text.specs.Tidy.{is_stray, is_separator, are_apart, is_tidy}
use Rattle.hs_text.specs.declared.reading.LineFault.TheVariants.{Byte, Spaces}
use Rattle.hs_text.specs.LineFaults.{line_fault_of}
use Rattle.hs_text.proofs.Lines.{has_gap, gaps}

-- whether a text is tidy behind a byte that was a separator, or was not
abbrev pub is_tidy_behind : Bool → List ℕ → Bool
is_tidy_behind behind [] = true
is_tidy_behind behind (b ∷ text) = not (is_stray b || (is_separator b && behind)) && is_tidy_behind (is_separator b) text

one_byte : (stray separates behind fine apart : Bool) → (not (stray || (separates && behind)) && (fine && apart)) ≡ ((not stray && fine) && (not (behind && separates) && apart))
one_byte true true true fine apart = refl
one_byte true true false fine apart = refl
one_byte true false true fine apart = refl
one_byte true false false fine apart = refl
one_byte false true true true apart = refl
one_byte false true true false apart = refl
one_byte false true false fine apart = refl
one_byte false false true fine apart = refl
one_byte false false false fine apart = refl

behind_byte : (a : ℕ) (text : List ℕ) → is_tidy_behind (is_separator a) text ≡ (list_all (λ b. not (is_stray b)) text && list_all are_apart (zip (a ∷ text) text))
behind_byte a [] = refl
behind_byte a (b ∷ text) =
    ap (λ (rest : Bool). not (is_stray b || (is_separator b && is_separator a)) && rest) (behind_byte b text)
    ∙ one_byte (is_stray b) (is_separator b) (is_separator a) (list_all (λ b. not (is_stray b)) text) (list_all are_apart (zip (b ∷ text) text))

-- a text is looked at byte by byte, with whether the byte before separates
pub tidy_by_bytes : (text : List ℕ) → is_tidy text ≡ is_tidy_behind true text
tidy_by_bytes text = sym (behind_byte 10 text)

-- behind all bytes of the text nothing is left to look at
pub tidy_at_end : (tidy behind : Bool) (text : List ℕ) (i : ℕ) → length text ≤ i → (tidy && is_tidy_behind behind (drop i text)) ≡ tidy
tidy_at_end true behind [] zero past = refl
tidy_at_end true behind [] (suc i) past = refl
tidy_at_end true behind (b ∷ text) zero past = absurd (omega (arith, past))
tidy_at_end true behind (b ∷ text) (suc i) past = tidy_at_end true behind text i (omega (arith, past))
tidy_at_end false behind text i past = refl

record Front (before : Bool) (line behind : List ℕ) : Type 0 where
  bytes : has_bad_byte line ≡ false
  spaces : has_gap before line ≡ false
  rest : is_tidy_behind true behind ≡ true

line_end : (before : Bool) (behind : List ℕ) → is_tidy_behind before (10 ∷ behind) ≡ true → Front before [] behind
line_end true behind tidy = absurd (grind arith)
line_end false behind tidy = record { bytes = refl; spaces = refl; rest = tidy }

record FirstByte (before is_space : Bool) (b : ℕ) (more : Bool) : Type 0 where
  prints : (nat_lt b 32 || nat_lt 126 b) ≡ false
  apart : (is_space && before) ≡ false
  rest : more ≡ true

first_byte : (before low high is_space more : Bool) → (not (((low && true) || high) || ((is_space || false) && before)) && more) ≡ true → ((low || high) ≡ false) × ((is_space && before) ≡ false) × (more ≡ true)
first_byte before true high is_space more tidy = absurd (grind arith)
first_byte before false true is_space more tidy = absurd (grind arith)
first_byte true false false true more tidy = absurd (grind arith)
first_byte true false false false more tidy = (refl, refl, tidy)
first_byte false false false true more tidy = (refl, refl, tidy)
first_byte false false false false more tidy = (refl, refl, tidy)

gap_first : (before is_space : Bool) (line : List ℕ) → (is_space && before) ≡ false → has_gap is_space line ≡ false → cond is_space (before || has_gap true line) (has_gap false line) ≡ false
gap_first true true line apart joined = absurd (grind arith)
gap_first false true line apart joined = joined
gap_first before false line apart joined = joined

front : (before : Bool) (line behind : List ℕ) → All (λ b. b ≢ 10) line → is_tidy_behind before (line ++ 10 ∷ behind) ≡ true → Front before line behind
front before [] behind whole tidy = line_end before behind tidy
front before (b ∷ line) behind whole tidy =
    let no_end : nat_eq b 10 ≡ false = ne_eqb b 10 (All-head (λ n. n ≢ 10) b line whole) in
    let is_space : Bool = nat_eq b 32 in
    let separates : is_separator b ≡ is_space = rw no_end (or_false is_space) in
    let seen : (not (((nat_lt b 32 && true) || nat_lt 126 b) || ((is_space || false) && before)) && is_tidy_behind (is_space || false) (line ++ 10 ∷ behind)) ≡ true = rw no_end at tidy in
    let first = first_byte before (nat_lt b 32) (nat_lt 126 b) is_space (is_tidy_behind (is_space || false) (line ++ 10 ∷ behind)) seen in
    let more : Front is_space line behind = front is_space line behind (All-tail (λ n. n ≢ 10) b line whole) (ap (λ (p : Bool). is_tidy_behind p (line ++ 10 ∷ behind)) (sym (or_false is_space)) ∙ first.2) in
    record {
      bytes = ap (λ (p : Bool). p || has_bad_byte line) first.0 ∙ more.bytes;
      spaces = gap_first before is_space line first.1 more.spaces;
      rest = more.rest;
    }
  where
    or_false : (p : Bool) → (p || false) ≡ p
    or_false true = refl
    or_false false = refl

pub tidy_line : (text line behind : List ℕ) → text ≡ line ++ 10 ∷ behind → All (λ b. b ≢ 10) line → is_tidy text ≡ true → (line_fault_of line ≡ None) × (is_tidy behind ≡ true)
tidy_line text line behind split whole tidy =
    let f = front true line behind whole (sym (tidy_by_bytes (line ++ 10 ∷ behind)) ∙ ap is_tidy (sym split) ∙ tidy) in
    let spaced : has_bad_spaces line ≡ false = sym (gaps line).spaced ∙ f.spaces in
    (ap (λ (bad : Bool). cond bad (Some Byte) (cond (has_bad_spaces line) (Some Spaces) None)) f.bytes ∙ ap (λ (bad : Bool). cond bad (Some Spaces) None) spaced, tidy_by_bytes behind ∙ f.rest)
