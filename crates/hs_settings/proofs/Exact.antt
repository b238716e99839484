-- The forward reading of a line agrees with the list of reasons: it refuses a line for its first reason, and takes a
-- line without one for what it says.
use Rattle.std.proofs.Common.{◌≡◌, ℕ, ◌≤◌, Bool, true, false, not, ◌||◌, nat_eq, List, [], ◌∷◌, length, cond, Option, Some, None, Result, Ok, Err, refl, arith}
use Rattle.std.specs.Prelude.{is_none, option_map, option_and_then}
use Rattle.std.proofs.lemmas.Bool.{not-false}
use borrow.Author.Tests.{eqb-true}
use Rattle.hs_base.proofs.Numbers.{nat_eq_from}
use Rattle.hs_text.specs.Text.{words_of, number_of, numbers_of, has_bad_byte}
use Rattle.hs_text.specs.Opening.{words_say}
use Rattle.hs_text.specs.Steps.{◌>>=◌, value_or, unless, first_that_holds}
use Rattle.hs_text.specs.Agreement.{Agrees, agrees_unless, agrees_opened}
use Rattle.hs_settings.specs.declared.refusal.SettingsReason.{SettingsReason}
use Rattle.hs_settings.specs.declared.refusal.SettingsReason.TheVariants as reasons
use Rattle.hs_settings.specs.declared.word.Keyword.{Keyword}
use Rattle.hs_settings.specs.declared.word.Keyword.TheVariants as keywords
use Rattle.hs_settings.specs.declared.word.Kind.{Kind}
use Rattle.hs_settings.specs.declared.word.Kind.TheVariants as kinds
use Rattle.hs_settings.specs.declared.numbers.Numbers.{Numbers}
use Rattle.hs_settings.specs.Statements.{Statement, Nothing, Watch, keyword_of, kind_of, kind_count, auto_rule, may_have, numbers_at, numbers_say, watch_said, says, is_skipped, statement_of}
use Rattle.hs_settings.specs.LookBack.{Past}
use Rattle.hs_settings.specs.Faults.{is_count_of, is_twice, is_out_of_range, is_out_of_order, names_unknown, statement_reasons, keyword_reasons, before_words, reasons_of, fault_at}
use Rattle.hs_settings.specs.Forward.{after, statement_step, four_numbers, numbers_step, auto_step, keyword_step, found_step, words_step, step_of, line_step}

-- ---- what is asked of a statement

step_agrees : (p : Past) (s : Statement) → Agrees (after p) (statement_step p s) (first_that_holds (statement_reasons p (Some s))) (Some s)
step_agrees p s =
    agrees_unless (after p) (is_out_of_range s) reasons.Range _ _ (Some s) (λ _.
    agrees_unless (after p) (is_out_of_order p s) reasons.Order _ _ (Some s) (λ _.
    agrees_unless (after p) (names_unknown p s) reasons.Unknown (Ok (after p s)) None (Some s) (λ _. refl)))

-- ---- lines of numbers alone

-- numbers by their places, or that a word is none
abbrev number_list : Option (List ℕ) → Result Numbers SettingsReason
number_list None = Err reasons.Number
number_list (Some ns) = Ok (numbers_at ns)

one_number : (a : List ℕ) (o : Option ℕ) → number_of a ≡ o → four_numbers (a ∷ []) ≡ number_list (numbers_of (a ∷ []))
unfolding four_numbers
one_number a None e = rw e refl
one_number a (Some m) e = rw e refl

two_numbers : (a b : List ℕ) (o p : Option ℕ) → number_of a ≡ o → number_of b ≡ p → four_numbers (a ∷ b ∷ []) ≡ number_list (numbers_of (a ∷ b ∷ []))
unfolding four_numbers
two_numbers a b None p e f = rw e refl
two_numbers a b (Some m) None e f = rw (e, f) refl
two_numbers a b (Some m) (Some n) e f = rw (e, f) refl

three_numbers : (a b c : List ℕ) (o p q : Option ℕ) → number_of a ≡ o → number_of b ≡ p → number_of c ≡ q → four_numbers (a ∷ b ∷ c ∷ []) ≡ number_list (numbers_of (a ∷ b ∷ c ∷ []))
unfolding four_numbers
three_numbers a b c None p q e f g = rw e refl
three_numbers a b c (Some l) None q e f g = rw (e, f) refl
three_numbers a b c (Some l) (Some m) None e f g = rw (e, f, g) refl
three_numbers a b c (Some l) (Some m) (Some n) e f g = rw (e, f, g) refl

all_numbers : (a b c d : List ℕ) (o p q r : Option ℕ) → number_of a ≡ o → number_of b ≡ p → number_of c ≡ q → number_of d ≡ r
    → four_numbers (a ∷ b ∷ c ∷ d ∷ []) ≡ number_list (numbers_of (a ∷ b ∷ c ∷ d ∷ []))
unfolding four_numbers
all_numbers a b c d None p q r e f g h = rw e refl
all_numbers a b c d (Some k) None q r e f g h = rw (e, f) refl
all_numbers a b c d (Some k) (Some l) None r e f g h = rw (e, f, g) refl
all_numbers a b c d (Some k) (Some l) (Some m) None e f g h = rw (e, f, g, h) refl
all_numbers a b c d (Some k) (Some l) (Some m) (Some n) e f g h = rw (e, f, g, h) refl

four_numbers-is : (words : List (List ℕ)) → length words ≤ 4 → four_numbers words ≡ number_list (numbers_of words)
unfolding four_numbers
four_numbers-is [] few = refl
four_numbers-is (a ∷ []) few = one_number a (number_of a) refl
four_numbers-is (a ∷ b ∷ []) few = two_numbers a b (number_of a) (number_of b) refl refl
four_numbers-is (a ∷ b ∷ c ∷ []) few = three_numbers a b c (number_of a) (number_of b) (number_of c) refl refl refl
four_numbers-is (a ∷ b ∷ c ∷ d ∷ []) few = all_numbers a b c d (number_of a) (number_of b) (number_of c) (number_of d) refl refl refl refl
four_numbers-is (a ∷ b ∷ c ∷ d ∷ e ∷ more) few = absurd (omega (arith, few))

one_or_four : (n : ℕ) (one four : Bool) → nat_eq n 1 ≡ one → nat_eq n 4 ≡ four → (one || four) ≡ true → n ≤ 4
one_or_four n true four p q e = let is = eqb-true n 1 p in omega (arith, is)
one_or_four n false true p q e = let is = eqb-true n 4 q in omega (arith, is)
one_or_four n false false p q e = cc

few_numbers : (k : Keyword) (n : ℕ) → may_have k n ≡ true → n ≤ 4
few_numbers (keywords.Setting s) n may = let is = eqb-true n 1 may in omega (arith, is)
few_numbers keywords.TriggerId n may = one_or_four n (nat_eq n 1) (nat_eq n 4) refl refl may
few_numbers keywords.Auto n may = cc

few_behind : (kind : Kind) → kind_count kind ≤ 4
few_behind kinds.Exception = omega arith
few_behind kinds.Percentile = omega arith
few_behind kinds.Category = omega arith
few_behind kinds.Queue = omega arith

-- what such a line says
abbrev plain_said : Keyword → List (List ℕ) → Option Statement
plain_said k words = cond (may_have k (length words)) (option_map (λ ns. numbers_say k (length words) (numbers_at ns)) (numbers_of words)) None

numbers_agree : (p : Past) (k : Keyword) (count : ℕ) (o : Option (List ℕ))
    → Agrees (after p) (number_list o >>= λ n. statement_step p (numbers_say k count n))
    (first_that_holds ((is_none o, reasons.Number) ∷ statement_reasons p (option_map (λ ns. numbers_say k count (numbers_at ns)) o)))
    (option_map (λ ns. numbers_say k count (numbers_at ns)) o)
numbers_agree p k count None = refl
numbers_agree p k count (Some ns) = step_agrees p (numbers_say k count (numbers_at ns))

plain_agrees : (p : Past) (k : Keyword) (words : List (List ℕ))
    → Agrees (after p) (numbers_step p k words)
    (first_that_holds ((is_twice p k, reasons.Twice) ∷ (not (may_have k (length words)), reasons.Count) ∷ (is_none (numbers_of words), reasons.Number) ∷ statement_reasons p (plain_said k words)))
    (plain_said k words)
plain_agrees p k words =
    agrees_unless (after p) (is_twice p k) reasons.Twice _ _ (plain_said k words) (λ _.
    agrees_unless (after p) (not (may_have k (length words))) reasons.Count _ _ (plain_said k words) (λ counted.
    let same : may_have k (length words) ≡ true = not-false (may_have k (length words)) counted in
    let numbers = four_numbers-is words (few_numbers k (length words) same) in
    rw (numbers, same) (numbers_agree p k (length words) (numbers_of words))))

-- ---- autotriggers

abbrev FormAgrees : Past → Keyword → List (List ℕ) → Type 0
FormAgrees p k words = Agrees (after p) (keyword_step p k words) (first_that_holds (keyword_reasons p k words)) (says k words)

watched_of : (p : Past) (kind : Kind) (o : Option ℕ) (q : Option (List ℕ))
    → Agrees (after p) (value_or reasons.Number o >>= λ n. number_list q >>= λ ns. statement_step p (Watch n (auto_rule kind ns)))
    (first_that_holds ((is_none (option_and_then (λ n. option_map (λ ns. n ∷ ns) q) o), reasons.Number)
    ∷ statement_reasons p (option_and_then (λ n. option_map (λ ns. Watch n (auto_rule kind (numbers_at ns))) q) o)))
    (option_and_then (λ n. option_map (λ ns. Watch n (auto_rule kind (numbers_at ns))) q) o)
watched_of p kind None q = refl
watched_of p kind (Some n) None = refl
watched_of p kind (Some n) (Some ns) = step_agrees p (Watch n (auto_rule kind (numbers_at ns)))

-- an autotrigger of a kind
kind_agrees : (p : Past) (a : List ℕ) (words : List (List ℕ)) (kind : Kind)
    → Agrees (after p)
    (unless (not (nat_eq (length words) (kind_count kind))) reasons.Count
    (value_or reasons.Number (number_of a) >>= λ n. four_numbers words >>= λ ns. statement_step p (Watch n (auto_rule kind ns))))
    (first_that_holds ((not (nat_eq (length words) (kind_count kind)), reasons.Count) ∷ (is_none (numbers_of (a ∷ words)), reasons.Number)
    ∷ statement_reasons p (watch_said kind a words)))
    (watch_said kind a words)
kind_agrees p a words kind =
    agrees_unless (after p) (not (nat_eq (length words) (kind_count kind))) reasons.Count _ _ (watch_said kind a words) (λ counted.
    let few = few_behind kind in
    let count = nat_eq_from (length words) (kind_count kind) counted in
    let same : nat_eq (length words) (kind_count kind) ≡ true = grind arith in
    let numbers = four_numbers-is words (omega (arith, few, count)) in
    rw (numbers, same) (watched_of p kind (number_of a) (numbers_of words)))

found_kind_agrees : (p : Past) (a : List ℕ) (words : List (List ℕ)) (o : Option Kind)
    → Agrees (after p)
    (value_or reasons.Word o >>= λ kind. unless (not (nat_eq (length words) (kind_count kind))) reasons.Count
    (value_or reasons.Number (number_of a) >>= λ n. four_numbers words >>= λ ns. statement_step p (Watch n (auto_rule kind ns))))
    (first_that_holds ((is_none o, reasons.Word) ∷ (false, reasons.Twice) ∷ (not (is_count_of o words), reasons.Count) ∷ (is_none (numbers_of (a ∷ words)), reasons.Number)
    ∷ statement_reasons p (option_and_then (λ kind. watch_said kind a words) o)))
    (option_and_then (λ kind. watch_said kind a words) o)
found_kind_agrees p a words None = refl
found_kind_agrees p a words (Some kind) = kind_agrees p a words kind

auto_agrees : (p : Past) (words : List (List ℕ)) → FormAgrees p keywords.Auto words
unfolding auto_step
auto_agrees p [] = refl
auto_agrees p (a ∷ []) = refl
auto_agrees p (a ∷ b ∷ words) = found_kind_agrees p a words (kind_of b)

keyword_agrees : (p : Past) (keyword : Keyword) (words : List (List ℕ)) → FormAgrees p keyword words
keyword_agrees p (keywords.Setting setting) words = plain_agrees p (keywords.Setting setting) words
keyword_agrees p keywords.TriggerId words = plain_agrees p keywords.TriggerId words
keyword_agrees p keywords.Auto words = auto_agrees p words

-- ---- lines

abbrev said_of_line : Bool → List ℕ → Option Statement
said_of_line skipped line = cond skipped (Some Nothing) (words_say keyword_of says (words_of line))

skip_agrees : (p : Past) (bad : Bool) → Agrees (after p) (unless bad reasons.Byte (Ok p)) (first_that_holds ((bad, reasons.Byte) ∷ [])) (Some Nothing)
skip_agrees p true = refl
skip_agrees p false = refl

either_agrees : (p : Past) (skipped : Bool) (line : List ℕ) → Agrees (after p) (step_of p skipped line) (first_that_holds (reasons_of p skipped line)) (said_of_line skipped line)
unfolding words_step
either_agrees p true line = skip_agrees p (has_bad_byte line)
either_agrees p false line = agrees_opened (after p) before_words keyword_of (keyword_reasons p) says (found_step p) (keyword_agrees p) line

pub line_agrees : (p : Past) (line : List ℕ) → Agrees (after p) (line_step p line) (fault_at p line) (statement_of line)
unfolding fault_at
line_agrees p line = either_agrees p (is_skipped line) line
