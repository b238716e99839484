-- The words of a line and what it says: each statement has one line, and a line that is taken is that of a statement.
use Rattle.std.proofs.Common.{◌≡◌, ◌<◌, ◌≤◌, ◌^◌, ℕ, suc, Bool, true, false, not, nat_eq, nat_le, cond, List, [], ◌∷◌, length, map, Option, Some, None, Result, Ok, Err, refl, sym, ap, subst, ◌∙◌, arith}
use borrow.Author.Tests.{leb-true}
use Rattle.std.specs.Prelude.{decimal, option_and_then, option_map, is_none}
use Rattle.std.specs.List.{list_all, AllByRecursion}
use Rattle.std.proofs.lemmas.Bool.{not-false}
use Rattle.hs_base.proofs.Numbers.{nat_eq_from}
use Rattle.hs_text.specs.Text.{line_of, number_of, has_bad_byte, numbers_of}
use Rattle.hs_text.specs.TextLaws.{is_word, number_of-decimal, decimal-number_of, is_word-decimal, words_of-line_of, line_of-words_of}
use Rattle.hs_text.specs.Steps.{◌>>=◌, first_that_holds}
use Rattle.hs_text.specs.Spelling.{spelled-text, spelled-every}
use Rattle.hs_text.specs.Opening.{line_reasons}
use Rattle.hs_text.specs.Agreement.{Agrees, NoneHolds, agrees_unless, agrees_opened, agrees_ok, agrees_none, none_hold, none_is_first, line_opened, opened_says, words_spelled}
use Rattle.hs_journal.specs.declared.refusal.JournalReason.{JournalReason}
use Rattle.hs_journal.specs.declared.refusal.JournalReason.TheVariants as reasons
use Rattle.hs_journal.specs.declared.word.Keyword.{Keyword}
use Rattle.hs_journal.specs.declared.line.Numbers.{Numbers}
use Rattle.hs_journal.specs.Statements.{Statement, keyword_text, number_count, keyword_of, all_keywords, keywords_told_apart, says, statement_of, statement_line}
use Rattle.hs_journal.specs.Faults.{numbers_at, may_stand, is_out_of_range, is_out_of_order, statement_reasons, keyword_reasons, before_words, fault_at}
use Rattle.hs_journal.specs.Forward.{three_numbers, Draft, past_of, after, statement_step, keyword_step, line_step}

abbrev pub IsSmall : ℕ → Type 0
IsSmall n = n < 2 ^ 64

keyword_is_word : (k : Keyword) → is_word (keyword_text k) ≡ true
keyword_is_word = spelled-every keyword_text all_keywords (λ k. is_word (keyword_text k)) keywords_told_apart refl

few_numbers : (k : Keyword) → number_count k ≤ 3
few_numbers k = leb-true (number_count k) 3 (spelled-every keyword_text all_keywords (λ w. nat_le (number_count w) 3) keywords_told_apart refl k)

-- ---- numbers

pub numbers_of-decimals : (ns : List ℕ) → AllByRecursion IsSmall ns → numbers_of (map decimal ns) ≡ Some ns
numbers_of-decimals [] small = refl
numbers_of-decimals (n ∷ ns) small =
    let first = number_of-decimal n small.0 in
    let more = numbers_of-decimals ns small.1 in
    rw (first, more) refl

record AreDecimals (words : List (List ℕ)) (ns : List ℕ) : Type 0 where
  pub words_are : words ≡ map decimal ns
  pub small : AllByRecursion IsSmall ns

none_left : (ns : List ℕ) → [] ≡ ns → AreDecimals [] ns
none_left [] is = record { words_are = refl; small = tt }
none_left (n ∷ ns) is = cc

more_left : (word : List ℕ) (words : List (List ℕ)) (n : ℕ) (ms ns : List ℕ) → number_of word ≡ Some n → AreDecimals words ms → n ∷ ms ≡ ns → AreDecimals (word ∷ words) ns
more_left word words n ms [] first rest is = cc
more_left word words n ms (m ∷ ns) first rest is =
    let head : n ≡ m = cc in
    let tail : ms ≡ ns = cc in
    let parts = decimal-number_of word n first in
    rw (← head, ← tail) (record { words_are = ap (λ w. w ∷ words) parts.0 ∙ ap (λ ws. decimal n ∷ ws) rest.words_are; small = (parts.1, rest.small) })

decimals_cons : (word : List ℕ) (words : List (List ℕ)) (ns : List ℕ) (o : Option ℕ) (p : Option (List ℕ)) → number_of word ≡ o → ((ms : List ℕ) → p ≡ Some ms → AreDecimals words ms)
    → option_and_then (λ n. option_map (λ ms. n ∷ ms) p) o ≡ Some ns → AreDecimals (word ∷ words) ns
decimals_cons word words ns None p first rest is = cc
decimals_cons word words ns (Some n) None first rest is = cc
decimals_cons word words ns (Some n) (Some ms) first rest is = more_left word words n ms ns first (rest ms refl) cc

decimals-numbers_of : (words : List (List ℕ)) (ns : List ℕ) → numbers_of words ≡ Some ns → AreDecimals words ns
decimals-numbers_of [] ns is = none_left ns cc
decimals-numbers_of (word ∷ words) ns is = decimals_cons word words ns (number_of word) (numbers_of words) refl (decimals-numbers_of words) is

-- numbers by their places, or that a word is none
abbrev number_list : Option (List ℕ) → Result Numbers JournalReason
number_list None = Err reasons.Number
number_list (Some ns) = Ok (numbers_at ns)

one_number : (a : List ℕ) (o : Option ℕ) → number_of a ≡ o → three_numbers (a ∷ []) ≡ number_list (numbers_of (a ∷ []))
unfolding three_numbers
one_number a None e = rw e refl
one_number a (Some m) e = rw e refl

two_numbers : (a b : List ℕ) (o p : Option ℕ) → number_of a ≡ o → number_of b ≡ p → three_numbers (a ∷ b ∷ []) ≡ number_list (numbers_of (a ∷ b ∷ []))
unfolding three_numbers
two_numbers a b None p e f = rw e refl
two_numbers a b (Some m) None e f = rw (e, f) refl
two_numbers a b (Some m) (Some n) e f = rw (e, f) refl

all_numbers : (a b c : List ℕ) (o p q : Option ℕ) → number_of a ≡ o → number_of b ≡ p → number_of c ≡ q → three_numbers (a ∷ b ∷ c ∷ []) ≡ number_list (numbers_of (a ∷ b ∷ c ∷ []))
unfolding three_numbers
all_numbers a b c None p q e f g = rw e refl
all_numbers a b c (Some l) None q e f g = rw (e, f) refl
all_numbers a b c (Some l) (Some m) None e f g = rw (e, f, g) refl
all_numbers a b c (Some l) (Some m) (Some n) e f g = rw (e, f, g) refl

three_numbers-is : (words : List (List ℕ)) → length words ≤ 3 → three_numbers words ≡ number_list (numbers_of words)
unfolding three_numbers
three_numbers-is [] few = refl
three_numbers-is (a ∷ []) few = one_number a (number_of a) refl
three_numbers-is (a ∷ b ∷ []) few = two_numbers a b (number_of a) (number_of b) refl refl
three_numbers-is (a ∷ b ∷ c ∷ []) few = all_numbers a b c (number_of a) (number_of b) (number_of c) refl refl refl
three_numbers-is (a ∷ b ∷ c ∷ d ∷ more) few = absurd (omega (arith, few))

-- ---- a step agrees with the reasons, and with what is said

-- what a word says with these numbers
abbrev stated : Keyword → List ℕ → Statement
stated k ns = record { keyword = k; numbers = ns }

-- the draft after what a line says
abbrev pub after_said : Draft → Statement → Draft
after_said d s = after d s.keyword (numbers_at s.numbers)

numbers_agree : (d : Draft) (k : Keyword) (o : Option (List ℕ))
    → Agrees (after_said d) (number_list o >>= statement_step d k) (first_that_holds ((is_none o, reasons.Number) ∷ statement_reasons (past_of d) (option_map (stated k) o))) (option_map (stated k) o)
numbers_agree d k None = refl
numbers_agree d k (Some ns) =
    agrees_unless (after_said d) (is_out_of_range (past_of d) k (numbers_at ns)) reasons.Range _ _ (Some (stated k ns)) (λ _.
    agrees_unless (after_said d) (is_out_of_order (past_of d) k (numbers_at ns)) reasons.Order (Ok (after d k (numbers_at ns))) None (Some (stated k ns)) (λ _. refl))

keyword_agrees : (d : Draft) (k : Keyword) (words : List (List ℕ)) → Agrees (after_said d) (keyword_step d k words) (first_that_holds (keyword_reasons (past_of d) k words)) (says k words)
keyword_agrees d k words =
    agrees_unless (after_said d) (not (may_stand (past_of d) k)) reasons.Word _ _ (says k words) (λ _.
    agrees_unless (after_said d) (not (nat_eq (length words) (number_count k))) reasons.Count _ _ (says k words) (λ counted.
    let few = few_numbers k in
    let count = nat_eq_from (length words) (number_count k) counted in
    let same : nat_eq (length words) (number_count k) ≡ true = grind arith in
    let numbers = three_numbers-is words (omega (arith, few, count)) in
    rw (numbers, same) (numbers_agree d k (numbers_of words))))

pub line_agrees : (d : Draft) (line : List ℕ) → Agrees (after_said d) (line_step d line) (fault_at (past_of d) line) (statement_of line)
unfolding line_step fault_at
line_agrees d line = agrees_opened (after_said d) before_words keyword_of (keyword_reasons (past_of d)) says (λ found. keyword_step d found.0 found.1) (keyword_agrees d) line

-- ---- a line that is taken

pub record Taken (d : Draft) (line : List ℕ) (next : Draft) : Type 0 where
  pub keyword : Keyword
  pub numbers : List ℕ
  pub none : fault_at (past_of d) line ≡ None
  pub prints : has_bad_byte line ≡ false
  pub spelled : line ≡ statement_line (record { keyword = keyword; numbers = numbers })
  pub says : statement_of line ≡ Some (record { keyword = keyword; numbers = numbers })
  pub stands : may_stand (past_of d) keyword ≡ true
  pub count : length numbers ≡ number_count keyword
  pub small : AllByRecursion IsSmall numbers
  pub within : is_out_of_range (past_of d) keyword (numbers_at numbers) ≡ false
  pub ordered : is_out_of_order (past_of d) keyword (numbers_at numbers) ≡ false
  pub is : next ≡ after d keyword (numbers_at numbers)

-- the numbers of what is said
record IsSaid (k : Keyword) (words : List (List ℕ)) (s : Statement) : Type 0 where
  numbers : List ℕ
  are : numbers_of words ≡ Some numbers
  is : s ≡ stated k numbers

said_numbers : (k : Keyword) (words : List (List ℕ)) (s : Statement) (b : Bool) (o : Option (List ℕ)) → numbers_of words ≡ o → cond b (option_map (stated k) o) None ≡ Some s → IsSaid k words s
said_numbers k words s true (Some ns) are is = record { numbers = ns; are = are; is = (let same : stated k ns ≡ s = cc in sym same) }
said_numbers k words s true None are is = cc
said_numbers k words s false o are is = cc

length-decimals : (ns : List ℕ) → length (map decimal ns) ≡ length ns
length-decimals [] = refl
length-decimals (n ∷ ns) = ap suc (length-decimals ns)

pub line_taken : (d next : Draft) (line : List ℕ) → line_step d line ≡ Ok next → Taken d line next
unfolding fault_at
line_taken d next line is =
    let past = past_of d in
    let taken = agrees_ok (after_said d) (line_step d line) (fault_at past line) (statement_of line) next (line_agrees d line) is in
    let none = none_hold (line_reasons before_words keyword_of (keyword_reasons past) line) taken.none in
    let found = line_opened before_words keyword_of (keyword_reasons past) line none in
    let k : Keyword = found.word in
    let words : List (List ℕ) = found.others in
    let parts = found.are in
    let begun = found.found in
    let spoken : says k words ≡ Some taken.statement = sym (opened_says keyword_of (keyword_reasons past) says line found) ∙ taken.says in
    let said = said_numbers k words taken.statement (nat_eq (length words) (number_count k)) (numbers_of words) refl spoken in
    let ns : List ℕ = said.numbers in
    let decimals = decimals-numbers_of words ns said.are in
    let reasons = subst (λ (o : Option Statement). NoneHolds (statement_reasons past o)) (spoken ∙ ap Some said.is) found.none.1.1.1 in
    record {
      keyword = k;
      numbers = ns;
      none = taken.none;
      prints = none.0;
      spelled = sym (line_of-words_of line) ∙ ap line_of (parts ∙ ap (λ w. w ∷ words) (spelled-text keyword_text all_keywords found.first k begun) ∙ ap (λ ws. keyword_text k ∷ ws) decimals.words_are);
      says = taken.says ∙ ap Some said.is;
      stands = not-false (may_stand past k) found.none.0;
      count = sym (length-decimals ns) ∙ ap length (sym decimals.words_are) ∙ nat_eq_from (length words) (number_count k) found.none.1.0;
      small = decimals.small;
      within = reasons.0;
      ordered = reasons.1.0;
      is = taken.is ∙ ap (after_said d) said.is;
    }

-- ---- what is said is taken

decimals_are_words : (ns : List ℕ) → AllByRecursion IsSmall ns → list_all is_word (map decimal ns) ≡ true
decimals_are_words [] small = refl
decimals_are_words (n ∷ ns) small =
    let first = is_word-decimal n small.0 in
    let more = decimals_are_words ns small.1 in
    rw (first, more) refl

pub statement_taken : (d : Draft) (k : Keyword) (ns : List ℕ) → AllByRecursion IsSmall ns → length ns ≡ number_count k → may_stand (past_of d) k ≡ true
    → is_out_of_range (past_of d) k (numbers_at ns) ≡ false → is_out_of_order (past_of d) k (numbers_at ns) ≡ false
    → line_step d (statement_line (record { keyword = k; numbers = ns })) ≡ Ok (after d k (numbers_at ns))
unfolding fault_at
statement_taken d k ns small count stands within ordered =
    let past = past_of d in
    let words = map decimal ns in
    let line = line_of (keyword_text k ∷ words) in
    let first = keyword_is_word k in
    let more = decimals_are_words ns small in
    let print : list_all is_word (keyword_text k ∷ words) ≡ true = rw (first, more) refl in
    let size = length-decimals ns in
    let counted : nat_eq (length words) (number_count k) ≡ true = grind arith in
    let numbers = numbers_of-decimals ns small in
    let spoken : says k words ≡ Some (stated k ns) = rw (counted, numbers) refl in
    let parts = words_of-line_of (keyword_text k) words print in
    let begun = keywords_told_apart k in
    let said : statement_of line ≡ Some (stated k ns) = rw (parts, begun) spoken in
    let reasons : NoneHolds (statement_reasons past (says k words)) = subst (λ (o : Option Statement). NoneHolds (statement_reasons past o)) (sym spoken) (within, (ordered, tt)) in
    let none : NoneHolds (keyword_reasons past k words) = (ap not stands, (ap not counted, (ap is_none numbers, reasons))) in
    agrees_none (after_said d) (line_step d line) (fault_at past line) (stated k ns) (subst (λ (o : Option Statement). Agrees (after_said d) (line_step d line) (fault_at past line) o) said (line_agrees d line))
    (none_is_first (line_reasons before_words keyword_of (keyword_reasons past) line) (words_spelled before_words keyword_of (keyword_reasons past) (keyword_text k) words k print begun none))
