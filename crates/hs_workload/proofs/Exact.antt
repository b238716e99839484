-- The forward reading of a line agrees with the list of reasons: it refuses a line for its first reason, and takes a
-- line without one for what it says.
use Rattle.std.proofs.Common.{◌≡◌, ℕ, suc, ◌+◌, ◌≤◌, Bool, true, false, not, ◌||◌, nat_lt, nat_le, nat_eq, List, [], ◌∷◌, length, cond, Option, Some, None, Result, Ok, Err, refl, ap, arith}
use Rattle.hs_workload.proofs.Prelude.{is_none, option_map, option_and_then, ne_eqb, leb-true, nat_eq_from, MAX_PAYLOAD, MAX_OPERATIONS, MAX_LATERALS, TraceId, number_of, payload_of, numbers_of, ◌>>=◌, value_or, spelled-every, Agrees, Begin, Point, Reason, Keyword, Kind, setting_in, Statement, Watch, Operate, keyword_text, all_keywords, keywords_told_apart, keyword_of, kind_of, kind_count, auto_rule, number_count, numbers_at, numbers_say, trace_of, traces_of, fire, watch_said, says, statement_of, Past, may_stand, is_out_of_range, is_out_of_order, names_unknown, begins_while_open, lacks_trace, leaves_open, is_one_too_many, has_no_kind, has_wrong_count, has_wrong_number, has_wrong_hex, statement_reasons, version_of, keyword_reasons, before_words, fault_at, Draft, past_of, after, point_step, line_step}
use Rattle.hs_text.specs.Steps.{unless, first_that_holds}
use Rattle.hs_text.specs.Agreement.{agrees_unless, agrees_check, agrees_opened}
use Rattle.hs_records.specs.Records.{piece_count}
use Rattle.hs_workload.specs.declared.refusal.Reason.TheVariants as reasons
use Rattle.hs_records.specs.declared.setting.Setting.TheVariants as settings
use Rattle.hs_workload.specs.declared.word.Keyword.TheVariants as keywords
use Rattle.hs_workload.specs.declared.word.Kind.TheVariants as kinds
use Rattle.hs_workload.specs.declared.line.Numbers.{Numbers}
use Rattle.hs_workload.specs.Faults.{is_count_of}
use Rattle.hs_workload.specs.Forward.{with_payload, counted, statement_step, four_numbers, numbers_step, begin_step, trigger_step, auto_step, keyword_step, found_step}

not_one : (n : ℕ) → not (nat_eq (suc (suc n)) 1) ≡ true
not_one n = ap not (ne_eqb (suc (suc n)) 1 (λ e. omega arith))

not_two : (n : ℕ) → not (nat_eq (suc (suc (suc n))) 2) ≡ true
not_two n = ap not (ne_eqb (suc (suc (suc n))) 2 (λ e. omega arith))

-- ---- what is asked of a statement

step_agrees : (d : Draft) (s : Statement) → Agrees (after d) (statement_step d s) (first_that_holds (statement_reasons (past_of d) (Some s))) (Some s)
step_agrees d s =
    agrees_unless (after d) (is_out_of_range (past_of d) s) reasons.Range _ _ (Some s) (λ _.
    agrees_unless (after d) (is_out_of_order (past_of d) s) reasons.Order _ _ (Some s) (λ _.
    agrees_unless (after d) (names_unknown (past_of d) s) reasons.Unknown _ _ (Some s) (λ _.
    agrees_unless (after d) (begins_while_open (past_of d) s) reasons.Open _ _ (Some s) (λ _.
    agrees_unless (after d) (lacks_trace (past_of d) s) reasons.NoTrace _ _ (Some s) (λ _.
    agrees_unless (after d) (leaves_open (past_of d) s) reasons.StillOpen _ _ (Some s) (λ _.
    agrees_unless (after d) (is_one_too_many (past_of d) s) reasons.TooMany (Ok (after d s)) None (Some s) (λ _. refl)))))))

-- ---- lines of numbers alone

-- numbers by their places, or that a word is none
abbrev number_list : Option (List ℕ) → Result Numbers Reason
number_list None = Err reasons.Number
number_list (Some ns) = Ok (numbers_at ns)

one_number : (a : List ℕ) (o : Option ℕ) → number_of a ≡ o → four_numbers (a ∷ []) ≡ number_list (numbers_of (a ∷ []))
unfolding four_numbers
one_number a None e = rw e refl
one_number a (Some m) e = rw e refl

two_numbers : (a b : List ℕ) (o p : Option ℕ) → number_of a ≡ o → number_of b ≡ p → four_numbers (a ∷ b ∷ []) ≡ number_list (numbers_of (a ∷ b ∷ []))
unfolding four_numbers
two_numbers a b None p e f = rw e refl
two_numbers a b (Some m) None e f = rw (e, f) refl
two_numbers a b (Some m) (Some n) e f = rw (e, f) refl

three_numbers : (a b c : List ℕ) (o p q : Option ℕ) → number_of a ≡ o → number_of b ≡ p → number_of c ≡ q → four_numbers (a ∷ b ∷ c ∷ []) ≡ number_list (numbers_of (a ∷ b ∷ c ∷ []))
unfolding four_numbers
three_numbers a b c None p q e f g = rw e refl
three_numbers a b c (Some l) None q e f g = rw (e, f) refl
three_numbers a b c (Some l) (Some m) None e f g = rw (e, f, g) refl
three_numbers a b c (Some l) (Some m) (Some n) e f g = rw (e, f, g) refl

all_numbers : (a b c d : List ℕ) (o p q r : Option ℕ) → number_of a ≡ o → number_of b ≡ p → number_of c ≡ q → number_of d ≡ r
    → four_numbers (a ∷ b ∷ c ∷ d ∷ []) ≡ number_list (numbers_of (a ∷ b ∷ c ∷ d ∷ []))
unfolding four_numbers
all_numbers a b c d None p q r e f g h = rw e refl
all_numbers a b c d (Some k) None q r e f g h = rw (e, f) refl
all_numbers a b c d (Some k) (Some l) None r e f g h = rw (e, f, g) refl
all_numbers a b c d (Some k) (Some l) (Some m) None e f g h = rw (e, f, g, h) refl
all_numbers a b c d (Some k) (Some l) (Some m) (Some n) e f g h = rw (e, f, g, h) refl

four_numbers-is : (words : List (List ℕ)) → length words ≤ 4 → four_numbers words ≡ number_list (numbers_of words)
unfolding four_numbers
four_numbers-is [] few = refl
four_numbers-is (a ∷ []) few = one_number a (number_of a) refl
four_numbers-is (a ∷ b ∷ []) few = two_numbers a b (number_of a) (number_of b) refl refl
four_numbers-is (a ∷ b ∷ c ∷ []) few = three_numbers a b c (number_of a) (number_of b) (number_of c) refl refl refl
four_numbers-is (a ∷ b ∷ c ∷ d ∷ []) few = all_numbers a b c d (number_of a) (number_of b) (number_of c) (number_of d) refl refl refl refl
four_numbers-is (a ∷ b ∷ c ∷ d ∷ e ∷ more) few = absurd (omega (arith, few))

few_numbers : (k : Keyword) → number_count k ≤ 4
few_numbers k = leb-true (number_count k) 4 (spelled-every keyword_text all_keywords (λ w. nat_le (number_count w) 4) keywords_told_apart refl k)

few_behind : (kind : Kind) → kind_count kind ≤ 4
few_behind kinds.Exception = omega arith
few_behind kinds.Percentile = omega arith
few_behind kinds.Category = omega arith
few_behind kinds.Queue = omega arith

-- what such a line says
abbrev pub plain_said : Keyword → List (List ℕ) → Option Statement
plain_said k words = cond (nat_eq (length words) (number_count k)) (option_map (λ ns. numbers_say k (numbers_at ns)) (numbers_of words)) None

numbers_agree : (d : Draft) (k : Keyword) (o : Option (List ℕ))
    → Agrees (after d) (number_list o >>= λ n. statement_step d (numbers_say k n))
    (first_that_holds ((is_none o, reasons.Number) ∷ statement_reasons (past_of d) (option_map (λ ns. numbers_say k (numbers_at ns)) o)))
    (option_map (λ ns. numbers_say k (numbers_at ns)) o)
numbers_agree d k None = refl
numbers_agree d k (Some ns) = step_agrees d (numbers_say k (numbers_at ns))

plain_agrees : (d : Draft) (k : Keyword) (words : List (List ℕ))
    → Agrees (after d) (numbers_step d k words)
    (first_that_holds ((not (nat_eq (length words) (number_count k)), reasons.Count) ∷ (is_none (numbers_of words), reasons.Number) ∷ statement_reasons (past_of d) (plain_said k words)))
    (plain_said k words)
plain_agrees d k words =
    agrees_unless (after d) (not (nat_eq (length words) (number_count k))) reasons.Count _ _ (plain_said k words) (λ counted.
    let few = few_numbers k in
    let count = nat_eq_from (length words) (number_count k) counted in
    let same : nat_eq (length words) (number_count k) ≡ true = grind arith in
    let numbers = four_numbers-is words (omega (arith, few, count)) in
    rw (numbers, same) (numbers_agree d k (numbers_of words)))

-- ---- the other lines

-- the reasons of a first word that may stand
abbrev form_reasons : Past → Keyword → List (List ℕ) → List (Bool × Reason)
form_reasons past k words =
    (has_no_kind k words, reasons.Word) ∷ (has_wrong_count k words, reasons.Count) ∷ (has_wrong_number k words, reasons.Number)
    ∷ (has_wrong_hex (version_of past) k words, reasons.Hex) ∷ statement_reasons past (says (version_of past) k words)

abbrev FormAgrees : Draft → Keyword → List (List ℕ) → Type 0
FormAgrees d k words = Agrees (after d) (keyword_step d k words) (first_that_holds (form_reasons (past_of d) k words)) (says (version_of (past_of d)) k words)

begin_of : (d : Draft) (o : Option TraceId)
    → Agrees (after d) (value_or reasons.Hex o >>= λ t. statement_step d (Operate (Begin t)))
    (first_that_holds ((is_none (option_and_then (λ t. option_map (λ ts. t ∷ ts) (Some [])) o) || false, reasons.Hex)
    ∷ statement_reasons (past_of d) (option_map (λ t. Operate (Begin t)) o)))
    (option_map (λ t. Operate (Begin t)) o)
begin_of d None = refl
begin_of d (Some t) = step_agrees d (Operate (Begin t))

begin_agrees : (d : Draft) (words : List (List ℕ)) → FormAgrees d keywords.Begin words
unfolding begin_step
begin_agrees d [] = refl
begin_agrees d (a ∷ []) = begin_of d (trace_of (version_of (past_of d)) a)
begin_agrees d (a ∷ b ∷ words) = rw (not_one (length words)) refl

point_of : (d : Draft) (o : Option ℕ) (p : Option (List ℕ))
    → Agrees (after d)
    (value_or reasons.Number o >>= λ m. (value_or reasons.Hex p >>= λ bytes. Ok (length bytes)) >>= λ n.
    unless (nat_lt MAX_PAYLOAD n) reasons.Range
    (unless (not d.is_open) reasons.NoTrace (counted d.pieces (piece_count (setting_in d.head settings.Size) n) >>= λ pieces. with_payload d m pieces p)))
    (first_that_holds ((is_none (option_and_then (λ n. option_map (λ ns. n ∷ ns) (Some [])) o), reasons.Number) ∷ (is_none p, reasons.Hex)
    ∷ statement_reasons (past_of d) (option_and_then (λ m. option_map (λ bytes. Operate (Point m bytes)) p) o)))
    (option_and_then (λ m. option_map (λ bytes. Operate (Point m bytes)) p) o)
point_of d None p = refl
point_of d (Some m) None = refl
point_of d (Some m) (Some bytes) =
    let said : Option Statement = Some (Operate (Point m bytes)) in
    let pieces = d.pieces + piece_count (setting_in d.head settings.Size) (length bytes) in
    agrees_unless (after d) (nat_lt MAX_PAYLOAD (length bytes)) reasons.Range _ _ said (λ _. agrees_unless (after d) (not d.is_open) reasons.NoTrace _ _ said (λ _.
    agrees_check (after d) (nat_lt MAX_OPERATIONS pieces) reasons.TooMany pieces (λ n. with_payload d m n (Some bytes)) None said (λ _. refl)))

point_agrees : (d : Draft) (words : List (List ℕ)) → FormAgrees d keywords.Point words
unfolding point_step
point_agrees d [] = refl
point_agrees d (a ∷ []) = refl
point_agrees d (a ∷ b ∷ []) = point_of d (number_of a) (payload_of b)
point_agrees d (a ∷ b ∷ c ∷ words) = rw (not_two (length words)) refl

trigger_of : (d : Draft) (o p : Option ℕ) (q : Option TraceId) (r : Option (List TraceId))
    → Agrees (after d)
    (value_or reasons.Number o >>= λ m. value_or reasons.Number p >>= λ i. value_or reasons.Hex q >>= λ l. value_or reasons.Hex r >>= λ ls. statement_step d (fire m i l ls))
    (first_that_holds ((is_none (option_and_then (λ n. option_map (λ ns. n ∷ ns) (option_and_then (λ n. option_map (λ ns. n ∷ ns) (Some [])) p)) o), reasons.Number)
    ∷ (is_none (option_and_then (λ t. option_map (λ ts. t ∷ ts) r) q) || false, reasons.Hex)
    ∷ statement_reasons (past_of d) (option_and_then (λ m. option_and_then (λ i. option_and_then (λ l. option_map (fire m i l) r) q) p) o)))
    (option_and_then (λ m. option_and_then (λ i. option_and_then (λ l. option_map (fire m i l) r) q) p) o)
trigger_of d None p q r = refl
trigger_of d (Some m) None q r = refl
trigger_of d (Some m) (Some i) None r = refl
trigger_of d (Some m) (Some i) (Some l) None = refl
trigger_of d (Some m) (Some i) (Some l) (Some ls) = step_agrees d (fire m i l ls)

trigger_agrees : (d : Draft) (words : List (List ℕ)) → FormAgrees d keywords.Trigger words
unfolding trigger_step
trigger_agrees d [] = refl
trigger_agrees d (a ∷ []) = refl
trigger_agrees d (a ∷ b ∷ []) = refl
trigger_agrees d (a ∷ b ∷ c ∷ words) =
    agrees_unless (after d) (nat_lt MAX_LATERALS (length words)) reasons.Count _ _ (says (version_of (past_of d)) keywords.Trigger (a ∷ b ∷ c ∷ words)) (λ few.
    let within : nat_le (length words) MAX_LATERALS ≡ true = grind arith in
    rw within (trigger_of d (number_of a) (number_of b) (trace_of (version_of (past_of d)) c) (traces_of (version_of (past_of d)) words)))

watched_of : (d : Draft) (kind : Kind) (o : Option ℕ) (p : Option (List ℕ))
    → Agrees (after d) (value_or reasons.Number o >>= λ n. number_list p >>= λ ns. statement_step d (Watch n (auto_rule kind ns)))
    (first_that_holds ((is_none (option_and_then (λ n. option_map (λ ns. n ∷ ns) p) o), reasons.Number)
    ∷ statement_reasons (past_of d) (option_and_then (λ n. option_map (λ ns. Watch n (auto_rule kind (numbers_at ns))) p) o)))
    (option_and_then (λ n. option_map (λ ns. Watch n (auto_rule kind (numbers_at ns))) p) o)
watched_of d kind None p = refl
watched_of d kind (Some n) None = refl
watched_of d kind (Some n) (Some ns) = step_agrees d (Watch n (auto_rule kind (numbers_at ns)))

-- an autotrigger of a kind
kind_agrees : (d : Draft) (a : List ℕ) (words : List (List ℕ)) (kind : Kind)
    → Agrees (after d)
    (unless (not (nat_eq (length words) (kind_count kind))) reasons.Count
    (value_or reasons.Number (number_of a) >>= λ n. four_numbers words >>= λ ns. statement_step d (Watch n (auto_rule kind ns))))
    (first_that_holds ((not (nat_eq (length words) (kind_count kind)), reasons.Count) ∷ (is_none (numbers_of (a ∷ words)), reasons.Number)
    ∷ statement_reasons (past_of d) (watch_said kind a words)))
    (watch_said kind a words)
kind_agrees d a words kind =
    agrees_unless (after d) (not (nat_eq (length words) (kind_count kind))) reasons.Count _ _ (watch_said kind a words) (λ counted.
    let few = few_behind kind in
    let count = nat_eq_from (length words) (kind_count kind) counted in
    let same : nat_eq (length words) (kind_count kind) ≡ true = grind arith in
    let numbers = four_numbers-is words (omega (arith, few, count)) in
    rw (numbers, same) (watched_of d kind (number_of a) (numbers_of words)))

found_kind_agrees : (d : Draft) (a : List ℕ) (words : List (List ℕ)) (o : Option Kind)
    → Agrees (after d)
    (value_or reasons.Word o >>= λ kind. unless (not (nat_eq (length words) (kind_count kind))) reasons.Count
    (value_or reasons.Number (number_of a) >>= λ n. four_numbers words >>= λ ns. statement_step d (Watch n (auto_rule kind ns))))
    (first_that_holds ((is_none o, reasons.Word) ∷ (not (is_count_of o words), reasons.Count) ∷ (is_none (numbers_of (a ∷ words)), reasons.Number)
    ∷ statement_reasons (past_of d) (option_and_then (λ kind. watch_said kind a words) o)))
    (option_and_then (λ kind. watch_said kind a words) o)
found_kind_agrees d a words None = refl
found_kind_agrees d a words (Some kind) = kind_agrees d a words kind

auto_agrees : (d : Draft) (words : List (List ℕ)) → FormAgrees d keywords.Auto words
unfolding auto_step
auto_agrees d [] = refl
auto_agrees d (a ∷ []) = refl
auto_agrees d (a ∷ b ∷ words) = found_kind_agrees d a words (kind_of b)

keyword_agrees : (d : Draft) (keyword : Keyword) (words : List (List ℕ)) → FormAgrees d keyword words
keyword_agrees d (keywords.Setting setting) words = plain_agrees d (keywords.Setting setting) words
keyword_agrees d keywords.TriggerId words = plain_agrees d keywords.TriggerId words
keyword_agrees d keywords.Auto words = auto_agrees d words
keyword_agrees d keywords.Client words = plain_agrees d keywords.Client words
keyword_agrees d keywords.Begin words = begin_agrees d words
keyword_agrees d keywords.Point words = point_agrees d words
keyword_agrees d keywords.Crumb words = plain_agrees d keywords.Crumb words
keyword_agrees d keywords.End words = plain_agrees d keywords.End words
keyword_agrees d keywords.Trigger words = trigger_agrees d words
keyword_agrees d keywords.Sample words = plain_agrees d keywords.Sample words
keyword_agrees d keywords.Done words = plain_agrees d keywords.Done words

found_agrees : (d : Draft) (keyword : Keyword) (words : List (List ℕ))
    → Agrees (after d) (found_step d (keyword, words)) (first_that_holds (keyword_reasons (past_of d) keyword words)) (says (version_of (past_of d)) keyword words)
found_agrees d keyword words =
    agrees_unless (after d) (not (may_stand (past_of d) keyword)) reasons.Word (keyword_step d keyword words) (first_that_holds (form_reasons (past_of d) keyword words))
    (says (version_of (past_of d)) keyword words) (λ _. keyword_agrees d keyword words)

pub line_agrees : (d : Draft) (line : List ℕ) → Agrees (after d) (line_step d line) (fault_at (past_of d) line) (statement_of (version_of (past_of d)) line)
unfolding line_step fault_at
line_agrees d line = agrees_opened (after d) before_words keyword_of (keyword_reasons (past_of d)) (says (version_of (past_of d))) (found_step d) (found_agrees d) line
