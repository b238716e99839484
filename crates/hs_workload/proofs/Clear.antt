-- A line has no fault exactly where it spells something that is allowed after the lines before it, and then it is taken.
use Rattle.std.proofs.Common.{◌≡◌, ℕ, true, false, not, List, [], ◌∷◌, map, Option, Some, None, Ok, refl, sym, arith, ap, subst, ◌∙◌}
use Rattle.hs_workload.proofs.Prelude.{IfSome, option_and_then, decimal, is_none, AllByRecursion, not-false, length_map, AutoRule, Exception, Percentile, Category, Queue, numbers_of, payload_of-payload_text, spelled-text, trace_word, Agrees, Begin, Point, Crumb, End, Fire, Sample, Keyword, Statement, Put, Declare, Watch, Start, Operate, Finish, keyword_text, all_keywords, keyword_of, keywords_told_apart, kinds_told_apart, auto_numbers, rule_numbers, says, statement_of, statement_words, statement_line, may_stand, has_no_kind, is_out_of_range, is_out_of_order, names_unknown, begins_while_open, lacks_trace, leaves_open, is_one_too_many, statement_reasons, keyword_reasons, version_of, before_words, fault_at, has_wrong_count, has_wrong_number, has_wrong_hex, Past, Draft, past_of, after, line_step}
use Rattle.hs_text.specs.Text.{words_of, line_of, has_bad_byte}
use Rattle.hs_text.specs.TextLaws.{line_of-words_of, words_of-line_of}
use Rattle.hs_text.specs.Opening.{words_say, line_reasons}
use Rattle.hs_text.specs.Agreement.{NoneHolds, none_hold, none_is_first, agrees_ok, agrees_none, line_opened, opened_says, words_spelled}
use Rattle.hs_workload.specs.declared.word.Kind.TheVariants as kinds
use Rattle.hs_workload.proofs.Exact.{line_agrees}
use Rattle.hs_workload.proofs.Spelled.{IsSmall, Form, keyword_said, IsSpelled, says_spelled, words_said, IsRead, read, numbers_of-decimals, traces_of-words}

-- what may stand after lines that say this
pub record Allowed (past : Past) (s : Statement) : Type 0 where
  pub stands : may_stand past (keyword_said s) ≡ true
  pub range : is_out_of_range past s ≡ false
  pub order : is_out_of_order past s ≡ false
  pub known : names_unknown past s ≡ false
  pub opens : begins_while_open past s ≡ false
  pub trace : lacks_trace past s ≡ false
  pub left : leaves_open past s ≡ false
  pub few : is_one_too_many past s ≡ false

pub record IsClear (past : Past) (line : List ℕ) (s : Statement) : Type 0 where
  pub form : Form (version_of past) s
  pub spelled : line ≡ statement_line (version_of past) s
  pub allowed : Allowed past s

-- ---- a line that is taken

pub record IsTaken (d : Draft) (line : List ℕ) (next : Draft) : Type 0 where
  pub statement : Statement
  pub none : fault_at (past_of d) line ≡ None
  pub prints : has_bad_byte line ≡ false
  pub is : next ≡ after d statement
  pub clear : IsClear (past_of d) line statement

pub line_taken : (d next : Draft) (line : List ℕ) → line_step d line ≡ Ok next → IsTaken d line next
unfolding fault_at
line_taken d next line step =
    let past : Past = past_of d in
    let version : ℕ = version_of past in
    let taken = agrees_ok (after d) (line_step d line) (fault_at past line) (statement_of version line) next (line_agrees d line) step in
    let none : NoneHolds (line_reasons before_words keyword_of (keyword_reasons past) line) = none_hold (line_reasons before_words keyword_of (keyword_reasons past) line) taken.none in
    let known = line_opened before_words keyword_of (keyword_reasons past) line none in
    let s : Statement = taken.statement in
    let said : says version known.word known.others ≡ Some s = sym (opened_says keyword_of (keyword_reasons past) (says version) line known) ∙ taken.says in
    let rest : NoneHolds (statement_reasons past (Some s)) = subst (λ (o : Option Statement). NoneHolds (statement_reasons past o)) said known.none.1.1.1.1.1 in
    let spelled : IsSpelled version known.word known.others s =
    subst (λ (o : Option Statement). IfSome o (IsSpelled version known.word known.others)) said (says_spelled version known.word known.others) in
    let words : words_of line ≡ statement_words version s =
    known.are ∙ ap (λ (w : List ℕ). w ∷ known.others) (spelled-text keyword_text all_keywords known.first known.word known.found) ∙ sym spelled.spelled in
    record {
      statement = s;
      none = taken.none;
      prints = none.0;
      is = taken.is;
      clear = record {
        form = spelled.form;
        spelled = sym (line_of-words_of line) ∙ ap line_of words;
        allowed = record {
          stands = ap (may_stand past) spelled.said ∙ not-false (may_stand past known.word) known.none.0;
          range = rest.0;
          order = rest.1.0;
          known = rest.1.1.0;
          opens = rest.1.1.1.0;
          trace = rest.1.1.1.1.0;
          left = rest.1.1.1.1.1.0;
          few = rest.1.1.1.1.1.1.0;
        };
      };
    }

-- ---- what is allowed is taken

pub statement_read : (version : ℕ) (s : Statement) → Form version s → statement_of version (statement_line version s) ≡ Some s
statement_read version s form =
    let r = read version s form in
    let words : words_of (statement_line version s) ≡ keyword_text (keyword_said s) ∷ words_said version s = ap (λ (ws : List (List ℕ)). words_of (line_of ws)) r.words ∙ words_of-line_of (keyword_text (keyword_said s)) (words_said version s) r.print in
    ap (words_say keyword_of (says version)) words ∙ ap (λ (o : Option Keyword). option_and_then (λ k. says version k (words_said version s)) o) (keywords_told_apart (keyword_said s)) ∙ r.said

record IsWellFormed (version : ℕ) (s : Statement) : Type 0 where
  kind : has_no_kind (keyword_said s) (words_said version s) ≡ false
  count : has_wrong_count (keyword_said s) (words_said version s) ≡ false
  number : has_wrong_number (keyword_said s) (words_said version s) ≡ false
  hex : has_wrong_hex version (keyword_said s) (words_said version s) ≡ false

numbers_are : (ns : List ℕ) → AllByRecursion IsSmall ns → is_none (numbers_of (map decimal ns)) ≡ false
numbers_are ns small = ap is_none (numbers_of-decimals ns small)

watch_formed : (version n : ℕ) (rule : AutoRule) → Form version (Watch n rule) → IsWellFormed version (Watch n rule)
watch_formed version n (Exception t) f = record { kind = rw (kinds_told_apart kinds.Exception) refl; count = rw (kinds_told_apart kinds.Exception) refl; number = numbers_are (n ∷ auto_numbers (Exception t)) (f.0, f.1); hex = refl }
watch_formed version n (Percentile t w s) f =
    record { kind = rw (kinds_told_apart kinds.Percentile) refl; count = rw (kinds_told_apart kinds.Percentile) refl; number = numbers_are (n ∷ auto_numbers (Percentile t w s)) (f.0, f.1); hex = refl }
watch_formed version n (Category t w s) f =
    record { kind = rw (kinds_told_apart kinds.Category) refl; count = rw (kinds_told_apart kinds.Category) refl; number = numbers_are (n ∷ auto_numbers (Category t w s)) (f.0, f.1); hex = refl }
watch_formed version n (Queue t w s l) f =
    record { kind = rw (kinds_told_apart kinds.Queue) refl; count = rw (kinds_told_apart kinds.Queue) refl; number = numbers_are (n ∷ auto_numbers (Queue t w s l)) (f.0, f.1); hex = refl }

well_formed : (version : ℕ) (s : Statement) → Form version s → IsWellFormed version s
well_formed version (Put setting n) f = record { kind = refl; count = refl; number = numbers_are (n ∷ []) f; hex = refl }
well_formed version (Declare rule) f = record { kind = refl; count = refl; number = numbers_are (rule_numbers rule) f; hex = refl }
well_formed version (Watch n rule) f = watch_formed version n rule f
well_formed version (Start a b) f = record { kind = refl; count = refl; number = numbers_are (a ∷ b ∷ []) f; hex = refl }
well_formed version (Operate (Begin id)) f = record { kind = refl; count = refl; number = refl; hex = rw (traces_of-words version (id ∷ []) (f, tt)) refl }
well_formed version (Operate (Point m bytes)) f =
    record { kind = refl; count = refl; number = numbers_are (m ∷ []) (f.0, tt); hex = rw (payload_of-payload_text bytes f.1) refl }
well_formed version (Operate (Crumb node)) f = record { kind = refl; count = refl; number = numbers_are (node.0 ∷ []) f; hex = refl }
well_formed version (Operate End) f = record { kind = refl; count = refl; number = refl; hex = refl }
well_formed version (Operate (Fire t)) f =
    let few = f.3 in
    let many = length_map (trace_word version) t.laterals in
    record { kind = refl; count = grind arith; number = numbers_are (t.moment ∷ t.trigger.0 ∷ []) (f.0, (f.1, tt)); hex = rw (traces_of-words version (t.lead ∷ t.laterals) (f.2, f.4)) refl }
well_formed version (Operate (Sample m a v)) f = record { kind = refl; count = refl; number = numbers_are (m ∷ a ∷ v ∷ []) f; hex = refl }
well_formed version Finish f = record { kind = refl; count = refl; number = refl; hex = refl }

pub statement_taken : (d : Draft) (s : Statement) → Form (version_of (past_of d)) s → Allowed (past_of d) s → line_step d (statement_line (version_of (past_of d)) s) ≡ Ok (after d s)
unfolding fault_at
statement_taken d s form a =
    let past : Past = past_of d in
    let version : ℕ = version_of past in
    let line : List ℕ = statement_line version s in
    let first : List ℕ = keyword_text (keyword_said s) in
    let others : List (List ℕ) = words_said version s in
    let r : IsRead version s = read version s form in
    let w : IsWellFormed version s = well_formed version s form in
    let statement : NoneHolds (statement_reasons past (says version (keyword_said s) others)) =
    subst (λ (o : Option Statement). NoneHolds (statement_reasons past o)) (sym r.said) (a.range, (a.order, (a.known, (a.opens, (a.trace, (a.left, (a.few, tt))))))) in
    let none : NoneHolds (keyword_reasons past (keyword_said s) others) = (ap not a.stands, (w.kind, (w.count, (w.number, (w.hex, statement))))) in
    let same : line ≡ line_of (first ∷ others) = ap line_of r.words in
    let fine : fault_at past line ≡ None =
    ap (fault_at past) same
    ∙ none_is_first (line_reasons before_words keyword_of (keyword_reasons past) (line_of (first ∷ others))) (words_spelled before_words keyword_of (keyword_reasons past) first others (keyword_said s) r.print (keywords_told_apart (keyword_said s)) none) in
    agrees_none (after d) (line_step d line) (fault_at past line) s
    (subst (λ (o : Option Statement). Agrees (after d) (line_step d line) (fault_at past line) o) (statement_read version s form) (line_agrees d line)) fine
