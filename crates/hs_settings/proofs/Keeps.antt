-- What was read so far has its numbers within their ranges, and rules that may stand together. Each line that is taken keeps this.
use Rattle.std.proofs.Common.{◌≡◌, ℕ, ◌≤◌, ◌<◌, ◌+◌, Bool, true, false, cond, nat_eq, nat_lt, nat_le, ◌||◌, List, [], ◌∷◌, ◌++◌, length, get_or, zero, suc, Option, Some, None, Ok, refl, sym, ap, subst, ◌∙◌, length-append, arith}
use Rattle.std.specs.List.{list_any}
use Rattle.std.proofs.lemmas.Bool.{or_parts, not-false, ltb-false}
use Rattle.std.proofs.lemmas.List.Elements.{All-push, All-nil}
use Rattle.std.proofs.lemmas.List.Folds.{list_any-append}
use Rattle.std.proofs.lemmas.List.Quantifiers.{all_pairs_push}
use Rattle.hs_base.proofs.Alls.{all_push}
use Rattle.hs_base.proofs.Numbers.{nat_le_past, nat_eq_from}
use Rattle.hs_base.specs.Ranges.{is_out}
use Rattle.hs_base.specs.Rules.{IsRule, AreRules, IsAutoRule, AreAutoRules, is_declared, fired_by}
use Rattle.hs_base.specs.declared.limits.TheConstants.{MAX_TRIGGER, MAX_WEIGHT, MAX_BURST, MAX_RATE, MIN_WINDOW, MAX_WINDOW, WHOLE_SHARE, MAX_LATERALS, MAX_AUTOS}
use Rattle.hs_base.specs.declared.ids.TriggerId.{TriggerId}
use Rattle.hs_base.specs.declared.settings.TriggerRule.{TriggerRule}
use Rattle.hs_base.specs.declared.settings.AutoRule.{AutoRule}
use Rattle.hs_base.specs.declared.settings.AutoRule.TheVariants.{Exception, Percentile, Category, Queue}
use Rattle.hs_text.specs.Text.{words_of}
use Rattle.hs_text.specs.Steps.{first_that_holds}
use Rattle.hs_text.specs.Opening.{words_say, line_reasons}
use Rattle.hs_text.specs.Agreement.{NoneHolds, none_hold, agrees_ok, line_opened, opened_says}
use Rattle.hs_settings.specs.declared.setting.GivenNumber.{GivenNumber}
use Rattle.hs_settings.specs.Settings.{least_of, most_of}
use Rattle.hs_settings.specs.Statements.{Statement, Nothing, Put, Declare, Watch, keyword_of, says, is_skipped, statement_of}
use Rattle.hs_settings.specs.LookBack.{Past}
use Rattle.hs_settings.specs.Faults.{is_rule_out, is_window_out, is_auto_out, is_out_of_range, is_out_of_order, names_unknown, statement_reasons, keyword_reasons, before_words, reasons_of, fault_at}
use Rattle.hs_settings.specs.Forward.{fresh, after, line_step, AreWithin}
use Rattle.hs_settings.proofs.Exact.{line_agrees}

pub record Keeps (p : Past) : Type 0 where
  pub givens : AreWithin p.givens
  pub rules : AreRules p.rules
  pub autos : AreAutoRules p.rules p.autos

-- what may stand after lines that say this
record Allowed (past : Past) (s : Statement) : Type 0 where
  range : is_out_of_range s ≡ false
  order : is_out_of_order past s ≡ false
  known : names_unknown past s ≡ false

none_at : {X : Type 0} (p : X → Bool) (xs : List X) (k : ℕ) (d : X) → list_any p xs ≡ false → k < length xs → p (get_or xs k d) ≡ false
none_at p [] k d e below = absurd (omega (arith, below))
none_at p (x ∷ xs) zero d e below = (or_parts (p x) (list_any p xs) e).0
none_at p (x ∷ xs) (suc k) d e below = none_at p xs k d (or_parts (p x) (list_any p xs) e).1 (omega (arith, below))

within : (low high n : ℕ) → is_out low high n ≡ false → (low ≤ n) × (n ≤ high)
within low high n e =
    let parts = or_parts (nat_lt n low) (nat_lt high n) e in
    (ltb-false n low parts.0, ltb-false high n parts.1)

is_rule : (rule : TriggerRule) → is_rule_out rule ≡ false → IsRule rule
is_rule rule e =
    let a = or_parts ((is_out 1 MAX_TRIGGER rule.id.0 || is_out 1 MAX_WEIGHT rule.weight) || is_out 1 MAX_BURST rule.burst) (nat_lt MAX_RATE rule.rate) e in
    let b = or_parts (is_out 1 MAX_TRIGGER rule.id.0 || is_out 1 MAX_WEIGHT rule.weight) (is_out 1 MAX_BURST rule.burst) a.0 in
    let c = or_parts (is_out 1 MAX_TRIGGER rule.id.0) (is_out 1 MAX_WEIGHT rule.weight) b.0 in
    record { id = within 1 MAX_TRIGGER rule.id.0 c.0; weight = within 1 MAX_WEIGHT rule.weight c.1; burst = within 1 MAX_BURST rule.burst b.1; rate = ltb-false MAX_RATE rule.rate a.1 }

window_within : (window share : ℕ) → is_window_out window share ≡ false → ((MIN_WINDOW ≤ window) × (window ≤ MAX_WINDOW)) × ((1 ≤ share) × (share < WHOLE_SHARE))
window_within window share e =
    let a = or_parts (is_out MIN_WINDOW MAX_WINDOW window || nat_lt share 1) (nat_le WHOLE_SHARE share) e in
    let b = or_parts (is_out MIN_WINDOW MAX_WINDOW window) (nat_lt share 1) a.0 in
    (within MIN_WINDOW MAX_WINDOW window b.0, (ltb-false share 1 b.1, nat_le_past WHOLE_SHARE share a.1))

is_auto_rule : (rule : AutoRule) → is_auto_out rule ≡ false → IsAutoRule rule
is_auto_rule (Exception t) e = tt
is_auto_rule (Percentile t w s) e = window_within w s e
is_auto_rule (Category t w s) e = window_within w s e
is_auto_rule (Queue t w s l) e =
    let a = or_parts (is_window_out w s) (is_out 1 MAX_LATERALS l) e in
    let b = window_within w s a.0 in
    (b.0, b.1, within 1 MAX_LATERALS l a.1)

still_declared : (rules : List TriggerRule) (rule : TriggerRule) (id : TriggerId) → is_declared rules id ≡ true → is_declared (rules ++ rule ∷ []) id ≡ true
still_declared rules rule id is =
    list_any-append (λ (r : TriggerRule). nat_eq r.id.0 id.0) rules (rule ∷ [])
    ∙ ap (λ (b : Bool). b || list_any (λ (r : TriggerRule). nat_eq r.id.0 id.0) (rule ∷ [])) is

rule_kept : (p : Past) (rule : TriggerRule) → Keeps p → Allowed p (Declare rule) → Keeps (after p (Declare rule))
rule_kept p rule keeps a =
    record {
      givens = keeps.givens;
      rules = record {
        rising = all_pairs_push (λ (x y : TriggerRule). x.id.0 < y.id.0) p.rules rule keeps.rules.rising
            (λ k x below. nat_le_past rule.id.0 (get_or p.rules k x).id.0 (none_at (λ (earlier : TriggerRule). nat_le rule.id.0 earlier.id.0) p.rules k x a.order below));
        each = All-push IsRule p.rules rule keeps.rules.each (is_rule rule a.range);
      };
      autos = record {
        few = keeps.autos.few;
        each = keeps.autos.each;
        declared = λ k d below. still_declared p.rules rule (fired_by (get_or p.autos k d)) (keeps.autos.declared k d below);
      };
    }

auto_kept : (p : Past) (number : ℕ) (rule : AutoRule) → Keeps p → Allowed p (Watch number rule) → Keeps (after p (Watch number rule))
auto_kept p number rule keeps a =
    let range = or_parts (nat_le MAX_AUTOS number) (is_auto_out rule) a.range in
    let turn : number ≡ length p.autos = nat_eq_from number (length p.autos) a.order in
    let few : number < MAX_AUTOS = nat_le_past MAX_AUTOS number range.0 in
    let size : length (p.autos ++ rule ∷ []) ≡ length p.autos + 1 = length-append p.autos (rule ∷ []) in
    record {
      givens = keeps.givens;
      rules = keeps.rules;
      autos = record {
        few = omega (arith, size, turn, few);
        each = All-push IsAutoRule p.autos rule keeps.autos.each (is_auto_rule rule range.1);
        declared = All-push (λ (auto : AutoRule). is_declared p.rules (fired_by auto) ≡ true) p.autos rule keeps.autos.declared (not-false (is_declared p.rules (fired_by rule)) a.known);
      };
    }

statement_kept : (p : Past) (s : Statement) → Keeps p → Allowed p s → Keeps (after p s)
statement_kept p Nothing keeps a = keeps
statement_kept p (Put given) keeps a =
    record {
      givens = all_push (λ (g : GivenNumber). (least_of g.setting ≤ g.number) × (g.number ≤ most_of g.setting)) p.givens given keeps.givens (within (least_of given.setting) (most_of given.setting) given.number a.range);
      rules = keeps.rules;
      autos = keeps.autos;
    }
statement_kept p (Declare rule) keeps a = rule_kept p rule keeps a
statement_kept p (Watch number rule) keeps a = auto_kept p number rule keeps a

pub keeps_fresh : Keeps fresh
keeps_fresh =
    record {
      givens = tt;
      rules = record { rising = λ i j d ahead below. absurd (omega (arith, below)); each = All-nil IsRule };
      autos = record { few = omega arith; each = All-nil IsAutoRule; declared = All-nil (λ (auto : AutoRule). is_declared [] (fired_by auto) ≡ true) };
    }

-- ---- a line that is taken

allowed : (p : Past) (line : List ℕ) (s : Statement) (skipped : Bool) → is_skipped line ≡ skipped → first_that_holds (reasons_of p skipped line) ≡ None → statement_of line ≡ Some s → Allowed p s
allowed p line s true is none says_so =
    let said : statement_of line ≡ Some Nothing = ap (λ (b : Bool). cond b (Some Nothing) (words_say keyword_of says (words_of line))) is in
    let same : Nothing ≡ s = let both : Some Nothing ≡ Some s = sym said ∙ says_so in cc in
    subst (Allowed p) same (record { range = refl; order = refl; known = refl })
allowed p line s false is none says_so =
    let holds : NoneHolds (line_reasons before_words keyword_of (keyword_reasons p) line) = none_hold (line_reasons before_words keyword_of (keyword_reasons p) line) none in
    let known = line_opened before_words keyword_of (keyword_reasons p) line holds in
    let spoken : statement_of line ≡ words_say keyword_of says (words_of line) = ap (λ (b : Bool). cond b (Some Nothing) (words_say keyword_of says (words_of line))) is in
    let said : says known.word known.others ≡ Some s = sym (opened_says keyword_of (keyword_reasons p) says line known) ∙ sym spoken ∙ says_so in
    let rest : NoneHolds (statement_reasons p (Some s)) = subst (λ (o : Option Statement). NoneHolds (statement_reasons p o)) said known.none.1.1.1.1 in
    record { range = rest.0; order = rest.1.0; known = rest.1.1.0 }

pub record IsTaken (p : Past) (line : List ℕ) (next : Past) : Type 0 where
  pub none : fault_at p line ≡ None
  pub statement : Statement
  pub says : statement_of line ≡ Some statement
  pub is : next ≡ after p statement
  pub keeps : Keeps next

pub line_taken : (p next : Past) (line : List ℕ) → Keeps p → line_step p line ≡ Ok next → IsTaken p line next
unfolding fault_at
line_taken p next line keeps step =
    let taken = agrees_ok (after p) (line_step p line) (fault_at p line) (statement_of line) next (line_agrees p line) step in
    let a : Allowed p taken.statement = allowed p line taken.statement (is_skipped line) refl taken.none taken.says in
    record {
      none = taken.none;
      statement = taken.statement;
      says = taken.says;
      is = taken.is;
      keeps = subst Keeps (sym taken.is) (statement_kept p taken.statement keeps a);
    }
