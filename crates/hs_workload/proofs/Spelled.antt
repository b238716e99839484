-- What a line says is spelled by the line, and a spelled line says what it spells.
use Rattle.std.proofs.Common.{◌≡◌, ℕ, ◌^◌, ◌<◌, ◌≤◌, Bool, true, false, cond, nat_eq, nat_le, List, [], ◌∷◌, length, map, drop, Option, Some, None, refl, sym, ap, subst, ◌∙◌, arith}
use Rattle.hs_workload.proofs.Prelude.{IfSome, option_map, option_and_then, decimal, All, AllByRecursion, and_from, length_map, MAX_LATERALS, TraceId, AutoRule, Exception, Percentile, Category, Queue, spelled-text, spelled-every, number_of, payload_of, numbers_of, trace_word, payload_of-payload_text, Operation, Begin, Point, Crumb, End, Fire, Sample, Keyword, Kind, Statement, Put, Declare, Watch, Start, Operate, Finish, keyword_text, all_keywords, keywords_told_apart, kind_text, kind_of, kinds_told_apart, kind_count, auto_numbers, auto_rule, rule_numbers, number_count, numbers_at, numbers_say, trace_of, traces_of, fire, watch_said, says, statement_words, HasDigits}
use Rattle.std.specs.Prelude.{⊤}
use Rattle.std.specs.List.{list_all}
use Rattle.hs_text.specs.Text.{hex_of, payload_text}
use Rattle.hs_base.specs.Ids.{trace_digits}
use Rattle.hs_text.specs.TextLaws.{is_word, number_of-decimal, decimal-number_of, hex_of-hex_text, hex_text-hex_of, payload_text-payload_of, is_word-decimal, is_word-hex_text, is_word-payload_text}
use Rattle.hs_workload.specs.declared.word.Keyword.TheVariants as keywords
use Rattle.hs_workload.specs.declared.word.Kind.TheVariants as kinds
use Rattle.hs_workload.specs.Statements.{all_kinds, auto_kind}

abbrev pub IsSmall : ℕ → Type 0
IsSmall n = n < 2 ^ 64

-- what has words
abbrev pub OperationForm : ℕ → Operation → Type 0
OperationForm version (Begin trace) = HasDigits version trace
OperationForm version (Point moment payload) = IsSmall moment × All (λ b. b < 256) payload
OperationForm version (Crumb node) = AllByRecursion IsSmall (node.0 ∷ [])
OperationForm version End = ⊤
OperationForm version (Fire trigger) =
    IsSmall trigger.moment × IsSmall trigger.trigger.0 × HasDigits version trigger.lead × (length trigger.laterals ≤ MAX_LATERALS) × AllByRecursion (HasDigits version) trigger.laterals
OperationForm version (Sample moment auto value) = AllByRecursion IsSmall (moment ∷ auto ∷ value ∷ [])

abbrev pub Form : ℕ → Statement → Type 0
Form version (Put setting n) = AllByRecursion IsSmall (n ∷ [])
Form version (Declare rule) = AllByRecursion IsSmall (rule_numbers rule)
Form version (Watch number rule) = IsSmall number × AllByRecursion IsSmall (auto_numbers rule)
Form version (Start node number) = AllByRecursion IsSmall (node ∷ number ∷ [])
Form version (Operate operation) = OperationForm version operation
Form version Finish = ⊤

-- the first word of a line that says this
abbrev pub operation_keyword : Operation → Keyword
operation_keyword (Begin trace) = keywords.Begin
operation_keyword (Point moment payload) = keywords.Point
operation_keyword (Crumb node) = keywords.Crumb
operation_keyword End = keywords.End
operation_keyword (Fire trigger) = keywords.Trigger
operation_keyword (Sample moment auto value) = keywords.Sample

abbrev pub keyword_said : Statement → Keyword
keyword_said (Put setting n) = keywords.Setting setting
keyword_said (Declare rule) = keywords.TriggerId
keyword_said (Watch number rule) = keywords.Auto
keyword_said (Start node number) = keywords.Client
keyword_said (Operate operation) = operation_keyword operation
keyword_said Finish = keywords.Done

-- ---- numbers and traces

pub numbers_of-decimals : (ns : List ℕ) → AllByRecursion IsSmall ns → numbers_of (map decimal ns) ≡ Some ns
numbers_of-decimals [] small = refl
numbers_of-decimals (n ∷ ns) small =
    let first = number_of-decimal n small.0 in
    let more = numbers_of-decimals ns small.1 in
    rw (first, more) refl

record AreDecimals (words : List (List ℕ)) (ns : List ℕ) : Type 0 where
  are : words ≡ map decimal ns
  small : AllByRecursion IsSmall ns

none_left : (ns : List ℕ) → [] ≡ ns → AreDecimals [] ns
none_left [] is = record { are = refl; small = tt }
none_left (n ∷ ns) is = cc

more_left : (word : List ℕ) (words : List (List ℕ)) (n : ℕ) (ms ns : List ℕ) → number_of word ≡ Some n → AreDecimals words ms → n ∷ ms ≡ ns → AreDecimals (word ∷ words) ns
more_left word words n ms [] first rest is = cc
more_left word words n ms (m ∷ ns) first rest is =
    let head : n ≡ m = cc in
    let tail : ms ≡ ns = cc in
    let parts = decimal-number_of word n first in
    rw (← head, ← tail) (record { are = ap (λ w. w ∷ words) parts.0 ∙ ap (λ ws. decimal n ∷ ws) rest.are; small = (parts.1, rest.small) })

decimals_cons : (word : List ℕ) (words : List (List ℕ)) (ns : List ℕ) (o : Option ℕ) (p : Option (List ℕ)) → number_of word ≡ o → ((ms : List ℕ) → p ≡ Some ms → AreDecimals words ms)
    → option_and_then (λ n. option_map (λ ms. n ∷ ms) p) o ≡ Some ns → AreDecimals (word ∷ words) ns
decimals_cons word words ns None p first rest is = cc
decimals_cons word words ns (Some n) None first rest is = cc
decimals_cons word words ns (Some n) (Some ms) first rest is = more_left word words n ms ns first (rest ms refl) cc

decimals-numbers_of : (words : List (List ℕ)) (ns : List ℕ) → numbers_of words ≡ Some ns → AreDecimals words ns
decimals-numbers_of [] ns is = none_left ns cc
decimals-numbers_of (word ∷ words) ns is = decimals_cons word words ns (number_of word) (numbers_of words) refl (decimals-numbers_of words) is

trace_of-word : (version : ℕ) (trace : TraceId) → HasDigits version trace → trace_of version (trace_word version trace) ≡ Some trace
trace_of-word version trace digits = ap (option_map (λ (id : ℕ). record { 0 = id })) (hex_of-hex_text (trace_digits version) trace.0 digits)

pub traces_of-words : (version : ℕ) (traces : List TraceId) → AllByRecursion (HasDigits version) traces → traces_of version (map (trace_word version) traces) ≡ Some traces
traces_of-words version [] digits = refl
traces_of-words version (trace ∷ traces) digits =
    ap (option_and_then (λ (t : TraceId). option_map (λ ts. t ∷ ts) (traces_of version (map (trace_word version) traces)))) (trace_of-word version trace digits.0)
    ∙ ap (option_map (λ (ts : List TraceId). trace ∷ ts)) (traces_of-words version traces digits.1)

record IsTrace (version : ℕ) (word : List ℕ) (trace : TraceId) : Type 0 where
  is : word ≡ trace_word version trace
  digits : HasDigits version trace

trace_at : (version : ℕ) (word : List ℕ) (trace : TraceId) (o : Option ℕ) → hex_of (trace_digits version) word ≡ o → option_map (λ id. record { 0 = id }) o ≡ Some trace → IsTrace version word trace
trace_at version word trace None e is = cc
trace_at version word trace (Some id) e is =
    let same : record { 0 = id } ≡ trace = cc in
    let d = hex_text-hex_of (trace_digits version) word id e in
    subst (λ (t : TraceId). IsTrace version word t) same (record { is = d.0; digits = d.1 })

word-trace_of : (version : ℕ) (word : List ℕ) (trace : TraceId) → trace_of version word ≡ Some trace → IsTrace version word trace
word-trace_of version word trace is = trace_at version word trace (hex_of (trace_digits version) word) refl is

record AreTraces (version : ℕ) (words : List (List ℕ)) (traces : List TraceId) : Type 0 where
  are : words ≡ map (trace_word version) traces
  digits : AllByRecursion (HasDigits version) traces

no_traces : (version : ℕ) (ts : List TraceId) → [] ≡ ts → AreTraces version [] ts
no_traces version [] is = record { are = refl; digits = tt }
no_traces version (t ∷ ts) is = cc

more_traces : (version : ℕ) (word : List ℕ) (words : List (List ℕ)) (t : TraceId) (us ts : List TraceId) → trace_of version word ≡ Some t → AreTraces version words us → t ∷ us ≡ ts
    → AreTraces version (word ∷ words) ts
more_traces version word words t us [] first rest is = cc
more_traces version word words t us (u ∷ ts) first rest is =
    let parts = word-trace_of version word t first in
    subst (λ (all : List TraceId). AreTraces version (word ∷ words) all) is
    (record { are = ap (λ w. w ∷ words) parts.is ∙ ap (λ ws. trace_word version t ∷ ws) rest.are; digits = (parts.digits, rest.digits) })

traces_cons : (version : ℕ) (word : List ℕ) (words : List (List ℕ)) (ts : List TraceId) (o : Option TraceId) (p : Option (List TraceId)) → trace_of version word ≡ o
    → ((us : List TraceId) → p ≡ Some us → AreTraces version words us) → option_and_then (λ t. option_map (λ us. t ∷ us) p) o ≡ Some ts → AreTraces version (word ∷ words) ts
traces_cons version word words ts None p first rest is = cc
traces_cons version word words ts (Some t) None first rest is = cc
traces_cons version word words ts (Some t) (Some us) first rest is = more_traces version word words t us ts first (rest us refl) cc

words-traces_of : (version : ℕ) (words : List (List ℕ)) (ts : List TraceId) → traces_of version words ≡ Some ts → AreTraces version words ts
words-traces_of version [] ts is = no_traces version ts cc
words-traces_of version (word ∷ words) ts is = traces_cons version word words ts (trace_of version word) (traces_of version words) refl (words-traces_of version words) is

-- ---- what words say is spelled by them

pub record IsSpelled (version : ℕ) (keyword : Keyword) (words : List (List ℕ)) (s : Statement) : Type 0 where
  pub form : Form version s
  pub said : keyword_said s ≡ keyword
  pub spelled : statement_words version s ≡ keyword_text keyword ∷ words

-- the words behind which only numbers stand
abbrev IsPlain : Keyword → Type 0
IsPlain keywords.Begin = ⊥
IsPlain keywords.Point = ⊥
IsPlain keywords.Trigger = ⊥
IsPlain keywords.Auto = ⊥
IsPlain _ = ⊤

numbers_spelled : (version : ℕ) (k : Keyword) (ns : List ℕ) → IsPlain k → AllByRecursion IsSmall ns → length ns ≡ number_count k
    → IsSpelled version k (map decimal ns) (numbers_say k (numbers_at ns))
numbers_spelled version (keywords.Setting setting) [] plain small count = absurd (omega (arith, count))
numbers_spelled version (keywords.Setting setting) (a ∷ []) plain small count = record { form = small; said = refl; spelled = refl }
numbers_spelled version (keywords.Setting setting) (a ∷ b ∷ ns) plain small count = absurd (omega (arith, count))
numbers_spelled version keywords.TriggerId [] plain small count = absurd (omega (arith, count))
numbers_spelled version keywords.TriggerId (a ∷ []) plain small count = absurd (omega (arith, count))
numbers_spelled version keywords.TriggerId (a ∷ b ∷ []) plain small count = absurd (omega (arith, count))
numbers_spelled version keywords.TriggerId (a ∷ b ∷ c ∷ []) plain small count = absurd (omega (arith, count))
numbers_spelled version keywords.TriggerId (a ∷ b ∷ c ∷ d ∷ []) plain small count = record { form = small; said = refl; spelled = refl }
numbers_spelled version keywords.TriggerId (a ∷ b ∷ c ∷ d ∷ e ∷ ns) plain small count = absurd (omega (arith, count))
numbers_spelled version keywords.Client [] plain small count = absurd (omega (arith, count))
numbers_spelled version keywords.Client (a ∷ []) plain small count = absurd (omega (arith, count))
numbers_spelled version keywords.Client (a ∷ b ∷ []) plain small count = record { form = small; said = refl; spelled = refl }
numbers_spelled version keywords.Client (a ∷ b ∷ c ∷ ns) plain small count = absurd (omega (arith, count))
numbers_spelled version keywords.Crumb [] plain small count = absurd (omega (arith, count))
numbers_spelled version keywords.Crumb (a ∷ []) plain small count = record { form = small; said = refl; spelled = refl }
numbers_spelled version keywords.Crumb (a ∷ b ∷ ns) plain small count = absurd (omega (arith, count))
numbers_spelled version keywords.Sample [] plain small count = absurd (omega (arith, count))
numbers_spelled version keywords.Sample (a ∷ []) plain small count = absurd (omega (arith, count))
numbers_spelled version keywords.Sample (a ∷ b ∷ []) plain small count = absurd (omega (arith, count))
numbers_spelled version keywords.Sample (a ∷ b ∷ c ∷ []) plain small count = record { form = small; said = refl; spelled = refl }
numbers_spelled version keywords.Sample (a ∷ b ∷ c ∷ d ∷ ns) plain small count = absurd (omega (arith, count))
numbers_spelled version keywords.End [] plain small count = record { form = tt; said = refl; spelled = refl }
numbers_spelled version keywords.End (a ∷ ns) plain small count = absurd (omega (arith, count))
numbers_spelled version keywords.Done [] plain small count = record { form = tt; said = refl; spelled = refl }
numbers_spelled version keywords.Done (a ∷ ns) plain small count = absurd (omega (arith, count))
numbers_spelled version keywords.Begin ns plain small count = absurd plain
numbers_spelled version keywords.Point ns plain small count = absurd plain
numbers_spelled version keywords.Trigger ns plain small count = absurd plain
numbers_spelled version keywords.Auto ns plain small count = absurd plain

count_of : (words : List (List ℕ)) (ns : List ℕ) (count : ℕ) → words ≡ map decimal ns → nat_eq (length words) count ≡ true → length ns ≡ count
count_of words ns count are is =
    let same = ap length are in
    let as_many = length_map decimal ns in
    grind arith

plain_spelled : (version : ℕ) (k : Keyword) (words : List (List ℕ)) → IsPlain k → (b : Bool) (o : Option (List ℕ)) → nat_eq (length words) (number_count k) ≡ b → numbers_of words ≡ o
    → IfSome (cond b (option_map (λ ns. numbers_say k (numbers_at ns)) o) None) (IsSpelled version k words)
plain_spelled version k words plain false o counted e = tt
plain_spelled version k words plain true None counted e = tt
plain_spelled version k words plain true (Some ns) counted e =
    let d = decimals-numbers_of words ns e in
    subst (λ (ws : List (List ℕ)). IsSpelled version k ws (numbers_say k (numbers_at ns))) (sym d.are) (numbers_spelled version k ns plain d.small (count_of words ns (number_count k) d.are counted))

begin_spelled : (version : ℕ) (w : List ℕ) (o : Option TraceId) → trace_of version w ≡ o
    → IfSome (option_map (λ t. Operate (Begin t)) o) (IsSpelled version keywords.Begin (w ∷ []))
begin_spelled version w None e = tt
begin_spelled version w (Some t) e =
    let d = word-trace_of version w t e in
    record { form = d.digits; said = refl; spelled = ap (λ (x : List ℕ). keyword_text keywords.Begin ∷ x ∷ []) (sym d.is) }

point_spelled : (version : ℕ) (v w : List ℕ) (o : Option ℕ) (p : Option (List ℕ)) → number_of v ≡ o → payload_of w ≡ p
    → IfSome (option_and_then (λ m. option_map (λ bytes. Operate (Point m bytes)) p) o) (IsSpelled version keywords.Point (v ∷ w ∷ []))
point_spelled version v w None p e f = tt
point_spelled version v w (Some m) None e f = tt
point_spelled version v w (Some m) (Some bytes) e f =
    let d = decimal-number_of v m e in
    let h = payload_text-payload_of w bytes f in
    record {
      form = (d.1, h.1);
      said = refl;
      spelled = ap (λ (x : List ℕ). keyword_text keywords.Point ∷ x ∷ payload_text bytes ∷ []) (sym d.0) ∙ ap (λ (x : List ℕ). keyword_text keywords.Point ∷ v ∷ x ∷ []) (sym h.0);
    }

few_laterals : (version : ℕ) (words : List (List ℕ)) (ts : List TraceId) → words ≡ map (trace_word version) ts → nat_le (length words) MAX_LATERALS ≡ true → length ts ≤ MAX_LATERALS
few_laterals version words ts are is =
    let same = ap length are in
    let as_many = length_map (trace_word version) ts in
    grind arith

trigger_spelled : (version : ℕ) (u v w : List ℕ) (ws : List (List ℕ)) (b : Bool) (o p : Option ℕ) (q : Option TraceId) (r : Option (List TraceId)) → nat_le (length ws) MAX_LATERALS ≡ b
    → number_of u ≡ o → number_of v ≡ p → trace_of version w ≡ q → traces_of version ws ≡ r
    → IfSome (cond b (option_and_then (λ m. option_and_then (λ i. option_and_then (λ l. option_map (fire m i l) r) q) p) o) None) (IsSpelled version keywords.Trigger (u ∷ v ∷ w ∷ ws))
trigger_spelled version u v w ws false o p q r z e f g h = tt
trigger_spelled version u v w ws true None p q r z e f g h = tt
trigger_spelled version u v w ws true (Some m) None q r z e f g h = tt
trigger_spelled version u v w ws true (Some m) (Some i) None r z e f g h = tt
trigger_spelled version u v w ws true (Some m) (Some i) (Some l) None z e f g h = tt
trigger_spelled version u v w ws true (Some m) (Some i) (Some l) (Some ls) z e f g h =
    let a = decimal-number_of u m e in
    let b = decimal-number_of v i f in
    let c = word-trace_of version w l g in
    let d = words-traces_of version ws ls h in
    let text : List ℕ = keyword_text keywords.Trigger in
    record {
      form = (a.1, b.1, c.digits, few_laterals version ws ls d.are z, d.digits);
      said = refl;
      spelled =
          ap (λ (x : List ℕ). text ∷ x ∷ decimal i ∷ trace_word version l ∷ map (trace_word version) ls) (sym a.0)
          ∙ ap (λ (x : List ℕ). text ∷ u ∷ x ∷ trace_word version l ∷ map (trace_word version) ls) (sym b.0)
          ∙ ap (λ (x : List ℕ). text ∷ u ∷ v ∷ x ∷ map (trace_word version) ls) (sym c.is)
          ∙ ap (λ (xs : List (List ℕ)). text ∷ u ∷ v ∷ w ∷ xs) (sym d.are);
    }

-- the rule of a kind has this kind and these numbers
record IsRuleOf (kind : Kind) (ns : List ℕ) (rule : AutoRule) : Type 0 where
  kind_is : auto_kind rule ≡ kind
  numbers : auto_numbers rule ≡ ns

rule_of_kind : (kind : Kind) (ns : List ℕ) → length ns ≡ kind_count kind → IsRuleOf kind ns (auto_rule kind (numbers_at ns))
rule_of_kind kinds.Exception [] count = absurd (omega (arith, count))
rule_of_kind kinds.Exception (a ∷ []) count = record { kind_is = refl; numbers = refl }
rule_of_kind kinds.Exception (a ∷ b ∷ ns) count = absurd (omega (arith, count))
rule_of_kind kinds.Percentile [] count = absurd (omega (arith, count))
rule_of_kind kinds.Percentile (a ∷ []) count = absurd (omega (arith, count))
rule_of_kind kinds.Percentile (a ∷ b ∷ []) count = absurd (omega (arith, count))
rule_of_kind kinds.Percentile (a ∷ b ∷ c ∷ []) count = record { kind_is = refl; numbers = refl }
rule_of_kind kinds.Percentile (a ∷ b ∷ c ∷ d ∷ ns) count = absurd (omega (arith, count))
rule_of_kind kinds.Category [] count = absurd (omega (arith, count))
rule_of_kind kinds.Category (a ∷ []) count = absurd (omega (arith, count))
rule_of_kind kinds.Category (a ∷ b ∷ []) count = absurd (omega (arith, count))
rule_of_kind kinds.Category (a ∷ b ∷ c ∷ []) count = record { kind_is = refl; numbers = refl }
rule_of_kind kinds.Category (a ∷ b ∷ c ∷ d ∷ ns) count = absurd (omega (arith, count))
rule_of_kind kinds.Queue [] count = absurd (omega (arith, count))
rule_of_kind kinds.Queue (a ∷ []) count = absurd (omega (arith, count))
rule_of_kind kinds.Queue (a ∷ b ∷ []) count = absurd (omega (arith, count))
rule_of_kind kinds.Queue (a ∷ b ∷ c ∷ []) count = absurd (omega (arith, count))
rule_of_kind kinds.Queue (a ∷ b ∷ c ∷ d ∷ []) count = record { kind_is = refl; numbers = refl }
rule_of_kind kinds.Queue (a ∷ b ∷ c ∷ d ∷ e ∷ ns) count = absurd (omega (arith, count))

watch_spelled : (version : ℕ) (u v : List ℕ) (ws : List (List ℕ)) (kind : Kind) (b : Bool) (o : Option ℕ) (p : Option (List ℕ)) → v ≡ kind_text kind → nat_eq (length ws) (kind_count kind) ≡ b
    → number_of u ≡ o → numbers_of ws ≡ p
    → IfSome (cond b (option_and_then (λ n. option_map (λ ns. Watch n (auto_rule kind (numbers_at ns))) p) o) None) (IsSpelled version keywords.Auto (u ∷ v ∷ ws))
watch_spelled version u v ws kind false o p k z e f = tt
watch_spelled version u v ws kind true None p k z e f = tt
watch_spelled version u v ws kind true (Some n) None k z e f = tt
watch_spelled version u v ws kind true (Some n) (Some ns) k z e f =
    let a = decimal-number_of u n e in
    let b = decimals-numbers_of ws ns f in
    let c = rule_of_kind kind ns (count_of ws ns (kind_count kind) b.are z) in
    let text : List ℕ = keyword_text keywords.Auto in
    let rule : AutoRule = auto_rule kind (numbers_at ns) in
    record {
      form = (a.1, subst (λ (ms : List ℕ). AllByRecursion IsSmall ms) (sym c.numbers) b.small);
      said = refl;
      spelled =
          ap (λ (x : List ℕ). text ∷ x ∷ kind_text (auto_kind rule) ∷ map decimal (auto_numbers rule)) (sym a.0)
          ∙ ap (λ (x : Kind). text ∷ u ∷ kind_text x ∷ map decimal (auto_numbers rule)) c.kind_is
          ∙ ap (λ (x : List ℕ). text ∷ u ∷ x ∷ map decimal (auto_numbers rule)) (sym k)
          ∙ ap (λ (ms : List ℕ). text ∷ u ∷ v ∷ map decimal ms) c.numbers
          ∙ ap (λ (xs : List (List ℕ)). text ∷ u ∷ v ∷ xs) (sym b.are);
    }

auto_spelled : (version : ℕ) (u v : List ℕ) (ws : List (List ℕ)) (o : Option Kind) → kind_of v ≡ o
    → IfSome (option_and_then (λ kind. watch_said kind u ws) o) (IsSpelled version keywords.Auto (u ∷ v ∷ ws))
auto_spelled version u v ws None e = tt
auto_spelled version u v ws (Some kind) e =
    watch_spelled version u v ws kind (nat_eq (length ws) (kind_count kind)) (number_of u) (numbers_of ws) (spelled-text kind_text all_kinds v kind e) refl refl refl

pub says_spelled : (version : ℕ) (keyword : Keyword) (words : List (List ℕ)) → IfSome (says version keyword words) (IsSpelled version keyword words)
says_spelled version keywords.Begin [] = tt
says_spelled version keywords.Begin (v ∷ []) = begin_spelled version v (trace_of version v) refl
says_spelled version keywords.Begin (v ∷ w ∷ ws) = tt
says_spelled version keywords.Point [] = tt
says_spelled version keywords.Point (v ∷ []) = tt
says_spelled version keywords.Point (v ∷ w ∷ []) = point_spelled version v w (number_of v) (payload_of w) refl refl
says_spelled version keywords.Point (v ∷ w ∷ x ∷ ws) = tt
says_spelled version keywords.Trigger [] = tt
says_spelled version keywords.Trigger (u ∷ []) = tt
says_spelled version keywords.Trigger (u ∷ v ∷ []) = tt
says_spelled version keywords.Trigger (u ∷ v ∷ w ∷ ws) =
    trigger_spelled version u v w ws (nat_le (length ws) MAX_LATERALS) (number_of u) (number_of v) (trace_of version w) (traces_of version ws) refl refl refl refl refl
says_spelled version keywords.Auto [] = tt
says_spelled version keywords.Auto (u ∷ []) = tt
says_spelled version keywords.Auto (u ∷ v ∷ ws) = auto_spelled version u v ws (kind_of v) refl
says_spelled version (keywords.Setting setting) words = plain_spelled version (keywords.Setting setting) words tt (nat_eq (length words) 1) (numbers_of words) refl refl
says_spelled version keywords.TriggerId words = plain_spelled version keywords.TriggerId words tt (nat_eq (length words) 4) (numbers_of words) refl refl
says_spelled version keywords.Client words = plain_spelled version keywords.Client words tt (nat_eq (length words) 2) (numbers_of words) refl refl
says_spelled version keywords.Crumb words = plain_spelled version keywords.Crumb words tt (nat_eq (length words) 1) (numbers_of words) refl refl
says_spelled version keywords.Sample words = plain_spelled version keywords.Sample words tt (nat_eq (length words) 3) (numbers_of words) refl refl
says_spelled version keywords.End words = plain_spelled version keywords.End words tt (nat_eq (length words) 0) (numbers_of words) refl refl
says_spelled version keywords.Done words = plain_spelled version keywords.Done words tt (nat_eq (length words) 0) (numbers_of words) refl refl

-- ---- spelled words say what they spell

digits_positive : (version : ℕ) → 0 < trace_digits version
digits_positive version = digits_of (nat_eq version 1)
  where
    digits_of : (b : Bool) → 0 < cond b 16 32
    digits_of true = omega arith
    digits_of false = omega arith

-- the words behind the first
abbrev pub words_said : ℕ → Statement → List (List ℕ)
words_said version s = drop 1 (statement_words version s)

pub record IsRead (version : ℕ) (s : Statement) : Type 0 where
  pub words : statement_words version s ≡ keyword_text (keyword_said s) ∷ words_said version s
  pub print : list_all is_word (keyword_text (keyword_said s) ∷ words_said version s) ≡ true
  pub said : says version (keyword_said s) (words_said version s) ≡ Some s

keyword_prints : (keyword : Keyword) → is_word (keyword_text keyword) ≡ true
keyword_prints = spelled-every keyword_text all_keywords (λ k. is_word (keyword_text k)) keywords_told_apart refl

kind_prints : (kind : Kind) → is_word (kind_text kind) ≡ true
kind_prints = spelled-every kind_text all_kinds (λ k. is_word (kind_text k)) kinds_told_apart refl

decimals_print : (ns : List ℕ) → AllByRecursion IsSmall ns → list_all is_word (map decimal ns) ≡ true
decimals_print [] small = refl
decimals_print (n ∷ ns) small = and_from _ _ (is_word-decimal n small.0) (decimals_print ns small.1)

trace_prints : (version : ℕ) (t : TraceId) → is_word (trace_word version t) ≡ true
trace_prints version t = is_word-hex_text (trace_digits version) t.0 (digits_positive version)

traces_print : (version : ℕ) (ts : List TraceId) → list_all is_word (map (trace_word version) ts) ≡ true
traces_print version [] = refl
traces_print version (t ∷ ts) = and_from _ _ (trace_prints version t) (traces_print version ts)

-- a line of numbers alone
plain_read : (version : ℕ) (k : Keyword) (ns : List ℕ) → AllByRecursion IsSmall ns → list_all is_word (keyword_text k ∷ map decimal ns) ≡ true
plain_read version k ns small = and_from _ _ (keyword_prints k) (decimals_print ns small)

numbers_said : (k : Keyword) (ns : List ℕ) → AllByRecursion IsSmall ns → option_map (λ ms. numbers_say k (numbers_at ms)) (numbers_of (map decimal ns)) ≡ Some (numbers_say k (numbers_at ns))
numbers_said k ns small = ap (option_map (λ (ms : List ℕ). numbers_say k (numbers_at ms))) (numbers_of-decimals ns small)

watch_read : (number : ℕ) (rule : AutoRule) → IsSmall number → AllByRecursion IsSmall (auto_numbers rule)
    → option_and_then (λ n. option_map (λ ns. Watch n (auto_rule (auto_kind rule) (numbers_at ns))) (numbers_of (map decimal (auto_numbers rule)))) (number_of (decimal number))
    ≡ Some (Watch number (auto_rule (auto_kind rule) (numbers_at (auto_numbers rule))))
watch_read number rule small smalls =
    ap (option_and_then (λ (n : ℕ). option_map (λ ns. Watch n (auto_rule (auto_kind rule) (numbers_at ns))) (numbers_of (map decimal (auto_numbers rule))))) (number_of-decimal number small)
    ∙ ap (option_map (λ (ns : List ℕ). Watch number (auto_rule (auto_kind rule) (numbers_at ns)))) (numbers_of-decimals (auto_numbers rule) smalls)

auto_said : (number : ℕ) (rule : AutoRule) → IsSmall number → AllByRecursion IsSmall (auto_numbers rule)
    → option_and_then (λ kind. watch_said kind (decimal number) (map decimal (auto_numbers rule))) (kind_of (kind_text (auto_kind rule))) ≡ Some (Watch number rule)
auto_said number (Exception t) small smalls =
    ap (option_and_then (λ kind. watch_said kind (decimal number) (map decimal (auto_numbers (Exception t))))) (kinds_told_apart kinds.Exception) ∙ watch_read number (Exception t) small smalls
auto_said number (Percentile t w s) small smalls =
    ap (option_and_then (λ kind. watch_said kind (decimal number) (map decimal (auto_numbers (Percentile t w s))))) (kinds_told_apart kinds.Percentile) ∙ watch_read number (Percentile t w s) small smalls
auto_said number (Category t w s) small smalls =
    ap (option_and_then (λ kind. watch_said kind (decimal number) (map decimal (auto_numbers (Category t w s))))) (kinds_told_apart kinds.Category) ∙ watch_read number (Category t w s) small smalls
auto_said number (Queue t w s l) small smalls =
    ap (option_and_then (λ kind. watch_said kind (decimal number) (map decimal (auto_numbers (Queue t w s l))))) (kinds_told_apart kinds.Queue) ∙ watch_read number (Queue t w s l) small smalls

trigger_said : (version m i : ℕ) (l : TraceId) (ls : List TraceId) → IsSmall m → IsSmall i → HasDigits version l → length ls ≤ MAX_LATERALS → AllByRecursion (HasDigits version) ls
    → says version keywords.Trigger (decimal m ∷ decimal i ∷ trace_word version l ∷ map (trace_word version) ls) ≡ Some (fire m i l ls)
trigger_said version m i l ls small_m small_i digits few all =
    let many = length_map (trace_word version) ls in
    let within : nat_le (length (map (trace_word version) ls)) MAX_LATERALS ≡ true = grind arith in
    let words : List (List ℕ) = map (trace_word version) ls in
    ap (λ (b : Bool). cond b (option_and_then (λ x. option_and_then (λ y. option_and_then (λ z. option_map (fire x y z) (traces_of version words)) (trace_of version (trace_word version l))) (number_of (decimal i))) (number_of (decimal m))) None) within
    ∙ ap (option_and_then (λ (x : ℕ). option_and_then (λ y. option_and_then (λ z. option_map (fire x y z) (traces_of version words)) (trace_of version (trace_word version l))) (number_of (decimal i)))) (number_of-decimal m small_m)
    ∙ ap (option_and_then (λ (y : ℕ). option_and_then (λ z. option_map (fire m y z) (traces_of version words)) (trace_of version (trace_word version l)))) (number_of-decimal i small_i)
    ∙ ap (option_and_then (λ (z : TraceId). option_map (fire m i z) (traces_of version words))) (trace_of-word version l digits)
    ∙ ap (option_map (fire m i l)) (traces_of-words version ls all)

pub read : (version : ℕ) (s : Statement) → Form version s → IsRead version s
read version (Put setting n) f = record { words = refl; print = plain_read version (keywords.Setting setting) (n ∷ []) f; said = numbers_said (keywords.Setting setting) (n ∷ []) f }
read version (Declare rule) f = record { words = refl; print = plain_read version keywords.TriggerId (rule_numbers rule) f; said = numbers_said keywords.TriggerId (rule_numbers rule) f }
read version (Watch number rule) f =
    record {
      words = refl;
      print = and_from _ _ (is_word-decimal number f.0) (and_from _ _ (kind_prints (auto_kind rule)) (decimals_print (auto_numbers rule) f.1));
      said = auto_said number rule f.0 f.1;
    }
read version (Start a b) f = record { words = refl; print = plain_read version keywords.Client (a ∷ b ∷ []) f; said = numbers_said keywords.Client (a ∷ b ∷ []) f }
read version (Operate (Begin id)) f =
    record { words = refl; print = and_from _ _ (trace_prints version id) refl; said = ap (option_map (λ (t : TraceId). Operate (Begin t))) (trace_of-word version id f) }
read version (Operate (Point m bytes)) f =
    record {
      words = refl;
      print = and_from _ _ (is_word-decimal m f.0) (and_from _ _ (is_word-payload_text bytes f.1) refl);
      said = ap (λ (o : Option ℕ). option_and_then (λ n. option_map (λ p. Operate (Point n p)) (payload_of (payload_text bytes))) o) (number_of-decimal m f.0)
          ∙ ap (option_map (λ (p : List ℕ). Operate (Point m p))) (payload_of-payload_text bytes f.1);
    }
read version (Operate (Crumb node)) f = record { words = refl; print = plain_read version keywords.Crumb (node.0 ∷ []) f; said = numbers_said keywords.Crumb (node.0 ∷ []) f }
read version (Operate End) f = record { words = refl; print = refl; said = refl }
read version (Operate (Fire t)) f =
    record {
      words = refl;
      print = and_from _ _ (is_word-decimal t.moment f.0) (and_from _ _ (is_word-decimal t.trigger.0 f.1) (and_from _ _ (trace_prints version t.lead) (traces_print version t.laterals)));
      said = trigger_said version t.moment t.trigger.0 t.lead t.laterals f.0 f.1 f.2 f.3 f.4;
    }
read version (Operate (Sample m a v)) f = record { words = refl; print = plain_read version keywords.Sample (m ∷ a ∷ v ∷ []) f; said = numbers_said keywords.Sample (m ∷ a ∷ v ∷ []) f }
read version Finish f = record { words = refl; print = refl; said = refl }
