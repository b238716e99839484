-- What a line of a workload says, one of six things: it sets a number of the head, declares a trigger id or an autotrigger,
-- begins a client, is an operation of that client, or ends the text. What it says has one list of words. The version changes only
-- how many digits a trace has.
use Rattle.std.specs.Prelude.{◌≡◌, ℕ, ◌==◌, nat_le, List, [], ◌∷◌, map, length, codes, decimal, slice_index, Option, Some, None, option_and_then, option_map, if◌then◌else◌, refl}
use Rattle.hs_base.specs.declared.ids.TraceId.{TraceId}
use Rattle.hs_base.specs.declared.settings.TriggerRule.{TriggerRule}
use Rattle.hs_base.specs.declared.settings.AutoRule.{AutoRule}
use Rattle.hs_base.specs.declared.settings.AutoRule.TheVariants.{Exception, Percentile, Category, Queue}
use Rattle.hs_base.specs.declared.limits.TheConstants.{MAX_LATERALS}
use Rattle.hs_text.specs.Text.{words_of, line_of, number_of, hex_of, payload_of, payload_text, numbers_of}
use Rattle.hs_base.specs.Ids.{trace_digits}
use Rattle.hs_text.specs.Writing.{trace_word}
use Rattle.hs_text.specs.Spelling.{spelled}
use Rattle.hs_text.specs.Opening.{words_say}
use Rattle.hs_records.specs.Plain.{Operation, Begin, Point, Crumb, End, Fire, Sample}
use Rattle.hs_records.specs.declared.setting.Setting.{Setting}
use Rattle.hs_records.specs.declared.setting.Setting.TheVariants as settings
use Rattle.hs_workload.specs.declared.word.Keyword.{Keyword}
use Rattle.hs_workload.specs.declared.word.Keyword.TheVariants as keywords
use Rattle.hs_workload.specs.declared.word.Kind.{Kind}
use Rattle.hs_workload.specs.declared.word.Kind.TheVariants as kinds
use Rattle.hs_workload.specs.declared.line.Numbers.{Numbers}
use Rattle.hs_workload.specs.Settings.{setting_text}

pub data Statement : Type 0 where
  Put : (setting : Setting) (number : ℕ) → Statement
  Declare : (rule : TriggerRule) → Statement
  Watch : (number : ℕ) (rule : AutoRule) → Statement
  Start : (node number : ℕ) → Statement
  Operate : (operation : Operation) → Statement
  Finish : Statement

-- ---- first words, and the kinds of autotriggers

abbrev pub keyword_text : Keyword → List ℕ
keyword_text (keywords.Setting setting) = setting_text setting
keyword_text keywords.TriggerId = codes "triggerid"
keyword_text keywords.Auto = codes "auto"
keyword_text keywords.Client = codes "client"
keyword_text keywords.Begin = codes "begin"
keyword_text keywords.Point = codes "point"
keyword_text keywords.Crumb = codes "crumb"
keyword_text keywords.End = codes "end"
keyword_text keywords.Trigger = codes "trigger"
keyword_text keywords.Sample = codes "sample"
keyword_text keywords.Done = codes "done"

-- the words that a line may begin with
abbrev pub all_keywords : List Keyword
all_keywords =
    keywords.Point ∷ keywords.Begin ∷ keywords.End ∷ keywords.Crumb ∷ keywords.Trigger ∷ keywords.Sample ∷ keywords.Client ∷ keywords.Done
    ∷ keywords.TriggerId ∷ keywords.Auto ∷ keywords.Setting settings.Version ∷ keywords.Setting settings.Nodes ∷ keywords.Setting settings.Clients
    ∷ keywords.Setting settings.Buffers ∷ keywords.Setting settings.Size ∷ keywords.Setting settings.Threshold ∷ keywords.Setting settings.Traces
    ∷ keywords.Setting settings.Pins ∷ keywords.Setting settings.Stride ∷ []

-- which of them a word is
abbrev pub keyword_of : List ℕ → Option Keyword
keyword_of = spelled keyword_text all_keywords

pub keywords_told_apart : (keyword : Keyword) → keyword_of (keyword_text keyword) ≡ Some keyword
unfolding spelled
keywords_told_apart (keywords.Setting settings.Version) = refl
keywords_told_apart (keywords.Setting settings.Nodes) = refl
keywords_told_apart (keywords.Setting settings.Clients) = refl
keywords_told_apart (keywords.Setting settings.Buffers) = refl
keywords_told_apart (keywords.Setting settings.Size) = refl
keywords_told_apart (keywords.Setting settings.Threshold) = refl
keywords_told_apart (keywords.Setting settings.Traces) = refl
keywords_told_apart (keywords.Setting settings.Pins) = refl
keywords_told_apart (keywords.Setting settings.Stride) = refl
keywords_told_apart keywords.TriggerId = refl
keywords_told_apart keywords.Auto = refl
keywords_told_apart keywords.Client = refl
keywords_told_apart keywords.Begin = refl
keywords_told_apart keywords.Point = refl
keywords_told_apart keywords.Crumb = refl
keywords_told_apart keywords.End = refl
keywords_told_apart keywords.Trigger = refl
keywords_told_apart keywords.Sample = refl
keywords_told_apart keywords.Done = refl

abbrev pub kind_text : Kind → List ℕ
kind_text kinds.Exception = codes "exception"
kind_text kinds.Percentile = codes "percentile"
kind_text kinds.Category = codes "category"
kind_text kinds.Queue = codes "queue"

abbrev pub all_kinds : List Kind
all_kinds = kinds.Exception ∷ kinds.Percentile ∷ kinds.Category ∷ kinds.Queue ∷ []

abbrev pub kind_of : List ℕ → Option Kind
kind_of = spelled kind_text all_kinds

pub kinds_told_apart : (kind : Kind) → kind_of (kind_text kind) ≡ Some kind
unfolding spelled
kinds_told_apart kinds.Exception = refl
kinds_told_apart kinds.Percentile = refl
kinds_told_apart kinds.Category = refl
kinds_told_apart kinds.Queue = refl

-- ---- the words of what is said

abbrev pub auto_kind : AutoRule → Kind
auto_kind (Exception trigger) = kinds.Exception
auto_kind (Percentile trigger window share) = kinds.Percentile
auto_kind (Category trigger window share) = kinds.Category
auto_kind (Queue trigger window share laterals) = kinds.Queue

abbrev pub auto_numbers : AutoRule → List ℕ
auto_numbers (Exception trigger) = trigger.0 ∷ []
auto_numbers (Percentile trigger window share) = trigger.0 ∷ window ∷ share ∷ []
auto_numbers (Category trigger window share) = trigger.0 ∷ window ∷ share ∷ []
auto_numbers (Queue trigger window share laterals) = trigger.0 ∷ window ∷ share ∷ laterals ∷ []

abbrev pub rule_numbers : TriggerRule → List ℕ
rule_numbers rule = rule.id.0 ∷ rule.weight ∷ rule.burst ∷ rule.rate ∷ []

abbrev pub operation_words : ℕ → Operation → List (List ℕ)
operation_words version (Begin trace) = codes "begin" ∷ trace_word version trace ∷ []
operation_words version (Point moment payload) = codes "point" ∷ decimal moment ∷ payload_text payload ∷ []
operation_words version (Crumb node) = codes "crumb" ∷ decimal node.0 ∷ []
operation_words version End = codes "end" ∷ []
operation_words version (Fire trigger) =
    codes "trigger" ∷ decimal trigger.moment ∷ decimal trigger.trigger.0 ∷ trace_word version trigger.lead ∷ map (trace_word version) trigger.laterals
operation_words version (Sample moment auto value) = codes "sample" ∷ map decimal (moment ∷ auto ∷ value ∷ [])

-- the words of a line that says this
abbrev pub statement_words : ℕ → Statement → List (List ℕ)
statement_words version (Put setting number) = setting_text setting ∷ decimal number ∷ []
statement_words version (Declare rule) = codes "triggerid" ∷ map decimal (rule_numbers rule)
statement_words version (Watch number rule) = codes "auto" ∷ decimal number ∷ kind_text (auto_kind rule) ∷ map decimal (auto_numbers rule)
statement_words version (Start node number) = codes "client" ∷ map decimal (node ∷ number ∷ [])
statement_words version (Operate operation) = operation_words version operation
statement_words version Finish = codes "done" ∷ []

abbrev pub statement_line : ℕ → Statement → List ℕ
statement_line version statement = line_of (statement_words version statement)

-- ---- what words say

-- numbers by their places, 0 in the place of one that is missing
abbrev pub numbers_at : List ℕ → Numbers
numbers_at ns = record { first = slice_index ns 0; second = slice_index ns 1; third = slice_index ns 2; fourth = slice_index ns 3 }

-- the trace that a word is
abbrev pub trace_of : ℕ → List ℕ → Option TraceId
trace_of version word = option_map (λ id. record { 0 = id }) (hex_of (trace_digits version) word)

-- the traces that words are, where each is one
abbrev pub traces_of : ℕ → List (List ℕ) → Option (List TraceId)
traces_of version [] = Some []
traces_of version (word ∷ words) = option_and_then (λ trace. option_map (λ traces. trace ∷ traces) (traces_of version words)) (trace_of version word)

-- how many numbers stand behind a first word that has only numbers behind it
abbrev pub number_count : Keyword → ℕ
number_count (keywords.Setting setting) = 1
number_count keywords.TriggerId = 4
number_count keywords.Client = 2
number_count keywords.Crumb = 1
number_count keywords.Sample = 3
number_count _ = 0

-- what it says with these numbers
abbrev pub numbers_say : Keyword → Numbers → Statement
numbers_say (keywords.Setting setting) n = Put setting n.first
numbers_say keywords.TriggerId n = Declare (record { id = record { 0 = n.first }; weight = n.second; burst = n.third; rate = n.fourth })
numbers_say keywords.Client n = Start n.first n.second
numbers_say keywords.Crumb n = Operate (Crumb (record { 0 = n.first }))
numbers_say keywords.Sample n = Operate (Sample n.first n.second n.third)
numbers_say keywords.End n = Operate End
numbers_say _ n = Finish

-- how many numbers stand behind the kind of an autotrigger, and its rule with these
abbrev pub kind_count : Kind → ℕ
kind_count kinds.Exception = 1
kind_count kinds.Queue = 4
kind_count _ = 3

abbrev pub auto_rule : Kind → Numbers → AutoRule
auto_rule kinds.Exception n = Exception (record { 0 = n.first })
auto_rule kinds.Percentile n = Percentile (record { 0 = n.first }) n.second n.third
auto_rule kinds.Category n = Category (record { 0 = n.first }) n.second n.third
auto_rule kinds.Queue n = Queue (record { 0 = n.first }) n.second n.third n.fourth

abbrev pub fire : ℕ → ℕ → TraceId → List TraceId → Statement
fire moment id lead laterals = Operate (Fire (record { moment = moment; trigger = record { 0 = id }; lead = lead; laterals = laterals }))

-- what is said of an autotrigger of this kind
abbrev pub watch_said : Kind → List ℕ → List (List ℕ) → Option Statement
watch_said kind number words =
    if length words == kind_count kind
    then option_and_then (λ n. option_map (λ ns. Watch n (auto_rule kind (numbers_at ns))) (numbers_of words)) (number_of number)
    else None

-- What a line says whose first word is this, by its other words; nothing where they are not of that form.
abbrev pub says : ℕ → Keyword → List (List ℕ) → Option Statement
says version keywords.Begin (trace ∷ []) = option_map (λ id. Operate (Begin id)) (trace_of version trace)
says version keywords.Begin words = None
says version keywords.Point (moment ∷ payload ∷ []) = option_and_then (λ m. option_map (λ bytes. Operate (Point m bytes)) (payload_of payload)) (number_of moment)
says version keywords.Point words = None
says version keywords.Trigger (moment ∷ id ∷ lead ∷ laterals) =
    if nat_le (length laterals) MAX_LATERALS
    then option_and_then (λ m. option_and_then (λ i. option_and_then (λ l. option_map (fire m i l) (traces_of version laterals)) (trace_of version lead)) (number_of id)) (number_of moment)
    else None
says version keywords.Trigger words = None
says version keywords.Auto (number ∷ kind ∷ words) = option_and_then (λ k. watch_said k number words) (kind_of kind)
says version keywords.Auto words = None
says version keyword words = if length words == number_count keyword then option_map (λ ns. numbers_say keyword (numbers_at ns)) (numbers_of words) else None

-- what a line says
abbrev pub statement_of : ℕ → List ℕ → Option Statement
statement_of version line = words_say keyword_of (says version) (words_of line)

-- worked examples
begin_of_each_version : (statement_line 1 (Operate (Begin (record { 0 = 175 }))) ≡ codes "begin 00000000000000af")
    × (statement_line 2 (Operate (Begin (record { 0 = 175 }))) ≡ codes "begin 000000000000000000000000000000af")
begin_of_each_version = (refl, refl)

said_by_lines : (statement_of 1 (codes "size 64") ≡ Some (Put settings.Size 64)) × (statement_of 1 (codes "client 0 12") ≡ Some (Start 0 12))
    × (statement_of 1 (codes "point 7 00ff") ≡ Some (Operate (Point 7 (0 ∷ 255 ∷ [])))) × (statement_of 1 (codes "point 7 -") ≡ Some (Operate (Point 7 [])))
    × (statement_of 1 (codes "end") ≡ Some (Operate End)) × (statement_of 1 (codes "done") ≡ Some Finish)
    × (statement_of 1 (codes "crumb 3") ≡ Some (Operate (Crumb (record { 0 = 3 })))) × (statement_of 1 (codes "sample 9 0 5") ≡ Some (Operate (Sample 9 0 5)))
unfolding spelled
said_by_lines = (refl, refl, refl, refl, refl, refl, refl, refl)

declared_by_lines :
    (statement_of 1 (codes "triggerid 2 1 8 100") ≡ Some (Declare (record { id = record { 0 = 2 }; weight = 1; burst = 8; rate = 100 })))
    × (statement_of 1 (codes "auto 0 exception 1") ≡ Some (Watch 0 (Exception (record { 0 = 1 }))))
    × (statement_of 1 (codes "auto 1 percentile 2 64 9800") ≡ Some (Watch 1 (Percentile (record { 0 = 2 }) 64 9800)))
    × (statement_of 1 (codes "auto 2 category 2 64 9800") ≡ Some (Watch 2 (Category (record { 0 = 2 }) 64 9800)))
    × (statement_of 1 (codes "auto 3 queue 2 64 9800 5") ≡ Some (Watch 3 (Queue (record { 0 = 2 }) 64 9800 5)))
unfolding spelled
declared_by_lines = (refl, refl, refl, refl, refl)

-- a lead and two laterals, of which one is the lead
fired_by_a_line :
    statement_of 1 (codes "trigger 5 2 000000000000000a 000000000000000b 000000000000000a")
    ≡ Some (fire 5 2 (record { 0 = 10 }) (record { 0 = 11 } ∷ record { 0 = 10 } ∷ []))
unfolding spelled
fired_by_a_line = refl

said_by_none : (statement_of 1 (codes "crumb") ≡ None) × (statement_of 1 (codes "size 064") ≡ None) × (statement_of 2 (codes "begin 00000000000000af") ≡ None)
    × (statement_of 1 (codes "end 1") ≡ None) × (statement_of 1 (codes "trigger 5 2") ≡ None) × (statement_of 1 (codes "auto 0 queue 1 2 3") ≡ None)
unfolding spelled
said_by_none = (refl, refl, refl, refl, refl, refl)
