-- What a line of a service's settings says, one of four things: nothing, where it is empty or a comment; the number of a setting; the
-- rule of a trigger id; or that of an autotrigger.
use Rattle.std.specs.Prelude.{◌≡◌, ℕ, ◌==◌, Bool, true, false, ◌||◌, List, [], ◌∷◌, length, codes, slice_index, Option, Some, None, option_and_then, option_map, if◌then◌else◌, refl}
use Rattle.hs_base.specs.declared.settings.TriggerRule.{TriggerRule}
use Rattle.hs_base.specs.declared.settings.AutoRule.{AutoRule}
use Rattle.hs_base.specs.declared.settings.AutoRule.TheVariants.{Exception, Percentile, Category, Queue}
use Rattle.hs_text.specs.Text.{words_of, number_of, numbers_of}
use Rattle.hs_text.specs.Spelling.{spelled}
use Rattle.hs_text.specs.Opening.{words_say}
use Rattle.hs_settings.specs.declared.setting.ServiceSetting.TheVariants as settings
use Rattle.hs_settings.specs.declared.setting.GivenNumber.{GivenNumber}
use Rattle.hs_settings.specs.declared.word.Keyword.{Keyword}
use Rattle.hs_settings.specs.declared.word.Keyword.TheVariants as keywords
use Rattle.hs_settings.specs.declared.word.Kind.{Kind}
use Rattle.hs_settings.specs.declared.word.Kind.TheVariants as kinds
use Rattle.hs_settings.specs.declared.numbers.Numbers.{Numbers}

pub data Statement : Type 0 where
  Nothing : Statement
  Put : (given : GivenNumber) → Statement
  Declare : (rule : TriggerRule) → Statement
  Watch : (number : ℕ) (rule : AutoRule) → Statement

-- ---- first words, and the kinds of autotriggers

abbrev pub keyword_text : Keyword → List ℕ
keyword_text keywords.TriggerId = codes "triggerid"
keyword_text keywords.Auto = codes "auto"
keyword_text (keywords.Setting settings.Nodes) = codes "nodes"
keyword_text (keywords.Setting settings.Clients) = codes "clients"
keyword_text (keywords.Setting settings.Buffers) = codes "buffers"
keyword_text (keywords.Setting settings.Size) = codes "size"
keyword_text (keywords.Setting settings.Threshold) = codes "threshold"
keyword_text (keywords.Setting settings.Traces) = codes "traces"
keyword_text (keywords.Setting settings.Pins) = codes "pins"
keyword_text (keywords.Setting settings.Backlog) = codes "backlog"
keyword_text (keywords.Setting settings.Claims) = codes "claims"
keyword_text (keywords.Setting settings.Remember) = codes "remember"
keyword_text (keywords.Setting settings.Groups) = codes "groups"
keyword_text (keywords.Setting settings.Hold) = codes "hold"
keyword_text (keywords.Setting settings.Bytes) = codes "bytes"

-- the words that a line may begin with
abbrev pub all_keywords : List Keyword
all_keywords =
    keywords.TriggerId ∷ keywords.Auto ∷ keywords.Setting settings.Nodes ∷ keywords.Setting settings.Clients ∷ keywords.Setting settings.Buffers
    ∷ keywords.Setting settings.Size ∷ keywords.Setting settings.Threshold ∷ keywords.Setting settings.Traces ∷ keywords.Setting settings.Pins
    ∷ keywords.Setting settings.Backlog ∷ keywords.Setting settings.Claims ∷ keywords.Setting settings.Remember ∷ keywords.Setting settings.Groups
    ∷ keywords.Setting settings.Hold ∷ keywords.Setting settings.Bytes ∷ []

-- which of them a word is
abbrev pub keyword_of : List ℕ → Option Keyword
keyword_of = spelled keyword_text all_keywords

pub keywords_told_apart : (keyword : Keyword) → keyword_of (keyword_text keyword) ≡ Some keyword
unfolding spelled
keywords_told_apart keywords.TriggerId = refl
keywords_told_apart keywords.Auto = refl
keywords_told_apart (keywords.Setting settings.Nodes) = refl
keywords_told_apart (keywords.Setting settings.Clients) = refl
keywords_told_apart (keywords.Setting settings.Buffers) = refl
keywords_told_apart (keywords.Setting settings.Size) = refl
keywords_told_apart (keywords.Setting settings.Threshold) = refl
keywords_told_apart (keywords.Setting settings.Traces) = refl
keywords_told_apart (keywords.Setting settings.Pins) = refl
keywords_told_apart (keywords.Setting settings.Backlog) = refl
keywords_told_apart (keywords.Setting settings.Claims) = refl
keywords_told_apart (keywords.Setting settings.Remember) = refl
keywords_told_apart (keywords.Setting settings.Groups) = refl
keywords_told_apart (keywords.Setting settings.Hold) = refl
keywords_told_apart (keywords.Setting settings.Bytes) = refl

abbrev pub kind_text : Kind → List ℕ
kind_text kinds.Exception = codes "exception"
kind_text kinds.Percentile = codes "percentile"
kind_text kinds.Category = codes "category"
kind_text kinds.Queue = codes "queue"

abbrev pub all_kinds : List Kind
all_kinds = kinds.Exception ∷ kinds.Percentile ∷ kinds.Category ∷ kinds.Queue ∷ []

abbrev pub kind_of : List ℕ → Option Kind
kind_of = spelled kind_text all_kinds

pub kinds_told_apart : (kind : Kind) → kind_of (kind_text kind) ≡ Some kind
unfolding spelled
kinds_told_apart kinds.Exception = refl
kinds_told_apart kinds.Percentile = refl
kinds_told_apart kinds.Category = refl
kinds_told_apart kinds.Queue = refl

-- ---- what words say

-- numbers by their places, 0 in the place of one that is missing
abbrev pub numbers_at : List ℕ → Numbers
numbers_at ns = record { first = slice_index ns 0; second = slice_index ns 1; third = slice_index ns 2; fourth = slice_index ns 3 }

-- a number of a setting; of a trigger id its number alone, or with weight, burst and rate
abbrev pub may_have : Keyword → ℕ → Bool
may_have (keywords.Setting setting) count = count == 1
may_have keywords.TriggerId count = count == 1 || count == 4
may_have keywords.Auto count = false

-- an id alone has weight 1, burst 10 and rate 1
abbrev pub with_defaults : ℕ → Numbers → Numbers
with_defaults count n = if count == 1 then record { first = n.first; second = 1; third = 10; fourth = 1 } else n

abbrev pub trigger_rule : Numbers → TriggerRule
trigger_rule n = record { id = record { 0 = n.first }; weight = n.second; burst = n.third; rate = n.fourth }

-- what a first word says with so many numbers
abbrev pub numbers_say : Keyword → ℕ → Numbers → Statement
numbers_say (keywords.Setting setting) count n = Put (record { setting = setting; number = n.first })
numbers_say keywords.TriggerId count n = Declare (trigger_rule (with_defaults count n))
numbers_say keywords.Auto count n = Nothing

-- how many numbers stand behind the kind of an autotrigger, and its rule with these
abbrev pub kind_count : Kind → ℕ
kind_count kinds.Exception = 1
kind_count kinds.Queue = 4
kind_count _ = 3

abbrev pub auto_rule : Kind → Numbers → AutoRule
auto_rule kinds.Exception n = Exception (record { 0 = n.first })
auto_rule kinds.Percentile n = Percentile (record { 0 = n.first }) n.second n.third
auto_rule kinds.Category n = Category (record { 0 = n.first }) n.second n.third
auto_rule kinds.Queue n = Queue (record { 0 = n.first }) n.second n.third n.fourth

-- what is said of an autotrigger of this kind
abbrev pub watch_said : Kind → List ℕ → List (List ℕ) → Option Statement
watch_said kind number words =
    if length words == kind_count kind
    then option_and_then (λ n. option_map (λ ns. Watch n (auto_rule kind (numbers_at ns))) (numbers_of words)) (number_of number)
    else None

-- What a line says whose first word is this, by its other words; nothing where they are not of that form.
abbrev pub says : Keyword → List (List ℕ) → Option Statement
says keywords.Auto (number ∷ kind ∷ words) = option_and_then (λ k. watch_said k number words) (kind_of kind)
says keywords.Auto words = None
says keyword words =
    if may_have keyword (length words) then option_map (λ ns. numbers_say keyword (length words) (numbers_at ns)) (numbers_of words) else None

-- whether a line is empty or a comment
abbrev pub is_skipped : List ℕ → Bool
is_skipped [] = true
is_skipped (b ∷ line) = b == 35

-- what a line says
abbrev pub statement_of : List ℕ → Option Statement
statement_of line = if is_skipped line then Some Nothing else words_say keyword_of says (words_of line)

-- worked examples
said_by_lines : (statement_of (codes "size 64") ≡ Some (Put (record { setting = settings.Size; number = 64 })))
    × (statement_of (codes "triggerid 5") ≡ Some (Declare (record { id = record { 0 = 5 }; weight = 1; burst = 10; rate = 1 })))
    × (statement_of (codes "triggerid 5 2 8 100") ≡ Some (Declare (record { id = record { 0 = 5 }; weight = 2; burst = 8; rate = 100 })))
    × (statement_of (codes "auto 1 percentile 2 64 9800") ≡ Some (Watch 1 (Percentile (record { 0 = 2 }) 64 9800)))
    × (statement_of [] ≡ Some Nothing) × (statement_of (codes "#  size") ≡ Some Nothing)
unfolding spelled
said_by_lines = (refl, refl, refl, refl, refl, refl)

said_by_none : (statement_of (codes "size") ≡ None) × (statement_of (codes "size 064") ≡ None) × (statement_of (codes "triggerid 5 2") ≡ None)
    × (statement_of (codes "stride 8") ≡ None)
unfolding spelled
said_by_none = (refl, refl, refl, refl)
