-- What is wrong with a line after the lines before it: the first reason of the list that holds. The first line that has
-- a reason is the text's fault. A text that ends before its line `done` has ended is cut off in the line that is missing.
use Rattle.std.specs.Prelude.{◌≡◌, ℕ, ◌+◌, ◌*◌, ◌-◌, ◌/◌, ◌%◌, ◌==◌, nat_lt, nat_le, Bool, true, false, not, ◌&&◌, ◌||◌, List, [], ◌∷◌, ◌++◌, length, take, drop, codes, Option, Some, None, is_none, reverse, replicate, refl}
use Rattle.std.specs.List.{list_any}
use Rattle.hs_base.specs.declared.settings.TriggerRule.{TriggerRule}
use Rattle.hs_base.specs.declared.settings.AutoRule.{AutoRule}
use Rattle.hs_base.specs.declared.settings.AutoRule.TheVariants.{Exception, Percentile, Category, Queue}
use Rattle.hs_base.specs.Rules.{is_declared, fired_by}
use Rattle.hs_text.specs.Text.{payload_of, text_of, numbers_of}
use Rattle.hs_text.specs.declared.opening.LineReasons.{LineReasons}
use Rattle.hs_text.specs.Steps.{first_that_holds}
use Rattle.hs_text.specs.Spelling.{spelled}
use Rattle.hs_text.specs.Opening.{line_reasons}
use Rattle.hs_text.specs.Judging.{Judging, first_fault_in}
use Rattle.hs_records.specs.Plain.{Begin, Point, Crumb, Fire, Sample}
use Rattle.hs_base.specs.declared.limits.TheConstants.{MAX_TRIGGER, MAX_WEIGHT, MAX_BURST, MAX_RATE, MAX_AUTOS, MIN_WINDOW, MAX_WINDOW, WHOLE_SHARE, MAX_LATERALS, MAX_PAYLOAD, MAX_OPERATIONS}
use Rattle.hs_base.specs.Ranges.{is_out}
use Rattle.hs_workload.specs.declared.refusal.Reason.{Reason}
use Rattle.hs_workload.specs.declared.refusal.Reason.TheVariants as reasons
use Rattle.hs_workload.specs.declared.refusal.Refusal.{Refusal}
use Rattle.hs_workload.specs.declared.refusal.ReadError.{ReadError}
use Rattle.hs_workload.specs.declared.refusal.ReadError.TheVariants as errors
use Rattle.hs_records.specs.declared.setting.Setting.TheVariants as settings
use Rattle.hs_workload.specs.declared.word.Keyword.{Keyword}
use Rattle.hs_workload.specs.declared.word.Keyword.TheVariants as keywords
use Rattle.hs_workload.specs.declared.word.Kind.{Kind}
use Rattle.hs_records.specs.Settings.{setting_place, least, most}
use Rattle.hs_workload.specs.Settings.{setting_in}
use Rattle.hs_workload.specs.Statements.{Statement, Put, Declare, Watch, Start, Operate, Finish, keyword_of, kind_of, kind_count, number_count, traces_of, says}
use Rattle.hs_workload.specs.LookBack.{Past, past_said, said, is_done_said}
use Rattle.hs_records.specs.Validity.{operation_pieces}
use Rattle.hs_workload.specs.Grammar.{three_points_lines, two_nodes_lines}

-- ---- which word may stand at a place

-- how many clients the workload has
abbrev pub all_clients : List ℕ → ℕ
all_clients head = setting_in head settings.Nodes * setting_in head settings.Clients

-- Each setting stands on its line; trigger ids behind the settings, autotriggers behind these, and clients behind both;
-- operations behind a client, `done` behind the last client, and nothing behind `done`.
abbrev pub may_stand : Past → Keyword → Bool
may_stand past (keywords.Setting setting) = length past.head == setting_place setting
may_stand past keywords.TriggerId = length past.head == 9 && length past.autos == 0 && past.started == 0
may_stand past keywords.Auto = length past.head == 9 && past.started == 0
may_stand past keywords.Client = length past.head == 9 && nat_lt past.started (all_clients past.head) && not past.is_done
may_stand past keywords.Done = nat_lt 0 past.started && nat_le (all_clients past.head) past.started && not past.is_done
may_stand past _ = nat_lt 0 past.started && not past.is_done

-- the third word of an `auto` line that has one is a kind
abbrev pub has_no_kind : Keyword → List (List ℕ) → Bool
has_no_kind keywords.Auto (number ∷ kind ∷ words) = is_none (kind_of kind)
has_no_kind _ words = false

-- ---- the form of a line: how many words stand behind the first, and which of them are numbers and hexadecimal digits

abbrev pub is_count_of : Option Kind → List (List ℕ) → Bool
is_count_of None words = false
is_count_of (Some kind) words = length words == kind_count kind

abbrev pub has_wrong_count : Keyword → List (List ℕ) → Bool
has_wrong_count keywords.Begin words = not (length words == 1)
has_wrong_count keywords.Point words = not (length words == 2)
has_wrong_count keywords.Trigger (moment ∷ id ∷ lead ∷ laterals) = nat_lt MAX_LATERALS (length laterals)
has_wrong_count keywords.Trigger words = true
has_wrong_count keywords.Auto (number ∷ kind ∷ words) = not (is_count_of (kind_of kind) words)
has_wrong_count keywords.Auto words = true
has_wrong_count keyword words = not (length words == number_count keyword)

-- the words in the place of a number
abbrev pub number_words : Keyword → List (List ℕ) → List (List ℕ)
number_words keywords.Begin words = []
number_words keywords.Point words = take 1 words
number_words keywords.Trigger words = take 2 words
number_words keywords.Auto (number ∷ kind ∷ words) = number ∷ words
number_words keyword words = words

abbrev pub has_wrong_number : Keyword → List (List ℕ) → Bool
has_wrong_number keyword words = is_none (numbers_of (number_words keyword words))

-- the words in the place of a trace
abbrev pub trace_words : Keyword → List (List ℕ) → List (List ℕ)
trace_words keywords.Begin words = words
trace_words keywords.Trigger words = drop 2 words
trace_words _ words = []

abbrev pub has_wrong_payload : Keyword → List (List ℕ) → Bool
has_wrong_payload keywords.Point (moment ∷ payload ∷ words) = is_none (payload_of payload)
has_wrong_payload _ words = false

abbrev pub has_wrong_hex : ℕ → Keyword → List (List ℕ) → Bool
has_wrong_hex version keyword words = is_none (traces_of version (trace_words keyword words)) || has_wrong_payload keyword words

-- ---- what a line says, after the lines before it

abbrev pub is_rule_out : TriggerRule → Bool
is_rule_out rule =
    is_out 1 MAX_TRIGGER rule.id.0 || is_out 1 MAX_WEIGHT rule.weight || is_out 1 MAX_BURST rule.burst || nat_lt MAX_RATE rule.rate

abbrev pub is_window_out : ℕ → ℕ → Bool
is_window_out window share = is_out MIN_WINDOW MAX_WINDOW window || nat_lt share 1 || nat_le WHOLE_SHARE share

abbrev pub is_auto_out : AutoRule → Bool
is_auto_out (Exception trigger) = false
is_auto_out (Percentile trigger window share) = is_window_out window share
is_auto_out (Category trigger window share) = is_window_out window share
is_auto_out (Queue trigger window share laterals) = is_window_out window share || is_out 1 MAX_LATERALS laterals

-- An id is tested where it is declared alone.
abbrev pub is_out_of_range : Past → Statement → Bool
is_out_of_range past (Put setting number) = is_out (least setting) (most setting) number
is_out_of_range past (Declare rule) = is_rule_out rule
is_out_of_range past (Watch number rule) = nat_le MAX_AUTOS number || is_auto_out rule
is_out_of_range past (Operate (Point moment payload)) = nat_lt MAX_PAYLOAD (length payload)
is_out_of_range past (Operate (Crumb node)) = nat_le (setting_in past.head settings.Nodes) node.0
is_out_of_range past _ = false

-- a trigger id that is not greater than those before it, an autotrigger that is not the next, or a client that is not the
-- next in the order of node and number
abbrev pub is_out_of_order : Past → Statement → Bool
is_out_of_order past (Declare rule) = list_any (λ (earlier : TriggerRule). nat_le rule.id.0 earlier.id.0) past.rules
is_out_of_order past (Watch number rule) = not (number == length past.autos)
is_out_of_order past (Start node number) =
    not (node == past.started / setting_in past.head settings.Clients) || not (number == past.started % setting_in past.head settings.Clients)
is_out_of_order past _ = false

-- a trigger id or an autotrigger that no line declared
abbrev pub names_unknown : Past → Statement → Bool
names_unknown past (Watch number rule) = not (is_declared past.rules (fired_by rule))
names_unknown past (Operate (Fire trigger)) = not (is_declared past.rules trigger.trigger)
names_unknown past (Operate (Sample moment auto value)) = nat_le (length past.autos) auto
names_unknown past _ = false

abbrev pub begins_while_open : Past → Statement → Bool
begins_while_open past (Operate (Begin trace)) = past.is_open
begins_while_open past _ = false

-- a trace is needed and none is open
abbrev pub lacks_trace : Past → Statement → Bool
lacks_trace past (Operate (Begin trace)) = false
lacks_trace past (Operate (Fire trigger)) = false
lacks_trace past (Operate operation) = not past.is_open
lacks_trace past _ = false

-- a client ends with its trace open
abbrev pub leaves_open : Past → Statement → Bool
leaves_open past (Start node number) = past.is_open
leaves_open past Finish = past.is_open
leaves_open past _ = false

abbrev pub is_one_too_many : Past → Statement → Bool
is_one_too_many past (Operate operation) = nat_lt MAX_OPERATIONS (past.pieces + operation_pieces (setting_in past.head settings.Size) operation)
is_one_too_many past _ = false

-- ---- the reasons in their order

-- those that ask what a line says
abbrev pub statement_reasons : Past → Option Statement → List (Bool × Reason)
statement_reasons past None = []
statement_reasons past (Some statement) =
    (is_out_of_range past statement, reasons.Range) ∷ (is_out_of_order past statement, reasons.Order) ∷ (names_unknown past statement, reasons.Unknown)
    ∷ (begins_while_open past statement, reasons.Open) ∷ (lacks_trace past statement, reasons.NoTrace) ∷ (leaves_open past statement, reasons.StillOpen)
    ∷ (is_one_too_many past statement, reasons.TooMany) ∷ []

abbrev pub version_of : Past → ℕ
version_of past = setting_in past.head settings.Version

-- those of a first word with the words behind it
abbrev pub keyword_reasons : Past → Keyword → List (List ℕ) → List (Bool × Reason)
keyword_reasons past keyword words =
    (not (may_stand past keyword), reasons.Word) ∷ (has_no_kind keyword words, reasons.Word) ∷ (has_wrong_count keyword words, reasons.Count)
    ∷ (has_wrong_number keyword words, reasons.Number) ∷ (has_wrong_hex (version_of past) keyword words, reasons.Hex)
    ∷ statement_reasons past (says (version_of past) keyword words)

-- those before its first word
abbrev pub before_words : LineReasons Reason
before_words = record { byte = reasons.Byte; spaces = reasons.Spaces; word = reasons.Word }

-- what is wrong with a line, after lines that say this
unfoldable pub fault_at : Past → List ℕ → Option Reason
fault_at past line = first_that_holds (line_reasons before_words keyword_of (keyword_reasons past) line)

-- what is wrong with a line after the earlier lines, the newest first
abbrev pub fault_of : List (List ℕ) → List ℕ → Option Reason
fault_of earlier line = fault_at (past_said (said earlier)) line

-- ---- the first bad line

-- the text may end where `done` was read
abbrev pub judging : Judging Reason Refusal
judging =
    record {
      fault_of = fault_of;
      is_whole = λ earlier. is_done_said (said earlier);
      cut_off = reasons.Truncated;
      refusal_at = λ line reason. record { line = line; reason = reason };
    }

unfoldable pub first_fault : List ℕ → Option Refusal
first_fault text = first_fault_in judging text

-- an error that is a refusal names the first fault
abbrev pub Refuses : Option Refusal → ReadError → Type 0
Refuses fault (errors.Refused refusal) = fault ≡ Some refusal
Refuses fault errors.Memory = Unit {0}

-- worked examples: a line with each reason, after the first lines of the example with three points
abbrev head : List (List ℕ)
head = reverse (take 9 three_points_lines)

abbrev opened : List (List ℕ)
opened = codes "begin 0000000000000001" ∷ codes "client 0 0" ∷ head

by_the_line_alone : (fault_of head (99 ∷ 9 ∷ []) ≡ Some reasons.Byte) × (fault_of head (codes "client 0  0") ≡ Some reasons.Spaces) × (fault_of head [] ≡ Some reasons.Spaces)
unfolding fault_at
by_the_line_alone = (refl, refl, refl)

by_the_place : (fault_of head (codes "done") ≡ Some reasons.Word) × (fault_of head (codes "crumb 0") ≡ Some reasons.Word) × (fault_of [] (codes "nodes 1") ≡ Some reasons.Word)
    × (fault_of (codes "client 0 0" ∷ head) (codes "client 0 1") ≡ Some reasons.Word)
    × (fault_of (codes "done" ∷ codes "client 0 0" ∷ head) (codes "done") ≡ Some reasons.Word)
unfolding fault_at spelled
by_the_place = (refl, refl, refl, refl, refl)

by_the_words : (fault_of head (codes "client 0") ≡ Some reasons.Count) × (fault_of head (codes "client 0 00") ≡ Some reasons.Number)
    × (fault_of (codes "client 0 0" ∷ head) (codes "begin 1") ≡ Some reasons.Hex) × (fault_of opened (codes "point 1 FF") ≡ Some reasons.Hex)
unfolding fault_at spelled
by_the_words = (refl, refl, refl, refl)

by_what_is_said : (fault_of [] (codes "hindsight 3") ≡ Some reasons.Range) × (fault_of (codes "hindsight 1" ∷ []) (codes "nodes 17") ≡ Some reasons.Range)
    × (fault_of head (codes "client 0 1") ≡ Some reasons.Order) × (fault_of opened (codes "begin 0000000000000002") ≡ Some reasons.Open)
    × (fault_of (codes "client 0 0" ∷ head) (codes "point 1 aa") ≡ Some reasons.NoTrace) × (fault_of opened (codes "done") ≡ Some reasons.StillOpen)
unfolding fault_at spelled
by_what_is_said = (refl, refl, refl, refl, refl, refl)

-- the lines that declare: an id and an autotrigger that stood too late, an id of 65, ids that do not rise, an autotrigger
-- out of turn and one that fires no declared id
abbrev declared : List (List ℕ)
declared = codes "triggerid 3 1 2 0" ∷ head

by_declarations : (fault_of (codes "auto 0 exception 3" ∷ declared) (codes "triggerid 4 1 2 0") ≡ Some reasons.Word)
    × (fault_of (codes "client 0 0" ∷ declared) (codes "auto 0 exception 3") ≡ Some reasons.Word)
    × (fault_of declared (codes "triggerid 65 1 2 0") ≡ Some reasons.Range) × (fault_of declared (codes "triggerid 3 1 2 0") ≡ Some reasons.Order)
    × (fault_of declared (codes "auto 1 exception 3") ≡ Some reasons.Order) × (fault_of declared (codes "auto 0 exception 65") ≡ Some reasons.Unknown)
    × (fault_of declared (codes "auto 16 exception 65") ≡ Some reasons.Range)
unfolding fault_at spelled
by_declarations = (refl, refl, refl, refl, refl, refl, refl)

-- the third word of an `auto` line is asked before how many there are
by_the_kind : (fault_of declared (codes "auto x y z") ≡ Some reasons.Word) × (fault_of declared (codes "auto 0") ≡ Some reasons.Count)
    × (fault_of declared (codes "auto 0 exception") ≡ Some reasons.Count) × (fault_of declared (codes "auto 0 percentile 3 1 0") ≡ Some reasons.Range)
    × (fault_of declared (codes "auto 0 queue 3 2 1 33") ≡ Some reasons.Range) × (fault_of declared (codes "auto 0 category 3 2 9999") ≡ None)
unfolding fault_at spelled
by_the_kind = (refl, refl, refl, refl, refl, refl)

-- a trigger needs no trace, and a sample and a crumb do
by_operations : (fault_of (codes "client 0 0" ∷ declared) (codes "trigger 1 3 0000000000000001") ≡ None)
    × (fault_of (codes "client 0 0" ∷ declared) (codes "trigger 1 65 0000000000000001") ≡ Some reasons.Unknown)
    × (fault_of (codes "client 0 0" ∷ declared) (codes "trigger 1 3") ≡ Some reasons.Count)
    × (fault_of (codes "client 0 0" ∷ declared) (codes "sample 1 16 0") ≡ Some reasons.Unknown)
    × (fault_of (codes "client 0 0" ∷ declared) (codes "crumb 1") ≡ Some reasons.Range)
    × (fault_of (codes "client 0 0" ∷ declared) (codes "crumb 0") ≡ Some reasons.NoTrace)
unfolding fault_at spelled
by_operations = (refl, refl, refl, refl, refl, refl)

-- a point of three pieces is one too many behind 262,142 operations, and one of two pieces is not
one_too_many : (is_one_too_many (record (past_said []) { head = 1 ∷ 1 ∷ 1 ∷ 1 ∷ 64 ∷ []; pieces = MAX_OPERATIONS - 2 }) (Operate (Point 1 (replicate 70 0))) ≡ true)
    × (is_one_too_many (record (past_said []) { head = 1 ∷ 1 ∷ 1 ∷ 1 ∷ 64 ∷ []; pieces = MAX_OPERATIONS - 2 }) (Operate (Point 1 (replicate 60 0))) ≡ false)
one_too_many = (refl, refl)

-- of two reasons the earlier of the list
earlier_reason_wins : (fault_of (codes "client 0 0" ∷ head) (codes "point x AA") ≡ Some reasons.Number) × (fault_of head (codes "client 0 1 1") ≡ Some reasons.Count)
    × (fault_of (codes "client 0 0" ∷ head) (codes "trigger 1 65 AA") ≡ Some reasons.Hex) × (fault_of opened (codes "client 0 0") ≡ Some reasons.Word)
unfolding fault_at spelled
earlier_reason_wins = (refl, refl, refl, refl)

the_examples_have_no_fault : (first_fault (text_of three_points_lines) ≡ None) × (first_fault (text_of two_nodes_lines) ≡ None)
unfolding first_fault first_fault_in fault_at spelled
the_examples_have_no_fault = (refl, refl)

cut_off : (first_fault [] ≡ Some (record { line = 1; reason = reasons.Truncated })) × (first_fault (codes "hindsight 1") ≡ Some (record { line = 1; reason = reasons.Truncated }))
    × (first_fault (codes "hindsight 1" ++ 10 ∷ []) ≡ Some (record { line = 2; reason = reasons.Truncated }))
    × (first_fault (text_of three_points_lines ++ codes "x") ≡ Some (record { line = 17; reason = reasons.Truncated }))
unfolding first_fault first_fault_in fault_at spelled
cut_off = (refl, refl, refl, refl)

the_first_bad_line_wins : first_fault (text_of (codes "hindsight 0" ∷ codes "nodes" ∷ [])) ≡ Some (record { line = 1; reason = reasons.Range })
unfolding first_fault first_fault_in fault_at spelled
the_first_bad_line_wins = refl
