-- What is read so far of a workload's text, a line at a time, and what the next line makes of it or why it is refused. The
-- reader's own functions are stated by these. That they agree with the look back over the earlier lines is proved apart.
use Rattle.std.specs.Prelude.{◌≡◌, ℕ, ◌+◌, ◌*◌, ◌==◌, ◌<◌, ◌≤◌, nat_lt, Bool, true, false, not, List, [], ◌∷◌, ◌++◌, length, map, Option, Some, None, Result, Ok, Err, if◌then◌else◌}
use Rattle.hs_text.specs.Text.{number_of, payload_of}
use Rattle.hs_base.specs.declared.settings.TriggerRule.{TriggerRule}
use Rattle.hs_base.specs.declared.settings.AutoRule.{AutoRule}
use Rattle.hs_records.specs.Records.{piece_count}
use Rattle.hs_records.specs.Plain.{Operation, Begin, Point, End, PlainWorkload}
use Rattle.hs_base.specs.declared.limits.TheConstants.{MAX_TRIGGER, MAX_AUTOS, MAX_LATERALS, MAX_PAYLOAD, MAX_OPERATIONS, MAX_NODES, MAX_CLIENTS}
use Rattle.hs_workload.specs.declared.refusal.Reason.{Reason}
use Rattle.hs_workload.specs.declared.refusal.Reason.TheVariants as reasons
use Rattle.hs_workload.specs.declared.refusal.ReadError.{ReadError}
use Rattle.hs_workload.specs.declared.refusal.ReadError.TheVariants as errors
use Rattle.hs_text.specs.declared.stop.Stop.{Stop}
use Rattle.hs_text.specs.declared.stop.Stop.TheVariants as stops
use Rattle.hs_text.specs.Steps.{◌>>=◌, unless, value_or}
use Rattle.hs_text.specs.WordsLeft.{next_word, last_word, payload_length}
use Rattle.hs_text.specs.Opening.{opened}
use Rattle.hs_records.specs.declared.setting.Setting.TheVariants as settings
use Rattle.hs_records.specs.declared.setting.Setting.{Setting}
use Rattle.hs_workload.specs.declared.word.Keyword.{Keyword}
use Rattle.hs_workload.specs.declared.word.Keyword.TheVariants as keywords
use Rattle.hs_workload.specs.declared.line.Numbers.{Numbers}
use Rattle.hs_workload.specs.declared.draft.Reader.{Reader}
use Rattle.hs_records.specs.Views.{operations_of}
use Rattle.hs_records.specs.Settings.{least, most, setting_place}
use Rattle.hs_workload.specs.Settings.{setting_in}
use Rattle.hs_workload.specs.Statements.{Statement, Put, Declare, Watch, Start, Operate, Finish, keyword_of, kind_of, kind_count, auto_rule, number_count, numbers_say, trace_of, traces_of, fire}
use Rattle.hs_workload.specs.LookBack.{Past}
use Rattle.hs_records.specs.Validity.{operation_pieces}
use Rattle.hs_workload.specs.Faults.{may_stand, is_out_of_range, is_out_of_order, names_unknown, begins_while_open, lacks_trace, leaves_open, is_one_too_many, version_of, before_words}

-- the error for what ended the reading of this line
abbrev pub error_at : ℕ → Stop Reason → ReadError
error_at line stops.Memory = errors.Memory
error_at line (stops.Fault reason) = errors.Refused (record { line = line; reason = reason })

-- ---- what is read so far

pub record Draft : Type 0 where
  pub lines : ℕ
  pub head : List ℕ
  pub rules : List TriggerRule
  pub autos : List AutoRule
  pub started : ℕ
  pub is_open : Bool
  pub pieces : ℕ
  pub is_done : Bool
  -- the operations of the client that began last, and of those before it
  pub current : List Operation
  pub finished : List (List Operation)

-- before the first line
abbrev pub fresh : Draft
fresh =
    record {
      lines = 0;
      head = [];
      rules = [];
      autos = [];
      started = 0;
      is_open = false;
      pieces = 0;
      is_done = false;
      current = [];
      finished = [];
    }

-- a reader's draft
abbrev pub draft_of : Reader → Draft
draft_of r =
    record {
      lines = r.lines;
      head = r.head.items;
      rules = r.rules.items;
      autos = r.autos.items;
      started = r.started;
      is_open = r.is_open;
      pieces = r.pieces;
      is_done = r.is_done;
      current = operations_of r.current;
      finished = map operations_of r.finished.items;
    }

-- what the faults ask of it
abbrev pub past_of : Draft → Past
past_of d =
    record {
      head = d.head;
      rules = d.rules;
      autos = d.autos;
      started = d.started;
      is_open = d.is_open;
      pieces = d.pieces;
      is_done = d.is_done;
    }

-- the clients with the one that began last
abbrev pub closed : Draft → List (List Operation)
closed d = if d.started == 0 then d.finished else d.finished ++ d.current ∷ []

abbrev pub open_after : Bool → Operation → Bool
open_after is_open (Begin trace) = true
open_after is_open End = false
open_after is_open _ = is_open

-- a draft with one more operation, with which there are so many
abbrev pub with_operation : Draft → Operation → ℕ → Draft
with_operation d operation pieces =
    record d { lines = d.lines + 1; current = d.current ++ operation ∷ []; pieces = pieces; is_open = open_after d.is_open operation }

-- the draft after a line that says this
abbrev pub after : Draft → Statement → Draft
after d (Put setting n) = record d { lines = d.lines + 1; head = d.head ++ n ∷ [] }
after d (Declare rule) = record d { lines = d.lines + 1; rules = d.rules ++ rule ∷ [] }
after d (Watch number rule) = record d { lines = d.lines + 1; autos = d.autos ++ rule ∷ [] }
after d (Start node number) = record d { lines = d.lines + 1; started = d.started + 1; finished = closed d; current = [] }
after d (Operate operation) = with_operation d operation (d.pieces + operation_pieces (setting_in d.head settings.Size) operation)
after d Finish = record d { lines = d.lines + 1; is_done = true }

-- ---- what the next line makes of it

abbrev pub statement_step : Draft → Statement → Result Draft Reason
statement_step d s =
    unless (is_out_of_range (past_of d) s) reasons.Range
    (unless (is_out_of_order (past_of d) s) reasons.Order
    (unless (names_unknown (past_of d) s) reasons.Unknown
    (unless (begins_while_open (past_of d) s) reasons.Open
    (unless (lacks_trace (past_of d) s) reasons.NoTrace
    (unless (leaves_open (past_of d) s) reasons.StillOpen
    (unless (is_one_too_many (past_of d) s) reasons.TooMany (Ok (after d s))))))))

-- the number that the next word is, and the words behind it; 0 where no word is left
abbrev pub next_number : List (List ℕ) → Result (ℕ × List (List ℕ)) Reason
next_number [] = Ok (0, [])
next_number (word ∷ words) = value_or reasons.Number (number_of word) >>= λ n. Ok (n, words)

unfoldable pub four_numbers : List (List ℕ) → Result Numbers Reason
four_numbers words = do
  first ← next_number words
  second ← next_number first.1
  third ← next_number second.1
  fourth ← next_number third.1
  Ok (record { first = first.0; second = second.0; third = third.0; fourth = fourth.0 })

-- a line of numbers alone
abbrev pub numbers_step : Draft → Keyword → List (List ℕ) → Result Draft Reason
numbers_step d keyword words =
    unless (not (length words == number_count keyword)) reasons.Count (four_numbers words >>= λ n. statement_step d (numbers_say keyword n))

unfoldable pub begin_step : Draft → List (List ℕ) → Result Draft Reason
begin_step d words = do
  word ← last_word reasons.Count words
  trace ← value_or reasons.Hex (trace_of (version_of (past_of d)) word)
  statement_step d (Operate (Begin trace))

-- the operations so far with so many more
abbrev pub counted : ℕ → ℕ → Result ℕ Reason
counted pieces more = unless (nat_lt MAX_OPERATIONS (pieces + more)) reasons.TooMany (Ok (pieces + more))

-- a draft with one more operation that counts once
abbrev pub counted_once : Draft → Operation → Result Draft Reason
counted_once d operation = counted d.pieces 1 >>= λ pieces. Ok (with_operation d operation pieces)

abbrev pub with_payload : Draft → ℕ → ℕ → Option (List ℕ) → Result Draft Reason
with_payload d moment pieces None = Err reasons.Hex
with_payload d moment pieces (Some bytes) = Ok (with_operation d (Point moment bytes) pieces)

unfoldable pub point_step : Draft → List (List ℕ) → Result Draft Reason
point_step d words = do
  first ← next_word reasons.Count words
  second ← last_word reasons.Count first.1
  moment ← value_or reasons.Number (number_of first.0)
  bytes ← payload_length reasons.Hex second
  unless (nat_lt MAX_PAYLOAD bytes) reasons.Range
      (unless (not d.is_open) reasons.NoTrace
      (counted d.pieces (piece_count (setting_in d.head settings.Size) bytes) >>= λ pieces. with_payload d moment pieces (payload_of second)))

unfoldable pub trigger_step : Draft → List (List ℕ) → Result Draft Reason
trigger_step d words = do
  first ← next_word reasons.Count words
  second ← next_word reasons.Count first.1
  third ← next_word reasons.Count second.1
  unless (nat_lt MAX_LATERALS (length third.1)) reasons.Count do
    moment ← value_or reasons.Number (number_of first.0)
    id ← value_or reasons.Number (number_of second.0)
    lead ← value_or reasons.Hex (trace_of (version_of (past_of d)) third.0)
    laterals ← value_or reasons.Hex (traces_of (version_of (past_of d)) third.1)
    statement_step d (fire moment id lead laterals)

unfoldable pub auto_step : Draft → List (List ℕ) → Result Draft Reason
auto_step d words = do
  first ← next_word reasons.Count words
  second ← next_word reasons.Count first.1
  kind ← value_or reasons.Word (kind_of second.0)
  unless (not (length second.1 == kind_count kind)) reasons.Count do
    number ← value_or reasons.Number (number_of first.0)
    numbers ← four_numbers second.1
    statement_step d (Watch number (auto_rule kind numbers))

abbrev pub keyword_step : Draft → Keyword → List (List ℕ) → Result Draft Reason
keyword_step d keywords.Begin words = begin_step d words
keyword_step d keywords.Point words = point_step d words
keyword_step d keywords.Trigger words = trigger_step d words
keyword_step d keywords.Auto words = auto_step d words
keyword_step d keyword words = numbers_step d keyword words

abbrev pub found_step : Draft → Keyword × List (List ℕ) → Result Draft Reason
found_step d found = unless (not (may_stand (past_of d) found.0)) reasons.Word (keyword_step d found.0 found.1)

unfoldable pub line_step : Draft → List ℕ → Result Draft Reason
line_step d line = opened before_words keyword_of line >>= found_step d

-- the workload of a draft whose text has ended
abbrev pub workload_drafted : Draft → PlainWorkload
workload_drafted d =
    record {
      version = setting_in d.head settings.Version;
      settings = record {
        nodes = setting_in d.head settings.Nodes;
        clients = setting_in d.head settings.Clients;
        buffers = setting_in d.head settings.Buffers;
        size = setting_in d.head settings.Size;
        threshold = setting_in d.head settings.Threshold;
        traces = setting_in d.head settings.Traces;
        pins = setting_in d.head settings.Pins;
        stride = setting_in d.head settings.Stride;
        triggers = d.rules;
        autos = d.autos;
      };
      clients = closed d;
    }

-- what bounds the numbers of a draft whose lines had no fault
pub record IsSound (d : Draft) : Type 0 where
  pub short : length d.head ≤ 9
  pub least : (setting : Setting) → setting_place setting < length d.head → least setting ≤ setting_in d.head setting
  pub most : (setting : Setting) → setting_in d.head setting ≤ most setting
  pub rules : length d.rules ≤ MAX_TRIGGER
  pub autos : length d.autos ≤ MAX_AUTOS
  pub started : d.started ≤ MAX_NODES * MAX_CLIENTS
  pub pieces : d.pieces ≤ MAX_OPERATIONS
  pub body : 0 < d.started → length d.head ≡ 9
  pub undone : d.is_done ≡ false → d.lines ≤ length d.head + length d.rules + length d.autos + d.started + d.pieces
  pub lines : d.lines ≤ 10 + length d.rules + length d.autos + d.started + d.pieces
