-- The table of commands, and which lists of words are one of its rows. The words are told apart as those of one simple
-- command line: a command, a seed and a size behind it, and two flags anywhere.
use Rattle.std.specs.Prelude.{◌≡◌, ◌≤◌, ⊤, ℕ, ◌&&◌, ◌||◌, Bool, true, false, not, nat_le, List, [], ◌∷◌, Option, Some, None, is_some, option_map, option_and_then, if◌then◌else◌, codes, refl}
use Rattle.std.specs.Str.{bytes_eq}
use Rattle.std.specs.Option.{option_map_or}
use Rattle.hs_base.specs.declared.limits.TheConstants.{MAX_REQUESTS}
use Rattle.hs_compare.specs.declared.limits.TheConstants.{MAX_ONE_IN, MAX_ROOM}
use Rattle.hs_text.specs.Text.{number_of}
use Rattle.hs_report.specs.declared.form.Form.{Form}
use Rattle.hs_report.specs.declared.form.Form.TheVariants.{Text as Lines, Json}
use Rattle.clap.specs.Words.{App, Row, Rule, Text, new_app, new_rule, with_rule, Kinds, fault_of, first_of, matches_of}
use Rattle.clap.specs.Walk.{is_empty}
use Rattle.clap.specs.Simple.{on_top}
use Rattle.clap.specs.declared.builder.action.ArgAction.TheVariants.{SetTrue}
use Rattle.clap.proofs.OnLiterals.{clap_on_literals}
use Rattle.hs_cli.specs.declared.command.Command.{Command}
use Rattle.hs_cli.specs.declared.command.Command.TheVariants.{Replay, Run, Watch, Convert, Make, Drill, Check, Compare}
use Rattle.hs_cli.specs.declared.command.CommandLine as told

-- the words of a call, told apart
pub record CommandLine : Type 0 where
  pub command : Text
  pub seed : Option Text
  pub size : Option Text
  -- whether these flags are there
  pub json : Bool
  pub watch : Bool

abbrev pub line_in : told.CommandLine → CommandLine
line_in line = record { command = line.command.now; seed = option_map (λ word. word.now) line.seed; size = option_map (λ word. word.now) line.size; json = line.json; watch = line.watch }

-- ---- the table, a row a command

-- a seed is a number of 64 bits
abbrev pub seed_of : Text → Option ℕ
seed_of word = number_of word

-- a number from 1 to this most
abbrev pub number_within : ℕ → Text → Option ℕ
number_within most word = option_and_then (λ number. if nat_le 1 number && nat_le number most then Some number else None) (number_of word)

-- a size is a number of requests that a made workload may have
abbrev pub size_of : Text → Option ℕ
size_of word = number_within MAX_REQUESTS word

-- whether the line has nothing but a command and the flag `--json`
abbrev pub is_alone : CommandLine → Bool
is_alone line = not (is_some line.seed) && (not (is_some line.size) && not line.watch)

-- the form of the output that the line asks for
abbrev pub form_in : CommandLine → Option Form
form_in line = if is_alone line then Some (if line.json then Json else Lines) else None

-- the seed and the size, if the line has these and no flag
abbrev pub sizes_in : CommandLine → Option (ℕ × ℕ)
sizes_in line =
    if line.json || line.watch then None else
    option_and_then (λ seed. option_map (λ size. (seed, size)) (option_and_then size_of line.size)) (option_and_then seed_of line.seed)

-- one trace in so many, and the room of a ring, in the places of the seed and the size, if the line has these and no flag
abbrev pub samplers_in : CommandLine → Option (ℕ × ℕ)
samplers_in line =
    if line.json || line.watch then None else
    option_and_then (λ one_in. option_map (λ room. (one_in, room)) (option_and_then (number_within MAX_ROOM) line.size)) (option_and_then (number_within MAX_ONE_IN) line.seed)

-- this command, where the line has nothing but its word
abbrev pub alone : CommandLine → Command → Option Command
alone line command = if is_alone line && not line.json then Some command else None

-- what the line asks of `run`: with the flag `--watch`, and then with nothing else, that it be watched, or else its output in a form
abbrev pub run_in : CommandLine → Option Command
run_in line =
    if line.watch then (if not (is_some line.seed) && (not (is_some line.size) && not line.json) then Some Watch else None)
    else option_map Run (form_in line)

abbrev pub command_of : CommandLine → Option Command
command_of line =
    if bytes_eq line.command (codes "replay") then option_map Replay (form_in line)
    else (if bytes_eq line.command (codes "run") then run_in line
    else (if bytes_eq line.command (codes "convert") then alone line Convert
    else (if bytes_eq line.command (codes "check") then alone line Check
    else (if bytes_eq line.command (codes "make") then option_map (λ (both : ℕ × ℕ). Make both.0 both.1) (sizes_in line)
    else (if bytes_eq line.command (codes "drill") then option_map (λ (both : ℕ × ℕ). Drill both.0 both.1) (sizes_in line)
    else (if bytes_eq line.command (codes "compare") then option_map (λ (both : ℕ × ℕ). Compare both.0 both.1) (samplers_in line)
    else None))))))

-- the samplers that a workload may be compared under
abbrev pub AreSamplers : (one_in room : ℕ) → Type 0
AreSamplers one_in room = ((1 ≤ one_in) × (one_in ≤ MAX_ONE_IN)) × ((1 ≤ room) × (room ≤ MAX_ROOM))

-- The numbers of a command are within their ranges.
abbrev pub IsSized : Command → Type 0
IsSized (Make seed size) = (1 ≤ size) × (size ≤ MAX_REQUESTS)
IsSized (Drill seed size) = (1 ≤ size) × (size ≤ MAX_REQUESTS)
IsSized (Compare one_in room) = AreSamplers one_in room
IsSized command = ⊤

-- whether a command has watchers
abbrev pub is_watched : Command → Bool
is_watched Watch = true
is_watched command = false

-- whether a command only looks at its workload; the others use it up
abbrev pub only_looks : Command → Bool
only_looks Check = true
only_looks (Make seed size) = true
only_looks (Drill seed size) = true
only_looks (Compare one_in room) = true
only_looks command = false

-- ---- words

abbrev pub needed : Text → Rule
needed name = record (new_rule name) { required = true }

abbrev pub flag : Text → Rule
flag name = record (new_rule name) { long = Some name; action = Some SetTrue }

-- the three words of a call: a command, a seed and a size
abbrev pub with_words : App → App
with_words app = with_rule (with_rule (with_rule app (needed (codes "COMMAND"))) (new_rule (codes "SEED"))) (new_rule (codes "SIZE"))

-- and its two flags
abbrev pub with_flags : App → App
with_flags app = with_rule (with_rule app (flag (codes "json"))) (flag (codes "watch"))

-- how words are told apart
abbrev pub parser : App
parser = with_flags (with_words (on_top (λ top. record top { disable_help_flag = true }) (new_app (codes "hindsight"))))

abbrev pub is_set : Text → List Row → Bool
is_set name rows = option_map_or (λ value. bytes_eq value (codes "true")) (first_of name rows) false

-- the line that the rows give, where they name a command
abbrev pub line_of : List Row → Option CommandLine
line_of rows = option_map (λ command. record { command = command; seed = first_of (codes "SEED") rows; size = first_of (codes "SIZE") rows; json = is_set (codes "json") rows; watch = is_set (codes "watch") rows }) (first_of (codes "COMMAND") rows)

-- the command of these rows, unless the words were refused
abbrev pub command_by : Kinds → List Row → Option Command
command_by faults rows = if is_empty faults then option_and_then command_of (line_of rows) else None

-- the words behind the program's name
abbrev pub named : List Text → List Text
named words = codes "hindsight" ∷ words

-- the command that the words are, where they are one
abbrev pub command_in : List Text → Option Command
command_in words = command_by (fault_of parser (named words)) (matches_of parser (named words))

-- whether the words are a command that has watchers
abbrev pub asks_to_watch : Option Command → Bool
asks_to_watch asked = option_map_or is_watched asked false

-- a command, where it has no watchers
abbrev pub unwatched : Option Command → Option Command
unwatched asked = option_and_then (λ command. if is_watched command then None else Some command) asked

-- the command that the words are, where they are one that has no watchers
abbrev pub unwatched_in : List Text → Option Command
unwatched_in words = unwatched (command_in words)

the_word_replay : command_in (codes "replay" ∷ []) ≡ Some (Replay Lines)
unfolding clap_on_literals
the_word_replay = refl

a_flag_behind : command_in (codes "replay" ∷ codes "--json" ∷ []) ≡ Some (Replay Json)
unfolding clap_on_literals
a_flag_behind = refl

a_flag_before : command_in (codes "--json" ∷ codes "replay" ∷ []) ≡ Some (Replay Json)
unfolding clap_on_literals
a_flag_before = refl

the_word_run : command_in (codes "run" ∷ []) ≡ Some (Run Lines)
unfolding clap_on_literals
the_word_run = refl

a_run_as_json : command_in (codes "run" ∷ codes "--json" ∷ []) ≡ Some (Run Json)
unfolding clap_on_literals
a_run_as_json = refl

a_watched_run : command_in (codes "run" ∷ codes "--watch" ∷ []) ≡ Some Watch
unfolding clap_on_literals
a_watched_run = refl

the_flag_to_watch_before : command_in (codes "--watch" ∷ codes "run" ∷ []) ≡ Some Watch
unfolding clap_on_literals
the_flag_to_watch_before = refl

no_watched_run_as_json : command_in (codes "run" ∷ codes "--watch" ∷ codes "--json" ∷ []) ≡ None
unfolding clap_on_literals
no_watched_run_as_json = refl

no_watched_replay : command_in (codes "replay" ∷ codes "--watch" ∷ []) ≡ None
unfolding clap_on_literals
no_watched_replay = refl

unwatched_it_is_none : unwatched_in (codes "run" ∷ codes "--watch" ∷ []) ≡ None
unfolding clap_on_literals
unwatched_it_is_none = refl

a_run_is_unwatched : unwatched_in (codes "run" ∷ []) ≡ Some (Run Lines)
unfolding clap_on_literals
a_run_is_unwatched = refl

no_flag_for_convert : command_in (codes "convert" ∷ codes "--json" ∷ []) ≡ None
unfolding clap_on_literals
no_flag_for_convert = refl

the_word_check : command_in (codes "check" ∷ []) ≡ Some Check
unfolding clap_on_literals
the_word_check = refl

no_flag_for_check : command_in (codes "check" ∷ codes "--json" ∷ []) ≡ None
unfolding clap_on_literals
no_flag_for_check = refl

drilled_with_two_numbers : command_in (codes "drill" ∷ codes "0" ∷ codes "1" ∷ []) ≡ Some (Drill 0 1)
unfolding clap_on_literals
drilled_with_two_numbers = refl

no_drill_without_a_size : command_in (codes "drill" ∷ codes "7" ∷ []) ≡ None
unfolding clap_on_literals
no_drill_without_a_size = refl

made_of_two_numbers : command_in (codes "make" ∷ codes "7" ∷ codes "3" ∷ []) ≡ Some (Make 7 3)
unfolding clap_on_literals
made_of_two_numbers = refl

the_numbers_behind_two_dashes : command_in (codes "make" ∷ codes "--" ∷ codes "7" ∷ codes "3" ∷ []) ≡ Some (Make 7 3)
unfolding clap_on_literals
the_numbers_behind_two_dashes = refl

-- both sides of each number's limits
the_greatest_numbers_made : command_in (codes "make" ∷ codes "18446744073709551615" ∷ codes "10000" ∷ []) ≡ Some (Make 18446744073709551615 10000)
unfolding clap_on_literals
the_greatest_numbers_made = refl

no_seed_above_the_greatest : command_in (codes "make" ∷ codes "18446744073709551616" ∷ codes "1" ∷ []) ≡ None
unfolding clap_on_literals
no_seed_above_the_greatest = refl

no_size_above_the_greatest : command_in (codes "make" ∷ codes "7" ∷ codes "10001" ∷ []) ≡ None
unfolding clap_on_literals
no_size_above_the_greatest = refl

no_size_of_none : command_in (codes "drill" ∷ codes "7" ∷ codes "0" ∷ []) ≡ None
unfolding clap_on_literals
no_size_of_none = refl

compared_under_two_numbers : command_in (codes "compare" ∷ codes "10" ∷ codes "1000" ∷ []) ≡ Some (Compare 10 1000)
unfolding clap_on_literals
compared_under_two_numbers = refl

compared_under_the_least : command_in (codes "compare" ∷ codes "1" ∷ codes "1" ∷ []) ≡ Some (Compare 1 1)
unfolding clap_on_literals
compared_under_the_least = refl

compared_under_the_greatest : command_in (codes "compare" ∷ codes "1000000" ∷ codes "262144" ∷ []) ≡ Some (Compare 1000000 262144)
unfolding clap_on_literals
compared_under_the_greatest = refl

no_share_of_none : command_in (codes "compare" ∷ codes "0" ∷ codes "1000" ∷ []) ≡ None
unfolding clap_on_literals
no_share_of_none = refl

no_share_above_the_greatest : command_in (codes "compare" ∷ codes "1000001" ∷ codes "1000" ∷ []) ≡ None
unfolding clap_on_literals
no_share_above_the_greatest = refl

no_room_of_none : command_in (codes "compare" ∷ codes "10" ∷ codes "0" ∷ []) ≡ None
unfolding clap_on_literals
no_room_of_none = refl

no_room_above_the_greatest : command_in (codes "compare" ∷ codes "1000000" ∷ codes "262145" ∷ []) ≡ None
unfolding clap_on_literals
no_room_above_the_greatest = refl

a_word_too_many : command_in (codes "convert" ∷ codes "now" ∷ []) ≡ None
unfolding clap_on_literals
a_word_too_many = refl

no_words : command_in [] ≡ None
unfolding clap_on_literals
no_words = refl
