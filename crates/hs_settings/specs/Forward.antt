-- What the next line makes of what was read so far, or why it is refused. The reader's own functions are stated by these. That they
-- agree with the look back over the earlier lines is proved apart.
use Rattle.std.specs.Prelude.{ℕ, ◌==◌, Bool, true, false, not, List, [], ◌∷◌, ◌++◌, length, Result, Ok}
use Rattle.std.specs.List.{AllByRecursion}
use Rattle.hs_base.specs.Ranges.{Within}
use Rattle.hs_text.specs.Text.{number_of, has_bad_byte}
use Rattle.hs_text.specs.Steps.{◌>>=◌, unless, value_or}
use Rattle.hs_text.specs.WordsLeft.{next_word}
use Rattle.hs_text.specs.Opening.{opened}
use Rattle.hs_text.specs.declared.stop.Stop.{Stop}
use Rattle.hs_text.specs.declared.stop.Stop.TheVariants as stops
use Rattle.hs_settings.specs.declared.refusal.SettingsReason.{SettingsReason}
use Rattle.hs_settings.specs.declared.refusal.SettingsReason.TheVariants as reasons
use Rattle.hs_settings.specs.declared.refusal.SettingsFault.{SettingsFault}
use Rattle.hs_settings.specs.declared.refusal.SettingsFault.TheVariants as faults
use Rattle.hs_settings.specs.declared.setting.GivenNumber.{GivenNumber}
use Rattle.hs_settings.specs.declared.word.Keyword.{Keyword}
use Rattle.hs_settings.specs.declared.word.Keyword.TheVariants as keywords
use Rattle.hs_settings.specs.declared.numbers.Numbers.{Numbers}
use Rattle.hs_settings.specs.declared.draft.Reader.{Reader}
use Rattle.hs_settings.specs.Settings.{least_of, most_of}
use Rattle.hs_settings.specs.Statements.{Statement, Nothing, Put, Declare, Watch, keyword_of, kind_of, kind_count, auto_rule, may_have, numbers_say, is_skipped}
use Rattle.hs_settings.specs.LookBack.{Past}
use Rattle.hs_settings.specs.Faults.{is_twice, is_out_of_range, is_out_of_order, names_unknown, before_words}

-- the fault for what ended the reading of this line
abbrev pub fault_for : ℕ → Stop SettingsReason → SettingsFault
fault_for line stops.Memory = faults.Memory
fault_for line (stops.Fault reason) = faults.Refused (record { line = line; reason = reason })

-- before the first line
abbrev pub fresh : Past
fresh = record { givens = []; rules = []; autos = [] }

-- what a reader has read
abbrev pub past_of : Reader → Past
past_of r = record { givens = r.givens.items; rules = r.rules.items; autos = r.autos.items }

-- what was read after a line that says this
abbrev pub after : Past → Statement → Past
after p Nothing = p
after p (Put given) = record p { givens = p.givens ++ given ∷ [] }
after p (Declare rule) = record p { rules = p.rules ++ rule ∷ [] }
after p (Watch number rule) = record p { autos = p.autos ++ rule ∷ [] }

-- ---- what the next line makes of it

abbrev pub statement_step : Past → Statement → Result Past SettingsReason
statement_step p s =
    unless (is_out_of_range s) reasons.Range
    (unless (is_out_of_order p s) reasons.Order
    (unless (names_unknown p s) reasons.Unknown (Ok (after p s))))

-- the number that the next word is, and the words behind it; 0 where no word is left
abbrev pub next_number : List (List ℕ) → Result (ℕ × List (List ℕ)) SettingsReason
next_number [] = Ok (0, [])
next_number (word ∷ words) = value_or reasons.Number (number_of word) >>= λ n. Ok (n, words)

unfoldable pub four_numbers : List (List ℕ) → Result Numbers SettingsReason
four_numbers words = do
  first ← next_number words
  second ← next_number first.1
  third ← next_number second.1
  fourth ← next_number third.1
  Ok (record { first = first.0; second = second.0; third = third.0; fourth = fourth.0 })

-- a line of numbers alone
abbrev pub numbers_step : Past → Keyword → List (List ℕ) → Result Past SettingsReason
numbers_step p keyword words =
    unless (is_twice p keyword) reasons.Twice
    (unless (not (may_have keyword (length words))) reasons.Count (four_numbers words >>= λ n. statement_step p (numbers_say keyword (length words) n)))

unfoldable pub auto_step : Past → List (List ℕ) → Result Past SettingsReason
auto_step p words = do
  first ← next_word reasons.Count words
  second ← next_word reasons.Count first.1
  kind ← value_or reasons.Word (kind_of second.0)
  unless (not (length second.1 == kind_count kind)) reasons.Count do
    number ← value_or reasons.Number (number_of first.0)
    numbers ← four_numbers second.1
    statement_step p (Watch number (auto_rule kind numbers))

abbrev pub keyword_step : Past → Keyword → List (List ℕ) → Result Past SettingsReason
keyword_step p keywords.Auto words = auto_step p words
keyword_step p keyword words = numbers_step p keyword words

abbrev pub found_step : Past → Keyword × List (List ℕ) → Result Past SettingsReason
found_step p found = keyword_step p found.0 found.1

-- a line with words, and one that is empty or a comment
unfoldable pub words_step : Past → List ℕ → Result Past SettingsReason
words_step p line = opened before_words keyword_of line >>= found_step p

abbrev pub skip_step : Past → List ℕ → Result Past SettingsReason
skip_step p line = unless (has_bad_byte line) reasons.Byte (Ok p)

abbrev pub step_of : Past → Bool → List ℕ → Result Past SettingsReason
step_of p true line = skip_step p line
step_of p false line = words_step p line

abbrev pub line_step : Past → List ℕ → Result Past SettingsReason
line_step p line = step_of p (is_skipped line) line

-- the numbers that were given are in their ranges
abbrev pub AreWithin : List GivenNumber → Type 0
AreWithin givens = AllByRecursion (λ (given : GivenNumber). Within (least_of given.setting) (most_of given.setting) given.number) givens
