-- What is wrong with a line after the lines before it: the first reason of the list that holds. The first line that has a reason
-- is the text's fault. A text without one says the settings, if these leave room below `buffers`.
use Rattle.std.specs.Prelude.{◌≡◌, ℕ, ◌==◌, nat_lt, nat_le, Bool, true, false, not, ◌||◌, List, [], ◌∷◌, ◌++◌, length, codes, Option, Some, None, is_none, is_some, Result, Ok, Err, if◌then◌else◌, refl}
use Rattle.std.specs.List.{list_any}
use Rattle.hs_base.specs.declared.settings.TriggerRule.{TriggerRule}
use Rattle.hs_base.specs.declared.settings.AutoRule.{AutoRule}
use Rattle.hs_base.specs.declared.settings.AutoRule.TheVariants.{Exception, Percentile, Category, Queue}
use Rattle.hs_base.specs.Rules.{is_declared, fired_by}
use Rattle.hs_base.specs.declared.limits.TheConstants.{MAX_TRIGGER, MAX_WEIGHT, MAX_BURST, MAX_RATE, MAX_AUTOS, MIN_WINDOW, MAX_WINDOW, WHOLE_SHARE, MAX_LATERALS}
use Rattle.hs_base.specs.Ranges.{is_out}
use Rattle.hs_text.specs.Text.{has_bad_byte, numbers_of}
use Rattle.hs_text.specs.declared.opening.LineReasons.{LineReasons}
use Rattle.hs_text.specs.Steps.{first_that_holds}
use Rattle.hs_text.specs.Spelling.{spelled}
use Rattle.hs_text.specs.Opening.{line_reasons}
use Rattle.hs_text.specs.Judging.{Judging, parts_of, first_fault_in}
use Rattle.hs_settings.specs.declared.refusal.SettingsReason.{SettingsReason}
use Rattle.hs_settings.specs.declared.refusal.SettingsReason.TheVariants as reasons
use Rattle.hs_settings.specs.declared.refusal.SettingsRefusal.{SettingsRefusal}
use Rattle.hs_settings.specs.declared.refusal.SettingsFault.{SettingsFault}
use Rattle.hs_settings.specs.declared.refusal.SettingsFault.TheVariants as faults
use Rattle.hs_settings.specs.declared.word.Keyword.{Keyword}
use Rattle.hs_settings.specs.declared.word.Keyword.TheVariants as keywords
use Rattle.hs_settings.specs.declared.word.Kind.{Kind}
use Rattle.hs_settings.specs.Settings.{PlainService, least_of, most_of, said_of, has_room}
use Rattle.hs_settings.specs.Statements.{Statement, Nothing, Put, Declare, Watch, keyword_of, kind_of, kind_count, may_have, says, is_skipped}
use Rattle.hs_settings.specs.LookBack.{Past, past_said, said, settings_said}

-- ---- the form of a line: how many words stand behind the first, and which of them are numbers

-- the third word of an `auto` line that has one is a kind
abbrev pub has_no_kind : Keyword → List (List ℕ) → Bool
has_no_kind keywords.Auto (number ∷ kind ∷ words) = is_none (kind_of kind)
has_no_kind _ words = false

-- an earlier line gives the same setting
abbrev pub is_twice : Past → Keyword → Bool
is_twice past (keywords.Setting setting) = is_some (said_of past.givens setting)
is_twice past _ = false

abbrev pub is_count_of : Option Kind → List (List ℕ) → Bool
is_count_of None words = false
is_count_of (Some kind) words = length words == kind_count kind

abbrev pub has_wrong_count : Keyword → List (List ℕ) → Bool
has_wrong_count keywords.Auto (number ∷ kind ∷ words) = not (is_count_of (kind_of kind) words)
has_wrong_count keywords.Auto words = true
has_wrong_count keyword words = not (may_have keyword (length words))

-- the words in the place of a number
abbrev pub number_words : Keyword → List (List ℕ) → List (List ℕ)
number_words keywords.Auto (number ∷ kind ∷ words) = number ∷ words
number_words keyword words = words

abbrev pub has_wrong_number : Keyword → List (List ℕ) → Bool
has_wrong_number keyword words = is_none (numbers_of (number_words keyword words))

-- ---- what a line says, after the lines before it

abbrev pub is_rule_out : TriggerRule → Bool
is_rule_out rule =
    is_out 1 MAX_TRIGGER rule.id.0 || is_out 1 MAX_WEIGHT rule.weight || is_out 1 MAX_BURST rule.burst || nat_lt MAX_RATE rule.rate

abbrev pub is_window_out : ℕ → ℕ → Bool
is_window_out window share = is_out MIN_WINDOW MAX_WINDOW window || nat_lt share 1 || nat_le WHOLE_SHARE share

abbrev pub is_auto_out : AutoRule → Bool
is_auto_out (Exception trigger) = false
is_auto_out (Percentile trigger window share) = is_window_out window share
is_auto_out (Category trigger window share) = is_window_out window share
is_auto_out (Queue trigger window share laterals) = is_window_out window share || is_out 1 MAX_LATERALS laterals

-- An id is tested where it is declared alone.
abbrev pub is_out_of_range : Statement → Bool
is_out_of_range Nothing = false
is_out_of_range (Put given) = is_out (least_of given.setting) (most_of given.setting) given.number
is_out_of_range (Declare rule) = is_rule_out rule
is_out_of_range (Watch number rule) = nat_le MAX_AUTOS number || is_auto_out rule

-- a trigger id that is not greater than those before it, or an autotrigger that is not the next
abbrev pub is_out_of_order : Past → Statement → Bool
is_out_of_order past (Declare rule) = list_any (λ (earlier : TriggerRule). nat_le rule.id.0 earlier.id.0) past.rules
is_out_of_order past (Watch number rule) = not (number == length past.autos)
is_out_of_order past _ = false

-- a trigger id that no line declared
abbrev pub names_unknown : Past → Statement → Bool
names_unknown past (Watch number rule) = not (is_declared past.rules (fired_by rule))
names_unknown past _ = false

-- ---- the reasons in their order

-- those that ask what a line says
abbrev pub statement_reasons : Past → Option Statement → List (Bool × SettingsReason)
statement_reasons past None = []
statement_reasons past (Some statement) =
    (is_out_of_range statement, reasons.Range) ∷ (is_out_of_order past statement, reasons.Order) ∷ (names_unknown past statement, reasons.Unknown) ∷ []

-- those of a first word with the words behind it
abbrev pub keyword_reasons : Past → Keyword → List (List ℕ) → List (Bool × SettingsReason)
keyword_reasons past keyword words =
    (has_no_kind keyword words, reasons.Word) ∷ (is_twice past keyword, reasons.Twice) ∷ (has_wrong_count keyword words, reasons.Count)
    ∷ (has_wrong_number keyword words, reasons.Number) ∷ statement_reasons past (says keyword words)

-- those before its first word
abbrev pub before_words : LineReasons SettingsReason
before_words = record { byte = reasons.Byte; spaces = reasons.Spaces; word = reasons.Word }

-- of a line that is empty or a comment only the bytes are asked
abbrev pub reasons_of : Past → Bool → List ℕ → List (Bool × SettingsReason)
reasons_of past true line = (has_bad_byte line, reasons.Byte) ∷ []
reasons_of past false line = line_reasons before_words keyword_of (keyword_reasons past) line

-- what is wrong with a line, after lines that say this
unfoldable pub fault_at : Past → List ℕ → Option SettingsReason
fault_at past line = first_that_holds (reasons_of past (is_skipped line) line)

-- what is wrong with a line after the earlier lines, the newest first
abbrev pub fault_of : List (List ℕ) → List ℕ → Option SettingsReason
fault_of earlier line = fault_at (past_said (said earlier)) line

-- ---- texts

-- a text may end behind any line that has ended
abbrev pub judging : Judging SettingsReason SettingsRefusal
judging =
    record {
      fault_of = fault_of;
      is_whole = λ earlier. true;
      cut_off = reasons.Truncated;
      refusal_at = λ line reason. record { line = line; reason = reason };
    }

-- the lines of a text, the newest first, by its parts between newlines and the lines before these
abbrev pub lines_behind : List (List ℕ) → List (List ℕ) → List (List ℕ)
lines_behind earlier [] = earlier
lines_behind earlier (rest ∷ []) = earlier
lines_behind earlier (line ∷ next ∷ more) = lines_behind (line ∷ earlier) (next ∷ more)

-- the settings that the lines of a text say
abbrev pub settings_in : List ℕ → PlainService
settings_in text = settings_said (past_said (said (lines_behind [] (parts_of text))))

-- the settings where they leave room
abbrev pub settled : PlainService → Result PlainService SettingsFault
settled settings = if has_room settings then Ok settings else Err faults.NoRoom

-- the first bad line, or these settings
abbrev pub settled_unless : Option SettingsRefusal → PlainService → Result PlainService SettingsFault
settled_unless None settings = settled settings
settled_unless (Some refusal) settings = Err (faults.Refused refusal)

-- the settings that a text says, or why it says none
unfoldable pub reading_of : List ℕ → Result PlainService SettingsFault
reading_of text = settled_unless (first_fault_in judging text) (settings_in text)

-- an error that is not want of memory is the text's
abbrev pub Refuses : List ℕ → SettingsFault → Type 0
Refuses text faults.Memory = Unit {0}
Refuses text fault = reading_of text ≡ Err fault

-- worked examples: a line with each reason
by_the_line_alone : (fault_of [] (99 ∷ 9 ∷ []) ≡ Some reasons.Byte) × (fault_of [] (codes "# a" ++ 200 ∷ []) ≡ Some reasons.Byte) × (fault_of [] (codes "nodes  4") ≡ Some reasons.Spaces)
    × (fault_of [] (codes " # a") ≡ Some reasons.Spaces) × (fault_of [] (codes "stride 8") ≡ Some reasons.Word) × (fault_of [] [] ≡ None) × (fault_of [] (codes "#  a ") ≡ None)
unfolding fault_at spelled
by_the_line_alone = (refl, refl, refl, refl, refl, refl, refl)

by_the_words : (fault_of [] (codes "auto 0 median 1") ≡ Some reasons.Word) × (fault_of (codes "nodes 4" ∷ []) (codes "nodes") ≡ Some reasons.Twice)
    × (fault_of [] (codes "nodes 4 5") ≡ Some reasons.Count) × (fault_of [] (codes "triggerid 4 1") ≡ Some reasons.Count) × (fault_of [] (codes "auto 0") ≡ Some reasons.Count)
    × (fault_of [] (codes "nodes 04") ≡ Some reasons.Number)
unfolding fault_at spelled
by_the_words = (refl, refl, refl, refl, refl, refl)

by_what_is_said : (fault_of [] (codes "nodes 129") ≡ Some reasons.Range) × (fault_of [] (codes "nodes 128") ≡ None) × (fault_of [] (codes "triggerid 65") ≡ Some reasons.Range)
    × (fault_of (codes "triggerid 4" ∷ []) (codes "triggerid 4") ≡ Some reasons.Order) × (fault_of (codes "triggerid 4" ∷ []) (codes "auto 1 exception 4") ≡ Some reasons.Order)
    × (fault_of (codes "triggerid 4" ∷ []) (codes "auto 0 exception 5") ≡ Some reasons.Unknown) × (fault_of (codes "triggerid 4" ∷ []) (codes "auto 0 exception 4") ≡ None)
unfolding fault_at spelled
by_what_is_said = (refl, refl, refl, refl, refl, refl, refl)
