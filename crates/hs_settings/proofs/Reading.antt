-- Where the reader stands in a text, and what it answers from there.
use Rattle.std.proofs.Common.{◌≡◌, ◌≢◌, ℕ, ◌+◌, ◌≤◌, Bool, true, false, cond, ◌&&◌, nat_eq, List, [], ◌∷◌, length, Option, Some, None, Ok, Err, refl, sym, ap, subst, ◌∙◌, length-append, arith}
use Rattle.std.specs.Prelude.{option_map}
use Rattle.std.specs.Option.{option_or}
use Rattle.std.specs.List.{All, cons_option}
use Rattle.std.proofs.lemmas.List.Splits.{slice_split_none}
use borrow.Author.Tests.{eqb-true, ltb-true}
use Rattle.hs_text.specs.Judging.{parts_of, first_fault_after, first_fault_in}
use Rattle.hs_text.specs.JudgingLaws.{HasPart, parts_some, line_part, no_newline, IsNext}
use Rattle.hs_text.specs.Agreement.{agrees_err}
use Rattle.hs_text.specs.Steps.{Stops}
use Rattle.hs_text.specs.declared.stop.Stop.{Stop}
use Rattle.hs_text.specs.declared.stop.Stop.TheVariants as stops
use Rattle.hs_settings.specs.declared.refusal.SettingsReason.{SettingsReason}
use Rattle.hs_settings.specs.declared.refusal.SettingsReason.TheVariants as reasons
use Rattle.hs_settings.specs.declared.refusal.SettingsRefusal.{SettingsRefusal}
use Rattle.hs_settings.specs.declared.refusal.SettingsFault.TheVariants as faults
use Rattle.hs_settings.specs.Settings.{PlainService, IsServiceSettings, has_room}
use Rattle.hs_settings.specs.Statements.{Statement, Nothing, Put, Declare, Watch, statement_of}
use Rattle.hs_settings.specs.LookBack.{Past, said, past_said, settings_said}
use Rattle.hs_settings.specs.Faults.{fault_at, fault_of, judging, lines_behind, settings_in, settled, settled_unless, reading_of, Refuses}
use Rattle.hs_settings.specs.Forward.{fresh, after, line_step, fault_for}
use Rattle.hs_settings.proofs.Exact.{line_agrees}
use Rattle.hs_settings.proofs.Keeps.{Keeps, keeps_fresh, line_taken}
use Rattle.hs_settings.proofs.Values.{number_within}

-- what the lines before say is what was read, and the rest of the text has what is left of its fault and of its lines
pub record IsAt (text rest : List ℕ) (lines : ℕ) (p : Past) : Type 0 where
  pub earlier : List (List ℕ)
  pub same : p ≡ past_said (said earlier)
  pub keeps : Keeps p
  pub fault : first_fault_in judging text ≡ first_fault_after judging earlier (parts_of rest)
  pub before : lines_behind [] (parts_of text) ≡ lines_behind earlier (parts_of rest)
  pub count : lines ≡ length earlier
  pub room : lines + length rest ≤ length text

pub at_start : (text : List ℕ) → IsAt text text 0 fresh
unfolding first_fault_in
at_start text = record { earlier = []; same = refl; keeps = keeps_fresh; fault = refl; before = refl; count = refl; room = omega arith }

-- ---- a line more

said_after : (ss : List Statement) (s : Statement) → past_said (s ∷ ss) ≡ after (past_said ss) s
said_after ss Nothing = refl
said_after ss (Put given) = refl
said_after ss (Declare rule) = refl
said_after ss (Watch number rule) = refl

-- the first fault, by that of the next line
abbrev fault_from : List (List ℕ) → List ℕ → List (List ℕ) → Option SettingsReason → Option SettingsRefusal
fault_from earlier line parts fault = option_or (option_map (judging.refusal_at (length earlier + 1)) fault) (first_fault_after judging (line ∷ earlier) parts)

fault_next : (earlier : List (List ℕ)) (line : List ℕ) (parts : List (List ℕ)) → HasPart parts → first_fault_after judging earlier (line ∷ parts) ≡ fault_from earlier line parts (fault_of earlier line)
fault_next earlier line parts some =
    let P : List (List ℕ) → Type 0 = λ ps. first_fault_after judging earlier (line ∷ ps) ≡ fault_from earlier line ps (fault_of earlier line) in
    subst P (sym some.are) refl

lines_next : (earlier : List (List ℕ)) (line : List ℕ) (parts : List (List ℕ)) → HasPart parts → lines_behind earlier (line ∷ parts) ≡ lines_behind (line ∷ earlier) parts
lines_next earlier line parts some =
    let P : List (List ℕ) → Type 0 = λ ps. lines_behind earlier (line ∷ ps) ≡ lines_behind (line ∷ earlier) ps in
    subst P (sym some.are) refl

parts_next : (rest line behind : List ℕ) → IsNext rest line behind → parts_of rest ≡ line ∷ parts_of behind
parts_next rest line behind next = ap parts_of next.split ∙ line_part line behind next.one

fault_line : (text rest line behind : List ℕ) (lines : ℕ) (p : Past) (at : IsAt text rest lines p) → IsNext rest line behind
    → first_fault_in judging text ≡ fault_from at.earlier line (parts_of behind) (fault_at p line)
fault_line text rest line behind lines p at next =
    at.fault ∙ ap (first_fault_after judging at.earlier) (parts_next rest line behind next) ∙ fault_next at.earlier line (parts_of behind) (parts_some behind)
    ∙ ap (λ (q : Past). fault_from at.earlier line (parts_of behind) (fault_at q line)) (sym at.same)

pub at_next : (text rest line behind : List ℕ) (lines : ℕ) (p next : Past) → IsAt text rest lines p → IsNext rest line behind → line_step p line ≡ Ok next → IsAt text behind (lines + 1) next
at_next text rest line behind lines p next at is step =
    let taken = line_taken p next line at.keeps step in
    let size = ap length is.split ∙ length-append line (10 ∷ behind) in
    let room = at.room in
    let count = at.count in
    let spoken : said (line ∷ at.earlier) ≡ taken.statement ∷ said at.earlier = ap (λ (o : Option Statement). cons_option o (said at.earlier)) taken.says in
    record {
      earlier = line ∷ at.earlier;
      same = taken.is ∙ ap (λ (q : Past). after q taken.statement) at.same ∙ sym (said_after (said at.earlier) taken.statement) ∙ ap past_said (sym spoken);
      keeps = taken.keeps;
      fault = fault_line text rest line behind lines p at is ∙ ap (fault_from at.earlier line (parts_of behind)) taken.none;
      before = at.before ∙ ap (lines_behind at.earlier) (parts_next rest line behind is) ∙ lines_next at.earlier line (parts_of behind) (parts_some behind);
      count = omega (arith, count);
      room = omega (arith, size, room);
    }

-- ---- what is answered

pub read_by : (text : List ℕ) (fault : Option SettingsRefusal) → first_fault_in judging text ≡ fault → reading_of text ≡ settled_unless fault (settings_in text)
unfolding reading_of
read_by text fault is = ap (λ (o : Option SettingsRefusal). settled_unless o (settings_in text)) is

-- a line that stopped the reader
pub stopped : (text rest line behind : List ℕ) (lines : ℕ) (p : Past) (stop : Stop SettingsReason) → IsAt text rest lines p → IsNext rest line behind → Stops stop (line_step p line)
    → Refuses text (fault_for (lines + 1) stop)
stopped text rest line behind lines p stops.Memory at is step = tt
stopped text rest line behind lines p (stops.Fault reason) at is step =
    let none = agrees_err (after p) (line_step p line) (fault_at p line) (statement_of line) reason (line_agrees p line) step in
    let first : first_fault_in judging text ≡ Some (record { line = lines + 1; reason = reason }) =
    fault_line text rest line behind lines p at is ∙ ap (fault_from at.earlier line (parts_of behind)) none
    ∙ ap (λ (n : ℕ). Some (judging.refusal_at (n + 1) reason)) (sym at.count) in
    read_by text (Some (record { line = lines + 1; reason = reason })) first

last_part : (rest : List ℕ) → All (λ b. b ≢ 10) rest → parts_of rest ≡ rest ∷ []
last_part rest whole = slice_split_none (λ b. nat_eq b 10) rest (no_newline rest whole)

-- a text that ends within a line
pub cut_off : (text rest : List ℕ) (lines : ℕ) (p : Past) → IsAt text rest lines p → All (λ b. b ≢ 10) rest → nat_eq (length rest) 0 ≡ false
    → reading_of text ≡ Err (faults.Refused (record { line = lines + 1; reason = reasons.Truncated }))
cut_off text rest lines p at one some =
    let first : first_fault_in judging text ≡ Some (record { line = lines + 1; reason = reasons.Truncated }) =
    at.fault ∙ ap (first_fault_after judging at.earlier) (last_part rest one)
    ∙ ap (λ (b : Bool). cond (b && true) None (Some (judging.refusal_at (length at.earlier + 1) reasons.Truncated))) some
    ∙ ap (λ (n : ℕ). Some (judging.refusal_at (n + 1) reasons.Truncated)) (sym at.count) in
    read_by text (Some (record { line = lines + 1; reason = reasons.Truncated })) first

nothing_in : (rest : List ℕ) → nat_eq (length rest) 0 ≡ true → rest ≡ []
nothing_in [] is = refl
nothing_in (b ∷ rest) is = absurd (omega (arith, eqb-true (length (b ∷ rest)) 0 is))

-- a text whose lines are taken
pub at_end : (text rest : List ℕ) (lines : ℕ) (p : Past) → IsAt text rest lines p → nat_eq (length rest) 0 ≡ true → reading_of text ≡ settled (settings_said p)
at_end text rest lines p at empty =
    let none : rest ≡ [] = nothing_in rest empty in
    let first : first_fault_in judging text ≡ None = at.fault ∙ ap (λ (left : List ℕ). first_fault_after judging at.earlier (parts_of left)) none in
    let lines_are : lines_behind [] (parts_of text) ≡ at.earlier = at.before ∙ ap (λ (left : List ℕ). lines_behind at.earlier (parts_of left)) none in
    read_by text None first ∙ ap (λ (ls : List (List ℕ)). settled (settings_said (past_said (said ls)))) lines_are ∙ ap (λ (q : Past). settled (settings_said q)) (sym at.same)

pub settled_well : (s : PlainService) → has_room s ≡ true → settled s ≡ Ok s
settled_well s room = ap (λ (b : Bool). cond b (Ok s) (Err faults.NoRoom)) room

pub settled_ill : (s : PlainService) → has_room s ≡ false → settled s ≡ Err faults.NoRoom
settled_ill s room = ap (λ (b : Bool). cond b (Ok s) (Err faults.NoRoom)) room

pub valid : (p : Past) → Keeps p → has_room (settings_said p) ≡ true → IsServiceSettings (settings_said p)
valid p keeps room =
    let s : PlainService = settings_said p in
    record {
      each = λ setting. number_within p setting keeps.givens;
      rules = keeps.rules;
      autos = keeps.autos;
      room = ltb-true (s.threshold + s.pins + s.clients) s.buffers room;
    }
