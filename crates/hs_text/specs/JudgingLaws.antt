-- What holds of a text whose lines are judged, for any reader that goes forward through it: it is read up to its
-- first fault, or to its end. Crates above cite these theorems of their own readers.
use Rattle.std.proofs.Common.{◌≡◌, ◌≢◌, ℕ, ◌+◌, ◌≤◌, Bool, true, false, cond, nat_eq, nat_lt, ◌||◌, ◌&&◌, List, [], ◌∷◌, ◌++◌, length, get_or, Option, Some, None, Result, Ok, Err, refl, sym, ap, subst, ◌∙◌, append_assoc, append-nil, length-append, arith}
use borrow.Author.Tests.{ne_eqb, eqb-true}
use Rattle.std.specs.Prelude.{option_map, if◌then◌else◌}
use Rattle.std.specs.Option.{option_or}
use Rattle.std.specs.List.{All, slice_split, onto_first, join_with_byte}
use Rattle.std.proofs.lemmas.List.{append_cancel_right}
use Rattle.std.proofs.lemmas.Bool.{and_parts}
use Rattle.std.proofs.lemmas.List.Elements.{All-cons, All-nil}
use Rattle.std.proofs.lemmas.List.Splits.{slice_split_at, slice_split_none, join_with_byte-slice_split}
use Rattle.hs_text.specs.Text.{words_of, text_of, has_bad_byte}
use Rattle.hs_text.specs.Steps.{◌>>=◌}
use Rattle.hs_text.specs.Judging.{Judging, parts_of, first_fault_after, first_fault_in, onto}

-- ---- parts

pub record HasPart (parts : List (List ℕ)) : Type 0 where
  pub first : List ℕ
  pub others : List (List ℕ)
  pub are : parts ≡ first ∷ others

onto_some : (b : ℕ) (parts : List (List ℕ)) → HasPart (onto_first b parts)
onto_some b [] = record { first = b ∷ []; others = []; are = refl }
onto_some b (part ∷ parts) = record { first = b ∷ part; others = parts; are = refl }

cond_some : (p : Bool) (xs ys : List (List ℕ)) → HasPart xs → HasPart ys → HasPart (cond p xs ys)
cond_some true xs ys x y = x
cond_some false xs ys x y = y

split_some : (c : ℕ) (text : List ℕ) → HasPart (slice_split (λ b. nat_eq b c) text)
split_some c [] = record { first = []; others = []; are = refl }
split_some c (b ∷ text) =
    cond_some (nat_eq b c) _ _ (record { first = []; others = slice_split (λ n. nat_eq n c) text; are = refl }) (onto_some b (slice_split (λ n. nat_eq n c) text))

-- a line has a word
pub words_some : (line : List ℕ) → HasPart (words_of line)
words_some line = split_some 32 line

pub parts_some : (text : List ℕ) → HasPart (parts_of text)
parts_some text = split_some 10 text

push_some : (lines : List (List ℕ)) (rest : List ℕ) → HasPart (lines ++ rest ∷ [])
push_some [] rest = record { first = rest; others = []; are = refl }
push_some (line ∷ lines) rest = record { first = line; others = lines ++ rest ∷ []; are = refl }

pub no_newline : (line : List ℕ) → All (λ b. b ≢ 10) line → All (λ b. nat_eq b 10 ≡ false) line
no_newline line whole = λ k d within. ne_eqb (get_or line k d) 10 (whole k d within)

pub line_part : (line behind : List ℕ) → All (λ b. b ≢ 10) line → parts_of (line ++ 10 ∷ behind) ≡ line ∷ parts_of behind
line_part line behind whole = slice_split_at (λ b. nat_eq b 10) line 10 behind (no_newline line whole) refl

last_part : (rest : List ℕ) → All (λ b. b ≢ 10) rest → parts_of rest ≡ rest ∷ []
last_part rest whole = slice_split_none (λ b. nat_eq b 10) rest (no_newline rest whole)

printed_byte : (b : ℕ) (any : Bool) → (nat_lt b 32 || nat_lt 126 b || any) ≡ false → (b ≢ 10) × (any ≡ false)
printed_byte b any is = (λ e. let low : nat_lt b 32 ≡ true = ap (λ n. nat_lt n 32) e in grind arith, grind arith)

-- a line that prints is one line
printed : (line : List ℕ) → has_bad_byte line ≡ false → All (λ b. b ≢ 10) line
printed [] is = All-nil (λ b. b ≢ 10)
printed (b ∷ line) is =
    let parts = printed_byte b (has_bad_byte line) is in
    All-cons (λ n. n ≢ 10) b line parts.0 (printed line parts.1)

pub nothing_in : (rest : List ℕ) → nat_eq (length rest) 0 ≡ true → rest ≡ []
nothing_in [] is = refl
nothing_in (b ∷ rest) is = absurd (omega (arith, eqb-true (length (b ∷ rest)) 0 is))

-- ---- texts of lines

pub onto-append : {A : Type 0} (earlier more : List A) → onto earlier more ≡ onto earlier [] ++ more
onto-append [] more = refl
onto-append (x ∷ earlier) more = onto-append earlier (x ∷ more) ∙ sym (append_assoc (onto earlier []) (x ∷ []) more) ∙ ap (λ xs. xs ++ more) (sym (onto-append earlier (x ∷ [])))

pub text_of-append : (lines more : List (List ℕ)) → text_of (lines ++ more) ≡ text_of lines ++ text_of more
text_of-append [] more = refl
text_of-append (line ∷ lines) more = ap (λ (t : List ℕ). (line ++ 10 ∷ []) ++ t) (text_of-append lines more) ∙ sym (append_assoc (line ++ 10 ∷ []) (text_of lines) (text_of more))

text_next : (earlier : List (List ℕ)) (line behind : List ℕ) → text_of (onto earlier []) ++ (line ++ 10 ∷ behind) ≡ text_of (onto (line ∷ earlier) []) ++ behind
text_next earlier line behind =
    let front : List ℕ = text_of (onto earlier []) in
    let last : text_of (onto (line ∷ earlier) []) ≡ front ++ text_of (line ∷ []) = ap text_of (onto-append earlier (line ∷ [])) ∙ text_of-append (onto earlier []) (line ∷ []) in
    ap (λ (t : List ℕ). front ++ t) (sym (append_assoc line (10 ∷ []) behind)) ∙ sym (append_assoc front (line ++ 10 ∷ []) behind)
    ∙ ap (λ (t : List ℕ). t ++ behind) (ap (λ (t : List ℕ). front ++ t) (sym (append-nil (line ++ 10 ∷ []))) ∙ sym last)

text_push : (lines : List (List ℕ)) → join_with_byte 10 (lines ++ [] ∷ []) ≡ text_of lines
text_push [] = refl
text_push (line ∷ []) = sym (append-nil (line ++ 10 ∷ []))
text_push (line ∷ next ∷ lines) = ap (λ (t : List ℕ). line ++ 10 ∷ t) (text_push (next ∷ lines)) ∙ sym (append_assoc line (10 ∷ []) (text_of (next ∷ lines)))

-- ---- a reader

-- A reader keeps a draft, which sees the lines before. The next line is taken where it has no fault after them, and refused
-- for its fault.
pub record Reader (R F D : Type 0) : Type 1 where
  pub judging : Judging R F
  pub step : D → List ℕ → Result D R
  pub done : D → Bool
  pub start : D
  pub Sees : D → List (List ℕ) → Type 0
  pub starts : Sees start []
  pub takes : (d next : D) (earlier : List (List ℕ)) (line : List ℕ) → Sees d earlier → step d line ≡ Ok next → (judging.fault_of earlier line ≡ None) × Sees next (line ∷ earlier)
  pub refuses : (d : D) (earlier : List (List ℕ)) (line : List ℕ) (reason : R) → Sees d earlier → step d line ≡ Err reason → judging.fault_of earlier line ≡ Some reason
  pub ends : (d : D) (earlier : List (List ℕ)) → Sees d earlier → judging.is_whole earlier ≡ done d
  pub prints : (d next : D) (line : List ℕ) → step d line ≡ Ok next → has_bad_byte line ≡ false

-- the first fault, by the fault of the next line
abbrev faults_from : {R F : Type 0} → Judging R F → List (List ℕ) → List ℕ → List (List ℕ) → Option R → Option F
faults_from judging earlier line parts fault = option_or (option_map (judging.refusal_at (length earlier + 1)) fault) (first_fault_after judging (line ∷ earlier) parts)

fault_next : {R F : Type 0} (judging : Judging R F) (earlier : List (List ℕ)) (line : List ℕ) (parts : List (List ℕ)) → HasPart parts
    → first_fault_after judging earlier (line ∷ parts) ≡ faults_from judging earlier line parts (judging.fault_of earlier line)
fault_next {R} {F} judging earlier line parts some =
    let P : List (List ℕ) → Type 0 = λ ps. first_fault_after judging earlier (line ∷ ps) ≡ faults_from judging earlier line ps (judging.fault_of earlier line) in
    subst P (sym some.are) refl

-- how far a text was read: the lines before, what is left, the number of the next line, and the draft
pub record IsReading {R F D : Type 0} (reader : Reader R F D) (text rest : List ℕ) (number : ℕ) (d : D) : Type 0 where
  pub earlier : List (List ℕ)
  pub sees : reader.Sees d earlier
  pub before : text ≡ text_of (onto earlier []) ++ rest
  pub fault : first_fault_in reader.judging text ≡ first_fault_after reader.judging earlier (parts_of rest)
  pub counted : number ≡ length earlier + 1
  pub room : number + length rest ≤ length text + 1

pub reading_starts : {R F D : Type 0} (reader : Reader R F D) (text : List ℕ) → IsReading reader text text 1 reader.start
unfolding first_fault_in
reading_starts reader text = record { earlier = []; sees = reader.starts; before = refl; fault = refl; counted = refl; room = omega arith }

-- the next line stands whole before what is behind it
pub record IsNext (rest line behind : List ℕ) : Type 0 where
  pub split : rest ≡ line ++ 10 ∷ behind
  pub one : All (λ b. b ≢ 10) line

fault_line : {R F D : Type 0} (reader : Reader R F D) (text rest line behind : List ℕ) (n : ℕ) (d : D) (reading : IsReading reader text rest n d) → IsNext rest line behind
    → first_fault_in reader.judging text ≡ faults_from reader.judging reading.earlier line (parts_of behind) (reader.judging.fault_of reading.earlier line)
fault_line reader text rest line behind n d reading next =
    reading.fault ∙ ap (λ (left : List ℕ). first_fault_after reader.judging reading.earlier (parts_of left)) next.split ∙ ap (first_fault_after reader.judging reading.earlier) (line_part line behind next.one)
    ∙ fault_next reader.judging reading.earlier line (parts_of behind) (parts_some behind)

pub reading_goes_on : {R F D : Type 0} (reader : Reader R F D) (text rest line behind : List ℕ) (n : ℕ) (d draft : D) → IsReading reader text rest n d → IsNext rest line behind
    → reader.step d line ≡ Ok draft → IsReading reader text behind (n + 1) draft
reading_goes_on reader text rest line behind n d draft reading next is =
    let earlier : List (List ℕ) = reading.earlier in
    let taken = reader.takes d draft earlier line reading.sees is in
    let size = ap length next.split ∙ length-append line (10 ∷ behind) in
    let room = reading.room in
    let counted = reading.counted in
    record {
      earlier = line ∷ earlier;
      sees = taken.1;
      before = reading.before ∙ ap (λ (left : List ℕ). text_of (onto earlier []) ++ left) next.split ∙ text_next earlier line behind;
      fault = fault_line reader text rest line behind n d reading next ∙ ap (faults_from reader.judging earlier line (parts_of behind)) taken.0;
      counted = omega (arith, counted);
      room = omega (arith, size, room);
    }

pub line_refused : {R F D : Type 0} (reader : Reader R F D) (text rest line behind : List ℕ) (n : ℕ) (d : D) (reason : R) → IsReading reader text rest n d → IsNext rest line behind
    → reader.step d line ≡ Err reason → first_fault_in reader.judging text ≡ Some (reader.judging.refusal_at n reason)
line_refused reader text rest line behind n d reason reading next is =
    fault_line reader text rest line behind n d reading next
    ∙ ap (faults_from reader.judging reading.earlier line (parts_of behind)) (reader.refuses d reading.earlier line reason reading.sees is)
    ∙ ap (λ (k : ℕ). Some (reader.judging.refusal_at k reason)) (sym reading.counted)

-- the fault of a text that may end or not
abbrev cut_unless : {R F : Type 0} → Judging R F → ℕ → Bool → Option F
cut_unless judging n whole = if whole then None else Some (judging.refusal_at n judging.cut_off)

fault_end : {R F D : Type 0} (reader : Reader R F D) (text rest : List ℕ) (n : ℕ) (d : D) → IsReading reader text rest n d → All (λ b. b ≢ 10) rest
    → first_fault_in reader.judging text ≡ cut_unless reader.judging n (nat_eq (length rest) 0 && reader.done d)
fault_end reader text rest n d reading one =
    reading.fault ∙ ap (first_fault_after reader.judging reading.earlier) (last_part rest one)
    ∙ ap (λ (b : Bool). cut_unless reader.judging (length reading.earlier + 1) (nat_eq (length rest) 0 && b)) (reader.ends d reading.earlier reading.sees)
    ∙ ap (λ (k : ℕ). cut_unless reader.judging k (nat_eq (length rest) 0 && reader.done d)) (sym reading.counted)

pub text_cut_off : {R F D : Type 0} (reader : Reader R F D) (text rest : List ℕ) (n : ℕ) (d : D) → IsReading reader text rest n d → All (λ b. b ≢ 10) rest
    → (nat_eq (length rest) 0 && reader.done d) ≡ false → first_fault_in reader.judging text ≡ Some (reader.judging.refusal_at n reader.judging.cut_off)
text_cut_off reader text rest n d reading one is = fault_end reader text rest n d reading one ∙ ap (cut_unless reader.judging n) is

-- a text that the reader makes this draft of
pub record Makes {R F D : Type 0} (reader : Reader R F D) (text : List ℕ) (d : D) : Type 0 where
  pub earlier : List (List ℕ)
  pub sees : reader.Sees d earlier
  pub ended : reader.done d ≡ true
  pub spelled : text ≡ text_of (onto earlier [])

pub text_read : {R F D : Type 0} (reader : Reader R F D) (text rest : List ℕ) (n : ℕ) (d : D) → IsReading reader text rest n d → All (λ b. b ≢ 10) rest
    → (nat_eq (length rest) 0 && reader.done d) ≡ true → Makes reader text d × (first_fault_in reader.judging text ≡ None)
text_read reader text rest n d reading one is =
    let parts = and_parts (nat_eq (length rest) 0) (reader.done d) is in
    let before = reading.before ∙ ap (λ (left : List ℕ). text_of (onto reading.earlier []) ++ left) (nothing_in rest parts.0) ∙ append-nil (text_of (onto reading.earlier [])) in (
      record { earlier = reading.earlier; sees = reading.sees; ended = parts.1; spelled = before },
      fault_end reader text rest n d reading one ∙ ap (cut_unless reader.judging n) is,
    )

-- ---- a text without a fault is read to its end

nothing_left : {R F : Type 0} (judging : Judging R F) (n : ℕ) (b : Bool) → cut_unless judging n b ≡ None → b ≡ true
nothing_left judging n true e = refl
nothing_left judging n false e = cc

no_fault : {R F : Type 0} (refusal : R → F) (fault : Option R) (more : Option F) → option_or (option_map refusal fault) more ≡ None → (fault ≡ None) × (more ≡ None)
no_fault refusal None more e = (refl, e)
no_fault refusal (Some reason) more e = cc

-- what the reader makes of earlier lines with others and what stands behind the last newline
record MakesParts {R F D : Type 0} (reader : Reader R F D) (earlier parts : List (List ℕ)) : Type 0 where
  draft : D
  lines : List (List ℕ)
  sees : reader.Sees draft lines
  ended : reader.done draft ≡ true
  are : onto earlier parts ≡ onto lines ([] ∷ [])

made_step : {R F D : Type 0} (reader : Reader R F D) (d : D) (earlier : List (List ℕ)) (line : List ℕ) (parts : List (List ℕ)) (r : Result D R) → reader.step d line ≡ r → reader.Sees d earlier
    → reader.judging.fault_of earlier line ≡ None → ((next : D) → reader.Sees next (line ∷ earlier) → MakesParts reader (line ∷ earlier) parts) → MakesParts reader (line ∷ earlier) parts
made_step reader d earlier line parts (Ok next) is sees none later = later next (reader.takes d next earlier line sees is).1
made_step reader d earlier line parts (Err reason) is sees none later = let some = reader.refuses d earlier line reason sees is in cc

made_parts : {R F D : Type 0} (reader : Reader R F D) (d : D) (earlier : List (List ℕ)) (first : List ℕ) (others : List (List ℕ)) → reader.Sees d earlier
    → first_fault_after reader.judging earlier (first ∷ others) ≡ None → MakesParts reader earlier (first ∷ others)
made_parts reader d earlier rest [] sees e =
    let whole = reader.judging.is_whole earlier in
    let parts = and_parts (nat_eq (length rest) 0) whole (nothing_left reader.judging (length earlier + 1) (nat_eq (length rest) 0 && whole) e) in
    record { draft = d; lines = earlier; sees = sees; ended = sym (reader.ends d earlier sees) ∙ parts.1; are = ap (λ (x : List ℕ). onto earlier (x ∷ [])) (nothing_in rest parts.0) }
made_parts reader d earlier line (next ∷ more) sees e =
    let none = no_fault (reader.judging.refusal_at (length earlier + 1)) (reader.judging.fault_of earlier line) (first_fault_after reader.judging (line ∷ earlier) (next ∷ more)) e in
    let made = made_step reader d earlier line (next ∷ more) (reader.step d line) refl sees none.0 (λ draft seen. made_parts reader draft (line ∷ earlier) next more seen none.1) in
    record { draft = made.draft; lines = made.lines; sees = made.sees; ended = made.ended; are = made.are }

onto_end : (earlier more : List (List ℕ)) → onto earlier (more ++ [] ∷ []) ≡ onto earlier more ++ [] ∷ []
onto_end [] more = refl
onto_end (line ∷ earlier) more = onto_end earlier (line ∷ more)

pub faultless_made : {R F D : Type 0} (reader : Reader R F D) (text : List ℕ) → first_fault_in reader.judging text ≡ None → (d : D) × Makes reader text d
unfolding first_fault_in
faultless_made reader text e =
    let some = parts_some text in
    let made = made_parts reader reader.start [] some.first some.others reader.starts (ap (first_fault_after reader.judging []) (sym some.are) ∙ e) in (
      made.draft,
      record {
        earlier = made.lines;
        sees = made.sees;
        ended = made.ended;
        spelled = sym (join_with_byte-slice_split 10 text) ∙ ap (join_with_byte 10) (some.are ∙ made.are ∙ onto_end made.lines []) ∙ text_push (onto made.lines []);
      },
    )

-- ---- lines that are taken one after another

abbrev pub run : {R D : Type 0} → (D → List ℕ → Result D R) → D → List (List ℕ) → Result D R
run step d [] = Ok d
run step d (line ∷ lines) = step d line >>= λ next. run step next lines

-- what follows a step that ended well
after_step : {R D : Type 0} {P : Type 0} (next : D → Result D R) (last : D) (r : Result D R) → (r >>= next) ≡ Ok last → ((d : D) → r ≡ Ok d → next d ≡ Ok last → P) → P
after_step next last (Ok d) whole later = later d refl whole
after_step next last (Err reason) whole later = cc

run_parts : {R F D : Type 0} (reader : Reader R F D) (d last : D) (lines : List (List ℕ)) (rest : List ℕ) → run reader.step d lines ≡ Ok last → parts_of (text_of lines ++ rest) ≡ lines ++ parts_of rest
run_parts reader d last [] rest whole = refl
run_parts reader d last (line ∷ lines) rest whole =
    after_step (λ next. run reader.step next lines) last (reader.step d line) whole (λ next is later.
    ap parts_of (append_assoc (line ++ 10 ∷ []) (text_of lines) rest ∙ append_assoc line (10 ∷ []) (text_of lines ++ rest))
    ∙ line_part line (text_of lines ++ rest) (printed line (reader.prints d next line is)) ∙ ap (λ (parts : List (List ℕ)). line ∷ parts) (run_parts reader next last lines rest later))

clean_run : {R F D : Type 0} (reader : Reader R F D) (d last : D) (earlier lines : List (List ℕ)) → reader.Sees d earlier → run reader.step d lines ≡ Ok last → reader.done last ≡ true
    → first_fault_after reader.judging earlier (lines ++ [] ∷ []) ≡ None
clean_run reader d last earlier [] sees whole is =
    let same : d ≡ last = cc in
    ap (cut_unless reader.judging (length earlier + 1)) (reader.ends d earlier sees ∙ ap reader.done same ∙ is)
clean_run reader d last earlier (line ∷ lines) sees whole is =
    fault_next reader.judging earlier line (lines ++ [] ∷ []) (push_some lines [])
    ∙ after_step (λ next. run reader.step next lines) last (reader.step d line) whole (λ next step later.
    let taken = reader.takes d next earlier line sees step in
    ap (faults_from reader.judging earlier line (lines ++ [] ∷ [])) taken.0 ∙ clean_run reader next last (line ∷ earlier) lines taken.1 later is)

-- a text whose lines are taken up to the end has no fault
pub run_clean : {R F D : Type 0} (reader : Reader R F D) (last : D) (lines : List (List ℕ)) → run reader.step reader.start lines ≡ Ok last → reader.done last ≡ true → first_fault_in reader.judging (text_of lines) ≡ None
unfolding first_fault_in
run_clean reader last lines whole is =
    ap (λ (text : List ℕ). first_fault_after reader.judging [] (parts_of text)) (sym (append-nil (text_of lines)))
    ∙ ap (first_fault_after reader.judging []) (run_parts reader reader.start last lines [] whole) ∙ clean_run reader reader.start last [] lines reader.starts whole is

-- ---- what begins with such lines begins with no others

record AreSame {D : Type 0} (d e : D) (ps qs : List (List ℕ)) : Type 0 where
  drafts : d ≡ e
  parts : ps ≡ qs

same_run : {R F D : Type 0} (reader : Reader R F D) → ((x next : D) (line : List ℕ) → reader.done x ≡ true → reader.step x line ≡ Ok next → ⊥) → (start d e : D) (lines more ps qs : List (List ℕ)) → run reader.step start lines ≡ Ok d → run reader.step start more ≡ Ok e
    → reader.done d ≡ true → reader.done e ≡ true → lines ++ ps ≡ more ++ qs → AreSame d e ps qs
same_run reader stops start d e [] [] ps qs first second is also same = record { drafts = cc; parts = same }
same_run reader stops start d e [] (line ∷ more) ps qs first second is also same =
    let here : start ≡ d = cc in
    absurd (after_step (λ next. run reader.step next more) e (reader.step start line) second (λ next step later. stops start next line (ap reader.done here ∙ is) step))
same_run reader stops start d e (line ∷ lines) [] ps qs first second is also same =
    let here : start ≡ e = cc in
    absurd (after_step (λ next. run reader.step next lines) d (reader.step start line) first (λ next step later. stops start next line (ap reader.done here ∙ also) step))
same_run reader stops start d e (line ∷ lines) (other ∷ more) ps qs first second is also same =
    let head : line ≡ other = cc in
    let tail : lines ++ ps ≡ more ++ qs = cc in
    after_step (λ next. run reader.step next lines) d (reader.step start line) first (λ next step later.
    let second_rest : run reader.step next more ≡ Ok e = ap (λ r. r >>= λ x. run reader.step x more) (sym step) ∙ ap (λ l. reader.step start l >>= λ x. run reader.step x more) head ∙ second in
    same_run reader stops next d e lines more ps qs later second_rest is also tail)

-- Where no line is taken behind the end, texts that begin alike with lines up to the end of each have one draft, and what
-- stands behind is one too.
pub one_beginning : {R F D : Type 0} (reader : Reader R F D) → ((x next : D) (line : List ℕ) → reader.done x ≡ true → reader.step x line ≡ Ok next → ⊥) → (d e : D) (lines more : List (List ℕ)) (a b : List ℕ) → run reader.step reader.start lines ≡ Ok d → run reader.step reader.start more ≡ Ok e
    → reader.done d ≡ true → reader.done e ≡ true → text_of lines ++ a ≡ text_of more ++ b → (d ≡ e) × (a ≡ b)
one_beginning reader stops d e lines more a b first second is also text =
    let parts : lines ++ parts_of a ≡ more ++ parts_of b = sym (run_parts reader reader.start d lines a first) ∙ ap parts_of text ∙ run_parts reader reader.start e more b second in
    let same = same_run reader stops reader.start d e lines more (parts_of a) (parts_of b) first second is also parts in
    (same.drafts, sym (join_with_byte-slice_split 10 a) ∙ ap (join_with_byte 10) same.parts ∙ join_with_byte-slice_split 10 b)

-- lines that are taken have a text of their own
pub same_lines : {R F D : Type 0} (reader : Reader R F D) (d e : D) (lines more : List (List ℕ)) → run reader.step reader.start lines ≡ Ok d → run reader.step reader.start more ≡ Ok e
    → text_of lines ≡ text_of more → lines ≡ more
same_lines reader d e lines more first second text =
    append_cancel_right lines more ([] ∷ [])
    (sym (run_parts reader reader.start d lines [] first) ∙ ap (λ (t : List ℕ). parts_of (t ++ [])) text ∙ run_parts reader reader.start e more [] second)
