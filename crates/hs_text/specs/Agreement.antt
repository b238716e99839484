-- When a step of a reader agrees with the reasons of a line: it refuses the line for the first that holds, and where none does,
-- it takes the line for what the line says. Steps that agree are put together as the lists of reasons are.
use Rattle.std.proofs.Common.{◌≡◌, ◌||◌, ℕ, Bool, true, false, List, [], ◌∷◌, Option, Some, None, Result, Ok, Err, refl, sym, ap, ◌∙◌}
use Rattle.std.specs.Prelude.{is_none, option_and_then, if◌then◌else◌}
use Rattle.std.specs.List.{list_all}
use Rattle.hs_text.specs.declared.reading.LineFault.TheVariants as faults
use Rattle.hs_text.specs.declared.opening.LineReasons.{LineReasons}
use Rattle.hs_text.specs.Text.{words_of, line_of, has_bad_byte, has_bad_spaces}
use Rattle.hs_text.specs.TextLaws.{is_word, words_of-line_of, line_fault_of-line_of}
use Rattle.hs_text.specs.Steps.{◌>>=◌, unless, value_or, first_that_holds}
use Rattle.hs_text.specs.WordsLeft.{next_word}
use Rattle.hs_text.specs.Opening.{opened, word_reasons, words_reasons, line_reasons, words_say}

-- what a step came to, the first reason, and what the line says, where a draft follows from that
abbrev pub Agrees : {R S D : Type 0} → (S → D) → Result D R → Option R → Option S → Type 0
Agrees after (Ok next) None None = ⊥
Agrees after (Ok next) None (Some statement) = next ≡ after statement
Agrees after (Ok next) (Some reason) said = ⊥
Agrees after (Err reason) None said = ⊥
Agrees after (Err reason) (Some first) said = first ≡ reason

-- no reason holds
abbrev pub NoneHolds : {R : Type 0} → List (Bool × R) → Type 0
NoneHolds [] = Unit {0}
NoneHolds ((holds, reason) ∷ others) = (holds ≡ false) × NoneHolds others

first_none : {R : Type 0} (b : Bool) (reason : R) (next : Option R) → (if b then Some reason else next) ≡ None → (b ≡ false) × (next ≡ None)
first_none true reason next e = cc
first_none false reason next e = (refl, e)

pub none_hold : {R : Type 0} (reasons : List (Bool × R)) → first_that_holds reasons ≡ None → NoneHolds reasons
none_hold [] e = tt
none_hold ((holds, reason) ∷ others) e =
    let first = first_none holds reason (first_that_holds others) e in
    (first.0, none_hold others first.1)

pub none_is_first : {R : Type 0} (reasons : List (Bool × R)) → NoneHolds reasons → first_that_holds reasons ≡ None
none_is_first [] none = refl
none_is_first ((holds, reason) ∷ others) none = ap (λ (b : Bool). if b then Some reason else first_that_holds others) none.0 ∙ none_is_first others none.1

-- ---- steps put together

pub agrees_unless : {R S D : Type 0} (after : S → D) (b : Bool) (reason : R) (next : Result D R) (first : Option R) (said : Option S) → (b ≡ false → Agrees after next first said)
    → Agrees after (unless b reason next) (if b then Some reason else first) said
agrees_unless after true reason next first said agrees = refl
agrees_unless after false reason next first said agrees = agrees refl

-- a check before the next step
pub agrees_check : {R S D A : Type 0} (after : S → D) (b : Bool) (reason : R) (x : A) (step : A → Result D R) (first : Option R) (said : Option S) → (b ≡ false → Agrees after (step x) first said)
    → Agrees after (unless b reason (Ok x) >>= step) (if b then Some reason else first) said
agrees_check after true reason x step first said agrees = refl
agrees_check after false reason x step first said agrees = agrees refl

-- the value of a word, where other words may have none for the same reason
pub agrees_value : {R S D A : Type 0} (after : S → D) (reason : R) (o : Option A) (others : Bool) (step : A → Result D R) (first : Option A → Option R) (said : Option A → Option S)
    → ((x : A) → o ≡ Some x → Agrees after (step x) (if others then Some reason else first (Some x)) (said (Some x)))
    → Agrees after (value_or reason o >>= step) (if is_none o || others then Some reason else first o) (said o)
agrees_value after reason None others step first said agrees = refl
agrees_value after reason (Some x) others step first said agrees = agrees x refl

word_agrees : {R S D W : Type 0} (after : S → D) (none : R) (asked : W → List (List ℕ) → List (Bool × R)) (says : W → List (List ℕ) → Option S) (step : W × List (List ℕ) → Result D R)
    → ((word : W) (words : List (List ℕ)) → Agrees after (step (word, words)) (first_that_holds (asked word words)) (says word words)) → (found : Option W) (words : List (List ℕ))
    → Agrees after ((value_or none found >>= λ word. Ok (word, words)) >>= step) (first_that_holds (word_reasons none asked found words)) (option_and_then (λ word. says word words) found)
word_agrees after none asked says step agrees None words = refl
word_agrees after none asked says step agrees (Some word) words = agrees word words

words_agree : {R S D W : Type 0} (after : S → D) (reasons : LineReasons R) (find : List ℕ → Option W) (asked : W → List (List ℕ) → List (Bool × R)) (says : W → List (List ℕ) → Option S)
    (step : W × List (List ℕ) → Result D R) → ((word : W) (words : List (List ℕ)) → Agrees after (step (word, words)) (first_that_holds (asked word words)) (says word words))
    → (byte spaces : Bool) (words : List (List ℕ))
    → Agrees after
    (unless byte reasons.byte (unless spaces reasons.spaces (next_word reasons.word words >>= λ first. value_or reasons.word (find first.0) >>= λ word. Ok (word, first.1))) >>= step)
    (first_that_holds ((byte, reasons.byte) ∷ (spaces, reasons.spaces) ∷ words_reasons reasons.word find asked words)) (words_say find says words)
words_agree after reasons find asked says step agrees true spaces words = refl
words_agree after reasons find asked says step agrees false true words = refl
words_agree after reasons find asked says step agrees false false [] = refl
words_agree after reasons find asked says step agrees false false (word ∷ words) = word_agrees after reasons.word asked says step agrees (find word) words

-- a line agrees where its words do behind each first word
pub agrees_opened : {R S D W : Type 0} (after : S → D) (reasons : LineReasons R) (find : List ℕ → Option W) (asked : W → List (List ℕ) → List (Bool × R)) (says : W → List (List ℕ) → Option S)
    (step : W × List (List ℕ) → Result D R) → ((word : W) (words : List (List ℕ)) → Agrees after (step (word, words)) (first_that_holds (asked word words)) (says word words)) → (line : List ℕ)
    → Agrees after (opened reasons find line >>= step) (first_that_holds (line_reasons reasons find asked line)) (words_say find says (words_of line))
unfolding opened
agrees_opened after reasons find asked says step agrees line = words_agree after reasons find asked says step agrees (has_bad_byte line) (has_bad_spaces line) (words_of line)

-- ---- what steps that agree come to

-- a line that was taken
pub record IsTaken {R S D : Type 0} (after : S → D) (first : Option R) (said : Option S) (next : D) : Type 0 where
  pub none : first ≡ None
  pub statement : S
  pub says : said ≡ Some statement
  pub is : next ≡ after statement

pub agrees_ok : {R S D : Type 0} (after : S → D) (step : Result D R) (first : Option R) (said : Option S) (next : D) → Agrees after step first said → step ≡ Ok next → IsTaken after first said next
agrees_ok after (Ok x) None None next agrees is = absurd agrees
agrees_ok after (Ok x) None (Some statement) next agrees is = let same : x ≡ next = cc in record { none = refl; statement = statement; says = refl; is = sym same ∙ agrees }
agrees_ok after (Ok x) (Some reason) said next agrees is = absurd agrees
agrees_ok after (Err reason) first said next agrees is = cc

pub agrees_err : {R S D : Type 0} (after : S → D) (step : Result D R) (first : Option R) (said : Option S) (reason : R) → Agrees after step first said → step ≡ Err reason → first ≡ Some reason
agrees_err after (Ok x) first said reason agrees is = cc
agrees_err after (Err r) None said reason agrees is = absurd agrees
agrees_err after (Err r) (Some first) said reason agrees is = cc

pub agrees_none : {R S D : Type 0} (after : S → D) (step : Result D R) (first : Option R) (statement : S) → Agrees after step first (Some statement) → first ≡ None → step ≡ Ok (after statement)
agrees_none after (Ok next) None statement agrees is = ap Ok agrees
agrees_none after (Ok next) (Some reason) statement agrees is = cc
agrees_none after (Err reason) None statement agrees is = absurd agrees
agrees_none after (Err reason) (Some first) statement agrees is = cc

-- ---- lines without a reason

-- what is known of a line without one: its first word is found, and none of the reasons behind it holds
pub record IsOpened {R W : Type 0} (find : List ℕ → Option W) (asked : W → List (List ℕ) → List (Bool × R)) (line : List ℕ) : Type 0 where
  pub first : List ℕ
  pub others : List (List ℕ)
  pub word : W
  pub are : words_of line ≡ first ∷ others
  pub found : find first ≡ Some word
  pub none : NoneHolds (asked word others)

word_opened : {R W : Type 0} (reason : R) (find : List ℕ → Option W) (asked : W → List (List ℕ) → List (Bool × R)) (line first : List ℕ) (others : List (List ℕ)) (found : Option W)
    → words_of line ≡ first ∷ others → find first ≡ found → NoneHolds (word_reasons reason asked found others) → IsOpened find asked line
word_opened reason find asked line first others None are is none = cc
word_opened reason find asked line first others (Some word) are is none = record { first = first; others = others; word = word; are = are; found = is; none = none }

words_opened : {R W : Type 0} (reason : R) (find : List ℕ → Option W) (asked : W → List (List ℕ) → List (Bool × R)) (line : List ℕ) (words : List (List ℕ))
    → words_of line ≡ words → NoneHolds (words_reasons reason find asked words) → IsOpened find asked line
words_opened reason find asked line [] are none = cc
words_opened reason find asked line (first ∷ others) are none = word_opened reason find asked line first others (find first) are refl none

pub line_opened : {R W : Type 0} (reasons : LineReasons R) (find : List ℕ → Option W) (asked : W → List (List ℕ) → List (Bool × R)) (line : List ℕ)
    → NoneHolds (line_reasons reasons find asked line) → IsOpened find asked line
line_opened reasons find asked line none = words_opened reasons.word find asked line (words_of line) refl none.1.1

pub opened_says : {R W S : Type 0} (find : List ℕ → Option W) (asked : W → List (List ℕ) → List (Bool × R)) (says : W → List (List ℕ) → Option S) (line : List ℕ) (known : IsOpened find asked line)
    → words_say find says (words_of line) ≡ says known.word known.others
opened_says {R} {W} find asked says line known =
    ap (words_say find says) known.are ∙ ap (λ (o : Option W). option_and_then (λ word. says word known.others) o) known.found

no_line_fault : (byte spaces : Bool) → (if byte then Some faults.Byte else if spaces then Some faults.Spaces else None) ≡ None → (byte ≡ false) × (spaces ≡ false)
no_line_fault true spaces e = cc
no_line_fault false true e = cc
no_line_fault false false e = (refl, refl)

-- a line of words has no reason where the words behind the first have none
pub words_spelled : {R W : Type 0} (reasons : LineReasons R) (find : List ℕ → Option W) (asked : W → List (List ℕ) → List (Bool × R)) (first : List ℕ) (others : List (List ℕ)) (word : W)
    → list_all is_word (first ∷ others) ≡ true → find first ≡ Some word → NoneHolds (asked word others) → NoneHolds (line_reasons reasons find asked (line_of (first ∷ others)))
words_spelled reasons find asked first others word print found none =
    let line : List ℕ = line_of (first ∷ others) in
    let fine = no_line_fault (has_bad_byte line) (has_bad_spaces line) (line_fault_of-line_of first others print) in
    let same = words_of-line_of first others print in
    (fine.0, (fine.1, rw (same, found) none))
