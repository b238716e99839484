-- What one step of a log shows more.
use Rattle.std.proofs.Common.{◌≡◌, ℕ, zero, suc, ◌+◌, ◌<◌, ◌≤◌, Bool, true, false, cond, ltb, List, [], ◌∷◌, ◌++◌, length, take, Option, Some, None, refl, sym, ap, ◌∙◌, inl, inr, arith}
use Rattle.hs_check.proofs.Prelude.{◌||◌, list_any, option_map_or, lt-ltb, le-ltb, cases_lt, length-append, length-take-le, filter_map-append, list_any-append, count_by-le-length, one_if, Step, is_turn, step_stamp, log_stamps, FoundPage, Shown, is_give, is_passed, HasGiven, IsShown}
use Rattle.std.specs.Prelude.{max}
use Rattle.std.specs.List.{cons_option}
use Rattle.std.proofs.Math.Bool.{or-false}
use Rattle.hs_base.proofs.Counts.{count_push}
use Rattle.hs_records.specs.declared.journal.Step.TheVariants as steps
use Rattle.hs_check.specs.Showing.{HasRoom}

-- ---- a step behind others

-- the stamp, if the step has one, behind those before
stamps_more : (earlier : List Step) (step : Step) (o : Option ℕ) → step_stamp step ≡ o → log_stamps (earlier ++ step ∷ []) ≡ log_stamps earlier ++ cons_option o []
stamps_more earlier step o is = filter_map-append step_stamp earlier (step ∷ []) ∙ ap (λ (s : Option ℕ). log_stamps earlier ++ cons_option s []) is

passed_max : (stamp a b : ℕ) → ltb stamp (max a b) ≡ (ltb stamp a || ltb stamp b)
passed_max stamp a b =
    elim (cases_lt stamp a) [
      | inl low ↦ lt-ltb stamp (max a b) (omega arith) ∙ sym (ap (λ t. t || ltb stamp b) (lt-ltb stamp a low))
      | inr high ↦
          elim (cases_lt stamp b) [
            | inl low ↦ lt-ltb stamp (max a b) (omega arith) ∙ sym (ap (λ t. t || ltb stamp b) (le-ltb stamp a high) ∙ lt-ltb stamp b low)
            | inr above ↦ le-ltb stamp (max a b) (omega arith) ∙ sym (ap (λ t. t || ltb stamp b) (le-ltb stamp a high) ∙ le-ltb stamp b above)
          ]
    ]

-- the highest stamp with one more, if there is one
abbrev pub highest_with : Option ℕ → ℕ → ℕ
highest_with o highest = option_map_or (λ stamp. max highest stamp) o highest

pub shown_more : (pages : List FoundPage) (earlier : List Step) (step : Step) (old new : Shown) (o : Option ℕ) → IsShown pages earlier old → step_stamp step ≡ o → HasGiven pages new
    → new.gives ≡ old.gives + one_if (is_give step) → new.events ≡ old.events + length (cons_option o []) → new.highest ≡ highest_with o old.highest → new.turns ≡ old.turns + one_if (is_turn step)
    → IsShown pages (earlier ++ step ∷ []) new
shown_more pages earlier step old new o was is given gives events highest turns =
    let stamps = stamps_more earlier step o is in
    record {
      given = given;
      gives = let e = count_push is_give earlier step in let before = was.gives in omega (arith, e, before, gives);
      events = let e = ap length stamps ∙ length-append (log_stamps earlier) (cons_option o []) in let before = was.events in omega (arith, e, before, events);
      highest = λ stamp. ap (ltb stamp) highest ∙ at o stamp ∙ sym (ap (λ (l : List ℕ). is_passed l stamp) stamps);
      turns = let e = count_push is_turn earlier step in let before = was.turns in omega (arith, e, before, turns);
    }
  where
    at : (o : Option ℕ) (stamp : ℕ) → ltb stamp (highest_with o old.highest) ≡ is_passed (log_stamps earlier ++ cons_option o []) stamp
    at (Some s) stamp =
        passed_max stamp old.highest s ∙ ap (λ b. b || ltb stamp s) (was.highest stamp)
        ∙ sym (list_any-append (λ later. ltb stamp later) (log_stamps earlier) (s ∷ []) ∙ ap (λ b. is_passed (log_stamps earlier) stamp || b) (or-false (ltb stamp s)))
    at None stamp = was.highest stamp ∙ sym (list_any-append (λ later. ltb stamp later) (log_stamps earlier) [] ∙ or-false (is_passed (log_stamps earlier) stamp))

-- a step that shows nothing
pub record IsQuiet (step : Step) : Type 0 where
  pub stamp : step_stamp step ≡ None
  pub give : is_give step ≡ false
  pub turn : is_turn step ≡ false

pub quiet_step : (step : Step) → (step ≡ steps.Turn → ⊥) → ((stamp : ℕ) → step ≡ steps.Given stamp → ⊥) → ((stamp : ℕ) → step ≡ steps.Missed stamp → ⊥) → IsQuiet step
quiet_step steps.Turn turn given missed = absurd (turn refl)
quiet_step (steps.Given stamp) turn given missed = absurd (given stamp refl)
quiet_step (steps.Missed stamp) turn given missed = absurd (missed stamp refl)
quiet_step steps.Unread turn given missed = record { stamp = refl; give = refl; turn = refl }
quiet_step (steps.Chunk client) turn given missed = record { stamp = refl; give = refl; turn = refl }
quiet_step (steps.Crumb client) turn given missed = record { stamp = refl; give = refl; turn = refl }
quiet_step (steps.Trigger client) turn given missed = record { stamp = refl; give = refl; turn = refl }
quiet_step steps.Ask turn given missed = record { stamp = refl; give = refl; turn = refl }

-- ---- counts have room

stamps_few : (log : List Step) → length (log_stamps log) ≤ length log
stamps_few [] = omega arith
stamps_few (steps.Given stamp ∷ log) = let rest = stamps_few log in omega (arith, rest)
stamps_few (steps.Missed stamp ∷ log) = let rest = stamps_few log in omega (arith, rest)
stamps_few (steps.Unread ∷ log) = let rest = stamps_few log in omega (arith, rest)
stamps_few (steps.Chunk client ∷ log) = let rest = stamps_few log in omega (arith, rest)
stamps_few (steps.Crumb client ∷ log) = let rest = stamps_few log in omega (arith, rest)
stamps_few (steps.Trigger client ∷ log) = let rest = stamps_few log in omega (arith, rest)
stamps_few (steps.Ask ∷ log) = let rest = stamps_few log in omega (arith, rest)
stamps_few (steps.Turn ∷ log) = let rest = stamps_few log in omega (arith, rest)

pub has_room : (pages : List FoundPage) (log : List Step) (i : ℕ) (shown : Shown) → IsShown pages (take i log) shown → i < length log → i + 1 < 18446744073709551616 → HasRoom shown
has_room pages log i shown is less room =
    let many = length-take-le i log (omega arith) in
    let a = is.gives in
    let b = is.events in
    let c = is.turns in
    let few_a = count_by-le-length is_give (take i log) in
    let few_b = stamps_few (take i log) in
    let few_c = count_by-le-length is_turn (take i log) in
    record {
      gives = omega (arith, many, a, few_a, room);
      events = omega (arith, many, b, few_b, room);
      turns = omega (arith, many, c, few_c, room);
    }

-- ---- one page more

pub one_given : (same old was : Bool) → old ≡ was → cond same true old ≡ (was || same)
one_given true old true is = refl
one_given true old false is = refl
one_given false old was is = is ∙ sym (or-false was)

-- all pages were given before
pub none_given : {A : Type 0} (test : A → Bool) (xs : List A) (n : ℕ) → length xs ≤ n → list_any test (take n xs) ≡ list_any test (take (n + 1) xs)
none_given test xs n past = ap (list_any test) (whole xs n past ∙ sym (whole xs (n + 1) (omega arith)))
  where
    whole : {A : Type 0} (xs : List A) (n : ℕ) → length xs ≤ n → take n xs ≡ xs
    whole [] zero past = refl
    whole [] (suc n) past = refl
    whole (x ∷ xs) zero past = absurd (omega arith)
    whole (x ∷ xs) (suc n) past = ap (λ (l : List _). x ∷ l) (whole xs n (omega arith))
