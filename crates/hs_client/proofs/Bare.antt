-- Whether a core keeps its book, and how often its client was renewed, is never read: the same steps lead all cores to the same.
use Rattle.std.proofs.Common.{◌≡◌, ℕ, Bool, List, [], ◌∷◌, ◌++◌, refl, ap, ap₂, ◌∙◌, subst}
use Rattle.std.specs.Option.{option_to_list}
use Rattle.hs_client.specs.Core.{Core, CoreStep, Began, Wrote, Needed, Supplied, Ended_, Refused, after_step, handed, all_pages}
use Rattle.hs_client.specs.Calls.{May, after, AreSteps, IsBook, handed_out}
use Rattle.hs_words.specs.Buffers.{Buffer}

abbrev pub with_kind : {L : Type 0} → Bool → ℕ → Core L → Core L
with_kind keeps renewed core = record core { keeps = keeps; renewed = renewed }

step_bare : {L : Type 0} (keeps : Bool) (renewed : ℕ) (core : Core L) (step : CoreStep L) → after_step (with_kind keeps renewed core) step ≡ with_kind keeps renewed (after_step core step)
step_bare keeps renewed core (Began trace) = refl
step_bare keeps renewed core (Wrote moment payload more) = refl
step_bare keeps renewed core (Needed len) = refl
step_bare keeps renewed core (Supplied buffer stamp moment payload more) = refl
step_bare keeps renewed core Ended_ = refl
step_bare keeps renewed core Refused = refl

after_bare : {L : Type 0} (keeps : Bool) (renewed : ℕ) (core : Core L) (steps : List (CoreStep L)) → after (with_kind keeps renewed core) steps ≡ with_kind keeps renewed (after core steps)
after_bare keeps renewed core [] = refl
after_bare keeps renewed core (step ∷ earlier) = ap (λ c. after_step c step) (after_bare keeps renewed core earlier) ∙ step_bare keeps renewed (after core earlier) step

may_bare : {L : Type 0} (keeps : Bool) (renewed : ℕ) (core : Core L) (step : CoreStep L) → May (with_kind keeps renewed core) step → May core step
may_bare keeps renewed core (Began trace) may = may
may_bare keeps renewed core (Wrote moment payload more) may = may
may_bare keeps renewed core (Needed len) may = may
may_bare keeps renewed core (Supplied buffer stamp moment payload more) may = (record { left = may.0.left; opened = may.0.opened; none = may.0.none; narrow = may.0.narrow; full = may.0.full }, may.1)
may_bare keeps renewed core Ended_ may = may
may_bare keeps renewed core Refused may = may

steps_bare : {L : Type 0} (keeps : Bool) (renewed : ℕ) (new : Core L) (steps : List (CoreStep L)) → AreSteps (with_kind keeps renewed new) steps → AreSteps new steps
steps_bare keeps renewed new [] are = tt
steps_bare {L} keeps renewed new (step ∷ earlier) are =
    (steps_bare keeps renewed new earlier are.0, may_bare keeps renewed (after new earlier) step (subst (λ (c : Core L). May c step) (after_bare keeps renewed new earlier) are.1))

handed_bare : {L : Type 0} (keeps : Bool) (renewed : ℕ) (new : Core L) (steps : List (CoreStep L)) → handed_out (with_kind keeps renewed new) steps ≡ handed_out new steps
handed_bare keeps renewed new [] = refl
handed_bare {L} keeps renewed new (Needed len ∷ earlier) = ap₂ (λ (chunks : List (Buffer L)) (c : Core L). chunks ++ option_to_list (handed c)) (handed_bare keeps renewed new earlier) (after_bare keeps renewed new earlier)
handed_bare {L} keeps renewed new (Ended_ ∷ earlier) = ap₂ (λ (chunks : List (Buffer L)) (c : Core L). chunks ++ option_to_list (handed c)) (handed_bare keeps renewed new earlier) (after_bare keeps renewed new earlier)
handed_bare keeps renewed new (Began trace ∷ earlier) = handed_bare keeps renewed new earlier
handed_bare keeps renewed new (Wrote moment payload more ∷ earlier) = handed_bare keeps renewed new earlier
handed_bare keeps renewed new (Supplied buffer stamp moment payload more ∷ earlier) = handed_bare keeps renewed new earlier
handed_bare keeps renewed new (Refused ∷ earlier) = handed_bare keeps renewed new earlier

pub after_renewed : {L : Type 0} (new : Core L) (steps : List (CoreStep L)) → (after new steps).renewed ≡ new.renewed
after_renewed new [] = refl
after_renewed new (Began trace ∷ earlier) = after_renewed new earlier
after_renewed new (Wrote moment payload more ∷ earlier) = after_renewed new earlier
after_renewed new (Needed len ∷ earlier) = after_renewed new earlier
after_renewed new (Supplied buffer stamp moment payload more ∷ earlier) = after_renewed new earlier
after_renewed new (Ended_ ∷ earlier) = after_renewed new earlier
after_renewed new (Refused ∷ earlier) = after_renewed new earlier

pub after_keeps : {L : Type 0} (new : Core L) (steps : List (CoreStep L)) → (after new steps).keeps ≡ new.keeps
after_keeps new [] = refl
after_keeps new (Began trace ∷ earlier) = after_keeps new earlier
after_keeps new (Wrote moment payload more ∷ earlier) = after_keeps new earlier
after_keeps new (Needed len ∷ earlier) = after_keeps new earlier
after_keeps new (Supplied buffer stamp moment payload more ∷ earlier) = after_keeps new earlier
after_keeps new (Ended_ ∷ earlier) = after_keeps new earlier
after_keeps new (Refused ∷ earlier) = after_keeps new earlier

-- What steps make of a core that keeps its book, they make of any.
pub book_bare : {L : Type 0} (keeps : Bool) (renewed : ℕ) (new : Core L) (steps : List (CoreStep L)) → (AreSteps new steps → IsBook new steps) → AreSteps (with_kind keeps renewed new) steps → IsBook (with_kind keeps renewed new) steps
book_bare {L} keeps renewed new steps books are =
    let book = books (steps_bare keeps renewed new steps are) in
    let same = after_bare keeps renewed new steps in
    record {
      trace = ap (λ (c : Core L). c.trace) same ∙ book.trace;
      number = ap (λ (c : Core L). c.number) same ∙ book.number;
      pages = ap (λ (c : Core L). all_pages c) same ∙ book.pages;
      draws = ap (λ (c : Core L). c.draws) same ∙ book.draws;
      each = book.each;
      chunks = ap₂ (λ (chunks : List (Buffer L)) (c : Core L). chunks ++ option_to_list (handed c)) (handed_bare keeps renewed new steps) same ∙ book.chunks;
      closed = λ none. ap (λ (c : Core L). c.current) same ∙ book.closed none;
    }
