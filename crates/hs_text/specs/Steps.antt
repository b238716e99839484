-- What the reading of a line comes to: a value, or the reason for which the line is refused. Reasons are asked one after
-- another, and the first that holds is the line's.
use Rattle.std.specs.Prelude.{◌≡◌, ℕ, Bool, true, false, List, [], ◌∷◌, Option, Some, None, Result, Ok, Err, ⊤, if◌then◌else◌, refl}
use Rattle.hs_text.specs.declared.stop.Stop.{Stop}
use Rattle.hs_text.specs.declared.stop.Stop.TheVariants as stops

-- the next step with the value of this one, where it has one
infixl 10 ◌>>=◌
abbrev pub ◌>>=◌ : {R A B : Type 0} → Result A R → (A → Result B R) → Result B R
(Ok x) >>= f = f x
(Err reason) >>= f = Err reason

-- refused for this reason where it holds
abbrev pub unless : {R A : Type 0} → Bool → R → Result A R → Result A R
unless true reason next = Err reason
unless false reason next = next

-- the value, or refused for this reason where there is none
abbrev pub value_or : {R A : Type 0} → R → Option A → Result A R
value_or reason None = Err reason
value_or reason (Some x) = Ok x

-- of reasons in their order, the first that holds
abbrev pub first_that_holds : {R : Type 0} → List (Bool × R) → Option R
first_that_holds [] = None
first_that_holds ((holds, reason) ∷ others) = if holds then Some reason else first_that_holds others

-- A step of a reader answers, by its view, the item that the definition reads or the reason that it refuses with. Where it
-- stops for want of memory, nothing is said.
abbrev pub Stops : {R Y : Type 0} → Stop R → Result Y R → Type 0
Stops stops.Memory read = ⊤
Stops (stops.Fault reason) read = read ≡ Err reason

abbrev pub Gives : {R X Y : Type 0} → (X → Y) → Result X (Stop R) → Result Y R → Type 0
Gives view (Ok x) read = read ≡ Ok (view x)
Gives view (Err stop) read = Stops stop read

-- worked examples: three reasons by their places
second_of_three : first_that_holds {R = ℕ} ((false, 1) ∷ (true, 2) ∷ (true, 3) ∷ []) ≡ Some 2
second_of_three = refl

none_of_two : first_that_holds {R = ℕ} ((false, 1) ∷ (false, 2) ∷ []) ≡ None
none_of_two = refl
