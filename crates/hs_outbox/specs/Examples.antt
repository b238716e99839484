-- Worked examples of an outbox with two places of three bytes.
use Rattle.std.specs.Prelude.{◌≡◌, List, [], ◌∷◌, Some, None, false, refl}
use Rattle.hs_outbox.specs.Queue.{Pending, Queue, OutboxAct, Puts, HandsOut, Acknowledges, OffersAgain, empty, after, waits, first_offered, oldest_in}
use Rattle.hs_outbox.specs.Lives.{life, all_put, all_left, handed_out, not_handed_out}

abbrev four : Pending
four = record { number = 4; bytes = 1 ∷ [] }

abbrev seven : Pending
seven = record { number = 7; bytes = 2 ∷ 2 ∷ [] }

abbrev nine : Pending
nine = record { number = 9; bytes = [] }

abbrev start : Queue
start = empty 2 3

-- Two are put, and the first is handed out.
abbrev two : Queue
two = life start (Puts four ∷ Puts seven ∷ HandsOut 4 ∷ [])

two_wait : (two.pending ≡ four ∷ seven ∷ []) × (handed_out two ≡ four ∷ []) × (not_handed_out two ≡ seven ∷ []) × (first_offered two ≡ Some seven) × (two.fresh ≡ 8)
two_wait = (refl, refl, refl, refl, refl)

the_oldest : (oldest_in start ≡ None) × (oldest_in two ≡ Some 4) × (oldest_in (after two (Acknowledges 4)) ≡ Some 7)
the_oldest = (refl, refl, refl)

-- No place is free for a third, and only the first that is offered can be handed out.
no_third : (after two (Puts nine) ≡ two) × (after two (HandsOut 4) ≡ two) × (after two (HandsOut 9) ≡ two)
no_third = (refl, refl, refl)

-- The later one is acknowledged first. Then a third has a place, but none with a number that was passed.
abbrev one : Queue
one = after two (Acknowledges 7)

one_waits : (one.pending ≡ four ∷ []) × (waits one 7 ≡ false) × (first_offered one ≡ None) × (after one (Acknowledges 7) ≡ one)
    × (after one (Puts seven) ≡ one) × ((after one (Puts nine)).pending ≡ four ∷ nine ∷ [])
one_waits = (refl, refl, refl, refl, refl, refl)

-- All that wait are offered again, the first one first.
offered_again : (first_offered (after one OffersAgain) ≡ Some four) × (first_offered (life one (OffersAgain ∷ HandsOut 4 ∷ Puts nine ∷ [])) ≡ Some nine)
offered_again = (refl, refl)

-- what was put and what left
abbrev calls : List OutboxAct
calls = Puts four ∷ Puts seven ∷ Puts nine ∷ Acknowledges 9 ∷ Acknowledges 7 ∷ Puts nine ∷ []

accounts : (all_put start calls ≡ four ∷ seven ∷ nine ∷ []) × (all_left start calls ≡ seven ∷ []) × ((life start calls).pending ≡ four ∷ nine ∷ [])
accounts = (refl, refl, refl)
