-- Worked examples of a mail with one place for a page and two for words.
use Rattle.std.specs.Prelude.{◌≡◌, ℕ, List, [], ◌∷◌, Option, Some, None, map, option_map, refl}
use Rattle.hs_wire.specs.Messages.{Said, SaysHello, SaysReported}
use Rattle.hs_wire.specs.Messages as wire
use Rattle.hs_outbox.specs.Queue.{Pending, Queue}
use Rattle.hs_mail.specs.Letters.{Letters, Says, HandsOut, Acknowledges, OffersAgain, no_letters, after, first_offered, oldest_in}
use Rattle.hs_mail.specs.Lives.{life}

abbrev page : Said
page =
    SaysReported
    (record { group = record { id = record { node = 1; number = 5 }; trigger = record { 0 = 7 }; lead = record { 0 = 3 } }; client = 0; core = 0; page = 1 ∷ 2 ∷ [] })

abbrev word : Said
word = SaysHello (record { digest = []; name = 65 ∷ [] })

abbrev start : Letters
start = no_letters (record { 0 = 1 }) 9 (record { places = 1; bytes = 60 }) (record { places = 2; bytes = 30 })

abbrev numbers : Queue → List ℕ
numbers q = map (λ (p : Pending). p.number) q.pending

abbrev first_number : Letters → Option ℕ
first_number m = option_map (λ (p : Pending). p.number) (first_offered m)

-- A word, a page and a word are said, under numbers from 0.
abbrev three : Letters
three = life start (Says word ∷ Says page ∷ Says word ∷ [])

three_wait : (numbers three.pages ≡ 1 ∷ []) × (numbers three.words ≡ 0 ∷ 2 ∷ []) × (three.fresh ≡ 3) × (first_number three ≡ Some 0) × (oldest_in three ≡ Some 0)
unfolding wire.head_bytes wire.reported_bytes wire.group_bytes wire.id_bytes wire.hello_bytes
three_wait = (refl, refl, refl, refl, refl)

-- They go out in this order, and no other way.
they_go_out : (first_number (after three (HandsOut 0)) ≡ Some 1) × (first_number (life three (HandsOut 0 ∷ HandsOut 1 ∷ [])) ≡ Some 2)
    × (first_number (life three (HandsOut 0 ∷ HandsOut 1 ∷ HandsOut 2 ∷ [])) ≡ None) × (after three (HandsOut 1) ≡ three)
unfolding wire.head_bytes wire.reported_bytes wire.group_bytes wire.id_bytes wire.hello_bytes
they_go_out = (refl, refl, refl, refl)

-- The last one is acknowledged first. What is left is offered again from the first on.
abbrev two : Letters
two = life three (HandsOut 0 ∷ HandsOut 1 ∷ HandsOut 2 ∷ Acknowledges 2 ∷ [])

two_wait : (numbers two.pages ≡ 1 ∷ []) × (numbers two.words ≡ 0 ∷ []) × (first_number two ≡ None) × (first_number (after two OffersAgain) ≡ Some 0)
    × (after two (Acknowledges 2) ≡ two) × (oldest_in (after two (Acknowledges 0)) ≡ Some 1)
unfolding wire.head_bytes wire.reported_bytes wire.group_bytes wire.id_bytes wire.hello_bytes
two_wait = (refl, refl, refl, refl, refl, refl)
