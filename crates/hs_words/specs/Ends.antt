-- What the ends of a pool did that threads share: one end gives, the others draw. What all of them did is one list of deeds, the
-- last first, and each deed is an event of the pool's history. An answer is what one end was told of a deed of its own, with the
-- stamp; a giver's turns are its answers, the gives that were unread, and the meetings at which it was told of draws.
use Rattle.std.specs.Prelude.{◌≡◌, ◌⊎◌, ℕ, zero, suc, ◌+◌, ◌*◌, ◌<◌, ◌≤◌, Bool, true, false, ◌==◌, List, [], ◌∷◌, ◌++◌, length, map, count_by, refl}
use Rattle.std.specs.List.{AllByRecursion}
use Rattle.std.proofs.Common.{lit<, lit≤, arith, ap, ◌∙◌, inl, inr}
use Rattle.hs_words.specs.PoolHistory.{PoolEvent, Got, Empty, Given, Missed, is_empty, is_missed, IsHistoryBack, queue_after}
use Rattle.hs_words.specs.declared.token.Tally.{Tally}

-- An event and the end that made it: 0 is the giver, and the drawer with the number d is d + 1. A give also names, by
-- its stamp, the draw to which the lease is owed.
pub record Deed : Type 0 where
  pub by : ℕ
  pub event : PoolEvent
  pub draw : ℕ

-- what an end was told of its own deed
pub record Answer : Type 0 where
  pub stamp : ℕ
  pub event : PoolEvent
  pub draw : ℕ

pub data GiverTurn : Type 0 where
  answered : Answer → GiverTurn
  unread : GiverTurn
  -- a drawer was met, and the giver was told of the stamps of its draws
  met : List ℕ → GiverTurn

abbrev pub got_by : ℕ → ℕ → Deed
got_by by buffer = record { by = by; event = Got buffer; draw = 0 }

abbrev pub empty_by : ℕ → Deed
empty_by by = record { by = by; event = Empty; draw = 0 }

abbrev pub given_of : ℕ → ℕ → Deed
given_of buffer draw = record { by = 0; event = Given buffer; draw = draw }

abbrev pub missed : Deed
missed = record { by = 0; event = Missed; draw = 0 }

abbrev pub event_in : Deed → PoolEvent
event_in deed = deed.event

abbrev pub events_of : List Deed → List PoolEvent
events_of log = map event_in log

-- what waits behind these deeds
abbrev pub queue_of : ℕ → List Deed → List ℕ
queue_of n log = queue_after n (events_of log)

-- ---- counts

-- 1 for a draw, and 1 for a give that has a stamp
abbrev pub draws : PoolEvent → ℕ
draws (Got buffer) = 1
draws Empty = 1
draws (Given buffer) = 0
draws Missed = 0

abbrev pub gives : PoolEvent → ℕ
gives (Got buffer) = 0
gives Empty = 0
gives (Given buffer) = 1
gives Missed = 1

-- how many draws there were, whatever they answered
abbrev pub drawn_in : List Deed → ℕ
drawn_in [] = 0
drawn_in (deed ∷ earlier) = draws deed.event + drawn_in earlier

-- how many gives there were that have a stamp
abbrev pub given_in : List Deed → ℕ
given_in [] = 0
given_in (deed ∷ earlier) = gives deed.event + given_in earlier

abbrev pub is_any_got : PoolEvent → Bool
is_any_got (Got buffer) = true
is_any_got Empty = false
is_any_got (Given buffer) = false
is_any_got Missed = false

abbrev pub is_any_given : PoolEvent → Bool
is_any_given (Got buffer) = false
is_any_given Empty = false
is_any_given (Given buffer) = true
is_any_given Missed = false

-- The tally counts the deeds of each kind.
pub record Counts (log : List Deed) (tally : Tally) : Type 0 where
  pub gots : tally.gots ≡ count_by is_any_got (events_of log)
  pub empties : tally.empties ≡ count_by is_empty (events_of log)
  pub gives : tally.gives ≡ count_by is_any_given (events_of log)
  pub misses : tally.misses ≡ count_by is_missed (events_of log)

-- ---- the answers of one end

abbrev pub answer_to : Deed → ℕ → Answer
answer_to deed stamp = record { stamp = stamp; event = deed.event; draw = deed.draw }

abbrev pub put_if : Bool → Answer → List Answer → List Answer
put_if true answer answers = answer ∷ answers
put_if false answer answers = answers

-- the deeds of one end with their stamps, the last first
abbrev pub answers_by : ℕ → List Deed → List Answer
answers_by end [] = []
answers_by end (deed ∷ earlier) = put_if (deed.by == end) (answer_to deed (length earlier)) (answers_by end earlier)

-- the answers that stand among a giver's turns
abbrev pub answers_in : List GiverTurn → List Answer
answers_in [] = []
answers_in (answered answer ∷ before) = answer ∷ answers_in before
answers_in (unread ∷ before) = answers_in before
answers_in (met stamps ∷ before) = answers_in before

-- the stamps of all draws that the giver was told of
abbrev pub told_in : List GiverTurn → List ℕ
told_in [] = []
told_in (answered answer ∷ before) = told_in before
told_in (unread ∷ before) = told_in before
told_in (met stamps ∷ before) = stamps ++ told_in before

abbrev pub stamp_in : Answer → ℕ
stamp_in answer = answer.stamp

abbrev pub stamps_in : List Answer → List ℕ
stamps_in answers = map stamp_in answers

-- ---- leases

-- the deed with this stamp
abbrev pub IsDeedAt : List Deed → ℕ → Deed → Type 0
IsDeedAt [] stamp deed = ⊥
IsDeedAt (last ∷ earlier) stamp deed = ((stamp ≡ length earlier) × (last ≡ deed)) ⊎ IsDeedAt earlier stamp deed

-- the draw with this number, counting from 0, and its stamp
abbrev pub IsDraw : List Deed → ℕ → ℕ → Deed → Type 0
IsDraw [] number stamp deed = ⊥
IsDraw (last ∷ earlier) number stamp deed =
    ((number ≡ drawn_in earlier) × (draws last.event ≡ 1) × (stamp ≡ length earlier) × (last ≡ deed)) ⊎ IsDraw earlier number stamp deed

-- the deed with this stamp is a draw that got this buffer
abbrev pub IsGot : List Deed → ℕ → ℕ → Type 0
IsGot log stamp buffer = (by : ℕ) × IsDeedAt log stamp (got_by by buffer)

-- the event has this buffer
abbrev pub Names : ℕ → PoolEvent → Type 0
Names buffer (Got other) = other ≡ buffer
Names buffer Empty = ⊥
Names buffer (Given other) = other ≡ buffer
Names buffer Missed = ⊥

-- No event above this stamp has the buffer.
abbrev pub NoneSince : ℕ → ℕ → List Deed → Type 0
NoneSince buffer stamp [] = Unit {0}
NoneSince buffer stamp (deed ∷ earlier) = (stamp < length earlier → Names buffer deed.event → ⊥) × NoneSince buffer stamp earlier

-- The give spends the lease of a draw that got this buffer, and between the two no event has the buffer.
abbrev pub Spends : List Deed → PoolEvent → ℕ → Type 0
Spends earlier (Got buffer) draw = Unit {0}
Spends earlier Empty draw = Unit {0}
Spends earlier (Given buffer) draw = IsGot earlier draw buffer × NoneSince buffer draw earlier
Spends earlier Missed draw = Unit {0}

abbrev pub EachSpends : List Deed → Type 0
EachSpends [] = Unit {0}
EachSpends (deed ∷ earlier) = Spends earlier deed.event deed.draw × EachSpends earlier

-- ---- gives that were unread

-- the answer is that the lease of this draw was spent
abbrev pub SpendsThe : ℕ → PoolEvent → ℕ → Type 0
SpendsThe stamp (Got buffer) draw = ⊥
SpendsThe stamp Empty draw = ⊥
SpendsThe stamp (Given buffer) draw = draw ≡ stamp
SpendsThe stamp Missed draw = ⊥

-- A give was unread after these turns, in a pool of n buffers. The number p that it would have published is n and the answers
-- before it, and the draw with the number p - 2 n, whose entry it would have taken, was not collected yet.
pub record IsUnread (n : ℕ) (log : List Deed) (before : List GiverTurn) : Type 0 where
  pub number : ℕ
  pub stamp : ℕ
  pub drawer : ℕ
  pub buffer : ℕ
  pub laps : number + 2 * n ≡ n + length (answers_in before)
  -- that draw got a buffer
  pub draw : IsDraw log number stamp (got_by drawer buffer)
  -- its lease was spent by no earlier answer
  pub unspent : AllByRecursion (λ (a : Answer). SpendsThe stamp a.event a.draw → ⊥) (answers_in before)
  -- a later draw of that drawer is above every answer before the unread one
  pub last : (later : ℕ) (deed : Deed) → IsDeedAt log later deed → deed.by ≡ drawer → stamp < later → AllByRecursion (λ (a : Answer). a.stamp < later) (answers_in before)
  -- the giver was not told of it
  pub untold : AllByRecursion (λ (told : ℕ). told ≡ stamp → ⊥) (told_in before)

abbrev pub EachUnread : ℕ → List Deed → List GiverTurn → Type 0
EachUnread n log [] = Unit {0}
EachUnread n log (answered answer ∷ before) = EachUnread n log before
EachUnread n log (unread ∷ before) = IsUnread n log before × EachUnread n log before
EachUnread n log (met stamps ∷ before) = EachUnread n log before

-- ---- all ends

-- the lists are the answers of the drawers in order, from the end with this number on
abbrev pub AreAnswers : ℕ → List Deed → List (List Answer) → Type 0
AreAnswers end log [] = Unit {0}
AreAnswers end log (answers ∷ others) = (answers ≡ answers_by end log) × AreAnswers (suc end) log others

-- The deeds are those of the giver and the drawers and of nobody else, each in its end's order, and are a history of the pool.
pub record IsTogether (n : ℕ) (turns : List GiverTurn) (drawers : List (List Answer)) (log : List Deed) : Type 0 where
  pub lawful : IsHistoryBack n (events_of log)
  pub spent : EachSpends log
  pub giver : answers_in turns ≡ answers_by 0 log
  pub draws : AreAnswers 1 log drawers
  pub nobody_else : AllByRecursion (λ (deed : Deed). deed.by ≤ length drawers) log
  pub unread : EachUnread n log turns

-- ---- examples

-- two drawers and a giver: one buffer is got, is not there, is missed and is given
abbrev pub four_deeds : List Deed
four_deeds = given_of 0 0 ∷ missed ∷ empty_by 2 ∷ got_by 1 0 ∷ []

first_drawer : answers_by 1 four_deeds ≡ record { stamp = 0; event = Got 0; draw = 0 } ∷ []
first_drawer = refl

second_drawer : answers_by 2 four_deeds ≡ record { stamp = 1; event = Empty; draw = 0 } ∷ []
second_drawer = refl

its_giver : stamps_in (answers_by 0 four_deeds) ≡ 3 ∷ 2 ∷ []
its_giver = refl

two_and_two : (drawn_in four_deeds ≡ 2) × (given_in four_deeds ≡ 2)
two_and_two = (refl, refl)

-- the lease of the draw with the stamp 0 was spent by the give with the stamp 3
lease_spent : EachSpends four_deeds
lease_spent = (((1, inr (inr (inl (refl, refl)))), ((λ _ none. none), ((λ _ none. none), ((λ low _. omega arith), tt)))), (tt, (tt, (tt, tt))))

-- no event after the give has its buffer
none_after : NoneSince 0 3 four_deeds
none_after = ((λ low _. omega arith), ((λ _ none. none), ((λ _ none. none), ((λ low _. omega arith), tt))))

second_draw : IsDraw four_deeds 1 1 (empty_by 2)
second_draw = inr (inr (inl (refl, refl, refl, refl)))

abbrev given_at : ℕ → ℕ → ℕ → GiverTurn
given_at stamp buffer draw = answered (record { stamp = stamp; event = Given buffer; draw = draw })

-- all four are one history
one_history : IsTogether 1 (given_at 3 0 0 ∷ answered (record { stamp = 2; event = Missed; draw = 0 }) ∷ [])
    ((record { stamp = 0; event = Got 0; draw = 0 } ∷ []) ∷ (record { stamp = 1; event = Empty; draw = 0 } ∷ []) ∷ []) four_deeds
one_history =
    record {
      lawful = ((((tt, refl), refl), (refl, lit< tt)), lit< tt);
      spent = lease_spent;
      giver = refl;
      draws = (refl, (refl, tt));
      nobody_else = (lit≤ tt, (lit≤ tt, (lit≤ tt, (lit≤ tt, tt))));
      unread = tt;
    }

-- the tally of the four
four_counted : Counts four_deeds (record { gots = 1; empties = 1; gives = 1; misses = 1 })
four_counted = record { gots = refl; empties = refl; gives = refl; misses = refl }

-- Two buffers, so the entries come round after four numbers. The second drawer has not collected the number 1, while the first
-- drew four times and the giver gave three times. The next give, of the number 5, finds that entry in use.
abbrev slow_drawer : List Deed
slow_drawer = got_by 1 0 ∷ given_of 0 5 ∷ got_by 1 0 ∷ given_of 0 3 ∷ got_by 1 0 ∷ given_of 0 0 ∷ got_by 2 1 ∷ got_by 1 0 ∷ []

nothing_later : (later : ℕ) (deed : Deed) → IsDeedAt slow_drawer later deed → deed.by ≡ 2 → 1 < later → ⊥
nothing_later later deed at by above =
    let not_by : (other : Deed) → other ≡ deed → (other.by ≡ 2 → ⊥) → ⊥ = λ other same differs. differs (ap (λ (d : Deed). d.by) same ∙ by) in
    let one : (◌≡◌ {A = ℕ} 1 2 → ⊥) = λ (e : ◌≡◌ {A = ℕ} 1 2). omega arith in
    let nil : (◌≡◌ {A = ℕ} 0 2 → ⊥) = λ (e : ◌≡◌ {A = ℕ} 0 2). omega arith in
    elim at [
      | inl h ↦ not_by _ h.1 one
      | inr at ↦ elim at [
        | inl h ↦ not_by _ h.1 nil
        | inr at ↦ elim at [
          | inl h ↦ not_by _ h.1 one
          | inr at ↦ elim at [
            | inl h ↦ not_by _ h.1 nil
            | inr at ↦ elim at [
              | inl h ↦ not_by _ h.1 one
              | inr at ↦ elim at [
                | inl h ↦ not_by _ h.1 nil
                | inr at ↦ elim at [ inl h ↦ let e : later ≡ 1 = h.0 in omega arith | inr at ↦ elim at [ inl h ↦ let e : later ≡ 0 = h.0 in omega arith | inr at ↦ at ] ]
              ]
            ]
          ]
        ]
      ]
    ]

fifth_is_unread : IsUnread 2 slow_drawer (given_at 6 0 5 ∷ met (7 ∷ 5 ∷ []) ∷ given_at 4 0 3 ∷ given_at 2 0 0 ∷ [])
fifth_is_unread =
    record {
      number = 1;
      stamp = 1;
      drawer = 2;
      buffer = 1;
      laps = refl;
      draw = inr (inr (inr (inr (inr (inr (inl (refl, refl, refl, refl)))))));
      unspent = ((λ e. omega arith), ((λ e. omega arith), ((λ e. omega arith), tt)));
      last = λ later deed at by above. absurd (nothing_later later deed at by above);
      untold = ((λ e. omega arith), ((λ e. omega arith), tt));
    }

told_of : told_in (unread ∷ met (4 ∷ 2 ∷ []) ∷ answered (record { stamp = 0; event = Missed; draw = 0 }) ∷ met (1 ∷ []) ∷ []) ≡ 4 ∷ 2 ∷ 1 ∷ []
told_of = refl
