-- What is known of a giver's seat after a give.
use Rattle.std.proofs.Common.{◌≡◌, ℕ, suc, ◌+◌, ◌*◌, ◌<◌, ◌≤◌, [], length, refl, sym, ap, ◌∙◌, subst, arith}
use Rattle.hs_ring.proofs.Prelude.{TableId, Contents, Answer, answers_in, all_of, GiverSeat, bare, View, nobody, drawing, leasing, giving, drawer_note, giver_note, giver_seat_of, with_lease, PoolSeat, IsSameSeat, IsFree}
use Rattle.hs_words.specs.declared.token.TheConstants.{MAX_PUBLISHED}
use Rattle.hs_words.specs.declared.token.Given.{Given as Answered}
use Rattle.hs_words.specs.declared.token.Given.TheVariants as given
use Rattle.hs_ring.specs.Parts.{Leased, AllBelow}
use Rattle.hs_ring.specs.Views.{having_laid}
use Rattle.hs_ring.specs.Seats.{IsSeatAt, IsGiverSeat, Publishes, published_after, given_giver_seat, missed_giver_seat}
use Rattle.hs_ring.proofs.Owed.{Mine}

pub post_there : (s : PoolSeat) (post : GiverSeat) → s.me ≡ (giving post bare, []) → giver_seat_of s.me.0 ≡ post
post_there s post is = ap (λ (m : Mine). giver_seat_of m.0) is

pub free_there : (s : PoolSeat) (post : GiverSeat) → s.me ≡ (giving post bare, []) → IsFree s
free_there s post is = is ∙ ap (λ (p : GiverSeat). let m : Mine = (giving p bare, []) in m) (sym (post_there s post is))

pub at_there : (table : TableId) (s t : PoolSeat) → IsSeatAt table s → IsSameSeat s t → IsSeatAt table t
at_there table s t at same = (same.0 ∙ at.0, at.1, at.2, at.3)

-- an answer at its floor
raised : (stamp : ℕ) (post : GiverSeat) → AllBelow post.floor (answers_in post.turns) → post.floor ≤ stamp → (stamp < suc stamp) × AllBelow (suc stamp) (answers_in post.turns)
raised stamp post below le = (omega arith, all_of (answers_in post.turns) (λ (a : Answer) (less : a.stamp < post.floor). omega arith) below)

-- the seat after one more answer
answered_seat : (table : TableId) (old new : PoolSeat) (post : GiverSeat) (buffers number : ℕ) → IsSeatAt table old → IsSameSeat old new → 2 * buffers ≡ table.slots → new.me ≡ (giving post bare, [])
    → number + 1 ≡ buffers + length (answers_in post.turns) → post.closed ≡ [] → number < MAX_PUBLISHED → post.misses ≤ MAX_PUBLISHED → AllBelow post.floor (answers_in post.turns) → IsGiverSeat table new buffers (number + 1)
answered_seat table old new post buffers number at same halves is counted none few misses above =
    let there = post_there new post is in
    record {
      at = at_there table old new at same;
      free = free_there new post is;
      halves = halves;
      published_is = counted ∙ ap (λ (p : GiverSeat). buffers + length (answers_in p.turns)) (sym there);
      none_closed = ap (λ (p : GiverSeat). p.closed) there ∙ none;
      few = omega arith;
      few_misses = subst (λ (p : GiverSeat). p.misses ≤ MAX_PUBLISHED) (sym there) misses;
      above = subst (λ (p : GiverSeat). AllBelow p.floor (answers_in p.turns)) (sym there) above;
    }

pub still_giver : {g : _} (table : TableId) (first old new : PoolSeat) (buffers number mark : ℕ) (chunk : Contents) (result : Answered Leased g) → IsGiverSeat table first buffers number → IsSeatAt table old
    → giver_seat_of old.me.0 ≡ giver_seat_of first.me.0 → IsSameSeat old new → Publishes mark old chunk result new → number < MAX_PUBLISHED → (giver_seat_of first.me.0).misses < MAX_PUBLISHED
    → IsGiverSeat table new buffers (published_after number result)
still_giver table first old new buffers number mark chunk (given.Given stamp) seat at is same told few misses =
    answered_seat table old new (given_giver_seat old.me.0 stamp) buffers number at same seat.halves told.0
    (let before = seat.published_is in let turns = ap (λ (p : GiverSeat). length (answers_in p.turns)) is in omega arith)
    (ap (λ (p : GiverSeat). p.closed) is ∙ seat.none_closed) few (let m = ap (λ (p : GiverSeat). p.misses) is in omega arith)
    (raised stamp (giver_seat_of old.me.0) (subst (λ (p : GiverSeat). AllBelow p.floor (answers_in p.turns)) (sym is) seat.above) told.1)
still_giver table first old new buffers number mark chunk (given.Missed back stamp) seat at is same told few misses =
    answered_seat table old new (missed_giver_seat old.me.0 stamp) buffers number at same seat.halves told.0
    (let before = seat.published_is in let turns = ap (λ (p : GiverSeat). length (answers_in p.turns)) is in omega arith)
    (ap (λ (p : GiverSeat). p.closed) is ∙ seat.none_closed) few (let m = ap (λ (p : GiverSeat). p.misses) is in omega arith)
    (raised stamp (giver_seat_of old.me.0) (subst (λ (p : GiverSeat). AllBelow p.floor (answers_in p.turns)) (sym is) seat.above) told.1)
still_giver table first old new buffers number mark chunk (given.Unread back) seat at is same told few misses = absurd told

-- the giver's seat is the same while a lease is taken and a number is laid
pub post_laid : (v : View) → giver_seat_of (having_laid v) ≡ giver_seat_of v
post_laid nobody = refl
post_laid (drawing desk hand) = refl
post_laid (leasing buffer draw) = refl
post_laid (giving post palm) = refl
post_laid (drawer_note floor stamps) = refl
post_laid (giver_note floor) = refl

pub post_taken : (v w : View) → giver_seat_of (with_lease v w) ≡ giver_seat_of v
post_taken nobody w = refl
post_taken (drawing desk hand) w = refl
post_taken (leasing buffer draw) w = refl
post_taken (giving post palm) nobody = refl
post_taken (giving post palm) (drawing desk hand) = refl
post_taken (giving post palm) (leasing buffer draw) = refl
post_taken (giving post palm) (giving post' palm') = refl
post_taken (giving post palm) (drawer_note floor stamps) = refl
post_taken (giving post palm) (giver_note floor) = refl
post_taken (drawer_note floor stamps) w = refl
post_taken (giver_note floor) w = refl
