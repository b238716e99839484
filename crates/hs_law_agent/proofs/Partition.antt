-- Each chunk is indexed, pinned or let go, and only one of these.
use Rattle.std.proofs.Common.{◌≡◌, ℕ, zero, suc, ◌+◌, true, false, List, [], ◌∷◌, ◌++◌, refl, sym, arith, inl, inr, true≢false}
use Rattle.hs_law_agent.proofs.Prelude.{◌⊎◌, one_if, ChunkStanding, Indexed, Pinned, Reported, Evicted, Abandoned, Taken, is_indexed, is_pinned, is_let_go, stands, AgentState, after, count_of, given_places, PlacesMatch}
use Rattle.hs_law_agent.specs.Laws.{ListsHaveTheirChunks, IsInOnePlace, StandingsPartition, IsHeld, HeldChunksAreInNoHand}
use Rattle.hs_law_agent.proofs.Counts.{count-append, passes_too}
use Rattle.hs_law_agent.proofs.Traversal.{kept_after}
use Rattle.hs_law_agent.proofs.Placed.{match_kept, match_start}

pub lists_have_their_chunks : ListsHaveTheirChunks
lists_have_their_chunks settings node events = kept_after settings node PlacesMatch (match_kept settings node) (match_start settings) events

one_way : (s : ChunkStanding) → one_if (is_indexed s) + one_if (is_pinned s) + one_if (is_let_go s) ≡ 1
one_way Indexed = refl
one_way (Pinned g) = refl
one_way (Reported g) = refl
one_way (Evicted a b) = refl
one_way (Abandoned g) = refl

three_ways : (taken : List Taken) (p : ℕ) → one_if (stands is_indexed taken p) + one_if (stands is_pinned taken p) + one_if (stands is_let_go taken p) ≡ one_if (stands (λ _. true) taken p)
three_ways [] p = refl
three_ways (c ∷ taken) zero = one_way c.standing
three_ways (c ∷ taken) (suc p) = three_ways taken p

pub in_one_place : (s : AgentState) (p : ℕ) → PlacesMatch s → IsInOnePlace s p
in_one_place s p m =
    let pinned : count_of s.pinned p ≡ one_if (stands is_pinned s.taken p) = m.pinned_each p in
    let gone : count_of (given_places s ++ s.hand) p ≡ one_if (stands is_let_go s.taken p) = m.gone_each p in
    let parts = count-append (given_places s) s.hand p in
    let ways = three_ways s.taken p in
    let goal : one_if (stands is_indexed s.taken p) + count_of s.pinned p + count_of (given_places s) p + count_of s.hand p ≡ one_if (stands (λ _. true) s.taken p) = omega arith in
    goal

pub standings_partition : StandingsPartition
standings_partition settings node events p = in_one_place (after settings node events) p (lists_have_their_chunks settings node events)

indexed_stays : (s : ChunkStanding) → is_indexed s ≡ true → is_let_go s ≡ false
indexed_stays Indexed e = refl
indexed_stays (Pinned g) e = refl
indexed_stays (Reported g) e = absurd (true≢false (sym e))
indexed_stays (Evicted a b) e = absurd (true≢false (sym e))
indexed_stays (Abandoned g) e = absurd (true≢false (sym e))

pinned_stays : (s : ChunkStanding) → is_pinned s ≡ true → is_let_go s ≡ false
pinned_stays Indexed e = refl
pinned_stays (Pinned g) e = refl
pinned_stays (Reported g) e = absurd (true≢false (sym e))
pinned_stays (Evicted a b) e = absurd (true≢false (sym e))
pinned_stays (Abandoned g) e = absurd (true≢false (sym e))

not_let_go : (taken : List Taken) (p : ℕ) → (stands is_indexed taken p ≡ true) ⊎ (stands is_pinned taken p ≡ true) → stands is_let_go taken p ≡ false
not_let_go taken p (inl e) = passes_too (λ c. is_indexed c.standing) (λ c. is_let_go c.standing) false (λ c. indexed_stays c.standing) taken p e
not_let_go taken p (inr e) = passes_too (λ c. is_pinned c.standing) (λ c. is_let_go c.standing) false (λ c. pinned_stays c.standing) taken p e

is_held : (s : AgentState) (p : ℕ) → PlacesMatch s → stands is_let_go s.taken p ≡ false → IsHeld s p
is_held s p m stays =
    let gone : count_of (given_places s ++ s.hand) p ≡ one_if (stands is_let_go s.taken p) = m.gone_each p in
    let none : one_if (stands is_let_go s.taken p) ≡ 0 = rw stays refl in
    let parts = count-append (given_places s) s.hand p in
    record { hand = omega arith; given = omega arith }

pub held_chunks_are_in_no_hand : HeldChunksAreInNoHand
held_chunks_are_in_no_hand settings node events p held =
    is_held (after settings node events) p (lists_have_their_chunks settings node events) (not_let_go (after settings node events).taken p held)
