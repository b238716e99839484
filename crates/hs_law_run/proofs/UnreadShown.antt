-- What an unread offer shows, by what is known in the end.
use Rattle.std.proofs.Common.{◌≡◌, ℕ, zero, suc, ◌+◌, ◌-◌, ◌<◌, ◌≤◌, true, ◌==◌, List, [], ◌∷◌, ◌++◌, length, refl, sym, ap, subst, ◌∙◌, arith, take, min, count_by, append_assoc}
use Rattle.hs_law_run.proofs.Prelude.{AllByRecursion, list_any, slice_get_within, all_front, all_each, all_at, all_by_place, get_some, PlainJournal, EventsAddThis, Unread, AgentEvent, Gave, PlainWorkload, DrawnPage, stamp_of, TimedPagesAreTimely, client_sends, Deed, Answer, GiverTurn, answered, unread, met, answers_in, told_in, is_turn, log_stamps, round_of, joined, NodeDoings, all_events, events_in, steps_of, node_at_end, IsPass, pages_at, draw_answer, give_at, IsUnreadAt, IsPooledUnread}
use Rattle.hs_words.specs.Ends.{IsUnread, EachUnread}
use Rattle.hs_law_journal.proofs.Joined.{take_next}
use Rattle.hs_law_journal.proofs.Told.{told_more}
use Rattle.hs_law_run.proofs.Pools.{stamp_same}
use Rattle.hs_law_run.proofs.PoolOf.{IsPoolOf}
use Rattle.hs_law_run.proofs.Rounds.{IsFit, all_pages_at}
use Rattle.hs_law_run.proofs.History.{late_pages}
use Rattle.hs_law_run.proofs.Meeting.{stamps_both, stamps_below, starts_in_rounds, early_or_all}
use Rattle.hs_law_run.proofs.Places.{InPass, in_pass, turns_before}
use Rattle.hs_law_run.proofs.Pooled.{named, last_turns, is_pooled, log_is}
use Rattle.hs_law_run.proofs.Turns.{offers_among, offer_turns, offers_both, offer_turns_both, turns_stamps, turns_gives, turns_count, turns_split, SplitAt}

-- ---- lists

each_unread : (n : ℕ) (log : List Deed) (later earlier : List GiverTurn) → EachUnread n log (later ++ unread ∷ earlier) → IsUnread n log earlier
each_unread n log [] earlier each = each.0
each_unread n log (answered a ∷ later) earlier each = each_unread n log later earlier each
each_unread n log (unread ∷ later) earlier each = each_unread n log later earlier each.1
each_unread n log (met stamps ∷ later) earlier each = each_unread n log later earlier each

-- turns that go on from others
record GoOn (turns earlier : List GiverTurn) : Type 0 where
  more : List GiverTurn
  turns_are : turns ≡ more ++ earlier

-- what stands before an unread turn goes on from any earlier turns that have no more offers
goes_on : (later earlier xs ys : List GiverTurn) → later ++ unread ∷ earlier ≡ xs ++ ys → offer_turns ys ≤ offer_turns earlier → GoOn earlier ys
goes_on [] earlier [] ys h few = let more = ap offer_turns h in absurd (omega (arith, few, more))
goes_on [] earlier (x ∷ xs) ys h few = record { more = xs; turns_are = tail_of h }
  where
    tail_of : unread ∷ earlier ≡ x ∷ xs ++ ys → earlier ≡ xs ++ ys
    tail_of e = cc
goes_on (l ∷ later) earlier [] ys h few =
    let both = sym (ap offer_turns h) ∙ offer_turns_both (l ∷ later) (unread ∷ earlier) in absurd (omega (arith, few, both))
goes_on (l ∷ later) earlier (x ∷ xs) ys h few = goes_on later earlier xs ys (tail_of h) few
  where
    tail_of : l ∷ later ++ unread ∷ earlier ≡ x ∷ xs ++ ys → later ++ unread ∷ earlier ≡ xs ++ ys
    tail_of e = cc

fewer_offers : (passes : List (List AgentEvent)) (j k : ℕ) → j ≤ k → offers_among (joined (take j passes)) ≤ offers_among (joined (take k passes))
fewer_offers passes zero k low = omega arith
fewer_offers passes (suc j) zero low = absurd (omega (arith, low))
fewer_offers [] (suc j) (suc k) low = omega arith
fewer_offers (pass ∷ passes) (suc j) (suc k) low =
    let rest = fewer_offers passes j k (omega (arith, low)) in
    let a = offers_both pass (joined (take j passes)) in
    let b = offers_both pass (joined (take k passes)) in
    omega (arith, rest, a, b)

module _ (adds : EventsAddThis) (timely : TimedPagesAreTimely) (W : PlainWorkload) (fit : IsFit W) (J : PlainJournal) (n : NodeDoings) (rounds : ℕ) (p : IsPoolOf W J n rounds)
    (passes : AllByRecursion (IsPass W) n.passes)
  where
    turns_from : (d k : ℕ) → k + d ≤ length n.passes → GoOn (p.at (k + d)).turns (p.at k).turns
    turns_from zero k low = let same : k + 0 ≡ k = omega arith in record { more = []; turns_are = ap (λ m. (p.at m).turns) same }
    turns_from (suc d) k low =
        let there = get_some n.passes k (omega (arith, low)) in
        let step = p.passes k there.item there.there in
        let rest = turns_from d (suc k) (omega (arith, low)) in
        let same : k + suc d ≡ suc k + d = omega arith in
        record {
          more = rest.more ++ step.more;
          turns_are = ap (λ m. (p.at m).turns) same ∙ rest.turns_are ∙ ap (λ list. rest.more ++ list) step.turns ∙ sym (append_assoc rest.more step.more (p.at k).turns);
        }

    turns_go_on : (k : ℕ) → k ≤ length n.passes → GoOn (p.at (length n.passes)).turns (p.at k).turns
    turns_go_on k low =
        let same : k + (length n.passes - k) ≡ length n.passes = omega (arith, low) in
        subst (λ m. GoOn (p.at m).turns (p.at k).turns) same (turns_from (length n.passes - k) k (omega (arith, low)))

    told_by : (place client : ℕ) → client < W.settings.clients → AllByRecursion (λ (a : Answer). list_any (λ told. told == a.stamp) (told_in (p.at (min place rounds)).turns) ≡ true) ((p.at (min place rounds)).answers client)
    told_by place client few = either (min place rounds) refl
      where
        either : (k : ℕ) → min place rounds ≡ k → AllByRecursion (λ (a : Answer). list_any (λ told. told == a.stamp) (told_in (p.at k).turns) ≡ true) ((p.at k).answers client)
        either zero is = subst (AllByRecursion (λ (a : Answer). list_any (λ told. told == a.stamp) (told_in (p.at 0).turns) ≡ true)) (sym (p.new client few)) tt
        either (suc k) is = (p.meets k client (omega (arith, is)) few).told

    module _ (before : List AgentEvent) (s : SplitAt W.settings n.node p.lents before (p.at (length n.passes)).turns) (at : InPass n.passes before) where
      within : at.place < length n.passes
      within = slice_get_within n.passes at.place at.pass at.there

      turns_is : count_by is_turn (steps_of before) ≡ suc at.place
      turns_is = turns_before W n.passes before at passes (slice_get_within n.passes at.place at.pass at.there) (all_at (IsPass W) n.passes at.place at.pass passes at.there)

      -- the events up to this pass are those before the offer, and more
      in_front : events_in n (suc at.place) ≡ before ++ Gave Unread ∷ at.rest
      in_front =
          take_next n.passes at.place at.pass at.there ∙ ap (λ list. joined (take at.place n.passes) ++ list) at.pass_is
          ∙ sym (append_assoc (joined (take at.place n.passes)) at.front (Gave Unread ∷ at.rest)) ∙ ap (λ list. list ++ Gave Unread ∷ at.rest) (sym at.before_is)

      stamps_low : (bound : ℕ) → AllByRecursion (λ (a : Answer). a.stamp < bound) (answers_in (p.at (suc at.place)).turns) → AllByRecursion (λ stamp. stamp < bound) (log_stamps (steps_of before))
      stamps_low bound all =
          all_front (λ stamp. stamp < bound) (log_stamps (steps_of before)) (log_stamps (steps_of (Gave Unread ∷ at.rest)))
          (subst (AllByRecursion (λ stamp. stamp < bound)) (ap (λ events. log_stamps (steps_of events)) in_front ∙ stamps_both before (Gave Unread ∷ at.rest))
          (stamps_below timely W fit J n rounds p (suc at.place) (slice_get_within n.passes at.place at.pass at.there) bound all))

      -- the turns before the offer go on from those of earlier rounds
      earlier_turns : (k : ℕ) → k ≤ at.place → GoOn s.earlier (p.at k).turns
      earlier_turns k low =
          let inside = slice_get_within n.passes at.place at.pass at.there in
          let whole = turns_go_on k (omega (arith, low, inside)) in
          let count = turns_count W.settings n.node p.lents (events_in n k) (p.at k).turns (p.turns k (omega (arith, low, inside))) in
          let mine = turns_count W.settings n.node p.lents before s.earlier s.are in
          let fewer = fewer_offers n.passes k at.place low in
          let both = ap offers_among at.before_is ∙ offers_both (joined (take at.place n.passes)) at.front in
          goes_on s.later s.earlier whole.more (p.at k).turns (sym s.turns_are ∙ whole.turns_are) (omega (arith, count, mine, fewer, both))

      above : AllByRecursion (λ (page : DrawnPage). count_by is_turn (steps_of before) < round_of W.settings.stride page.started → AllByRecursion (λ stamp. stamp < stamp_of page.draw) (log_stamps (steps_of before))) (pages_at W J n.node)
      above =
          all_pages_at (λ (page : DrawnPage). count_by is_turn (steps_of before) < round_of W.settings.stride page.started → AllByRecursion (λ stamp. stamp < stamp_of page.draw) (log_stamps (steps_of before))) W J n.node
          (λ client few.
          all_by_place (λ (page : DrawnPage). count_by is_turn (steps_of before) < round_of W.settings.stride page.started → AllByRecursion (λ stamp. stamp < stamp_of page.draw) (log_stamps (steps_of before))) (client_sends W J n.node client).drawn
          (λ i page h behind.
          let last = all_at (λ (page : DrawnPage). round_of W.settings.stride page.started ≤ rounds) (client_sends W J n.node client).drawn i page (starts_in_rounds timely W fit J n rounds p client few) h in
          let m = turns_is in
          let met = p.meets at.place client (omega (arith, behind, last, m)) few in
          let high =
          all_at (λ (page : DrawnPage). suc at.place < round_of W.settings.stride page.started → (p.at (suc at.place)).floors client ≤ (draw_answer page.draw).stamp) (client_sends W J n.node client).drawn i page
          (late_pages timely W fit J n rounds p (suc at.place) client (omega (arith, behind, last, m)) few) h (omega (arith, behind, m)) in
          let same = stamp_same page.draw in
          all_each (λ stamp. stamp < (p.at (suc at.place)).floors client) (λ stamp. stamp < stamp_of page.draw) (log_stamps (steps_of before)) (λ stamp low. omega (arith, low, high, same)) (stamps_low ((p.at (suc at.place)).floors client) met.given_below)))

      told : AllByRecursion (λ (page : DrawnPage). round_of W.settings.stride page.started < count_by is_turn (steps_of before) → list_any (λ told. told == stamp_of page.draw) (told_in s.earlier) ≡ true) (pages_at W J n.node)
      told =
          all_pages_at (λ (page : DrawnPage). round_of W.settings.stride page.started < count_by is_turn (steps_of before) → list_any (λ told. told == stamp_of page.draw) (told_in s.earlier) ≡ true) W J n.node
          (λ client few.
          let m = turns_is in
          let go = earlier_turns (min at.place rounds) (omega arith) in
          all_each (λ (page : DrawnPage). round_of W.settings.stride page.started ≤ at.place → list_any (λ told. told == (draw_answer page.draw).stamp) (told_in (p.at (min at.place rounds)).turns) ≡ true)
          (λ (page : DrawnPage). round_of W.settings.stride page.started < count_by is_turn (steps_of before) → list_any (λ told. told == stamp_of page.draw) (told_in s.earlier) ≡ true) (client_sends W J n.node client).drawn
          (λ page h low.
          subst (λ stamp. list_any (λ told. told == stamp) (told_in s.earlier) ≡ true) (stamp_same page.draw)
          (subst (λ turns. list_any (λ told. told == (draw_answer page.draw).stamp) (told_in turns) ≡ true) (sym go.turns_are)
          (told_more (λ told. told == (draw_answer page.draw).stamp) go.more (p.at (min at.place rounds)).turns (h (omega (arith, low, m))))))
          (early_or_all timely W fit J n rounds p (λ (a : Answer). list_any (λ told. told == a.stamp) (told_in (p.at (min at.place rounds)).turns) ≡ true) at.place client few (told_by at.place client few)))

      unread_here : IsUnreadAt W J n (is_pooled adds W J n rounds p) before
      unread_here =
          record {
            turns = s.earlier;
            unread = subst (λ log. IsUnread W.settings.buffers log s.earlier) (sym (log_is adds W J n rounds p))
                (each_unread W.settings.buffers p.log s.later s.earlier (subst (EachUnread W.settings.buffers p.log) s.turns_are p.together.unread));
            stamps = turns_stamps W.settings n.node p.lents before s.earlier s.are;
            gives = turns_gives W.settings n.node p.lents adds (give_at (node_at_end W J n)) (named adds W J n rounds p) before s.earlier s.are;
            above = above;
            told = told;
          }

    pub is_pooled_unread : IsPooledUnread W J n
    is_pooled_unread =
        record {
          pool = is_pooled adds W J n rounds p;
          each = λ before behind here.
              unread_here before (turns_split W.settings n.node p.lents (all_events n) (p.at (length n.passes)).turns (last_turns adds W J n rounds p) before behind here) (in_pass n.passes before behind here);
        }
