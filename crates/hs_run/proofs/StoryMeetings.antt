-- The clients of a node in the rounds: what their drawers were answered, and what meetings tell of it.
use Rattle.std.proofs.Common.{◌≡◌, ℕ, zero, suc, ◌+◌, ◌*◌, ◌<◌, ◌≤◌, ◌==◌, ◌||◌, Bool, true, false, List, [], ◌∷◌, ◌++◌, length, reverse, refl, sym, ap, subst, ◌∙◌, Some, None, arith, map, filter, cond, nat_lt, ltb-true, slice_get, eq-eqb, append_assoc}
use Rattle.hs_run.proofs.Prelude.{AllByRecursion, reverse_cons, ClientId, Operation, PlainSettings, PlainWorkload, count_started, ops_of, Answer, IsValid, PlainClientActor, ClientActorIsAt, Goes, HasSentSoFar, RunState, told_of, ClientActorMet, Came, done_by, PoolEnds, PoolEndsMeet}
use Rattle.std.specs.List.{list_any}
use Rattle.hs_base.proofs.Alls.{all_each}
use Rattle.hs_ring.specs.Parts.{AllBelow}
use Rattle.hs_client.specs.Timing.{TimedPage, timed_pages}
use Rattle.hs_words.specs.Ends.{GiverTurn, met, answers_in, told_in, stamps_in}
use Rattle.hs_law_journal.proofs.Told.{answers_behind, any_behind, told_more}
use Rattle.hs_run.proofs.Drawing.{draws_long}
use Rattle.hs_run.proofs.StoryMoments.{site_of, caller_of, site_there, caller_there, site_stands, site_acts, site_meets, site_moves, giver_same}

-- ---- meetings among turns

any_front : (q : ℕ → Bool) (xs ys : List ℕ) → list_any q xs ≡ true → list_any q (xs ++ ys) ≡ true
any_front q [] ys h = let no : false ≡ true = h in absurd cc
any_front q (x ∷ xs) ys h = either (q x) h (λ g. any_front q xs ys g)
  where
    either : (b : Bool) → (b || list_any q xs) ≡ true → (list_any q xs ≡ true → list_any q (xs ++ ys) ≡ true) → (b || list_any q (xs ++ ys)) ≡ true
    either true h rest = refl
    either false h rest = rest h

-- who was met told of all draws
told_by_met : (q : ℕ → Bool) (callers : List PlainClientActor) (turns : List GiverTurn) (number : ℕ) (caller : PlainClientActor) → slice_get callers number ≡ Some caller → list_any q (stamps_in caller.client.drawer.answers) ≡ true
    → list_any q (told_in (reverse (map told_of callers) ++ turns)) ≡ true
told_by_met q [] turns number caller h any = let no : None ≡ Some caller = h in absurd cc
told_by_met q (c ∷ callers) turns zero caller h any =
    let same : Some c ≡ Some caller = h in
    let is : caller ≡ c = cc in
    subst (λ list. list_any q (told_in list) ≡ true)
    (sym (append_assoc (reverse (map told_of callers)) (told_of c ∷ []) turns) ∙ ap (λ front. front ++ turns) (sym (reverse_cons (told_of c) (map told_of callers))))
    (told_more q (reverse (map told_of callers)) (told_of c ∷ turns)
    (any_front q (stamps_in c.client.drawer.answers) (told_in turns) (subst (λ (x : PlainClientActor). list_any q (stamps_in x.client.drawer.answers) ≡ true) is any)))
told_by_met q (c ∷ callers) turns (suc number) caller h any =
    subst (λ list. list_any q (told_in list) ≡ true)
    (sym (append_assoc (reverse (map told_of callers)) (told_of c ∷ []) turns) ∙ ap (λ front. front ++ turns) (sym (reverse_cons (told_of c) (map told_of callers))))
    (told_by_met q callers (told_of c ∷ turns) number caller h any)

own_stamps : (answers : List Answer) → AllByRecursion (λ (a : Answer). list_any (λ told. told == a.stamp) (stamps_in answers) ≡ true) answers
own_stamps [] = tt
own_stamps (a ∷ answers) = (
  ap (λ b. b || list_any (λ told. told == a.stamp) (stamps_in answers)) (eq-eqb a.stamp a.stamp refl),
  all_each (λ (x : Answer). list_any (λ told. told == x.stamp) (stamps_in answers) ≡ true) (λ (x : Answer). list_any (λ told. told == x.stamp) (stamps_in (a ∷ answers)) ≡ true) answers
      (λ x h. any_behind (λ told. told == x.stamp) (a.stamp ∷ []) (stamps_in answers) h) (own_stamps answers),
)

abbrev pub HaveSent : Type 0
HaveSent = (settings : PlainSettings) (client : ClientId) (ops : List Operation) (caller : PlainClientActor) → ClientActorIsAt settings client ops caller → HasSentSoFar settings client ops caller

module _ (W : PlainWorkload) (valid : IsValid W) (rounds : ℕ) (m : RunState) (came : Came W rounds m) where
  abbrev pub caller_at : (node k client : ℕ) → PlainClientActor
  caller_at node k client = caller_of W valid rounds m came (site_of W valid rounds m came (came.at k) node) client

  abbrev pub acted_at : (node k client : ℕ) → PlainClientActor
  acted_at node k client = caller_of W valid rounds m came (site_of W valid rounds m came (came.acted k) node) client

  abbrev pub met_at : (node k client : ℕ) → PlainClientActor
  met_at node k client = caller_of W valid rounds m came (site_of W valid rounds m came (came.met k) node) client

  abbrev pub ends_at : (node k : ℕ) → PoolEnds
  ends_at node k =
      record {
        turns = (site_of W valid rounds m came (came.at k) node).agent.port.giver.turns;
        floor = (site_of W valid rounds m came (came.at k) node).agent.port.giver.floor;
        answers = λ client. (caller_at node k client).client.drawer.answers;
        floors = λ client. (caller_at node k client).client.drawer.floor;
      }

  module _ (node : ℕ) (few : node < W.settings.nodes) where
    pub here_at : (k client : ℕ) → k ≤ rounds → client < W.settings.clients → slice_get (site_of W valid rounds m came (came.at k) node).callers client ≡ Some (caller_at node k client)
    here_at k client low own = caller_there W valid rounds m came node ((came.at k).works node) (site_of W valid rounds m came (came.at k) node) (site_stands W valid rounds m came k node low few) client own

    pub here_acted : (k client : ℕ) → k < rounds → client < W.settings.clients → slice_get (site_of W valid rounds m came (came.acted k) node).callers client ≡ Some (acted_at node k client)
    here_acted k client low own =
        caller_there W valid rounds m came node ((came.acted k).works node) (site_of W valid rounds m came (came.acted k) node) (site_acts W valid rounds m came k node low few).stands client own

    pub here_met : (k client : ℕ) → k < rounds → client < W.settings.clients → slice_get (site_of W valid rounds m came (came.met k) node).callers client ≡ Some (met_at node k client)
    here_met k client low own =
        caller_there W valid rounds m came node ((came.acted k).works node) (site_of W valid rounds m came (came.met k) node) (site_meets W valid rounds m came k node low few).stands client own

    pub goes_at : (k client : ℕ) → k < rounds → client < W.settings.clients → Goes W.settings (ops_of W node client) (caller_at node k client) (acted_at node k client)
    goes_at k client low own =
        (site_acts W valid rounds m came k node low few).goes client (caller_at node k client) (acted_at node k client) (here_at k client (omega (arith, low)) own) (here_acted k client low own)

    pub caller_met : (k client : ℕ) → k < rounds → client < W.settings.clients
        → ClientActorMet client (site_of W valid rounds m came (came.acted k) node).agent.port (site_of W valid rounds m came (came.met k) node).agent.port (acted_at node k client) (met_at node k client)
    caller_met k client low own =
        (site_meets W valid rounds m came k node low few).callers client (acted_at node k client) (met_at node k client) (here_acted k client low own) (here_met k client low own)

    pub caller_moved : (k client : ℕ) → k < rounds → client < W.settings.clients → caller_at node (suc k) client ≡ met_at node k client
    caller_moved k client low own =
        let some = here_at (suc k) client (omega (arith, low)) own in
        let other = here_met k client low own in
        let same = ap (λ callers. slice_get callers client) (site_moves W valid rounds m came k node low few).callers in
        let is : Some (caller_at node (suc k) client) ≡ Some (met_at node k client) = sym some ∙ same ∙ other in cc

    pub is_at : (k client : ℕ) → k ≤ rounds → client < W.settings.clients → ClientActorIsAt W.settings (record { node = node; number = client }) (ops_of W node client) (caller_at node k client)
    is_at k client low own = (site_stands W valid rounds m came k node low few).callers client (caller_at node k client) (here_at k client low own)

    -- ---- operations

    pub done_at : (k client : ℕ) → k ≤ rounds → client < W.settings.clients → (caller_at node k client).done ≡ done_by W node client k
    done_at zero client low own =
        let s = site_of W valid rounds m came (came.at 0) node in
        came.begun.done node client s (caller_at node 0 client) (site_there W valid rounds m came (came.at 0) came.begun.stands node few) (here_at 0 client low own) ∙ omega arith
    done_at (suc k) client low own =
        let before = done_at k client (omega (arith, low)) own in
        let goes = (goes_at k client (omega (arith, low)) own).done in
        let met = (caller_met k client (omega (arith, low)) own).done in
        let moved = ap (λ (c : PlainClientActor). c.done) (caller_moved k client (omega (arith, low)) own) in
        let next : suc k * W.settings.stride ≡ k * W.settings.stride + W.settings.stride = omega arith in
        omega (arith, before, goes, met, moved, next)

    -- ---- draws

    pub has_met : (k client : ℕ) → k < rounds → client < W.settings.clients → PoolEndsMeet client (ends_at node k) (ends_at node (suc k))
    has_met k client low own =
        let draws = (goes_at k client low own).draws in
        let met = caller_met k client low own in
        let giver = (site_meets W valid rounds m came k node low few).giver in
        let moved = caller_moved k client low own in
        let same = giver_same W valid rounds m came k node low few in
        let drawer = ap (λ (c : PlainClientActor). c.client.drawer) moved ∙ met.drawer in
        let answers : (caller_at node (suc k) client).client.drawer.answers ≡ (acted_at node k client).client.drawer.answers = ap (λ d. d.answers) drawer in
        let floor : (caller_at node (suc k) client).client.drawer.floor ≡ met.floor = ap (λ d. d.floor) drawer in
        let turns : (ends_at node (suc k)).turns ≡ reverse (map told_of (site_of W valid rounds m came (came.acted k) node).callers) ++ (site_of W valid rounds m came (came.acted k) node).agent.port.giver.turns =
        ap (λ g. g.turns) same ∙ giver.turns in
        let first = draws.floor in
        let rises = met.rises in
        record {
          more = draws.added;
          answers = answers ∙ draws.since;
          high = draws.above;
          floor = omega (arith, first, rises, floor);
          drawn_below = subst (λ (list : List Answer). AllBelow (ends_at node (suc k)).floor list) (sym answers)
              (subst (λ bound. AllBelow bound (acted_at node k client).client.drawer.answers) (sym (ap (λ g. g.floor) same)) (giver.above_drawn client (acted_at node k client) (here_acted k client low own)));
          given_below = subst (λ (list : List Answer). AllBelow ((ends_at node (suc k)).floors client) list)
              (sym (ap answers_in turns ∙ answers_behind (λ (caller : PlainClientActor). stamps_in caller.client.drawer.answers) (site_of W valid rounds m came (came.acted k) node).callers (site_of W valid rounds m came (came.acted k) node).agent.port.giver.turns))
              (subst (λ bound. AllBelow bound (answers_in (site_of W valid rounds m came (came.acted k) node).agent.port.giver.turns)) (sym floor) met.above_given);
          told = subst (λ (list : List Answer). AllByRecursion (λ (a : Answer). list_any (λ told. told == a.stamp) (told_in (ends_at node (suc k)).turns) ≡ true) list) (sym answers)
              (all_each (λ (a : Answer). list_any (λ told. told == a.stamp) (stamps_in (acted_at node k client).client.drawer.answers) ≡ true)
              (λ (a : Answer). list_any (λ told. told == a.stamp) (told_in (ends_at node (suc k)).turns) ≡ true) (acted_at node k client).client.drawer.answers
              (λ a h.
              subst (λ list. list_any (λ told. told == a.stamp) (told_in list) ≡ true) (sym turns)
              (told_by_met (λ told. told == a.stamp) (site_of W valid rounds m came (came.acted k) node).callers (site_of W valid rounds m came (came.acted k) node).agent.port.giver.turns client (acted_at node k client)
              (here_acted k client low own) h))
              (own_stamps (acted_at node k client).client.drawer.answers));
        }

    none_started : (pages : List TimedPage) → length (filter (λ (page : TimedPage). nat_lt page.started 0) pages) ≡ 0
    none_started [] = refl
    none_started (page ∷ pages) = either (nat_lt page.started 0) refl (none_started pages)
      where
        either : (b : Bool) → nat_lt page.started 0 ≡ b → length (filter (λ (page : TimedPage). nat_lt page.started 0) pages) ≡ 0
            → length (cond b (page ∷ filter (λ (page : TimedPage). nat_lt page.started 0) pages) (filter (λ (page : TimedPage). nat_lt page.started 0) pages)) ≡ 0
        either true e rest = let low = ltb-true page.started 0 e in absurd (omega (arith, low))
        either false e rest = rest

    module _ (sent : HaveSent) where
      pub sent_at : (k client : ℕ) → k ≤ rounds → client < W.settings.clients → HasSentSoFar W.settings (record { node = node; number = client }) (ops_of W node client) (caller_at node k client)
      sent_at k client low own = sent W.settings (record { node = node; number = client }) (ops_of W node client) (caller_at node k client) (is_at k client low own)

      pub started_at : (k client : ℕ) → k ≤ rounds → client < W.settings.clients
          → length ((ends_at node k).answers client) ≡ count_started W.settings.size (ops_of W node client) (done_by W node client k)
      started_at k client low own =
          let s = sent_at k client low own in
          sym (draws_long (caller_at node k client).client.drawer.answers) ∙ ap length (sym s.draws) ∙ s.each ∙ ap (count_started W.settings.size (ops_of W node client)) (done_at k client low own)

      pub none_drawn : (client : ℕ) → client < W.settings.clients → (ends_at node 0).answers client ≡ []
      none_drawn client own = empty ((ends_at node 0).answers client) (started_at 0 client (omega arith) own ∙ none (done_by W node client 0) (omega arith))
        where
          empty : (answers : List Answer) → length answers ≡ 0 → answers ≡ []
          empty [] h = refl
          empty (a ∷ answers) h = absurd (omega (arith, h))

          none : (done : ℕ) → done ≡ 0 → count_started W.settings.size (ops_of W node client) done ≡ 0
          none done is = ap (count_started W.settings.size (ops_of W node client)) is ∙ none_started (timed_pages W.settings.size (ops_of W node client))
