-- What a client had drawn behind a round, and what the journal notes of it.
use Rattle.std.proofs.Common.{◌≡◌, ℕ, zero, suc, ◌<◌, ◌≤◌, List, [], ◌∷◌, ◌++◌, length, take, refl, sym, ap, subst, ◌∙◌, Some, arith, slice_get}
use Rattle.hs_run.proofs.Prelude.{PlainWorkload, count_started, IsValid, PlainClientActor, done_by, PlainNodeActors, RunState, Came, RoundsAreNoted, PlainJournal, passes_of, draws_at, place_of, ops_of, flat_map, slice_get_within}
use Rattle.hs_run.specs.Noting.{NotesClient, JournalsNoteRounds}
use Rattle.hs_run.proofs.StoryMoments.{site_of, site_there, stands_at}
use Rattle.hs_run.proofs.StoryMeetings.{HaveSent, caller_at, here_at, done_at, sent_at}
use Rattle.hs_run.proofs.Sending.{drawn_first}

front_of : {X : Type 0} (xs more : List X) (n : ℕ) → length xs ≡ n → take n (xs ++ more) ≡ xs
front_of [] more zero long = refl
front_of [] more (suc n) long = absurd (omega (arith, long))
front_of (x ∷ xs) more zero long = absurd (omega (arith, long))
front_of (x ∷ xs) more (suc n) long = ap (λ rest. x ∷ rest) (front_of xs more n (omega (arith, long)))

module _ (sends : HaveSent) (W : PlainWorkload) (rounds : ℕ) (m : RunState) (valid : IsValid W) (came : Came W rounds m) (node : ℕ) (few : node < W.settings.nodes) (client : ℕ) (own : client < W.settings.clients) where
  -- the client, as it stands at a moment
  is_caller : (k : ℕ) → k ≤ rounds → (site : PlainNodeActors) (caller : PlainClientActor) → slice_get (came.at k).standing.nodes node ≡ Some site → slice_get site.callers client ≡ Some caller → caller_at W valid rounds m came node k client ≡ caller
  is_caller k low site caller there mine =
      let same : Some (site_of W valid rounds m came (came.at k) node) ≡ Some site = sym (site_there W valid rounds m came (came.at k) (stands_at W valid rounds m came k low) node few) ∙ there in
      let is : site_of W valid rounds m came (came.at k) node ≡ site = cc in
      let one : Some (caller_at W valid rounds m came node k client) ≡ Some caller = sym (here_at W valid rounds m came node few k client low own) ∙ ap (λ (s : PlainNodeActors). slice_get s.callers client) is ∙ mine in
      cc

  had_drawn : (J : PlainJournal) → draws_at J (place_of W.settings.clients node client) ≡ (caller_at W valid rounds m came node rounds client).client.core.draws → (k : ℕ) → k ≤ rounds
      → NotesClient W J node client k (caller_at W valid rounds m came node k client)
  had_drawn J draws k low =
      let done = done_at W valid rounds m came node few k client low own in
      let first = drawn_first W valid rounds m came sends node few client own k low in
      let sent = sent_at W valid rounds m came node few sends k client low own in
      let ops = ops_of W node client in
      let long = sent.each ∙ ap (count_started W.settings.size ops) done in
      record {
        done = done;
        draws = ap (take (count_started W.settings.size ops (done_by W node client k))) (draws ∙ first.draws)
            ∙ front_of (caller_at W valid rounds m came node k client).client.core.draws first.more (count_started W.settings.size ops (done_by W node client k)) long;
      }

pub notes_rounds : HaveSent → RoundsAreNoted → JournalsNoteRounds
notes_rounds sends noted W rounds m passes nodes heard valid came closing J r =
    record {
      logs = λ node k few low. ap (λ log. flat_map (λ pass. pass) (take k (passes_of log))) (r.logs node few) ∙ noted W rounds m passes nodes heard valid came closing node few k low;
      clients = λ node client k site caller low there mine.
          let stands = stands_at W valid rounds m came k low in
          let count = stands.count in
          let within = slice_get_within (came.at k).standing.nodes node site there in
          let few : node < W.settings.nodes = omega (arith, within, count) in
          let clients = (stands.each node site there).count in
          let inside = slice_get_within site.callers client caller mine in
          let own : client < W.settings.clients = omega (arith, inside, clients) in
          let here = is_caller sends W rounds m valid came node few client own k low site caller there mine in
          let last = site_of W valid rounds m came (came.at rounds) node in
          let there_last : slice_get m.standing.nodes node ≡ Some last =
          ap (λ (moment : RunState). slice_get moment.standing.nodes node) (sym came.last) ∙ site_there W valid rounds m came (came.at rounds) (stands_at W valid rounds m came rounds (omega arith)) node few in
          let draws = r.draws node client last (caller_at W valid rounds m came node rounds client) there_last (here_at W valid rounds m came node few rounds client (omega arith) own) in
          subst (NotesClient W J node client k) here (had_drawn sends W rounds m valid came node few client own J draws k low);
    }
