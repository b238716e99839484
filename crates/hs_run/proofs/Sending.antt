-- What the clients of a run sent in its rounds, and what of it the agents took.
use Rattle.std.proofs.Common.{◌≡◌, ℕ, zero, suc, ◌+◌, ◌-◌, ◌<◌, ◌≤◌, List, [], ◌++◌, length, sym, ap, ◌∙◌, Some, arith, map, append_assoc}
use Rattle.hs_run.proofs.Prelude.{length-map, ClientId, sent, PlainWorkload, Sent, ClientSends, sends_of, ops_of, Buffer, Answer, Sheet, Leased, draws_by, IsValid, PlainClientActor, HasSentSoFar, RunState, Came, done_by, sent_by}
use Rattle.hs_records.specs.declared.journal.Draw.{Draw}
use Rattle.hs_client.specs.Sending.{sent_within}
use Rattle.hs_run_actors.specs.Standing.{sheets_in}
use Rattle.hs_run.proofs.Drawing.{draws_more}
use Rattle.hs_run.proofs.StoryMoments.{site_acts}
use Rattle.hs_run.proofs.StoryMeetings.{HaveSent, caller_at, acted_at, ends_at, here_acted, caller_met, caller_moved, done_at, has_met, sent_at}

module _ (W : PlainWorkload) (valid : IsValid W) (rounds : ℕ) (m : RunState) (came : Came W rounds m) (sends : HaveSent) (node : ℕ) (few : node < W.settings.nodes) (client : ℕ) (own : client < W.settings.clients) where
  abbrev pub last_draws : List Draw
  last_draws = (caller_at W valid rounds m came node rounds client).client.core.draws

  abbrev pub sends_last : ClientSends
  sends_last = sends_of W.settings (record { node = node; number = client }) (ops_of W node client) last_draws

  -- what was drawn behind a round
  record Later (k : ℕ) : Type 0 where
    more : List Answer
    answers : (ends_at W valid rounds m came node rounds).answers client ≡ more ++ (ends_at W valid rounds m came node k).answers client

  later_from : (d k : ℕ) → k + d ≡ rounds → Later k
  later_from zero k is = let same : rounds ≡ k = omega (arith, is) in record { more = []; answers = ap (λ j. (ends_at W valid rounds m came node j).answers client) same }
  later_from (suc d) k is =
      let next = later_from d (suc k) (omega (arith, is)) in
      let met = has_met W valid rounds m came node few k client (omega (arith, is)) own in
      record {
        more = next.more ++ met.more;
        answers = next.answers ∙ ap (λ front. next.more ++ front) met.answers ∙ sym (append_assoc next.more met.more ((ends_at W valid rounds m came node k).answers client));
      }

  -- the draws up to a round stand first
  pub record DrawnFirst (k : ℕ) : Type 0 where
    pub more : List Draw
    pub draws : last_draws ≡ (caller_at W valid rounds m came node k client).client.core.draws ++ more

  pub drawn_first : (k : ℕ) → k ≤ rounds → DrawnFirst k
  drawn_first k low =
      let l = later_from (rounds - k) k (omega (arith, low)) in
      record {
        more = draws_by l.more;
        draws = (sent_at W valid rounds m came node few sends rounds client (omega arith) own).draws ∙ ap draws_by l.answers ∙ draws_more l.more ((ends_at W valid rounds m came node k).answers client)
            ∙ ap (λ front. front ++ draws_by l.more) (sym (sent_at W valid rounds m came node few sends k client low own).draws);
      }

  -- ---- what was sent when all had acted

  acted_sent : (k : ℕ) → k < rounds → HasSentSoFar W.settings (record { node = node; number = client }) (ops_of W node client) (acted_at W valid rounds m came node k client)
  acted_sent k low =
      sends W.settings (record { node = node; number = client }) (ops_of W node client) (acted_at W valid rounds m came node k client)
      ((site_acts W valid rounds m came k node low few).stands.callers client (acted_at W valid rounds m came node k client) (here_acted W valid rounds m came node few k client low own))

  acted_done : (k : ℕ) → k < rounds → (acted_at W valid rounds m came node k client).done ≡ done_by W node client (suc k)
  acted_done k low =
      sym (caller_met W valid rounds m came node few k client low own).done ∙ sym (ap (λ (c : PlainClientActor). c.done) (caller_moved W valid rounds m came node few k client low own))
      ∙ done_at W valid rounds m came node few (suc k) client (omega (arith, low)) own

  acted_draws : (k : ℕ) → k < rounds → (acted_at W valid rounds m came node k client).client.core.draws ≡ (caller_at W valid rounds m came node (suc k) client).client.core.draws
  acted_draws k low =
      ap (λ core. core.draws) (sym (caller_met W valid rounds m came node few k client low own).core) ∙ ap (λ (c : PlainClientActor). c.client.core.draws) (sym (caller_moved W valid rounds m came node few k client low own))

  pub chunks_sent : (k : ℕ) → k < rounds → length (sent (acted_at W valid rounds m came node k client).client.chunks) ≡ sent_by W node client sends_last.chunks (suc k)
  chunks_sent k low =
      let d = drawn_first (suc k) (omega (arith, low)) in
      let whole : (acted_at W valid rounds m came node k client).client.core.draws ++ d.more ≡ last_draws = ap (λ front. front ++ d.more) (acted_draws k low) ∙ sym d.draws in
      let ops = ops_of W node client in
      let owner : ClientId = record { node = node; number = client } in
      sym (length-map (sent (acted_at W valid rounds m came node k client).client.chunks) (λ (chunk : Buffer Leased). chunk.chunk.page))
      ∙ ap length ((acted_sent k low).chunks d.more)
      ∙ sheets_long (sent_within (acted_at W valid rounds m came node k client).done (sends_of W.settings owner ops ((acted_at W valid rounds m came node k client).client.core.draws ++ d.more)).chunks)
      ∙ ap (λ draws. length (sent_within (acted_at W valid rounds m came node k client).done (sends_of W.settings owner ops draws).chunks)) whole
      ∙ ap (λ done. length (sent_within done sends_last.chunks)) (acted_done k low)
    where
      sheets_long : (items : List (Sent Sheet)) → length (sheets_in items) ≡ length items
      sheets_long items = length-map (map (λ (item : Sent Sheet). item.item) items) (λ (sheet : Sheet). Some sheet) ∙ length-map items (λ (item : Sent Sheet). item.item)

  pub crumbs_sent : (k : ℕ) → k < rounds → length (sent (acted_at W valid rounds m came node k client).client.crumbs) ≡ sent_by W node client sends_last.crumbs (suc k)
  crumbs_sent k low =
      ap length (acted_sent k low).crumbs ∙ length-map (sent_within (acted_at W valid rounds m came node k client).done sends_last.crumbs) (λ item. item.item) ∙ ap (λ done. length (sent_within done sends_last.crumbs)) (acted_done k low)

  pub triggers_sent : (k : ℕ) → k < rounds → length (sent (acted_at W valid rounds m came node k client).client.triggers) ≡ sent_by W node client sends_last.triggers (suc k)
  triggers_sent k low =
      ap length (acted_sent k low).triggers ∙ length-map (sent_within (acted_at W valid rounds m came node k client).done sends_last.triggers) (λ item. item.item)
      ∙ ap (λ done. length (sent_within done sends_last.triggers)) (acted_done k low)
