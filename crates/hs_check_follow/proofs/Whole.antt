-- All operations are done: what was taken is what the client sends at the given draws.
use Rattle.std.proofs.Common.{◌≡◌, ℕ, ◌+◌, List, [], ◌∷◌, length, map, refl, sym, ap, subst, ◌∙◌, arith}
use Rattle.hs_check_follow.proofs.Prelude.{ClientId, IsFoundClient, numbers_of, Draw, PlainReplayClient, Operation, PlainSettings, IsTimely, TimedPagesAreThePages, TimedPagesAreTimely, items_of, sends_of, sent_within, AllChunksAreSent, TimedPage, timed_pages, Gathering, DrawScript, KeepsAll, IsSentBy}
use Rattle.hs_client.specs.Drawn.{drawn_from}
use Rattle.hs_check_follow.specs.Finding.{starts_of}
use Rattle.hs_client.specs.SoFar.{AllCrumbsAreSent, AllTriggersAreSent}
use Rattle.hs_check_follow.proofs.Drawing.{all_started, in_time, pages_long, same_chunks}

starts_are : (client : ClientId) (number : ℕ) (pages : List TimedPage) (draws : List Draw) → length draws ≡ length pages → starts_of (drawn_from client number pages draws) ≡ map (λ (p : TimedPage). p.started) pages
starts_are client number [] draws long = refl
starts_are client number (page ∷ pages) [] long = absurd (omega (arith, long))
starts_are client number (page ∷ pages) (draw ∷ draws) long = ap (λ (l : List ℕ). page.started ∷ l) (starts_are client (number + 1) pages draws (omega (arith, long)))

pub record Ends : Type 0 where
  pub paged : TimedPagesAreThePages
  pub timely : TimedPagesAreTimely
  pub chunks : AllChunksAreSent
  pub crumbs : AllCrumbsAreSent
  pub triggers : AllTriggersAreSent

module _ (k : Ends) (settings : PlainSettings) (client : ClientId) (ops : List Operation) (draws : List Draw) (script : DrawScript) (player : PlainReplayClient) (g : Gathering)
    (s : IsSentBy settings client ops draws (length ops) script player g) where
  timely : IsTimely 0 (length ops) (timed_pages settings.size ops)
  timely = in_time settings client ops draws s.each s.drawn script s.kinds k.paged k.timely k.chunks _ _ _ player s.at

  long : length draws ≡ length (timed_pages settings.size ops)
  long = pages_long settings client ops draws s.each s.drawn script s.kinds k.paged k.timely k.chunks _ _ _ player s.at

  chunks_are : sent_within (length ops) (sends_of settings client ops s.drawn).chunks ≡ (sends_of settings client ops draws).chunks
  chunks_are = same_chunks settings client ops draws s.each s.drawn script s.kinds k.paged k.timely k.chunks _ _ _ player s.at

  pub kept : KeepsAll settings.size (sends_of settings client ops draws).chunks g.keeping
  kept = subst (λ items. KeepsAll settings.size items g.keeping) chunks_are s.chunks.kept

  pub crumbs : g.crumbs.items ≡ items_of (sends_of settings client ops draws).crumbs
  crumbs = s.crumbs.queue_is ∙ ap items_of (k.crumbs ops)

  pub triggers : g.triggers.items ≡ items_of (sends_of settings client ops draws).triggers
  triggers = s.triggers.queue_is ∙ ap items_of (k.triggers settings.autos ops)

  pub found : IsFoundClient (sends_of settings client ops draws) g.found
  found =
      record {
        started = s.started ∙ ap (map (λ (p : TimedPage). p.started)) (all_started 0 (length ops) (timed_pages settings.size ops) timely) ∙ sym (starts_are client 0 (timed_pages settings.size ops) draws long);
        chunks = s.chunks.numbers_are ∙ ap numbers_of chunks_are;
        crumbs = s.crumbs.numbers_are ∙ ap numbers_of (k.crumbs ops);
        triggers = s.triggers.numbers_are ∙ ap numbers_of (k.triggers settings.autos ops);
      }
