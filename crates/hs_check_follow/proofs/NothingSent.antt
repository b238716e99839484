-- A client that has done nothing has sent nothing, and all its chunks are to be filled.
use Rattle.hs_check_follow.proofs.Prelude.{le-ltb, ClientId, numbers_of, Draw, ReplayClientIsAt, PlainReplayClient, pages_of, Unleased, Operation, PlainSettings, has_buffer, Sent, sends_of, sent_within, started_within, TimedPage, timed_pages, SecondPlay, Gathering, DrawScript, HavePages, HasChunks, buffer_of, IsSecondPlay, HasItems, IsSentBy, count_within}
use Rattle.std.proofs.Common.{◌≡◌, ◌≤◌, arith, List, [], ◌∷◌, length, map, refl, sym, ap, subst, ◌∙◌}
use Rattle.hs_check_follow.specs.Gathering.{IsNew}

none_within : {A : Type 0} (items : List (Sent A)) → sent_within 0 items ≡ []
none_within [] = refl
none_within (item ∷ items) = let low : 0 ≤ item.number = omega arith in rw (le-ltb item.number 0 low) (none_within items)

none_started : (pages : List TimedPage) → started_within 0 pages ≡ []
none_started [] = refl
none_started (page ∷ pages) = let low : 0 ≤ page.started = omega arith in rw (le-ltb page.started 0 low) (none_started pages)

pub begins_so : (settings : PlainSettings) (client : ClientId) (ops : List Operation) (draws : List Draw) (script : DrawScript) (player : PlainReplayClient) (g : Gathering) → length draws ≡ length (pages_of settings.size ops)
    → script.left.items ≡ draws → script.size ≡ settings.size → ReplayClientIsAt settings client ops [] 0 0 0 0 player → IsNew g → IsSentBy settings client ops draws 0 script player g
begins_so settings client ops draws script player g each left size at new =
    let sends = sends_of settings client ops [] in
    let chunks = none_within sends.chunks in
    let crumbs = none_within sends.crumbs in
    let triggers = none_within sends.triggers in
    record {
      each = each;
      drawn = [];
      kinds = ap (map has_buffer) left;
      size_is = size;
      at =
          subst (λ k. ReplayClientIsAt settings client ops [] 0 k (count_within 0 sends.crumbs) (count_within 0 sends.triggers) player) (sym (ap length chunks))
          (subst (λ l. ReplayClientIsAt settings client ops [] 0 0 l (count_within 0 sends.triggers) player) (sym (ap length crumbs)) (subst (λ m. ReplayClientIsAt settings client ops [] 0 0 0 m player) (sym (ap length triggers)) at));
      chunks = subst (λ items. HasChunks settings.size items g.keeping g.found.chunks.items) (sym chunks) (record { kept = λ keeps. subst (λ (held : List Unleased). HavePages settings.size [] held) (sym (ap (map buffer_of) new.chunks)) tt; numbers_are = new.chunk_numbers });
      crumbs = subst (λ items. HasItems items g.crumbs.items g.found.crumbs.items) (sym crumbs) (record { queue_is = new.crumbs; numbers_are = new.crumb_numbers });
      triggers = subst (λ items. HasItems items g.triggers.items g.found.triggers.items) (sym triggers) (record { queue_is = new.triggers; numbers_are = new.trigger_numbers });
      started = new.started ∙ sym (ap (map (λ (page : TimedPage). page.started)) (none_started (timed_pages settings.size ops)));
    }

pub plays_so : (settings : PlainSettings) (client : ClientId) (ops : List Operation) (draws : List Draw) (f : SecondPlay) → length draws ≡ length (pages_of settings.size ops) → f.script.left.items ≡ draws
    → f.script.size ≡ settings.size → ReplayClientIsAt settings client ops [] 0 0 0 0 f.player → IsSecondPlay settings client ops draws 0 f
plays_so settings client ops draws f each left size at =
    record {
      each = each;
      drawn = [];
      kinds = ap (map has_buffer) left;
      size_is = size;
      done = 0;
      l = 0;
      m = 0;
      at = at;
    }
