-- Where a client is that went through operations.
use Rattle.std.proofs.Common.{◌≡◌, ℕ, ◌≤◌, List, ◌++◌, length, take, refl, ap, ◌∙◌, subst}
use Rattle.hs_replay_client.proofs.Prelude.{length-take-le, ClientId, Draw, Operation, PlainSettings, sends_of, sent_within, items_of, Working, PlainReplayClient, Way, HasDone, ReplayClientIsAt, WentOn, chunks_within, gone_of, made_for}
use Rattle.hs_replay_client.proofs.Going.{HasGone}
use Rattle.hs_replay_client.proofs.Standing.{Laws, HasTaken, is_at}

-- what was taken of an earlier client
taken_so : (settings : PlainSettings) (client : ClientId) (ops : List Operation) (drawn : List Draw) (done k l m : ℕ) (player : PlainReplayClient) → ReplayClientIsAt settings client ops drawn done k l m player
    → HasTaken k l m (gone_of settings.size (sends_of settings client ops drawn) done k l m)
taken_so settings client ops drawn done k l m player a =
    let sends = sends_of settings client ops drawn in
    record {
      chunks = length-take-le k (chunks_within settings.size done sends.drawn) a.chunks.0;
      crumbs = length-take-le l (items_of (sent_within done sends.crumbs)) a.crumbs.0;
      triggers = length-take-le m (items_of (sent_within done sends.triggers)) a.triggers.0;
    }

pub went : {P : Type 0} (way : Way P) → Laws → (settings : PlainSettings) (client : ClientId) (ops here : List Operation) (drawn : List Draw) (done end k l m : ℕ) (old : PlainReplayClient) (now : Working) (well well' : P)
    → ReplayClientIsAt settings client ops drawn done k l m old → HasGone way here old.works now well well' → end ≤ length ops → take done ops ++ here ≡ take end ops
    → WentOn way settings client ops drawn end k l m well (record { done = end; works = now }) well'
went way laws settings client ops here drawn done end k l m old now well well' a gone within parts =
    let size = settings.size in
    let sends = sends_of settings client ops drawn in
    let made = made_for settings client ops in
    let has : HasDone made (take end ops) (gone_of size sends done k l m) now =
    subst (λ (l' : List Operation). HasDone made l' (gone_of size sends done k l m) now) parts (gone.does made (take done ops) (gone_of size sends done k l m) a.inside) in
    let at = is_at laws settings client ops end k l m (gone_of size sends done k l m) (record { done = end; works = now }) a.playable within refl (taken_so settings client ops drawn done k l m old a) has in
    let draws : now.core.draws ≡ drawn ++ gone.spends.drawn = gone.spends.notes ∙ ap (λ (l' : List Draw). l' ++ gone.spends.drawn) a.draws_are in
    record {
      more = gone.spends.drawn;
      at = subst (λ (l' : List Draw). ReplayClientIsAt settings client ops l' end k l m (record { done = end; works = now })) draws at;
      draws = gone.spends.draws;
    }
