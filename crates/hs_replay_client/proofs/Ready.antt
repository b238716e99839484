-- The next operation of a client that is among its operations may be done.
use Rattle.std.proofs.Common.{◌≡◌, ℕ, ◌+◌, ◌≤◌, List, ◌∷◌, ◌++◌, take, sym, ap, ◌∙◌, subst, arith}
use Rattle.hs_replay_client.proofs.Prelude.{ClientId, AutoRule, Draw, Operation, PlainSettings, sends_of, operation_pieces, client_pieces, Working, PlainReplayClient, Way, IsReadyFor, IsSound, HasDone, MayDo, IsPlayable, ReplayClientIsAt, gone_of, made_for}
use Rattle.hs_base.specs.declared.limits.TheConstants.{MAX_OPERATIONS}
use Rattle.hs_replay_client.proofs.Going.{HasGone, may_do, pieces_append}
use Rattle.hs_replay_client.proofs.Spending.{ready_less}

module _ {P : Type 0} (way : Way P) where
  pub record IsReady (rules : List AutoRule) (op : Operation) (works : Working) (well : P) : Type 0 where
    pub sound : IsSound works.core
    pub may : MayDo rules op works
    pub ready : IsReadyFor way well works.core.size (operation_pieces works.core.size op)

  pub ready : (settings : PlainSettings) (client : ClientId) (ops here rest : List Operation) (op : Operation) (drawn : List Draw) (done k l m : ℕ) (old : PlainReplayClient) (now : Working) (rules : List AutoRule) (well well' : P)
      → ReplayClientIsAt settings client ops drawn done k l m old → rules ≡ settings.autos → IsReadyFor way well settings.size MAX_OPERATIONS → HasGone way here old.works now well well'
      → ops ≡ (take done ops ++ here) ++ op ∷ rest → IsReady rules op now well'
  ready settings client ops here rest op drawn done k l m old now rules well well' a rules_are full gone whole =
      let size = settings.size in
      let front = take done ops ++ here in
      let took = gone_of size (sends_of settings client ops drawn) done k l m in
      let has : HasDone (made_for settings client ops) front took now = gone.does (made_for settings client ops) (take done ops) took a.inside in
      let same : now.core.size ≡ size = has.size in
      let first : old.works.core.size ≡ size = a.inside.size in
      let count : client_pieces size ops ≡ client_pieces size (take done ops) + client_pieces size here + (operation_pieces size op + client_pieces size rest) =
      ap (client_pieces size) whole ∙ pieces_append size front (op ∷ rest) ∙ ap (λ n. n + client_pieces size (op ∷ rest)) (pieces_append size (take done ops) here) in
      let few : operation_pieces size op + client_pieces size here ≤ MAX_OPERATIONS = omega (arith, count, a.playable.few) in
      let spent : IsReadyFor way well size (operation_pieces size op + client_pieces size here) → IsReadyFor way well' size (operation_pieces size op) =
      subst (λ n. IsReadyFor way well size (operation_pieces size op + client_pieces n here) → IsReadyFor way well' size (operation_pieces size op)) first (gone.spends.ready size (operation_pieces size op)) in
      record {
        sound = has.sound;
        may =
            may_do settings client front rest op took now rules (subst (λ (l' : List Operation). IsPlayable settings l') whole a.playable) rules_are
            (subst (λ (l' : List Operation). HasDone (made_for settings client l') front took now) whole has);
        ready = subst (λ n. IsReadyFor way well' n (operation_pieces n op)) (sym same) (spent (ready_less way well size MAX_OPERATIONS (operation_pieces size op + client_pieces size here) few full));
      }
