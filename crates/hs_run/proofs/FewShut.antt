-- No agent takes more triggers than its clients sent, so no more than the workload has, when the links are closed too.
use Rattle.std.proofs.Common.{ℕ, ◌<◌, ◌≤◌, length, ap, arith, length-append}
use Rattle.hs_run.proofs.Prelude.{length-map, get_there, triggers_in, Trigger, Remaining, Key, PlainWorkload, operations_at, place_of, IsValid, client_pieces, closed, AllSents}
use Rattle.hs_run.specs.Shutting.{ClosingAreFew}
use Rattle.hs_run.proofs.FewTaken.{few_of_sent}

pub few_shut : (W : PlainWorkload) → IsValid W → (sents : AllSents) → ((node client : ℕ) → node < W.settings.nodes → client < W.settings.clients → length ((sents node).triggers client) ≤ client_pieces W.settings.size (operations_at W (place_of W.settings.clients node client)))
    → ClosingAreFew W sents
few_shut W valid sents each node work shut low stands = few_of_sent W valid node low work stands.is.stands.works.is.within received
  where
    received : (client : ℕ) → client < W.settings.clients → length (triggers_in client work.events) ≤ client_pieces W.settings.size (operations_at W (place_of W.settings.clients node client))
    received client own =
        let count = stands.is.stands.lines_are.triggers.count in
        let long = length-map shut.triggers (λ (r : Remaining Trigger Key). closed r) in
        let (r, there) = get_there shut.triggers client (omega (arith, own, count, long)) in
        let parts = ap length (stands.is.left.triggers client r there) in
        let both = length-append (triggers_in client work.events) r.items in
        let sent_few = each node client low own in
        omega (arith, parts, both, sent_few)
