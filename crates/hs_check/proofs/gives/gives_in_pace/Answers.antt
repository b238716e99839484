use Rattle.std.proofs.Common.{ℕ, ◌*◌, ◌∷◌, List, sym, ap, ◌∙◌, arith}
use Rattle.hs_check.proofs.Prelude.{Draw, journal_of, log_at, log_stamps, workload_of, FoundClient, drawn_from, clients_beside, behind_each, is_of}
use Rattle.hs_records.specs.declared.setting.Setting.TheVariants as settings
use Rattle.hs_check.specs.declared.kinds.Kind.TheVariants as kinds
use Rattle.hs_check.proofs.Gave.{node_gives}
use Rattle.hs_check.proofs.gives.gives_in_pace.Goals as goal

pub clients_beside-yes-requires-clause-stride : goal.clients_beside-yes-requires-clause-stride
clients_beside-yes-requires-clause-stride c = let stride = c.requires.valid.head settings.Stride in omega (arith, stride.0)

pub returns : goal.returns
returns c = λ run drawn log is.
    let W = workload_of c.args.workload.now in
    let J = journal_of c.args.journal.now in
    let node = c.args.node in
    let founds = c.args.found.now.clients.items in
    let told = λ (stamps counts : List ℕ) (clients : List FoundClient). clients_beside W.settings.stride stamps counts (drawn_from J (node * W.settings.clients) clients) clients in
    c.clients_beside-yes.ensures
    ∙ ap (λ (l : List ℕ). told l c.as_slice-2.result.now c.as_slice-clients.result.now) (c.as_slice.ensures.value ∙ c.in_ok-stamps.ensures ∙ ap log_stamps c.log_of-log.ensures)
    ∙ ap (λ (l : List ℕ). told (log_stamps (log_at J node)) l c.as_slice-clients.result.now)
    (c.as_slice-2.ensures.value ∙ c.in_ok-counts.ensures ∙ ap (λ l. 0 ∷ behind_each (is_of kinds.Stamped) 0 l) c.log_of-log.ensures)
    ∙ ap (told (log_stamps (log_at J node)) (0 ∷ behind_each (is_of kinds.Stamped) 0 (log_at J node))) c.as_slice-clients.ensures
    ∙ sym (ap (λ (l : List (List Draw)). clients_beside W.settings.stride (log_stamps (log_at J node)) (0 ∷ behind_each (is_of kinds.Stamped) 0 (log_at J node)) l founds) drawn)
    ∙ node_gives W J node run founds c.requires.stamps c.requires.node log is.clients
