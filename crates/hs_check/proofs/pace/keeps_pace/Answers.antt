use Rattle.std.proofs.Common.{ℕ, List, length, refl, sym, ap, subst, ◌∙◌, arith}
use Rattle.hs_check.proofs.Prelude.{zip, ◌&&◌, list_all, range_with_len, Step, items_in_pace, client_in_pace, passes_of, ClientSends, workload_of, AreFound, IsFoundClient}
use Rattle.hs_records.specs.declared.setting.Setting.TheVariants as settings
use Rattle.hs_check.proofs.pace.keeps_pace.Goals as goal

pub items_in_pace-requires-clause-some : goal.items_in_pace-requires-clause-some
items_in_pace-requires-clause-some c = let stride = c.requires.valid.head settings.Stride in omega (arith, stride.0)

pub returns : goal.returns
returns c = λ run sends log is.
    let W = workload_of c.args.workload.now in
    let each = λ (l : List Step). list_all (λ (s : ℕ × ClientSends). client_in_pace W.settings (passes_of l) s.0 s.1) (zip (range_with_len 0 (length run.sends)) run.sends) in
    let clients = subst (AreFound IsFoundClient run.sends) (sym c.as_slice.ensures) is.clients in
    let gives = sym (c.in_ok-gives_in_pace.ensures run sends log is) ∙ c.if-not-branch.false in
    c.in_ok-items.ensures W.settings run.sends refl clients ∙ ap each (c.log_of-log.ensures ∙ sym log) ∙ sym (ap (λ b. b && items_in_pace W.settings run) gives)
