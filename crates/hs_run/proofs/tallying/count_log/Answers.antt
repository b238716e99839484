use Rattle.std.proofs.Common.{◌≡◌, ℕ, ◌<◌, List, Some, get_or, length, sym, ap, subst, ◌∙◌, slice_get}
use Rattle.hs_run.proofs.Prelude.{lent_from, LogCount, Step, PlainNodeActors, no_steps, MayCountLog}
use Rattle.hs_run.proofs.tallying.count_log.Goals as goal

-- the count that is read can be counted on over the log that is read
ready : (items now : List LogCount) (place : ℕ) (log read : List Step) → now ≡ items → place < length items → read ≡ log → ((count : LogCount) → slice_get items place ≡ Some count → MayCountLog log count)
    → MayCountLog read (get_or now place no_steps)
ready items now place log read same low is may = subst (λ (l : List Step). MayCountLog l (get_or now place no_steps)) (sym is) (may (get_or now place no_steps) (lent_from items now place no_steps same low))

pub count-counted-requires-clause-within : goal.count-counted-requires-clause-within
count-counted-requires-clause-within c =
    (ready c.args.counts.now.items c.as_slice.result.now c.args.number c.args.site.now.agent.agent.log c.log.result.now c.as_slice.ensures c.requires.counted (c.log.ensures ∙ ap (λ (s : PlainNodeActors). s.agent.agent.log) c.site.view_is) c.requires.may).within

pub count-counted-requires-clause-counted : goal.count-counted-requires-clause-counted
count-counted-requires-clause-counted c =
    (ready c.args.counts.now.items c.as_slice.result.now c.args.number c.args.site.now.agent.agent.log c.log.result.now c.as_slice.ensures c.requires.counted (c.log.ensures ∙ ap (λ (s : PlainNodeActors). s.agent.agent.log) c.site.view_is) c.requires.may).counted

pub count-counted-requires-clause-few : goal.count-counted-requires-clause-few
count-counted-requires-clause-few c =
    (ready c.args.counts.now.items c.as_slice.result.now c.args.number c.args.site.now.agent.agent.log c.log.result.now c.as_slice.ensures c.requires.counted (c.log.ensures ∙ ap (λ (s : PlainNodeActors). s.agent.agent.log) c.site.view_is) c.requires.may).few
