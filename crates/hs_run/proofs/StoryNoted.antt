-- What a node's log has noted behind a round.
use Rattle.std.proofs.Common.{◌≡◌, ℕ, List, [], map, take, sym, ap, ◌∙◌, arith}
use Rattle.hs_run.proofs.Prelude.{AllByRecursion, flat_map, range_with_len, steps_of, grown_all, added, Step, passes_of, AgentEvent, NodeWork, RoundsAreNoted, NodeBetweenPasses}
use Rattle.hs_law_journal.proofs.Joined.{all_mapped_range, grown, steps_joined}
use Rattle.hs_law_journal.proofs.Passes.{passes_are}
use Rattle.hs_law_journal.specs.Doings.{joined}
use Rattle.hs_law_journal.specs.LoopPasses.{IsPass}
use Rattle.hs_run.proofs.Joined.{post, heard_by, post_low, post_last, all_posts, all_steps}
use Rattle.hs_run.proofs.Spanning.{grows, ends_pass}

pub noted : RoundsAreNoted
noted W rounds m passes nodes heard valid came closing node few k low =
    let here : ℕ → NodeBetweenPasses = post W valid rounds m came passes nodes heard closing node in
    let events : ℕ → List AgentEvent = λ j. (here j).work.events in
    let heards = heard_by W valid rounds m came passes nodes heard closing in
    let stands = all_posts W valid rounds m came passes nodes heard closing node few in
    let steps = all_steps W valid rounds m came passes nodes heard closing node few in
    let begins : events 0 ≡ [] =
    ap (λ (p : NodeBetweenPasses). p.work.events) (post_low W valid rounds m came passes nodes heard closing node 0 (omega arith)) ∙ ap (λ (w : NodeWork). w.events) (came.begun.works node) in
    let grow = grows W node passes heards here stands steps in
    let lists = map (added events) (range_with_len 0 passes) in
    let all : AllByRecursion (IsPass W) lists = all_mapped_range (IsPass W) (added events) passes (λ j high. (ends_pass W node passes heards here stands steps j high).is_pass) in
    let enough = closing.enough in
    let end : joined lists ≡ (nodes node).work.events = grown_all events (added events) passes begins grow ∙ ap (λ (p : NodeBetweenPasses). p.work.events) (post_last W valid rounds m came passes nodes heard closing node few) in
    let front : joined (take k lists) ≡ ((came.at k).works node).events =
    grown events (added events) passes begins grow k (omega (arith, low, enough)) ∙ ap (λ (p : NodeBetweenPasses). p.work.events) (post_low W valid rounds m came passes nodes heard closing node k low) in
    ap (λ (l : List AgentEvent). flat_map (λ pass. pass) (take k (passes_of (steps_of l)))) (sym end)
    ∙ ap (λ (l : List (List Step)). flat_map (λ pass. pass) (take k l)) (passes_are W lists all) ∙ steps_joined k lists ∙ ap steps_of front
