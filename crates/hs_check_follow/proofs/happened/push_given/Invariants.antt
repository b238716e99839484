use Rattle.std.proofs.Common.{◌≡◌, ◌*◌, ◌≤◌, ◌++◌, length, drop}
use Rattle.hs_check_follow.proofs.Prelude.{journal_of, drawn_from, timed_gives}
use Rattle.hs_check_follow.proofs.happened.push_given.Given as goal

abbrev pub invariant-loop-step : goal.invariant-loop-step
invariant-loop-step l = record {
  is : l.events.items ++ timed_gives (drawn_from (journal_of l.journal) (l.node * l.each) l.clients) (drop l.step-index l.log) (drop l.given l.gives)
      ≡ l.fn.events.items ++ timed_gives (drawn_from (journal_of l.journal) (l.node * l.each) l.clients) l.log l.gives;
  few : l.given ≤ l.step-index;
  within : l.given ≤ length l.gives;
}
