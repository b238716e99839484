use Rattle.std.proofs.Common.{◌≡◌, ℕ, ◌<◌, ◌≤◌, max, length, get_or}
use Rattle.hs_check.proofs.Prelude.{due_of, said_behind, heard_with}
use Rattle.hs_check.proofs.asks.hear_due.Given as goal

abbrev pub invariant-loop-pass : goal.invariant-loop-pass
invariant-loop-pass l = record {
  count : length l.heard.items ≡ length l.fn.heard.items;
  due : l.due ≡ due_of (said_behind l.said) l.pass;
  raised : (pass : ℕ) → pass < l.pass → get_or l.heard.items pass 0 ≡ max (get_or l.fn.heard.items pass 0) (heard_with l.places l.all (due_of (said_behind l.said) pass));
  left : (pass : ℕ) → l.pass ≤ pass → get_or l.heard.items pass 0 ≡ get_or l.fn.heard.items pass 0;
}
