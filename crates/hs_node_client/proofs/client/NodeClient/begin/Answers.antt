use Rattle.std.proofs.Common.{◌≡◌, inl, inr, None, refl, sym, ap, ◌∙◌, subst, arith, rules}
use Rattle.hs_node_client.proofs.Prelude.{PlainNodeClient, node_client_of}
use Rattle.hs_node_client.proofs.Living.{begins_in}
use Rattle.hs_node_client.proofs.Beginning.{turned, begin_keeps, begun_half, begun_inside}
use Rattle.hs_node_client.specs.Lives.{TurnsInto}
use Rattle.hs_node_client.specs.declared.counts.RunningCounts.{RunningCounts}
use Rattle.hs_node_client.specs.declared.notebook.Notebook.{Notebook}
use Rattle.hs_node_client.proofs.client.NodeClient.begin.Goals as goal
use Rattle.hs_node_client.proofs.client.NodeClient.begin.Goals.{then-self-ge-MOST_NOTES-via-then-self-ge-MOST_NOTES, then-self-ge-MOST_NOTES-via-else-self-ge-MOST_NOTES+then-not-has_calls}

pub returns-then-self-ge-MOST_NOTES-clause-answer : goal.returns-then-self-ge-MOST_NOTES-clause-answer
returns-then-self-ge-MOST_NOTES-clause-answer c =
    let none : c.args.self.now.live.core.trace ≡ None = search rules in
    elim c.then-self-ge-MOST_NOTES.branch [
      | then-self-ge-MOST_NOTES-via-then-self-ge-MOST_NOTES w ↦ (none, inl (omega (arith, w.if-self-ge-MOST_NOTES.true, ap (λ (p : PlainNodeClient). p.notebook.number) c.self.view_is)))
      | then-self-ge-MOST_NOTES-via-else-self-ge-MOST_NOTES+then-not-has_calls w ↦ (none, inr (w.if-not-has_calls.ensures.false_is refl).0)
    ]

pub invariant_of-self : goal.invariant_of-self
invariant_of-self c =
    let s = c.self-2.inside in
    let turns = subst (λ (m : PlainNodeClient). TurnsInto c.args.self.now m) (sym c.self-2.view_is) (c.if-not-has_calls.ensures.turns refl) in
    let is = turned c.args.self.now (node_client_of s) turns in
    let number : s.notebook.number ≡ c.self.inside.notebook.number = ap (λ (n : Notebook). n.number) is.number ∙ sym (ap (λ (p : PlainNodeClient). p.notebook.number) c.self.view_is) in
    let none = ap (λ (t : RunningCounts). t.here.points) c.drop_note.ensures ∙ ap (λ (t : RunningCounts). t.here.points) c.open.ensures in
    begun_inside c.args.trace s c.keep_draws.new.self c.begin.new.self c.note.new.self c.drop_note.new.self c.self-2.invariant c.keep_draws.ensures.only c.in-Done.ensures.after is.half c.note.ensures.number (omega (arith, number, c.if-self-ge-MOST_NOTES.false)) none

pub invariant_of-self-else-not-note : goal.invariant_of-self-else-not-note
invariant_of-self-else-not-note c =
    let s = c.self-2.inside in
    let turns = subst (λ (m : PlainNodeClient). TurnsInto c.args.self.now m) (sym c.self-2.view_is) (c.if-not-has_calls.ensures.turns refl) in
    let is = turned c.args.self.now (node_client_of s) turns in
    let number : s.notebook.number ≡ c.self.inside.notebook.number = ap (λ (n : Notebook). n.number) is.number ∙ sym (ap (λ (p : PlainNodeClient). p.notebook.number) c.self.view_is) in
    let none = ap (λ (t : RunningCounts). t.here.points) c.open.ensures in
    begun_inside c.args.trace s c.keep_draws.new.self c.begin.new.self c.note.new.self c.open.new.self c.self-2.invariant c.keep_draws.ensures.only c.in-Done.ensures.after is.half c.note.ensures.number (omega (arith, number, c.if-self-ge-MOST_NOTES.false)) none

pub returns-then-not-note-clause-does : goal.returns-then-not-note-clause-does
returns-then-not-note-clause-does c =
    let mid = node_client_of c.self-2.inside in
    let turns = subst (λ (m : PlainNodeClient). TurnsInto c.args.self.now m) (sym c.self-2.view_is) (c.if-not-has_calls.ensures.turns refl) in
    begins_in c.args.trace c.args.self.now mid c.keep_draws.new.self c.begin.new.self turns c.keep_draws.ensures.does c.in-Done.ensures.does

pub returns-then-not-note-clause-keeps : goal.returns-then-not-note-clause-keeps
returns-then-not-note-clause-keeps c =
    let mid = node_client_of c.self-2.inside in
    let turns = subst (λ (m : PlainNodeClient). TurnsInto c.args.self.now m) (sym c.self-2.view_is) (c.if-not-has_calls.ensures.turns refl) in
    begin_keeps c.args.trace c.args.self.now mid c.keep_draws.new.self c.begin.new.self turns c.keep_draws.ensures.draws c.keep_draws.ensures.only c.in-Done.ensures.after

pub returns-else-not-note-clause-does : goal.returns-else-not-note-clause-does
returns-else-not-note-clause-does c =
    let mid = node_client_of c.self-2.inside in
    let turns = subst (λ (m : PlainNodeClient). TurnsInto c.args.self.now m) (sym c.self-2.view_is) (c.if-not-has_calls.ensures.turns refl) in
    begins_in c.args.trace c.args.self.now mid c.keep_draws.new.self c.begin.new.self turns c.keep_draws.ensures.does c.in-Done.ensures.does

pub returns-else-not-note-clause-keeps : goal.returns-else-not-note-clause-keeps
returns-else-not-note-clause-keeps c =
    let mid = node_client_of c.self-2.inside in
    let turns = subst (λ (m : PlainNodeClient). TurnsInto c.args.self.now m) (sym c.self-2.view_is) (c.if-not-has_calls.ensures.turns refl) in
    begin_keeps c.args.trace c.args.self.now mid c.keep_draws.new.self c.begin.new.self turns c.keep_draws.ensures.draws c.keep_draws.ensures.only c.in-Done.ensures.after

pub returns-then-not-note-clause-half : goal.returns-then-not-note-clause-half
returns-then-not-note-clause-half c =
    let mid = node_client_of c.self-2.inside in
    let turns = subst (λ (m : PlainNodeClient). TurnsInto c.args.self.now m) (sym c.self-2.view_is) (c.if-not-has_calls.ensures.turns refl) in λ _. begun_half c.args.trace c.args.self.now mid c.keep_draws.new.self c.begin.new.self turns c.keep_draws.ensures.only c.in-Done.ensures.after

pub returns-else-not-note-clause-half : goal.returns-else-not-note-clause-half
returns-else-not-note-clause-half c =
    let mid = node_client_of c.self-2.inside in
    let turns = subst (λ (m : PlainNodeClient). TurnsInto c.args.self.now m) (sym c.self-2.view_is) (c.if-not-has_calls.ensures.turns refl) in λ _. begun_half c.args.trace c.args.self.now mid c.keep_draws.new.self c.begin.new.self turns c.keep_draws.ensures.only c.in-Done.ensures.after
