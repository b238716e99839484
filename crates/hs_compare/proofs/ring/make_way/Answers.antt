use Rattle.std.proofs.Common.{◌≡◌, ℕ, ◌+◌, ◌-◌, length, drop, ap, ◌∙◌, arith}
use Rattle.hs_compare.proofs.Prelude.{length-drop, alive}
use Rattle.hs_compare.proofs.ring.make_way.Goals as goal

pub returns-then-waiting-room-clause-alive : goal.returns-then-waiting-room-clause-alive
returns-then-waiting-room-clause-alive c =
    let none : 0 ≡ c.args.waiting + 1 - c.args.room = omega arith in
    ap (λ (n : ℕ). drop n (alive c.args.named.now.keys c.args.ring.now.items)) none

pub returns-clause-alive : goal.returns-clause-alive
returns-clause-alive c =
    let one : 1 ≡ c.args.waiting + 1 - c.args.room = omega arith in
    c.let_first_go.ensures.alive ∙ ap (λ (n : ℕ). drop n (alive c.args.named.now.keys c.args.ring.now.items)) one

pub returns-clause-waiting : goal.returns-clause-waiting
returns-clause-waiting c = omega (arith, ap length c.let_first_go.ensures.alive, length-drop 1 (alive c.args.named.now.keys c.args.ring.now.items), c.requires.waiting)
