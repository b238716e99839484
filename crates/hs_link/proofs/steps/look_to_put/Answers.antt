use Rattle.std.proofs.Common.{arith, ◌%◌, ℕ, length, mod-lt, ◌∙◌, sym, ap, [], ◌∷◌, None}
use Rattle.hs_link.specs.declared.board.View.TheVariants.{Laying}
use Rattle.hs_link.specs.Ring.{grasping, put_by, put_of, heard_of}
use Rattle.hs_link.proofs.Lists.{match_zero}
use Rattle.hs_link.proofs.Moves.{looks_to_put}
use Rattle.hs_link.proofs.steps.look_to_put.Goals as goal

pub load-requires : goal.load-requires
load-requires g c = let at = c.requires.seat.0 in let low = mod-lt (length (put_of c.args.place.now)) at.2.0 in let next = c.requires.next in
    (at.0, omega arith, looks_to_put g.F.Fact.holds _ _ _ _ _ _ _ _ c.requires.seat.1 c.requires.next)

pub returns-clause-look : goal.returns-clause-look
returns-clause-look g c = let told = c.load.ensures.2 in let at = c.requires.seat.0 in let is = c.requires.seat.1 in let slots : ℕ = c.args.entries.now.table_id.slots in
    match_zero _ _ _ (λ hit. (
      (c.load.ensures.0 ∙ at.0, at.1, at.2),
      told.0 hit ∙ (ap (λ m. (grasping m.0, (length (put_by m.0) % slots, None) ∷ m.1)) is ∙ ap (λ z. (Laying c.args.entries.now.key (put_of c.args.place.now) (heard_of c.args.place.now), (z, None) ∷ [])) (sym c.requires.next)),
    )) (λ miss. let t = told.1 miss in (t.0, t.1))

pub overflow_mul-entry : goal.overflow_mul-entry
overflow_mul-entry g c = let at = c.requires.seat.0 in let low = mod-lt (length (put_of c.args.place.now)) at.2.0 in let next = c.requires.next in let few = at.2.1 in omega arith
