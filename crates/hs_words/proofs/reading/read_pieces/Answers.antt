use Rattle.std.proofs.Common.{◌≡◌, ◌+◌, ◌-◌, ◌++◌, [], map, sym, ap, ◌∙◌, arith}
use Rattle.std.proofs.lemmas.Grind.{common_steps}
use Rattle.std.proofs.lemmas.List.{append-nil}
use Rattle.hs_words.specs.Pages.{piece_of, pieces_bytes}
use Rattle.hs_words.proofs.Readings.{one_fewer, begins_with_one, none_left}
use Rattle.hs_words.proofs.reading.read_pieces.Goals as goal

pub unreachable-requires : goal.unreachable-requires
unreachable-requires c =
    c.in_default.ensures.none (begins_with_one (c.args.count - c.loop-number._number) c.loop-number.rest.now (omega (arith, c.loop-number-test.true)) c.loop-number.invariant.left)

pub loop-number-preserved : goal.loop-number-preserved
loop-number-preserved c = record {
  fits = grind (arith, common_steps);
  many = grind (arith, common_steps);
  read = grind (arith, common_steps);
  room = grind (arith, common_steps);
  left =
      one_fewer (c.args.count - c.loop-number._number) (c.args.count - (c.loop-number._number + 1)) c.loop-number.rest.now c.in-Some.after.now _ (omega (arith, c.loop-number-test.true))
      c.in-Some.ensures.fits c.in-Some.ensures.some c.loop-number.invariant.left;
}

pub returns : goal.returns
returns c =
    let i = c.loop-number.invariant in
    let none : c.loop-number.rest.now ≡ [] = (none_left (c.args.count - c.loop-number._number) c.loop-number.rest.now (omega (arith, c.loop-number-test.false))).0 i.left in (
      i.fits,
      omega (arith, i.many, c.loop-number-test.false, c.loop-number.auto._number-end),
      sym i.read ∙ ap (λ xs. pieces_bytes (map piece_of c.loop-number.points.items) ++ xs) none ∙ append-nil (pieces_bytes (map piece_of c.loop-number.points.items)),
    )
