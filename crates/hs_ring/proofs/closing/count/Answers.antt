use Rattle.std.proofs.Common.{ap, arith}
use Rattle.hs_ring.proofs.Prelude.{giver_seat_of}
use Rattle.hs_ring.proofs.Owed.{Mine, looks_at}
use Rattle.hs_ring.proofs.Closings.{ends}
use Rattle.hs_ring.proofs.closing.count.Goals as goal

pub load-requires : goal.load-requires
load-requires c = (c.requires.at.0, omega (arith, c.requires.at.1), looks_at _ _ _ _ _ _ c.requires.free)

pub tally_of-requires-clause-empties : goal.tally_of-requires-clause-empties
tally_of-requires-clause-empties c =
    let end = ends c.args.entries.now.table_id.slots c.args.buffers c.args.misses c.load.result c.args.place.now.me.0 (giver_seat_of c.args.place.now.me.0) (ap (λ (m : Mine). m.0) c.requires.free) c.load.ensures.2.1 c.requires.halves c.requires.misses c.requires.all in
    let e = end.1.empties in
    let d = end.1.drawn in
    omega (arith, c.of-counts.ensures.drawn, c.of-counts.ensures.published)

pub tally_of-requires-clause-gives : goal.tally_of-requires-clause-gives
tally_of-requires-clause-gives c =
    let end = ends c.args.entries.now.table_id.slots c.args.buffers c.args.misses c.load.result c.args.place.now.me.0 (giver_seat_of c.args.place.now.me.0) (ap (λ (m : Mine). m.0) c.requires.free) c.load.ensures.2.1 c.requires.halves c.requires.misses c.requires.all in
    let m = end.1.misses_are in
    let p = end.1.published in
    omega (arith, c.of-counts.ensures.published)

pub returns : goal.returns
returns c =
    let end = ends c.args.entries.now.table_id.slots c.args.buffers c.args.misses c.load.result c.args.place.now.me.0 (giver_seat_of c.args.place.now.me.0) (ap (λ (m : Mine). m.0) c.requires.free) c.load.ensures.2.1 c.requires.halves c.requires.misses c.requires.all in
    let e = end.1 in
    let t = c.tally_of.ensures in
    let counts = c.of-counts.ensures in (
      end.0,
      e.together,
      record {
        gots = (let a = t.gots in let b = t.empties in let x = e.drawn in let y = e.empties in omega (arith, counts.drawn, counts.published));
        empties = (let b = t.empties in let y = e.empties in omega (arith, counts.drawn, counts.published));
        gives = (let a = t.gives in let p = e.published in let m = e.misses_are in omega (arith, counts.published));
        misses = (let b = t.misses in let m = e.misses_are in omega arith);
      },
      e.gives,
    )
