use Rattle.std.proofs.Common.{◌≡◌, ◌∙◌, refl, take, sym, ap, subst, arith, List, [], Option, ℕ}
use Rattle.std.proofs.lemmas.List.{append-nil, length-take}
use Rattle.hs_base.specs.Outside.{Loses}
use Rattle.hs_workload.proofs.Streams.{Loses-nil, Loses-trans, Rose-since, nothing_left, ended}
use Rattle.hs_workload.proofs.reading.read_all.Goals as goal

pub loop-text-init : goal.loop-text-init
loop-text-init g c =
    let left = g.S.Source.left in
    record {
      lost = subst (λ (bytes : List ℕ). Loses (left c.args.source.now) (left c.args.source.now) bytes) (sym c.new-text.ensures.items) (Loses-nil (left c.args.source.now));
      within = omega (arith, c.new-text.ensures.len);
      piece = c.in-Ok.ensures;
      still = refl;
    }

pub returns-in_default-read : goal.returns-in_default-read
returns-in_default-read g c =
    let left = g.S.Source.left in
    record {
      read = (
        Rose-since _ _ _ c.loop-text.invariant.still c.in_default-read.ensures.failed,
        (
          c.loop-text.text.items,
          record {
            taken = subst (λ (now : Option (List ℕ)). Loses (left c.args.source.now) now c.loop-text.text.items) (sym c.in_default-read.ensures.kept) c.loop-text.invariant.lost;
            short = omega (arith, c.loop-text.text.ok.0, c.loop-text-test.true, c.len.ensures);
          },
        ),
      );
    }

pub returns-then-count-eq0 : goal.returns-then-count-eq0
returns-then-count-eq0 g c =
    let left = g.S.Source.left in
    let none : take c.in-Ok-read.count c.read.new.piece ≡ [] = ap (λ (n : ℕ). take n c.read.new.piece) c.if-count-eq0.true in
    record {
      read = (
        record {
          taken = subst (λ (bytes : List ℕ). Loses (left c.args.source.now) (left c.read.new.self) bytes) (append-nil c.loop-text.text.items)
              (Loses-trans (left c.args.source.now) (left c.loop-text.source) (left c.read.new.self) c.loop-text.text.items [] c.loop-text.invariant.lost
              (subst (λ (bytes : List ℕ). Loses (left c.loop-text.source) (left c.read.new.self) bytes) none c.in-Ok-read.ensures.taken));
          end = nothing_left (left c.loop-text.source) (left c.read.new.self) (take c.in-Ok-read.count c.read.new.piece) none (ended (left c.loop-text.source) c.in-Ok-read.count c.if-count-eq0.true c.in-Ok-read.ensures.end) c.in-Ok-read.ensures.taken;
          short = omega (arith, c.loop-text.text.ok.0, c.loop-text-test.true, c.len.ensures);
        },
        c.in-Ok-read.ensures.still ∙ c.loop-text.invariant.still,
      );
    }

pub loop-text-preserved : goal.loop-text-preserved
loop-text-preserved g c =
    let left = g.S.Source.left in
    let new = take c.in-Ok-read.count c.read.new.piece in
    record {
      lost =
          subst (λ (bytes : List ℕ). Loses (left c.args.source.now) (left c.read.new.self) bytes) (sym c.in-Ok-extend_from_slice.ensures.items)
          (Loses-trans (left c.args.source.now) (left c.loop-text.source) (left c.read.new.self) c.loop-text.text.items new c.loop-text.invariant.lost c.in-Ok-read.ensures.taken);
      within =
          omega (
            arith,
            c.in-Ok-extend_from_slice.ensures.len,
            length-take c.in-Ok-read.count c.read.new.piece,
            c.in-Ok-read.ensures.fits,
            c.read.auto.piece,
            length-take c.min-most.result c.deref_mut.result.now,
            c.min-most.ensures,
            c.len-in-loop-text.ensures,
          );
      piece = c.loop-text.invariant.piece;
      still = c.in-Ok-read.ensures.still ∙ c.loop-text.invariant.still;
    }

pub returns : goal.returns
returns g c = record { read = ((c.loop-text.text.items, record { taken = c.loop-text.invariant.lost; long = omega (arith, c.loop-text.text.ok.0, c.loop-text.invariant.within, c.loop-text-test.false, c.len.ensures) }), c.loop-text.invariant.still) }
