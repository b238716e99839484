use Rattle.std.proofs.Common.{◌≡◌, ◌+◌, ◌-◌, ◌++◌, length, take, drop, sym, ap, subst, ◌∙◌, arith, List, Option, ℕ, take-append-drop}
use Rattle.std.proofs.Math.Seq.{take-add}
use Rattle.std.proofs.lemmas.List.{take_rest}
use Rattle.hs_base.specs.Outside.{Gains}
use Rattle.hs_workload.proofs.Streams.{Gains-trans}
use Rattle.hs_workload.proofs.writing.write_all.Goals as goal

pub loop-done-preserved : goal.loop-done-preserved
loop-done-preserved g c =
    let written = g.K.Sink.written in
    let done = c.loop-done.done in
    let count = c.in-Ok.count in
    let text = c.args.text.now in
    let joined : take done text ++ take count (take (length text - done) (drop done text)) ≡ take (done + count) text =
    ap (λ rest. take done text ++ take count rest) (take_rest text done) ∙ sym (take-add done count text) in
    record {
      within = omega (arith, c.in-Ok.ensures.fits);
      gained =
          subst (λ (front : List ℕ). Gains (written c.args.sink.now) (written c.write.new.self) front) joined
          (Gains-trans (written c.args.sink.now) (written c.loop-done.sink) (written c.write.new.self) (take done text) (take count (take (length text - done) (drop done text))) c.loop-done.invariant.gained c.in-Ok.ensures.gained);
      still = c.in-Ok.ensures.still ∙ c.loop-done.invariant.still;
    }

pub returns-in-Err-clause-front : goal.returns-in-Err-clause-front
returns-in-Err-clause-front g c =
    let written = g.K.Sink.written in
    let done = c.loop-done.done in
    let text = c.args.text.now in
    (take done text, drop done text, sym (take-append-drop done text), subst (λ (now : Option (List ℕ)). Gains (written c.args.sink.now) now (take done text)) (sym c.in-Err.ensures.kept) c.loop-done.invariant.gained)
