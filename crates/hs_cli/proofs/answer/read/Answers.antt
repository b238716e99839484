use Rattle.std.proofs.Common.{ℕ, List, sym, subst}
use Rattle.hs_workload.specs.Input.{ReadWhole}
use Rattle.hs_cli.proofs.Answering.{found_whole}
use Rattle.hs_cli.proofs.answer.read.Goals as goal

pub returns-in-Whole : goal.returns-in-Whole
returns-in-Whole g c =
    let (whole, still) = c.in-Whole.ensures.read in
    let left = g.S.Source.left in
    found_whole c.args.command _ _ _ _ c.deref.result.now c.found_in.result c.requires
    (subst (λ (input : List ℕ). ReadWhole (left c.args.source.now) (left c.read_all.new.source) input) (sym c.deref.ensures.value) whole) still c.found_in.ensures
