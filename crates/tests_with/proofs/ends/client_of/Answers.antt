use Rattle.std.proofs.Common.{◌≡◌, true, List, [], sym, ap, ◌∙◌, subst, rules}
use Rattle.std.specs.List.{AllByRecursion}
use Rattle.hs_base.specs.Rules.{fired_by, is_declared}
use Rattle.hs_auto.specs.Watching.{Watch, HasSampled}
use Rattle.hs_client.specs.Core.{Core, new_core}
use Rattle.hs_ring.specs.Parts.{Leased}
use Rattle.tests_with.proofs.ends.client_of.Goals as goal

pub make-requires-2 : goal.make-requires-2
make-requires-2 c =
    let one = c.in_ok-autos.ensures in
    let fires : is_declared c.args.ends.triggers.key.rules (fired_by c.in_ok-make.field-0.rule) ≡ true =
    ap (λ rule. is_declared c.args.ends.triggers.key.rules (fired_by rule)) c.in_ok-make.ensures.rule ∙ c.requires.triggers.1.declared in
    let keeps : c.args.core.keeps ≡ true = ap (λ (k : Core Leased). k.keeps) c.requires.core in
    let renewed : c.args.core.renewed ≡ 0 = ap (λ (k : Core Leased). k.renewed) c.requires.core in
    record {
      core = c.requires.core ∙ sym (λ i. record (new_core c.args.core.client c.args.core.size c.args.core.calls) { keeps = keeps i; renewed = renewed i });
      autos = subst (λ (l : List Watch). AllByRecursion (λ (watch : Watch). HasSampled watch []) l) (sym one) (search rules);
      declared = subst (λ (l : List Watch). AllByRecursion (λ (watch : Watch). is_declared c.args.ends.triggers.key.rules (fired_by watch.rule) ≡ true) l) (sym one) (search rules);
      drawer = c.requires.drawer;
      chunks = record { nothing = c.requires.chunks.0; owner = c.requires.chunks.1.owner; pool = c.requires.chunks.1.pool; size = c.requires.chunks.1.size };
      crumbs = record { nothing = c.requires.crumbs.0; owner = c.requires.crumbs.1.owner; pool = c.requires.crumbs.1.pool; size = c.requires.crumbs.1.size };
      triggers = record { nothing = c.requires.triggers.0; owner = c.requires.triggers.1.owner; pool = c.requires.triggers.1.pool; size = c.requires.triggers.1.size };
      nodes = (c.requires.crumbs.1.nodes ∙ sym c.requires.chunks.1.nodes, c.requires.triggers.1.nodes ∙ sym c.requires.chunks.1.nodes);
      rooms = c.requires.rooms;
    }
