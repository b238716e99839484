use Rattle.std.proofs.Common.{cond, get_or, sym, ap, ◌∙◌, [], ◌∷◌, ◌++◌}
use Rattle.hs_check_follow.proofs.Prelude.{on_ok_weaker, get_there, set_same, lent_is, lent_from}
use Rattle.hs_check_follow.proofs.coordinator.send_if.Goals as goal

pub returns-else-contains : goal.returns-else-contains
returns-else-contains c =
    let there = get_there c.args.lists.now.items c.args.node c.requires.node in
    record {
      before = there.0;
      stood = there.1;
      now = there.0;
      set = sym (set_same c.args.lists.now.items c.args.node there.0 there.1);
      became = ap (λ b. cond b (there.0.items ++ c.args.asks.now.ask ∷ []) there.0.items) (sym c.if-contains.false ∙ c.contains.ensures);
    }

pub returns-then-contains : goal.returns-then-contains
returns-then-contains c =
    let items = c.args.lists.now.items in
    let now = c.as_mut_slice.result.now in
    on_ok_weaker c.append.result
    (λ added.
    record {
      before = get_or now c.args.node c.index-as_mut_slice-node.result;
      stood = lent_from items now c.args.node c.index-as_mut_slice-node.result c.as_mut_slice.ensures.value c.requires.node;
      now = c.append.new.self;
      set = lent_is items now c.args.node c.append.new.self c.as_mut_slice.ensures.value;
      became = added ∙ ap (λ b. cond b ((get_or now c.args.node c.index-as_mut_slice-node.result).items ++ c.args.asks.now.ask ∷ []) (get_or now c.args.node c.index-as_mut_slice-node.result).items) (sym c.if-contains.true ∙ c.contains.ensures);
    })
    c.append.ensures.ok
