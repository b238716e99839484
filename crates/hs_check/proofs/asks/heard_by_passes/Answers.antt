use Rattle.std.proofs.Common.{◌≡◌, ℕ, ◌+◌, max, List, length, drop, get_or, sym, ap, ◌∙◌, arith}
use Rattle.hs_check.proofs.Prelude.{due_of, FoundNode, said_behind, places_behind, heard_with, heard_until, heard_for}
use Rattle.hs_check.proofs.Heard.{with_is, hear_more}
use Rattle.hs_check.proofs.asks.heard_by_passes.Goals as goal

pub loop-node-preserved : goal.loop-node-preserved
loop-node-preserved c =
    let nodes = c.args.nodes.now in
    let told = c.args.told.now in
    let i = c.loop-node.node in
    let f = c.index-nodes-node.result in
    let old = c.loop-node.heard.items in
    record {
      count = c.hear_due.ensures.count ∙ c.loop-node.invariant.count;
      each = λ pass low.
          (let due = due_of (said_behind c.as_slice.result.now) pass in
          let with : heard_with c.as_slice-in-loop-node.result.now (length told) due ≡ heard_with (places_behind i 0 told) (length told) due =
          ap (λ (l : List ℕ). heard_with l (length told) due) (c.as_slice-in-loop-node.ensures.value ∙ c.in_ok-places.ensures) in
          let until = with ∙ with_is i told due ∙ ap (λ (l : List ℕ). heard_until i (due_of (said_behind l) pass) told) c.as_slice.ensures
          ∙ sym (ap (λ (n : FoundNode). heard_until i (due_of (said_behind n.said.items) pass) told) c.index-nodes-node.is) in
          ap (λ n. max n (heard_for told pass (i + 1) (drop (i + 1) nodes))) (c.hear_due.ensures.each pass (omega (arith, low, c.loop-node.invariant.count)))
          ∙ hear_more told nodes i pass (get_or old pass 0) _ f c.loop-node-test.true c.index-nodes-node.is until ∙ c.loop-node.invariant.each pass low);
    }
