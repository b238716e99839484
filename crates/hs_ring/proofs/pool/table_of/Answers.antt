use Rattle.std.proofs.Common.{◌≡◌, ℕ, ◌≤◌, List, length, sym, ap, ◌∙◌, arith}
use Rattle.hs_ring.proofs.Prelude.{sum, MOST_AHEAD, Contents, clear_chunks}
use Rattle.hs_ring.proofs.Making.{new_ring, first_size, new_making}
use Rattle.hs_ring.proofs.pool.table_of.Goals as goal

pub new-requires : goal.new-requires
new-requires c =
    let size : c.of.result.value.size ≡ c.requires.clear.0 =
    ap (λ (x : Contents). x.size) c.of.ensures ∙ first_size c.args.chunks.items c.requires.clear.0 c.in-Some.first.now c.requires.clear.1 c.requires.some c.in-Some.ensures in
    let draws : sum c.in_ok-from_slice.field-0.items ≤ MOST_AHEAD = omega (arith, ap (λ (l : List ℕ). sum l) c.in_ok-from_slice.ensures.items, c.requires.draws) in
    new_ring _ _ _ c.args.chunks.items c.requires.some c.requires.few c.len-buffers.ensures draws (c.requires.clear.1 ∙ ap (clear_chunks (length c.args.chunks.items)) (sym size))
    (c.as_slice.ensures.value ∙ c.in_ok-words.ensures) c.in_ok-slots.ensures

pub returns-in-Ok : goal.returns-in-Ok
returns-in-Ok c size is =
    let made = c.in-Ok.ensures.ok in
    new_making c.in-Ok.made.0.shared.table_id c.in-Ok.made.1 _ c.args.chunks.items size c.args.allowances.now made.2 c.len-buffers.ensures
    (made.0 ∙ ap (λ (l : List ℕ). length l) (c.as_slice.ensures.value ∙ c.in_ok-words.ensures)) (made.1 ∙ ap (λ l. length l) c.in_ok-slots.ensures) made.4
    (ap (λ (x : Contents). x.size) c.of.ensures ∙ first_size c.args.chunks.items size c.in-Some.first.now is c.requires.some c.in-Some.ensures) c.in_ok-from_slice.ensures.items c.requires.some c.requires.few
