use Rattle.std.proofs.Common.{◌≡◌, ℕ, ◌≤◌, List, [], ◌∷◌, ◌++◌, length, refl, sym, ap, ◌∙◌, arith}
use Rattle.hs_locked.proofs.Prelude.{sum, MOST_AHEAD, Contents, clear_chunks, Store}
use Rattle.hs_ring.proofs.Making.{first_size}
use Rattle.hs_locked.proofs.Making.{no_tally, new_locked}
use Rattle.hs_locked.proofs.pool.lock_of.Goals as goal

pub new-requires : goal.new-requires
new-requires c =
    let size : c.of.result.value.size ≡ c.requires.clear.0 =
    ap (λ (x : Contents). x.size) c.of.ensures ∙ first_size c.args.chunks.items c.requires.clear.0 c.in-Some.first.now c.requires.clear.1 c.requires.some c.in-Some.ensures in
    let draws : sum c.in_ok-from_slice.field-0.items ≤ MOST_AHEAD = omega (arith, ap (λ (l : List ℕ). sum l) c.in_ok-from_slice.ensures.items, c.requires.draws) in
    let store : Store = record { pool = c.in_ok-make.field-0; tally = no_tally } in
    let made = c.in_ok-make.ensures in
    new_locked _ _ _ store c.args.chunks.items c.requires.some c.requires.few c.len.ensures draws (c.requires.clear.1 ∙ ap (clear_chunks (length c.args.chunks.items)) (sym size))
    record { after = made.after; queue = made.queue; buffers = made.buffers; tally = refl } refl
    (c.push_reserved.ensures.items ∙ ap (λ (l : List Store). l ++ store ∷ []) c.in_ok-slots.ensures.items)
