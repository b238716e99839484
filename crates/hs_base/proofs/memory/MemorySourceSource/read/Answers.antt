use Rattle.std.proofs.Common.{◌≡◌, ◌+◌, ◌-◌, ◌++◌, ℕ, List, take, drop, length, sym, ap, ◌∙◌, arith, take-append-drop}
use Rattle.std.proofs.lemmas.List.{take_at, drop-drop, length-take-le}
use Rattle.hs_base.specs.InMemory.{Tape}
use Rattle.hs_base.proofs.memory.MemorySourceSource.read.Goals as goal

-- what was copied to the front is what the source loses
front_is_lost : (bytes piece copied : List ℕ) (at count : ℕ) → copied ≡ take count (drop at bytes) → length copied ≡ count → drop at bytes ≡ take count (copied ++ piece) ++ drop (at + count) bytes
front_is_lost bytes piece copied at count is fills =
    sym (take-append-drop count (drop at bytes)) ∙ ap (λ rest. take count (drop at bytes) ++ rest) (drop-drop count at bytes)
    ∙ ap (λ front. front ++ drop (at + count) bytes) (sym (take_at copied piece count fills ∙ is))

pub returns-clause-taken : goal.returns-clause-taken
returns-clause-taken c =
    let bytes = c.self.inside.bytes.items in
    let piece = c.args.piece.now in
    let at = c.self.inside.at in
    let count = c.min-count.result in
    let same : at + count - at ≡ count = omega arith in
    let is : c.copy_from_slice.new.self ≡ take count (drop at bytes) =
    c.copy_from_slice.ensures.after ∙ ap (λ n. take n (drop at c.deref-2.result.now)) same ∙ ap (λ bs. take count (drop at bs)) c.deref-2.ensures.value in
    let fills : length c.copy_from_slice.new.self ≡ count = c.copy_from_slice.ensures.len ∙ length-take-le count piece (omega arith) in
    ap (λ (t : Tape). t.left) (sym c.self.view_is) ∙ front_is_lost bytes (drop count piece) c.copy_from_slice.new.self at count is fills
