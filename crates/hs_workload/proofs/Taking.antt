-- What was read of a known input.
use Rattle.std.proofs.Common.{◌≡◌, ℕ, ◌≤◌, List, ◌++◌, length, Option, Some, None, sym, ap, ◌∙◌, arith, append-nil, length-append}
use Rattle.hs_workload.specs.Input.{ReadWhole, ReadBeyond}

-- a known input that was read whole is what was read
pub taken_whole : (left left' : Option (List ℕ)) (input bytes : List ℕ) → left ≡ Some input → ReadWhole left left' bytes → bytes ≡ input
taken_whole None left' input bytes is whole = cc
taken_whole (Some known) None input bytes is whole = absurd whole.taken
taken_whole (Some known) (Some rest) input bytes is whole =
    let same : known ≡ input = cc in
    sym (append-nil bytes) ∙ ap (λ more. bytes ++ more) (sym whole.end) ∙ sym whole.taken ∙ same

-- no more was read of it than it has
pub taken_beyond : (left left' : Option (List ℕ)) (input bytes : List ℕ) → left ≡ Some input → ReadBeyond left left' bytes → length bytes ≤ length input
taken_beyond None left' input bytes is beyond = cc
taken_beyond (Some known) None input bytes is beyond = absurd beyond.taken
taken_beyond (Some known) (Some rest) input bytes is beyond =
    let same : known ≡ input = cc in
    let size = ap length (sym same ∙ beyond.taken) ∙ length-append bytes rest in
    omega (arith, size)
