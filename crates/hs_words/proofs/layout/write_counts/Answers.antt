use Rattle.std.specs.Int.{w32, to_be_bytes}
use Rattle.std.proofs.Common.{◌≡◌, ℕ, ◌+◌, ◌-◌, ◌*◌, ◌++◌, List, length, take, drop, sym, ap, ap₂, ◌∙◌, arith}
use Rattle.std.proofs.lemmas.List.{take-append-drop, length-take-le}
use Rattle.hs_words.specs.Pages.{counts_bytes}
use Rattle.hs_words.proofs.Numbers.{counts_as_one}
use Rattle.hs_words.proofs.Parts.{put_next}
use Rattle.hs_words.proofs.layout.write_counts.Goals as goal

pub returns : goal.returns
returns c =
    let old = c.args.buffer.now in
    let part : to_be_bytes w32 (c.from.result * 65536 + c.from-2.result) ≡ counts_bytes c.args.count c.args.used =
    ap₂ (λ (a b : ℕ). to_be_bytes w32 (a * 65536 + b)) c.from.ensures c.from-2.ensures ∙ counts_as_one c.args.count c.args.used (omega (arith, c.ranges.count)) (omega (arith, c.ranges.used)) in
    put_next (take 28 old) (counts_bytes c.args.count c.args.used) old old c.write_u32.new.buf 28 4 (length-take-le 28 old (omega (arith, c.requires))) (sym (take-append-drop 28 old))
    (c.write_u32.ensures ∙ ap (λ (xs : List ℕ). xs ++ drop 4 (take (length old - 28) (drop 28 old))) part)
