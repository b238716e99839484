use Rattle.std.proofs.Common.{◌≡◌, ◌+◌, ◌-◌, ◌++◌, length, take, drop, ap, ◌∙◌, arith}
use Rattle.std.proofs.lemmas.Grind.{common_steps}
use Rattle.hs_words.proofs.Parts.{copies_16}
use Rattle.hs_words.proofs.layout.copy_payload.Goals as goal

pub returns-then-len-le32 : goal.returns-then-len-le32
returns-then-len-le32 c =
    let old = c.args.buffer.now in
    let payload = c.args.payload.now in
    let xs = c.copy_16.new.buffer in
    let ys = c.copy_16-then-len-le32.new.buffer in
    let a = length payload - 16 in
    let long : length payload ≡ a + 16 = omega (arith, c.if-len-ge16.true) in
    let back : ys ≡ take 16 (drop a payload) ++ drop 16 (take (length xs - a) (drop a xs)) = grind (arith, common_steps, c.copy_16-then-len-le32.ensures) in
    copies_16 old payload xs ys a long (omega (arith, c.if-len-le32.true)) (omega (arith, long, c.requires)) c.copy_16.ensures back
    ∙ ap (λ n. payload ++ drop n old) (omega (arith, long))
