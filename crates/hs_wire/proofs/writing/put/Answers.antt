use Rattle.std.proofs.Common.{◌≡◌, ℕ, ◌+◌, ◌-◌, List, ◌++◌, length, take, drop, refl, sym, ap₂, ◌∙◌, arith}
use Rattle.hs_wire.proofs.Prelude.{length-take-le, take-append-drop}
use Rattle.hs_words.proofs.Parts.{put_part}
use Rattle.hs_wire.proofs.writing.put.Goals as goal

pub returns-clause-puts : goal.returns-clause-puts
returns-clause-puts c =
    let out = c.args.out.now in
    let at = c.args.at in
    let len = length c.args.bytes.now in
    let k = at + len - at in
    let end : at + k ≡ at + len = omega arith in
    record {
      end_is = refl;
      room = c.requires;
      new_is =
          put_part (take at out) out out c.copy_from_slice.new.self at k (length-take-le at out (omega (arith, c.requires))) (sym (take-append-drop at out))
          ∙ ap₂ (λ (part : List ℕ) (n : ℕ). take at out ++ (part ++ drop n out)) c.copy_from_slice.ensures.after end;
    }
