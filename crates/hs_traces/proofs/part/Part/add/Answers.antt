use Rattle.std.proofs.Common.{◌≡◌, ◌+◌, length, ap, ◌∙◌, arith}
use Rattle.hs_traces.specs.Parts.{Pages, bytes_of, with_page}
use Rattle.hs_traces.proofs.Counting.{bytes_of-new}
use Rattle.hs_traces.proofs.part.Part.add.Goals as goal

pub returns-in-Ok-clause-count : goal.returns-in-Ok-clause-count
returns-in-Ok-clause-count c =
    ap bytes_of c.in-Ok.ensures.entries
    ∙ ap (λ (p : Pages). bytes_of (with_page p c.args.key c.args.page)) c.self.view_is
    ∙ bytes_of-new c.args.key c.args.page c.args.self.now c.requires.new

pub invariant_of-self : goal.invariant_of-self
invariant_of-self c =
    let more : bytes_of c.insert.new.self.entries ≡ bytes_of c.args.self.now + length c.args.page = returns-in-Ok-clause-count c in
    let seen : bytes_of c.self.inside.pages.entries ≡ bytes_of c.args.self.now = ap bytes_of c.self.view_is in
    let held : c.self.inside.bytes ≡ bytes_of c.self.inside.pages.entries = c.self.invariant in
    let len : length c.as_slice.result.now ≡ length c.args.page = ap length c.as_slice.ensures in
    omega (arith, more, seen, held, len)
