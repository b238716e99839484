use Rattle.std.proofs.Common.{◌-◌, set, ap, ◌∙◌, rules}
use Rattle.hs_ledger.proofs.Pieces.{last_joined-set}
use Rattle.std.specs.Vec.{vec_len}
use Rattle.hs_ledger.proofs.book.join_last.Goals as goal

pub returns-in-Some : goal.returns-in-Some
returns-in-Some c =
    let entries = c.args.entries.now in
    let last = c.in-Some.last.now in
    ap (λ fate. set entries.items (vec_len entries - 1) (record { id = last.id; trace = last.trace; fate = fate })) c.join_fates-last.ensures
    ∙ last_joined-set c.args.more entries.items (vec_len entries - 1) last (search rules) (search rules)
