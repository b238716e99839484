use Rattle.std.proofs.Common.{◌≡◌, [], ◌∷◌, ◌++◌, List, length, refl, sym, ap, ◌∙◌, arith}
use Rattle.hs_base.proofs.Options.{on_err_always}
use Rattle.hs_base.proofs.Parts.{last_of_one}
use Rattle.hs_words.specs.Buffers.{buffer_of}
use Rattle.hs_index.specs.Index.{PlainIndexedTrace, with_chunk, chunk_count}
use Rattle.hs_index.specs.Touched.{indexed}
use Rattle.hs_index.proofs.recent.Recent.add_new.Goals as goal

pub insert-requires-clause-new : goal.insert-requires-clause-new
insert-requires-clause-new g c = c.requires.new

pub insert-requires-clause-room : goal.insert-requires-clause-room
insert-requires-clause-room g c = c.requires.room

pub insert-requires-clause-few : goal.insert-requires-clause-few
insert-requires-clause-few g c = c.requires.few

pub insert-requires-clause-count : goal.insert-requires-clause-count
insert-requires-clause-count g c =
    let one : chunk_count c.add.new.self ≡ 1 = ap chunk_count (c.in_ok-add.ensures.ok ∙ ap (λ (n : PlainIndexedTrace g.row.L.Denot). with_chunk n (buffer_of c.args.held)) c.new-entry.ensures) in
    let most = c.requires.count in
    omega (arith, one, most)

pub returns-in_err-add-clause-room : goal.returns-in_err-add-clause-room
returns-in_err-add-clause-room g c = refl

pub returns-in_err-add-clause-err : goal.returns-in_err-add-clause-err
returns-in_err-add-clause-err g c = on_err_always c.from_residual.result refl

pub returns-in-Ok-clause-ok : goal.returns-in-Ok-clause-ok
returns-in-Ok-clause-ok g c =
    let made = c.in_ok-add.ensures.ok ∙ ap (λ (n : PlainIndexedTrace g.row.L.Denot). with_chunk n (buffer_of c.args.held)) c.new-entry.ensures in
    c.in-Ok.ensures.ok ∙ ap (λ (n : PlainIndexedTrace g.row.L.Denot). c.args.self.now.traces ++ indexed (c.args.trace, n) ∷ []) made

pub returns-in-Ok-clause-room : goal.returns-in-Ok-clause-room
returns-in-Ok-clause-room g c = c.in-Ok.ensures.room

pub into_last-requires : goal.into_last-requires
into_last-requires g c =
    let made = c.in_ok-add.ensures.ok ∙ ap (λ (n : PlainIndexedTrace g.row.L.Denot). with_chunk n (buffer_of c.args.held)) c.new-entry.ensures in
    let one : chunk_count c.in-Err.entry ≡ 1 = ap chunk_count (c.in-Err.ensures.back ∙ made) in
    omega (arith, one)

pub returns-in-Err-clause-room : goal.returns-in-Err-clause-room
returns-in-Err-clause-room g c = c.in-Err.ensures.room

pub returns-in-Err-clause-err : goal.returns-in-Err-clause-err
returns-in-Err-clause-err g c = c.in-Err.ensures.err

pub returns-in-Err-clause-back : goal.returns-in-Err-clause-back
returns-in-Err-clause-back g c =
    let made = c.in_ok-add.ensures.ok ∙ ap (λ (n : PlainIndexedTrace g.row.L.Denot). with_chunk n (buffer_of c.args.held)) c.new-entry.ensures in
    let last = c.into_last.ensures in
    last_of_one last.0 (buffer_of c.into_last.result) (buffer_of c.args.held) (sym (ap (λ (n : PlainIndexedTrace g.row.L.Denot). n.chunks) (c.in-Err.ensures.back ∙ made)) ∙ last.1)
