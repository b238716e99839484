use Rattle.std.proofs.Common.{ℕ, length, ◌∷◌, ◌++◌, refl, sym, ap, ◌∙◌, subst}
use Rattle.hs_live.proofs.Prelude.{option_to_list, Core, after_step, supplied, sent, Leased, outgoing, writing_in, Writing, IsWriting, IsSound, buffer_in, DrawsAs}
use Rattle.hs_live.proofs.Cuts.{spends_page}
use Rattle.hs_live.proofs.Sound.{sound_supplied}
use Rattle.hs_live.proofs.Steps.{piece_of, needed, drew}
use Rattle.hs_live.proofs.writer.Writer.turn_page.Goals as goal

pub returns-clause-sound : goal.returns-clause-sound
returns-clause-sound c =
    let old = c.args.self.now in
    let chunks = outgoing c.send_chunk.new.chunks in
    let step = supplied c.draw_marked-drawn.result c.args.moment c.args.payload.now c.args.more in
    let core_is = c.supply.ensures.after ∙ ap (λ core. after_step core step) c.in-NeedPage.ensures.after in
    subst (λ (core : Core Leased). IsSound (record { core = core; drawer = c.draw_marked-drawn.new.self; chunks = chunks })) (sym core_is)
    (sound_supplied c.renewed.result (writing_in old) c.draw_marked-drawn.new.self chunks c.draw_marked-drawn.result c.args.moment c.args.payload.now c.args.more c.requires.sound c.send_chunk.ensures.goes c.draw_marked-drawn.ensures)

pub returns-clause-written : goal.returns-clause-written
returns-clause-written c = λ made pieces later all is.
    let old = c.args.self.now in
    let payload = c.args.payload.now in
    let turned = c.in-NeedPage.ensures in
    let middle : Writing = record { core = c.piece.new.self; drawer = old.drawer; chunks = outgoing c.send_chunk.new.chunks } in
    let chunks = c.send_chunk.ensures.sent ∙ ap (λ handed. sent (outgoing old.chunks) ++ option_to_list handed) turned.answer.4 in
    let same = ap (λ (core : Core Leased). core.number) turned.after in
    let writing = needed made (piece_of old.core.number c.args.moment payload ∷ pieces) later all (writing_in old) middle (length payload) turned.may turned.after refl chunks is in
    drew made pieces later all middle _ c.draw_marked-drawn.result c.args.moment payload c.args.more
    (subst (λ (mark : ℕ). DrawsAs mark old.drawer c.draw_marked-drawn.result c.draw_marked-drawn.new.self) c.renewed.ensures c.draw_marked-drawn.ensures) c.supply.ensures.may
    c.supply.ensures.after refl (subst (λ number. IsWriting made (piece_of number c.args.moment payload ∷ pieces) later all middle) (sym same) writing)

pub returns-clause-spends : goal.returns-clause-spends
returns-clause-spends c =
    let step = supplied c.draw_marked-drawn.result c.args.moment c.args.payload.now c.args.more in
    let core_is = c.supply.ensures.after ∙ ap (λ core. after_step core step) c.in-NeedPage.ensures.after in
    spends_page c.renewed.result (writing_in c.args.self.now) c.supply.new.self c.draw_marked-drawn.new.self (outgoing c.send_chunk.new.chunks) (buffer_in c.in-NeedPage.full) c.draw_marked-drawn.result c.args.moment c.args.payload.now c.args.more
    core_is c.draw_marked-drawn.ensures c.send_chunk.ensures.goes c.send_chunk.ensures.sent
