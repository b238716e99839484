use Rattle.std.proofs.Common.{refl, subst}
use Rattle.hs_live.proofs.Prelude.{PlainClient, DoesNothing, live_of, writing_in}
use Rattle.hs_live.proofs.Sound.{sound_refilled}
use Rattle.hs_live.proofs.Doing.{nothing_refilled}
use Rattle.hs_live.proofs.client.Client.refill_draws.Goals as goal

pub invariant_of-self : goal.invariant_of-self
invariant_of-self c =
    let s = c.self.inside in
    let is = c.self.invariant in
    record { writer = sound_refilled (writing_in s.writer) c.refill.new.self c.refill.result is.writer c.refill.ensures; rooms = is.rooms; declared = is.declared }

pub returns-clause-does : goal.returns-clause-does
returns-clause-does c =
    let s = c.self.inside in
    let new : PlainClient =
    live_of (record { writer = record { core = s.writer.core; drawer = c.refill.new.self; chunks = s.writer.chunks }; autos = s.autos; crumbs = s.crumbs; triggers = s.triggers }) in
    subst (λ (old : PlainClient). DoesNothing old new) c.self.view_is (nothing_refilled (live_of s) new c.refill.result refl c.refill.ensures)
