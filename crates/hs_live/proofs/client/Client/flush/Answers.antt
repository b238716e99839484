use Rattle.std.proofs.Common.{◌≡◌, ℕ, true, ◌+◌, ◌^◌, ◌<◌, refl, sym, subst, arith}
use Rattle.hs_live.proofs.Prelude.{AllByRecursion, fired_by, is_declared, Watch, Key, PlainClient, Flushes, outgoing, writing_in, DoesNothing, live_of}
use Rattle.hs_live.proofs.Sound.{sound_kept}
use Rattle.hs_live.proofs.Senders.{keeps_buffers, flushes, flushes_buffers}
use Rattle.hs_live.proofs.Doing.{nothing_done}
use Rattle.hs_live.proofs.client.Client.flush.Goals as goal

record Few (chunks crumbs triggers : ℕ) : Type 0 where
  two : chunks + crumbs < 2 ^ 32
  three : chunks + crumbs + triggers < 2 ^ 32

few : (c : goal.After-flush-triggers) → Few c.flush-chunks.result c.flush-crumbs.result c.flush-triggers.result
few c =
    let s = c.self.inside in
    let is = c.self.invariant in
    let one = c.flush-chunks.ensures in
    let two = c.flush-crumbs.ensures in
    let three = c.flush-triggers.ensures in
    record {
      two = omega (arith, one.left, one.places, one.same.3, two.left, two.places, two.same.3, is.rooms);
      three = omega (arith, one.left, one.places, one.same.3, two.left, two.places, two.same.3, three.left, three.places, three.same.3, is.rooms);
    }

pub overflow_add-result : goal.overflow_add-result
overflow_add-result c = let h = (few c).two in omega (arith, h)

pub overflow_add-result-2 : goal.overflow_add-result-2
overflow_add-result-2 c = let h = (few c).three in omega (arith, h)

pub invariant_of-self : goal.invariant_of-self
invariant_of-self c =
    let s = c.self.inside in
    let is = c.self.invariant in
    let chunks = c.flush-chunks in
    let crumbs = c.flush-crumbs in
    let triggers = c.flush-triggers in
    record {
      writer = sound_kept (writing_in s.writer) (outgoing chunks.new.self) is.writer chunks.ensures.same;
      rooms = omega (arith, is.rooms, chunks.ensures.same.3, crumbs.ensures.same.3, triggers.ensures.same.3);
      declared = subst (λ (key : Key). AllByRecursion (λ (watch : Watch). is_declared key.rules (fired_by watch.rule) ≡ true) s.autos.items) (sym triggers.ensures.same.1) is.declared;
    }

pub returns-clause-chunks : goal.returns-clause-chunks
returns-clause-chunks c =
    let s = c.self.inside in
    let flushed = c.flush-chunks.ensures in
    subst (λ (old : PlainClient). Flushes old.chunks (outgoing c.flush-chunks.new.self)) c.self.view_is (flushes_buffers s.writer.chunks c.flush-chunks.new.self flushed.same flushed.sent flushed.put (λ some. flushed.kept (omega (arith, some, flushed.left))))

pub returns-clause-crumbs : goal.returns-clause-crumbs
returns-clause-crumbs c =
    let s = c.self.inside in
    let flushed = c.flush-crumbs.ensures in
    subst (λ (old : PlainClient). Flushes old.crumbs c.flush-crumbs.new.self) c.self.view_is (flushes s.crumbs c.flush-crumbs.new.self flushed.same flushed.sent flushed.put (λ some. flushed.kept (omega (arith, some, flushed.left))))

pub returns-clause-triggers : goal.returns-clause-triggers
returns-clause-triggers c =
    let s = c.self.inside in
    let flushed = c.flush-triggers.ensures in
    subst (λ (old : PlainClient). Flushes old.triggers c.flush-triggers.new.self) c.self.view_is (flushes s.triggers c.flush-triggers.new.self flushed.same flushed.sent flushed.put (λ some. flushed.kept (omega (arith, some, flushed.left))))

pub returns-clause-does : goal.returns-clause-does
returns-clause-does c =
    let s = c.self.inside in
    let new : PlainClient = live_of (record { writer = record { core = s.writer.core; drawer = s.writer.drawer; chunks = c.flush-chunks.new.self }; autos = s.autos; crumbs = c.flush-crumbs.new.self; triggers = c.flush-triggers.new.self }) in
    subst (λ (old : PlainClient). DoesNothing old new) c.self.view_is
    (nothing_done (live_of s) new refl refl refl refl refl (keeps_buffers s.writer.chunks c.flush-chunks.new.self c.flush-chunks.ensures.sent) c.flush-crumbs.ensures.sent c.flush-triggers.ensures.sent)
