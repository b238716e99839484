use Rattle.std.proofs.Common.{refl, sym, ◌∙◌}
use Rattle.hs_words.specs.Buffers.{buffer_of}
use Rattle.hs_law_agent.specs.Stepping.{Chunk}
use Rattle.hs_agent.specs.Points.{sheet_in}
use Rattle.hs_agent.specs.Runs.{after_chunk}
use Rattle.tests_with.proofs.Tried.{rested_more, ready_after}
use Rattle.tests_with.proofs.site.Site.try_chunk.Goals as goal

pub try_chunk-tried-requires : goal.try_chunk-tried-requires
try_chunk-tried-requires c = λ working.
    let known = c.self.invariant working in
    let page = c.in_ok-held.ensures in
    (known.0, known.1, record { started = page.started; from = page.from ∙ (λ i. record { node = sym known.2.site.node i; number = 0 }); size = page.size ∙ sym known.2.site.size })

pub invariant_of-self : goal.invariant_of-self
invariant_of-self c =
    let buffer = buffer_of c.in_ok-held.held in
    ready_after c.try_chunk-tried.result c.self.inside.events c.self.inside.agent c.try_chunk-tried.new.self (λ run. after_chunk run 0 buffer) c.self.invariant
    c.try_chunk-tried.ensures.after c.try_chunk-tried.ensures.same c.try_chunk-tried.ensures.stays
    (λ run h. rested_more c.self.inside.events run (after_chunk run 0 buffer) (Chunk 0 (sheet_in buffer)) refl refl refl refl refl h)
