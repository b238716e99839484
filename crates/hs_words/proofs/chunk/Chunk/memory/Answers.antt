use Rattle.std.proofs.Common.{◌≡◌, List, ℕ, subst}
use Rattle.hs_words.specs.Chunks.{Contents}
use Rattle.hs_words.specs.Shown.{Shows}
use Rattle.hs_words.proofs.Layouts.{memory_shows}
use Rattle.hs_words.proofs.chunk.Chunk.memory.Goals as goal

pub returns : goal.returns
returns c =
    let s = c.self.inside in
    let i = c.self.invariant in
    let same : s.bytes.items ≡ c.deref.result.now = search (c.deref.ensures) in
    let shows = subst (λ (chunk : Contents). Shows s.bytes.items chunk.page) c.self.view_is (memory_shows s.page s.bytes.items i.page i.most) in
    subst (λ (bytes : List ℕ). Shows bytes c.args.self.now.page) same shows
