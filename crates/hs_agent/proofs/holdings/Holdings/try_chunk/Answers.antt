use Rattle.std.proofs.Common.{◌≡◌, ◌+◌, ◌<◌, ◌≤◌, ◌^◌, Some, None, length, sym, ap, subst, ◌∙◌, arith}
use Rattle.hs_agent.proofs.Prelude.{option_map, option_map_or, option_and_then, is_some, length-map, Header, Sheet, used_of, header_of, buffer_of, Claim, claim_of, count_chunks, Remembers, mark_of, placed_at, Kept, Holds, noted, indexed, chunk_taken, OnOk}
use Rattle.hs_agent.specs.Trying.{ComesToPins}
use Rattle.hs_agent.proofs.Outcomes.{none_mapped, some_mapped, of_some, on_ok_both}
use Rattle.hs_agent.proofs.Arrived.{TakesOne}
use Rattle.hs_agent.proofs.TakingChunks.{holds-taken_free, holds-taken_claimed}
use Rattle.hs_agent.proofs.holdings.Holdings.try_chunk.Goals as goal

pub pin-requires : goal.pin-requires
pin-requires g c =
    let point = c.requires.known.0 in
    let h : Holds c.args.self.now point = c.requires.known.1 in
    let page = of_some c.args.held.chunk.page c.requires.started in
    let header : Some page.0.header ≡ Some c.in-Some.header = sym (ap (option_map header_of) page.1) ∙ sym c.header.ensures ∙ c.in-Some.is in
    let trace : page.0.header.trace ≡ c.in-Some.header.trace = cc in
    let remembers : Remembers c.self.inside.pins h.memory = subst (λ (k : Kept g.row.L.Denot). Remembers k.pins h.memory) (sym c.self.view_is) h.remembers in
    let found = some_mapped (λ (claim : Claim). claim.group) (claim_of h.memory.claims c.in-Some.header.trace) c.owner.result (c.owner.ensures h.memory remembers) (ap is_some c.in-Some-owner.is) in
    (h.memory, h.remembers, ap is_some (ap (λ p. option_and_then (λ (header : Header). claim_of h.memory.claims header.trace) (option_map header_of p)) page.1 ∙ ap (claim_of h.memory.claims) trace ∙ found.1))

pub returns-in-Some-owner-clause-ok : goal.returns-in-Some-owner-clause-ok
returns-in-Some-owner-clause-ok g c = λ point h sized.
    let chunk = buffer_of {L = g.row.L.Denot} {g = g.L.Token} c.args.held in
    let page = of_some c.args.held.chunk.page c.requires.started in
    let sheet : Sheet = page.0 in
    let header : Some sheet.header ≡ Some c.in-Some.header = sym (ap (option_map header_of) page.1) ∙ sym c.header.ensures ∙ c.in-Some.is in
    let same : c.in-Some.header ≡ sheet.header = cc in
    let standings : length c.args.self.now.standings ≡ length point.state.taken = ap length h.standings ∙ length-map point.state.taken mark_of in
    let used = c.used-used.ensures.value in
    let bound = c.used-used.ensures.bound in
    let taken_up : option_map_or used_of c.args.held.chunk.page 0 ≡ used_of sheet = ap (λ p. option_map_or used_of p 0) page.1 in
    let size : used_of sheet ≤ point.settings.size = omega (arith, used, bound, taken_up, sized) in
    let remembers : Remembers c.self.inside.pins h.memory = subst (λ (k : Kept g.row.L.Denot). Remembers k.pins h.memory) (sym c.self.view_is) h.remembers in
    let found = some_mapped (λ (claim : Claim). claim.group) (claim_of h.memory.claims c.in-Some.header.trace) c.owner.result (c.owner.ensures h.memory remembers) (ap is_some c.in-Some-owner.is) in
    let own : claim_of h.memory.claims sheet.header.trace ≡ Some found.0 = ap (λ (x : Header). claim_of h.memory.claims x.trace) (sym same) ∙ found.1 in
    let Ends : Type 0 = (length c.args.self.now.standings + 1 < 2 ^ 64) × (count_chunks c.args.self.now.index.touched + length h.memory.pinned + 1 < 2 ^ 32) in
    let both : OnOk c.pin.result Ends = on_ok_both c.pin.result c.pin.ensures.fits (c.pin.ensures.few h.memory h.remembers) (λ fits few. let ends : Ends = (fits, few) in ends) in
    on_ok_both c.pin.result both (c.pin.ensures.ok h.memory h.remembers)
    (λ ends arrives.
    let fits = ends.0 in
    let room : TakesOne c.args.self.now point h = (omega (arith, fits, standings), ends.1) in
    holds-taken_claimed c.args.self.now point h chunk sheet page.1 size room found.0 own c.pin.new.self
    (subst (λ (x : Header). ComesToPins h.memory (placed_at (length point.state.taken) chunk) (noted x c.args.self.now) c.pin.new.self) same
    (subst (λ n. ComesToPins h.memory (placed_at n chunk) (noted c.in-Some.header c.args.self.now) c.pin.new.self) standings arrives)))

pub returns-in-None-clause-ok : goal.returns-in-None-clause-ok
returns-in-None-clause-ok g c = λ point h sized.
    let chunk = buffer_of {L = g.row.L.Denot} {g = g.L.Token} c.args.held in
    let page = of_some c.args.held.chunk.page c.requires.started in
    let sheet : Sheet = page.0 in
    let header : Some sheet.header ≡ Some c.in-Some.header = sym (ap (option_map header_of) page.1) ∙ sym c.header.ensures ∙ c.in-Some.is in
    let same : c.in-Some.header ≡ sheet.header = cc in
    let standings : length c.args.self.now.standings ≡ length point.state.taken = ap length h.standings ∙ length-map point.state.taken mark_of in
    let used = c.used-used.ensures.value in
    let bound = c.used-used.ensures.bound in
    let taken_up : option_map_or used_of c.args.held.chunk.page 0 ≡ used_of sheet = ap (λ p. option_map_or used_of p 0) page.1 in
    let size : used_of sheet ≤ point.settings.size = omega (arith, used, bound, taken_up, sized) in
    let remembers : Remembers c.self.inside.pins h.memory = subst (λ (k : Kept g.row.L.Denot). Remembers k.pins h.memory) (sym c.self.view_is) h.remembers in
    let missing = none_mapped (λ (claim : Claim). claim.group) (claim_of h.memory.claims c.in-Some.header.trace) c.owner.result (c.owner.ensures h.memory remembers) (ap is_some c.in-None.is) in
    let free : claim_of h.memory.claims sheet.header.trace ≡ None = ap (λ (x : Header). claim_of h.memory.claims x.trace) (sym same) ∙ missing in
    let Ends : Type 0 = (length c.args.self.now.standings + 1 < 2 ^ 64) × (count_chunks c.args.self.now.index.touched + length h.memory.pinned + 1 < 2 ^ 32) in
    let both : OnOk c.index_chunk.result Ends = on_ok_both c.index_chunk.result c.index_chunk.ensures.fits (c.index_chunk.ensures.few h.memory h.remembers) (λ fits few. let ends : Ends = (fits, few) in ends) in
    on_ok_both c.index_chunk.result both c.index_chunk.ensures.ok
    (λ ends now.
    let fits = ends.0 in
    let room : TakesOne c.args.self.now point h = (omega (arith, fits, standings), ends.1) in
    subst (λ (k : Kept g.row.L.Denot). Holds k (chunk_taken chunk point))
    (sym (now ∙ (λ i. indexed (placed_at (standings i) chunk) (noted (same i) c.args.self.now))))
    (holds-taken_free c.args.self.now point h chunk sheet page.1 size room free))
