-- What holds between calls holds after a page was supplied, too.
use Rattle.std.proofs.Common.{◌≡◌, ℕ, ◌≤◌, Bool, true, false, List, length, Option, Some, None, IsSome, MatchOption, refl, sym, ap, ◌∙◌, subst, subst₂, arith}
use Rattle.hs_live.proofs.Prelude.{option_map, option_to_list, TraceId, Drawn, Contents, Buffer, buffer_of, Core, Current, after_step, closed, handed, supplied, Outgoing, sent, IsSameSender, Leased, Drawing, Key, GoesOn, Writing, IsSound, DrawsAs}
use Rattle.std.specs.Option.{option_and_then}
use Rattle.hs_words.specs.declared.token.Drawn.TheVariants as drawn
use Rattle.hs_words.specs.Pages.{Piece}
use Rattle.hs_client.specs.Core.{next_page, next_header, piece}
use Rattle.hs_ring.specs.Parts.{with_floor, refilled, Refills}
use Rattle.hs_live.specs.Keys.{IsChunkOf}
use Rattle.hs_live.specs.Writing.{IsNamed}

abbrev IsOfKey : Key → Option (Buffer Leased) → Type 0
IsOfKey key buffer = MatchOption buffer (Unit {0}) (λ (b : Buffer Leased). (b.lease.pool ≡ key.pool) × (b.chunk.size ≡ key.size))

next_held : (key : Key) (core : Core Leased) (buffer : Option (Buffer Leased)) (p : Piece) (trace : Option TraceId) → IsOfKey key buffer → key.client ≡ core.client
    → MatchOption (option_and_then (λ (c : Current Leased). c.buffer) (option_map (next_page core buffer p) trace)) (Unit {0}) (IsChunkOf key)
next_held key core None p None fresh owner = tt
next_held key core None p (Some trace) fresh owner = tt
next_held key core (Some buffer) p None fresh owner = tt
next_held key core (Some buffer) p (Some trace) fresh owner = record { pool = fresh.0; size = fresh.1; header = next_header core trace; started = refl; owner = sym owner }

some_page : (core : Core Leased) (buffer : Option (Buffer Leased)) (p : Piece) (used : ℕ) (trace : Option TraceId) → IsSome trace → option_map (next_page core buffer p) trace ≡ None → used ≡ 0
some_page core buffer p used None some none = absurd cc
some_page core buffer p used (Some trace) some none = absurd cc

pub sound_supplied : {g : _} (mark : ℕ) (old : Writing) (drawer : Drawing) (chunks : Outgoing (Buffer Leased) Key) (draw : Drawn Leased g) (moment : ℕ) (payload : List ℕ) (more : Bool)
    → IsSound old → GoesOn old.chunks chunks → DrawsAs mark old.drawer draw drawer
    → IsSound (record { core = after_step (closed old.core) (supplied draw moment payload more); drawer = drawer; chunks = chunks })
sound_supplied mark old drawer chunks (drawn.Got held stamp) moment payload more s goes draws =
    let key : chunks.key ≡ old.chunks.key = goes.same.1 in
    let size : drawer.size ≡ old.drawer.size = ap (λ (d : Drawing). d.size) draws.0 in
    let pool : drawer.pool ≡ old.drawer.pool = ap (λ (d : Drawing). d.pool) draws.0 in
    let owner : chunks.key.client ≡ old.core.client = ap (λ (k : Key). k.client) key ∙ s.named.owner in
    let name : chunks.key.pool ≡ drawer.pool = ap (λ (k : Key). k.pool) key ∙ s.named.pool ∙ sym pool in
    let wide : chunks.key.size ≡ old.core.size = ap (λ (k : Key). k.size) key ∙ s.named.size in
    let chunk : held.chunk.size ≡ old.drawer.size = ap (λ (c : Contents). c.size) draws.2 in
    let lease : held.lease.pool ≡ old.drawer.pool = ap (λ (l : Leased). l.pool) draws.3 in
    record {
      least = s.least;
      drawn = size ∙ s.drawn;
      named = record { owner = owner; pool = name; size = wide };
      ready = λ some none. some_page (closed old.core) (Some (buffer_of held)) (piece moment payload) _ old.core.trace some none;
      held = next_held chunks.key (closed old.core) (Some (buffer_of held)) (piece moment payload) old.core.trace (lease ∙ sym pool ∙ sym name, chunk ∙ s.drawn ∙ sym wide) owner;
    }
sound_supplied mark old drawer chunks (drawn.Empty stamp) moment payload more s goes draws =
    let key : chunks.key ≡ old.chunks.key = goes.same.1 in
    let size : drawer.size ≡ old.drawer.size = ap (λ (d : Drawing). d.size) draws.0 in
    let pool : drawer.pool ≡ old.drawer.pool = ap (λ (d : Drawing). d.pool) draws.0 in
    let owner : chunks.key.client ≡ old.core.client = ap (λ (k : Key). k.client) key ∙ s.named.owner in
    record {
      least = s.least;
      drawn = size ∙ s.drawn;
      named = record { owner = owner; pool = ap (λ (k : Key). k.pool) key ∙ s.named.pool ∙ sym pool; size = ap (λ (k : Key). k.size) key ∙ s.named.size };
      ready = λ some none. some_page (closed old.core) None (piece moment payload) _ old.core.trace some none;
      held = next_held chunks.key (closed old.core) None (piece moment payload) old.core.trace tt owner;
    }

-- as long as the sender is the same
pub sound_kept : (old : Writing) (chunks : Outgoing (Buffer Leased) Key) → IsSound old → IsSameSender old.chunks chunks → IsSound (record { core = old.core; drawer = old.drawer; chunks = chunks })
sound_kept old chunks s same =
    let key : chunks.key ≡ old.chunks.key = same.1 in
    record {
      least = s.least;
      drawn = s.drawn;
      named = subst (λ (k : Key). IsNamed k old.core old.drawer) (sym key) s.named;
      ready = s.ready;
      held = subst (λ (k : Key). MatchOption (handed old.core) (Unit {0}) (IsChunkOf k)) (sym key) s.held;
    }

-- after the ends were brought together
pub sound_met : (old : Writing) (drawer : Drawing) (chunks : Outgoing (Buffer Leased) Key) (floor taken : ℕ) → IsSound old → drawer ≡ with_floor old.drawer floor → chunks ≡ record old.chunks { taken = taken }
    → IsSound (record { core = old.core; drawer = drawer; chunks = chunks })
sound_met old drawer chunks floor taken s drawer_is chunks_are =
    let heard : Outgoing (Buffer Leased) Key = record old.chunks { taken = taken } in
    let is : IsSound (record { core = old.core; drawer = with_floor old.drawer floor; chunks = heard }) =
    record { least = s.least; drawn = s.drawn; named = record { owner = s.named.owner; pool = s.named.pool; size = s.named.size }; ready = s.ready; held = s.held } in
    subst₂ (λ (d : Drawing) (c : Outgoing (Buffer Leased) Key). IsSound (record { core = old.core; drawer = d; chunks = c })) (sym drawer_is) (sym chunks_are) is

-- after the allowance of its draws was made whole, or stayed
pub sound_refilled : (old : Writing) (drawer : Drawing) (is_whole : Bool) → IsSound old → Refills old.drawer is_whole drawer → IsSound (record { core = old.core; drawer = drawer; chunks = old.chunks })
sound_refilled old drawer true s is =
    let there : IsSound (record { core = old.core; drawer = refilled old.drawer; chunks = old.chunks }) =
    record { least = s.least; drawn = s.drawn; named = record { owner = s.named.owner; pool = s.named.pool; size = s.named.size }; ready = s.ready; held = s.held } in
    subst (λ (d : Drawing). IsSound (record { core = old.core; drawer = d; chunks = old.chunks })) (sym is) there
sound_refilled old drawer false s is = subst (λ (d : Drawing). IsSound (record { core = old.core; drawer = d; chunks = old.chunks })) (sym is) s
