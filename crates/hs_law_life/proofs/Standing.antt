-- Lives in order go on, and the points of each core stand on its pages.
use Rattle.std.proofs.Common.{◌≡◌, ◌*◌, ◌≤◌, inl, inr, false, List, [], ◌∷◌, ◌++◌, Option, None, refl, sym, ap, subst, ◌∙◌, append-nil, append_assoc, length, length-append, map, arith, ◌+◌}
use Rattle.std.proofs.lemmas.Bool.{cases_lt}
use Rattle.std.proofs.lemmas.List.{length-map}
use Rattle.std.specs.Option.{option_to_list, option_and_then}
use Rattle.hs_base.specs.declared.limits.TheConstants.{MIN_SIZE}
use Rattle.hs_base.specs.declared.ids.ClientId.{ClientId}
use Rattle.hs_base.specs.declared.ids.TraceId.{TraceId}
use Rattle.hs_records.specs.Plain.{Operation, Begin}
use Rattle.hs_records.specs.Pages.{pages_of}
use Rattle.hs_records.specs.Laws.{PagesHoldThePieces}
use Rattle.hs_client.specs.OneMore.{open_after}
use Rattle.hs_client.specs.Core.{Core, CoreStep, handed, all_pages}
use Rattle.hs_client.specs.Calls.{AreSteps, IsBook, filled_chunks, note_of, pages_of_steps}
use Rattle.hs_words.specs.Ends.{Answer}
use Rattle.hs_link.specs.Contents.{Incoming, Contains, sent}
use Rattle.hs_live.specs.Keys.{Key}
use Rattle.hs_words.specs.Buffers.{Buffer}
use Rattle.hs_ring.specs.Parts.{Leased, Drawing}
use Rattle.hs_live.specs.Done.{HasDone, HasSent}
use Rattle.hs_live.specs.Calls.{made_of}
use Rattle.hs_live.specs.Live.{PlainClient}
use Rattle.hs_live.specs.Writing.{Made, new_of, noted, draws_by, buffers_by}
use Rattle.hs_node_client.specs.Clients.{PlainNodeClient}
use Rattle.hs_node_client.specs.Fitting.{AreSizes}
use Rattle.hs_node_client.specs.Lives.{CoreLife, ClientLife, FollowsOn, HasLife, Turns, with_op}
use Rattle.hs_node_client.specs.Making.{IsNewClient, PlainRules}
use Rattle.hs_node_client.specs.declared.limits.ClientLimits.{ClientLimits}
use Rattle.hs_law_life.specs.ClientLives.{MayDo, AreBegun, IsInOrder, IsOnItsWay, CoreStands, AllStand}
use Rattle.hs_law_life.proofs.Orders.{more_begun, pieces_stand}

-- ---- lives go on

pub does : (op : Operation) (client : PlainClient) (life : ClientLife) → HasLife life client → IsInOrder life → MayDo op client.core.trace → IsInOrder (with_op op life)
does op client [] has order may = tt
does op client (core ∷ cores) has order may = (order.0, more_begun None false core.ops op refl order.1 (subst (MayDo op) has.0.trace may), order.2)

-- a begin of a new core
renews : (trace : TraceId) (made : Made) (life : ClientLife) (old : PlainClient) → HasLife life old → FollowsOn made life → IsInOrder life → IsInOrder (record { made = made; ops = Begin trace ∷ [] } ∷ life)
renews trace made [] old has follows order = absurd has
renews trace made (core ∷ cores) old has follows order = (subst (λ size. MIN_SIZE ≤ size) (sym (ap (λ (m : Made). m.size) follows.0.made)) order.0, (refl, tt), order)

pub begins : (trace : TraceId) (old new : PlainClient) (life life' : ClientLife) → HasLife life old → IsInOrder life → MayDo (Begin trace) old.core.trace → Turns old.core life life'
    → HasLife (with_op (Begin trace) life') new → IsInOrder (with_op (Begin trace) life')
begins trace old new life life' has order may turns after = elim (cases_lt old.core.calls (2 * old.core.counted)) [
  | inl low ↦
      let turned = turns.renewed low in
      let has' : HasLife (with_op (Begin trace) (record { made = turned.0; ops = [] } ∷ life)) new = subst (λ (l : ClientLife). HasLife (with_op (Begin trace) l) new) turned.1 after in
      subst (λ (l : ClientLife). IsInOrder (with_op (Begin trace) l)) (sym turned.1) (renews trace turned.0 life old has has'.1 order)
  | inr half ↦ subst (λ (l : ClientLife). IsInOrder (with_op (Begin trace) l)) (sym (turns.same half)) (does (Begin trace) old life has order may)
]

pub new : (limits : ClientLimits) (rules : PlainRules) (id : ClientId) (drawer : Drawing) (client : PlainNodeClient) → AreSizes limits → IsNewClient limits rules id drawer client
    → IsInOrder (record { made = made_of client.live; ops = [] } ∷ [])
new limits rules id drawer client sizes is = (subst (λ size. MIN_SIZE ≤ size) (sym (ap (λ (c : Core Leased). c.size) is.core)) sizes.size.0, tt, tt)

-- ---- where a core's points stand

-- the book of any steps of a core
abbrev pub Books : Type 0
Books = (made : Made) (steps : List (CoreStep Leased)) → AreSteps (new_of made) steps → IsBook (new_of made) steps

abbrev pub Sends : Type 0
Sends = (made : Made) (ops : List Operation) (client : PlainClient) → HasDone made ops client → HasSent made ops client

abbrev own_chunks : (core : CoreLife) (client : PlainClient) → HasSent core.made core.ops client → List (Buffer Leased)
own_chunks core client s = filled_chunks core.made.client 0 (pages_of core.made.size core.ops) (buffers_by client.drawer.pool client.drawer.size core.made.renewed s.answers)

draws_are_answers : (answers : List Answer) → length (draws_by answers) ≡ length answers
draws_are_answers [] = refl
draws_are_answers (answer ∷ earlier) = length-append (draws_by earlier) (noted answer.stamp answer.event ∷ []) ∙ omega (arith, draws_are_answers earlier)

-- each page had a draw
pub each_drawn : Books → (core : CoreLife) (client : PlainClient) → HasDone core.made core.ops client → (s : HasSent core.made core.ops client) → length s.answers ≡ length (pages_of core.made.size core.ops)
each_drawn books core client did s =
    let w = did.writes [] in
    let steps = w.steps in
    let book = books core.made steps w.comes.may in
    let drawn : length w.comes.answers ≡ length (pages_of_steps core.made.size steps) = sym (draws_are_answers w.comes.answers) ∙ ap length (sym w.comes.draws) ∙ book.each in
    let noted_pages : map note_of (pages_of_steps core.made.size steps) ≡ map note_of (pages_of core.made.size core.ops) = sym book.pages ∙ ap (λ (c : Core Leased). all_pages c) (sym w.comes.core) ∙ s.pages in
    let pages : length (pages_of_steps core.made.size steps) ≡ length (pages_of core.made.size core.ops) =
    sym (length-map (pages_of_steps core.made.size steps) note_of) ∙ ap length noted_pages ∙ length-map (pages_of core.made.size core.ops) note_of in
    let same : length s.answers + length core.made.answers ≡ length w.comes.answers + length core.made.answers =
    sym (length-append s.answers core.made.answers) ∙ ap length (sym s.since ∙ w.comes.since) ∙ length-append w.comes.answers core.made.answers in
    omega (arith, same, drawn, pages)

core_stands : Books → PagesHoldThePieces → (core : CoreLife) (client : PlainClient) → HasDone core.made core.ops client → (s : HasSent core.made core.ops client) → MIN_SIZE ≤ core.made.size → AreBegun false core.ops
    → CoreStands core client.drawer.answers (own_chunks core client s)
core_stands books hold core client did s least begun =
    record {
      pieces = pieces_stand hold core.made.size core.ops least begun;
      own = s.answers;
      since = s.since;
      each = each_drawn books core client did s;
      pool = client.drawer.pool;
      size = client.drawer.size;
      filled = refl;
    }

open_join : (trace : Option _) (a b : List Operation) → open_after trace (a ++ b) ≡ open_after (open_after trace a) b
open_join trace [] b = refl
open_join trace (op ∷ a) b = open_join (Rattle.hs_records.specs.Records.open_behind trace op) a b

-- all that an earlier core handed out was sent before the next one came
sent_before : (core : CoreLife) (client : PlainClient) → HasDone core.made core.ops client → HasSent core.made core.ops client → open_after None (core.made.earlier ++ core.ops) ≡ None
    → sent client.chunks ++ option_to_list (handed client.core) ≡ sent client.chunks
sent_before core client did s ended =
    let none = s.closed (ap (λ trace. open_after trace core.ops) (sym did.before.ended) ∙ sym (open_join None core.made.earlier core.ops) ∙ ended) in
    ap (λ (current : Option _). sent client.chunks ++ option_to_list (option_and_then (λ c. c.buffer) current)) none ∙ append-nil (sent client.chunks)

earlier_stand : Books → Sends → PagesHoldThePieces → (later : Made) (cores : ClientLife) → FollowsOn later cores → open_after None later.earlier ≡ None → IsInOrder cores → AllStand cores later.answers later.before
earlier_stand books sends hold later [] follows ended order = follows.1
earlier_stand books sends hold later (core ∷ cores) follows ended order =
    let r = follows.0 in
    let s = sends core.made core.ops r.client r.did in
    let whole = sent_before core r.client r.did s (ap (λ (m : Made). open_after None m.earlier) (sym r.made) ∙ ended) in
    let before : later.before ≡ sent r.client.chunks ++ option_to_list (handed r.client.core) = ap (λ (m : Made). m.before) r.made ∙ sym whole in
    let answers : later.answers ≡ r.client.drawer.answers = ap (λ (m : Made). m.answers) r.made in (
      core.made.before,
      own_chunks core r.client s,
      before ∙ s.chunks,
      subst (λ (a : List Answer). CoreStands core a (own_chunks core r.client s)) (sym answers) (core_stands books hold core r.client r.did s order.0 order.1),
      earlier_stand books sends hold core.made cores follows.1 r.did.before.ended order.2,
    )

pub all_stand : Books → Sends → PagesHoldThePieces → (life : ClientLife) (client : PlainClient) → HasLife life client → IsInOrder life → AllStand life client.drawer.answers (sent client.chunks ++ option_to_list (handed client.core))
all_stand books sends hold [] client has order = absurd has
all_stand books sends hold (core ∷ cores) client has order =
    let s = sends core.made core.ops client has.0 in
    (core.made.before, own_chunks core client s, s.chunks, core_stands books hold core client has.0 s order.0 order.1, earlier_stand books sends hold core.made cores has.1 has.0.before.ended order.2)

pub on_its_way : Books → Sends → PagesHoldThePieces → (life : ClientLife) (client : PlainClient) (port : Incoming (Buffer Leased) Key) → HasLife life client → IsInOrder life → Contains client.chunks port
    → IsOnItsWay life client port
on_its_way books sends hold life client port has order contains =
    let ring = contains.0 in
    let last = option_to_list (handed client.core) in
    let parted : sent client.chunks ++ last ≡ port.received ++ (ring ++ (client.chunks.outbox ++ last)) =
    ap (λ (l : List (Buffer Leased)). (l ++ client.chunks.outbox) ++ last) contains.2
    ∙ append_assoc (port.received ++ ring) client.chunks.outbox last
    ∙ append_assoc port.received ring (client.chunks.outbox ++ last) in
    record { ring = ring; put = contains.2; stand = subst (AllStand life client.drawer.answers) parted (all_stand books sends hold life client has order) }
