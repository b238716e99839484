-- The first of the hand goes back to the pool, or comes back from it.
use Rattle.std.proofs.Common.{◌≡◌, ℕ, List, [], ◌∷◌, Bool, Option, Some, None, refl, sym, ap, subst, ◌∙◌, slice_get}
use Rattle.std.specs.Prelude.{slice_set, option_and_then}
use Rattle.std.specs.List.{AllByRecursion}
use Rattle.std.specs.Option.{option_map_or}
use Rattle.hs_base.proofs.Alls.{all_at, all_set}
use Rattle.hs_records.specs.Plain.{PlainSettings}
use Rattle.hs_words.specs.Buffers.{Buffer, buffer_of}
use Rattle.hs_words.specs.Chunks.{Contents, with_page}
use Rattle.hs_words.specs.declared.token.Held.{Held}
use Rattle.hs_words.specs.declared.token.Given.{Given}
use Rattle.hs_words.specs.declared.token.Given.TheVariants as given
use Rattle.hs_ring.specs.Parts.{Leased, Giving, Gives}
use Rattle.hs_link.specs.Contents.{Incoming}
use Rattle.hs_live.specs.Keys.{Key}
use Rattle.hs_live.specs.Live.{Port}
use Rattle.hs_law_agent.specs.Stepping.{Answered}
use Rattle.hs_law_agent.specs.Stepping as model
use Rattle.hs_agent.specs.Keeping.{PlainAgent}
use Rattle.hs_agent.specs.Runs.{AgentRun, state_of, first_place, offered_next, after_offer, with_back, answer_of, back_in, Follows}
use Rattle.hs_intake.specs.declared.took.PartedChunk.{PartedChunk}
use Rattle.hs_intake.specs.Intakes.{PlainIntake, Waiting, Chunk, Crumbs, Triggers, AreFor, IsPooled, MayWaitIf, LetsGo, after_act, Stands}
use Rattle.hs_intake.specs.Handing.{Returns, GivesFirst, Word, word_of, SaysIf, HandsOut, handed_by}

-- ---- another giver of the same pool and size

keys_given : {T : Type 0} (settings : PlainSettings) (node : ℕ) (old new : Giving) (clients : ℕ) (ends : List (Incoming T Key)) → new.pool ≡ old.pool → new.size ≡ old.size
    → AreFor settings node old clients ends → AreFor settings node new clients ends
keys_given settings node old new clients ends pool size are =
    record {
      count = are.count;
      keys = (λ client r at.
          let key = are.keys client r at in
          record { client_is = key.client_is; pool = key.pool ∙ sym pool; size = key.size; nodes = key.nodes; rules = key.rules });
    }

pooled_given : (old new : Giving) → new.pool ≡ old.pool → new.size ≡ old.size → (buffer : Buffer Leased) → IsPooled old buffer → IsPooled new buffer
pooled_given old new pool size buffer is = (is.0 ∙ sym pool, is.1 ∙ sym size)

all_given : (old new : Giving) → new.pool ≡ old.pool → new.size ≡ old.size → (buffers : List (Buffer Leased)) → AllByRecursion (IsPooled old) buffers → AllByRecursion (IsPooled new) buffers
all_given old new pool size [] all = tt
all_given old new pool size (buffer ∷ buffers) all = (pooled_given old new pool size buffer all.0, all_given old new pool size buffers all.1)

waits_given : (settings : PlainSettings) (node : ℕ) (old new : Giving) (waiting : Option Waiting) → new.pool ≡ old.pool → new.size ≡ old.size
    → MayWaitIf settings node old waiting → MayWaitIf settings node new waiting
waits_given settings node old new None pool size may = tt
waits_given settings node old new (Some (Chunk client buffer)) pool size may = (may.0, pooled_given old new pool size buffer may.1)
waits_given settings node old new (Some (Crumbs client crumb)) pool size may = may
waits_given settings node old new (Some (Triggers client trigger)) pool size may = may

-- ---- the buffer that was offered

first_pooled : (P : Buffer Leased → Type 0) (buffers : List (Buffer Leased)) (place : Option ℕ) (buffer : Buffer Leased) → AllByRecursion P buffers
    → Some buffer ≡ option_and_then (λ p. slice_get buffers p) place → P buffer
first_pooled P buffers None buffer all is = let none : Some buffer ≡ None = is in absurd cc
first_pooled P buffers (Some place) buffer all is = all_at P buffers place buffer all (sym is)

back_pooled : (P : Buffer Leased → Type 0) (buffers : List (Buffer Leased)) (place : Option ℕ) (back : Option (Buffer Leased)) → AllByRecursion P buffers
    → ((buffer : Buffer Leased) → back ≡ Some buffer → P buffer)
    → AllByRecursion P (option_map_or (λ buffer. option_map_or (λ place. slice_set buffers place buffer) place buffers) back buffers)
back_pooled P buffers place None all one = all
back_pooled P buffers None (Some buffer) all one = all
back_pooled P buffers (Some place) (Some buffer) all one = all_set P buffers place buffer all (one buffer refl)

-- ---- what the pool answered

pub returned : {g h : _} (old new : Giving) (held : Held Leased g) (answer : Given Leased h) → Gives old held answer new → Returns old (buffer_of held) (answer_of answer) (back_in answer) new
returned old new held (given.Given stamp) gives = (refl, gives.0)
returned old new held (given.Missed back stamp) gives =
    (ap (λ (c : Contents). Some (record { chunk = c; lease = back.lease })) gives.2 ∙ ap (λ (l : Leased). Some (record { chunk = with_page held.chunk None; lease = l })) gives.3, gives.0)
returned old new held (given.Unread back) gives =
    (ap (λ (c : Contents). Some (record { chunk = c; lease = back.lease })) gives.1 ∙ ap (λ (l : Leased). Some (record { chunk = held.chunk; lease = l })) gives.2, gives.0)

same_pool : (old new : Giving) (buffer : Buffer Leased) (answer : Answered) (back : Option (Buffer Leased)) → Returns old buffer answer back new → (new.pool ≡ old.pool) × (new.size ≡ old.size)
same_pool old new buffer (model.Given stamp) back returns = (ap (λ (g : Giving). g.pool) returns.1, ap (λ (g : Giving). g.size) returns.1)
same_pool old new buffer (model.Missed stamp) back returns = (ap (λ (g : Giving). g.pool) returns.1, ap (λ (g : Giving). g.size) returns.1)
same_pool old new buffer model.Unread back returns = (ap (λ (g : Giving). g.pool) returns.1, ap (λ (g : Giving). g.size) returns.1)

one_back : (old new : Giving) (buffer : Buffer Leased) (answer : Answered) (back : Option (Buffer Leased)) → Returns old buffer answer back new → IsPooled old buffer
    → (other : Buffer Leased) → back ≡ Some other → IsPooled old other
one_back old new buffer (model.Given stamp) back returns is other at = let none : None ≡ Some other = sym returns.0 ∙ at in absurd cc
one_back old new buffer (model.Missed stamp) back returns is other at =
    let same : Some (record buffer { chunk = with_page buffer.chunk None }) ≡ Some other = sym returns.0 ∙ at in
    let one : record buffer { chunk = with_page buffer.chunk None } ≡ other = cc in
    subst (λ (b : Buffer Leased). IsPooled old b) one is
one_back old new buffer model.Unread back returns is other at =
    let same : Some buffer ≡ Some other = sym returns.0 ∙ at in
    let one : buffer ≡ other = cc in
    subst (λ (b : Buffer Leased). IsPooled old b) one is

-- ---- the intake stands on

gave_stands : (run : AgentRun Leased) (d : PlainIntake) (buffer : Buffer Leased) (answer : Answered) (back : Option (Buffer Leased)) (agent : PlainAgent Leased) (giver : Giving)
    → Stands run d → Some buffer ≡ offered_next run → Returns d.port.giver buffer answer back giver → Follows agent (after_act run (LetsGo answer back))
    → Stands (after_act run (LetsGo answer back)) (record d { agent = agent; port = record d.port { giver = giver } })
gave_stands run d buffer answer back agent giver stands first returns follows =
    let old = d.port.giver in
    let (pool, size) = same_pool old giver buffer answer back returns in
    let is = first_pooled (IsPooled old) run.buffers (first_place (state_of run)) buffer stands.pooled first in
    record {
      follows = follows;
      offered = refl;
      size = size ∙ stands.size;
      chunks = keys_given run.settings run.node old giver d.clients d.port.chunks pool size stands.chunks;
      crumbs = keys_given run.settings run.node old giver d.clients d.port.crumbs pool size stands.crumbs;
      triggers = keys_given run.settings run.node old giver d.clients d.port.triggers pool size stands.triggers;
      late = keys_given run.settings run.node old giver d.clients d.late pool size stands.late;
      pooled =
          all_given old giver pool size (with_back (after_offer run) back)
          (back_pooled (IsPooled old) run.buffers (first_place (state_of run)) back stands.pooled (one_back old giver buffer answer back returns is));
      waits = waits_given run.settings run.node old giver d.back pool size stands.waits;
      inbox = stands.inbox;
    }

pub gave_on : (run : AgentRun Leased) (d : PlainIntake) (buffer : Buffer Leased) (answer : Answered) (back : Option (Buffer Leased)) (agent : PlainAgent Leased) (port : Port)
    → Stands run d → Some buffer ≡ offered_next run → Returns d.port.giver buffer answer back port.giver → port ≡ record d.port { giver = port.giver }
    → Follows agent (after_act run (LetsGo answer back)) → Stands (after_act run (LetsGo answer back)) (record d { agent = agent; port = port })
gave_on run d buffer answer back agent port stands first returns only follows =
    subst (λ (p : Port). Stands (after_act run (LetsGo answer back)) (record d { agent = agent; port = p })) (sym only)
    (gave_stands run d buffer answer back agent port.giver stands first returns follows)

-- ---- what was said, and then the offer

-- what was said changed the mail and the claims, and then the first of the hand was offered
pub said_and_gave : (run : AgentRun Leased) (old new : PlainIntake) (w : Word) (parted : Option PartedChunk) (was_given : Option Bool) → SaysIf run (word_of old) parted w
    → GivesFirst run (record old { mail = w.mail; claims = w.claims }) was_given new → HandsOut run old (handed_by parted was_given) new
said_and_gave run old new w parted None says (only, spent) =
    let word : w ≡ word_of new = ap word_of (sym only) in (
      only ∙ ap (λ (x : Word). record old { agent = new.agent; mail = x.mail; claims = x.claims }) word,
      (spent, (parted, subst (λ (x : Word). SaysIf run (word_of old) parted x) word says)),
    )
said_and_gave run old new w parted (Some was_given) says (only, offers) =
    let word : w ≡ word_of new = ap word_of (sym only) in (
      only ∙ ap (λ (x : Word). record old { agent = new.agent; port = record old.port { giver = new.port.giver }; mail = x.mail; claims = x.claims }) word,
      (
        subst (λ (x : Word). SaysIf run (word_of old) parted x) word says,
        record { buffer = offers.buffer; first = offers.first; answer = offers.answer; back = offers.back; given = offers.given; returns = offers.returns; stands = offers.stands },
      ),
    )
