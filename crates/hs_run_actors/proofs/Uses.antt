-- What each call of a client answers and uses, where its operation may be done.
use Rattle.std.proofs.Common.{◌≡◌, ℕ, ◌+◌, ◌≤◌, List, [], ◌∷◌, length, Option, Some, None, IsSome, refl, sym, ap, ◌∙◌, subst, arith, length-append}
use Rattle.hs_run_actors.proofs.Prelude.{TraceId, Crumb, Trigger, Watch, Core, Outgoing, sent, Key, PlainClient, GoesOn, draws_none, Operation, Begin, Point, End, Fire, Sample, Leased, Uses}
use Rattle.std.proofs.Math.Seq.{take-length}
use Rattle.hs_base.specs.declared.ids.NodeId.{NodeId}
use Rattle.hs_base.specs.declared.limits.TheConstants.{MAX_PAYLOAD}
use Rattle.hs_client.specs.Core.{Began, IsLeft, after_step}
use Rattle.hs_live.specs.declared.called.Called.{Called}
use Rattle.hs_live.specs.declared.called.Called.TheVariants as called
use Rattle.hs_live.specs.Calls.{BeginsBy, PointsBy, NotesBy, EndsBy, WritesOnly, begun, counts}
use Rattle.hs_live.specs.Live.{Sends}
use Rattle.hs_live.specs.Writing.{Spends, writing_of}
use Rattle.hs_records.specs.Plain as plain
use Rattle.hs_run_actors.specs.Counting.{SendsFew, UsesUp}

-- ---- answers

no_trace_open : (trace : Option TraceId) → IsSome trace → trace ≡ None → ⊥
no_trace_open None some none = cc
no_trace_open (Some t) some none = cc

pub begins : (core : Core Leased) (answer : Called) → IsLeft core → core.trace ≡ None → BeginsBy core answer → answer ≡ called.Done
begins core called.Done left none by = refl
begins core called.Spent left none by = absurd (omega (arith, left, by))
begins core called.AlreadyOpen left none by = absurd (no_trace_open core.trace by.1 none)
begins core called.NoTrace left none by = absurd by
begins core called.TooWide left none by = absurd by

pub points : (core : Core Leased) (bytes : ℕ) (answer : Called) → IsLeft core → IsSome core.trace → bytes ≤ MAX_PAYLOAD → PointsBy core bytes answer → answer ≡ called.Done
points core bytes called.Done left some few by = refl
points core bytes called.Spent left some few by = absurd (omega (arith, left, by))
points core bytes called.AlreadyOpen left some few by = absurd by
points core bytes called.NoTrace left some few by = absurd (no_trace_open core.trace some by.1)
points core bytes called.TooWide left some few by = absurd (omega (arith, few, by.2))

pub notes : (core : Core Leased) (answer : Called) → IsSome core.trace → NotesBy core answer → answer ≡ called.Done
notes core called.Done some by = refl
notes core called.Spent some by = absurd by
notes core called.AlreadyOpen some by = absurd by
notes core called.NoTrace some by = absurd (no_trace_open core.trace some by)
notes core called.TooWide some by = absurd by

pub ends : (core : Core Leased) (answer : Called) → IsLeft core → IsSome core.trace → EndsBy core answer → answer ≡ called.Done
ends core called.Done left some by = refl
ends core called.Spent left some by = absurd (omega (arith, left, by))
ends core called.AlreadyOpen left some by = absurd by
ends core called.NoTrace left some by = absurd (no_trace_open core.trace some by.1)
ends core called.TooWide left some by = absurd by

-- ---- what is used

sends_none : {T F : Type 0} (items : ℕ) (s : Outgoing T F) → SendsFew items s s
sends_none items s = record { goes = record { same = (refl, refl, refl, refl, refl); put = take-length s.put }; few = omega arith }

pub begin_uses : (trace : TraceId) (answer : Called) (old new : PlainClient) → answer ≡ called.Done → new ≡ record old { core = begun trace answer old.core } → Uses (Begin trace) old new
begin_uses trace answer old new done is =
    let began : PlainClient = record old { core = after_step old.core (Began trace) } in
    let same : new ≡ began = is ∙ ap (λ (a : Called). let l : PlainClient = record old { core = begun trace a old.core } in l) done in
    subst (λ (l : PlainClient). Uses (Begin trace) old l) (sym same)
    (record {
      owner = refl;
      size = refl;
      calls_are = refl;
      counted = omega arith;
      draws = draws_none old.drawer;
      left = omega arith;
      chunks = sends_none 1 old.chunks;
      crumbs_are = sends_none 0 old.crumbs;
      triggers_are = sends_none 0 old.triggers;
    })

written : (calls : ℕ) (old new : PlainClient) → Spends calls (writing_of old) (writing_of new) → WritesOnly old new → UsesUp calls 0 0 old new
written calls old new spends only =
    record {
      owner = spends.owner;
      size = spends.size;
      calls_are = spends.calls_are;
      counted = omega (arith, spends.counted);
      draws = spends.drawer;
      left = spends.left;
      chunks = record { goes = spends.chunks; few = spends.items };
      crumbs_are = subst (λ (s : Outgoing Crumb Key). SendsFew 0 old.crumbs s) (sym only.crumbs) (sends_none 0 old.crumbs);
      triggers_are = subst (λ (s : Outgoing Trigger Key). SendsFew 0 old.triggers s) (sym only.triggers) (sends_none 0 old.triggers);
    }

pub writes : (calls : ℕ) (answer : Called) (old new : PlainClient) → answer ≡ called.Done → Spends (counts calls answer) (writing_of old) (writing_of new) → WritesOnly old new → UsesUp calls 0 0 old new
writes calls answer old new done spends only = written calls old new (subst (λ (a : Called). Spends (counts calls a) (writing_of old) (writing_of new)) done spends) only

pub crumb_uses : (node : NodeId) (old new : PlainClient) → new ≡ record old { crumbs = new.crumbs } → GoesOn old.crumbs new.crumbs → length (sent new.crumbs) ≤ length (sent old.crumbs) + 1 → Uses (plain.Crumb node) old new
crumb_uses node old new is goes most =
    subst (λ (l : PlainClient). Uses (plain.Crumb node) old l) (sym is)
    (record {
      owner = refl;
      size = refl;
      calls_are = refl;
      counted = omega arith;
      draws = draws_none old.drawer;
      left = omega arith;
      chunks = sends_none 1 old.chunks;
      crumbs_are = record { goes = goes; few = most };
      triggers_are = sends_none 0 old.triggers;
    })

triggered : (old : PlainClient) (autos : List Watch) (triggers : Outgoing Trigger Key) → SendsFew 1 old.triggers triggers → UsesUp 1 0 1 old (record old { autos = autos; triggers = triggers })
triggered old autos triggers sends =
    record {
      owner = refl;
      size = refl;
      calls_are = refl;
      counted = omega arith;
      draws = draws_none old.drawer;
      left = omega arith;
      chunks = sends_none 1 old.chunks;
      crumbs_are = sends_none 0 old.crumbs;
      triggers_are = sends;
    }

pub fire_uses : (trigger : Trigger) (old new : PlainClient) → new ≡ record old { triggers = new.triggers } → Sends trigger old.triggers new.triggers → Uses (Fire trigger) old new
fire_uses trigger old new is sends =
    let more = length-append (sent old.triggers) (trigger ∷ []) in
    subst (λ (l : PlainClient). Uses (Fire trigger) old l) (sym is)
    (triggered old old.autos new.triggers (record { goes = sends.goes; few = omega (arith, ap length sends.items, more) }))

pub sample_uses : (moment auto value : ℕ) (old new : PlainClient) → new ≡ record old { autos = new.autos; triggers = new.triggers } → GoesOn old.triggers new.triggers → length (sent new.triggers) ≤ length (sent old.triggers) + 1
    → Uses (Sample moment auto value) old new
sample_uses moment auto value old new is goes most =
    subst (λ (l : PlainClient). Uses (Sample moment auto value) old l) (sym is) (triggered old new.autos new.triggers (record { goes = goes; few = most }))
