-- Each null page of a client's life is counted.
use Rattle.std.proofs.Common.{◌≡◌, ℕ, suc, ◌+◌, ◌*◌, Bool, true, false, inl, inr, List, [], ◌∷◌, ◌++◌, length, length-append, Option, Some, None, refl, sym, ap, subst, ◌∙◌, append_assoc, append-nil, arith, cond}
use Rattle.std.specs.Prelude.{min, count_by, nat_lt, IsSome, IfSome, ◌^◌}
use Rattle.std.specs.Option.{option_to_list, is_none}
use Rattle.std.proofs.lemmas.Bool.{cases_lt, cond-true, cond-false, lt-ltb, le-ltb}
use Rattle.std.proofs.Math.Nat.{min-eq_left, min-eq_right}
use Rattle.hs_base.proofs.Counts.{count_append}
use Rattle.hs_base.specs.declared.ids.ClientId.{ClientId}
use Rattle.hs_base.specs.declared.ids.NodeId.{NodeId}
use Rattle.hs_base.specs.declared.ids.TraceId.{TraceId}
use Rattle.hs_client.specs.Calls.{filled_chunks}
use Rattle.hs_client.specs.Core.{handed, is_null}
use Rattle.hs_link.specs.Contents.{sent}
use Rattle.hs_live.specs.Calls.{made_of}
use Rattle.hs_live.specs.Done.{HasDone}
use Rattle.hs_live.specs.Live.{PlainClient}
use Rattle.hs_live.specs.Writing.{Made, noted, draws_by, buffer_got, buffers_by}
use Rattle.hs_records.specs.Pages.{PlainPage, pages_of}
use Rattle.hs_records.specs.Plain.{Operation, Begin}
use Rattle.hs_records.specs.declared.journal.Draw.{Draw}
use Rattle.hs_ring.specs.Parts.{Leased, Drawing}
use Rattle.hs_words.specs.Buffers.{Buffer}
use Rattle.hs_words.specs.Ends.{Answer}
use Rattle.hs_words.specs.PoolHistory.{PoolEvent, Got, Empty, Given, Missed}
use Rattle.hs_words.specs.Pools.{PoolName}
use Rattle.hs_node_client.specs.Answers as answers
use Rattle.hs_node_client.specs.Clients.{PlainNodeClient, KeepsEnds, NotesIt, NotesEnd, NotesLate, counted_note, nulls_of, tally_at_begin}
use Rattle.hs_node_client.specs.Counting.{more, opened, renewed, closed, segment_counts, with_point, with_crumb_called, with_refused_late, with_refused_trigger, if_full}
use Rattle.hs_node_client.specs.Lives.{CoreLife, ClientLife, HasLife, Turns, with_op}
use Rattle.hs_node_client.specs.Making.{IsNewClient, PlainRules}
use Rattle.hs_node_client.specs.declared.answers.CallAnswer.{CallAnswer}
use Rattle.hs_node_client.specs.declared.answers.CallAnswer.TheVariants as called
use Rattle.hs_node_client.specs.declared.counts.RunningCounts.{RunningCounts}
use Rattle.hs_node_client.specs.declared.limits.ClientLimits.{ClientLimits}
use Rattle.hs_node_client.specs.declared.paged.NextPage.{NextPage}
use Rattle.hs_node_client.specs.declared.segment.SegmentState.{SegmentState}
use Rattle.hs_node_client.specs.declared.segment.SegmentState.TheVariants.{Opened, Closed}
use Rattle.hs_node_client.specs.Paging.{place_in}
use Rattle.hs_law_life.specs.ClientLives.{CoreStands, AllStand}
use Rattle.hs_law_life.specs.NullPages.{nulls_by, page_count, capped, IsFromStart, nulls_before, HasCounted, KeepsNulls, NullsAreCounted}
use Rattle.hs_law_life.proofs.Standing.{Books, Sends, each_drawn}

-- ---- sums

capped_twice : (m a b : ℕ) → min (min a m + b) m ≡ min (a + b) m
capped_twice m a b = elim (cases_lt a m) [
  | inl low ↦ ap (λ (n : ℕ). min (n + b) m) (min-eq_left (omega (arith, low)))
  | inr high ↦ min-eq_right (omega (arith, high, min-eq_right high)) ∙ sym (min-eq_right (omega (arith, high)))
]

summed : (a b : ℕ) → more (capped a) b ≡ capped (a + b)
summed a b = capped_twice 18446744073709551615 a b

draws_append : (own earlier : List Answer) → draws_by (own ++ earlier) ≡ draws_by earlier ++ draws_by own
draws_append [] earlier = sym (append-nil (draws_by earlier))
draws_append (answer ∷ own) earlier =
    ap (λ (l : List Draw). l ++ noted answer.stamp answer.event ∷ []) (draws_append own earlier) ∙ append_assoc (draws_by earlier) (draws_by own) (noted answer.stamp answer.event ∷ [])

nulls_append : (own earlier : List Answer) → nulls_by (own ++ earlier) ≡ nulls_by earlier + nulls_by own
nulls_append own earlier = ap (count_by is_null) (draws_append own earlier) ∙ count_append is_null (draws_by earlier) (draws_by own)

-- ---- one core

one_null : (pool : PoolName) (size mark stamp : ℕ) (event : PoolEvent) → count_by is_none (buffer_got pool size mark stamp event ∷ []) ≡ count_by is_null (noted stamp event ∷ [])
one_null pool size mark stamp (Got buffer) = refl
one_null pool size mark stamp Empty = refl
one_null pool size mark stamp (Given buffer) = refl
one_null pool size mark stamp Missed = refl

nones : (pool : PoolName) (size mark : ℕ) (own : List Answer) → count_by is_none (buffers_by pool size mark own) ≡ nulls_by own
nones pool size mark [] = refl
nones pool size mark (answer ∷ own) =
    count_append is_none (buffers_by pool size mark own) (buffer_got pool size mark answer.stamp answer.event ∷ [])
    ∙ ap (λ (n : ℕ). n + count_by is_none (buffer_got pool size mark answer.stamp answer.event ∷ [])) (nones pool size mark own)
    ∙ ap (λ (n : ℕ). nulls_by own + n) (one_null pool size mark answer.stamp answer.event)
    ∙ sym (count_append is_null (draws_by own) (noted answer.stamp answer.event ∷ []))

buffers_length : (pool : PoolName) (size mark : ℕ) (own : List Answer) → length (buffers_by pool size mark own) ≡ length own
buffers_length pool size mark [] = refl
buffers_length pool size mark (answer ∷ own) =
    length-append (buffers_by pool size mark own) (buffer_got pool size mark answer.stamp answer.event ∷ []) ∙ omega (arith, buffers_length pool size mark own)

filled_length : (client : ClientId) (number : ℕ) (pages : List PlainPage) (buffers : List (Option (Buffer Leased))) → length buffers ≡ length pages
    → count_by is_none buffers + length (filled_chunks client number pages buffers) ≡ length pages
filled_length client number [] [] same = refl
filled_length client number [] (buffer ∷ buffers) same = absurd cc
filled_length client number (page ∷ pages) [] same = absurd cc
filled_length client number (page ∷ pages) (None ∷ buffers) same =
    let rest = filled_length client (number + 1) pages buffers (omega (arith, same)) in
    let first : Option (Buffer Leased) = None in
    let one : count_by is_none (first ∷ buffers) ≡ 1 + count_by is_none buffers = count_append is_none (first ∷ []) buffers in
    let skipped : length (filled_chunks client number (page ∷ pages) (None ∷ buffers)) ≡ length (filled_chunks client (number + 1) pages buffers) = refl in
    omega (arith, rest, one, skipped)
filled_length client number (page ∷ pages) (Some buffer ∷ buffers) same =
    let rest = filled_length client (number + 1) pages buffers (omega (arith, same)) in
    let none : count_by is_none (Some buffer ∷ buffers) ≡ 0 + count_by is_none buffers = count_append is_none (Some buffer ∷ []) buffers in
    let filled : length (filled_chunks client number (page ∷ pages) (Some buffer ∷ buffers)) ≡ suc (length (filled_chunks client (number + 1) pages buffers)) = refl in
    omega (arith, rest, none, filled)

core_counts : (core : CoreLife) (answers : List Answer) (chunks : List (Buffer Leased)) (s : CoreStands core answers chunks) → nulls_by s.own + length chunks ≡ length (pages_of core.made.size core.ops)
core_counts core answers chunks s =
    let buffers = buffers_by s.pool s.size core.made.renewed s.own in
    let pages = pages_of core.made.size core.ops in
    let filled = filled_length core.made.client 0 pages buffers (buffers_length s.pool s.size core.made.renewed s.own ∙ s.each) in
    ap (λ (n : ℕ). n + length chunks) (sym (nones s.pool s.size core.made.renewed s.own)) ∙ ap (λ (l : List (Buffer Leased)). count_by is_none buffers + length l) s.filled ∙ filled

-- ---- all cores

core_more : (core : CoreLife) (answers : List Answer) (chunks before own : List (Buffer Leased)) (pages : ℕ) → chunks ≡ before ++ own → (s : CoreStands core answers own) → nulls_by core.made.answers + length before ≡ pages
    → nulls_by answers + length chunks ≡ pages + length (pages_of core.made.size core.ops)
core_more core answers chunks before own pages parts s earlier =
    let nulls = ap nulls_by s.since ∙ nulls_append s.own core.made.answers in
    let lengths = ap length parts ∙ length-append before own in
    let here = core_counts core answers own s in
    omega (arith, nulls, lengths, here, earlier)

pub all_counted : (life : ClientLife) (answers : List Answer) (chunks : List (Buffer Leased)) → IsFromStart life → AllStand life answers chunks → nulls_by answers + length chunks ≡ page_count life
all_counted [] answers chunks start stand = absurd start
all_counted (core ∷ []) answers chunks start (before, own, parts, s, none) =
    core_more core answers chunks before own 0 parts s (ap (λ (l : List Answer). nulls_by l + length before) start ∙ ap (λ (l : List (Buffer Leased)). nulls_by [] + length l) none)
all_counted (core ∷ earlier ∷ cores) answers chunks start (before, own, parts, s, others) =
    core_more core answers chunks before own (page_count (earlier ∷ cores)) parts s (all_counted (earlier ∷ cores) core.made.answers before start others)

-- the null pages of the last core
own_nulls : Sends → (core : CoreLife) (client : PlainClient) → HasDone core.made core.ops client → nulls_by client.drawer.answers ≡ nulls_by core.made.answers + nulls_of client.core
own_nulls sends core client did =
    let s = sends core.made core.ops client did in
    ap nulls_by s.since ∙ nulls_append s.answers core.made.answers ∙ ap (λ (l : List Draw). nulls_by core.made.answers + count_by is_null l) (sym s.draws)

pub counts : Sends → (life : ClientLife) (client : PlainNodeClient) → HasCounted life client → AllStand life client.live.drawer.answers (sent client.live.chunks ++ option_to_list (handed client.live.core))
    → NullsAreCounted life client
counts sends [] client has stand = absurd has.lives
counts sends (core ∷ cores) client has stand =
    record {
      pages = all_counted (core ∷ cores) client.live.drawer.answers (sent client.live.chunks ++ option_to_list (handed client.live.core)) has.start stand;
      count =
          ap (λ (n : ℕ). more n (nulls_of client.live.core)) has.past ∙ summed (nulls_by core.made.answers) (nulls_of client.live.core)
          ∙ ap capped (sym (own_nulls sends core client.live has.lives.0));
    }

-- ---- a life goes on

pub begins_new : (limits : ClientLimits) (rules : PlainRules) (id : ClientId) (drawer : Drawing) (client : PlainNodeClient) → drawer.answers ≡ [] → IsNewClient limits rules id drawer client
    → HasCounted (record { made = made_of client.live; ops = [] } ∷ []) client
begins_new limits rules id drawer client none is =
    let empty : client.live.drawer.answers ≡ [] = ap (λ (d : Drawing). d.answers) is.drawer_is ∙ none in
    record { lives = is.life; start = empty; past = ap (λ (t : RunningCounts). t.past.null_pages) is.tally ∙ ap (λ (l : List Answer). capped (nulls_by l)) (sym empty) }

start_kept : (op : Operation) (life : ClientLife) → IsFromStart life → IsFromStart (with_op op life)
start_kept op [] start = start
start_kept op (core ∷ []) start = start
start_kept op (core ∷ earlier ∷ cores) start = start

before_kept : (op : Operation) (life : ClientLife) → nulls_before (with_op op life) ≡ nulls_before life
before_kept op [] = refl
before_kept op (core ∷ cores) = refl

pub does : (op : Operation) (old new : PlainNodeClient) (life : ClientLife) → HasCounted life old → HasLife (with_op op life) new.live → KeepsNulls old new → HasCounted (with_op op life) new
does op old new life has after kept =
    record { lives = after; start = start_kept op life has.start; past = kept ∙ has.past ∙ ap capped (sym (before_kept op life)) }

pub does_none : (old new : PlainNodeClient) (life : ClientLife) → HasCounted life old → HasLife life new.live → KeepsNulls old new → HasCounted life new
does_none old new life has after kept = record { lives = after; start = has.start; past = kept ∙ has.past }

-- ---- a begin

nil_of : {A : Type 0} (xs : List A) → length xs ≡ 0 → xs ≡ []
nil_of [] none = refl
nil_of (x ∷ xs) none = absurd cc

-- A core came where the one before it stood: its drawer had the same answers.
same_answers : Books → Sends → (trace : TraceId) (made : Made) (core : CoreLife) (cores : ClientLife) (old new : PlainClient) → HasLife (core ∷ cores) old → KeepsEnds old new
    → HasLife (record { made = made; ops = Begin trace ∷ [] } ∷ core ∷ cores) new → made.answers ≡ old.drawer.answers
same_answers books sends trace made core cores old new has keeps after =
    let first : CoreLife = record { made = made; ops = Begin trace ∷ [] } in
    let r = after.1.0 in
    let s0 = sends core.made core.ops old has.0 in
    let s1 = sends core.made core.ops r.client r.did in
    let s2 = sends made (Begin trace ∷ []) new after.0 in
    let none : s2.answers ≡ [] = nil_of s2.answers (each_drawn books first new after.0 s2) in
    let grown : made.answers ≡ keeps.drawer.added ++ old.drawer.answers = sym (s2.since ∙ ap (λ (l : List Answer). l ++ made.answers) none) ∙ keeps.drawer.since in
    let made_length : length made.answers ≡ length s1.answers + length core.made.answers = ap (λ (m : Made). length m.answers) r.made ∙ ap length s1.since ∙ length-append s1.answers core.made.answers in
    let old_length : length old.drawer.answers ≡ length s0.answers + length core.made.answers = ap length s0.since ∙ length-append s0.answers core.made.answers in
    let grown_length : length made.answers ≡ length keeps.drawer.added + length old.drawer.answers = ap length grown ∙ length-append keeps.drawer.added old.drawer.answers in
    let d0 = each_drawn books core old has.0 s0 in
    let d1 = each_drawn books core r.client r.did s1 in
    grown ∙ ap (λ (l : List Answer). l ++ old.drawer.answers) (nil_of keeps.drawer.added (omega (arith, made_length, old_length, grown_length, d0, d1)))

note_keeps : (was_sent : Bool) (tally : RunningCounts) → (counted_note was_sent tally).past.null_pages ≡ tally.past.null_pages
note_keeps true tally = refl
note_keeps false tally = refl

noted_keeps : (trace : TraceId) (state : SegmentState) (place : NextPage) (notebook notebook' : _) (counted tally : RunningCounts) → NotesIt trace state place notebook counted notebook' tally
    → tally.past.null_pages ≡ counted.past.null_pages
noted_keeps trace state place notebook notebook' counted tally (was_sent, notes, is) = ap (λ (t : RunningCounts). t.past.null_pages) is ∙ note_keeps was_sent counted

-- the sum behind a renewal, and where there was none
at_begin : (b : Bool) (nulls pages : ℕ) (tally : RunningCounts)
    → (cond b (opened 0 0 (renewed nulls tally)) (opened nulls pages tally)).past.null_pages ≡ cond b (more tally.past.null_pages nulls) tally.past.null_pages
at_begin true nulls pages tally = refl
at_begin false nulls pages tally = refl

sum_at_begin : (trace : TraceId) (old new : PlainNodeClient) → NotesIt trace Opened (place_in new.live.core) old.notebook (tally_at_begin old) new.notebook new.tally
    → new.tally.past.null_pages ≡ cond (nat_lt old.live.core.calls (2 * old.live.core.counted)) (more old.tally.past.null_pages (nulls_of old.live.core)) old.tally.past.null_pages
sum_at_begin trace old new notes =
    noted_keeps trace Opened (place_in new.live.core) old.notebook new.notebook (tally_at_begin old) new.tally notes
    ∙ at_begin (nat_lt old.live.core.calls (2 * old.live.core.counted)) (nulls_of old.live.core) (length old.live.core.pages) old.tally

pub begins : Books → Sends → (trace : TraceId) (old new : PlainNodeClient) (life life' : ClientLife) → HasCounted life old → KeepsEnds old.live new.live → Turns old.live.core life life'
    → HasLife (with_op (Begin trace) life') new.live → NotesIt trace Opened (place_in new.live.core) old.notebook (tally_at_begin old) new.notebook new.tally → HasCounted (with_op (Begin trace) life') new
begins books sends trace old new [] life' has keeps turns after notes = absurd has.lives
begins books sends trace old new (core ∷ cores) life' has keeps turns after notes = elim (cases_lt old.live.core.calls (2 * old.live.core.counted)) [
  | inl low ↦
      let turned = turns.renewed low in
      let made = turned.0 in
      let after' : HasLife (record { made = made; ops = Begin trace ∷ [] } ∷ core ∷ cores) new.live = subst (λ (l : ClientLife). HasLife (with_op (Begin trace) l) new.live) turned.1 after in
      let answers = same_answers books sends trace made core cores old.live new.live has.lives keeps after' in
      let sum = sum_at_begin trace old new notes ∙ cond-true (nat_lt old.live.core.calls (2 * old.live.core.counted)) (more old.tally.past.null_pages (nulls_of old.live.core)) old.tally.past.null_pages (lt-ltb old.live.core.calls (2 * old.live.core.counted) low) in
      let past = sum ∙ ap (λ (n : ℕ). more n (nulls_of old.live.core)) has.past ∙ summed (nulls_by core.made.answers) (nulls_of old.live.core)
      ∙ ap capped (sym (own_nulls sends core old.live has.lives.0)) ∙ ap (λ (l : List Answer). capped (nulls_by l)) (sym answers) in
      subst (λ (l : ClientLife). HasCounted (with_op (Begin trace) l) new) (sym turned.1) (record { lives = after'; start = has.start; past = past })
  | inr half ↦
      let same = turns.same half in
      let sum = sum_at_begin trace old new notes ∙ cond-false (nat_lt old.live.core.calls (2 * old.live.core.counted)) (more old.tally.past.null_pages (nulls_of old.live.core)) old.tally.past.null_pages (le-ltb old.live.core.calls (2 * old.live.core.counted) half) in
      subst (λ (l : ClientLife). HasCounted (with_op (Begin trace) l) new) (sym same)
      (does (Begin trace) old new (core ∷ cores) has (subst (λ (l : ClientLife). HasLife (with_op (Begin trace) l) new.live) same after) sum)
]

-- ---- the other calls

pub point_keeps : (by : CallAnswer) (old new : PlainNodeClient) → new.tally ≡ with_point by old.tally → KeepsNulls old new
point_keeps called.Done old new is = ap (λ (t : RunningCounts). t.past.null_pages) is
point_keeps called.NoTrace old new is = ap (λ (t : RunningCounts). t.past.null_pages) is
point_keeps called.AlreadyOpen old new is = ap (λ (t : RunningCounts). t.past.null_pages) is
point_keeps called.TooWide old new is = ap (λ (t : RunningCounts). t.past.null_pages) is
point_keeps called.Full old new is = ap (λ (t : RunningCounts). t.past.null_pages) is
point_keeps called.Unknown old new is = ap (λ (t : RunningCounts). t.past.null_pages) is
point_keeps called.Spent old new is = ap (λ (t : RunningCounts). t.past.null_pages) is

pub crumb_keeps : (node : NodeId) (by : CallAnswer) (old new : PlainNodeClient) → new.tally ≡ with_crumb_called node by old.tally → KeepsNulls old new
crumb_keeps node called.Done old new is = ap (λ (t : RunningCounts). t.past.null_pages) is
crumb_keeps node called.NoTrace old new is = ap (λ (t : RunningCounts). t.past.null_pages) is
crumb_keeps node called.AlreadyOpen old new is = ap (λ (t : RunningCounts). t.past.null_pages) is
crumb_keeps node called.TooWide old new is = ap (λ (t : RunningCounts). t.past.null_pages) is
crumb_keeps node called.Full old new is = ap (λ (t : RunningCounts). t.past.null_pages) is
crumb_keeps node called.Unknown old new is = ap (λ (t : RunningCounts). t.past.null_pages) is
crumb_keeps node called.Spent old new is = ap (λ (t : RunningCounts). t.past.null_pages) is

pub trigger_keeps : (by : CallAnswer) (old new : PlainNodeClient) → new.tally ≡ if_full by with_refused_trigger old.tally → KeepsNulls old new
trigger_keeps called.Done old new is = ap (λ (t : RunningCounts). t.past.null_pages) is
trigger_keeps called.NoTrace old new is = ap (λ (t : RunningCounts). t.past.null_pages) is
trigger_keeps called.AlreadyOpen old new is = ap (λ (t : RunningCounts). t.past.null_pages) is
trigger_keeps called.TooWide old new is = ap (λ (t : RunningCounts). t.past.null_pages) is
trigger_keeps called.Full old new is = ap (λ (t : RunningCounts). t.past.null_pages) is
trigger_keeps called.Unknown old new is = ap (λ (t : RunningCounts). t.past.null_pages) is
trigger_keeps called.Spent old new is = ap (λ (t : RunningCounts). t.past.null_pages) is

late_by : (trace : TraceId) (state : SegmentState) (old new : PlainNodeClient) (counted : RunningCounts) → NotesLate trace state old counted new → new.tally.past.null_pages ≡ counted.past.null_pages
late_by trace state old new counted notes = elim (cases_lt (old.notebook.number + 2) (2 ^ 64)) [
  | inl low ↦ noted_keeps trace state _ old.notebook new.notebook counted new.tally (notes.noted low)
  | inr high ↦ ap (λ (t : RunningCounts). t.past.null_pages) (notes.spent high).1
]

pub led_keeps : (trace : TraceId) (state : SegmentState) (old new : PlainNodeClient) → NotesLate trace state old old.tally new → KeepsNulls old new
led_keeps trace state old new notes = late_by trace state old new old.tally notes

pub refused_keeps : (trace : TraceId) (state : SegmentState) (old new : PlainNodeClient) → NotesLate trace state old (with_refused_late old.tally) new → KeepsNulls old new
refused_keeps trace state old new notes = late_by trace state old new (with_refused_late old.tally) notes

pub end_keeps : (old new : PlainNodeClient) → answers.EndsBy old.live called.Done new.live → NotesEnd old new → KeepsNulls old new
end_keeps old new some ends = go old.live.core.trace some ends
  where
    go : (o : Option TraceId) → IsSome o
        → IfSome o (λ trace. NotesIt trace (Closed (segment_counts (nulls_of new.live.core) (length new.live.core.pages) old.tally)) (place_in new.live.core) old.notebook (closed old.tally) new.notebook new.tally)
        → KeepsNulls old new
    go None none notes = let never : false ≡ true = none in absurd cc
    go (Some trace) is notes = noted_keeps trace _ (place_in new.live.core) old.notebook new.notebook (closed old.tally) new.tally notes
