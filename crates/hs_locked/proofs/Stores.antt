-- What the store says of the deeds, and how it goes on.
use Rattle.std.proofs.Common.{◌≡◌, ℕ, List, [], ◌∷◌, length, reverse, refl, sym, ap, ◌∙◌, subst, arith}
use Rattle.hs_locked.proofs.Prelude.{PoolEvent, Got, Empty, Given, Deed, events_of, is_any_got, queue_of, Tally, Plan, IsAfter, waiting, Store, GoesOn, StoreOk}
use lib.ListN.{length-map}
use Rattle.std.proofs.lemmas.List.{length-reverse, reverse-append, reverse-reverse}
use Rattle.hs_base.proofs.Counts.{count_cons as counted}
use Rattle.hs_words.specs.PoolHistory.{Missed, is_empty, is_missed, queue_after, IsHistoryBack}
use Rattle.hs_words.specs.Ends.{event_in, is_any_given, Counts}
use Rattle.hs_words.proofs.Deeds.{stamp_is}
use Rattle.hs_words.proofs.Waiting.{drawn_kinds, given_kinds}
use Rattle.hs_locked.specs.Stored.{with_one, IsCounted}

module _ (plan : Plan) (log : List Deed) (store : Store) (ok : StoreOk plan log store) where
  back : reverse (reverse (events_of log)) ≡ events_of log
  back = reverse-reverse (events_of log)

  pub events_are : store.pool.events ≡ length log
  events_are = ok.after.events ∙ length-reverse (events_of log) ∙ length-map log event_in

  pub lawful : IsHistoryBack plan.buffers (events_of log)
  lawful = subst (λ (l : List PoolEvent). IsHistoryBack plan.buffers l) back (subst (λ (n : ℕ). IsHistoryBack n (reverse (reverse (events_of log)))) ok.buffers ok.after.lawful)

  pub line : waiting store.pool ≡ queue_of plan.buffers log
  line = ok.after.queue ∙ ap (λ (l : List PoolEvent). queue_after store.pool.buffers l) back ∙ ap (λ (n : ℕ). queue_after n (events_of log)) ok.buffers

  pub is_counted : IsCounted store
  is_counted =
      record {
        each =
            (let e = events_are in
            let s = stamp_is log in
            let d = drawn_kinds log in
            let g = given_kinds log in
            let a = ok.counted.gots in
            let b = ok.counted.empties in
            let c = ok.counted.gives in
            let m = ok.counted.misses in
            let none = ok.none_missed in
            omega arith);
        none_missed = ok.none_missed;
      }

-- the tally counts one deed more
counts_more : (log : List Deed) (deed : Deed) (tally : Tally) → Counts log tally → Counts (deed ∷ log) (with_one deed.event tally)
counts_more log deed tally c = go deed.event refl
  where
    go : (event : PoolEvent) → event ≡ deed.event → Counts (deed ∷ log) (with_one deed.event tally)
    go (Got buffer) is =
        let F : PoolEvent → Type 0 = λ e. Counts (record { by = deed.by; event = e; draw = deed.draw } ∷ log) (with_one e tally) in
        subst F is record {
          gots = (let n = counted is_any_got (Got buffer) (events_of log) in let b = c.gots in omega arith);
          empties = (let n = counted is_empty (Got buffer) (events_of log) in let b = c.empties in omega arith);
          gives = (let n = counted is_any_given (Got buffer) (events_of log) in let b = c.gives in omega arith);
          misses = (let n = counted is_missed (Got buffer) (events_of log) in let b = c.misses in omega arith);
        }
    go Empty is =
        let F : PoolEvent → Type 0 = λ e. Counts (record { by = deed.by; event = e; draw = deed.draw } ∷ log) (with_one e tally) in
        subst F is record {
          gots = (let n = counted is_any_got Empty (events_of log) in let b = c.gots in omega arith);
          empties = (let n = counted is_empty Empty (events_of log) in let b = c.empties in omega arith);
          gives = (let n = counted is_any_given Empty (events_of log) in let b = c.gives in omega arith);
          misses = (let n = counted is_missed Empty (events_of log) in let b = c.misses in omega arith);
        }
    go (Given buffer) is =
        let F : PoolEvent → Type 0 = λ e. Counts (record { by = deed.by; event = e; draw = deed.draw } ∷ log) (with_one e tally) in
        subst F is record {
          gots = (let n = counted is_any_got (Given buffer) (events_of log) in let b = c.gots in omega arith);
          empties = (let n = counted is_empty (Given buffer) (events_of log) in let b = c.empties in omega arith);
          gives = (let n = counted is_any_given (Given buffer) (events_of log) in let b = c.gives in omega arith);
          misses = (let n = counted is_missed (Given buffer) (events_of log) in let b = c.misses in omega arith);
        }
    go Missed is =
        let F : PoolEvent → Type 0 = λ e. Counts (record { by = deed.by; event = e; draw = deed.draw } ∷ log) (with_one e tally) in
        subst F is record {
          gots = (let n = counted is_any_got Missed (events_of log) in let b = c.gots in omega arith);
          empties = (let n = counted is_empty Missed (events_of log) in let b = c.empties in omega arith);
          gives = (let n = counted is_any_given Missed (events_of log) in let b = c.gives in omega arith);
          misses = (let n = counted is_missed Missed (events_of log) in let b = c.misses in omega arith);
        }

-- the store after one event more
pub goes : (plan : Plan) (log : List Deed) (old new : Store) (deed : Deed) → StoreOk plan log old → GoesOn plan.size old deed.event new → (with_one deed.event old.tally).misses ≡ old.tally.misses → StoreOk plan (deed ∷ log) new
goes plan log old new deed ok g no_miss =
    record {
      buffers = g.buffers ∙ ok.buffers;
      after = subst (λ (l : List PoolEvent). IsAfter l new.pool) (sym (reverse-append (deed.event ∷ []) (events_of log))) (g.after (reverse (events_of log)) ok.after);
      sized = g.sized;
      counted = subst (Counts (deed ∷ log)) (sym g.tally) (counts_more log deed old.tally ok.counted);
      none_missed = ap (λ (t : Tally). t.misses) g.tally ∙ no_miss ∙ ok.none_missed;
    }
