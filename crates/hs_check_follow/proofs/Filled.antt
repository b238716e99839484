-- A client goes on until its next chunk is there: it is the next of those that it sends at the given draws.
use Rattle.std.proofs.Common.{◌≡◌, ℕ, ◌+◌, ◌<◌, ◌≤◌, Bool, true, false, List, ◌++◌, length, Option, Some, None, refl, sym, ap, subst, ◌∙◌, arith}
use Rattle.hs_check_follow.proofs.Prelude.{ltb-true, ltb-false, IsTrue, nat_lt, slice_get, MatchOption, ClientId, Crumb, Trigger, Draw, ReplayClientIsAt, WentOn, PlainReplayClient, Unleased, Operation, PlainSettings, TimedPagesAreThePages, TimedPagesAreTimely, sends_of, sent_within, AllChunksAreSent, done_behind, SecondPlay, DrawScript, IsSecondPlay, IsFilled, script_way}
use Rattle.std.specs.Prelude.{◌↔◌}
use Rattle.hs_replay_client.specs.Places.{IsChunkAt, TakesCrumb, TakesTrigger}
use Rattle.hs_check_follow.proofs.Drawing.{sent_there, kinds_more, none_there}
use Rattle.hs_check_follow.proofs.Scripted.{size_stays}

-- no operation is left
pub none_left : (left : Bool) (done all : ℕ) → IsTrue left ↔ (done < all) → left ≡ false → done ≤ all → done ≡ all
none_left left done all tells none within = either (nat_lt done all) refl
  where
    either : (b : Bool) → nat_lt done all ≡ b → done ≡ all
    either true e = let never : true ≡ false = sym (tells.1 (ltb-true done all e)) ∙ none in absurd cc
    either false e = let high = ltb-false done all e in omega (arith, high, within)

module _ (settings : PlainSettings) (client : ClientId) (ops : List Operation) (draws : List Draw) (k : ℕ) (f : SecondPlay) (is : IsSecondPlay settings client ops draws k f) where
  -- ---- one operation more

  abbrev Went : DrawScript → PlainReplayClient → Type 0
  Went script player = WentOn script_way settings client ops is.drawn (done_behind 1 is.done ops) k is.l is.m f.script player script

  module _ (script : DrawScript) (player : PlainReplayClient) (went : Went script player) where
    abbrev drawn : List Draw
    drawn = is.drawn ++ went.more

    abbrev done : ℕ
    done = done_behind 1 is.done ops

    abbrev At : ℕ → ℕ → PlainReplayClient → Type 0
    At l m player = ReplayClientIsAt settings client ops drawn done k l m player

    behind_crumb : (l m : ℕ) (old : PlainReplayClient) (answer : Option Crumb) (new : PlainReplayClient) → At l m old → TakesCrumb old answer new → (n : ℕ) × At n m new
    behind_crumb l m old None new at takes = let h = takes settings client ops drawn done k l m at in (l, h.1)
    behind_crumb l m old (Some crumb) new at takes = let h = takes settings client ops drawn done k l m at in (l + 1, h.1)

    behind_trigger : (l m : ℕ) (old : PlainReplayClient) (answer : Option Trigger) (new : PlainReplayClient) → At l m old → TakesTrigger old answer new → (n : ℕ) × At l n new
    behind_trigger l m old None new at takes = let h = takes settings client ops drawn done k l m at in (m, h.1)
    behind_trigger l m old (Some trigger) new at takes = let h = takes settings client ops drawn done k l m at in (m + 1, h.1)

    -- nothing was sent
    pub done_quiet : player.done ≡ done_behind 1 is.done ops
    done_quiet = went.at.done_is

    pub plays_quiet : TimedPagesAreThePages → IsSecondPlay settings client ops draws k (record { script = script; player = player })
    plays_quiet paged =
        record {
          each = is.each;
          drawn = drawn;
          kinds = kinds_more settings client ops draws is.each is.drawn f.script is.kinds paged went.more script went.draws done k is.l is.m player went.at;
          size_is = size_stays went.more f.script script went.draws ∙ is.size_is;
          done = done;
          l = is.l;
          m = is.m;
          at = went.at;
        }

    module _ (crumb : Option Crumb) (player1 : PlainReplayClient) (takes : TakesCrumb player crumb player1) (trigger : Option Trigger) (player2 : PlainReplayClient) (takes' : TakesTrigger player1 trigger player2) where
      first : (n : ℕ) × At n is.m player1
      first = behind_crumb is.l is.m player crumb player1 went.at takes

      second : (n : ℕ) × At first.0 n player2
      second = behind_trigger first.0 is.m player1 trigger player2 first.1 takes'

      pub done_more : player2.done ≡ done_behind 1 is.done ops
      done_more = second.1.done_is

      pub plays_on : TimedPagesAreThePages → IsSecondPlay settings client ops draws k (record { script = script; player = player2 })
      plays_on paged =
          record {
            each = is.each;
            drawn = drawn;
            kinds = kinds_more settings client ops draws is.each is.drawn f.script is.kinds paged went.more script went.draws done k is.l is.m player went.at;
            size_is = size_stays went.more f.script script went.draws ∙ is.size_is;
            done = done;
            l = first.0;
            m = second.0;
            at = second.1;
          }

  -- ---- where a chunk is asked for

  module _ (player : PlainReplayClient) where
    abbrev with_player : SecondPlay
    with_player = record { script = f.script; player = player }

    stays : (n : ℕ) → ReplayClientIsAt settings client ops is.drawn is.done n is.l is.m player → IsSecondPlay settings client ops draws n with_player
    stays n at =
        record {
          each = is.each;
          drawn = is.drawn;
          kinds = is.kinds;
          size_is = is.size_is;
          done = is.done;
          l = is.l;
          m = is.m;
          at = at;
        }

    pub waits : ReplayClientIsAt settings client ops is.drawn is.done k is.l is.m player → IsSecondPlay settings client ops draws k with_player
    waits at = stays k at

    pub filled : (buffer : Unleased) → IsChunkAt settings client ops is.drawn is.done k buffer.chunk → ReplayClientIsAt settings client ops is.drawn is.done (k + 1) is.l is.m player
        → IsFilled settings client ops draws k buffer.chunk × IsSecondPlay settings client ops draws (k + 1) with_player
    filled buffer chunk at = (
      record {
        item = chunk.item;
        next = sent_there settings client ops draws is.each is.drawn f.script is.kinds k chunk.item chunk.next;
        page = chunk.sheet;
        size = chunk.size;
      },
      stays (k + 1) at,
    )

    -- all operations are done
    pub filled_last : TimedPagesAreThePages → TimedPagesAreTimely → AllChunksAreSent → is.done ≡ length ops → (answer : Option Unleased)
        → MatchOption answer ((k ≡ length (sent_within is.done (sends_of settings client ops is.drawn).chunks)) × ReplayClientIsAt settings client ops is.drawn is.done k is.l is.m player)
        (λ buffer. IsChunkAt settings client ops is.drawn is.done k buffer.chunk × ReplayClientIsAt settings client ops is.drawn is.done (k + 1) is.l is.m player)
        → MatchOption answer ((slice_get (sends_of settings client ops draws).chunks k ≡ None) × IsSecondPlay settings client ops draws k with_player)
        (λ buffer. IsFilled settings client ops draws k buffer.chunk × IsSecondPlay settings client ops draws (k + 1) with_player)
    filled_last paged timely all last (Some buffer) took = filled buffer took.0 took.1
    filled_last paged timely all last None took =
        let at = subst (λ n. ReplayClientIsAt settings client ops is.drawn n k is.l is.m player) last took.1 in
        let none = took.0 ∙ ap (λ n. length (sent_within n (sends_of settings client ops is.drawn).chunks)) last in
        (none_there settings client ops draws is.each is.drawn f.script is.kinds paged timely all k is.l is.m player at none, stays k took.1)
