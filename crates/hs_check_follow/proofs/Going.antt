-- One operation more: where the client stands when it has gone on, and what was taken then.
use Rattle.std.proofs.Common.{◌≡◌, ℕ, ◌+◌, ◌<◌, ◌≤◌, Bool, false, List, [], ◌++◌, length, map, take, drop, sym, ap, subst, ◌∙◌, arith, length-append}
use Rattle.hs_check_follow.proofs.Prelude.{append-nil, length-map, IsTrue, replicate, ClientId, Crumb, Trigger, Draw, ReplayClientIsAt, WentOn, PlainReplayClient, pages_of, Operation, PlainSettings, AreBracketed, count_started, has_buffer, TimedPagesAreThePages, TimedPagesAreTimely, ChunksAreInOrder, ClientSends, Sent, sends_of, sent_chunks, sent_within, done_behind, timed_pages, Sheet, Gathering, Keeping, DrawScript, HasChunks, HasItems, IsSentBy, Where, AtChunk, AtCrumb, AtTrigger, chunks_at, crumbs_at, triggers_at, WereChunks, WereCrumbs, WereTriggers, count_within, starts_within, script_way}
use Rattle.std.proofs.lemmas.List.{length-take-le, take-append-drop}
use Rattle.hs_replay_client.specs.Places.{TellsBare}
use Rattle.hs_client.specs.Drawn.{drawn_pages, drawn_from}
use Rattle.hs_client.specs.Order.{CrumbsAreInOrder, TriggersAreInOrder}
use Rattle.hs_client.specs.SoFar.{FirstChunksAreSent, FirstOperationsSend, pages_within}
use Rattle.hs_check_follow.specs.Gathering.{AreChunks, AreCrumbs, AreTriggers}
use Rattle.hs_check_follow.proofs.Drawing.{drawn_more, kinds_left, kinds_more}
use Rattle.hs_check_follow.proofs.Queues.{none_more}
use Rattle.hs_check_follow.proofs.Scripted.{size_stays, left_falls}
use Rattle.hs_check_follow.proofs.Starts.{starts_more}
use Rattle.hs_check_follow.proofs.Taking.{chunks_ordered}

-- what is known of what clients send
pub record Sends : Type 0 where
  pub paged : TimedPagesAreThePages
  pub timely : TimedPagesAreTimely
  pub first : FirstOperationsSend
  pub chunks : FirstChunksAreSent

module _ (k : Sends) (settings : PlainSettings) (client : ClientId) (ops : List Operation) (draws : List Draw) (n : ℕ) (script : DrawScript) (player : PlainReplayClient) (g : Gathering)
    (s : IsSentBy settings client ops draws n script player g) (low : n < length ops) where
  abbrev size : ℕ
  size = settings.size

  bracketed : AreBracketed false ops
  bracketed = s.at.playable.client.bracketed

  -- what the first operations sent does not change by later draws
  same_chunks : (more : List Draw) → sent_within n (sends_of settings client ops (s.drawn ++ more)).chunks ≡ sent_within n (sends_of settings client ops s.drawn).chunks
  same_chunks more =
      subst (λ (d : List Draw). sent_within n (sends_of settings client ops (s.drawn ++ more)).chunks ≡ sent_within n (sends_of settings client ops d).chunks) (append-nil s.drawn) (at_front more ∙ sym (at_front []))
    where
      front : List Operation
      front = take n ops

      rest : List Operation
      rest = drop n ops

      whole : front ++ rest ≡ ops
      whole = take-append-drop n ops

      long : length front ≡ n
      long = length-take-le n ops (omega (arith, low))

      same_bracketed : AreBracketed false (front ++ rest)
      same_bracketed = subst (AreBracketed false) (sym whole) bracketed

      drawn_long : length s.drawn ≡ length (pages_of size front)
      drawn_long = s.at.each ∙ ap (λ m. count_started size ops m) (sym long) ∙ ap (λ (all : List Operation). count_started size all (length front)) (sym whole) ∙ (k.first size front rest s.at.playable.least same_bracketed).started

      at_front : (more : List Draw) → sent_within n (sent_chunks (drawn_pages size client ops (s.drawn ++ more))) ≡ sent_chunks (drawn_from client 0 (pages_within (length front) (timed_pages size (front ++ rest))) s.drawn)
      at_front more =
          ap (λ m. sent_within m (sent_chunks (drawn_pages size client ops (s.drawn ++ more)))) (sym long) ∙ ap (λ (all : List Operation). sent_within (length front) (sent_chunks (drawn_pages size client all (s.drawn ++ more)))) (sym whole)
          ∙ k.chunks size client front rest s.drawn more s.at.playable.least same_bracketed drawn_long

  module _ (script' : DrawScript) (player' : PlainReplayClient)
      (went :
      WentOn script_way settings client ops s.drawn (done_behind 1 n ops) (count_within n (sends_of settings client ops s.drawn).chunks) (count_within n (sends_of settings client ops s.drawn).crumbs)
      (count_within n (sends_of settings client ops s.drawn).triggers) script player' script') where
    abbrev drawn : List Draw
    drawn = s.drawn ++ went.more

    here : done_behind 1 n ops ≡ n + 1
    here = omega (arith, low)

    pub at_here :
        ReplayClientIsAt settings client ops drawn (n + 1) (count_within n (sends_of settings client ops drawn).chunks) (count_within n (sends_of settings client ops drawn).crumbs)
        (count_within n (sends_of settings client ops drawn).triggers) player'
    at_here =
        subst (λ c. ReplayClientIsAt settings client ops drawn (n + 1) c (count_within n (sends_of settings client ops drawn).crumbs) (count_within n (sends_of settings client ops drawn).triggers) player') (sym (ap length (same_chunks went.more)))
        (subst (λ d. ReplayClientIsAt settings client ops drawn d (count_within n (sends_of settings client ops s.drawn).chunks) (count_within n (sends_of settings client ops drawn).crumbs) (count_within n (sends_of settings client ops drawn).triggers) player') here went.at)

    -- ---- the three queues

    abbrev pub first : Where
    first = record { settings = settings; client = client; ops = ops; drawn = drawn; others = (count_within n (sends_of settings client ops drawn).crumbs, count_within n (sends_of settings client ops drawn).triggers) }

    pub were_chunks : WereChunks first n player' g.keeping g.found.chunks.items
    were_chunks = record { at = at_here; holds = subst (λ items. HasChunks size items g.keeping g.found.chunks.items) (sym (same_chunks went.more)) s.chunks }

    abbrev pub second : Where
    second = record { settings = settings; client = client; ops = ops; drawn = drawn; others = (count_within (n + 1) (sends_of settings client ops drawn).chunks, count_within n (sends_of settings client ops drawn).triggers) }

    abbrev pub third : Where
    third = record { settings = settings; client = client; ops = ops; drawn = drawn; others = (count_within (n + 1) (sends_of settings client ops drawn).chunks, count_within (n + 1) (sends_of settings client ops drawn).crumbs) }

    module _ (player1 : PlainReplayClient) (keeping : Keeping) (numbers : List ℕ) (chunks : AreChunks first n player1 keeping numbers) where
      pub were_crumbs : WereCrumbs second n player1 g.crumbs.items g.found.crumbs.items
      were_crumbs = record { at = chunks.at; holds = s.crumbs }

      module _ (player2 : PlainReplayClient) (crumbs : List Crumb) (crumb_numbers : List ℕ) (took : AreCrumbs second n player2 crumbs crumb_numbers) where
        pub were_triggers : WereTriggers third n player2 g.triggers.items g.found.triggers.items
        were_triggers = record { at = took.at; holds = s.triggers }

    -- ---- the pages that were started

    pub fewer : length script'.left.items ≤ length script.left.items
    fewer = left_falls went.more script script' went.draws

    drawn_long : length s.drawn + length went.more ≡ count_started size ops (n + 1)
    drawn_long = drawn_more settings client ops draws s.each s.drawn script s.kinds k.paged went.more script' went.draws (n + 1) _ _ _ player' at_here

    left_kinds : map has_buffer went.more ++ map has_buffer script'.left.items ≡ map has_buffer script.left.items
    left_kinds = kinds_left settings client ops draws s.each s.drawn script s.kinds k.paged went.more script' went.draws (n + 1) _ _ _ player' at_here

    pub kinds : map has_buffer drawn ++ map has_buffer script'.left.items ≡ map has_buffer draws
    kinds = kinds_more settings client ops draws s.each s.drawn script s.kinds k.paged went.more script' went.draws (n + 1) _ _ _ player' at_here

    pub starts_here : (started : List ℕ) (count : ℕ) → count + length script'.left.items ≡ length script.left.items → started ≡ g.found.started.items ++ replicate count n → started ≡ starts_within (n + 1) (timed_pages size ops)
    starts_here started count count_is is =
        let both = length-append (map has_buffer went.more) (map has_buffer script'.left.items) in
        let kinds = ap length left_kinds in
        let x = length-map went.more has_buffer in
        let y = length-map script'.left.items has_buffer in
        let z = length-map script.left.items has_buffer in
        let before = s.at.each in
        let after = drawn_long in
        let more : count_started size ops (n + 1) ≡ count_started size ops n + count = omega (arith, both, kinds, x, y, z, before, after, count_is) in
        is ∙ ap (λ (l : List ℕ). l ++ replicate count n) s.started ∙ sym (starts_more n 0 (length ops) (timed_pages size ops) count (k.timely size ops s.at.playable.least bracketed) more)

    -- ---- all of it

    pub sent_by : (player1 : PlainReplayClient) (g' : Gathering) → AreChunks first n player1 g'.keeping g'.found.chunks.items → (player2 : PlainReplayClient) → AreCrumbs second n player2 g'.crumbs.items g'.found.crumbs.items
        → (player3 : PlainReplayClient) → AreTriggers third n player3 g'.triggers.items g'.found.triggers.items → g'.found.started.items ≡ starts_within (n + 1) (timed_pages size ops) → IsSentBy settings client ops draws (n + 1) script' player3 g'
    sent_by player1 g' chunks player2 crumbs player3 triggers starts =
        record {
          each = s.each;
          drawn = drawn;
          kinds = kinds;
          size_is = size_stays went.more script script' went.draws ∙ s.size_is;
          at = triggers.at;
          chunks = chunks.holds;
          crumbs = crumbs.holds;
          triggers = triggers.holds;
          started = starts;
        }

    -- ---- where nothing was sent

    module _ (chunks_order : ChunksAreInOrder) (crumbs_order : CrumbsAreInOrder) (triggers_order : TriggersAreInOrder) (bare : Bool) (tells : TellsBare player' bare) (is_bare : IsTrue bare) where
      abbrev sends : ClientSends
      sends = sends_of settings client ops drawn

      all_gone : (count_within n sends.chunks ≡ count_within (n + 1) sends.chunks) × (count_within n sends.crumbs ≡ count_within (n + 1) sends.crumbs) × (count_within n sends.triggers ≡ count_within (n + 1) sends.triggers)
      all_gone = (tells settings client ops drawn (n + 1) (count_within n sends.chunks) (count_within n sends.crumbs) (count_within n sends.triggers) at_here).0 is_bare

      pub no_chunks : AreChunks first n player' g.keeping g.found.chunks.items
      no_chunks =
          let Holds = λ (items : List (Sent Sheet)). HasChunks size items g.keeping g.found.chunks.items in
          none_more (AtChunk first n) Holds (chunks_at first) n player' (chunks_ordered chunks_order first n player' were_chunks) were_chunks all_gone.0

      crumbs_were : WereCrumbs second n player' g.crumbs.items g.found.crumbs.items
      crumbs_were = were_crumbs player' g.keeping g.found.chunks.items no_chunks

      pub no_crumbs : AreCrumbs second n player' g.crumbs.items g.found.crumbs.items
      no_crumbs =
          let Holds = λ (items : List (Sent Crumb)). HasItems items g.crumbs.items g.found.crumbs.items in
          none_more (AtCrumb second n) Holds (crumbs_at second) n player' (crumbs_order ops) crumbs_were all_gone.1

      triggers_were : WereTriggers third n player' g.triggers.items g.found.triggers.items
      triggers_were = were_triggers player' g.keeping g.found.chunks.items no_chunks player' g.crumbs.items g.found.crumbs.items no_crumbs

      pub no_triggers : AreTriggers third n player' g.triggers.items g.found.triggers.items
      no_triggers =
          let Holds = λ (items : List (Sent Trigger)). HasItems items g.triggers.items g.found.triggers.items in
          none_more (AtTrigger third n) Holds (triggers_at third) n player' (triggers_order settings.autos ops) triggers_were all_gone.2
