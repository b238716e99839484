-- Agents take enough asks where the counts of asks and of messages say so.
use Rattle.std.proofs.Common.{◌≡◌, ℕ, zero, suc, ◌+◌, ◌-◌, ◌<◌, ◌≤◌, Bool, true, leb, min, List, [], ◌∷◌, ◌++◌, length, map, take, drop, get_or, refl, sym, ap, ◌∙◌, arith}
use Rattle.hs_check.proofs.Prelude.{count_by, ◌&&◌, range_with_len, list_all, length-map-range_with_len, count_cons, NodeId, MAX_TAKEN, NodeSet, Message, Messages, Step, PlainJournal, is_followed, RunsAreOfTheJournal, NodeRun, Run, log_at, followed, FollowingPlaysOut, asks_in_pace, said_in, passes_of, played, PlainSettings, PlainWorkload, FoundNode, AreFound, IsFoundNode, known_at, found_counted, nodes_counted, heard_for, most_passes, asks_behind_each, ask_enough_at, all_ask_enough, one_more, behind_each, is_of}
use Rattle.std.proofs.Math.Nat.{min_comm}
use Rattle.hs_base.specs.NodeSets.{has_node}
use Rattle.hs_law_journal.specs.Following.{Asks, asks_to}
use Rattle.hs_law_journal.specs.Pace.{asks_enough}
use Rattle.hs_law_journal.specs.Passes.{taken_in}
use Rattle.hs_check_follow.specs.declared.found.Found.{Found}
use Rattle.hs_check_follow.specs.Finding.{AreAsked, IsFound}
use Rattle.hs_check_follow.proofs.Knowing.{asks_counted, heard_is_told}
use Rattle.hs_check.specs.declared.kinds.Kind.TheVariants as kinds
use Rattle.hs_check.proofs.Firsts.{first_of, first_le}
use Rattle.hs_check.proofs.Heard.{heard_is, all_heard, most_is}
use Rattle.hs_check.proofs.Passing.{more_is, all_congr, counts_at, counts_many}

-- ---- asks by messages

asks_at : (i count n : ℕ) (asked : List NodeSet) → n ≤ length asked → get_or (count ∷ asks_behind_each i count asked) n 0 ≡ count + count_by (λ (to : NodeSet). has_node to i) (take n asked)
asks_at i count zero asked few = omega arith
asks_at i count (suc n) [] few = absurd (omega arith)
asks_at i count (suc n) (to ∷ asked) few =
    let next = one_more (has_node to i) count in
    let more = more_is (has_node to i) count in
    let one = count_cons (λ (to : NodeSet). has_node to i) to (take n asked) in
    let rest = asks_at i next n asked (omega arith) in
    omega (arith, more, one, rest)

asked_few : (nodes : ℕ) (before later : Messages) (asked : List NodeSet) → AreAsked nodes before later asked → length asked ≡ length later
asked_few nodes before [] [] all = refl
asked_few nodes before [] (to ∷ asked) all = absurd all
asked_few nodes before (m ∷ later) [] all = absurd all
asked_few nodes before (m ∷ later) (to ∷ asked) all = ap suc (asked_few nodes (before ++ m ∷ []) later asked all.1)

asked_front : (nodes n : ℕ) (before later : Messages) (asked : List NodeSet) → AreAsked nodes before later asked → AreAsked nodes before (take n later) (take n asked)
asked_front nodes zero before later asked all = tt
asked_front nodes (suc n) before [] [] all = tt
asked_front nodes (suc n) before [] (to ∷ asked) all = absurd all
asked_front nodes (suc n) before (m ∷ later) [] all = absurd all
asked_front nodes (suc n) before (m ∷ later) (to ∷ asked) all = (all.0, asked_front nodes n (before ++ m ∷ []) later asked all.1)

sent_is : (nodes i n : ℕ) (heard : Messages) (asked : List NodeSet) → i < nodes → n ≤ length heard → AreAsked nodes [] heard asked
    → get_or (0 ∷ asks_behind_each i 0 asked) n 0 ≡ length (asks_to i (take n heard))
sent_is nodes i n heard asked low few all =
    let many = asked_few nodes [] heard asked all in
    let e = asks_at i 0 n asked (omega (arith, many, few)) in
    let f = asks_counted nodes i [] (take n heard) (take n asked) low (asked_front nodes n [] heard asked all) in
    omega (arith, e, f)

-- ---- one pass more

pub enough_more : (taken sent heard : List ℕ) (pass : ℕ) (whole : Bool) → pass < length taken - 1 → ask_enough_at taken sent heard pass ≡ true
    → list_all (ask_enough_at taken sent heard) (range_with_len pass (length taken - (pass + 1))) ≡ whole → list_all (ask_enough_at taken sent heard) (range_with_len (pass + 1) (length taken - (pass + 1 + 1))) ≡ whole
enough_more taken sent heard pass whole low enough is =
    let next : length taken - (pass + 1) ≡ suc (length taken - (pass + 1 + 1)) = omega arith in
    sym (ap (λ b. b && list_all (ask_enough_at taken sent heard) (range_with_len (pass + 1) (length taken - (pass + 1 + 1)))) enough) ∙ sym (ap (λ n. list_all (ask_enough_at taken sent heard) (range_with_len pass n)) next) ∙ is

-- ---- a node

module _ (settings : PlainSettings) (run : Run) (founds : List FoundNode) (asked : List NodeSet) (all : AreFound (IsFoundNode settings) run.nodes founds)
    (numbers : map (λ (node : NodeRun). node.node) run.nodes ≡ range_with_len 0 (length run.nodes)) (sends : AreAsked settings.nodes [] run.heard asked) where
  pub asks_are : (i : ℕ) (node : NodeRun) (log : List Step) (heard : List ℕ) → i < settings.nodes → node.node ≡ i → node.state.log ≡ log → length (passes_of log) ≤ length heard
      → ((pass : ℕ) → pass < length heard → get_or heard pass 0 ≡ heard_for (map (λ (m : Message). m.node) run.heard) pass 0 founds)
      → all_ask_enough (0 ∷ behind_each (is_of kinds.Asks) 0 log) (0 ∷ asks_behind_each i 0 asked) heard ≡ asks_in_pace settings run node
  asks_are i node log heard low number same few each =
      let taken : List ℕ = 0 ∷ behind_each (is_of kinds.Asks) 0 log in
      let sent : List ℕ = 0 ∷ asks_behind_each i 0 asked in
      let passes = passes_of log in
      let count = counts_many (is_of kinds.Asks) log in
      let inner : length taken - 2 ≡ length passes - 1 = omega (arith, count) in
      ap (λ n. list_all (ask_enough_at taken sent heard) (range_with_len 1 n)) inner
      ∙ all_congr (ask_enough_at taken sent heard) (asks_enough settings run node passes) 1 (length passes - 1) (λ k least high. at k least (omega (arith, least, high)))
      ∙ sym (ap (λ (l : List Step). list_all (asks_enough settings run node (passes_of l)) (range_with_len 1 (length (passes_of l) - 1))) same)
    where
      at : (k : ℕ) → 1 ≤ k → k < length (passes_of log) → ask_enough_at (0 ∷ behind_each (is_of kinds.Asks) 0 log) (0 ∷ asks_behind_each i 0 asked) heard k ≡ asks_enough settings run node (passes_of log) k
      at k least high =
          let taken : List ℕ = 0 ∷ behind_each (is_of kinds.Asks) 0 log in
          let sent : List ℕ = 0 ∷ asks_behind_each i 0 asked in
          let passes = passes_of log in
          let hears = first_of (all_heard settings run.heard k run.nodes) (length run.heard) in
          let hear : get_or heard (k - 1) 0 ≡ hears = each (k - 1) (omega (arith, high, few, least)) ∙ sym (heard_is settings run.heard k 0 run.nodes founds all numbers) in
          let send : get_or sent (get_or heard (k - 1) 0) 0 ≡ length (asks_to node.node (take hears run.heard)) =
          ap (λ n. get_or sent n 0) hear ∙ sent_is settings.nodes i hears run.heard asked low (first_le (all_heard settings run.heard k run.nodes) (length run.heard)) sends
          ∙ sym (ap (λ n. length (asks_to n (take hears run.heard))) number) in
          let before : get_or taken k 0 ≡ taken_in passes Asks k = counts_at (is_of kinds.Asks) log k (omega (arith, high)) in
          let behind : get_or taken (k + 1) 0 ≡ taken_in passes Asks (k + 1) = counts_at (is_of kinds.Asks) log (k + 1) (omega (arith, high)) in
          ap (λ n. leb (min (n - get_or taken k 0) MAX_TAKEN) (get_or taken (k + 1) 0 - get_or taken k 0)) send
          ∙ ap (λ n. leb (min (length (asks_to node.node (take hears run.heard)) - n) MAX_TAKEN) (get_or taken (k + 1) 0 - n)) before
          ∙ ap (λ n. leb (min (length (asks_to node.node (take hears run.heard)) - taken_in passes Asks k) MAX_TAKEN) (n - taken_in passes Asks k)) behind
          ∙ ap (λ n. leb n (taken_in passes Asks (k + 1) - taken_in passes Asks k)) (min_comm (length (asks_to node.node (take hears run.heard)) - taken_in passes Asks k) MAX_TAKEN)

-- ---- any node

-- what stands at a place
some_at : {A : Type 0} (xs : List A) (i : ℕ) → i < length xs → (x : A) × (x ≡ get_or xs i x)
some_at [] i less = absurd (omega arith)
some_at (x ∷ xs) zero less = (x, refl)
some_at (x ∷ xs) (suc i) less = some_at xs i (omega arith)

-- an answer at a node of a journal
pub record Answers (W : PlainWorkload) (J : PlainJournal) (i : ℕ) (result : Bool) : Type 0 where
  pub run : NodeRun
  pub here : drop i (followed W J).nodes ≡ run ∷ drop (i + 1) (followed W J).nodes
  pub is : result ≡ asks_in_pace W.settings (followed W J) run

module _ (W : PlainWorkload) (J : PlainJournal) (found : Found) (plays : FollowingPlaysOut) (runs : RunsAreOfTheJournal) (done : is_followed (played W J) ≡ true) (is : IsFound W.settings (followed W J) found) where
  -- the answer at a node is that of what was found there
  pub node_asks : (i : ℕ) (log : List Step) (heard : List ℕ) (result : Bool) → i < length found.nodes.items → log ≡ log_at J i
      → length heard ≡ most_passes found.nodes.items → ((pass : ℕ) → pass < most_passes found.nodes.items → get_or heard pass 0 ≡ heard_for J.told pass 0 found.nodes.items)
      → result ≡ all_ask_enough (0 ∷ behind_each (is_of kinds.Asks) 0 log) (0 ∷ asks_behind_each i 0 found.asked.items) heard → Answers W J i result
  node_asks i log heard result less same count each answer =
      let R = followed W J in
      let f = (some_at found.nodes.items i less).0 in
      let here = (some_at found.nodes.items i less).1 in
      let k = known_at W J found plays runs done is i f less here in
      let of = runs W J R (plays W J).leads in
      let many = nodes_counted W J found plays runs done is in
      let founds = found_counted W J found plays runs done is in
      let told = heard_is_told W J found plays runs done is in
      let passes : length f.said.items ≡ length (passes_of log) =
      ap length k.is.said ∙ length-map-range_with_len (said_in W.settings k.run) 1 (length (passes_of k.run.state.log)) ∙ ap (λ (l : List Step). length (passes_of l)) (k.log ∙ sym same) in
      let most = most_is found.nodes.items i f less here in
      record {
        run = k.run;
        here = k.here;
        is = answer ∙ asks_are W.settings R found.nodes.items found.asked.items is.nodes (of.numbers ∙ ap (range_with_len 0) (sym many)) is.asked i k.run log heard (omega (arith, less, founds)) k.node (k.log ∙ sym same)
            (omega (arith, passes, most, count))
            (λ pass low. each pass (omega (arith, low, count)) ∙ sym (ap (λ (l : List NodeId). heard_for l pass 0 found.nodes.items) told));
      }
