-- What is known of each node of a journal that can be followed: its log and its clients are the journal's, and what was found is its own.
use Rattle.std.proofs.Common.{◌≡◌, ℕ, zero, suc, ◌+◌, ◌<◌, ◌≤◌, Bool, true, false, cond, eqb, List, [], ◌∷◌, ◌++◌, length, map, drop, get_or, Option, Some, None, refl, sym, ap, ◌∙◌, subst, inl, inr, ◌⊎◌, arith}
use Rattle.hs_check_follow.proofs.Prelude.{slice_get, option_map, count_by, ◌&&◌, list_all, AllByRecursion, option_and_then, and_parts, eqb-true, append_assoc, append-nil, map-append, length-map, nil_from_length, length-range_with_len, one_if, all_at, NodeId, NodeSet, has_node, Message, PlainJournal, PlainSettings, PlainWorkload, node_sends, is_followed, RunsAreOfTheJournal, NodeRun, log_at, run_start, followed, is_from, asks_to, FollowingPlaysOut, played, Found, FoundNode, AreFound, IsFoundNode, IsFound}
use Rattle.std.proofs.lemmas.List.{length-append}
use Rattle.std.proofs.lemmas.List.Sums.{sum_by-cons}
use Rattle.hs_base.proofs.Ranges.{range_found}
use Rattle.hs_base.proofs.Places.{get_map}
use Rattle.hs_base.proofs.Tests.{list_all_at}
use Rattle.hs_base.specs.declared.told.Ask.{Ask}
use Rattle.hs_base.specs.declared.told.Told.{Told}
use Rattle.hs_coord.specs.Following.{Messages, message, first_of, is_newly_asked}
use Rattle.hs_law_journal.specs.Extending.{IsOfJournal, NodesAreOfJournal}
use Rattle.hs_law_journal.specs.Following.{Run, message_of, hear, ask_by, asks_behind}
use Rattle.hs_law_journal.specs.Orders.{Performs, StepsNode, Leads, Stays, Goes}
use Rattle.hs_check_follow.specs.Finding.{AreAsked}

-- ---- one for one

pub found_as_many : {A B : Type 0} (IsOf : A → B → Type 0) (xs : List A) (founds : List B) → AreFound IsOf xs founds → length xs ≡ length founds
found_as_many IsOf [] [] all = refl
found_as_many IsOf [] (f ∷ founds) all = absurd all
found_as_many IsOf (x ∷ xs) [] all = absurd all
found_as_many IsOf (x ∷ xs) (f ∷ founds) all = ap suc (found_as_many IsOf xs founds all.1)

-- what was found at a place is found of what stands there
pub record FoundAt {A B : Type 0} (IsOf : A → B → Type 0) (xs : List A) (i : ℕ) (f : B) : Type 0 where
  pub of : A
  pub here : drop i xs ≡ of ∷ drop (i + 1) xs
  pub at : slice_get xs i ≡ Some of
  pub is : IsOf of f

pub found_at : {A B : Type 0} (IsOf : A → B → Type 0) (xs : List A) (founds : List B) (i : ℕ) (f : B) → AreFound IsOf xs founds → i < length founds → f ≡ get_or founds i f → FoundAt IsOf xs i f
found_at IsOf [] [] i f all less is = absurd (omega arith)
found_at IsOf [] (g ∷ founds) i f all less is = absurd all
found_at IsOf (x ∷ xs) [] i f all less is = absurd all
found_at IsOf (x ∷ xs) (g ∷ founds) zero f all less is = record { of = x; here = refl; at = refl; is = subst (IsOf x) (sym is) all.0 }
found_at IsOf (x ∷ xs) (g ∷ founds) (suc i) f all less is =
    let h = found_at IsOf xs founds i f all.1 (omega arith) is in
    let more : suc i + 1 ≡ suc (i + 1) = omega arith in
    record { of = h.of; here = h.here ∙ sym (ap (λ k. h.of ∷ drop k (x ∷ xs)) more); at = h.at; is = h.is }

-- ---- what the coordinator heard

-- what was heard and what is left are what was told
hears_told : (run next : Run) (left : List NodeId) → run.left ≡ left → hear run left ≡ Some next → map (λ (m : Message). m.node) next.heard ++ next.left ≡ map (λ (m : Message). m.node) run.heard ++ run.left
hears_told run next [] is h = let none : None ≡ Some next = h in absurd cc
hears_told run next (node ∷ rest) is h =
    at (slice_get run.nodes node.0) h
  where
    heard_by : (m : Message) → m.node ≡ node → Some (record run { left = rest; heard = run.heard ++ m ∷ [] }) ≡ Some next → map (λ (m : Message). m.node) next.heard ++ next.left ≡ map (λ (m : Message). m.node) run.heard ++ run.left
    heard_by m from h =
        let now : Run = record run { left = rest; heard = run.heard ++ m ∷ [] } in
        let same : now ≡ next = cc in
        sym (ap (λ (r : Run). map (λ (m : Message). m.node) r.heard ++ r.left) same)
        ∙ ap (λ (l : List NodeId). l ++ rest) (map-append (λ (m : Message). m.node) run.heard (m ∷ []))
        ∙ append_assoc (map (λ (m : Message). m.node) run.heard) (m.node ∷ []) rest
        ∙ ap (λ n. map (λ (m : Message). m.node) run.heard ++ n ∷ rest) from
        ∙ sym (ap (λ (l : List NodeId). map (λ (m : Message). m.node) run.heard ++ l) is)

    said_at : (o : Option Told) → option_map (λ m. record run { left = rest; heard = run.heard ++ m ∷ [] }) (option_map (message node) o) ≡ Some next → map (λ (m : Message). m.node) next.heard ++ next.left ≡ map (λ (m : Message). m.node) run.heard ++ run.left
    said_at (Some told) h = heard_by (message node told) refl h
    said_at None h = let none : None ≡ Some next = h in absurd cc

    at : (o : Option NodeRun)
        → option_map (λ m. record run { left = rest; heard = run.heard ++ m ∷ [] }) (option_and_then (λ (r : NodeRun). option_map (message node) (slice_get r.state.said (count_by (is_from node) run.heard))) o) ≡ Some next
        → map (λ (m : Message). m.node) next.heard ++ next.left ≡ map (λ (m : Message). m.node) run.heard ++ run.left
    at (Some r) h = said_at (slice_get r.state.said (count_by (is_from node) run.heard)) h
    at None h = let none : None ≡ Some next = h in absurd cc

leads_told : (settings : PlainSettings) (run last : Run) → Leads settings run last → map (λ (m : Message). m.node) last.heard ++ last.left ≡ map (λ (m : Message). m.node) run.heard ++ run.left
leads_told settings run last (Stays r) = refl
leads_told settings run last (Goes r next l p leads) = leads_told settings next last leads ∙ performed run next p
  where
    performed : (run next : Run) → Performs settings run next → map (λ (m : Message). m.node) next.heard ++ next.left ≡ map (λ (m : Message). m.node) run.heard ++ run.left
    performed run next (inl step) = ap (λ (r : Run). map (λ (m : Message). m.node) r.heard ++ r.left) step.result
    performed run next (inr heard) = hears_told run next run.left refl heard

-- ---- asks

pub asks_counted : (nodes node : ℕ) (before later : Messages) (asked : List NodeSet) → node < nodes → AreAsked nodes before later asked → count_by (λ to. has_node to node) asked ≡ length (asks_behind node before later)
asks_counted nodes node before [] [] low all = refl
asks_counted nodes node before [] (to ∷ asked) low all = absurd all
asks_counted nodes node before (m ∷ later) [] low all = absurd all
asks_counted nodes node before (m ∷ later) (to ∷ asked) low all =
    let count = sum_by-cons (λ to. cond (has_node to node) 1 0) to asked in
    let rest = asks_counted nodes node (before ++ m ∷ []) later asked low all.1 in
    let both = length-append (ask_by node before m) (asks_behind node (before ++ m ∷ []) later) in
    let one = one_by (record { group = (first_of before m).told.group; laterals = (first_of before m).told.laterals }) (is_newly_asked before m node) in
    let same = ap one_if (all.0 node low) in
    omega (arith, count, rest, both, one, same)
  where
    one_by : (ask : Ask) (b : Bool) → length (cond b (ask ∷ []) []) ≡ one_if b
    one_by ask true = refl
    one_by ask false = refl

-- ---- a node

-- a node, and what was found of it
pub record KnownAt (W : PlainWorkload) (J : PlainJournal) (i : ℕ) (found : FoundNode) : Type 0 where
  pub run : NodeRun
  pub here : drop i (followed W J).nodes ≡ run ∷ drop (i + 1) (followed W J).nodes
  pub at : slice_get (followed W J).nodes i ≡ Some run
  pub node : run.node ≡ i
  pub sends : run.sends ≡ node_sends W J i
  pub log : run.state.log ≡ log_at J i
  pub is : IsFoundNode W.settings run found

module _ (W : PlainWorkload) (J : PlainJournal) (found : Found) (plays : FollowingPlaysOut) (runs : RunsAreOfTheJournal) (done : is_followed (played W J) ≡ true) (is : IsFound W.settings (followed W J) found) where
  done_parts : (list_all (λ (node : NodeRun). eqb (length node.left) 0) (followed W J).nodes ≡ true) × (eqb (length (followed W J).left) 0 ≡ true)
  done_parts = and_parts (list_all (λ (node : NodeRun). eqb (length node.left) 0) (followed W J).nodes) (eqb (length (followed W J).left) 0) done

  pub nodes_counted : length (followed W J).nodes ≡ W.settings.nodes
  nodes_counted =
      let numbers = ap length (runs W J (followed W J) (plays W J).leads).numbers in
      sym (length-map (followed W J).nodes (λ (node : NodeRun). node.node)) ∙ numbers ∙ length-range_with_len 0 W.settings.nodes

  pub found_counted : length found.nodes.items ≡ W.settings.nodes
  found_counted = sym (found_as_many (IsFoundNode W.settings) (followed W J).nodes found.nodes.items is.nodes) ∙ nodes_counted

  -- all that was told was heard
  pub heard_is_told : map (λ (m : Message). m.node) (followed W J).heard ≡ J.told
  heard_is_told =
      let none = nil_from_length (followed W J).left (eqb-true (length (followed W J).left) 0 done_parts.1) in
      sym (append-nil (map (λ (m : Message). m.node) (followed W J).heard))
      ∙ sym (ap (λ (l : List NodeId). map (λ (m : Message). m.node) (followed W J).heard ++ l) none)
      ∙ leads_told W.settings (run_start W J) (followed W J) (plays W J).leads

  pub known_at : (i : ℕ) (f : FoundNode) → i < length found.nodes.items → f ≡ get_or found.nodes.items i f → KnownAt W J i f
  known_at i f less there =
      let h = found_at (IsFoundNode W.settings) (followed W J).nodes found.nodes.items i f is.nodes less there in
      let of = runs W J (followed W J) (plays W J).leads in
      let mine = all_at (IsOfJournal W J) (followed W J).nodes i h.of of.each h.at in
      let numbered = get_map (λ (node : NodeRun). node.node) (followed W J).nodes i h.of h.at in
      let number : h.of.node ≡ i = range_found 0 W.settings.nodes i h.of.node (sym (ap (λ (l : List ℕ). slice_get l i) of.numbers) ∙ numbered) ∙ omega arith in
      let through = list_all_at (λ (node : NodeRun). eqb (length node.left) 0) (followed W J).nodes i h.of done_parts.0 h.at in
      let none = nil_from_length h.of.left (eqb-true (length h.of.left) 0 through) in
      record {
        run = h.of;
        here = h.here;
        at = h.at;
        node = number;
        sends = mine.sends ∙ ap (node_sends W J) number;
        log = sym (append-nil h.of.state.log) ∙ sym (ap (λ (l : List _). h.of.state.log ++ l) none) ∙ mine.log ∙ ap (log_at J) number;
        is = h.is;
      }
