-- What was found at the nodes is found of their runs.
use Rattle.std.proofs.Common.{◌≡◌, ℕ, zero, suc, ◌+◌, ◌≤◌, true, nat_eq, List, [], ◌∷◌, ◌++◌, length, map, drop, Option, Some, None, refl, sym, ap, subst, ◌∙◌, arith, slice_get, option_map, eqb-true, append_assoc}
use Rattle.hs_check_follow.proofs.Prelude.{and_parts, map-append, nil_from_length, same_Some, slice_get-map, list_all, range_with_len, flat_map, nil_behind, all_at, AreAsked, AreFound, IsFoundClient, FoundPage, Listing, NodeSet, FollowedClient, PlainJournal, Step, RunsAreOfTheJournal, NodeRun, Run, log_at, is_done, AgentState, GivenPlace, PlainWorkload, ClientSends, client_sends, named_at, name_of, hand_of, said_of, IsFoundOf, AllAt, FollowedCoordinator, FollowedNode}
use Rattle.hs_check_follow.specs.Finding.{IsFound, IsFoundNode, given_name, named}
use Rattle.hs_check_follow.specs.declared.found.Found.{Found}
use Rattle.hs_check_follow.specs.declared.found.FoundNode.{FoundNode}
use Rattle.hs_law_journal.specs.Extending.{IsOfJournal}
use Rattle.hs_law_agent.specs.Standings.{Taken}
use Rattle.hs_check_follow.specs.Parting.{found_left}
use Rattle.hs_check_follow.proofs.PassEnds.{all_noted}

-- ---- lists

module _ {A B : Type 0} (IsOf : A → B → Type 0) where
  pub found_more : (xs : List A) (founds : List B) (x : A) (found : B) → AreFound IsOf xs founds → IsOf x found → AreFound IsOf (xs ++ x ∷ []) (founds ++ found ∷ [])
  found_more [] [] x found are is = (is, tt)
  found_more [] (y ∷ founds) x found are is = absurd are
  found_more (z ∷ xs) [] x found are is = absurd are
  found_more (z ∷ xs) (y ∷ founds) x found are is = (are.0, found_more xs founds x found are.1 is)

-- a list that is read off another, with one more
pub read_more : {A B : Type 0} (f : A → B) (xs : List A) (x : A) (old items : List B) (item : B) (new : List B) → new ≡ items ++ item ∷ [] → items ≡ old ++ map f xs → item ≡ f x → new ≡ old ++ map f (xs ++ x ∷ [])
read_more {B = B} f xs x old items item new is were here =
    is ∙ ap (λ (l : List B). l ++ item ∷ []) were ∙ append_assoc old (map f xs) (item ∷ []) ∙ ap (λ (l : List B). old ++ l) (ap (λ (b : B). map f xs ++ b ∷ []) here ∙ sym (map-append f xs (x ∷ [])))

pub flat_more : {A B : Type 0} (f : A → List B) (xs : List A) (x : A) (old items new : List B) → new ≡ items ++ f x → items ≡ old ++ flat_map f xs → new ≡ old ++ flat_map f (xs ++ x ∷ [])
flat_more {A = A} {B = B} f xs x old items new is were =
    is ∙ ap (λ (l : List B). l ++ f x) were ∙ append_assoc old (flat_map f xs) (f x) ∙ ap (λ (l : List B). old ++ l) (sym (go xs))
  where
    go : (xs : List A) → flat_map f (xs ++ x ∷ []) ≡ flat_map f xs ++ f x
    go [] = sym (nil_behind (f x))
    go (y ∷ xs) = ap (λ (l : List B). f y ++ l) (go xs) ∙ sym (append_assoc (f y) (flat_map f xs) (f x))

-- what holds of these two by two holds of those
found_over : {A B C : Type 0} (P : A → C → Type 0) (Q : B → C → Type 0) (xs : List A) (ys : List B) (zs : List C) → length xs ≡ length ys
    → ((n : ℕ) (a : A) (b : B) (c : C) → slice_get xs n ≡ Some a → slice_get ys n ≡ Some b → P a c → Q b c) → AreFound P xs zs → AreFound Q ys zs
found_over P Q [] [] [] count each are = tt
found_over P Q [] [] (c ∷ zs) count each are = absurd are
found_over P Q [] (b ∷ ys) zs count each are = absurd (omega (arith, count))
found_over P Q (a ∷ xs) [] zs count each are = absurd (omega (arith, count))
found_over P Q (a ∷ xs) (b ∷ ys) [] count each are = absurd are
found_over P Q (a ∷ xs) (b ∷ ys) (c ∷ zs) count each are =
    (each 0 a b c refl refl are.0, found_over P Q xs ys zs (omega (arith, count)) (λ n a b c at bt p. each (suc n) a b c at bt p) are.1)

-- the clients of a node
clients_found : (f : ℕ → ClientSends) (start : ℕ) (clients : List FollowedClient) → ((n : ℕ) (s : FollowedClient) → slice_get clients n ≡ Some s → IsFoundClient (f (start + n)) s.found)
    → AreFound IsFoundClient (map f (range_with_len start (length clients))) (map (λ (s : FollowedClient). s.found) clients)
clients_found f start [] each = tt
clients_found f start (s ∷ clients) each =
    let here : start + 0 ≡ start = omega arith in
    (subst (λ n. IsFoundClient (f n) s.found) here (each 0 s refl), clients_found f (start + 1) clients (λ n t at. let on : start + suc n ≡ (start + 1) + n = omega arith in subst (λ k. IsFoundClient (f k) t.found) on (each (suc n) t at)))

-- the names of pages
named_alike : (run : NodeRun) (gives : List GivenPlace) → map (named_at run.state) gives ≡ map (given_name run) gives
named_alike run [] = refl
named_alike run (given ∷ gives) =
    let first = ap (option_map name_of) (slice_get-map (λ (t : Taken). t.sheet) run.state.taken given.place) ∙ twice (slice_get run.state.taken given.place) in
    λ i. first i ∷ named_alike run gives i
  where
    twice : (o : Option Taken) → option_map name_of (option_map (λ (t : Taken). t.sheet) o) ≡ option_map named o
    twice None = refl
    twice (Some t) = refl

-- ---- nothing is left

none_left : (nodes : List NodeRun) → list_all (λ (node : NodeRun). nat_eq (length node.left) 0) nodes ≡ true → (n : ℕ) (node : NodeRun) → slice_get nodes n ≡ Some node → length node.left ≡ 0
none_left [] all n node at = let never : None ≡ Some node = at in absurd cc
none_left (first ∷ nodes) all zero node at =
    let both = and_parts (nat_eq (length first.left) 0) (list_all (λ (node : NodeRun). nat_eq (length node.left) 0) nodes) all in
    ap (λ (r : NodeRun). length r.left) (sym (same_Some first node at)) ∙ eqb-true (length first.left) 0 both.0
none_left (first ∷ nodes) all (suc n) node at =
    none_left nodes (and_parts (nat_eq (length first.left) 0) (list_all (λ (node : NodeRun). nat_eq (length node.left) 0) nodes) all).1 n node at

drop_none : {A : Type 0} (n : ℕ) (xs : List A) → length (drop n xs) ≡ 0 → length xs ≤ n
drop_none zero [] e = omega arith
drop_none zero (x ∷ xs) e = absurd (omega (arith, e))
drop_none (suc n) [] e = omega arith
drop_none (suc n) (x ∷ xs) e = let rest = drop_none n xs e in omega (arith, rest)

-- ---- all

module _ (runs : RunsAreOfTheJournal) (W : PlainWorkload) (J : PlainJournal) (run : Run) (nodes : List FollowedNode) (h : FollowedCoordinator) (a : AllAt W J run nodes h) (done : is_done run ≡ true) where
  all_through : list_all (λ (node : NodeRun). nat_eq (length node.left) 0) run.nodes ≡ true
  all_through = (and_parts (list_all (λ (node : NodeRun). nat_eq (length node.left) 0) run.nodes) (nat_eq (length run.left) 0) done).0

  node_found : (n : ℕ) (t : FollowedNode) (node : NodeRun) (found : FoundNode) → slice_get nodes n ≡ Some t → slice_get run.nodes n ≡ Some node → IsFoundOf t found → IsFoundNode W.settings node found
  node_found n t node found t_at node_at is =
      let at = a.nodes_are.each n node t node_at t_at in
      let none = none_left run.nodes all_through n node node_at in
      let journal = all_at (IsOfJournal W J) run.nodes n node (runs W J run a.leads).each node_at in
      let log_is : node.state.log ≡ log_at J node.node = nil_behind node.state.log ∙ ap (λ (l : List Step). node.state.log ++ l) (sym (nil_from_length node.left none)) ∙ journal.log in
      let past = drop_none t.next (log_at J node.node) (ap length (sym at.left) ∙ none) in
      record {
        clients =
            subst (AreFound IsFoundClient node.sends) (sym is.clients)
            (subst (λ (s : List ClientSends). AreFound IsFoundClient s (found_left t)) (sym (at.stands.sends ∙ ap (λ k. map (client_sends W J node.node) (range_with_len 0 k)) (sym at.stands.clients.count)))
            (clients_found (client_sends W J node.node) 0 t.follower.clients.items (λ k s s_at. let on : k ≡ 0 + k = omega arith in subst (λ i. IsFoundClient (client_sends W J node.node i) s.found) on (at.stands.clients.each k s s_at).left.found)));
        gives = sym (named_alike node node.state.given) ∙ at.stands.gives ∙ ap (λ (l : Listing FoundPage). map (λ page. Some page) l.items) (sym is.gives);
        hands = ap (λ (l : Listing ℕ). l.items) is.hands ∙ at.notes.hands ∙ all_noted W.settings node hand_of (log_at J node.node) log_is t.next past;
        said = ap (λ (l : Listing ℕ). l.items) is.said ∙ at.notes.told ∙ all_noted W.settings node said_of (log_at J node.node) log_is t.next past;
        told = is.told ∙ ap length at.stands.said;
        pinned = is.pinned _ at.stands.agent.follows ∙ ap (λ (s : AgentState). length s.pinned) (sym at.stands.agent.comes);
      }

  pub all_found : (founds : List FoundNode) → AreFound IsFoundOf nodes founds → (found : Found) → found.nodes.items ≡ founds → found.asked ≡ h.asked → IsFound W.settings run found
  all_found founds are found nodes_are asked =
      record {
        nodes = subst (AreFound (IsFoundNode W.settings) run.nodes) (sym nodes_are)
            (found_over IsFoundOf (IsFoundNode W.settings) nodes run.nodes founds a.nodes_are.count (λ n t node f t_at node_at is. node_found n t node f t_at node_at is) are);
        asked = subst (λ (l : Listing NodeSet). AreAsked W.settings.nodes [] run.heard l.items) (sym asked) a.hearing.asked;
      }
