-- What holds where a trace is said to be whole.
use Rattle.std.proofs.Common.{◌≡◌, ◌⊎◌, inl, inr, ℕ, suc, Bool, true, false, not, ◌&&◌, ◌||◌, eqb, List, [], ◌∷◌, Option, Some, None, refl, sym, ap, ◌∙◌}
use Rattle.std.specs.Prelude.{count_by, length, nat_lt, slice_get, fold, if◌then◌else◌}
use Rattle.std.specs.List.{list_all, list_any}
use Rattle.std.specs.Option.{option_map_or}
use Rattle.hs_base.proofs.Tests.{list_all_at}
use Rattle.hs_base.specs.declared.ids.TraceId.{TraceId}
use Rattle.hs_base.specs.declared.node_set.NodeSet.{NodeSet}
use Rattle.hs_base.specs.NodeSets.{has_node, nodes_of, no_nodes, either}
use Rattle.hs_base.specs.NodeSetLaws.{has-either, has-no_nodes}
use Rattle.hs_groups.specs.declared.followed_group.FollowedGroup.{FollowedGroup}
use Rattle.hs_groups.specs.Groups.{PlainGroups}
use Rattle.hs_standings.specs.declared.answers.Latest.{Latest}
use Rattle.hs_standings.specs.declared.answers.Life.{Life}
use Rattle.hs_standings.specs.Standing.{PlainStandings, Lives, latest_of, lives_of}
use Rattle.hs_standings.specs.Closing.{is_closed, says_whole, knows_all, all_closed, are_closed}
use Rattle.hs_traces.specs.declared.key.PageKey.{PageKey}
use Rattle.hs_verdict.specs.Verdict.{claims, latest_life, life_of, is_node_closed, are_nodes_closed, is_answered, has_all, with_reached, reached, leads_within, are_followed, is_page_whole, is_life_asked, are_asked, is_node_known, leads_to_known, are_known, is_whole}
use Rattle.hs_traces.specs.Keys.{is_from}
use Rattle.hs_verdict.specs.Pages.{is_full, are_full}
use Rattle.hs_verdict.specs.Whole.{HasSaid, IsReached, IsWhole}
use Rattle.std.proofs.lemmas.Bool.{ltb-true}
use borrow.Author.Tests.{eqb-true}

left : (a b : Bool) → (a && b) ≡ true → a ≡ true
left true b e = refl
left false b e = let never : false ≡ true = e in absurd cc

right : (a b : Bool) → (a && b) ≡ true → b ≡ true
right true b e = e
right false b e = let never : false ≡ true = e in absurd cc

second : (a b : Bool) → (not a || b) ≡ true → a ≡ true → b ≡ true
second true b e y = e
second false b e y = let never : false ≡ true = y in absurd cc

said : (P : Latest → Bool) (o : Option Latest) → option_map_or P o false ≡ true → (latest : Latest) × (o ≡ Some latest) × (P latest ≡ true)
said P (Some latest) e = (latest, refl, e)
said P None e = let never : false ≡ true = e in absurd cc

group_answered : (g : PlainGroups) (s : PlainStandings) (trace : TraceId) → has_all g s trace ≡ true → (place : ℕ) (followed : FollowedGroup) → slice_get g.groups place ≡ Some followed → claims trace followed ≡ true
    → (eqb followed.waiting.0 0 && are_nodes_closed g s trace followed.asked) ≡ true
group_answered g s trace all place followed there claimed =
    second (claims trace followed) (eqb followed.waiting.0 0 && are_nodes_closed g s trace followed.asked)
    (list_all_at (is_answered g s trace) g.groups place followed (right (list_any (claims trace) g.groups) (list_all (is_answered g s trace) g.groups) (left (list_any (claims trace) g.groups && list_all (is_answered g s trace) g.groups) (are_followed g s trace) all)) there) claimed

lives_closed : (o : Option Lives) → option_map_or all_closed o true ≡ true → (lives : Lives) → o ≡ Some lives → (at : ℕ) (entry : Life × Latest) → slice_get lives at ≡ Some entry → is_closed entry.1 ≡ true
lives_closed o e lives is at entry there =
    list_all_at (λ (x : Life × Latest). is_closed x.1) lives at entry (sym (ap (λ (p : Option Lives). option_map_or all_closed p true) is) ∙ e) there

lives_asked : (g : PlainGroups) (trace : TraceId) (o : Option Lives) → option_map_or (list_all (is_life_asked g trace)) o true ≡ true → (lives : Lives) → o ≡ Some lives → (at : ℕ) (entry : Life × Latest) → slice_get lives at ≡ Some entry
    → is_life_asked g trace entry ≡ true
lives_asked g trace o e lives is at entry there =
    list_all_at (is_life_asked g trace) lives at entry (sym (ap (λ (p : Option Lives). option_map_or (list_all (is_life_asked g trace)) p true) is) ∙ e) there

lives_full : (keys : List PageKey) (o : Option Lives) → option_map_or (list_all (is_full keys)) o true ≡ true → (lives : Lives) → o ≡ Some lives → (at : ℕ) (entry : Life × Latest) → slice_get lives at ≡ Some entry
    → entry.1.standing.pages ≡ count_by (is_from entry.0.node entry.0.epoch) keys
lives_full keys o e lives is at entry there =
    eqb-true entry.1.standing.pages (count_by (is_from entry.0.node entry.0.epoch) keys)
    (list_all_at (is_full keys) lives at entry (sym (ap (λ (p : Option Lives). option_map_or (list_all (is_full keys)) p true) is) ∙ e) there)

-- a node is among those that groups reached which claim the trace, or it was among the first ones
reached_from : (trace : TraceId) (nodes : NodeSet) (groups : List FollowedGroup) (node : ℕ) → has_node (fold (with_reached trace) nodes groups) node ≡ true
    → (has_node nodes node ≡ true)
    ⊎ ((place : ℕ) × (followed : FollowedGroup) × (slice_get groups place ≡ Some followed) × (claims trace followed ≡ true) × (has_node followed.asked node ≡ true))
reached_from trace nodes [] node on = inl on
reached_from trace nodes (followed ∷ groups) node on =
    elim (reached_from trace (with_reached trace nodes followed) groups node on) [
      | inl here ↦ at (claims trace followed) refl here
      | inr there ↦ inr (suc there.0, there.1, there.2, there.3, there.4)
    ]
  where
    first : claims trace followed ≡ true → (has_node nodes node || has_node followed.asked node) ≡ true → (b : Bool) → has_node nodes node ≡ b
        → (has_node nodes node ≡ true)
        ⊎ ((place : ℕ) × (one : FollowedGroup) × (slice_get (followed ∷ groups) place ≡ Some one) × (claims trace one ≡ true) × (has_node one.asked node ≡ true))
    first claimed on true here = inl here
    first claimed on false here = inr (0, followed, refl, claimed, sym (ap (λ b. b || has_node followed.asked node) here) ∙ on)

    at : (b : Bool) → claims trace followed ≡ b → has_node (if b then either nodes followed.asked else nodes) node ≡ true
        → (has_node nodes node ≡ true)
        ⊎ ((place : ℕ) × (one : FollowedGroup) × (slice_get (followed ∷ groups) place ≡ Some one) × (claims trace one ≡ true) × (has_node one.asked node ≡ true))
    at true claimed on = first claimed (sym (has-either nodes followed.asked node) ∙ on) (has_node nodes node) refl
    at false apart on = inl on

is_reached : (g : PlainGroups) (trace : TraceId) (node : ℕ) → has_node (reached g trace) node ≡ true → IsReached g trace node
is_reached g trace node on =
    elim (reached_from trace no_nodes g.groups node on) [
      | inl none ↦ let never : false ≡ true = sym (has-no_nodes node) ∙ none in absurd cc
      | inr there ↦ there
    ]

within : (crumbs nodes : NodeSet) → eqb (either crumbs nodes).0 nodes.0 ≡ true → (node : ℕ) → has_node crumbs node ≡ true → has_node nodes node ≡ true
within crumbs nodes is node on =
    ap (λ (m : ℕ). has_node (record { 0 = m }) node) (sym (eqb-true (either crumbs nodes).0 nodes.0 is)) ∙ has-either crumbs nodes node ∙ ap (λ b. b || has_node nodes node) on

lives_led : (g : PlainGroups) (trace : TraceId) (o : Option Lives) → option_map_or (list_all (leads_within (reached g trace))) o true ≡ true → (lives : Lives) → o ≡ Some lives → (at : ℕ) (entry : Life × Latest) → slice_get lives at ≡ Some entry
    → (node : ℕ) → has_node entry.1.standing.crumbs node ≡ true → IsReached g trace node
lives_led g trace o e lives is at entry there node on =
    is_reached g trace node
    (within entry.1.standing.crumbs (reached g trace)
    (list_all_at (leads_within (reached g trace)) lives at entry (sym (ap (λ (p : Option Lives). option_map_or (list_all (leads_within (reached g trace))) p true) is) ∙ e) there) node on)

lives_known : (g : PlainGroups) (s : PlainStandings) (trace : TraceId) (o : Option Lives) → option_map_or (list_all (leads_to_known g s trace)) o true ≡ true → (lives : Lives) → o ≡ Some lives → (at : ℕ) (entry : Life × Latest) → slice_get lives at ≡ Some entry
    → (here node : ℕ) → slice_get (nodes_of entry.1.standing.crumbs) here ≡ Some node → HasSaid s trace (latest_life g (record { 0 = node })) (λ latest. knows_all latest ≡ true)
lives_known g s trace o e lives is at entry there here node on =
    said knows_all (latest_of s trace (latest_life g (record { 0 = node })))
    (list_all_at (λ (n : ℕ). is_node_known g s trace (record { 0 = n })) (nodes_of entry.1.standing.crumbs) here node
    (list_all_at (leads_to_known g s trace) lives at entry (sym (ap (λ (p : Option Lives). option_map_or (list_all (leads_to_known g s trace)) p true) is) ∙ e) there) on)

pub whole_said : (g : PlainGroups) (s : PlainStandings) (trace : TraceId) (pages : List PageKey) → is_whole g s trace pages ≡ true → IsWhole g s trace pages
whole_said g s trace pages e =
    let whole_pages = list_all (is_page_whole s trace) pages in
    let kept = are_full s trace pages && whole_pages in
    let sure = are_known g s trace && kept in
    let held = are_asked g s trace && sure in
    let behind : (has_all g s trace && (are_closed s trace && held)) ≡ true = right (nat_lt 0 (length pages)) (has_all g s trace && (are_closed s trace && held)) e in
    let all : has_all g s trace ≡ true = left (has_all g s trace) (are_closed s trace && held) behind in
    let rest : (are_closed s trace && held) ≡ true = right (has_all g s trace) (are_closed s trace && held) behind in
    let known : held ≡ true = right (are_closed s trace) held rest in
    let aware : sure ≡ true = right (are_asked g s trace) sure known in
    let full : kept ≡ true = right (are_known g s trace) kept aware in
    let claimed_all = list_any (claims trace) g.groups && list_all (is_answered g s trace) g.groups in
    record {
      some = ltb-true 0 (length pages) (left (nat_lt 0 (length pages)) (has_all g s trace && (are_closed s trace && held)) e);
      claimed = left (list_any (claims trace) g.groups) (list_all (is_answered g s trace) g.groups) (left claimed_all (are_followed g s trace) all);
      answered = λ place followed there claimed.
          eqb-true followed.waiting.0 0 (left (eqb followed.waiting.0 0) (are_nodes_closed g s trace followed.asked) (group_answered g s trace all place followed there claimed));
      closed = λ place followed there claimed at node here.
          said is_closed (latest_of s trace (latest_life g (record { 0 = node })))
          (list_all_at (λ (n : ℕ). is_node_closed g s trace (record { 0 = n })) (nodes_of followed.asked) at node
          (right (eqb followed.waiting.0 0) (are_nodes_closed g s trace followed.asked) (group_answered g s trace all place followed there claimed)) here);
      lives = lives_closed (lives_of s.books trace) (left (are_closed s trace) held rest);
      asked = lives_asked g trace (lives_of s.books trace) (left (are_asked g s trace) sure known);
      led = lives_led g trace (lives_of s.books trace) (right claimed_all (are_followed g s trace) all);
      known = lives_known g s trace (lives_of s.books trace) (left (are_known g s trace) kept aware);
      full = lives_full pages (lives_of s.books trace) (left (are_full s trace pages) whole_pages full);
      written = λ at page here. said says_whole (latest_of s trace (life_of page)) (list_all_at (is_page_whole s trace) pages at page (right (are_full s trace pages) whole_pages full) here);
    }
