-- What it means that a trace is whole, in words of its nodes and lives.
use Rattle.std.specs.Prelude.{◌≡◌, ℕ, ◌<◌, true, List, length, count_by, slice_get, Some}
use Rattle.std.specs.List.{list_any}
use Rattle.hs_base.specs.declared.ids.TraceId.{TraceId}
use Rattle.hs_base.specs.NodeSets.{has_node, nodes_of}
use Rattle.hs_groups.specs.declared.followed_group.FollowedGroup.{FollowedGroup}
use Rattle.hs_groups.specs.Groups.{PlainGroups}
use Rattle.hs_standings.specs.declared.answers.Latest.{Latest}
use Rattle.hs_standings.specs.declared.answers.Life.{Life}
use Rattle.hs_standings.specs.Standing.{PlainStandings, Lives, latest_of, lives_of}
use Rattle.hs_standings.specs.Closing.{is_closed, says_whole, knows_all}
use Rattle.hs_traces.specs.Keys.{is_from}
use Rattle.hs_traces.specs.declared.key.PageKey.{PageKey}
use Rattle.hs_verdict.specs.Verdict.{claims, asks, latest_life, life_of}

-- a life has said so last
abbrev pub HasSaid : PlainStandings → TraceId → Life → (Latest → Type 0) → Type 0
HasSaid s trace life P = (latest : Latest) × (latest_of s trace life ≡ Some latest) × P latest

-- a group that claims the trace has reached the node
abbrev pub IsReached : PlainGroups → TraceId → ℕ → Type 0
IsReached g trace node = (place : ℕ) × (followed : FollowedGroup) × (slice_get g.groups place ≡ Some followed) × (claims trace followed ≡ true) × (has_node followed.asked node ≡ true)

pub record IsWhole (g : PlainGroups) (s : PlainStandings) (trace : TraceId) (pages : List PageKey) : Type 0 where
  -- a page of it is here
  pub some : 0 < length pages
  -- a group that is followed claims the trace
  pub claimed : list_any (claims trace) g.groups ≡ true
  -- each group that claims it waits for no answer
  pub answered : (place : ℕ) (followed : FollowedGroup) → slice_get g.groups place ≡ Some followed → claims trace followed ≡ true → followed.waiting.0 ≡ 0
  -- the latest life of each node that it reached says whole or unheard, with no segment open
  pub closed : (place : ℕ) (followed : FollowedGroup) → slice_get g.groups place ≡ Some followed → claims trace followed ≡ true
      → (at node : ℕ) → slice_get (nodes_of followed.asked) at ≡ Some node
      → HasSaid s trace (latest_life g (record { 0 = node })) (λ latest. is_closed latest ≡ true)
  -- so does each other life that spoke of the trace
  pub lives : (lives : Lives) → lives_of s.books trace ≡ Some lives → (at : ℕ) (entry : Life × Latest) → slice_get lives at ≡ Some entry → is_closed entry.1 ≡ true
  -- and a group that claims the trace has reached its node, so that it is known where the trace went on from there
  pub asked : (lives : Lives) → lives_of s.books trace ≡ Some lives → (at : ℕ) (entry : Life × Latest) → slice_get lives at ≡ Some entry
      → list_any (asks trace (record { 0 = entry.0.node })) g.groups ≡ true
  -- a group that claims the trace has reached each node to which a life says that crumbs of it led
  pub led : (lives : Lives) → lives_of s.books trace ≡ Some lives → (at : ℕ) (entry : Life × Latest) → slice_get lives at ≡ Some entry
      → (node : ℕ) → has_node entry.1.standing.crumbs node ≡ true → IsReached g trace node
  -- and the node's latest life says whole, or unheard since its first segment
  pub known : (lives : Lives) → lives_of s.books trace ≡ Some lives → (at : ℕ) (entry : Life × Latest) → slice_get lives at ≡ Some entry
      → (here node : ℕ) → slice_get (nodes_of entry.1.standing.crumbs) here ≡ Some node
      → HasSaid s trace (latest_life g (record { 0 = node })) (λ latest. knows_all latest ≡ true)
  -- of each as many pages are here as it says it handed out
  pub full : (lives : Lives) → lives_of s.books trace ≡ Some lives → (at : ℕ) (entry : Life × Latest) → slice_get lives at ≡ Some entry
      → entry.1.standing.pages ≡ count_by (is_from entry.0.node entry.0.epoch) pages
  -- and each life that wrote a page of it says whole
  pub written : (at : ℕ) (page : PageKey) → slice_get pages at ≡ Some page → HasSaid s trace (life_of page) (λ latest. says_whole latest ≡ true)
