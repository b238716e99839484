-- What a hub says of a trace: of each node whether it was asked and answered, of each life what it said last, and whether the trace is
-- whole. Nothing more is to come of a trace where each node that was asked for it answered, the latest life of each is closed to it, and each
-- node to which a crumb of it led was asked for it. It is whole where, besides, no earlier life is open, no node to which a crumb of it led may
-- have forgotten it, all pages came that lives say they handed out, and each life that wrote a page of it says that its
-- part is whole.
use Rattle.std.specs.Prelude.{◌≡◌, ℕ, Bool, true, false, not, ◌&&◌, ◌||◌, ◌==◌, List, [], ◌∷◌, length, nat_lt, filter, slice_get, fold, Option, Some, None, option_map, if◌then◌else◌, refl}
use Rattle.std.specs.List.{list_all, list_any}
use Rattle.std.specs.Option.{option_map_or, option_and_then}
use Rattle.hs_base.specs.declared.ids.NodeId.{NodeId}
use Rattle.hs_base.specs.declared.ids.TraceId.{TraceId}
use Rattle.hs_base.specs.declared.node_set.NodeSet.{NodeSet}
use Rattle.hs_base.specs.declared.limits.TheConstants.{MOST_NODES}
use Rattle.hs_base.specs.declared.told.Why.TheVariants as why
use Rattle.hs_base.specs.NodeSets.{has_node, nodes_of, no_nodes, either}
use Rattle.hs_base.specs.Ids.{same_trace}
use Rattle.hs_base.specs.Samples.{t}
use Rattle.hs_wire.specs.declared.message.Wholeness.{Wholeness}
use Rattle.hs_wire.specs.declared.message.Wholeness.TheVariants as wholeness
use Rattle.hs_wire.specs.declared.message.Standing.{Standing}
use Rattle.hs_groups.specs.declared.followed_group.FollowedGroup.{FollowedGroup}
use Rattle.hs_groups.specs.Following.{told_of, n}
use Rattle.hs_groups.specs.Groups as groups
use Rattle.hs_groups.specs.Groups.{PlainGroups}
use Rattle.hs_standings.specs.declared.answers.Life.{Life}
use Rattle.hs_standings.specs.declared.answers.Latest.{Latest}
use Rattle.hs_standings.specs.Standing.{PlainStandings, Lives, lives_of, no_standings, latest_of, with_standing, latest_at, none_lost, whole_at, open_at}
use Rattle.hs_standings.specs.Closing.{is_closed, says_whole, knows_all, are_closed}
use Rattle.hs_traces.specs.declared.key.PageKey.{PageKey}
use Rattle.hs_traces.specs.Keys.{key_at}
use Rattle.hs_verdict.specs.Pages.{are_full}
use Rattle.hs_verdict.specs.declared.words.NodeWord.{NodeWord}
use Rattle.hs_verdict.specs.declared.words.NodeWord.TheVariants as of_node
use Rattle.hs_verdict.specs.declared.words.LifeWord.{LifeWord}
use Rattle.hs_verdict.specs.declared.words.LifeWord.TheVariants as of_life

-- whether a group claims a trace: as its lead or as a lateral
abbrev pub claims : TraceId → FollowedGroup → Bool
claims trace followed = same_trace trace followed.ask.group.lead || list_any (same_trace trace) followed.ask.laterals

-- of the groups that claim a trace, the oldest one first, the one at this place
abbrev pub claim_at : PlainGroups → TraceId → ℕ → Option FollowedGroup
claim_at g trace place = slice_get (filter (claims trace) g.groups) place

-- of the lives that spoke of a trace, the one at this place in the order in which they spoke first
abbrev pub life_at : PlainStandings → TraceId → ℕ → Option Life
life_at s trace place = option_map (λ (entry : Life × Latest). entry.0) (option_and_then (λ (lives : Lives). slice_get lives place) (lives_of s.books trace))

-- ---- what is said of a node, and of a life

-- whether a group claims the trace and reached the node
abbrev pub asks : TraceId → NodeId → FollowedGroup → Bool
asks trace node followed = nat_lt node.0 MOST_NODES && has_node followed.asked node.0 && claims trace followed

-- whether it waits for the node's answer
abbrev pub still_asks : TraceId → NodeId → FollowedGroup → Bool
still_asks trace node followed = nat_lt node.0 MOST_NODES && has_node followed.waiting node.0 && claims trace followed

abbrev pub node_word : PlainGroups → TraceId → NodeId → NodeWord
node_word g trace node =
    if list_any (still_asks trace node) g.groups then of_node.Silent
    else if list_any (asks trace node) g.groups then of_node.Answered
    else of_node.NotAsked

-- what a standing without open segments says
abbrev pub word_for : Wholeness → Standing → LifeWord
word_for wholeness.WholeSince s = of_life.WholeSince s.horizon
word_for wholeness.Lost s = of_life.Lost s.losses
word_for wholeness.UnheardSince s = of_life.UnheardSince s.horizon
word_for wholeness.Unknown s = of_life.Unknown
word_for wholeness.Open s = of_life.Open 0

-- what a life said last, if it spoke
abbrev pub word_of : Option Latest → LifeWord
word_of None = of_life.Silent
word_of (Some latest) = if nat_lt 0 latest.standing.open_segments then of_life.Open latest.standing.open_segments else word_for latest.standing.wholeness latest.standing

-- ---- whether nothing more is to come

-- the latest life of a node that was heard
abbrev pub latest_life : PlainGroups → NodeId → Life
latest_life g node = record { node = node.0; epoch = groups.latest_of g node }

-- whether it is closed to the trace
abbrev pub is_node_closed : PlainGroups → PlainStandings → TraceId → NodeId → Bool
is_node_closed g s trace node = option_map_or is_closed (latest_of s trace (latest_life g node)) false

abbrev pub are_nodes_closed : PlainGroups → PlainStandings → TraceId → NodeSet → Bool
are_nodes_closed g s trace nodes = list_all (λ node. is_node_closed g s trace (record { 0 = node })) (nodes_of nodes)

-- whether a group does not claim the trace, or each node that it reached answered and is closed to it
abbrev pub is_answered : PlainGroups → PlainStandings → TraceId → FollowedGroup → Bool
is_answered g s trace followed = not (claims trace followed) || (followed.waiting.0 == 0 && are_nodes_closed g s trace followed.asked)

-- whether one of these groups claims the trace, if each that does is answered
abbrev pub claimed_among : PlainGroups → PlainStandings → TraceId → List FollowedGroup → Option Bool
claimed_among g s trace some = if list_all (is_answered g s trace) some then Some (list_any (claims trace) some) else None

-- these nodes, and those that the group reached, where it claims the trace
abbrev pub with_reached : TraceId → NodeSet → FollowedGroup → NodeSet
with_reached trace nodes followed = if claims trace followed then either nodes followed.asked else nodes

-- the nodes that groups reached which claim the trace
abbrev pub reached : PlainGroups → TraceId → NodeSet
reached g trace = fold (with_reached trace) no_nodes g.groups

-- whether each node to which a life says that crumbs of the trace led is among these: no more are in either set
abbrev pub leads_within : NodeSet → Life × Latest → Bool
leads_within nodes entry = (either entry.1.standing.crumbs nodes).0 == nodes.0

-- whether such groups reached each node to which lives say that crumbs of the trace led
abbrev pub are_followed : PlainGroups → PlainStandings → TraceId → Bool
are_followed g s trace = option_map_or (list_all (leads_within (reached g trace))) (lives_of s.books trace) true

-- whether a group claims the trace, each that does is answered, and the nodes to which its crumbs led were reached
abbrev pub has_all : PlainGroups → PlainStandings → TraceId → Bool
has_all g s trace = (list_any (claims trace) g.groups && list_all (is_answered g s trace) g.groups) && are_followed g s trace

-- ---- whether it is whole: of nothing that is not said

-- whether a group that claims the trace has reached the node of a life, so that it is known where the trace went on from there
abbrev pub is_life_asked : PlainGroups → TraceId → Life × Latest → Bool
is_life_asked g trace entry = list_any (asks trace (record { 0 = entry.0.node })) g.groups

-- whether that holds of each life that spoke of the trace
abbrev pub are_asked : PlainGroups → PlainStandings → TraceId → Bool
are_asked g s trace = option_map_or (list_all (is_life_asked g trace)) (lives_of s.books trace) true

-- whether the latest life of a node is closed to the trace, and has notes of it if it ever had any
abbrev pub is_node_known : PlainGroups → PlainStandings → TraceId → NodeId → Bool
is_node_known g s trace node = option_map_or knows_all (latest_of s trace (latest_life g node)) false

-- whether that holds of each node to which a life says that crumbs of the trace led
abbrev pub leads_to_known : PlainGroups → PlainStandings → TraceId → Life × Latest → Bool
leads_to_known g s trace entry = list_all (λ node. is_node_known g s trace (record { 0 = node })) (nodes_of entry.1.standing.crumbs)

abbrev pub are_known : PlainGroups → PlainStandings → TraceId → Bool
are_known g s trace = option_map_or (list_all (leads_to_known g s trace)) (lives_of s.books trace) true

abbrev pub life_of : PageKey → Life
life_of page = record { node = page.node; epoch = page.epoch }

-- whether the life that wrote a page says that its part of the trace is whole
abbrev pub is_page_whole : PlainStandings → TraceId → PageKey → Bool
is_page_whole s trace page = option_map_or says_whole (latest_of s trace (life_of page)) false

abbrev pub is_whole : PlainGroups → PlainStandings → TraceId → List PageKey → Bool
is_whole g s trace pages = nat_lt 0 (length pages) && (has_all g s trace && (are_closed s trace && (are_asked g s trace && (are_known g s trace && (are_full s trace pages && list_all (is_page_whole s trace) pages)))))

-- ---- worked examples: node 0, in life 5, tells of its group 7, whose lead is trace 107, with a crumb to node 1, whose life is 3

abbrev lone : PlainGroups
lone = groups.after_told (groups.no_groups (record { nodes = 4; groups = 1; tries = 2 })) (n 0) 5 (told_of 7 2 why.Fired)

abbrev answered : PlainGroups
answered = groups.after_told lone (n 1) 3 (told_of 7 0 why.Answer)

nodes_speak : (node_word lone (t 107) (n 0) ≡ of_node.Answered) × (node_word lone (t 107) (n 1) ≡ of_node.Silent) × (node_word answered (t 107) (n 1) ≡ of_node.Answered) × (node_word answered (t 107) (n 2) ≡ of_node.NotAsked)
nodes_speak = (refl, refl, refl, refl)

abbrev a_life : (node epoch : ℕ) → Life
a_life node epoch = record { node = node; epoch = epoch }

claimed : (claim_at lone (t 107) 0 ≡ slice_get lone.groups 0) × (claim_at lone (t 107) 1 ≡ None) × (claim_at lone (t 108) 0 ≡ None)
claimed = (refl, refl, refl)

-- both lives say whole
abbrev both : PlainStandings
both = with_standing (with_standing (no_standings 9) (t 107) (a_life 0 5) (whole_at 6)) (t 107) (a_life 1 3) (whole_at 2)

lives : (life_at both (t 107) 0 ≡ Some (a_life 0 5)) × (life_at both (t 107) 1 ≡ Some (a_life 1 3)) × (life_at both (t 107) 2 ≡ None) × (life_at both (t 8) 0 ≡ None)
lives = (refl, refl, refl, refl)

abbrev pages : List PageKey
pages = key_at 0 5 0 0 0 ∷ key_at 1 3 0 0 0 ∷ []

whole_trace : is_whole answered both (t 107) pages ≡ true
unfolding nodes_of
whole_trace = refl

-- not with a silent node, nor where nobody claims it
silent_nodes : (is_whole lone both (t 107) pages ≡ false) × (is_whole answered both (t 108) [] ≡ false)
unfolding nodes_of
silent_nodes = (refl, refl)

-- not with a page too few
late_page : is_whole answered both (t 107) (key_at 0 5 0 0 0 ∷ []) ≡ false
unfolding nodes_of
late_page = refl

-- not with an open life, be it an earlier one, nor with a page of a life that said nothing, nor where a newer life was heard that
-- has said nothing
open_lives : (is_whole answered (with_standing both (t 107) (a_life 1 2) (open_at 1)) (t 107) pages ≡ false) × (is_whole answered both (t 107) (key_at 1 2 0 0 0 ∷ pages) ≡ false) × (is_whole (groups.heard answered (n 1) 4) both (t 107) pages ≡ false)
unfolding nodes_of
open_lives = (refl, refl, refl)

-- node 0 says that crumbs of the trace led to nodes 1 and 2: no group reached node 2, so more is to come
abbrev led_to : (crumbs number : ℕ) → Latest
led_to crumbs number = latest_at number (record { trace = t 107; group = record { node = 0; number = 7 }; wholeness = wholeness.WholeSince; open_segments = 0; horizon = 4; pages = 1; crumbs = record { 0 = crumbs }; losses = none_lost })

abbrev led_by : ℕ → PlainStandings
led_by crumbs = with_standing both (t 107) (a_life 0 5) (led_to crumbs 7)

not_reached : (reached answered (t 107) ≡ record { 0 = 3 }) × (has_all answered (led_by 2) (t 107) ≡ true) × (is_whole answered (led_by 2) (t 107) pages ≡ true) × (has_all answered (led_by 6) (t 107) ≡ false) × (is_whole answered (led_by 6) (t 107) pages ≡ false)
unfolding nodes_of
not_reached = (refl, refl, refl, refl, refl)

-- node 1 says unheard, since the first segment that it heard, or since a later one: then it may have forgotten the trace. Where no crumb led
-- to it that does not matter
abbrev unheard_by : (crumbs horizon : ℕ) → PlainStandings
unheard_by crumbs horizon =
    with_standing (with_standing (no_standings 9) (t 107) (a_life 0 5) (led_to crumbs 7)) (t 107) (a_life 1 3)
    (latest_at 2 (record { trace = t 107; group = record { node = 0; number = 7 }; wholeness = wholeness.UnheardSince; open_segments = 0; horizon = horizon; pages = 0; crumbs = no_nodes; losses = none_lost }))

abbrev own_page : List PageKey
own_page = key_at 0 5 0 0 0 ∷ []

may_have_forgotten : (is_whole answered (unheard_by 2 0) (t 107) own_page ≡ true) × (is_whole answered (unheard_by 2 80) (t 107) own_page ≡ false) × (is_whole answered (unheard_by 0 80) (t 107) own_page ≡ true) × (has_all answered (unheard_by 2 80) (t 107) ≡ true)
unfolding nodes_of
may_have_forgotten = (refl, refl, refl, refl)
