-- What a client counts: the points that were done, and what was refused, by cause. A count of a segment has 32 bits, one of a whole
-- life 64, and each stays at its greatest number once it is there.
use Rattle.std.specs.Prelude.{◌≡◌, ℕ, ◌+◌, ◌-◌, min, refl}
use Rattle.hs_base.specs.NodeSets.{no_nodes, with_node}
use Rattle.hs_base.specs.declared.ids.NodeId.{NodeId}
use Rattle.hs_node_client.specs.declared.answers.CallAnswer.{CallAnswer}
use Rattle.hs_node_client.specs.declared.answers.CallAnswer.TheVariants as called
use Rattle.hs_node_client.specs.declared.segment.SegmentCounts.{SegmentCounts}
use Rattle.hs_node_client.specs.declared.counts.ClientCounts.{ClientCounts}
use Rattle.hs_node_client.specs.declared.counts.RunningCounts.{RunningCounts}

abbrev pub more : ℕ → ℕ → ℕ
more count by = min (count + by) 18446744073709551615

abbrev pub more_in_segment : ℕ → ℕ
more_in_segment count = min (count + 1) 4294967295

abbrev pub none_here : SegmentCounts
none_here = record { points = 0; pages = 0; null_pages = 0; full_points = 0; long_points = 0; spent_points = 0; refused_crumbs = 0; crumbs = no_nodes }

abbrev pub none_past : ClientCounts
none_past = record { points = 0; null_pages = 0; stray_points = 0; full_points = 0; long_points = 0; spent_points = 0; refused_crumbs = 0; refused_triggers = 0; dropped_notes = 0 }

abbrev pub no_counts : RunningCounts
no_counts = record { here = none_here; past = none_past; nulls = 0; page = 0 }

-- ---- segments

-- a segment begins, where the core has so many null pages, and so many pages in all
abbrev pub opened : ℕ → ℕ → RunningCounts → RunningCounts
opened nulls pages tally = record tally { here = none_here; nulls = nulls; page = pages }

-- The counts of a segment that ends, where the core has so many null pages, and so many pages in all. Each page since its begin was drawn
-- for, and was sent, or the draw found the pool empty.
abbrev pub segment_counts : ℕ → ℕ → RunningCounts → SegmentCounts
segment_counts nulls pages tally = record tally.here { pages = pages - tally.page - (nulls - tally.nulls); null_pages = nulls - tally.nulls }

abbrev pub closed : RunningCounts → RunningCounts
closed tally = record tally { here = none_here; past = record tally.past { points = more tally.past.points tally.here.points } }

-- the core goes, which has so many null pages
abbrev pub renewed : ℕ → RunningCounts → RunningCounts
renewed nulls tally = record tally { past = record tally.past { null_pages = more tally.past.null_pages nulls }; nulls = 0 }

-- ---- what calls count

-- a point that was answered so
abbrev pub with_point : CallAnswer → RunningCounts → RunningCounts
with_point called.Done tally = record tally { here = record tally.here { points = tally.here.points + 1 } }
with_point called.NoTrace tally = record tally { past = record tally.past { stray_points = more tally.past.stray_points 1 } }
with_point called.AlreadyOpen tally = tally
with_point called.TooWide tally =
    record tally { here = record tally.here { long_points = more_in_segment tally.here.long_points }; past = record tally.past { long_points = more tally.past.long_points 1 } }
with_point called.Full tally =
    record tally { here = record tally.here { full_points = more_in_segment tally.here.full_points }; past = record tally.past { full_points = more tally.past.full_points 1 } }
with_point called.Unknown tally = tally
with_point called.Spent tally =
    record tally { here = record tally.here { spent_points = more_in_segment tally.here.spent_points }; past = record tally.past { spent_points = more tally.past.spent_points 1 } }

-- a crumb of the open trace that led to this node
abbrev pub with_crumb : NodeId → RunningCounts → RunningCounts
with_crumb node tally = record tally { here = record tally.here { crumbs = with_node tally.here.crumbs node } }

abbrev pub with_refused_crumb : RunningCounts → RunningCounts
with_refused_crumb tally =
    record tally { here = record tally.here { refused_crumbs = more_in_segment tally.here.refused_crumbs }; past = record tally.past { refused_crumbs = more tally.past.refused_crumbs 1 } }

-- a crumb of a trace that need not be open
abbrev pub with_refused_late : RunningCounts → RunningCounts
with_refused_late tally = record tally { past = record tally.past { refused_crumbs = more tally.past.refused_crumbs 1 } }

abbrev pub with_refused_trigger : RunningCounts → RunningCounts
with_refused_trigger tally = record tally { past = record tally.past { refused_triggers = more tally.past.refused_triggers 1 } }

abbrev pub with_dropped : RunningCounts → RunningCounts
with_dropped tally = record tally { past = record tally.past { dropped_notes = more tally.past.dropped_notes 1 } }

-- what a crumb of the open trace counts that was answered so
abbrev pub with_crumb_called : NodeId → CallAnswer → RunningCounts → RunningCounts
with_crumb_called node called.Done tally = with_crumb node tally
with_crumb_called node called.NoTrace tally = tally
with_crumb_called node called.AlreadyOpen tally = tally
with_crumb_called node called.TooWide tally = tally
with_crumb_called node called.Full tally = with_refused_crumb tally
with_crumb_called node called.Unknown tally = tally
with_crumb_called node called.Spent tally = tally

-- what a call counts that is refused only where its outbox has no place
abbrev pub if_full : CallAnswer → (RunningCounts → RunningCounts) → RunningCounts → RunningCounts
if_full called.Full counted tally = counted tally
if_full called.Done counted tally = tally
if_full called.NoTrace counted tally = tally
if_full called.AlreadyOpen counted tally = tally
if_full called.TooWide counted tally = tally
if_full called.Unknown counted tally = tally
if_full called.Spent counted tally = tally

-- all counts, where the core has so many null pages
abbrev pub all_counts : ℕ → RunningCounts → ClientCounts
all_counts nulls tally = record tally.past { points = more tally.past.points tally.here.points; null_pages = more tally.past.null_pages nulls }

-- ---- examples

-- Two points are done in a segment that draws for three pages, one of them null. A third is refused, and the segment ends.
abbrev three_points : RunningCounts
three_points = with_point called.Full (with_point called.Done (with_point called.Done (opened 4 90 no_counts)))

counted_here : segment_counts 5 93 three_points ≡ record { points = 2; pages = 2; null_pages = 1; full_points = 1; long_points = 0; spent_points = 0; refused_crumbs = 0; crumbs = no_nodes }
counted_here = refl

-- an end changes no sum
counted_all : all_counts 5 (closed three_points) ≡ all_counts 5 three_points
counted_all = refl

-- crumbs to the nodes 0 and 2, and 2 again, are those to two nodes
led_to_two : (with_crumb (record { 0 = 2 }) (with_crumb (record { 0 = 0 }) (with_crumb (record { 0 = 2 }) no_counts))).here.crumbs ≡ record { 0 = 5 }
led_to_two = refl

stays_at_most : more 18446744073709551615 3 ≡ 18446744073709551615
stays_at_most = refl
