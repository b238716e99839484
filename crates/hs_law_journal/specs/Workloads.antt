-- For the worked examples: small workloads. Pages have 64 bytes, and a page with one point of one byte has 35 used bytes.
use Rattle.std.specs.Prelude.{ℕ, List, [], ◌∷◌, ◌++◌, replicate}
use Rattle.hs_base.specs.Samples.{rule, one_rule, golden, twice}
use Rattle.hs_records.specs.Plain.{Operation, Point, End, PlainWorkload}
use Rattle.hs_client.specs.Samples.{settings, on_nodes, workload, begin, point, crumb, fire, segment}

-- nothing to do
abbrev pub nothing : PlainWorkload
nothing = workload (settings 4 4 8 4 16 []) ([] ∷ [])

-- a segment of one point
abbrev pub one_point : PlainWorkload
one_point = workload (settings 4 4 8 4 16 []) (segment 1 7 ∷ [])

-- three points of ten bytes for a pool with one buffer: two share a page
abbrev pub three_points : PlainWorkload
three_points = workload (settings 1 1 4 4 8 []) ((begin 1 ∷ Point 100 (replicate 10 7) ∷ Point 101 (replicate 10 7) ∷ Point 102 (replicate 10 7) ∷ End ∷ []) ∷ [])

-- three traces of which two may be indexed
abbrev pub three_traces : PlainWorkload
three_traces = workload (settings 4 2 8 4 16 []) ((segment 1 1 ++ segment 2 2 ++ segment 3 3) ∷ [])

-- the first trace comes again, and three chunks may be indexed
abbrev pub touched_again : PlainWorkload
touched_again = workload (settings 4 3 8 4 16 []) ((segment 1 1 ++ segment 2 2 ++ segment 1 3 ++ segment 3 4) ∷ [])

-- a trigger before its trace, one operation to a round
abbrev pub trigger_first : PlainWorkload
trigger_first = workload (settings 4 4 8 4 1 one_rule) ((fire 1 1 1 ∷ segment 1 2) ∷ [])

-- a trace that is evicted, claimed, and comes again
abbrev pub evicted_then_claimed : PlainWorkload
evicted_then_claimed = workload (settings 1 0 8 4 1 one_rule) ((segment 1 1 ++ fire 2 1 1 ∷ segment 1 3) ∷ [])

-- two trigger ids for one trace
abbrev pub two_ids : PlainWorkload
two_ids = workload (settings 4 4 8 4 16 (rule 1 10 0 ∷ rule 2 10 0 ∷ [])) ((segment 1 4 ++ fire 5 1 1 ∷ fire 6 2 1 ∷ []) ∷ [])

-- one token that comes back in a second, and three triggers
abbrev pub one_token : PlainWorkload
one_token = workload (settings 4 4 8 4 16 (rule 1 1 1 ∷ [])) ((segment 1 1 ++ segment 2 2 ++ segment 3 3 ++ fire 0 1 1 ∷ fire 999999 1 2 ∷ fire 1000000 1 3 ∷ []) ∷ [])

-- two nodes that may pin two chunks each; each has three traces and triggers them, in opposite orders
abbrev three_segments : List Operation
three_segments = segment 0 1 ++ segment golden 2 ++ segment twice 3

abbrev pub short_of_pins : PlainWorkload
short_of_pins =
    workload (on_nodes 2 1 (settings 4 4 8 2 16 one_rule))
    ((three_segments ++ fire 4 1 0 ∷ fire 5 1 golden ∷ fire 6 1 twice ∷ []) ∷ (three_segments ++ fire 4 1 twice ∷ fire 5 1 golden ∷ fire 6 1 0 ∷ []) ∷ [])

-- a trace on four nodes, with crumbs from node 0 to 1, from 1 to 2 and from 2 to 0
abbrev pub four_nodes : PlainWorkload
four_nodes =
    workload (on_nodes 4 1 (settings 4 4 8 4 16 one_rule))
    ((begin 1 ∷ point 1 ∷ crumb 1 ∷ End ∷ fire 5 1 1 ∷ []) ∷ (begin 1 ∷ point 2 ∷ crumb 2 ∷ End ∷ []) ∷ (begin 1 ∷ point 3 ∷ crumb 0 ∷ End ∷ []) ∷ segment 1 4 ∷ [])

-- no chunk may be pinned: what is claimed is abandoned at once
abbrev pub no_pins : PlainWorkload
no_pins = workload (settings 4 4 8 0 16 one_rule) ((segment 1 1 ++ fire 2 1 1 ∷ segment 1 3) ∷ [])

-- a trigger id that admits one trigger, and never again
abbrev pub refused_trigger : PlainWorkload
refused_trigger = workload (settings 4 4 8 4 16 (rule 1 1 0 ∷ [])) ((segment 1 1 ++ segment 2 2 ++ fire 3 1 1 ∷ fire 4 1 2 ∷ []) ∷ [])

-- clients of one node with a pool of this many buffers, each with a segment of one point, of which none stays indexed
abbrev pub side_by_side : ℕ → List (List Operation) → ℕ → PlainWorkload
side_by_side clients operations buffers = workload (on_nodes 1 clients (settings buffers 0 8 4 16 [])) operations
