-- An operation sends one crumb or one trigger at most, and a page one chunk at most.
use Rattle.std.proofs.Common.{◌≡◌, ℕ, ◌+◌, ◌≤◌, List, [], ◌∷◌, length, Option, Some, None, arith, map, filter, slice_get, length-append}
use Rattle.hs_law_journal.proofs.Prelude.{flat_map, option_map_or, length-map, ClientId, TraceId, Draw, AutoRule, Operation, Begin, Point, End, Fire, Sample, NumberedOperation, numbered_from, open_behind, sampled, Sampled, Crumb, Trigger, TimedPage, drawn_from, DrawnPage, has_buffer, Sent, sent_chunks, crumb_in, trigger_of, samples_of, trigger_in, triggers_behind}
use Rattle.hs_records.specs.Plain as plain
use Rattle.hs_auto.specs.declared.sampled.Sampled.TheVariants as answers
use Rattle.hs_base.proofs.Filters.{filter_few}

trigger_few : (moment : ℕ) (rule : AutoRule) (trace : TraceId) (answer : Sampled) → length (trigger_of moment rule trace answer) ≤ 1
trigger_few moment rule trace answers.Quiet = omega arith
trigger_few moment rule trace (answers.Fired laterals) = omega arith

-- an operation sends one crumb or one trigger at most
one_each : (autos : List AutoRule) (earlier : List NumberedOperation) (trace : Option TraceId) (op : Operation) → length (crumb_in trace op) + length (trigger_in autos earlier trace op) ≤ 1
one_each autos earlier None (Begin t) = omega arith
one_each autos earlier None (Point moment payload) = omega arith
one_each autos earlier None (plain.Crumb node) = omega arith
one_each autos earlier None End = omega arith
one_each autos earlier None (Fire trigger) = omega arith
one_each autos earlier None (Sample moment auto value) = omega arith
one_each autos earlier (Some trace) (Begin t) = omega arith
one_each autos earlier (Some trace) (Point moment payload) = omega arith
one_each autos earlier (Some trace) (plain.Crumb node) = omega arith
one_each autos earlier (Some trace) End = omega arith
one_each autos earlier (Some trace) (Fire trigger) = omega arith
one_each autos earlier (Some trace) (Sample moment auto value) = rule_case (slice_get autos auto)
  where
    rule_case : (o : Option AutoRule) → 0 + length (option_map_or (λ rule. trigger_of moment rule trace (sampled rule (samples_of auto earlier) (record { value = value; trace = trace }))) o []) ≤ 1
    rule_case None = omega arith
    rule_case (Some rule) = let few = trigger_few moment rule trace (sampled rule (samples_of auto earlier) (record { value = value; trace = trace })) in omega (arith, few)

abbrev crumbs_of : List NumberedOperation → List (Sent Crumb)
crumbs_of ops = flat_map (λ (op : NumberedOperation). map (λ (crumb : Crumb). record { number = op.number; item = crumb }) (crumb_in op.trace op.operation)) ops

pub sends_few : (autos : List AutoRule) (earlier : List NumberedOperation) (number : ℕ) (trace : Option TraceId) (ops : List Operation)
    → length (crumbs_of (numbered_from number trace ops)) + length (triggers_behind autos earlier (numbered_from number trace ops)) ≤ length ops
sends_few autos earlier number trace [] = omega arith
sends_few autos earlier number trace (op ∷ ops) =
    let first : NumberedOperation = record { number = number; trace = trace; operation = op } in
    let crumbs : List (Sent Crumb) = map (λ (crumb : Crumb). record { number = number; item = crumb }) (crumb_in trace op) in
    let triggers : List (Sent Trigger) = map (λ (trigger : Trigger). record { number = number; item = trigger }) (trigger_in autos earlier trace op) in
    let a = length-append crumbs (crumbs_of (numbered_from (number + 1) (open_behind trace op) ops)) in
    let b = length-append triggers (triggers_behind autos (first ∷ earlier) (numbered_from (number + 1) (open_behind trace op) ops)) in
    let c : length crumbs ≡ length (crumb_in trace op) = length-map (crumb_in trace op) _ in
    let d : length triggers ≡ length (trigger_in autos earlier trace op) = length-map (trigger_in autos earlier trace op) _ in
    let e = one_each autos earlier trace op in
    let rest = sends_few autos (first ∷ earlier) (number + 1) (open_behind trace op) ops in
    omega (arith, a, b, c, d, e, rest)

pub drawn_few : (client : ClientId) (number : ℕ) (pages : List TimedPage) (draws : List Draw) → length (drawn_from client number pages draws) ≤ length pages
drawn_few client number [] draws = omega arith
drawn_few client number (page ∷ pages) [] = omega arith
drawn_few client number (page ∷ pages) (draw ∷ draws) = let rest = drawn_few client (number + 1) pages draws in omega (arith, rest)

pub chunks_few : (drawn : List DrawnPage) → length (sent_chunks drawn) ≤ length drawn
chunks_few drawn =
    let kept = filter_few (λ (d : DrawnPage). has_buffer d.draw) drawn in
    let same : length (sent_chunks drawn) ≡ length (filter (λ (d : DrawnPage). has_buffer d.draw) drawn) = length-map (filter (λ (d : DrawnPage). has_buffer d.draw) drawn) _ in
    omega (arith, kept, same)
