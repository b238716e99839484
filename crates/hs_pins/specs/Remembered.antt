-- What a node remembers of its triggers: which traces it claimed, in the order of the claims; which chunks are pinned,
-- the one that was pinned first in front; the groups that it abandoned; and the triggers that were tried. A trace stays with the
-- group that claimed it first, and so do its chunks.
use Rattle.std.specs.Prelude.{◌≡◌, ℕ, ◌+◌, ◌<◌, ◌^◌, Bool, true, false, not, ◌==◌, List, [], ◌∷◌, ◌++◌, length, map, filter, find, Option, Some, None, if◌then◌else◌}
use Rattle.std.specs.List.{AllByRecursion, list_any}
use Rattle.std.specs.Option.{option_map, option_map_or, option_and_then}
use Rattle.hs_base.specs.declared.ids.NodeId.{NodeId}
use Rattle.hs_base.specs.declared.ids.TraceId.{TraceId}
use Rattle.hs_base.specs.declared.ids.TriggerId.{TriggerId}
use Rattle.hs_base.specs.declared.node_set.NodeSet.{NodeSet}
use Rattle.hs_base.specs.declared.settings.TriggerRule.{TriggerRule}
use Rattle.hs_base.specs.declared.told.Group.{Group}
use Rattle.hs_base.specs.NodeSets.{has_node, with_node}
use Rattle.hs_base.specs.Rules.{is_declared}
use Rattle.hs_base.specs.Ids.{same_trace}
use Rattle.hs_words.specs.Buffers.{Buffer, buffer_of}
use Rattle.hs_words.specs.Chunks.{header_in}
use Rattle.hs_words.specs.declared.page.Header.{Header}
use Rattle.hs_pins.specs.declared.bucket.Attempt.{Attempt}
use Rattle.hs_pins.specs.declared.bucket.Attempt.TheVariants as attempts
use Rattle.hs_pins.specs.declared.claim.Admitted.{Admitted}
use Rattle.hs_pins.specs.declared.claim.Admitted.TheVariants as admissions
use Rattle.hs_pins.specs.declared.claim.Dropped.{Dropped}
use Rattle.hs_pins.specs.Buckets.{attempted}
use Rattle.hs_pins.specs.Priorities.{same_group}

-- a claimed trace: the group that claimed it, with these laterals, and the nodes to which its crumbs lead
pub record Claim : Type 0 where
  pub trace : TraceId
  pub group : Group
  pub laterals : List TraceId
  pub crumbs : NodeSet

-- a chunk that is pinned, and the group for which it is
pub record Pin (L : Type 0) : Type 0 where
  pub group : Group
  pub chunk : Buffer L

-- a trigger that was tried, admitted or not
pub record Tried : Type 0 where
  pub trigger : TriggerId
  pub moment : ℕ

pub record Remembered (L : Type 0) : Type 0 where
  -- the node, its declared trigger ids with their rules, and how many chunks may stay pinned
  pub node : ℕ
  pub rules : List TriggerRule
  pub most : ℕ
  -- the claims, in the order in which they were made
  pub claims : List Claim
  -- the pinned chunks, the one that was pinned first in front
  pub pinned : List (Pin L)
  -- the abandoned groups
  pub abandoned : List Group
  -- the triggers, the latest first, and how many of them were admitted
  pub tried : List Tried
  pub admitted : ℕ

-- a node at its beginning
abbrev pub fresh : {L : Type 0} → ℕ → ℕ → List TriggerRule → Remembered L
fresh node most rules =
    record { node = node; rules = rules; most = most; claims = []; pinned = []; abandoned = []; tried = []; admitted = 0 }

-- ---- claims

abbrev pub is_claim_of : TraceId → Claim → Bool
is_claim_of trace claim = same_trace trace claim.trace

-- the claim of a trace, where it is claimed
abbrev pub claim_of : List Claim → TraceId → Option Claim
claim_of claims trace = find (is_claim_of trace) claims

-- the claim of the trace that a chunk's page is of, where the chunk has a page and its trace is claimed
abbrev pub claim_for : {L : Type 0} → List Claim → Buffer L → Option Claim
claim_for claims chunk = option_and_then (λ (header : Header). claim_of claims header.trace) (header_in chunk.chunk)

-- whether a crumb of the trace leads to the node
abbrev pub has_crumb : List Claim → TraceId → ℕ → Bool
has_crumb claims trace node = option_map_or (λ (claim : Claim). has_node claim.crumbs node) (claim_of claims trace) false

-- the claims where a crumb of the trace leads to the node too
abbrev pub with_crumb : List Claim → TraceId → NodeId → List Claim
with_crumb [] trace node = []
with_crumb (claim ∷ claims) trace node =
    if is_claim_of trace claim then record claim { crumbs = with_node claim.crumbs node } ∷ claims else claim ∷ with_crumb claims trace node

-- ---- pinned chunks

abbrev pub pin_for : {L : Type 0} → Group → Buffer L → Pin L
pin_for group chunk = record { group = group; chunk = chunk }

-- a chunk that is handed out, with its group
abbrev pub pin_of : {L : Type 0} {g : _} → Dropped L g → Pin L
pin_of dropped = record { group = dropped.group; chunk = buffer_of dropped.held }

abbrev pub is_for : {L : Type 0} → Group → Pin L → Bool
is_for group pin = same_group group pin.group

-- what is pinned for a group, in its order
abbrev pub pins_for : {L : Type 0} → Group → List (Pin L) → List (Pin L)
pins_for group pinned = filter (is_for group) pinned

-- what is pinned for other groups
abbrev pub without_group : {L : Type 0} → Group → List (Pin L) → List (Pin L)
without_group group pinned = filter (λ pin. not (is_for group pin)) pinned

-- without the first that is pinned for the group
abbrev pub without_first : {L : Type 0} → Group → List (Pin L) → List (Pin L)
without_first group [] = []
without_first group (pin ∷ pinned) = if is_for group pin then pinned else pin ∷ without_first group pinned

abbrev pub is_under : {L : Type 0} → TriggerId → Pin L → Bool
is_under id pin = pin.group.trigger.0 == id.0

-- what is pinned for the groups of a trigger id
abbrev pub pins_under : {L : Type 0} → TriggerId → List (Pin L) → List (Pin L)
pins_under id pinned = filter (is_under id) pinned

-- ---- triggers

abbrev pub rule_of : List TriggerRule → TriggerId → Option TriggerRule
rule_of rules id = find (λ (rule : TriggerRule). rule.id.0 == id.0) rules

-- the moments of the triggers of an id, the latest first
abbrev pub moments_of : TriggerId → List Tried → List ℕ
moments_of id tried = map (λ (t : Tried). t.moment) (filter (λ (t : Tried). t.trigger.0 == id.0) tried)

-- the answer to a trigger, of which the bucket says whether it is admitted
abbrev pub admission : ℕ → Attempt → Admitted
admission number attempts.Admitted = admissions.Admitted number
admission number (attempts.Limited level) = admissions.Limited level

-- what the bucket of a declared id answers to a trigger at a moment, after the earlier ones of that id
abbrev pub answered : {L : Type 0} → Remembered L → TriggerId → ℕ → Option Admitted
answered memory id moment =
    option_map (λ (rule : TriggerRule). admission memory.admitted (attempted rule.burst rule.rate (moments_of id memory.tried) moment)) (rule_of memory.rules id)

-- how many triggers were admitted after one more
abbrev pub admitted_after : ℕ → Admitted → ℕ
admitted_after number (admissions.Admitted _) = number + 1
admitted_after number (admissions.Limited level) = number

-- ---- what the calls leave behind

-- after a trigger of this id at this moment
abbrev pub tried_at : {L : Type 0} → Remembered L → TriggerId → ℕ → Remembered L
tried_at memory id moment =
    record memory {
      tried = record { trigger = id; moment = moment } ∷ memory.tried;
      admitted = option_map_or (admitted_after memory.admitted) (answered memory id moment) memory.admitted;
    }

-- after the group claimed the trace, of which these chunks and crumbs had come
abbrev pub claimed : {L : Type 0} → Remembered L → Group → List TraceId → TraceId → List (Buffer L) → NodeSet → Remembered L
claimed memory group laterals trace chunks crumbs =
    record memory {
      claims = memory.claims ++ record { trace = trace; group = group; laterals = laterals; crumbs = crumbs } ∷ [];
      pinned = memory.pinned ++ map (pin_for group) chunks;
    }

abbrev pub is_abandoned : List Group → Group → Bool
is_abandoned groups group = list_any (same_group group) groups

-- whether a chunk of a claimed trace is handed back, since the group that claimed the trace was abandoned
abbrev pub comes_back : {L : Type 0} → Remembered L → Buffer L → Bool
comes_back memory chunk = option_map_or (λ (claim : Claim). is_abandoned memory.abandoned claim.group) (claim_for memory.claims chunk) false

-- the chunk that is handed back, if it is
abbrev pub handed_back : {L : Type 0} → Remembered L → Buffer L → Option (Buffer L)
handed_back memory chunk = if comes_back memory chunk then Some chunk else None

-- one chunk more is pinned for a group
abbrev pub with_pin : {L : Type 0} → Remembered L → Group → Buffer L → Remembered L
with_pin memory group chunk = record memory { pinned = memory.pinned ++ pin_for group chunk ∷ [] }

-- after a chunk of a claimed trace came
abbrev pub arrived : {L : Type 0} → Remembered L → Buffer L → Remembered L
arrived memory chunk =
    option_map_or (λ (claim : Claim). if is_abandoned memory.abandoned claim.group then memory else with_pin memory claim.group chunk) (claim_for memory.claims chunk) memory

-- after a crumb of a claimed trace came
abbrev pub crumbed : {L : Type 0} → Remembered L → TraceId → NodeId → Remembered L
crumbed memory trace node = record memory { claims = with_crumb memory.claims trace node }

-- ---- forgetting

abbrev pub is_of_group : Group → Claim → Bool
is_of_group group claim = same_group group claim.group

-- whether nothing is pinned for the group
abbrev pub is_settled : {L : Type 0} → Group → Remembered L → Bool
is_settled group memory = not (list_any (is_for group) memory.pinned)

-- after the group was forgotten, with its claims and the mark that it was abandoned
abbrev pub forgot : {L : Type 0} → Group → Remembered L → Remembered L
forgot group memory =
    record memory {
      claims = filter (λ (claim : Claim). not (is_of_group group claim)) memory.claims;
      abandoned = filter (λ (other : Group). not (same_group group other)) memory.abandoned;
    }

-- ---- what always holds

-- the claims are of different traces
abbrev pub AreApart : List Claim → Type 0
AreApart [] = Unit {0}
AreApart (claim ∷ claims) = AllByRecursion (λ (other : Claim). same_trace claim.trace other.trace ≡ false) claims × AreApart claims

pub record IsSound {L : Type 0} (memory : Remembered L) : Type 0 where
  pub apart : AreApart memory.claims
  -- the groups of the claims and of the pinned chunks are of declared ids
  pub claims : AllByRecursion (λ (claim : Claim). is_declared memory.rules claim.group.trigger ≡ true) memory.claims
  pub pins : AllByRecursion (λ (pin : Pin L). is_declared memory.rules pin.group.trigger ≡ true) memory.pinned
  pub few : length memory.pinned < 2 ^ 32
