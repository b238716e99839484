-- What any calls of the pins come to, looked back over from the end: in each list of calls the last one stands first. The
-- triggers alone decide which of them were admitted; a trace stays with the group that claimed it first; and of what was
-- ever pinned for a group the front has left, one chunk after another, and the rest is still pinned.
use Rattle.std.specs.Prelude.{◌≡◌, ℕ, ◌+◌, Bool, false, List, [], ◌∷◌, ◌++◌, map, Option, Some, nat_le, if◌then◌else◌}
use Rattle.std.specs.Option.{option_map, option_map_or, option_to_list}
use Rattle.hs_base.specs.declared.ids.NodeId.{NodeId}
use Rattle.hs_base.specs.declared.ids.TraceId.{TraceId}
use Rattle.hs_base.specs.declared.ids.TriggerId.{TriggerId}
use Rattle.hs_base.specs.declared.node_set.NodeSet.{NodeSet}
use Rattle.hs_base.specs.declared.settings.TriggerRule.{TriggerRule}
use Rattle.hs_base.specs.declared.limits.TheConstants.{TOKEN}
use Rattle.hs_base.specs.declared.told.Group.{Group}
use Rattle.hs_words.specs.Buffers.{Buffer}
use Rattle.hs_pins.specs.Buckets.{level_found}
use Rattle.hs_pins.specs.Remembered.{Claim, Pin, Tried, Remembered, fresh, claim_of, claim_for, pin_for, pins_for, rule_of, moments_of, tried_at, claimed, arrived, crumbed, comes_back}
use Rattle.hs_pins.specs.Abandoning.{drops, relieved}
use Rattle.hs_pins.specs.Waiting.{next_of, taken}

-- A trigger was tried, a trace was claimed, a chunk of a claimed trace arrived, a crumb of one came, groups were abandoned, or
-- the next chunk of a trigger id was taken.
pub data Call (L : Type 0) : Type 0 where
  Tries : (id : TriggerId) (moment : ℕ) → Call L
  Claims : (group : Group) (laterals : List TraceId) (trace : TraceId) (chunks : List (Buffer L)) (crumbs : NodeSet) → Call L
  Arrives : (chunk : Buffer L) → Call L
  Crumbs : (trace : TraceId) (node : NodeId) → Call L
  Abandons : Call L
  Takes : (id : TriggerId) → Call L

-- what is remembered after one call
abbrev pub after_call : {L : Type 0} → Remembered L → Call L → Remembered L
after_call memory (Tries id moment) = tried_at memory id moment
after_call memory (Claims group laterals trace chunks crumbs) = claimed memory group laterals trace chunks crumbs
after_call memory (Arrives chunk) = arrived memory chunk
after_call memory (Crumbs trace node) = crumbed memory trace node
after_call memory Abandons = relieved memory
after_call memory (Takes id) = taken memory id

-- and after these calls of fresh pins
abbrev pub after : {L : Type 0} → ℕ → ℕ → List TriggerRule → List (Call L) → Remembered L
after node most rules [] = fresh node most rules
after node most rules (call ∷ earlier) = after_call (after node most rules earlier) call

-- ---- triggers

-- the triggers among these calls, the latest first
abbrev pub tries_of : {L : Type 0} → List (Call L) → List Tried
tries_of [] = []
tries_of (Tries id moment ∷ earlier) = record { trigger = id; moment = moment } ∷ tries_of earlier
tries_of (Claims group laterals trace chunks crumbs ∷ earlier) = tries_of earlier
tries_of (Arrives chunk ∷ earlier) = tries_of earlier
tries_of (Crumbs trace node ∷ earlier) = tries_of earlier
tries_of (Abandons ∷ earlier) = tries_of earlier
tries_of (Takes id ∷ earlier) = tries_of earlier

-- whether a trigger is admitted after the earlier ones: the bucket of its id has a token at its moment
abbrev pub admits : List TriggerRule → List Tried → Tried → Bool
admits rules earlier t = option_map_or (λ (rule : TriggerRule). nat_le TOKEN (level_found rule.burst rule.rate (moments_of t.trigger earlier) t.moment)) (rule_of rules t.trigger) false

-- how many of these triggers were admitted
abbrev pub admitted_of : List TriggerRule → List Tried → ℕ
admitted_of rules [] = 0
admitted_of rules (t ∷ earlier) = if admits rules earlier t then admitted_of rules earlier + 1 else admitted_of rules earlier

-- ---- chunks

-- the group that claimed a trace, where one did
abbrev pub owner_of : {L : Type 0} → Remembered L → TraceId → Option Group
owner_of memory trace = option_map (λ (claim : Claim). claim.group) (claim_of memory.claims trace)

-- what a call pins: the chunks of a claim, and a chunk that arrives and is not handed back
abbrev pub pinned_by : {L : Type 0} → Remembered L → Call L → List (Pin L)
pinned_by memory (Tries id moment) = []
pinned_by memory (Claims group laterals trace chunks crumbs) = map (pin_for group) chunks
pinned_by memory (Arrives chunk) = option_map_or (λ (claim : Claim). if comes_back memory chunk then [] else pin_for claim.group chunk ∷ []) (claim_for memory.claims chunk) []
pinned_by memory (Crumbs trace node) = []
pinned_by memory Abandons = []
pinned_by memory (Takes id) = []

-- what a call lets go: the chunk that is taken, or those that are dropped
abbrev pub let_go_by : {L : Type 0} → Remembered L → Call L → List (Pin L)
let_go_by memory (Tries id moment) = []
let_go_by memory (Claims group laterals trace chunks crumbs) = []
let_go_by memory (Arrives chunk) = []
let_go_by memory (Crumbs trace node) = []
let_go_by memory Abandons = drops memory
let_go_by memory (Takes id) = option_to_list (next_of memory.pinned id)

-- all that became pinned in these calls, in order, and all that was let go
abbrev pub ever_pinned : {L : Type 0} → ℕ → ℕ → List TriggerRule → List (Call L) → List (Pin L)
ever_pinned node most rules [] = []
ever_pinned node most rules (call ∷ earlier) = ever_pinned node most rules earlier ++ pinned_by (after node most rules earlier) call

abbrev pub ever_let_go : {L : Type 0} → ℕ → ℕ → List TriggerRule → List (Call L) → List (Pin L)
ever_let_go node most rules [] = []
ever_let_go node most rules (call ∷ earlier) = ever_let_go node most rules earlier ++ let_go_by (after node most rules earlier) call

-- ---- what they come to

pub record LooksBack {L : Type 0} (node most : ℕ) (rules : List TriggerRule) (calls : List (Call L)) : Type 0 where
  -- The triggers are those that were tried, and they alone decide how many of them were admitted.
  pub tried : (after node most rules calls).tried ≡ tries_of calls
  pub admitted : (after node most rules calls).admitted ≡ admitted_of rules (tries_of calls)
  -- Of what was ever pinned for a group the front was let go, in that order, and the rest is pinned.
  pub chunks : (group : Group) → pins_for group (ever_pinned node most rules calls) ≡ pins_for group (ever_let_go node most rules calls) ++ pins_for group (after node most rules calls).pinned

-- A trace that a group claimed is that group's after any later calls.
abbrev pub ClaimsStay : {L : Type 0} → ℕ → ℕ → List TriggerRule → List (Call L) → List (Call L) → Type 0
ClaimsStay node most rules later earlier =
    (trace : TraceId) (group : Group) → owner_of (after node most rules earlier) trace ≡ Some group → owner_of (after node most rules (later ++ earlier)) trace ≡ Some group
