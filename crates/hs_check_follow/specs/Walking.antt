-- Whether a log is whole passes, by a walk over it, step by step. In a pass the items of each queue stand together, in the order
-- of the queues and at most 64 of each, then one turn, and then offers: so it is enough to know how many items were taken of the
-- queue that the last one is of, or that the turn was made.
use Rattle.std.specs.Prelude.{◌≡◌, ℕ, ◌+◌, ◌*◌, Bool, true, false, ◌==◌, nat_lt, List, [], ◌∷◌, Option, Some, None, if◌then◌else◌, refl}
use Rattle.hs_base.specs.declared.limits.TheConstants.{MAX_TAKEN}
use Rattle.hs_records.specs.declared.journal.Step.{Step}
use Rattle.hs_records.specs.declared.journal.Step.TheVariants as steps
use Rattle.hs_check_follow.specs.declared.passes.PassWalk.{PassWalk}
use Rattle.hs_check_follow.specs.declared.passes.PassWalk.TheVariants as walks

-- the place of the queue from which a step takes, where each node has so many clients
abbrev pub place_of : ℕ → Step → Option ℕ
place_of clients (steps.Chunk client) = if nat_lt client clients then Some (3 * client) else None
place_of clients (steps.Crumb client) = if nat_lt client clients then Some (3 * client + 1) else None
place_of clients (steps.Trigger client) = if nat_lt client clients then Some (3 * client + 2) else None
place_of clients steps.Ask = Some (3 * clients)
place_of clients _ = None

-- an item of the queue at this place
abbrev pub walk_taking : ℕ → PassWalk → Option PassWalk
walk_taking place walks.Turned = Some (walks.Taking place 1)
walk_taking place (walks.Taking queue taken) =
    if place == queue then (if nat_lt taken MAX_TAKEN then Some (walks.Taking queue (taken + 1)) else None)
    else (if nat_lt queue place then Some (walks.Taking place 1) else None)

abbrev pub walk_offering : PassWalk → Option PassWalk
walk_offering walks.Turned = Some walks.Turned
walk_offering (walks.Taking queue taken) = None

-- a step that may take
abbrev pub walk_at : Option ℕ → PassWalk → Option PassWalk
walk_at (Some place) walk = walk_taking place walk
walk_at None walk = None

-- the walk behind a step, if that may stand there
abbrev pub walk_behind : ℕ → PassWalk → Step → Option PassWalk
walk_behind clients walk steps.Turn = Some walks.Turned
walk_behind clients walk (steps.Given stamp) = walk_offering walk
walk_behind clients walk (steps.Missed stamp) = walk_offering walk
walk_behind clients walk steps.Unread = walk_offering walk
walk_behind clients walk step = walk_at (place_of clients step) walk

abbrev pub is_turned : PassWalk → Bool
is_turned walks.Turned = true
is_turned (walks.Taking queue taken) = false

-- whether the walk goes through these steps, and ends behind a whole pass
abbrev pub goes_through : ℕ → PassWalk → List Step → Bool
goes_through clients walk [] = is_turned walk
goes_through clients walk (step ∷ log) = elim (walk_behind clients walk step) [ Some next ↦ goes_through clients next log | None ↦ false ]

-- where a walk begins
abbrev pub at_start : PassWalk
at_start = walks.Taking 0 0

-- two clients: the second's crumb behind the first's trigger, and no chunk of the first behind its crumb
walked : (goes_through 2 at_start (steps.Chunk 0 ∷ steps.Trigger 0 ∷ steps.Crumb 1 ∷ steps.Ask ∷ steps.Turn ∷ steps.Unread ∷ steps.Turn ∷ []) ≡ true)
    × (goes_through 2 at_start (steps.Crumb 0 ∷ steps.Chunk 0 ∷ steps.Turn ∷ []) ≡ false) × (goes_through 2 at_start (steps.Chunk 2 ∷ steps.Turn ∷ []) ≡ false)
    × (goes_through 2 at_start (steps.Turn ∷ steps.Chunk 0 ∷ []) ≡ false) × (goes_through 2 at_start (steps.Given 0 ∷ steps.Turn ∷ []) ≡ false)
walked = (refl, refl, refl, refl, refl)
