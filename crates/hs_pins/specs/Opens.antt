-- A group that claims traces, one after another. Meanwhile what changes is apart from the pins: the claims, the groups of its
-- trigger id, and which groups were abandoned. Put back, they are the pins as they would be.
use Rattle.std.specs.Prelude.{ℕ, List}
use Rattle.hs_base.specs.declared.ids.TraceId.{TraceId}
use Rattle.hs_base.specs.declared.told.Group.{Group}
use Rattle.hs_pins.specs.declared.priority.Mark.{Mark}
use Rattle.hs_pins.specs.Groups.{Groups}
use Rattle.hs_pins.specs.Queues.{with_groups}
use Rattle.hs_pins.specs.Remembered.{Claim}
use Rattle.hs_pins.specs.PinsLayout.{Pinning}

-- the group with its laterals, what is apart from the pins, and for how much there is room
pub record Opening (L : Type 0) : Type 0 where
  pub group : Group
  pub laterals : List TraceId
  pub claims : List Claim
  pub groups : Groups L
  pub abandoned : List Mark
  -- how many traces and chunks more there is room for
  pub traces : ℕ
  pub chunks : ℕ
  -- how many chunks may stay pinned, and how many may be pinned when the group is done
  pub most : ℕ
  pub ready : ℕ

-- the pins with what is apart from them put back
abbrev pub restored : {L : Type 0} → Pinning L → Opening L → Pinning L
restored pins opening =
    record pins { claims = opening.claims; queues = with_groups pins.queues opening.group.trigger opening.groups; abandoned = opening.abandoned }
