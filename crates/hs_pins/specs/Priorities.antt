-- The order of the groups of a trigger id: by the word of the lead's rank, then by the lead, then by the node that admitted
-- the group, then by its number there.
use Rattle.std.specs.Prelude.{◌≡◌, ℕ, Bool, true, ◌&&◌, ◌==◌, refl}
use Rattle.std.specs.declared.cmp.Ordering.{Ordering}
use Rattle.std.specs.declared.cmp.Ordering.TheVariants.{Less, Greater}
use Rattle.std.specs.Ordering.{nat_cmp, ordering_then, is_eq, is_le}
use Rattle.hs_base.specs.declared.told.Group.{Group}
use Rattle.hs_base.specs.declared.ids.TriggerId.{TriggerId}
use Rattle.hs_base.specs.Ranks.{trace_rank}
use Rattle.hs_pins.specs.declared.priority.Priority.{Priority}
use Rattle.hs_pins.specs.declared.priority.Mark.{Mark}

abbrev pub priority_cmp : Priority → Priority → Ordering
priority_cmp a b = ordering_then (nat_cmp a.word b.word) (ordering_then (nat_cmp a.lead b.lead) (ordering_then (nat_cmp a.node b.node) (nat_cmp a.number b.number)))

-- whether two priorities are one
abbrev pub same_priority : Priority → Priority → Bool
same_priority a b = is_eq (priority_cmp a b)

abbrev pub priority_of : Group → Priority
priority_of group = record { word = (trace_rank group.lead).word; lead = group.lead.0; node = group.id.node; number = group.id.number }

-- the order of groups by priority
abbrev pub group_cmp : Group → Group → Ordering
group_cmp group other = priority_cmp (priority_of group) (priority_of other)

-- whether a group's priority is no greater than the other's
abbrev pub is_no_greater : Group → Group → Bool
is_no_greater group other = is_le (group_cmp group other)

-- whether two groups are one: all that they name is the same
abbrev pub same_group : Group → Group → Bool
same_group a b = a.id.node == b.id.node && (a.id.number == b.id.number && (a.trigger.0 == b.trigger.0 && a.lead.0 == b.lead.0))

-- the group of a trigger id with this priority
abbrev pub group_at : TriggerId → Priority → Group
group_at trigger p = record { id = record { node = p.node; number = p.number }; trigger = trigger; lead = record { 0 = p.lead } }

-- a group's trigger id and its priority
abbrev pub mark_of : Group → Mark
mark_of group = record { trigger = group.trigger; priority = priority_of group }

-- whether two marks are of one group
abbrev pub same_mark : Mark → Mark → Bool
same_mark a b =
    a.trigger.0 == b.trigger.0 && (a.priority.word == b.priority.word && (a.priority.lead == b.priority.lead && (a.priority.node == b.priority.node && a.priority.number == b.priority.number)))

-- the group of a group's own priority is that group
own_group : (group : Group) → group_at group.trigger (priority_of group) ≡ group
own_group group = refl

-- for the worked examples
abbrev of : ℕ → ℕ → ℕ → ℕ → Priority
of word lead node number = record { word = word; lead = lead; node = node; number = number }

-- the word of the rank comes before the trace, this before the node, and this before the number
the_word_decides : (priority_cmp (of 1 9 9 9) (of 2 0 0 0) ≡ Less) × (priority_cmp (of 7 3 0 0) (of 7 2 9 9) ≡ Greater)
the_word_decides = (refl, refl)

equal_leads_by_node_then_number : (priority_cmp (of 7 3 0 9) (of 7 3 1 0) ≡ Less) × (priority_cmp (of 7 3 1 1) (of 7 3 1 0) ≡ Greater) × (same_priority (of 7 3 1 1) (of 7 3 1 1) ≡ true)
equal_leads_by_node_then_number = (refl, refl, refl)

-- a group of the lead 0 goes before one of the lead 0x3c6ef372fe94f82a, whatever their nodes
greater_rank : priority_cmp (priority_of (record { id = record { node = 0; number = 0 }; trigger = record { 0 = 1 }; lead = record { 0 = 0 } }))
    (priority_of (record { id = record { node = 5; number = 3 }; trigger = record { 0 = 1 }; lead = record { 0 = 0x3c6ef372fe94f82a } })) ≡ Greater
greater_rank = refl
