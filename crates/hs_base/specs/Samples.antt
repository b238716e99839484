-- For the worked examples: a client, traces as small numbers, trigger ids, and three traces whose ranks rise otherwise than they do.
use Rattle.std.specs.Prelude.{ℕ, List, [], ◌∷◌}
use Rattle.hs_base.specs.declared.ids.ClientId.{ClientId}
use Rattle.hs_base.specs.declared.ids.TraceId.{TraceId}
use Rattle.hs_base.specs.declared.settings.TriggerRule.{TriggerRule}

-- the first client of the first node
abbrev pub owner : ClientId
owner = record { node = 0; number = 0 }

abbrev pub t : ℕ → TraceId
t trace = record { 0 = trace }

-- a trigger id of this burst and rate
abbrev pub rule : (id burst rate : ℕ) → TriggerRule
rule id burst rate = record { id = record { 0 = id }; weight = 1; burst = burst; rate = rate }

-- the id 1, of which ten triggers are admitted
abbrev pub one_rule : List TriggerRule
one_rule = rule 1 10 0 ∷ []

-- of the traces 0, golden and twice each has a smaller rank word than the one before it
abbrev pub golden : ℕ
golden = 0x9e3779b97f4a7c15

abbrev pub twice : ℕ
twice = 0x3c6ef372fe94f82a
