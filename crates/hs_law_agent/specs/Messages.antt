-- What an agent tells the coordinator. Of a group it names every node to which a crumb of the lead or of a lateral leads
-- from here, even for a trace that another group holds. A crumb of a claimed trace that names a node for the first time is
-- told by itself.
use Rattle.std.specs.Prelude.{Bool, ◌&&◌, ◌==◌, List, [], ◌∷◌, ◌++◌, filter, fold, if◌then◌else◌}
use Rattle.std.specs.List.{list_any}
use Rattle.hs_base.specs.declared.ids.TraceId.{TraceId}
use Rattle.hs_base.specs.declared.node_set.NodeSet.{NodeSet}
use Rattle.hs_base.specs.declared.told.Ask.{Ask}
use Rattle.hs_base.specs.declared.told.Crumb.{Crumb}
use Rattle.hs_base.specs.declared.told.Told.{Told}
use Rattle.hs_base.specs.declared.told.Why.{Why}
use Rattle.hs_base.specs.declared.told.Why.TheVariants.{Late}
use Rattle.hs_base.specs.NodeSets.{no_nodes, one_node, with_node}
use Rattle.hs_base.specs.Ids.{same_trace}
use Rattle.hs_law_agent.specs.State.{AgentState, ClaimedTrace}
use Rattle.hs_law_agent.specs.Claiming.{traces_of}

abbrev pub same_crumb : Crumb → Crumb → Bool
same_crumb a b = same_trace a.trace b.trace && a.node.0 == b.node.0

-- whether the crumb is remembered
abbrev pub has_crumb : List Crumb → Crumb → Bool
has_crumb crumbs crumb = list_any (same_crumb crumb) crumbs

-- the crumbs with one more
abbrev pub with_crumb : List Crumb → Crumb → List Crumb
with_crumb crumbs crumb = if has_crumb crumbs crumb then crumbs else crumbs ++ crumb ∷ []

-- the nodes to which crumbs of these traces lead
abbrev pub crumb_nodes : List Crumb → List TraceId → NodeSet
crumb_nodes crumbs traces =
    fold (λ (nodes : NodeSet) (crumb : Crumb). with_node nodes crumb.node) no_nodes (filter (λ (crumb : Crumb). list_any (same_trace crumb.trace) traces) crumbs)

-- what is told of a group
abbrev pub told_of : List Crumb → Ask → Why → Told
told_of crumbs ask why = record { group = ask.group; laterals = ask.laterals; crumbs = crumb_nodes crumbs (traces_of ask); why = why }

-- what is told of a late crumb
abbrev pub late_of : ClaimedTrace → Crumb → Told
late_of claim crumb = record { group = claim.group; laterals = claim.laterals; crumbs = one_node crumb.node; why = Late }

abbrev pub say : Told → AgentState → AgentState
say told state = record state { said = state.said ++ told ∷ [] }
