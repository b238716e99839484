-- How often a node is asked. The coordinator sends an ask for a group to each node to which a crumb of the group leads, but for the node
-- that spoke of it first; and to none of them a second one.
use Rattle.std.specs.Prelude.{◌≡◌, ℕ, count_by, if◌then◌else◌, refl}
use Rattle.hs_base.specs.declared.ids.GroupId.{GroupId}
use Rattle.hs_base.specs.declared.told.Ask.{Ask}
use Rattle.hs_coord.specs.Following.{Messages, same_group, has_ask}
use Rattle.hs_law_journal.specs.Following.{asks_to}
use Rattle.hs_law_outcome.specs.Speaking.{first_group, four_heard}

-- how many asks for the group were sent to a node
abbrev pub asks_for : GroupId → ℕ → Messages → ℕ
asks_for group node heard = count_by (λ (ask : Ask). same_group group ask.group.id) (asks_to node heard)

-- Whatever was heard, a node has one ask for a group, or none.
abbrev pub NobodyIsAskedTwice : Type 0
NobodyIsAskedTwice = (heard : Messages) (group : GroupId) (node : ℕ) → asks_for group node heard ≡ (if has_ask group heard node then 1 else 0)

-- ---- examples

two_are_asked_once : (asks_for first_group 1 four_heard ≡ 1) × (asks_for first_group 2 four_heard ≡ 1) × (asks_for first_group 0 four_heard ≡ 0) × (asks_for first_group 3 four_heard ≡ 0)
two_are_asked_once = (refl, refl, refl, refl)
