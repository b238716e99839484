-- One visit of a trigger id, over the costs of what waits for it. The budget is the id's deficit and its weight in
-- pages. The longest prefix of what waits that costs at most the budget is sent; the rest of the budget is the new
-- deficit, unless nothing waits any more.
use Rattle.std.specs.Prelude.{ℕ, ◌+◌, ◌-◌, ◌*◌, List, length, take, sum, if◌then◌else◌, ◌==◌}
use Rattle.hs_records.specs.Fronts.{count_within}
use Rattle.hs_sched.specs.declared.share.Share.{Share}

-- what the prefix costs
abbrev pub bytes_within : ℕ → List ℕ → ℕ
bytes_within budget costs = sum (take (count_within budget costs) costs)

-- what is left of the budget, or 0 where nothing waits any more
abbrev pub rest_within : ℕ → List ℕ → ℕ
rest_within budget costs = if count_within budget costs == length costs then 0 else budget - bytes_within budget costs

abbrev pub budget_of : ℕ → Share → ℕ
budget_of size share = share.deficit + share.weight * size

-- how many items a visit sends, of those that wait
abbrev pub count_sent : ℕ → Share → List ℕ → ℕ
count_sent size share waiting = count_within (budget_of size share) waiting

-- how many bytes a visit sends
abbrev pub bytes_sent : ℕ → Share → List ℕ → ℕ
bytes_sent size share waiting = bytes_within (budget_of size share) waiting

-- the share after a visit
abbrev pub visited : ℕ → Share → List ℕ → Share
visited size share waiting = record share { deficit = rest_within (budget_of size share) waiting }
