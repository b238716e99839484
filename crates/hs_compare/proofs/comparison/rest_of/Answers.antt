use Rattle.std.proofs.Common.{◌∙◌}
use Rattle.hs_compare.proofs.Claiming.{gaps_same, limited_same}
use Rattle.hs_compare.proofs.comparison.rest_of.Goals as goal

pub returns-clause-gap : goal.returns-clause-gap
returns-clause-gap c = c.count_gaps.ensures ∙ gaps_same c.args.counts.now.entries c.args.claimed.now c.in_ok-claims.claims.keys c.args.entries.now c.in_ok-claims.ensures c.requires.counted

pub returns-clause-limited : goal.returns-clause-limited
returns-clause-limited c = c.count_limited.ensures ∙ limited_same c.args.counts.now.entries c.args.ring.now.named c.args.claimed.now c.in_ok-claims.claims.keys c.args.entries.now c.in_ok-claims.ensures c.requires.counted
