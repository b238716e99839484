use Rattle.std.proofs.Common.{◌≡◌, drop}
use Rattle.std.specs.HashMap.{get}
use Rattle.hs_ledger.specs.declared.standings.PageId.{PageId}
use Rattle.hs_ledger.specs.Making.{page_eq, newest}
use Rattle.hs_ledger.proofs.standings.add_standings.Given as goal

abbrev pub invariant-loop-standing : goal.invariant-loop-standing
invariant-loop-standing l =
    (q : PageId) → newest (get page_eq l.fates q) q.client q.page (drop l.standing-index l.standings) ≡ newest (get page_eq l.initial.fates q) q.client q.page l.standings
