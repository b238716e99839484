use Rattle.std.proofs.Common.{rules, ◌≡◌, refl, map, Some}
use Rattle.hs_c.specs.Opening.{Fills, left_in}
use Rattle.hs_c.proofs.opening.fill.Goals as goal

pub returns-clause-filled : goal.returns-clause-filled
returns-clause-filled c = record { cell = c.in_ok-cell.cell.value; live = refl; held = search rules; port_is = search rules; late = search rules; notes = search rules; left = search rules }
