use Rattle.std.proofs.Common.{◌≡◌, ◌+◌, map, take}
use Rattle.std.specs.List.{sum_by}
use Rattle.hs_words.specs.Pages.{cost_of, piece_of}
use Rattle.hs_c.proofs.pages.page_len.Given as goal

abbrev pub invariant-loop-point : goal.invariant-loop-point
invariant-loop-point l = l.len ≡ 32 + sum_by cost_of (map piece_of (take l.point-index l.points))
