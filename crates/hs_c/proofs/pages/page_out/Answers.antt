use Rattle.std.proofs.Common.{map, arith}
use Rattle.std.proofs.lemmas.List.{length-map}
use Rattle.hs_words.specs.Pages.{piece_of, sheet_of}
use Rattle.hs_words.proofs.Layouts.{costs_at_least, length-page_bytes}
use Rattle.hs_c.proofs.pages.page_out.Goals as goal

pub overflow_cast-result : goal.overflow_cast-result
overflow_cast-result c = omega (arith, costs_at_least (map piece_of c.args.page.now.points.items), length-map c.args.page.now.points.items piece_of)

pub returns : goal.returns
returns c = cc (length-map c.args.page.now.points.items piece_of, length-page_bytes (sheet_of c.args.page.now))
