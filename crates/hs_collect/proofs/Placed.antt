-- The records that the pieces of a page begin, each from its place among them.
use Rattle.std.proofs.Common.{◌≡◌, ℕ, ◌+◌, List, [], ◌∷◌, map, drop, refl, sym, ap, ◌∙◌, arith, add_assoc}
use Rattle.hs_collect.proofs.Prelude.{drop-map, Header, Point, piece_of, Placed, pieces_from, page_pieces}
use Rattle.std.specs.List.{enumerate_from}
use Rattle.hs_collect.specs.Views.{sheet_with}

-- the record that the point at a place begins
abbrev pub begun : Header → ℕ × Point → Placed
begun header item =
    record { id = record { client = header.client; number = header.first + item.0 }; moment = item.1.moment; payload = item.1.payload.items }

begun-all : (header : Header) (n : ℕ) (points : List Point) → map (begun header) (enumerate_from n points) ≡ pieces_from header.client (header.first + n) (map piece_of points)
begun-all header n [] = refl
begun-all header n (point ∷ points) =
    ap (λ rest. begun header (n, point) ∷ rest)
    (begun-all header (n + 1) points ∙ ap (λ k. pieces_from header.client k (map piece_of points)) (sym (add_assoc header.first n 1)))

pub begun-rest : (header : Header) (joined : ℕ) (points : List Point) → map (begun header) (drop joined (enumerate_from 0 points)) ≡ drop joined (page_pieces (sheet_with header points))
begun-rest header joined points =
    sym (drop-map (begun header) joined (enumerate_from 0 points))
    ∙ ap (drop joined) (begun-all header 0 points ∙ ap (λ k. pieces_from header.client k (map piece_of points)) (omega arith))
