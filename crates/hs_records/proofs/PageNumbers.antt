-- The pages of a client's operations. On each the pieces' numbers rise one by one, since a piece that fills a page
-- stands alone. A page begins with the next record, or goes on with the last one of the page before in one segment.
use Rattle.std.proofs.Common.{◌≡◌, ◌⊎◌, ℕ, zero, suc, ◌+◌, ◌≤◌, Bool, true, false, cond, nat_le, List, [], ◌∷◌, ◌++◌, map, flat_map, length, take, drop, Some, None, refl, sym, ap, ◌∙◌, subst, arith, length-drop, one-add, true≢false, inl, inr}
use Rattle.std.proofs.lemmas.Bool.{le-leb, leb-true}
use Rattle.std.specs.List.{AllByRecursion}
use Rattle.hs_base.proofs.Alls.{all_append}
use Rattle.hs_base.specs.declared.limits.TheConstants.{MIN_SIZE}
use Rattle.hs_base.specs.declared.ids.TraceId.{TraceId}
use Rattle.hs_records.specs.Plain.{Operation, Begin, Point, Crumb, End, Fire, Sample}
use Rattle.hs_records.specs.Records.{Record, Piece, AreBracketed, records_of, pieces_until_end, segments_from}
use Rattle.hs_records.specs.Fronts.{count_beside, count_within}
use Rattle.hs_records.specs.Pages.{PlainPage, first_record, cost_of, page_room, runs_within, segment_pages, pages_of}
use Rattle.hs_records.specs.Laws.{RiseFrom, Traces, traces_of, CarriesRecords, end_of, AllFollow, AreNumberedFrom, end_from, CarryRecords}
use Rattle.hs_records.proofs.PieceNumbers.{records_from, Goes, GoesFrom, behind, Agree, IsPiece, points, agree-tail, segment_well}

-- ---- lists

pub all-parted : {X : Type 0} (P : X → Type 0) (n : ℕ) (xs : List X) → AllByRecursion P xs → AllByRecursion P (take n xs) × AllByRecursion P (drop n xs)
all-parted P zero xs each = (tt, each)
all-parted P (suc n) [] each = (tt, tt)
all-parted P (suc n) (x ∷ xs) each = let rest = all-parted P n xs each.1 in ((each.0, rest.0), rest.1)

all-traced : (size : ℕ) (traces : Traces) (trace : TraceId) (pieces : List Piece) → AllByRecursion (IsPiece size traces trace) pieces
    → AllByRecursion (λ (piece : Piece). traces piece.number ≡ Some trace) pieces
all-traced size traces trace [] each = tt
all-traced size traces trace (piece ∷ pieces) each = (each.0.traced, all-traced size traces trace pieces each.1)

-- ---- one page

-- how many of the pieces a page takes where so much of it is spent
abbrev taken : ℕ → ℕ → List Piece → ℕ
taken size spent pieces = count_beside (page_room size) spent (map cost_of pieces)

-- the pieces behind a page: the first has the next number, or that of the page's last piece
abbrev Continues : ℕ → ℕ → List Piece → Type 0
Continues size end [] = Unit {0}
Continues size end (piece ∷ pieces) = ((piece.number ≡ end) ⊎ (piece.number + 1 ≡ end)) × Goes size piece pieces

-- what a page takes behind this piece, so many, and what is left
record IsRun (size k : ℕ) (last : Piece) (pieces : List Piece) : Type 0 where
  rises : RiseFrom (last.number + 1) (take k pieces)
  next : Continues size (last.number + 1 + length (take k pieces)) (drop k pieces)
  ends : behind (last.number + 1 + length (take k pieces)) (drop k pieces) ≡ behind (last.number + 1) pieces

is_run : (size spent : ℕ) (last : Piece) (pieces : List Piece) → cost_of last ≤ spent → Goes size last pieces → IsRun size (taken size spent pieces) last pieces
is_run size spent last [] costs goes = record { rises = tt; next = tt; ends = omega arith }
is_run size spent last (piece ∷ pieces) costs goes =
    step (is_run size (spent + cost_of piece) piece pieces (omega arith) goes.1) (nat_le (spent + cost_of piece) (page_room size)) refl
  where
    step : IsRun size (taken size (spent + cost_of piece) pieces) piece pieces → (b : Bool) → nat_le (spent + cost_of piece) (page_room size) ≡ b
        → IsRun size (cond b (1 + taken size (spent + cost_of piece) pieces) 0) last (piece ∷ pieces)
    step later true fits =
        let le = leb-true (spent + cost_of piece) (page_room size) fits in
        let rise : piece.number ≡ last.number + 1 = elim goes.0 [ inl e ↦ e | inr e ↦ absurd (omega (arith, e.1)) ] in
        let k = taken size (spent + cost_of piece) pieces in
        let more = length (take k pieces) in
        let end : piece.number + 1 + more ≡ last.number + 1 + suc more = omega arith in
        subst (λ n. IsRun size n last (piece ∷ pieces)) (sym (one-add k))
        (record {
          rises = (rise, subst (λ n. RiseFrom (n + 1) (take k pieces)) rise later.rises);
          next = subst (λ n. Continues size n (drop k pieces)) end later.next;
          ends = ap (λ n. behind n (drop k pieces)) (sym end) ∙ later.ends;
        })
    step later false full =
        record {
          rises = tt;
          next = (elim goes.0 [ inl e ↦ inl (omega arith) | inr e ↦ inr (omega (arith, e.0)) ], goes.1);
          ends = refl;
        }

-- ---- the pages of a segment

abbrev BeginWith : List Piece → List PlainPage → Type 0
BeginWith [] pages = Unit {0}
BeginWith (piece ∷ pieces) [] = Unit {0}
BeginWith (piece ∷ pieces) (page ∷ pages) = first_record page ≡ piece.number

-- pages of these pieces behind a page of this trace, where this record is the next
record CarryBehind (traces : Traces) (next : ℕ) (trace : TraceId) (pieces : List Piece) (pages : List PlainPage) : Type 0 where
  begins : BeginWith pieces pages
  follow : AllFollow next trace pages
  ends : end_from next pages ≡ behind next pieces
  each : AllByRecursion (CarriesRecords traces) pages

pages_behind : (most size : ℕ) (traces : Traces) (next : ℕ) (trace : TraceId) (pieces : List Piece) → length pieces ≤ most → Continues size next pieces
    → AllByRecursion (IsPiece size traces trace) pieces → CarryBehind traces next trace pieces (map (λ pieces. record { trace = trace; pieces = pieces }) (runs_within most size pieces))
pages_behind zero size traces next trace [] few goes each = record { begins = tt; follow = tt; ends = refl; each = tt }
pages_behind zero size traces next trace (piece ∷ pieces) few goes each = absurd (omega arith)
pages_behind (suc most) size traces next trace [] few goes each = record { begins = tt; follow = tt; ends = refl; each = tt }
pages_behind (suc most) size traces next trace (piece ∷ pieces) few goes each =
    let cost : 0 + cost_of piece ≡ cost_of piece = omega arith in
    let fits : nat_le (0 + cost_of piece) (page_room size) ≡ true = le-leb (0 + cost_of piece) (page_room size) (omega (arith, each.0.narrow)) in
    let k = taken size (0 + cost_of piece) pieces in
    let rest = drop k pieces in
    let parted = all-parted (IsPiece size traces trace) k pieces each.1 in
    let run = is_run size (0 + cost_of piece) piece pieces (omega arith) goes.1 in
    let page : PlainPage = record { trace = trace; pieces = piece ∷ take k pieces } in
    let end : piece.number + 1 + length (take k pieces) ≡ end_of page = omega arith in
    let fewer : length rest ≤ most = omega (arith, length-drop k pieces) in
    let later =
    pages_behind most size traces (end_of page) trace rest fewer (subst (λ n. Continues size n rest) end run.next) parted.1 in
    let takes : count_within (page_room size) (map cost_of (piece ∷ pieces)) ≡ suc k = ap (λ b. cond b (1 + k) 0) fits ∙ one-add k in
    let runs : map (λ pieces. record { trace = trace; pieces = pieces }) (runs_within (suc most) size (piece ∷ pieces))
    ≡ page ∷ map (λ pieces. record { trace = trace; pieces = pieces }) (runs_within most size rest) =
    ap (λ n. map (λ pieces. record { trace = trace; pieces = pieces }) (take n (piece ∷ pieces) ∷ runs_within most size (drop n (piece ∷ pieces)))) takes in
    subst (CarryBehind traces next trace (piece ∷ pieces)) (sym runs)
    (record {
      begins = refl;
      follow = (elim goes.0 [ inl e ↦ inl e | inr e ↦ inr (refl, e) ], later.follow);
      ends = later.ends ∙ ap (λ n. behind n rest) (sym end) ∙ run.ends;
      each = (record { some = omega arith; rises = (refl, run.rises); traced = (each.0.traced, all-traced size traces trace (take k pieces) parted.0) }, later.each);
    })

from_follow : (number next : ℕ) (trace : TraceId) (piece : Piece) (pieces : List Piece) (pages : List PlainPage) → piece.number ≡ number → BeginWith (piece ∷ pieces) pages
    → AllFollow next trace pages → AreNumberedFrom number pages
from_follow number next trace piece pieces [] is begins follow = tt
from_follow number next trace piece pieces (page ∷ pages) is begins follow = (begins ∙ is, follow.1)

segment_is : (size number : ℕ) (traces : Traces) (trace : TraceId) (pieces : List Piece) (last : ℕ) → GoesFrom size number pieces → behind number pieces ≡ last
    → AllByRecursion (IsPiece size traces trace) pieces → CarryRecords traces number (segment_pages size (record { trace = trace; pieces = pieces })) last
segment_is size number traces trace [] last goes ends each = record { numbered = tt; ends = ends; each = tt }
segment_is size number traces trace (piece ∷ pieces) last goes ends each =
    let pages = segment_pages size (record { trace = trace; pieces = piece ∷ pieces }) in
    let are = pages_behind (length (piece ∷ pieces)) size traces number trace (piece ∷ pieces) (omega arith) (inl goes.0, goes.1) each in
    record {
      numbered = from_follow number number trace piece pieces pages goes.0 are.begins are.follow;
      ends = are.ends ∙ ends;
      each = are.each;
    }

-- ---- the pages of operations

followed : (next : ℕ) (trace : TraceId) (pages more : List PlainPage) → AllFollow next trace pages → AreNumberedFrom (end_from next pages) more → AllFollow next trace (pages ++ more)
followed next trace [] [] follow numbered = tt
followed next trace [] (page ∷ more) follow numbered = (inl numbered.0, numbered.1)
followed next trace (page ∷ pages) more follow numbered = (follow.0, followed (end_of page) page.trace pages more follow.1 numbered)

numbered-append : (number : ℕ) (pages more : List PlainPage) → AreNumberedFrom number pages → AreNumberedFrom (end_from number pages) more → AreNumberedFrom number (pages ++ more)
numbered-append number [] more here there = there
numbered-append number (page ∷ pages) more here there = (here.0, followed (end_of page) page.trace pages more here.1 there)

end_from-append : (number : ℕ) (pages more : List PlainPage) → end_from number (pages ++ more) ≡ end_from (end_from number pages) more
end_from-append number [] more = refl
end_from-append number (page ∷ pages) more = end_from-append (end_of page) pages more

pages-append : (traces : Traces) (number middle last : ℕ) (pages more : List PlainPage) → CarryRecords traces number pages middle → CarryRecords traces middle more last
    → CarryRecords traces number (pages ++ more) last
pages-append traces number middle last pages more here there =
    record {
      numbered = numbered-append number pages more here.numbered (subst (λ n. AreNumberedFrom n more) (sym here.ends) there.numbered);
      ends = end_from-append number pages more ∙ ap (λ n. end_from n more) here.ends ∙ there.ends;
      each = all_append (CarriesRecords traces) pages more here.each there.each;
    }

-- the pages of the segments that begin in these operations
abbrev later_pages : ℕ → ℕ → List Operation → List PlainPage
later_pages size number ops = flat_map (segment_pages size) (segments_from size number ops)

mutual
  closed-pages : (size : ℕ) (traces : Traces) (place number : ℕ) (ops : List Operation) → MIN_SIZE ≤ size → AreBracketed false ops → Agree traces number (records_from place None ops)
      → CarryRecords traces number (later_pages size number ops) (number + length (records_from place None ops))
  closed-pages size traces place number [] wide well agree = record { numbered = tt; ends = omega arith; each = tt }
  closed-pages size traces place number (Begin trace ∷ ops) wide well agree =
      let are = segment_well size traces trace (place + 1) number ops wide well.1 agree in
      let pieces = pieces_until_end size number ops in
      pages-append traces number (number + points ops) (number + length (records_from (place + 1) (Some trace) ops)) (segment_pages size (record { trace = trace; pieces = pieces })) (later_pages size number ops)
      (segment_is size number traces trace pieces (number + points ops) are.goes are.ends are.each) (open-pages size traces trace (place + 1) number ops wide well.1 agree)
  closed-pages size traces place number (Fire trigger ∷ ops) wide well agree = closed-pages size traces (place + 1) number ops wide well agree
  closed-pages size traces place number (operation ∷ ops) wide well agree = absurd (true≢false (sym well.0))

  open-pages : (size : ℕ) (traces : Traces) (trace : TraceId) (place number : ℕ) (ops : List Operation) → MIN_SIZE ≤ size → AreBracketed true ops
      → Agree traces number (records_from place (Some trace) ops)
      → CarryRecords traces (number + points ops) (later_pages size number ops) (number + length (records_from place (Some trace) ops))
  open-pages size traces trace place number [] wide well agree = absurd (true≢false well)
  open-pages size traces trace place number (Begin next ∷ ops) wide well agree = absurd (true≢false well.0)
  open-pages size traces trace place number (End ∷ ops) wide well agree =
      let here : number ≡ number + 0 = omega arith in
      subst (λ n. CarryRecords traces n (later_pages size number ops) (number + length (records_from (place + 1) None ops))) here (closed-pages size traces (place + 1) number ops wide well.1 agree)
  open-pages size traces trace place number (Point moment payload ∷ ops) wide well agree =
      let r : Record = record { trace = trace; moment = moment; payload = payload } in
      let rest = records_from (place + 1) (Some trace) ops in
      let start : number + 1 + points ops ≡ number + (points ops + 1) = omega arith in
      let last : number + 1 + length rest ≡ number + suc (length rest) = omega arith in
      let later = open-pages size traces trace (place + 1) (number + 1) ops wide well.1 (agree-tail traces number r rest agree) in
      subst (λ n. CarryRecords traces (number + (points ops + 1)) (later_pages size (number + 1) ops) n) last
      (subst (λ n. CarryRecords traces n (later_pages size (number + 1) ops) (number + 1 + length rest)) start later)
  open-pages size traces trace place number (Crumb node ∷ ops) wide well agree = open-pages size traces trace (place + 1) number ops wide well.1 agree
  open-pages size traces trace place number (Fire trigger ∷ ops) wide well agree = open-pages size traces trace (place + 1) number ops wide well agree
  open-pages size traces trace place number (Sample moment auto value ∷ ops) wide well agree = open-pages size traces trace (place + 1) number ops wide well.1 agree

-- ---- all pages of a client

pub pages_are : (size : ℕ) (ops : List Operation) → MIN_SIZE ≤ size → AreBracketed false ops → CarryRecords (traces_of (records_of ops)) 0 (pages_of size ops) (length (records_of ops))
pages_are size ops wide bracketed =
    let traces = traces_of (records_of ops) in
    let all : 0 + length (records_of ops) ≡ length (records_of ops) = omega arith in
    subst (CarryRecords traces 0 (pages_of size ops)) all
    (closed-pages size traces 0 0 ops wide bracketed (λ k. let here : 0 + k ≡ k = omega arith in ap traces here))
