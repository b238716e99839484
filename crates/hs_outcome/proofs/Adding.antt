-- Pages that are added in their order.
use Rattle.std.proofs.Common.{ℕ, ◌<◌, ◌≤◌, List, length, get_or, take, ◌^◌, sym, subst, arith}
use Rattle.hs_outcome.proofs.Prelude.{get_or-take, length-take, CanBeAdded, Sheets, Sheet, Reported, SpellAll, bytes_of}
use Rattle.std.proofs.lemmas.List.{get_or_default}
use Rattle.std.proofs.lemmas.List.Elements.{All-take}
use Rattle.hs_collect.specs.Collected.{CanPrecede, end_of}
use Rattle.hs_outcome.proofs.Sent.{Beside, sheet_at}

pub page_at : (k : ℕ) (sheets : Sheets) (pages : List Reported) (d : Reported) → SpellAll sheets (bytes_of pages) → k < length pages → Beside (λ (p : Reported). p.bytes.now) sheets k (get_or pages k d)
page_at k sheets pages d all lt = sheet_at (λ (p : Reported). p.bytes.now) k sheets pages (get_or pages k d) all.valid all.are lt (get_or_default pages k d (get_or pages k d) lt)

-- the front of pages that can be added can be added
pub can_front : (n : ℕ) (sheets : Sheets) → CanBeAdded sheets → CanBeAdded (take n sheets)
can_front n sheets can =
    record {
      pairs = λ i j d before within.
          let bound = length-take n sheets in
          let a = get_or-take n sheets i d (omega arith) in
          let b = get_or-take n sheets j d (omega arith) in
          subst (λ (s : Sheet). CanPrecede s (get_or (take n sheets) j d)) (sym a) (subst (λ (s : Sheet). CanPrecede (get_or sheets i d) s) (sym b) (can.pairs i j d before (omega arith)));
      fits = All-take (λ (sheet : Sheet). end_of sheet ≤ 2 ^ 32) n sheets can.fits;
    }
