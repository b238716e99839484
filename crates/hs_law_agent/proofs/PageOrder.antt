-- Pages at rising places rise client by client, where all pages do.
use Rattle.std.proofs.Common.{◌≡◌, ℕ, zero, suc, ◌<◌, List, [], ◌∷◌, refl, arith, Option, Some, None, subst}
use Rattle.hs_law_agent.proofs.Prelude.{slice_get, option_map, AllByRecursion, cons_option, Sheet, Taken, after, AreRising, sheets_of}
use Rattle.hs_law_agent.specs.Laws.{PagesRise, sheets_at, reported_of, ClientsPagesRise}
use Rattle.hs_law_agent.proofs.Ordered.{reported_in_order}

abbrev sheet_at : List Taken → ℕ → Option Sheet
sheet_at taken place = option_map (λ (chunk : Taken). chunk.sheet) (slice_get taken place)

abbrev Below : Sheet → Sheet → Type 0
Below sheet later = later.header.client ≡ sheet.header.client → sheet.header.page < later.header.page

-- a later page is below
all_at : (sheet : Sheet) (taken : List Taken) (q : ℕ) (b : Sheet) → AllByRecursion (Below sheet) (sheets_of taken) → sheet_at taken q ≡ Some b → Below sheet b
all_at sheet [] q b all e = absurd cc
all_at sheet (c ∷ taken) zero b all e = let same : c.sheet ≡ b = cc in subst (Below sheet) same all.0
all_at sheet (c ∷ taken) (suc q) b all e = all_at sheet taken q b all.1 e

pages_at : (taken : List Taken) (p q : ℕ) (a b : Sheet) → PagesRise (sheets_of taken) → p < q → sheet_at taken p ≡ Some a → sheet_at taken q ≡ Some b → Below a b
pages_at [] p q a b rise lt e f = absurd cc
pages_at (c ∷ taken) p zero a b rise lt e f = absurd (omega arith)
pages_at (c ∷ taken) zero (suc q) a b rise lt e f = let same : c.sheet ≡ a = cc in subst (λ s. Below s b) same (all_at c.sheet taken q b rise.0 f)
pages_at (c ∷ taken) (suc p) (suc q) a b rise lt e f = pages_at taken p q a b rise.1 (omega arith) e f

all_later : (taken : List Taken) (p : ℕ) (a : Sheet) (places : List ℕ) → PagesRise (sheets_of taken) → sheet_at taken p ≡ Some a → AllByRecursion (λ q. p < q) places → AllByRecursion (Below a) (sheets_at taken places)
all_later taken p a [] rise e all = tt
all_later taken p a (q ∷ places) rise e all = go (sheet_at taken q) refl (all_later taken p a places rise e all.1)
  where
    go : (o : Option Sheet) → sheet_at taken q ≡ o → AllByRecursion (Below a) (sheets_at taken places) → AllByRecursion (Below a) (cons_option o (sheets_at taken places))
    go None f ih = ih
    go (Some b) f ih = (pages_at taken p q a b rise all.0 e f, ih)

rise_at : (taken : List Taken) (places : List ℕ) → PagesRise (sheets_of taken) → AreRising places → PagesRise (sheets_at taken places)
rise_at taken [] rise r = tt
rise_at taken (p ∷ places) rise r = go (sheet_at taken p) refl (rise_at taken places rise r.1)
  where
    go : (o : Option Sheet) → sheet_at taken p ≡ o → PagesRise (sheets_at taken places) → PagesRise (cons_option o (sheets_at taken places))
    go None f ih = ih
    go (Some a) f ih = (all_later taken p a places rise f r.0, ih)

pub clients_pages_rise : ClientsPagesRise
clients_pages_rise settings node events trace rise =
    rise_at (after settings node events).taken (reported_of (after settings node events) trace) rise (reported_in_order settings node events trace)
