-- A client whose place stays behind its pages.
use Rattle.std.proofs.Common.{◌≡◌, ℕ, ◌+◌, ◌≤◌, ◌++◌, ◌∷◌, [], List, length, Option, Some, None, IsSome, refl, sym, ap, ◌∙◌, subst, append-nil, arith}
use Rattle.hs_base.specs.declared.limits.TheConstants.{MIN_SIZE}
use Rattle.hs_client.specs.Core.{Current, all_pages}
use Rattle.hs_live.specs.declared.called.Called.{Called}
use Rattle.hs_live.specs.declared.called.Called.TheVariants as called
use Rattle.hs_records.specs.Records.{piece_count}
use Rattle.hs_node_client.proofs.Prelude.{Core, NeedsPage, PlainClient, Does, Spends, counts, writing_of, End, Point, Leased}
use Rattle.hs_node_client.proofs.Paging.{point_open}
use Rattle.hs_node_client.specs.Paging.{IsBehind, PointsTakePages, EndsTakeNone}
use Rattle.hs_node_client.specs.declared.paged.NextPage.{NextPage}

pub pages_ended : (core : Core Leased) → core.current ≡ None → length (all_pages core) ≡ length core.pages
pages_ended core none = ap (λ (o : Option (Current Leased)). length (all_pages (record core { current = o }))) none ∙ ap length (append-nil core.pages)

none_open : {A : Type 0} (o : Option A) → o ≡ None → IsSome o → ⊥
none_open None none some = cc
none_open (Some a) none some = cc

pub ended_behind : EndsTakeNone → (answer : Called) (place : NextPage) (old new : PlainClient) → IsBehind place old → Does End answer old new → (answer ≡ called.Done → new.core.trace ≡ None)
    → Spends (counts 1 answer) (writing_of old) (writing_of new) → IsBehind place new
ended_behind takes called.Done place old new is does closes spends =
    let done = does is.made is.ops is.done in
    let taken = takes is.made is.ops old new is.done done in
    record {
      made = is.made;
      ops = is.ops ++ End ∷ [];
      done = done;
      core = is.core ∙ sym taken.renewed;
      page = omega (arith, is.page, taken.pages_are);
      within = omega (arith, is.within, spends.counted);
      few = omega (arith, is.few, spends.calls_are);
      ready = λ some none. absurd (none_open new.core.trace (closes refl) some);
    }
ended_behind takes called.Spent place old new is does closes spends = subst (IsBehind place) (sym does) is
ended_behind takes called.AlreadyOpen place old new is does closes spends = subst (IsBehind place) (sym does) is
ended_behind takes called.NoTrace place old new is does closes spends = subst (IsBehind place) (sym does) is
ended_behind takes called.TooWide place old new is does closes spends = subst (IsBehind place) (sym does) is

pub pointed_behind : PointsTakePages → (moment : ℕ) (payload : List ℕ) (place place' : NextPage) (old new : PlainClient) → IsBehind place old → Does (Point moment payload) called.Done old new → IsSome old.core.trace
    → NeedsPage old.core (length payload) → MIN_SIZE ≤ old.core.size → old.core.counted + piece_count old.core.size (length payload) ≤ old.core.calls
    → Spends (piece_count old.core.size (length payload)) (writing_of old) (writing_of new) → place'.core ≡ place.core → place'.page ≡ place.page + piece_count old.core.size (length payload) → IsBehind place' new
pointed_behind takes moment payload place place' old new is does opened needs least left spends core page =
    let done = does is.made is.ops is.done in
    let taken = takes moment payload is.made is.ops old new is.done done opened needs (is.ready opened) least left in
    record {
      made = is.made;
      ops = is.ops ++ Point moment payload ∷ [];
      done = done;
      core = core ∙ is.core ∙ sym taken.renewed;
      page = omega (arith, page, is.page, taken.pages_are);
      within = omega (arith, page, is.within, spends.counted);
      few = omega (arith, is.few, spends.calls_are);
      ready = λ some none. absurd (point_open moment payload is.made is.ops new done none);
    }
