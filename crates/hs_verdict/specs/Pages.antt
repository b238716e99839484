-- Whether a hub has all pages of a trace that lives say they handed out. Messages overtake each other, so a life may say that its part is whole
-- before its last page comes.
use Rattle.std.specs.Prelude.{◌≡◌, Bool, true, false, ◌==◌, List, [], ◌∷◌, count_by, refl}
use Rattle.std.specs.List.{list_all}
use Rattle.std.specs.Option.{option_map_or}
use Rattle.hs_base.specs.declared.ids.TraceId.{TraceId}
use Rattle.hs_base.specs.Samples.{t}
use Rattle.hs_standings.specs.declared.answers.Latest.{Latest}
use Rattle.hs_standings.specs.declared.answers.Life.{Life}
use Rattle.hs_standings.specs.Standing.{PlainStandings, no_standings, lives_of, with_standing, whole_at, life}
use Rattle.hs_traces.specs.declared.key.PageKey.{PageKey}
use Rattle.hs_traces.specs.Keys.{is_from, key_at}
use Rattle.hs_traces.specs.Traces.{keys_in}
use Rattle.hs_verdict.specs.declared.pages.HeldPages.{HeldPages}
use Rattle.hs_verdict.specs.declared.pages.HeldPages.TheVariants as pages

-- the keys of these pages of a trace
abbrev pub pages_in : HeldPages → TraceId → List PageKey
pages_in (pages.Waiting traces) trace = keys_in traces.now.waiting trace
pages_in (pages.Out keys) trace = keys.now

-- whether as many of these pages are of a life as it says it handed out
abbrev pub is_full : List PageKey → Life × Latest → Bool
is_full keys entry = entry.1.standing.pages == count_by (is_from entry.0.node entry.0.epoch) keys

-- whether that is so of each life that spoke of a trace
abbrev pub are_full : PlainStandings → TraceId → List PageKey → Bool
are_full s trace keys = option_map_or (list_all (is_full keys)) (lives_of s.books trace) true

-- ---- worked examples: life 1 of node 3 says that it handed out one page of trace 9

abbrev one : PlainStandings
one = with_standing (no_standings 4) (t 9) (life 1) (whole_at 6)

counted : (are_full one (t 9) (key_at 3 1 0 0 0 ∷ []) ≡ true) × (are_full one (t 9) [] ≡ false) × (are_full one (t 9) (key_at 3 2 0 0 0 ∷ []) ≡ false) × (are_full one (t 8) [] ≡ true)
counted = (refl, refl, refl, refl)
