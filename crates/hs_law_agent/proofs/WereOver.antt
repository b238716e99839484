-- What was evicted was so where more was indexed than may stay: an eviction begins with that, and no other change evicts.
use Rattle.std.proofs.Common.{◌≡◌, ◌⊎◌, inl, inr, ℕ, suc, ◌<◌, Bool, true, false, ◌||◌, cond, List, [], ◌∷◌, ◌++◌, length}
use Rattle.hs_law_agent.proofs.Prelude.{nat_lt, ltb-true, or_cases, PlainSettings, ChunkStanding, Indexed, Pinned, Reported, Evicted, Abandoned, Taken, indexed_count, is_among, moved_from, AgentState, reported_standing}
use Rattle.hs_law_agent.specs.Laws.{WasOver, AllWereOver, EvictedWereOver}
use Rattle.hs_law_agent.proofs.Traversal.{IsKept, kept_after}

module _ (settings : PlainSettings) where
  over_from : (chunks traces : ℕ) → (nat_lt settings.threshold chunks || nat_lt settings.traces traces) ≡ true → (settings.threshold < chunks) ⊎ (settings.traces < traces)
  over_from chunks traces h =
      elim (or_cases (nat_lt settings.threshold chunks) (nat_lt settings.traces traces) h) as (λ _. (settings.threshold < chunks) ⊎ (settings.traces < traces)) [
        | inl first ↦ inl (ltb-true settings.threshold chunks first)
        | inr second ↦ inr (ltb-true settings.traces traces second)
      ]

  abbrev Keeps : (ChunkStanding → ChunkStanding) → Type 0
  Keeps change = (standing : ChunkStanding) → WasOver settings standing → WasOver settings (change standing)

  move_case : (chunk : Taken) (change : ChunkStanding → ChunkStanding) (b : Bool) → Keeps change → WasOver settings chunk.standing → WasOver settings (cond b (record chunk { standing = change chunk.standing }) chunk).standing
  move_case chunk change true keeps h = keeps chunk.standing h
  move_case chunk change false keeps h = h

  moves : (from : ℕ) (places : List ℕ) (change : ChunkStanding → ChunkStanding) (taken : List Taken) → Keeps change → AllWereOver settings taken → AllWereOver settings (moved_from from places change taken)
  moves from places change [] keeps all = tt
  moves from places change (chunk ∷ taken) keeps all = (move_case chunk change (is_among places from) keeps all.0, moves (suc from) places change taken keeps all.1)

  reports : Keeps reported_standing
  reports Indexed h = tt
  reports (Pinned group) h = tt
  reports (Reported group) h = tt
  reports (Evicted chunks traces) h = h
  reports (Abandoned group) h = tt

  one_more : (taken : List Taken) (chunk : Taken) → AllWereOver settings taken → WasOver settings chunk.standing → AllWereOver settings (taken ++ chunk ∷ [])
  one_more [] chunk all h = (h, tt)
  one_more (first ∷ taken) chunk all h = (all.0, one_more taken chunk all.1 h)

  pub over_kept : (node : ℕ) → IsKept settings node (λ (s : AgentState). AllWereOver settings s.taken)
  over_kept node =
      record {
        evicts = λ trace later s touched over p.
            moves 0 _ (λ _. Evicted (indexed_count s.taken) (length s.touched)) s.taken (λ standing h. over_from (indexed_count s.taken) (length s.touched) over) p;
        claims = λ ask trace s free p. moves 0 _ (λ _. Pinned ask.group) s.taken (λ standing h. tt) p;
        abandons = λ group s chosen p. moves 0 _ (λ _. Abandoned group) s.taken (λ standing h. tt) p;
        visits = λ s share p. moves 0 _ reported_standing s.taken reports p;
        shares = λ shares s p. p;
        indexes = λ sheet s free p. one_more s.taken (record { sheet = sheet; standing = Indexed }) p tt;
        drops = λ sheet claim s had gone p. one_more s.taken (record { sheet = sheet; standing = Abandoned claim.group }) p tt;
        pins = λ sheet claim s had p. one_more s.taken (record { sheet = sheet; standing = Pinned claim.group }) p tt;
        touches = λ crumb s free p. p;
        tells = λ crumb claim s had new p. p;
        tries = λ trigger s p. p;
        counts = λ s p. p;
        says = λ told s p. p;
        notes = λ step s p. p;
        gives = λ stamp place hand s first p. p;
      }

pub evicted_were_over : EvictedWereOver
evicted_were_over settings node events = kept_after settings node (λ (s : AgentState). AllWereOver settings s.taken) (over_kept settings node) tt events
