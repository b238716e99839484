-- That the fates in a book follow what is noted of chunks that leave.
use Rattle.std.proofs.Common.{◌≡◌, ℕ, zero, suc, List, [], ◌∷◌, map, Option, Some, None, slice_get, slice_set, refl, sym, ap, ◌∙◌}
use Rattle.hs_base.specs.declared.told.Fate.{Fate}
use Rattle.hs_agent.proofs.Prelude.{option_map_or, Left, ChunkNote, Standing, standing_by, with_left}
use Rattle.hs_agent.specs.Leaving.{fate_by, with_fate}
use Rattle.hs_agent.proofs.NotedFates.{with_left-later}

with_fate-later : (place : ℕ) (fate : Fate) (first : Standing) (standings : List Standing) → with_fate (suc place) fate (first ∷ standings) ≡ first ∷ with_fate place fate standings
with_fate-later place fate first standings = by (slice_get standings place)
  where
    by : (found : Option Standing)
        → option_map_or (λ (standing : Standing). first ∷ slice_set standings place (record standing { fate = fate })) found (first ∷ standings)
        ≡ first ∷ option_map_or (λ (standing : Standing). slice_set standings place (record standing { fate = fate })) found standings
    by None = refl
    by (Some standing) = refl

pub standings_with : (place : ℕ) (left : Left) (marks : List ChunkNote) → map standing_by (with_left place (Some left) marks) ≡ with_fate place (fate_by (Some left)) (map standing_by marks)
standings_with place left [] = refl
standings_with zero left (mark ∷ marks) = refl
standings_with (suc place) left (mark ∷ marks) =
    ap (map standing_by) (with_left-later place (Some left) mark marks)
    ∙ ap (λ l. standing_by mark ∷ l) (standings_with place left marks)
    ∙ sym (with_fate-later place (fate_by (Some left)) (standing_by mark) (map standing_by marks))
