-- Draws that are given: whether a page gets a buffer is told ahead, draw by draw. The buffers are made for the purpose, each clear and of
-- one size.
use Rattle.std.specs.Prelude.{◌≡◌, ℕ, ◌≤◌, List, [], ◌∷◌, None}
use Rattle.hs_base.specs.declared.limits.TheConstants.{MIN_SIZE, MAX_SIZE}
use Rattle.hs_records.specs.declared.journal.Draw.{Draw}
use Rattle.hs_replay_client.specs.Wells.{Way}
use Rattle.hs_client.specs.Drawn.{has_buffer}
use Rattle.hs_words.specs.Chunks.{Contents}
use Rattle.hs_check_follow.specs.declared.script.DrawScript.{DrawScript}

pub record IsClearOf (size : ℕ) (chunk : Contents) : Type 0 where
  pub page : chunk.page ≡ None
  pub size_is : chunk.size ≡ size

-- The next of the draws that are left is made, and gets a buffer exactly where it says so. Where none is left, anything may be drawn.
abbrev pub FollowsNext : List Draw → Draw → List Draw → Type 0
FollowsNext [] draw left = left ≡ []
FollowsNext (next ∷ rest) draw left = (left ≡ rest) × (has_buffer draw ≡ has_buffer next)

pub record DrawsNext (old : DrawScript) (draw : Draw) (new : DrawScript) : Type 0 where
  pub size_is : new.size ≡ old.size
  pub next : FollowsNext old.left.items draw new.left.items

pub record MakesSize (script : DrawScript) (size : ℕ) : Type 0 where
  pub size_is : script.size ≡ size
  pub least : MIN_SIZE ≤ size
  pub most : size ≤ MAX_SIZE

abbrev pub script_way : Way DrawScript
script_way = record { ready = λ script size count. MakesSize script size; draws = DrawsNext }
