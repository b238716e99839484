-- Noting what is behind a pass.
use Rattle.std.proofs.Common.{◌≡◌, ℕ, Bool, true, false, List, [], ◌∷◌, ◌++◌, refl, sym, ap, ◌∙◌}
use Rattle.hs_check_follow.proofs.Prelude.{nil_behind, Notes, noted_if, hand_of, said_of, FollowedNode}

pub nothing_noted : (t : FollowedNode) (last : Bool) → last ≡ false → Notes last t t
nothing_noted t last is =
    record {
      follower = refl;
      next = refl;
      hands = λ W J run log s. nil_behind t.hands.items ∙ ap (λ b. t.hands.items ++ noted_if b (hand_of run.state)) (sym is);
      told = λ W J run log s. nil_behind t.told.items ∙ ap (λ b. t.told.items ++ noted_if b (said_of run.state)) (sym is);
    }

pub appended : (notes : List ℕ) (last : Bool) (count behind : ℕ) → last ≡ true → count ≡ behind → notes ++ count ∷ [] ≡ notes ++ noted_if last behind
appended notes last count behind is same = ap (λ n. notes ++ n ∷ []) same ∙ ap (λ b. notes ++ noted_if b behind) (sym is)
