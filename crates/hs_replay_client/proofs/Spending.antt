-- What calls spend, one behind another.
use Rattle.std.proofs.Common.{◌≡◌, ℕ, ◌+◌, ◌≤◌, List, [], ◌∷◌, ◌++◌, refl, sym, ap, ◌∙◌, subst, arith, append_assoc, length-append}
use Rattle.hs_replay_client.proofs.Prelude.{append-nil, Draw, Core, Way, IsReadyFor, DrawsAll, Spends, CountsOne}

module _ {P : Type 0} (way : Way P) where
  pub draws_both : (first second : List Draw) (well middle well' : P) → DrawsAll way first well middle → DrawsAll way second middle well' → DrawsAll way (first ++ second) well well'
  draws_both [] second well middle well' h l = subst (λ (p : P). DrawsAll way second p well') (sym h) l
  draws_both (draw ∷ first) second well middle well' h l = (h.0, h.1, draws_both first second h.0 middle well' h.2 l)

  -- ready for some is ready for fewer
  pub ready_less : (well : P) (size more less : ℕ) → less ≤ more → IsReadyFor way well size more → IsReadyFor way well size less
  ready_less well size more less low ready = λ fewer few. ready fewer (omega (arith, few, low))

  pub spends_none : (calls : ℕ) (core : Core (Unit {0})) (well : P) → Spends way calls core core well well
  spends_none calls core well =
      record {
        size_is = refl;
        calls_are = refl;
        counted = omega arith;
        drawn = [];
        few = omega arith;
        notes = sym (append-nil core.draws);
        draws = refl;
        ready = λ size more ready. ready_less well size (more + calls) more (omega arith) ready;
      }

  pub spends_more : (m n k : ℕ) (a b c : Core (Unit {0})) (well middle well' : P) → m + n ≡ k → Spends way m a b well middle → Spends way n b c middle well' → Spends way k a c well well'
  spends_more m n k a b c well middle well' sum h l =
      let both = length-append h.drawn l.drawn in
      record {
        size_is = l.size_is ∙ h.size_is;
        calls_are = l.calls_are ∙ h.calls_are;
        counted = omega (arith, l.counted, h.counted, sum);
        drawn = h.drawn ++ l.drawn;
        few = omega (arith, both, h.few, l.few, sum);
        notes = l.notes ∙ ap (λ (draws : List Draw). draws ++ l.drawn) h.notes ∙ append_assoc a.draws h.drawn l.drawn;
        draws = draws_both h.drawn l.drawn well middle well' h.draws l.draws;
        ready =
            λ size more ready.
            let all : more + k ≡ (more + n) + m = omega (arith, sum) in
            l.ready size more (h.ready size (more + n) (subst (IsReadyFor way well size) all ready));
      }

  -- a call that draws nothing
  pub spends_one : (old new : Core (Unit {0})) (well : P) → CountsOne old new → Spends way 1 old new well well
  spends_one old new well one =
      record {
        size_is = one.size_is;
        calls_are = one.calls_are;
        counted = omega (arith, one.counted);
        drawn = [];
        few = omega arith;
        notes = one.draws ∙ sym (append-nil old.draws);
        draws = refl;
        ready = λ size more ready. ready_less well size (more + 1) more (omega arith) ready;
      }
