use Rattle.std.proofs.Common.{◌≡◌, ℕ, List, ◌∷◌, take, sym, ap, ◌∙◌, subst}
use Rattle.circular_buffer.specs.Buffer.{Buffer}
use Rattle.hs_base.specs.declared.ids.TraceId.{TraceId}
use Rattle.hs_auto.specs.Firing.{values_of, traces_of}
use Rattle.hs_auto.specs.Watching.{Watch, HasSampled, reach_of}
use Rattle.hs_auto.specs.Windows.{Window}
use Rattle.hs_auto.specs.Rooms.{ranked_of, counted_of, looked_at}
use Rattle.hs_auto.proofs.AutoLemmas.{looked_joined, take_joined}
use Rattle.hs_auto.proofs.auto.Auto.sample.Goals as goal

pub returns-clause-after : goal.returns-clause-after
returns-clause-after c =
    let rule = c.self.inside.rule in
    let v = c.args.value in
    let t = c.args.trace in
    let ranked : c.push.new.self.values ≡ take (ranked_of rule) (v ∷ c.self.inside.ranked.values) =
    ap (λ (w : Window). w.values) c.push.ensures ∙ ap (λ n. take n (v ∷ c.self.inside.ranked.values)) c.self.invariant.ranked in
    let counted : c.push-2.new.self.values ≡ take (counted_of rule) (v ∷ c.self.inside.counted.values) =
    ap (λ (w : Window). w.values) c.push-2.ensures ∙ ap (λ n. take n (v ∷ c.self.inside.counted.values)) c.self.invariant.counted in
    let recent : c.push_front.new.self.items ≡ take (reach_of rule) (t ∷ c.self.inside.recent.items) =
    ap (λ (b : Buffer TraceId). b.items) c.push_front.ensures.items ∙ ap (λ n. take n (t ∷ c.self.inside.recent.items)) c.self.invariant.recent in
    λ samples given.
    let has : HasSampled (record { rule = rule; values = looked_at rule c.self.inside.ranked.values c.self.inside.counted.values; traces = c.self.inside.recent.items }) samples =
    subst (λ (w : Watch). HasSampled w samples) (sym c.self.view_is) given in
    record {
      values =
          ap (λ (p : List ℕ × List ℕ). looked_at rule p.0 p.1) (λ i. (ranked i, counted i))
          ∙ looked_joined rule c.self.inside.ranked.values c.self.inside.counted.values v (values_of samples) has.values;
      traces = recent ∙ ap (λ (xs : List TraceId). take (reach_of rule) (t ∷ xs)) has.traces ∙ take_joined (reach_of rule) t (traces_of samples);
    }
