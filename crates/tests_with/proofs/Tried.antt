-- An agent that was asked to take an input whole: it did, or nothing changed.
use Rattle.std.proofs.Common.{◌≡◌, ℕ, ◌+◌, [], ◌∷◌, ◌++◌, length, true, false, Bool, refl, sym, ap, subst, ◌∙◌, arith, length-append}
use Rattle.std.specs.Prelude.{Result, Ok, Err, OnOk, OnErr, IsErr}
use Rattle.std.proofs.lemmas.Bool.{false≢true}
use Rattle.hs_base.specs.Rules.{is_declared}
use Rattle.hs_law_agent.specs.State.{start as begin}
use Rattle.hs_law_agent.specs.Stepping.{Input, Took}
use Rattle.hs_agent.specs.Keeping.{PlainAgent}
use Rattle.hs_agent.specs.Runs.{AgentRun, Follows, IsSpent}
use Rattle.tests_with.specs.Ready.{first_id, IsRested, IsReady}

unspent : (b : Bool) → (b ≡ true → false ≡ true) → b ≡ false
unspent true f = absurd (false≢true (f refl))
unspent false f = refl

module _ {L : Type 0} where
  -- one event more
  pub rested_more : (events : ℕ) (run next : AgentRun L) (input : Input) → next.settings ≡ run.settings → next.node ≡ run.node → next.start ≡ run.start → next.offered ≡ run.offered → next.events ≡ run.events ++ Took input ∷ []
      → IsRested events run → IsRested (events + 1) next
  rested_more events run next input settings node start offered more h =
      let few = h.few in
      let long = ap length more ∙ length-append run.events (Took input ∷ []) in
      record {
        site = record {
          node = node ∙ h.site.node;
          size = ap (λ s. s.size) settings ∙ h.site.size;
          nodes = ap (λ s. s.nodes) settings ∙ h.site.nodes;
          declared = subst (λ s. is_declared s.triggers first_id ≡ true) (sym settings) h.site.declared;
          begins = start ∙ h.site.begins ∙ ap begin (sym settings);
        };
        few = omega (arith, few, long);
        offered = offered ∙ h.offered;
      }

  pub ready_after : {A E : Type 0} (r : Result A E) (events : ℕ) (old new : PlainAgent L) (next : AgentRun L → AgentRun L) → IsReady events old
      → ((run : AgentRun L) → Follows old run → OnOk r (Follows new (next run))) → OnErr r (new ≡ old) → (IsSpent old → IsErr r)
      → ((run : AgentRun L) → IsRested events run → IsRested (events + 1) (next run)) → IsReady (events + 1) new
  ready_after (Ok a) events old new next ready after same stays rest = λ working.
      let known = ready (unspent old.spent stays) in
      (next known.0, after known.0 known.1, rest known.0 known.2)
  ready_after (Err e) events old new next ready after same stays rest = λ working.
      let known = ready (ap (λ (k : PlainAgent L). k.spent) (sym same) ∙ working) in
      let few = known.2.few in
      (known.0, subst (λ (k : PlainAgent L). Follows k known.0) (sym same) known.1, record { site = known.2.site; few = omega (arith, few); offered = known.2.offered })
