use Rattle.std.proofs.Common.{ap, sym, ◌∙◌}
use Rattle.hs_pins.proofs.Prelude.{BucketState}
use Rattle.hs_pins.proofs.BucketLemmas.{refilled, left_if_limited, left_if_admitted, answer_if_limited, answer_if_admitted, takes}
use Rattle.hs_pins.proofs.bucket.Bucket.attempt.Goals as goal

pub returns-then-not-enough-clause-answer : goal.returns-then-not-enough-clause-answer
returns-then-not-enough-clause-answer c = λ earlier h.
    answer_if_limited c.args.self.now.burst c.args.self.now.rate c.args.moment c.self.inside.level earlier
    (refilled c.args.self.now c.args.moment c.self.inside.level earlier h (ap (λ (s : BucketState). s.level) c.self.view_is ∙ c.refill.ensures.level))
    (sym c.has_token-enough.ensures ∙ c.if-not-enough.true)

pub returns-then-not-enough-clause-taken : goal.returns-then-not-enough-clause-taken
returns-then-not-enough-clause-taken c = λ earlier h.
    let e = ap (λ (s : BucketState). s.level) c.self.view_is in
    let found = refilled c.args.self.now c.args.moment c.self.inside.level earlier h (e ∙ c.refill.ensures.level) in
    let left = left_if_limited c.args.self.now.burst c.args.self.now.rate c.args.moment c.self.inside.level earlier found (sym c.has_token-enough.ensures ∙ c.if-not-enough.true) in
    takes c.args.self.now c.refill.new.self c.args.moment earlier h c.refill.ensures.burst c.refill.ensures.rate c.refill.ensures.moment
    (sym e ∙ left)

pub returns-clause-answer : goal.returns-clause-answer
returns-clause-answer c = λ earlier h.
    answer_if_admitted c.args.self.now.burst c.args.self.now.rate c.args.moment c.self.inside.level earlier
    (refilled c.args.self.now c.args.moment c.self.inside.level earlier h (ap (λ (s : BucketState). s.level) c.self.view_is ∙ c.refill.ensures.level))
    (sym c.has_token-enough.ensures ∙ c.if-not-enough.false)

pub returns-clause-taken : goal.returns-clause-taken
returns-clause-taken c = λ earlier h.
    let found = refilled c.args.self.now c.args.moment c.self.inside.level earlier h (ap (λ (s : BucketState). s.level) c.self.view_is ∙ c.refill.ensures.level) in
    let left = left_if_admitted c.args.self.now.burst c.args.self.now.rate c.args.moment c.self.inside.level earlier found (sym c.has_token-enough.ensures ∙ c.if-not-enough.false) in
    takes c.args.self.now _ c.args.moment earlier h
    (ap (λ (s : BucketState). s.burst) c.self.view_is ∙ c.refill.ensures.burst)
    (ap (λ (s : BucketState). s.rate) c.self.view_is ∙ c.refill.ensures.rate)
    (ap (λ (s : BucketState). s.moment) c.self.view_is ∙ c.refill.ensures.moment) left
