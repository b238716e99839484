use Rattle.std.proofs.Common.{Some, refl, sym, ap, ◌∙◌}
use Rattle.hs_pins.proofs.Prelude.{set_value, same_id}
use Rattle.hs_pins.proofs.pins.would_attempt.Goals as goal

pub returns : goal.returns
returns c = (
  set_value (same_id c.args.trigger) c.args.buckets.now.entries c.attempt.new.self,
  record {
    before = c.copied.result;
    after = c.attempt.new.self;
    had = sym c.in-Some.ensures.value ∙ ap Some (sym c.copied.ensures);
    answers = c.attempt.ensures.answer;
    takes = record { burst = c.attempt.ensures.burst; rate = c.attempt.ensures.rate; taken = c.attempt.ensures.taken };
    has = refl;
  },
)
