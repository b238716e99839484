use Rattle.std.proofs.Common.{◌≡◌, ℕ, List, Option, Some, None, Ok, Err, length, refl, sym, ◌∙◌, ap}
use Rattle.hs_workload.proofs.Prelude.{option_map, number_of, payload_of, value_or, words_in, Draft, draft_of, point_step}
use Rattle.hs_text.specs.WordsLeft.{next_word, last_word, payload_size}
use Rattle.hs_workload.specs.declared.refusal.Reason.TheVariants as reasons
use Rattle.hs_workload.proofs.draft.Reader.point.Goals as goal

no_size : (o : Option (List ℕ)) → option_map length o ≡ None → o ≡ None
no_size None is = refl
no_size (Some bytes) is = cc

-- a word that is no payload, behind a number
no_payload : (d : Draft) (words others : List (List ℕ)) (first second : List ℕ) (moment : ℕ) → next_word reasons.Count words ≡ Ok (first, others) → last_word reasons.Count others ≡ Ok second
    → value_or reasons.Number (number_of first) ≡ Ok moment → payload_of second ≡ None → point_step d words ≡ Err reasons.Hex
unfolding point_step
no_payload d words others first second moment one two said none = rw (one, two, said, none) refl

pub returns-in_default : goal.returns-in_default
returns-in_default c =
    let size : payload_size c.in_ok-word.word.now ≡ None = cc c.in_ok-word.ensures.size in
    no_payload (draft_of c.args.self.now) _ _ _ c.in_ok-word.word.now _ c.in_ok-moment.ensures c.in_ok-word.ensures.word c.in_ok-moment-2.ensures (no_size (payload_of c.in_ok-word.word.now) size)
