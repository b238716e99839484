use Rattle.std.proofs.Common.{rules, not, filter, ap, ◌∙◌}
use Rattle.std.proofs.lemmas.Fn.{filter_same}
use Rattle.hs_base.specs.Listing.{Listing}
use Rattle.hs_records.specs.declared.books.Claim.{Claim}
use Rattle.hs_pins.specs.Priorities.{same_group}
use Rattle.hs_agent.proofs.claim_notes.drop_notes.Goals as goal

pub returns : goal.returns
returns c =
    c.from_vec.ensures.items
    ∙ filter_same _ (λ (claim : Claim). not (same_group c.args.group claim.group)) _ (λ x b f' k. search rules) _ _ c.retain.ensures.filtered
    ∙ ap (filter (λ (claim : Claim). not (same_group c.args.group claim.group))) (c.into_vec-kept.ensures.items ∙ ap (λ (l : Listing Claim). l.items) c.replace.ensures.value)
