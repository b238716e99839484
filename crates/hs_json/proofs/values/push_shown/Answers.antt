use Rattle.std.proofs.Common.{◌≡◌, ◌++◌, ◌∷◌, [], true, cond, map, sym, ap, ◌∙◌, subst, rules}
use Rattle.hs_collect.specs.Views.{placed_of}
use Rattle.hs_report.specs.OutcomeText.{placed_json}
use Rattle.hs_json.specs.Spelling.{SpellEach}
use Rattle.hs_json.proofs.Spelled.{spell_push}
use Rattle.hs_json.proofs.values.push_shown.Goals as goal

pub returns : goal.returns
returns c = λ entries texts are all.
    let was : c.was_reported.result ≡ true = search rules in
    subst (λ wholes. SpellEach c.push.new.self.items (texts ++ map placed_json wholes)) (ap (λ t. cond t (placed_of c.args.whole.now ∷ []) []) (sym was ∙ c.was_reported.ensures entries are))
    (spell_push c.args.values.now.items c.push.new.self.items _ texts _ all c.in_ok-record_value.ensures c.in_ok-push.ensures.items)
