-- What a node says where each crumb was told.
use Rattle.std.proofs.Common.{◌≡◌, ℕ, eqb-true, Bool, true, false, ◌||◌, refl, sym, ap, ◌∙◌}
use Rattle.std.specs.Prelude.{if◌then◌else◌}
use Rattle.hs_base.specs.declared.node_set.NodeSet.{NodeSet}
use Rattle.hs_base.specs.NodeSets.{has_node, either}
use Rattle.hs_base.specs.NodeSetLaws.{has-either}
use Rattle.hs_wire.specs.declared.message.Wholeness.{Wholeness}
use Rattle.hs_wire.specs.declared.message.Wholeness.TheVariants.{WholeSince, Lost, UnheardSince, Unknown, Open}
use Rattle.hs_node.specs.Told.{are_told, told_wholeness}

all_told : (crumbs told : NodeSet) → are_told crumbs told ≡ true → (node : ℕ) → has_node crumbs node ≡ true → has_node told node ≡ true
all_told crumbs told is node on =
    ap (λ (m : ℕ). has_node (record { 0 = m }) node) (sym (eqb-true (either crumbs told).0 told.0 is)) ∙ has-either crumbs told node ∙ ap (λ b. b || has_node told node) on

-- each of these crumbs was named for the claim's group, or for a group that claims the trace
pub all_named : (crumbs own all : NodeSet) → (are_told crumbs own || are_told crumbs all) ≡ true → (node : ℕ) → has_node crumbs node ≡ true → (has_node own node || has_node all node) ≡ true
all_named crumbs own all is node on = at (are_told crumbs own) refl is
  where
    or_right : (a b : Bool) → b ≡ true → (a || b) ≡ true
    or_right true b on = refl
    or_right false b on = on

    at : (b : Bool) → are_told crumbs own ≡ b → (b || are_told crumbs all) ≡ true → (has_node own node || has_node all node) ≡ true
    at true told is = ap (λ b. b || has_node all node) (all_told crumbs own told node on)
    at false none is = or_right (has_node own node) (has_node all node) (all_told crumbs all is node on)

pub says_whole : (told : Bool) (w : Wholeness) → told_wholeness told w ≡ WholeSince → (told ≡ true) × (w ≡ WholeSince)
says_whole true WholeSince is = (refl, refl)
says_whole false WholeSince is = let never : Unknown ≡ WholeSince = is in absurd cc
says_whole told Lost is = let never : Lost ≡ WholeSince = is in absurd cc
says_whole true UnheardSince is = let never : UnheardSince ≡ WholeSince = is in absurd cc
says_whole false UnheardSince is = let never : Unknown ≡ WholeSince = is in absurd cc
says_whole told Unknown is = let never : Unknown ≡ WholeSince = is in absurd cc
says_whole told Open is = let never : Open ≡ WholeSince = is in absurd cc

pub says_unheard : (told : Bool) (w : Wholeness) → told_wholeness told w ≡ UnheardSince → told ≡ true
says_unheard true w is = refl
says_unheard false WholeSince is = let never : Unknown ≡ UnheardSince = is in absurd cc
says_unheard false Lost is = let never : Lost ≡ UnheardSince = is in absurd cc
says_unheard false UnheardSince is = let never : Unknown ≡ UnheardSince = is in absurd cc
says_unheard false Unknown is = let never : Unknown ≡ UnheardSince = is in absurd cc
says_unheard false Open is = let never : Open ≡ UnheardSince = is in absurd cc
