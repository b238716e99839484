-- What a source lost, what a sink gained and what a counter counted, over several calls.
use Rattle.std.proofs.Common.{◌≡◌, ℕ, List, [], ◌++◌, Option, Some, None, IfSome, ◌↔◌, ◌⊎◌, inl, inr, refl, sym, ap, ◌∙◌, arith, append_assoc}
use Rattle.std.proofs.lemmas.List.{append-nil}
use Rattle.hs_base.specs.Outside.{Rose, Loses, Gains}
use Rattle.hs_workload.specs.Written.{GainsFront}
use Rattle.hs_workload.specs.declared.status.Status.{Status}
use Rattle.hs_workload.specs.declared.status.Status.TheVariants.{WriteFault}

pub Gains-nil : (a : Option (List ℕ)) → Gains a a []
Gains-nil None = refl
Gains-nil (Some xs) = sym (append-nil xs)

pub Gains-trans : (a b c : Option (List ℕ)) (x y : List ℕ) → Gains a b x → Gains b c y → Gains a c (x ++ y)
Gains-trans None None c x y p q = q
Gains-trans None (Some bs) c x y p q = cc
Gains-trans (Some as') None c x y p q = absurd p
Gains-trans (Some as') (Some bs) None x y p q = absurd q
Gains-trans (Some as') (Some bs) (Some cs) x y p q = q ∙ ap (λ zs. zs ++ y) p ∙ append_assoc as' x y

pub Loses-nil : (a : Option (List ℕ)) → Loses a a []
Loses-nil None = refl
Loses-nil (Some xs) = refl

pub Loses-trans : (a b c : Option (List ℕ)) (x y : List ℕ) → Loses a b x → Loses b c y → Loses a c (x ++ y)
Loses-trans None None c x y p q = q
Loses-trans None (Some bs) c x y p q = cc
Loses-trans (Some as') None c x y p q = absurd p
Loses-trans (Some as') (Some bs) None x y p q = absurd q
Loses-trans (Some as') (Some bs) (Some cs) x y p q = p ∙ ap (λ zs. x ++ zs) q ∙ sym (append_assoc x y cs)

-- a count that stood still and then rose
pub Rose-since : (before mid after : ℕ) → mid ≡ before → Rose mid after → Rose before after
Rose-since before mid after still (inl p) = inl (omega arith)
Rose-since before mid after still (inr p) = inr p

-- a text in two parts, of which the first was written whole, and the second whole or in front
pub both_finished : (due result : Status) (a b c : Option (List ℕ)) (before mid after : ℕ) (front behind : List ℕ) → Gains a b front → mid ≡ before
    → (result ≡ due × (after ≡ mid) × Gains b c behind) ⊎ (result ≡ WriteFault × Rose mid after × GainsFront b c behind)
    → (result ≡ due × (after ≡ before) × Gains a c (front ++ behind)) ⊎ (result ≡ WriteFault × Rose before after × GainsFront a c (front ++ behind))
both_finished due result a b c before mid after front behind gains still (inl (is, quiet, more)) = inl (is, quiet ∙ still, Gains-trans a b c front behind gains more)
both_finished due result a b c before mid after front behind gains still (inr (is, rose, (first, rest, split, more))) =
    inr (is, Rose-since before mid after still rose, (front ++ first, rest, ap (λ t. front ++ t) split ∙ sym (append_assoc front first rest), Gains-trans a b c front first gains more))

-- a front of the first part is one of both
pub front_of_both : (a b : Option (List ℕ)) (front behind : List ℕ) → GainsFront a b front → GainsFront a b (front ++ behind)
front_of_both a b front behind (first, rest, split, gains) = (first, rest ++ behind, ap (λ t. t ++ behind) split ∙ append_assoc first rest behind, gains)

-- a read that gave nothing at the end of the known bytes left nothing
pub nothing_left : (old new : Option (List ℕ)) (bytes : List ℕ) → bytes ≡ [] → IfSome old (λ known. known ≡ []) → Loses old new bytes → IfSome new (λ rest. rest ≡ [])
nothing_left None None bytes none end lost = tt
nothing_left None (Some rest) bytes none end lost = cc
nothing_left (Some known) None bytes none end lost = absurd lost
nothing_left (Some known) (Some rest) bytes none end lost = sym (lost ∙ ap (λ front. front ++ rest) none) ∙ end

-- a read that gave nothing stood at the end of the known bytes
pub ended : (old : Option (List ℕ)) (count : ℕ) → count ≡ 0 → IfSome old (λ bytes. (count ≡ 0) ↔ (bytes ≡ [])) → IfSome old (λ bytes. bytes ≡ [])
ended None count zero end = tt
ended (Some bytes) count zero end = end.0 zero
