-- One chunk more is let go; and what that leaves as it is.
use Rattle.std.proofs.Common.{◌≡◌, List, [], ◌∷◌, ◌++◌, map, refl, sym, ap, ◌∙◌}
use Rattle.hs_agent.proofs.Prelude.{append_assoc, map-append, fold-append, Pin, Tagged, Kept, Going, let_go, let_go_all, page_in, reported, reported_going}

module _ {L : Type 0} where
  pub let_go_more : (kept now next : Kept L) (goings : List (Going L)) (going : Going L) → now ≡ let_go_all kept goings → next ≡ let_go now going → next ≡ let_go_all kept (goings ++ going ∷ [])
  let_go_more kept now next goings going was is = is ∙ ap (λ k. let_go k going) was ∙ sym (fold-append let_go kept goings (going ∷ []))

  -- over items that each stand for a chunk that goes
  pub let_go_each : {A : Type 0} (f : A → Going L) (kept now next : Kept L) (items : List A) (item : A) → now ≡ let_go_all kept (map f items) → next ≡ let_go now (f item)
      → next ≡ let_go_all kept (map f (items ++ item ∷ []))
  let_go_each f kept now next items item was is = let_go_more kept now next (map f items) (f item) was is ∙ ap (let_go_all kept) (sym (map-append f items (item ∷ [])))

  -- the pins stay
  pub pins-let_go_all : (kept : Kept L) (goings : List (Going L)) → (let_go_all kept goings).pins ≡ kept.pins
  pins-let_go_all kept [] = refl
  pins-let_go_all kept (going ∷ goings) = pins-let_go_all (let_go kept going) goings

  -- the first of what was sent is reported
  pub reported_first : (kept : Kept L) (pin : Pin (Tagged L)) (rest : List (Pin (Tagged L))) (next : Kept L) → kept.sent ≡ pin ∷ rest
      → next ≡ let_go (record kept { sent = rest; pages = kept.pages ++ page_in pin ∷ [] }) (reported_going pin) → reported next ≡ reported kept
  reported_first kept pin rest next was is =
      ap reported is
      ∙ ap (λ pages. let_go_all (let_go (record kept { sent = []; pages = pages }) (reported_going pin)) (map reported_going rest)) (append_assoc kept.pages (page_in pin ∷ []) (map page_in rest))
      ∙ ap (λ sent. let_go_all (record kept { sent = []; pages = kept.pages ++ map page_in sent }) (map reported_going sent)) (sym was)
