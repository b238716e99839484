-- The operation at a place of a client's list, and what those before and behind it say.
use Rattle.std.proofs.Common.{◌≡◌, ℕ, ◌+◌, ◌<◌, ◌≤◌, false, List, [], ◌∷◌, ◌++◌, length, map, take, drop, get_or, None, refl, sym, ap, ◌∙◌, subst, arith}
use Rattle.hs_run_actors.proofs.Prelude.{length-map, take-append-drop, is_some, AllByRecursion, Operation, Begin, Point, End, Fire, Sample, AreBracketed, open_after, client_pieces, crumbs_of, triggers_of}
use Rattle.hs_run_actors.specs.Counting.{crumbs_in}
use Rattle.hs_run_actors.specs.Counting.{triggers_in}
use Rattle.std.proofs.lemmas.List.{drop_more, get_or-map, take_more}
use Rattle.hs_base.proofs.Alls.{all_mid}
use Rattle.hs_records.specs.Plain as plain
use Rattle.hs_client.proofs.OneMore.{bracketed_behind}
use Rattle.hs_records.proofs.Sizes.{one_at_least}

-- the operation stands at this place
pub record Stands (ops : List Operation) (place : ℕ) (op : Operation) : Type 0 where
  pub within : place < length ops
  pub front : take (place + 1) ops ≡ take place ops ++ op ∷ []
  pub rest : drop place ops ≡ op ∷ drop (place + 1) ops

pub stands : {A : Type 0} (f : A → Operation) (xs : List A) (place : ℕ) (x : A) → place < length xs → x ≡ get_or xs place x → Stands (map f xs) place (f x)
stands f xs place x within is =
    let here : get_or (map f xs) place (f x) ≡ f x = get_or-map f xs place x (f x) within ∙ ap f (sym is) in
    let there : place < length (map f xs) = omega (arith, within, length-map xs f) in
    record {
      within = there;
      front = take_more (map f xs) place (f x) there ∙ ap (λ (op : Operation). take place (map f xs) ++ op ∷ []) here;
      rest = drop_more (map f xs) place (f x) there ∙ ap (λ (op : Operation). op ∷ drop (place + 1) (map f xs)) here;
    }

-- ---- in parts

pub bracketed_at : (ops : List Operation) (place : ℕ) → AreBracketed false ops → AreBracketed (is_some (open_after None (take place ops))) (drop place ops)
bracketed_at ops place h = bracketed_behind false None (take place ops) (drop place ops) refl (subst (λ (l : List Operation). AreBracketed false l) (sym (take-append-drop place ops)) h)

pub all_at : (P : Operation → Type 0) (ops : List Operation) (place : ℕ) (op : Operation) → Stands ops place op → AllByRecursion P ops → P op
all_at P ops place op is h =
    let whole : take place ops ++ op ∷ drop (place + 1) ops ≡ ops = ap (λ (l : List Operation). take place ops ++ l) (sym is.rest) ∙ take-append-drop place ops in
    all_mid P (take place ops) (drop (place + 1) ops) op (subst (λ (l : List Operation). AllByRecursion P l) (sym whole) h)

-- ---- how many

one_crumb : (op : Operation) → crumbs_in op ≤ 1
one_crumb (Begin trace) = omega arith
one_crumb (Point moment payload) = omega arith
one_crumb (plain.Crumb node) = omega arith
one_crumb End = omega arith
one_crumb (Fire trigger) = omega arith
one_crumb (Sample moment auto value) = omega arith

one_trigger : (op : Operation) → triggers_in op ≤ 1
one_trigger (Begin trace) = omega arith
one_trigger (Point moment payload) = omega arith
one_trigger (plain.Crumb node) = omega arith
one_trigger End = omega arith
one_trigger (Fire trigger) = omega arith
one_trigger (Sample moment auto value) = omega arith

pub fewer_crumbs : (size : ℕ) (ops : List Operation) → crumbs_of ops ≤ client_pieces size ops
fewer_crumbs size [] = omega arith
fewer_crumbs size (op ∷ ops) = omega (arith, one_at_least size op, one_crumb op, fewer_crumbs size ops)

pub fewer_triggers : (size : ℕ) (ops : List Operation) → triggers_of ops ≤ client_pieces size ops
fewer_triggers size [] = omega arith
fewer_triggers size (op ∷ ops) = omega (arith, one_at_least size op, one_trigger op, fewer_triggers size ops)
