use Rattle.std.proofs.Common.{◌≡◌, ℕ, true, eqb, ltb, List, None, sym, ◌∙◌, rules}
use Rattle.hs_check.proofs.Prelude.{filter, PageDraw}
use Rattle.std.specs.List.Sorted.{IsStableByKey, ties}
use Rattle.std.specs.Ordering.{nat_cmp, is_lt}
use Rattle.std.proofs.lemmas.Fn.{filter_same as kept_same}
use Rattle.std.proofs.lemmas.List.Elements.{filter_agree}
use Rattle.std.proofs.lemmas.List.Sorted.{IsNonDecreasingBy-from_sort_by_key, answers_always}
use Rattle.hs_base.proofs.Numbers.{nat_cmp_tie}
use Rattle.hs_check_follow.proofs.Sorting.{put_in_order}
use Rattle.hs_check.proofs.page_draws.put_in_order.Goals as goal

-- what ties with a draw of a stamp has that stamp
same_stamp : (s : ℕ) (xs ys : List PageDraw) → IsStableByKey (λ (d : PageDraw). d.stamp) nat_cmp xs ys → filter (λ (d : PageDraw). eqb d.stamp s) ys ≡ filter (λ (d : PageDraw). eqb d.stamp s) xs
same_stamp s xs ys stable =
    let one : PageDraw =
    record {
      page = record { client = 0; page = 0 };
      stamp = s;
      got = true;
      next = None;
      started = 0;
    } in
    filter_agree (λ (d : PageDraw). eqb d.stamp s) (λ (d : PageDraw). ties (λ (x y : PageDraw). is_lt (nat_cmp x.stamp y.stamp)) one d) (λ d. sym (nat_cmp_tie s d.stamp)) ys
    ∙ stable one
    ∙ filter_agree (λ (d : PageDraw). ties (λ (x y : PageDraw). is_lt (nat_cmp x.stamp y.stamp)) one d) (λ (d : PageDraw). eqb d.stamp s) (λ d. nat_cmp_tie s d.stamp) xs

pub returns : goal.returns
returns c =
    let xs = c.args.draws.now.items in
    let ys = c.sort_by_key.new.self.items in
    let rises = IsNonDecreasingBy-from_sort_by_key (λ (d : PageDraw). d.stamp) ys c.in_ok-sort_by_key.ensures.sorted (λ a r q k. search rules) in
    let stable = c.in_ok-sort_by_key.ensures.stable (λ (d : PageDraw). d.stamp) (answers_always _ _ _ (λ f a r g h. search rules)) in
    let kept = kept_same _ (λ (d : PageDraw). ltb d.stamp c.args.bound) _ (λ d b q h. (search rules, search rules)) ys c.retain.new.self.items c.retain.ensures.filtered in
    kept ∙ sym (put_in_order (λ (d : PageDraw). d.stamp) c.args.bound xs ys rises (λ s. same_stamp s xs ys stable))
