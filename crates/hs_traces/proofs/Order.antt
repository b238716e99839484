-- The order of keys: it is total, and tells all of them apart. So do the tests of traces.
use Rattle.std.proofs.Common.{◌≡◌, ℕ, true, refl, sym, ap, true≢false}
use Rattle.std.specs.Cmp.{eq_by_cmp_equiv, IsEquivalence, IsTotalOrder}
use Rattle.std.proofs.lemmas.Cmp.{nat_cmp_total, nat_eq_equiv, on_total, then_total}
use Rattle.std.proofs.lemmas.Bool.{eqb-true}
use Rattle.std.proofs.lemmas.Map.Lookups.{exact_unsigned}
use Rattle.std.specs.Ordering.{nat_cmp, ordering_then, is_eq}
use Rattle.std.specs.declared.cmp.Ordering.{Ordering}
use Rattle.std.specs.declared.cmp.Ordering.TheVariants.{Less, Equal, Greater}
use Rattle.hs_base.specs.declared.ids.TraceId.{TraceId}
use Rattle.hs_base.specs.Ids.{same_trace}
use Rattle.hs_traces.specs.declared.key.PageKey.{PageKey}
use Rattle.hs_traces.specs.Keys.{key_cmp, same_key}

then_equal : (o p : Ordering) → ordering_then o p ≡ Equal → (o ≡ Equal) × (p ≡ Equal)
then_equal Less p e = absurd cc
then_equal Equal p e = (refl, e)
then_equal Greater p e = absurd cc

is_equal : (o : Ordering) → is_eq o ≡ true → o ≡ Equal
is_equal Less e = absurd (true≢false (sym e))
is_equal Equal e = refl
is_equal Greater e = absurd (true≢false (sym e))

pub key_total : IsTotalOrder key_cmp
key_total =
    then_total (on_total (λ (k : PageKey). k.node) nat_cmp_total)
    (then_total (on_total (λ (k : PageKey). k.epoch) nat_cmp_total)
    (then_total (on_total (λ (k : PageKey). k.client) nat_cmp_total)
    (then_total (on_total (λ (k : PageKey). k.core) nat_cmp_total) (on_total (λ (k : PageKey). k.page) nat_cmp_total))))

pub key_laws : IsEquivalence same_key
key_laws = eq_by_cmp_equiv key_total

pub key_exact : (a b : PageKey) → key_cmp a b ≡ Equal → a ≡ b
key_exact a b e =
    let node = then_equal (nat_cmp a.node b.node) _ e in
    let epoch = then_equal (nat_cmp a.epoch b.epoch) _ node.1 in
    let client = then_equal (nat_cmp a.client b.client) _ epoch.1 in
    let core = then_equal (nat_cmp a.core b.core) _ client.1 in
    let same_node : a.node ≡ b.node = exact_unsigned a.node b.node node.0 in
    let same_epoch : a.epoch ≡ b.epoch = exact_unsigned a.epoch b.epoch epoch.0 in
    let same_client : a.client ≡ b.client = exact_unsigned a.client b.client client.0 in
    let same_core : a.core ≡ b.core = exact_unsigned a.core b.core core.0 in
    let same_page : a.page ≡ b.page = exact_unsigned a.page b.page core.1 in
    λ i. record { node = same_node i; epoch = same_epoch i; client = same_client i; core = same_core i; page = same_page i }

pub same_key-true : (a b : PageKey) → same_key a b ≡ true → a ≡ b
same_key-true a b e = key_exact a b (is_equal (key_cmp a b) e)

pub same_trace-true : (a b : TraceId) → same_trace a b ≡ true → a ≡ b
same_trace-true a b e = ap (λ (m : ℕ). record { 0 = m }) (eqb-true a.0 b.0 e)

pub same_trace-refl : (a : TraceId) → same_trace a a ≡ true
same_trace-refl a = nat_eq_equiv.refl a.0

pub same_trace_laws : IsEquivalence same_trace
same_trace_laws = record {
  refl = λ x. nat_eq_equiv.refl x.0;
  symm = λ x y. nat_eq_equiv.symm x.0 y.0;
  congr = λ x y z. nat_eq_equiv.congr x.0 y.0 z.0;
}
