-- The ends of a client that go on.
use Rattle.std.proofs.Common.{◌≡◌, ℕ, length, refl, sym, ap, ◌∙◌, subst, arith}
use Rattle.hs_node_client.proofs.Prelude.{Core, Outgoing, HasPlaces, PlainClient, GoesOn, Flushes, Spends, WritesOnly, writing_of, DrawsOn, Drawing, Leased, draws_none, draws_trans, goes_same, goes_trans, KeepsEnds, PutsOn, PutsThrough, Lacks, rules_in}
use Rattle.hs_live.proofs.Senders.{places_left}

module _ {T F : Type 0} where
  pub puts_same : (s : Outgoing T F) → PutsOn s s
  puts_same s = record { goes = goes_same s; items = refl }

  pub puts_flushed : (s t : Outgoing T F) → Flushes s t → PutsOn s t
  puts_flushed s t f = record { goes = f.goes; items = f.items }

  pub puts_trans : (s t u : Outgoing T F) → PutsOn s t → PutsOn t u → PutsOn s u
  puts_trans s t u h k = record { goes = goes_trans s t u h.goes k.goes; items = k.items ∙ h.items }

  -- what has no place after what waited went into the ring had none before
  pub lacked : (places : ℕ) (s t : Outgoing T F) → PutsOn s t → (HasPlaces places t → ⊥) → Lacks places s t
  lacked places s t puts none =
      record {
        before = λ has. none (places_left 0 places s t puts.goes (omega (arith, ap length puts.items)) (omega (arith, has.0), omega (arith, has.1)));
        after = none;
      }

pub through_same : (client : PlainClient) → PutsThrough client client
through_same client = record { only = refl; chunks = puts_same client.chunks; crumbs = puts_same client.crumbs; triggers = puts_same client.triggers }

pub through_flushed : (old new : PlainClient) → new ≡ record old { chunks = new.chunks; crumbs = new.crumbs; triggers = new.triggers }
    → Flushes old.chunks new.chunks → Flushes old.crumbs new.crumbs → Flushes old.triggers new.triggers → PutsThrough old new
through_flushed old new only chunks crumbs triggers =
    record {
      only = only;
      chunks = puts_flushed old.chunks new.chunks chunks;
      crumbs = puts_flushed old.crumbs new.crumbs crumbs;
      triggers = puts_flushed old.triggers new.triggers triggers;
    }

-- what stays of a client whose waiting items were put through
pub through_core : (old new : PlainClient) → PutsThrough old new → new.core ≡ old.core
through_core old new t = ap (λ (c : PlainClient). c.core) t.only

pub through_drawer : (old new : PlainClient) → PutsThrough old new → new.drawer ≡ old.drawer
through_drawer old new t = ap (λ (c : PlainClient). c.drawer) t.only

pub through_rules : (old new : PlainClient) → PutsThrough old new → rules_in new ≡ rules_in old
through_rules old new t = ap rules_in t.only

pub keeps_same : (client : PlainClient) → KeepsEnds client client
keeps_same client =
    record {
      drawer = draws_none client.drawer;
      chunks = goes_same client.chunks;
      crumbs = goes_same client.crumbs;
      triggers = goes_same client.triggers;
      owner = refl;
      size = refl;
      calls = refl;
    }

draws_same : (old new : Drawing) → new ≡ old → DrawsOn old new
draws_same old new e = subst (λ (d : Drawing). DrawsOn old d) (sym e) (draws_none old)

pub through_keeps : (old new : PlainClient) → PutsThrough old new → KeepsEnds old new
through_keeps old new t =
    let core = through_core old new t in
    record {
      drawer = draws_same old.drawer new.drawer (through_drawer old new t);
      chunks = t.chunks.goes;
      crumbs = t.crumbs.goes;
      triggers = t.triggers.goes;
      owner = ap (λ (c : Core Leased). c.client) core;
      size = ap (λ (c : Core Leased). c.size) core;
      calls = ap (λ (c : Core Leased). c.calls) core;
    }

pub keeps_trans : (a b c : PlainClient) → KeepsEnds a b → KeepsEnds b c → KeepsEnds a c
keeps_trans a b c h k =
    record {
      drawer = draws_trans a.drawer b.drawer c.drawer h.drawer k.drawer;
      chunks = goes_trans a.chunks b.chunks c.chunks h.chunks k.chunks;
      crumbs = goes_trans a.crumbs b.crumbs c.crumbs h.crumbs k.crumbs;
      triggers = goes_trans a.triggers b.triggers c.triggers h.triggers k.triggers;
      owner = k.owner ∙ h.owner;
      size = k.size ∙ h.size;
      calls = k.calls ∙ h.calls;
    }

goes_is : {T F : Type 0} (s t : Outgoing T F) → t ≡ s → GoesOn s t
goes_is s t e = subst (λ (u : Outgoing _ _). GoesOn s u) (sym e) (goes_same s)

-- what wrote pages alone
pub written_keeps : (calls : ℕ) (old new : PlainClient) → Spends calls (writing_of old) (writing_of new) → WritesOnly old new → KeepsEnds old new
written_keeps calls old new s only =
    record {
      drawer = s.drawer;
      chunks = s.chunks;
      crumbs = goes_is old.crumbs new.crumbs only.crumbs;
      triggers = goes_is old.triggers new.triggers only.triggers;
      owner = s.owner;
      size = s.size;
      calls = s.calls_are;
    }

-- what sent crumbs alone, or triggers
pub crumbed_keeps : (old new : PlainClient) → new ≡ record old { crumbs = new.crumbs } → GoesOn old.crumbs new.crumbs → KeepsEnds old new
crumbed_keeps old new only goes =
    record {
      drawer = draws_same old.drawer new.drawer (ap (λ (c : PlainClient). c.drawer) only);
      chunks = goes_is old.chunks new.chunks (ap (λ (c : PlainClient). c.chunks) only);
      crumbs = goes;
      triggers = goes_is old.triggers new.triggers (ap (λ (c : PlainClient). c.triggers) only);
      owner = ap (λ (c : PlainClient). c.core.client) only;
      size = ap (λ (c : PlainClient). c.core.size) only;
      calls = ap (λ (c : PlainClient). c.core.calls) only;
    }

pub fired_keeps : (old new : PlainClient) → new ≡ record old { autos = new.autos; triggers = new.triggers } → GoesOn old.triggers new.triggers → KeepsEnds old new
fired_keeps old new only goes =
    record {
      drawer = draws_same old.drawer new.drawer (ap (λ (c : PlainClient). c.drawer) only);
      chunks = goes_is old.chunks new.chunks (ap (λ (c : PlainClient). c.chunks) only);
      crumbs = goes_is old.crumbs new.crumbs (ap (λ (c : PlainClient). c.crumbs) only);
      triggers = goes;
      owner = ap (λ (c : PlainClient). c.core.client) only;
      size = ap (λ (c : PlainClient). c.core.size) only;
      calls = ap (λ (c : PlainClient). c.core.calls) only;
    }
