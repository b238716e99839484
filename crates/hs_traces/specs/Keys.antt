-- What tells the pages of a trace apart, and their order: by node, epoch, client, core, and the page's number among those of the
-- core. A page has its own sender where its header names that sender's node and client.
use Rattle.std.specs.Prelude.{◌≡◌, ℕ, Bool, true, false, ◌&&◌, ◌==◌, refl}
use Rattle.std.specs.declared.cmp.Ordering.{Ordering}
use Rattle.std.specs.declared.cmp.Ordering.TheVariants.{Less, Greater}
use Rattle.std.specs.Ordering.{nat_cmp, ordering_then, is_eq}
use Rattle.hs_words.specs.declared.page.Header.{Header}
use Rattle.hs_traces.specs.declared.key.CoreId.{CoreId}
use Rattle.hs_traces.specs.declared.key.PageKey.{PageKey}

abbrev pub key_cmp : PageKey → PageKey → Ordering
key_cmp a b =
    ordering_then (nat_cmp a.node b.node) (ordering_then (nat_cmp a.epoch b.epoch) (ordering_then (nat_cmp a.client b.client) (ordering_then (nat_cmp a.core b.core) (nat_cmp a.page b.page))))

-- whether two keys are one
abbrev pub same_key : PageKey → PageKey → Bool
same_key a b = is_eq (key_cmp a b)

-- whether a page names its sender's node and client
abbrev pub is_own : CoreId → Header → Bool
is_own sender header = header.client.node == sender.node && header.client.number == sender.client

-- the key of a sender's page
abbrev pub key_of : CoreId → Header → PageKey
key_of sender header = record { node = sender.node; epoch = sender.epoch; client = sender.client; core = sender.core; page = header.page }

-- whether a life of a node wrote the page
abbrev pub is_from : (node epoch : ℕ) → PageKey → Bool
is_from node epoch key = key.node == node && key.epoch == epoch

-- ---- worked examples

abbrev pub key_at : (node epoch client core page : ℕ) → PageKey
key_at node epoch client core page = record { node = node; epoch = epoch; client = client; core = core; page = page }

-- the node comes before the epoch, this before the client, this before the core, and this before the page
the_node_decides : (key_cmp (key_at 1 9 9 9 9) (key_at 2 0 0 0 0) ≡ Less) × (key_cmp (key_at 1 5 9 9 9) (key_at 1 6 0 0 0) ≡ Less)
the_node_decides = (refl, refl)

then_the_client : (key_cmp (key_at 1 5 3 9 9) (key_at 1 5 2 0 0) ≡ Greater) × (key_cmp (key_at 1 5 3 1 9) (key_at 1 5 3 2 0) ≡ Less)
then_the_client = (refl, refl)

-- a page of another epoch is another page
another_epoch : (same_key (key_at 1 5 3 1 9) (key_at 1 6 3 1 9) ≡ false) × (same_key (key_at 1 5 3 1 9) (key_at 1 5 3 1 9) ≡ true)
another_epoch = (refl, refl)
