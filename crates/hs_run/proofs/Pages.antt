-- A buffer in which a page came is one of the page's client.
use Rattle.std.proofs.Common.{◌≡◌, ℕ, true, ap, ◌∙◌, eq-eqb, Option}
use Rattle.hs_run.proofs.Prelude.{Buffer, ClientId, Leased, PlainWorkload, Sheet, is_of}
use Rattle.hs_agent.specs.Points.{sheet_in}
use Rattle.hs_run_actors.specs.Agents.{IsPageThere}
use Rattle.hs_words.specs.Pools.{PoolName}

pub of_client : (W : PlainWorkload) (node : ℕ) (pool : PoolName) (buffer : Buffer Leased) (there : IsPageThere W node pool buffer) → is_of there.client buffer ≡ true
of_client W node pool buffer there =
    let number : Option Sheet → ℕ = λ page. (sheet_in (record buffer { chunk = record (buffer.chunk) { page = page } })).header.client.number in
    eq-eqb (number buffer.chunk.page) there.client (ap number there.is.page ∙ ap (λ (owner : ClientId). owner.number) there.is.owner)
