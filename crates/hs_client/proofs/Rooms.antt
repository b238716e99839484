-- What the limit of a core says of the room on its current page.
use Rattle.std.proofs.Common.{◌≡◌, ℕ, ◌+◌, ◌<◌, ◌≤◌, Option, Some, None, IsSome, refl, subst, arith}
use Rattle.hs_base.specs.declared.ids.TraceId.{TraceId}
use Rattle.hs_base.specs.declared.limits.TheConstants.{FRAME_COST, MAX_SIZE}
use Rattle.hs_records.specs.declared.books.PageNote.{PageNote}
use Rattle.hs_words.specs.declared.token.Held.{Held}
use Rattle.hs_client.specs.declared.client.ClientCore.TheInside.{Inside}
use Rattle.hs_client.specs.Core.{Core, Fits, NeedsPage}
use Rattle.hs_client.specs.Layout.{IsCore, IsLimit, core_of}

some_trace : (trace : Option TraceId) (page : Option PageNote) → (trace ≡ None → page ≡ None) → IsSome page → IsSome trace
some_trace None page opened some = subst (λ (p : Option PageNote). IsSome p) (opened refl) some
some_trace (Some trace) page opened some = refl

some_page : (page : Option PageNote) (size used limit len : ℕ) → IsLimit page size used limit → used + 10 + len ≤ limit → IsSome page × (used + (10 + len) ≤ size) × (34 + len ≤ size)
some_page None size used limit len is fits = absurd (omega (arith, is, fits))
some_page (Some note) size used limit len is fits = (refl, omega (arith, is.0, fits), omega (arith, is.0, is.1, fits))

module _ {L : Type 0} {g : _} where
  current_there : (a : Inside L g) → IsSome a.page → IsSome (core_of a).current
  current_there a some = at a.page some
    where
      at : (page : Option PageNote) → IsSome page → IsSome (core_of (record a { page = page })).current
      at None some = some
      at (Some note) some = refl

  -- as many bytes fit
  pub within : (a : Inside L g) (len : ℕ) → IsCore a → a.used + 10 + len ≤ a.limit → Fits (core_of a) len × IsSome a.trace × (FRAME_COST + len ≤ a.size) × (len ≤ MAX_SIZE)
  within a len is fits =
      let page = some_page a.page a.size a.used a.limit len is.limit fits in
      ((current_there a page.0, page.1), some_trace a.trace a.page is.opened page.0, page.2, omega (arith, page.2, is.most))

  -- as many do not
  pub beyond : (a : Inside L g) (len : ℕ) → IsCore a → a.limit < a.used + 10 + len → NeedsPage (core_of a) len
  beyond a len is more = at a.page is.limit
    where
      at : (page : Option PageNote) → IsLimit page a.size a.used a.limit → NeedsPage (core_of (record a { page = page })) len
      at None limit = tt
      at (Some note) limit = omega (arith, limit.0, more)
