-- The chunks of a client's life, followed to the agent of its node.
use Rattle.std.proofs.Common.{◌≡◌, ℕ, zero, suc, ◌==◌, Bool, true, false, cond, List, [], ◌∷◌, ◌++◌, Option, Some, None, refl, sym, ap, subst, ◌∙◌, append_assoc, slice_get}
use Rattle.std.specs.Prelude.{filter_map}
use Rattle.std.specs.List.{cons_option}
use Rattle.std.specs.Option.{option_to_list, option_map_or}
use Rattle.std.proofs.lemmas.Bool.{eqb-true}
use Rattle.hs_records.specs.Plain.{PlainSettings}
use Rattle.hs_words.specs.Buffers.{Buffer}
use Rattle.hs_client.specs.Core.{handed}
use Rattle.hs_ring.specs.Parts.{Leased}
use Rattle.hs_link.specs.Contents.{Incoming}
use Rattle.hs_live.specs.Keys.{Key}
use Rattle.hs_live.specs.Live.{PlainClient, IsEnd}
use Rattle.hs_node_client.specs.Lives.{ClientLife}
use Rattle.hs_intake.specs.Intakes.{PlainIntake, IntakeAct}
use Rattle.hs_law_life.specs.ClientLives.{AllStand, IsOnItsWay}
use Rattle.hs_law_life.specs.NodeLives.{Taking, takings, of_client, chunks_of, front_of, HasLived, IsWell}
use Rattle.hs_law_life.specs.Following.{IsFollowed}

abbrev of : ℕ → Buffer Leased → Taking
of client buffer = record { client = client; buffer = buffer }

-- a chunk of a client is one of those that were taken
taken_at : (client : ℕ) (all : List Taking) (n : ℕ) (buffer : Buffer Leased) → slice_get (filter_map (of_client client) all) n ≡ Some buffer → (place : ℕ) × (slice_get all place ≡ Some (of client buffer))
taken_at client [] n buffer at = let none : None ≡ Some buffer = at in absurd cc
taken_at client (taking ∷ all) n buffer at = go (taking.client == client) refl (λ m there. taken_at client all m buffer there)
  where
    later : ((k : ℕ) → slice_get (filter_map (of_client client) all) k ≡ Some buffer → (place : ℕ) × (slice_get all place ≡ Some (of client buffer))) → (m : ℕ) → slice_get (filter_map (of_client client) all) m ≡ Some buffer → (place : ℕ) × (slice_get (taking ∷ all) place ≡ Some (of client buffer))
    later rest m there = let one = rest m there in (suc one.0, one.1)

    own : ((k : ℕ) → slice_get (filter_map (of_client client) all) k ≡ Some buffer → (place : ℕ) × (slice_get all place ≡ Some (of client buffer))) → (m : ℕ) → taking.client ≡ client → slice_get (taking.buffer ∷ filter_map (of_client client) all) m ≡ Some buffer
        → (place : ℕ) × (slice_get (taking ∷ all) place ≡ Some (of client buffer))
    own rest zero same there =
        let is : taking.buffer ≡ buffer = cc in
        (0, ap (λ (c : ℕ). Some (of c taking.buffer)) same ∙ ap (λ (b : Buffer Leased). Some (of client b)) is)
    own rest (suc m) same there = later rest m there

    go : (b : Bool) → (taking.client == client) ≡ b → ((k : ℕ) → slice_get (filter_map (of_client client) all) k ≡ Some buffer → (place : ℕ) × (slice_get all place ≡ Some (of client buffer))) → (place : ℕ) × (slice_get (taking ∷ all) place ≡ Some (of client buffer))
    go true same rest =
        own rest n (eqb-true taking.client client same)
        (ap (λ (b : Bool). slice_get (cons_option (cond b (Some taking.buffer) None) (filter_map (of_client client) all)) n) (sym same) ∙ at)
    go false same rest =
        later rest n (ap (λ (b : Bool). slice_get (cons_option (cond b (Some taking.buffer) None) (filter_map (of_client client) all)) n) (sym same) ∙ at)

pub followed_by : (life : ClientLife) (client : PlainClient) (number : ℕ) (port : Incoming (Buffer Leased) Key) (settings : PlainSettings) (node : ℕ) (acts : List IntakeAct) (d : PlainIntake)
    → IsOnItsWay life client port → IsEnd number d.port.chunks port → HasLived settings node acts d → IsWell settings node acts → IsFollowed life client number settings node acts d
followed_by life client number port settings node acts d way end lived well =
    let ring = way.ring in
    let rest = ring ++ (client.chunks.outbox ++ option_to_list (handed client.core)) in
    let came : port.received ≡ chunks_of number acts ++ front_of number d =
    sym (ap (λ (o : Option (Incoming (Buffer Leased) Key)). option_map_or (λ (r : Incoming (Buffer Leased) Key). r.received) o []) end) ∙ lived.took number in
    let parted : (tail : List (Buffer Leased)) → port.received ++ tail ≡ chunks_of number acts ++ (front_of number d ++ tail) =
    λ tail. ap (λ (l : List (Buffer Leased)). l ++ tail) came ∙ append_assoc (chunks_of number acts) (front_of number d) tail in
    record {
      ring = ring;
      put = way.put ∙ parted ring;
      stand = subst (λ (l : List (Buffer Leased)). AllStand life client.drawer.answers l) (parted rest) way.stand;
      fates = λ n buffer at.
          let one = taken_at number (takings acts) n buffer at in
          (one.0, well.each one.0 (of number buffer) one.1);
      well = well;
    }
