use Rattle.std.proofs.Common.{ap, ◌∙◌, arith}
use Rattle.hs_ring.proofs.Prelude.{note_of}
use Rattle.hs_ring.proofs.Owed.{Mine, drawer_notes, giver_notes, giver_is_told, drawer_is_told}
use Rattle.hs_ring.proofs.giver.meet_at.Goals as goal

pub split_seat-from_giver-requires : goal.split_seat-from_giver-requires
split_seat-from_giver-requires c = (c.requires.giver.0.0, omega (arith, c.requires.giver.0.1), giver_notes _ _ _ _ _ (ap (λ (m : Mine). m.0) c.requires.giver.1))

pub split_seat-from_drawer-requires : goal.split_seat-from_drawer-requires
split_seat-from_drawer-requires c = (c.requires.drawer.0.0, omega (arith, c.requires.drawer.0.1), drawer_notes _ _ _ _ (ap (λ (m : Mine). m.0) c.requires.drawer.1))

pub join_seat-requires : goal.join_seat-requires
join_seat-requires c =
    let giver = c.split_seat-from_giver.ensures in
    let drawer = c.split_seat-from_drawer.ensures in (
      giver.0 ∙ c.requires.giver.0.0,
      drawer.3 ∙ c.requires.drawer.0.0,
      ap (λ (m : Mine). m.1) drawer.4,
      omega (arith, c.requires.giver.0.1),
      giver_is_told _ _ _ _ _ _ _ _ _ (ap (λ (m : Mine). m.0) giver.2 ∙ ap (λ (m : Mine). m.0) c.requires.giver.1)
          (ap (λ (m : Mine). m.0) drawer.4 ∙ ap (λ (m : Mine). note_of m.0) c.requires.drawer.1),
    )

pub join_seat-requires-2 : goal.join_seat-requires-2
join_seat-requires-2 c =
    let giver = c.split_seat-from_giver.ensures in
    let drawer = c.split_seat-from_drawer.ensures in (
      drawer.0 ∙ c.requires.drawer.0.0,
      giver.3 ∙ c.requires.giver.0.0,
      ap (λ (m : Mine). m.1) giver.4,
      omega (arith, c.requires.drawer.0.1),
      drawer_is_told _ _ _ _ _ _ _ _ (ap (λ (m : Mine). m.0) drawer.2 ∙ ap (λ (m : Mine). m.0) c.requires.drawer.1)
          (ap (λ (m : Mine). m.0) giver.4 ∙ ap (λ (m : Mine). note_of m.0) c.requires.giver.1),
    )
