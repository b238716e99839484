use Rattle.hs_compare.proofs.Parting.{kept_is_parted}
use Rattle.hs_compare.proofs.Standing.{entries_stand_by_the_records}
use Rattle.hs_compare.proofs.laws.kept_is_parted.Goals as goal

pub returns : goal.returns
returns c =
    record {
      beside = entries_stand_by_the_records c.each_record_has_one_entry.ensures;
      parted =
          kept_is_parted c.each_fate_has_its_cause.ensures c.each_record_has_one_entry.ensures c.agents_keep_their_model.ensures c.reported_pages_are_of_clients.ensures.taken c.pages_carry_the_records.ensures
          c.claimed_traces_are_named.ensures;
    }
