use Rattle.hs_workload.proofs.Whole.{clean_reads}
use Rattle.hs_workload.proofs.Faultless.{reads_clean}
use Rattle.hs_workload.proofs.laws.faultless_texts_read.Goals as goal

pub returns-clause-reads : goal.returns-clause-reads
returns-clause-reads c = clean_reads

pub returns-clause-clean : goal.returns-clause-clean
returns-clause-clean c = reads_clean
