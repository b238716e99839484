use Rattle.hs_law_life.proofs.Nulls.{point_keeps, crumb_keeps, trigger_keeps, led_keeps, refused_keeps, end_keeps}
use Rattle.hs_law_life.proofs.clients.other_calls_keep_the_sum_of_null_pages.Goals as goal

pub returns-clause-point : goal.returns-clause-point
returns-clause-point c = point_keeps

pub returns-clause-crumb : goal.returns-clause-crumb
returns-clause-crumb c = crumb_keeps

pub returns-clause-late : goal.returns-clause-late
returns-clause-late c = led_keeps

pub returns-clause-refused : goal.returns-clause-refused
returns-clause-refused c = refused_keeps

pub returns-clause-trigger : goal.returns-clause-trigger
returns-clause-trigger c = trigger_keeps

pub returns-clause-end : goal.returns-clause-end
returns-clause-end c = end_keeps
