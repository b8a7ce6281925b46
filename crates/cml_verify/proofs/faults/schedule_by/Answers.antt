use Rattle.cml_verify.proofs.faults.schedule_by.Goals as goal

pub schedule_to-requires-clause-search : goal.schedule_to-requires-clause-search
schedule_to-requires-clause-search c = rw (c.requires.any) c.requires.search

pub returns : goal.returns
returns c = record {
  before = c.in_ok-schedule.schedule.items;
  last = c.in_ok-push.ensures.items;
  leads = c.in_ok-schedule.ensures.leads;
  fewest = rw c.requires.any at c.in_ok-schedule.ensures.fewest;
}
