use Rattle.cml_index.proofs.Objects.{once_objects}
use Rattle.cml_index.proofs.live.Live.len.Goals as goal

pub returns-clause-once : goal.returns-clause-once
returns-clause-once c = once_objects c.args.self.now.channels.items c.args.self.now.swaps.items c.len.ensures.once c.len-2.ensures.once
