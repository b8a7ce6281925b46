use Rattle.std.proofs.Common.{arith}
use Rattle.cml_verify.proofs.Faulting.{same_thread}
use Rattle.cml_verify.proofs.faults.is_like.Goals as goal

pub returns : goal.returns
returns c = λ yes. (same_thread c.args.other c.args.thread (omega arith), omega arith, c.stands_the_same.ensures yes)
