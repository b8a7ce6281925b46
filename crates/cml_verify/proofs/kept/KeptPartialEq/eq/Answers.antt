use Rattle.cml_verify.specs.{Sameness.{is_same_is}, Kept.{state_code}}
use Rattle.cml_verify.proofs.kept.KeptPartialEq.eq.Goals as goal

pub returns : goal.returns
returns c = is_same_is state_code c.same.result c.args.self.now c.args.other.now c.same.ensures.0 c.same.ensures.1
