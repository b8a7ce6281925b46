use Rattle.std.proofs.Common.{arith}
use Rattle.cml_book.proofs.counted.Counted.new.Goals as goal

pub invariant_of-result : goal.invariant_of-result
invariant_of-result c = (omega (arith, c.len.ensures.len, c.len.ensures.few), tt, c.has_no_ticks-tickless.ensures, c.requires)
