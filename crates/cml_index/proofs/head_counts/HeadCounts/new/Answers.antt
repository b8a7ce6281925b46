use Rattle.std.proofs.Common.{◌^◌, ap, sym, arith}
use Rattle.std.specs.Prelude.{◌%◌}
use Rattle.cml_index.specs.HeadCounts as spec
use Rattle.cml_index.proofs.head_counts.HeadCounts.new.Goals as goal

pub invariant_of-result : goal.invariant_of-result
invariant_of-result c =
    let none = c.new-2.ensures.items in
    record {
      long = omega (arith, c.new.ensures.size);
      none = λ n off. ap (λ cs. spec.count_in cs n) none;
      whole = sym (ap (λ cs. spec.all_counts cs % 2 ^ 64) none);
    }
