use Rattle.std.proofs.Common.{◌∙◌, nat_eq, ap, sym, arith}
use Rattle.std.specs.List.{list_any}
use Rattle.cml_index.proofs.head_counts.HeadCounts.make.Goals as goal

pub invariant_of-self : goal.invariant_of-self
invariant_of-self c =
    record {
      long = omega (arith, c.make.ensures.most, c.self.invariant.long, c.if-len-number.false, c.len.ensures, c.self.inside.counts.ok.0);
      none = λ m off. c.self.invariant.none m (sym (ap (list_any (λ n. nat_eq m n)) c.make.ensures.same) ∙ off);
      whole = c.self.invariant.whole;
    }
