use Rattle.std.proofs.Common.{◌∙◌, ℕ, length, subst, sym}
use Rattle.cml_explore.specs.Merges.{ArePartsTaken}
use Rattle.cml_explore.proofs.PlaceLemmas.{popped}
use Rattle.cml_explore.proofs.share.lay_taken.Goals as goal

pub lay-requires : goal.lay-requires
lay-requires c =
    (popped c.args.program.now c.args.asked.now c.args.round (length c.laying.places.items) c.laying.taken.items c.pop.new.self.items c.pop.result c.in-Some.one
    c.pop.ensures.items c.in-Some.is c.laying.invariant.left).0.0

pub laying-preserved : goal.laying-preserved
laying-preserved c =
    let both = popped c.args.program.now c.args.asked.now c.args.round (length c.laying.places.items) c.laying.taken.items c.pop.new.self.items c.pop.result c.in-Some.one
    c.pop.ensures.items c.in-Some.is c.laying.invariant.left in
    record {
      long = c.lay.ensures.long ∙ c.laying.invariant.long;
      placed = c.lay.ensures.placed c.args.program.now c.args.asked.now c.args.round both.0 c.laying.invariant.placed;
      left = subst (λ (n : ℕ). ArePartsTaken c.args.program.now c.args.asked.now c.args.round n c.pop.new.self.items) (sym c.lay.ensures.long) both.1;
    }
