use Rattle.std.proofs.Common.{refl}
use Rattle.cml_index.proofs.Lit.{still_indexed}
use Rattle.cml_index.proofs.state.IndexState.make_place.Goals as goal

pub returns-clause-indexed : goal.returns-clause-indexed
returns-clause-indexed c =
    rw (c.reserve.ensures.items) (still_indexed c.args.self.now.entries.items c.args.self.now.lanes
    c.args.self.now.lanes c.args.self.now.live c.make_lone.new.self c.args.self.now.flags.entries
    c.args.self.now.flags.entries c.args.self.now.leaves c.args.self.now.crossing c.args.self.now.lit
    c.requires.indexed (λ k. refl) (λ k. refl) c.make_lone.ensures.same.here c.make_lone.ensures.same.counts
    (record { same = λ l. refl; named = λ k h. h }))
