use Rattle.std.proofs.Common.{refl, subst}
use Rattle.std.specs.Prelude.{OnOk}
use Rattle.cml_scan.specs.Order.{Every}
use Rattle.cml_index.specs.Posts as spec
use Rattle.cml_index.proofs.Lit.{still_indexed}
use Rattle.cml_index.proofs.state.IndexState.make_places.Goals as goal

pub returns-in_err-make_all-clause-indexed : goal.returns-in_err-make_all-clause-indexed
returns-in_err-make_all-clause-indexed c =
    rw (c.reserve.ensures.items) (still_indexed c.args.self.now.entries.items c.args.self.now.lanes
    c.args.self.now.lanes c.args.self.now.live c.make_all.new.self c.args.self.now.flags.entries
    c.args.self.now.flags.entries c.args.self.now.leaves c.args.self.now.crossing c.args.self.now.lit
    c.requires.indexed (λ k. refl) (λ k. refl) c.make_all.ensures.same.here c.make_all.ensures.same.counts
    (record { same = λ l. refl; named = λ k h. h }))

pub returns-clause-indexed : goal.returns-clause-indexed
returns-clause-indexed c =
    rw (c.reserve.ensures.items) (still_indexed c.args.self.now.entries.items c.args.self.now.lanes
    c.args.self.now.lanes c.args.self.now.live c.make_all.new.self c.args.self.now.flags.entries
    c.reserve_nacks.new.flags.entries c.args.self.now.leaves c.args.self.now.crossing c.args.self.now.lit
    c.requires.indexed (λ k. refl) (λ k. refl) c.make_all.ensures.same.here c.make_all.ensures.same.counts
    c.reserve_nacks.ensures.kept)

pub returns-clause-named : goal.returns-clause-named
returns-clause-named c =
    subst (λ ns. OnOk c.reserve_nacks.result (Every (λ k. spec.is_named c.reserve_nacks.new.flags.entries (spec.slot_of_nack k)) ns)) c.nacks.ensures c.reserve_nacks.ensures.there
