use Rattle.std.proofs.Common.{◌∙◌, ap}
use Rattle.cml_scan.specs.Table.{lit_after}
use Rattle.cml_index.specs.Slots.{late_at}
use Rattle.cml_index.specs.Posts as spec
use Rattle.cml_index.proofs.Alone.{cost_lone}
use Rattle.cml_index.proofs.Forgotten.{all_out}
use Rattle.cml_index.proofs.state.IndexState.come_lone.Goals as goal

pub forget_all-requires-clause-idle : goal.forget_all-requires-clause-idle
forget_all-requires-clause-idle c k = ap (λ x. late_at x k) c.tell_both.ensures.still.lanes ∙ c.place_lone.ensures.idle k

pub forget_all-requires-clause-out : goal.forget_all-requires-clause-out
forget_all-requires-clause-out c = all_out c.args.lit.now c.args.unlit.now (spec.told c.place_lone.new.self.flags.entries) (spec.told c.tell_both.new.self.flags.entries)
    c.requires.apart c.tell_both.ensures.lights

pub returns-clause-told : goal.returns-clause-told
returns-clause-told c = record {
  ok = ap (λ v. v.items) (c.forget_all.ensures.entries ∙ c.tell_both.ensures.still.entries) ∙ c.in_ok-place_lone.ensures.entries;
  ok_lit = λ l. c.forget_all.ensures.told l ∙ c.tell_both.ensures.lights l ∙ ap (lit_after c.args.lit.now c.args.unlit.now l) (c.place_lone.ensures.told l);
  err = tt;
  err_lit = tt;
  err_cost = tt;
}

pub returns-clause-cost : goal.returns-clause-cost
returns-clause-cost c digits few =
    let leaves = c.forget_all.ensures.leaves ∙ c.tell_both.ensures.still.leaves ∙ c.in_ok-place_lone.ensures.leaves in
    rw (leaves) (cost_lone c.args.tally.now c.place_lone.new.tally c.tell_both.new.tally c.args.self.now.leaves _ digits
    (c.place_lone.ensures.cost digits few) c.tell_both.ensures.cost)
