use Rattle.std.proofs.Common.{◌≢◌, ◌+◌, ◌∙◌, ap, sym, subst}
use Rattle.std.specs.List.{All}
use Rattle.cml_scan.specs.Table.{with_entry}
use Rattle.cml_index.specs.Slots.{HaveDigits, late_at}
use Rattle.cml_index.specs.Posts as spec
use Rattle.cml_index.proofs.Lit.{reserved_indexed}
use Rattle.cml_index.proofs.Alone.{lone_post, on_ok, on_err, ok_any}
use Rattle.cml_index.proofs.state.IndexState.place_lone.Goals as goal

pub returns-in_err-reserve_lights-clause-indexed : goal.returns-in_err-reserve_lights-clause-indexed
returns-in_err-reserve_lights-clause-indexed c =
    reserved_indexed c.args.self.now.entries.items c.args.self.now.lanes c.args.self.now.live
    c.args.self.now.flags.entries c.reserve_lights.new.flags.entries c.args.self.now.leaves c.args.self.now.crossing
    c.args.self.now.lit c.requires.indexed c.reserve_lights.ensures.kept

pub make_place-requires : goal.make_place-requires
make_place-requires c = record {
  indexed = reserved_indexed c.args.self.now.entries.items c.args.self.now.lanes c.args.self.now.live
      c.args.self.now.flags.entries c.reserve_lights.new.flags.entries c.args.self.now.leaves c.args.self.now.crossing
      c.args.self.now.lit c.requires.indexed c.reserve_lights.ensures.kept;
}

pub enter_lone-requires-clause-idle : goal.enter_lone-requires-clause-idle
enter_lone-requires-clause-idle c k = ap (λ x. late_at x k) c.make_place.ensures.lanes ∙ c.requires.idle k

pub enter_lone-requires-clause-new : goal.enter_lone-requires-clause-new
enter_lone-requires-clause-new c = subst (All (λ e. e.thread ≢ c.args.comer.0.0)) (sym c.make_place.ensures.same.entries) c.requires.new

pub returns-clause-told : goal.returns-clause-told
returns-clause-told c l = ap (λ f. spec.told f.entries l) c.enter_lone.ensures.flags ∙ c.make_place.ensures.same.told l ∙ c.reserve_lights.ensures.kept.same l

pub returns-clause-entries : goal.returns-clause-entries
returns-clause-entries c = on_ok c.enter_lone.result c.enter_lone.ensures.came (λ came. came.entries
    ∙ ap (with_entry (record { thread = c.args.comer.0.0; group = c.args.comer.1.now })) c.make_place.ensures.same.entries)

pub returns-clause-leaves : goal.returns-clause-leaves
returns-clause-leaves c = on_ok c.enter_lone.result c.enter_lone.ensures.came (λ came. came.leaves
    ∙ ap (λ n. c.make_place.new.self.leaves + n) (sym (lone_post c.args.comer.1.now c.args.wait c.requires.lone).many)
    ∙ ap (λ n. n + 1) c.make_place.ensures.same.leaves)

pub returns-clause-named : goal.returns-clause-named
returns-clause-named c = ok_any c.enter_lone.result (subst (λ f. spec.HavePlaces f.entries c.args.lit.now)
    (sym (c.enter_lone.ensures.flags ∙ c.make_place.ensures.flags)) c.in_ok-reserve_lights.ensures.there)

pub returns-clause-none : goal.returns-clause-none
returns-clause-none c = on_err c.enter_lone.result c.enter_lone.ensures.same (λ same. same.entries ∙ c.make_place.ensures.same.entries)

pub returns-clause-cost : goal.returns-clause-cost
returns-clause-cost c digits few = c.enter_lone.ensures.cost digits (subst (λ x. HaveDigits x digits) (sym c.make_place.ensures.lanes) few)
