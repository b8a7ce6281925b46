use Rattle.std.proofs.Common.{◌≡◌, ap, ◌∙◌, sym}
use Rattle.cml_value.specs.Value.{iget, mget}
use Rattle.cml_value.specs.Views.{plain_base}
use Rattle.cml_book.proofs.Given.{map_same, given_same, set_ivars, set_mvars}
use Rattle.cml_book.proofs.state.State.given.Goals as goal

pub returns-in-IGet-clause-world : goal.returns-in-IGet-clause-world
returns-in-IGet-clause-world c =
    let base : iget c.in-IGet.i.0 ≡ c.args.base = ap plain_base (sym c.in-IGet.is) ∙ c.into_kind.ensures in
    let objects = sym (map_same c.give.new.self.objects) ∙ c.give.ensures.states ∙ given_same _ _ ∙ map_same c.self.inside.ivars.objects in
    rw (← c.self.view_is, ← base) (set_ivars _ _ objects)

pub returns-in-MGet-clause-world : goal.returns-in-MGet-clause-world
returns-in-MGet-clause-world c =
    let base : mget c.in-MGet.m.0 ≡ c.args.base = ap plain_base (sym c.in-MGet.is) ∙ c.into_kind.ensures in
    let objects = sym (map_same c.give-in-MGet.new.self.objects) ∙ c.give-in-MGet.ensures.states ∙ given_same _ _ ∙ map_same c.self.inside.mvars.objects in
    rw (← c.self.view_is, ← base) (set_mvars _ _ objects)
