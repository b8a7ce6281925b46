use Rattle.std.proofs.Common.{◌∙◌, sym, ap}
use Rattle.std.specs.Option.{option_copied}
use Rattle.cml_explore.proofs.ClassLemmas.{class_there, class_is}
use Rattle.cml_explore.proofs.classes.Classes.class.Goals as goal

pub unreachable-requires : goal.unreachable-requires
unreachable-requires c =
    class_there (λ d. d.items) c.self.inside.details.keys c.self.inside.summaries.items c.args.number c.args.self.now c.self.invariant c.self.view_is c.requires
    (sym (ap option_copied c.in-None.is) ∙ c.get_index.ensures.key)

pub returns : goal.returns
returns c =
    class_is (λ d. d.items) c.self.inside.details.keys c.self.inside.summaries.items c.args.number c.in-Some.details.now
    c.index.result.now c.as_slice.result.now c.args.self.now c.self.invariant c.self.view_is c.requires
    c.in-Some.ensures.key c.index.ensures c.as_slice.ensures.value
