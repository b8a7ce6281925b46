use Rattle.std.proofs.Common.{◌∙◌, refl}
use Rattle.cml_index.specs.Posts as spec
use Rattle.cml_index.proofs.Lit.{still_named}
use Rattle.cml_index.proofs.state.IndexState.forget.Goals as goal

pub returns-in-Alarm-clause-indexed : goal.returns-in-Alarm-clause-indexed
returns-in-Alarm-clause-indexed c =
    still_named c.args.self.now.entries.items c.args.self.now.lanes c.forget.new.self c.args.self.now.live
    c.args.self.now.live c.args.self.now.flags.entries c.forget_light.new.flags.entries c.args.self.now.leaves
    c.args.self.now.crossing c.args.self.now.lit c.requires.indexed (λ k. (c.forget.ensures k).places)
    (λ k. (c.forget.ensures k).going) (λ n. refl) (λ n. refl) c.forget_light.ensures.told
    (λ k on. c.forget_light.ensures.kept (spec.slot_of_nack k) refl ∙ on)
