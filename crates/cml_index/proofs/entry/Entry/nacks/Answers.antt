use Rattle.std.proofs.Common.{sym, ◌∙◌, ap}
use Rattle.cml_value.specs.Group.{scopes, nacks_of}
use Rattle.cml_index.specs.Entry.{post_nacks}
use Rattle.cml_index.proofs.entry.Entry.nacks.Goals as goal

pub returns-in-Lone : goal.returns-in-Lone
returns-in-Lone c = sym (ap post_nacks c.in-Lone.is) ∙ c.self.invariant.1 ∙ ap (λ e. nacks_of (scopes e.group)) c.self.view_is
