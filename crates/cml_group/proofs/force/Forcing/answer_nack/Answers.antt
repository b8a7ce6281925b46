use Rattle.std.proofs.Common.{ap, sym, ◌∙◌}
use Rattle.cml_value.specs.Value.{guard, scope}
use Rattle.cml_group.specs.Force.{unforced, replaced}
use Rattle.cml_group.specs.Frames.{plug}
use Rattle.cml_group.proofs.Asked.{part_ask, asked, part_put, put, in_scope_asks, in_scope_put, same_need}
use Rattle.cml_group.proofs.force.Forcing.answer_nack.Goals as goal

pub returns-clause-function : goal.returns-clause-function
returns-clause-function c = λ f h.
    let asks = asked c.self.inside.part _ c.self.view_is ∙ ap part_ask c.in-Open.is in
    c.in_ok-given.ensures.function f (same_need _ _ (sym asks ∙ h))

pub returns-clause-ok : goal.returns-clause-ok
returns-clause-ok c =
    let branch = scope c.args.nack.0 (guard c.in_ok-given.given) in
    ap (plug c.give_nack.new.frames.items) c.in_ok-given.ensures.guard ∙ ap (λ l. plug l (guard c.in_ok-given.given)) c.in_ok-given.ensures.frames
    ∙ sym (put c.self.inside.part branch _ c.self.view_is ∙ ap (part_put branch) c.in-Open.is)

pub returns-clause-next : goal.returns-clause-next
returns-clause-next c =
    ap (λ e. unforced (plug c.give_nack.new.frames.items e)) c.in_ok-given.ensures.guard
    ∙ ap (λ l. unforced (plug l (guard c.in_ok-given.given))) c.in_ok-given.ensures.frames
    ∙ in_scope_asks c.in-Open.frames.items c.args.nack.0 c.in_ok-given.given

pub returns-clause-branch : goal.returns-clause-branch
returns-clause-branch c = λ answer.
    let branch = scope c.args.nack.0 answer in
    ap (λ e. replaced answer (plug c.give_nack.new.frames.items e)) c.in_ok-given.ensures.guard
    ∙ ap (λ l. replaced answer (plug l (guard c.in_ok-given.given))) c.in_ok-given.ensures.frames
    ∙ in_scope_put c.in-Open.frames.items c.args.nack.0 c.in_ok-given.given answer
    ∙ sym (put c.self.inside.part branch _ c.self.view_is ∙ ap (part_put branch) c.in-Open.is)
