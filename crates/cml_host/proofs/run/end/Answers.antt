use Rattle.std.proofs.Common.{Bool, subst}
use Rattle.cml_host.specs.Closed.{plain_asked}
use Rattle.cml_host.specs.Replies.{behind, plain_of}
use Rattle.cml_host.specs.Running.{IsPictured, plain_saving}
use Rattle.cml_host.proofs.PictureLemmas.{pictured_behind}
use Rattle.cml_host.proofs.run.end.Goals as goal

pub returns-clause-ok : goal.returns-clause-ok
returns-clause-ok c =
    let h = c.args.hub.now in
    let asked = plain_asked c.args.asked.now in
    let wanted = (plain_saving c.args.saving.now).picture in
    let bare = plain_of c.in_ok-bare.bare in
    let reply = plain_of c.in_ok-reply.reply in (
      behind h.course.output bare,
      c.in_ok-bare.ensures,
      pictured_behind h.course.output asked.explains wanted h.course.program h.budget h.course.items bare reply
          (subst (λ (e : Bool). IsPictured e wanted h.course.program h.budget h.course.items bare reply) c.is_explained-explains.ensures c.in_ok-reply.ensures),
    )
