use Rattle.std.proofs.Common.{rules, ◌≡◌, Bool, map, option_map, refl, subst}
use Rattle.cml_check.specs.Sizes.{size_of}
use Rattle.cml_hub.specs.Courses.{run_of}
use Rattle.cml_schedule.specs.Written.{schedule_text}
use Rattle.cml_host.specs.Closed.{plain_asked, schedule_file}
use Rattle.cml_host.specs.Replies.{plain_file}
use Rattle.cml_host.specs.Told.{end_line}
use Rattle.cml_host.specs.declared.reply.Reply.{Reply}
use Rattle.cml_host.proofs.ClosedLemmas.{closed_as}
use Rattle.cml_host.proofs.TellLemmas.{whole_is}
use Rattle.cml_host.proofs.tell.close_reply.Goals as goal

pub returns : goal.returns
returns c =
    let h = c.args.hub.now in
    let asked = plain_asked c.args.asked.now in
    let save_as = option_map (λ name. name.now) c.args.save_as in
    let closing = c.in_ok-closing.closing in
    let reply : Reply = record { output = c.into_bytes.result; files = c.in_ok-files.files; words = closing.words; status = closing.status } in
    let line : c.into_bytes.result.items ≡ end_line c.end.result c.pending.result = search rules in
    closed_as asked save_as h closing reply
    (whole_is h.course.output c.into_bytes.result.items c.end.result c.pending.result h.budget (run_of h.course) refl line c.end.ensures c.pending.ensures)
    (subst (λ (e : Bool). map plain_file c.in_ok-files.files.items ≡ schedule_file e save_as (schedule_text h.budget (size_of h.course.program) h.course.items)) c.is_explained.ensures
    c.in_ok-files.ensures) c.in_ok-closing.ensures refl refl
