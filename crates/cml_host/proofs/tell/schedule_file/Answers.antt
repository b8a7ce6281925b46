use Rattle.std.proofs.Common.{rules, ◌≡◌, Some, option_map}
use Rattle.cml_host.proofs.ClosedLemmas.{one_scheduled}
use Rattle.cml_host.proofs.tell.schedule_file.Goals as goal

pub returns-in_ok-new_file-in-Some : goal.returns-in_ok-new_file-in-Some
returns-in_ok-new_file-in-Some c =
    let named : option_map (λ name. name.now) c.args.save_as ≡ Some c.in-Some.name.now = search rules in
    one_scheduled c.one_file.result c.in_ok-new_file-in-Some.field-0 c.args.explains _ c.in-Some.name.now c.in_ok-schedule-in-Some.schedule.items _ named c.in_ok-new_file-in-Some.ensures
    c.in_ok-schedule-in-Some.ensures.text c.one_file.ensures
