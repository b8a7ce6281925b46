use Rattle.std.proofs.Common.{rules, ◌∙◌, ap, sym, subst}
use Rattle.std.specs.List.{All}
use Rattle.cml_scan.specs.Table.{IsThere}
use Rattle.cml_index.specs.Live.{HasPlace}
use Rattle.cml_index.specs.Slots.{late_at}
use Rattle.cml_index.proofs.state.IndexState.tell_and_leave.Goals as goal

pub leave_all-requires-clause-there : goal.leave_all-requires-clause-there
leave_all-requires-clause-there c = record {
  there = subst (λ es. All (IsThere es) c.args.gone.now) (sym (ap (λ v. v.items) c.tell_both.ensures.still.entries)) c.requires.there.there;
  once = c.requires.there.once;
}

pub returns-clause-freed : goal.returns-clause-freed
returns-clause-freed c = record {
  room = search rules;
  shorter = search rules;
  lighter = search rules;
  seat = search rules;
  places = λ n h. c.leave_all.ensures.freed.places n (subst (λ live. HasPlace live n) (sym c.tell_both.ensures.still.live) h);
  late = λ k. c.leave_all.ensures.freed.late k ∙ ap (λ lanes. late_at lanes k) c.tell_both.ensures.still.lanes;
  named = λ k named. c.leave_all.ensures.freed.named k (c.tell_both.ensures.kept k named);
}
