use Rattle.std.proofs.Common.{◌≡◌, true}
use Rattle.cml_scan.specs.Scan.{scan}
use Rattle.cml_hub.specs.Runs.{is_allowed}
use Rattle.cml_step.specs.Calls.{text_of}
use Rattle.cml_hub.specs.Trails.{course_of}
use Rattle.cml_hub.specs.Courses.{PlainCourse, run_of}
use Rattle.cml_hub.proofs.DeedLemmas.{still_known, no_deed}
use Rattle.cml_hub.proofs.RowLemmas.{row_there}
use Rattle.cml_hub.proofs.Meeting.{MayTake, takes_there, committed_is, commit_refused, parties_wait, all_resume, met_leads, met_so}
use Rattle.cml_hub.proofs.course.Course.meet.Goals as goal

pub commit_known-requires : goal.commit_known-requires
commit_known-requires c =
    let s = c.self.inside in
    let ok : is_allowed s.threads c.args.item ≡ true = rw (← c.self.view_is) at c.requires.allowed in
    takes_there s.threads c.args.item c.args.row c.requires.takes ok

pub resume_all-requires : goal.resume_all-requires
resume_all-requires c =
    let s = c.self.inside in
    let k : PlainCourse = course_of s.program s.threads s.trail in
    let ok : is_allowed s.threads c.args.item ≡ true = rw (← c.self.view_is) at c.requires.allowed in
    let has = takes_there s.threads c.args.item c.args.row c.requires.takes ok in
    let is = committed_is s.threads c.commit_known.new.self c.args.row c.in-Ok.committed c.in-Ok.ensures.step has in
    let parties = parties_wait s.threads c.args.row ((c.scan_lists_what_is_enabled.ensures s.threads c.args.row).0 (row_there (scan s.threads) c.args.row has)) in
    rw (is.1) (all_resume k c.args.row c.self.invariant.0 parties)

pub invariant_of-self-in-Ok : goal.invariant_of-self-in-Ok
invariant_of-self-in-Ok c =
    let s = c.self.inside in
    let k : PlainCourse = course_of s.program s.threads s.trail in
    let ok : is_allowed s.threads c.args.item ≡ true = rw (← c.self.view_is) at c.requires.allowed in
    let has = takes_there s.threads c.args.item c.args.row c.requires.takes ok in
    let is = committed_is s.threads c.commit_known.new.self c.args.row c.in-Ok.committed c.in-Ok.ensures.step has in
    let parties = parties_wait s.threads c.args.row ((c.scan_lists_what_is_enabled.ensures s.threads c.args.row).0 (row_there (scan s.threads) c.args.row has)) in
    let may : MayTake s.threads c.args.item c.args.row = record { takes = c.requires.takes; allowed = ok; parties = parties; numbers = c.read_numbers.ensures } in
    let all = rw (is.1) at c.resume_all.ensures in (
      rw (c.push_reserved.ensures.items, c.reserve.ensures.items, is.0) (met_leads k c.args.item c.args.row c.resume_all.new.machines.items c.self.invariant.0 may all),
      rw (c.push_reserved.ensures.items, c.reserve.ensures.items)
          (still_known (text_of s.program) s.trail.items.items c.args.item (run_of k) s.trail.deeds.origins.items s.trail.deeds.faults
          c.self.invariant.0.leads (no_deed (text_of s.program) (run_of k) c.args.item c.args.row c.requires.takes)
          c.self.invariant.1),
    )

pub returns-in-Ok-clause-ok : goal.returns-in-Ok-clause-ok
returns-in-Ok-clause-ok c =
    let s = c.self.inside in
    let k : PlainCourse = course_of s.program s.threads s.trail in
    let ok : is_allowed s.threads c.args.item ≡ true = rw (← c.self.view_is) at c.requires.allowed in
    let has = takes_there s.threads c.args.item c.args.row c.requires.takes ok in
    let is = committed_is s.threads c.commit_known.new.self c.args.row c.in-Ok.committed c.in-Ok.ensures.step has in
    let parties = parties_wait s.threads c.args.row ((c.scan_lists_what_is_enabled.ensures s.threads c.args.row).0 (row_there (scan s.threads) c.args.row has)) in
    let may : MayTake s.threads c.args.item c.args.row = record { takes = c.requires.takes; allowed = ok; parties = parties; numbers = c.read_numbers.ensures } in
    let all = rw (is.1) at c.resume_all.ensures in
    rw (← c.self.view_is, c.push_reserved.ensures.items, c.reserve.ensures.items, is.0) (met_so k c.args.item c.args.row c.resume_all.new.machines.items c.self.invariant.0 may all)

pub unreachable-requires : goal.unreachable-requires
unreachable-requires c =
    let s = c.self.inside in
    let ok : is_allowed s.threads c.args.item ≡ true = rw (← c.self.view_is) at c.requires.allowed in
    let has = takes_there s.threads c.args.item c.args.row c.requires.takes ok in
    let refused = rw c.in-Err-Refused.field-0-is at c.in-Err-Refused.ensures.step in
    commit_refused s.threads c.args.row c.in-Err-Refused.field-0-0 refused.0 has
