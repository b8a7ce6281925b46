use Rattle.std.proofs.Common.{◌≡◌, [], true, subst}
use Rattle.std.specs.Prelude.{MatchOption}
use Rattle.cml_scan.specs.Scan.{has_row}
use Rattle.cml_hub.specs.Playing.{picked}
use Rattle.cml_hub.proofs.course.Course.pick.Goals as goal

pub returns-clause-row : goal.returns-clause-row
returns-clause-row g c =
    rw (← c.self.view_is)
    (subst (λ rows. MatchOption c.pick_row.result (rows ≡ []) (λ row. has_row rows row ≡ true)) c.table.ensures.rows c.pick_row.ensures.row)

pub returns-clause-picked : goal.returns-clause-picked
returns-clause-picked g c =
    rw (← c.self.view_is)
    (subst (λ rows. c.pick_row.result ≡ picked (record { picks = g.C.Chooser.picks; next = g.C.Chooser.next }) c.args.chooser.now rows) c.table.ensures.rows c.pick_row.ensures.picked)
