use Rattle.std.proofs.Common.{inr, refl}
use Rattle.std.proofs.lemmas.Result.{err_from_is_err_and}
use Rattle.cml_work.proofs.Going.{extends_same}
use Rattle.cml_work.proofs.locked.Locked.look.Goals as goal

pub returns-in_err-run_short-clause-looks : goal.returns-in_err-run_short-clause-looks
returns-in_err-run_short-clause-looks g c = λ going.
    let p = err_from_is_err_and c.from_residual.result c.from_residual.ensures.1 in
    let h = c.run_short.new.self.hub in
    rw p.1 (inr (h, c.run_short.ensures.runs, (extends_same h, refl)))
