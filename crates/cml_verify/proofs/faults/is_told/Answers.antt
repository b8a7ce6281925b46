use Rattle.std.proofs.Common.{ℕ, Contains, get_or, subst, arith}
use Rattle.std.proofs.lemmas.Option.{slice_get-get_or, get_or_from_slice_get}
use Rattle.cml_value.specs.declared.number.Tid.{Tid}
use Rattle.cml_verify.proofs.faults.is_told.Goals as goal

pub returns-then-is_like : goal.returns-then-is_like
returns-then-is_like c = λ _.
    let told = c.args.told.now in
    let i = c.loop-one.one-index in
    let none : ℕ × Tid = (0, record { 0 = 0 }) in
    let f : ℕ × Tid = get_or told i none in
    let l = c.is_like.ensures c.if-is_like.true in
    let has : Contains told f = (i, omega arith, get_or_from_slice_get told i f f (slice_get-get_or told i none (omega arith))) in
    (f.0, subst (λ t. Contains told (f.0, t)) l.0 has, l.1, l.2)
