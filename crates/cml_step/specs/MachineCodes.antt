-- A code of each machine: a tree of numbers from which it can be read back. The toolchain asks for one; no rule uses it.
use Rattle.std.specs.Prelude.{◌≡◌, ℕ, List, refl}
use Rattle.std.specs.Coded.{Coded, code_by, coded×, coded_ℕ, coded_bool, coded_list}
use base.Stored.{Gv, gnil, gnum, gcons}
use Rattle.cml_value.specs.Codes.{value_code, function_code, event_code}
use Rattle.cml_step.specs.declared.call.Wait.{Wait}
use Rattle.cml_step.specs.declared.call.Wait.TheVariants as wait
use Rattle.cml_step.specs.Machines.{PlainHeld, call, force, wraps, PlainMachine}

abbrev pub wait_gv : Wait → Gv
wait_gv wait.Runs = gcons (gnum 0) gnil
wait_gv wait.Drops = gcons (gnum 1) gnil
wait_gv (wait.Gives slot) = gcons (gnum 2) (gnum slot)

pub wait_gv_inj : (x y : Wait) → wait_gv x ≡ wait_gv y → x ≡ y
wait_gv_inj wait.Runs wait.Runs p = refl
wait_gv_inj wait.Drops wait.Drops p = refl
wait_gv_inj (wait.Gives a) (wait.Gives b) p = cc
wait_gv_inj _ _ p = cc

abbrev pub held_gv : PlainHeld → Gv
held_gv (call f at slots w) = gcons (gnum 0) (gcons (gnum f) (gcons (gnum at) (gcons ((coded_list value_code).code slots) (wait_gv w))))
held_gv (force e asked) = gcons (gnum 1) (gcons (event_code.code e) (coded_bool.code asked))
held_gv (wraps fs v) = gcons (gnum 2) (gcons ((coded_list function_code).code fs) (value_code.code v))

pub held_gv_inj : (x y : PlainHeld) → held_gv x ≡ held_gv y → x ≡ y
held_gv_inj (call f at slots w) (call g at' vs u) p = let b = (coded_list value_code).inj slots vs (cc) in let c = wait_gv_inj w u (cc) in cc
held_gv_inj (force e a) (force g b) p = let i = event_code.inj e g (cc) in let j = coded_bool.inj a b (cc) in cc
held_gv_inj (wraps fs v) (wraps gs w) p = let i = (coded_list function_code).inj fs gs (cc) in let j = value_code.inj v w (cc) in cc
held_gv_inj _ _ p = cc

abbrev pub held_code : Coded PlainHeld
held_code = record { code = held_gv; inj = held_gv_inj }

abbrev pub machine_code : Coded PlainMachine
machine_code =
    code_by (ℕ × List PlainHeld) (coded× coded_ℕ (coded_list held_code)) (λ m. (m.thread, m.stack)) (λ p. record { thread = p.0; stack = p.1 }) (λ _. refl)
