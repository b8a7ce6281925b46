-- A code of each ask: a tree of numbers from which it can be read back. The toolchain asks for one; no rule uses it.
use Rattle.std.specs.Prelude.{◌≡◌, ℕ, [], ◌∷◌, get_or, refl}
use Rattle.std.specs.Coded.{Coded, code_by, coded_ℕ, coded_option}
use Rattle.std.proofs.Common.{arith}
use base.Stored.{Gv, gnil, gnum, gcons}
use Rattle.cml_value.specs.Codes.{value_code, function_code}
use Rattle.cml_value.specs.GroupCodes.{group_code}
use Rattle.cml_step.specs.declared.fault.Fault.{Fault}
use Rattle.cml_step.specs.declared.fault.Fault.TheVariants as fault_of
use Rattle.cml_step.specs.Asks.{PlainAsk, nothing, yield, spawn, make_chan, make_swap, make_ivar, make_mvar, make_mailbox, make_mchan, make_port}
use Rattle.cml_step.specs.Asks.{copy_port, iput, mput, mail, multicast, print, now, fresh_nack, sync, end, fault}

abbrev pub fault_number : Fault → ℕ
fault_number fault_of.Kind = 0
fault_number fault_of.Overflow = 1
fault_number fault_of.Range = 2
fault_number fault_of.Deep = 3
fault_number fault_of.Stack = 4
fault_number fault_of.Put = 5
fault_number fault_of.Leaves = 6
fault_number fault_of.Far = 7
fault_number fault_of.Full = 8

abbrev pub fault_by : ℕ → Fault
fault_by n = get_or (fault_of.Kind ∷ fault_of.Overflow ∷ fault_of.Range ∷ fault_of.Deep ∷ fault_of.Stack ∷ fault_of.Put ∷ fault_of.Leaves ∷ fault_of.Far ∷ fault_of.Full ∷ []) n fault_of.Kind

pub fault_back : (x : Fault) → fault_by (fault_number x) ≡ x
fault_back fault_of.Kind = refl
fault_back fault_of.Overflow = refl
fault_back fault_of.Range = refl
fault_back fault_of.Deep = refl
fault_back fault_of.Stack = refl
fault_back fault_of.Put = refl
fault_back fault_of.Leaves = refl
fault_back fault_of.Far = refl
fault_back fault_of.Full = refl

abbrev pub fault_code : Coded Fault
fault_code = code_by ℕ coded_ℕ fault_number fault_by fault_back

abbrev pub ask_gv : PlainAsk → Gv
ask_gv nothing = gcons (gnum 0) gnil
ask_gv yield = gcons (gnum 1) gnil
ask_gv (spawn f) = gcons (gnum 2) (function_code.code f)
ask_gv make_chan = gcons (gnum 3) gnil
ask_gv make_swap = gcons (gnum 4) gnil
ask_gv make_ivar = gcons (gnum 5) gnil
ask_gv (make_mvar v) = gcons (gnum 6) ((coded_option value_code).code v)
ask_gv make_mailbox = gcons (gnum 7) gnil
ask_gv make_mchan = gcons (gnum 8) gnil
ask_gv (make_port n) = gcons (gnum 9) (gnum n)
ask_gv (copy_port n) = gcons (gnum 10) (gnum n)
ask_gv (iput n v) = gcons (gnum 11) (gcons (gnum n) (value_code.code v))
ask_gv (mput n v) = gcons (gnum 12) (gcons (gnum n) (value_code.code v))
ask_gv (mail n v) = gcons (gnum 13) (gcons (gnum n) (value_code.code v))
ask_gv (multicast n v) = gcons (gnum 14) (gcons (gnum n) (value_code.code v))
ask_gv (print v) = gcons (gnum 15) (value_code.code v)
ask_gv now = gcons (gnum 16) gnil
ask_gv fresh_nack = gcons (gnum 17) gnil
ask_gv (sync g) = gcons (gnum 18) (group_code.code g)
ask_gv end = gcons (gnum 19) gnil
ask_gv (fault why) = gcons (gnum 20) (fault_code.code why)

heads : (m n : ℕ) (x y : Gv) → gcons (gnum m) x ≡ gcons (gnum n) y → m ≡ n
heads m n x y p = cc

pub ask_gv_inj : (x y : PlainAsk) → ask_gv x ≡ ask_gv y → x ≡ y
ask_gv_inj nothing nothing p = refl
ask_gv_inj yield yield p = refl
ask_gv_inj (spawn f) (spawn g) p = let e = function_code.inj f g (cc) in cc
ask_gv_inj make_chan make_chan p = refl
ask_gv_inj make_swap make_swap p = refl
ask_gv_inj make_ivar make_ivar p = refl
ask_gv_inj (make_mvar v) (make_mvar w) p = let e = (coded_option value_code).inj v w (cc) in cc
ask_gv_inj make_mailbox make_mailbox p = refl
ask_gv_inj make_mchan make_mchan p = refl
ask_gv_inj (make_port m) (make_port n) p = cc
ask_gv_inj (copy_port m) (copy_port n) p = cc
ask_gv_inj (iput m v) (iput n w) p = let e = value_code.inj v w (cc) in cc
ask_gv_inj (mput m v) (mput n w) p = let e = value_code.inj v w (cc) in cc
ask_gv_inj (mail m v) (mail n w) p = let e = value_code.inj v w (cc) in cc
ask_gv_inj (multicast m v) (multicast n w) p = let e = value_code.inj v w (cc) in cc
ask_gv_inj (print v) (print w) p = let e = value_code.inj v w (cc) in cc
ask_gv_inj now now p = refl
ask_gv_inj fresh_nack fresh_nack p = refl
ask_gv_inj (sync g) (sync h) p = let e = group_code.inj g h (cc) in cc
ask_gv_inj end end p = refl
ask_gv_inj (fault x) (fault y) p = let e = fault_code.inj x y (cc) in cc
ask_gv_inj _ _ p = absurd (omega (arith, heads _ _ _ _ p))

abbrev pub ask_code : Coded PlainAsk
ask_code = record { code = ask_gv; inj = ask_gv_inj }
