-- A code of each frame: a tree of numbers from which it can be read back. The toolchain asks for one; no rule uses it.
use Rattle.std.specs.Prelude.{◌≡◌}
use Rattle.std.specs.Coded.{Coded, coded_list}
use base.Stored.{Gv, gnum, gcons}
use Rattle.cml_value.specs.Codes.{event_code, function_code}
use Rattle.cml_value.specs.GroupCodes.{group_code}
use Rattle.cml_group.specs.Frames.{PlainFrame, in_choice, in_wrap, in_scope}

abbrev pub frame_gv : PlainFrame → Gv
frame_gv (in_choice gs es) = gcons (gnum 0) (gcons ((coded_list group_code).code gs) ((coded_list event_code).code es))
frame_gv (in_wrap f) = gcons (gnum 1) (function_code.code f)
frame_gv (in_scope k) = gcons (gnum 2) (gnum k)

pub frame_gv_inj : (x y : PlainFrame) → frame_gv x ≡ frame_gv y → x ≡ y
frame_gv_inj (in_choice gs es) (in_choice hs fs) p = let a = (coded_list group_code).inj gs hs (cc) in let b = (coded_list event_code).inj es fs (cc) in cc
frame_gv_inj (in_wrap f) (in_wrap g) p = let a = function_code.inj f g (cc) in cc
frame_gv_inj (in_scope k) (in_scope l) p = cc
frame_gv_inj _ _ p = cc

abbrev pub frame_code : Coded PlainFrame
frame_code = record { code = frame_gv; inj = frame_gv_inj }
