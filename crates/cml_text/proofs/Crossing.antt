-- A form may cross threads and be shared among them: it reaches itself, so it is shown of one layer, given that it holds of what lies in it,
-- and then of all.
use denote.Model.Local.{Parts, rows}
use denote.Model.Goals.{send, sync, has_of, part_has}
use denote.Model.Marks.{both_send, both_sync}
use denote.Param.Send.{IsSend, IsSync, sendable}
use Rattle.std.proofs.Crossing.{crosses}
use Rattle.cml_text.specs.contracts.sexpr.Sexpr.TheKnot as form
use Rattle.cml_text.specs.contracts.sexpr.Sexpr as Sexpr
use Rattle.cml_text.specs.declared.sexpr.Sexpr.TheDeep as forms

module _ (p : Parts form.frame) (s : (j : forms.the_members) → IsSend (rows form.frame p j)) (y : (j : forms.the_members) → IsSync (rows form.frame p j)) where
  form_sends : (i : forms.the_members) → IsSend (rows form.frame (form.step p) i)
  form_sends forms.member-Sexpr = has_of form.frame send (form.step p) forms.member-Sexpr (part_has send (form.view-Sexpr p) (search (sendable, crosses) depth 60 fits 100000))

  form_syncs : (i : forms.the_members) → IsSync (rows form.frame (form.step p) i)
  form_syncs forms.member-Sexpr = has_of form.frame sync (form.step p) forms.member-Sexpr (part_has sync (form.view-Sexpr p) (search (sendable, crosses) depth 60 fits 100000))

pub form_send : IsSend Sexpr.the_row
form_send = both_send form.frame form.step form.sizes form_sends form_syncs forms.member-Sexpr

pub form_sync : IsSync Sexpr.the_row
form_sync = both_sync form.frame form.step form.sizes form_sends form_syncs forms.member-Sexpr

pub ruleset forms_cross = (form_send, form_sync)
