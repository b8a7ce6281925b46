use Rattle.cml_text.proofs.ListLemmas.{a_list_is_its_forms}
use Rattle.cml_text.proofs.law.a_list_is_its_forms.Goals as goal

pub returns : goal.returns
returns c = a_list_is_its_forms
