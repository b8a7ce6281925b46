use Rattle.cml_properties.proofs.agreement.agree.Goals as goal

pub returns-in-SameLines : goal.returns-in-SameLines
returns-in-SameLines c = rw c.in-SameLines.is c.have_same_lines.ensures
