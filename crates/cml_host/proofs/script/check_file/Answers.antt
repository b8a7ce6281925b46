use Rattle.cml_host.specs.Scripts.{plain_script}
use Rattle.cml_host.proofs.script.check_file.Goals as goal

pub returns-clause-ok : goal.returns-clause-ok
returns-clause-ok g c = (plain_script c.in_ok-script.script, c.in_ok-script.ensures.ok, c.in_ok-count_functions.ensures)
