use Rattle.cml_host.proofs.SayLemmas.{said_of}
use Rattle.cml_host.proofs.output.say.Goals as goal

pub returns-clause-said : goal.returns-clause-said
returns-clause-said g c =
    said_of c.write_out.result _ c.args.line.now c.write_out.new.out.calls c.args.err.now.failed c.write_out.new.out.failed c.requires.fresh
    c.write_out.ensures.ok c.write_out.ensures.err c.write_out.ensures.fine c.write_out.ensures.failed
