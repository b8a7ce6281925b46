use Rattle.cml_host.proofs.WriteLemmas.{writes_by}
use Rattle.cml_host.proofs.output.write_words.Goals as goal

pub returns-clause-wrote : goal.returns-clause-wrote
returns-clause-wrote g c =
    writes_by c.write_out.result (g.O.Write.contents c.args.out.now.stream.now) (g.O.Write.contents c.write_out.new.out.stream.now) c.args.words.now c.write_out.ensures.ok c.write_out.ensures.err
