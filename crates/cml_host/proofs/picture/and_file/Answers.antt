use Rattle.std.proofs.Common.{◌∙◌, List, ap, map}
use Rattle.cml_host.specs.Replies.{File, plain_file}
use Rattle.cml_host.proofs.ReplyLemmas.{mapped_more}
use Rattle.cml_host.proofs.picture.and_file.Goals as goal

pub returns : goal.returns
returns c =
    ap (λ (fs : List File). record { output = c.args.bare.output.items; files = fs; words = c.args.bare.words.items; status = c.args.bare.status })
    (ap (map plain_file) c.in_ok-push.ensures.items ∙ mapped_more c.args.bare.files.items c.args.file)
