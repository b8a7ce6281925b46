use Rattle.std.proofs.Common.{rules, Some, None}
use Rattle.cml_host.specs.Replies.{plain_file, plain_of}
use Rattle.cml_host.specs.Running.{IsRunDrawn}
use Rattle.cml_host.proofs.PictureLemmas.{pictured, unpictured}
use Rattle.cml_host.proofs.picture.add_picture.Goals as goal

pub returns-in_ok-new_file-in-Some : goal.returns-in_ok-new_file-in-Some
returns-in_ok-new_file-in-Some c =
    let drawn : IsRunDrawn c.args.hub.now (Some c.in-Some.bytes.items) = search rules in
    pictured c.and_file.result c.args.explains c.args.wanted.now.name.now c.in-Some.bytes.items c.args.hub.now (plain_of c.args.bare) (plain_file c.in_ok-new_file-in-Some.field-0) drawn
    c.in_ok-new_file-in-Some.ensures c.and_file.ensures

pub returns-in-None : goal.returns-in-None
returns-in-None c =
    let none : IsRunDrawn c.args.hub.now None = search rules in
    unpictured c.too_long.result c.args.explains c.args.wanted.now.name.now c.args.hub.now (plain_of c.args.bare) none c.too_long.ensures
