use Rattle.std.proofs.Common.{◌≡◌, ◌<◌, List, length, map, rules, subst}
use Rattle.std.specs.List.{All}
use Rattle.cml_explore.specs.Classes.{PlainClass}
use Rattle.cml_explore.specs.declared.told.ClassTold.{ClassTold}
use Rattle.cml_host.specs.Exploring.{files_told, saved_start}
use Rattle.cml_host.specs.Replies.{plain_file}
use Rattle.cml_host.proofs.ExploringLemmas.{told_below}
use Rattle.cml_host.proofs.explore.told_made.Goals as goal

pub asked_files-requires : goal.asked_files-requires
asked_files-requires c =
    let below = told_below _ c.args.script.now.program c.args.asked.now c.args.made.now c.in_ok-told.told c.in_ok-told.ensures in
    record {
      below = subst (λ (cs : List PlainClass). All (λ (x : ClassTold). x.number < length cs) c.in_ok-told.told.classes.items) (search rules) below;
    }

pub returns : goal.returns
returns c =
    let s = c.args.script.now in
    let options = c.args.options.now in
    let files : map plain_file c.in_ok-files.files.items ≡ files_told (saved_start options) options.steps s.program c.args.made.now.classes c.in_ok-told.told = search rules in
    ((c.in_ok-told.told, c.in_ok-told.ensures, files, c.in_ok-output.ensures), search rules, c.judge.ensures)
