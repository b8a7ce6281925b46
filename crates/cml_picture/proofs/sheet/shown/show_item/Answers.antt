use Rattle.cml_facts.specs.Narrators.{places_of}
use Rattle.cml_picture.specs.Views.{plain_stack}
use Rattle.cml_picture.proofs.Along.{shown_by, stops_by}
use Rattle.cml_picture.proofs.sheet.shown.show_item.Goals as goal

pub returns-in-Some-clause-shows : goal.returns-in-Some-clause-shows
returns-in-Some-clause-shows c =
    let follows = rw c.in-Some.is at c.in_ok-happened.ensures.follows in
    let did = rw c.in-Some.is at (c.in_ok-happened.ensures.told c.requires.knows) in
    shown_by c.add.result (places_of c.args.narrator.now) c.args.hub.now.course (plain_stack c.args.stack.now) c.args.item c.tell.new.hub.course c.in-Some.happened
    (plain_stack c.add.new.self) follows.course did c.add.ensures.added

pub returns-in-Some-clause-stops : goal.returns-in-Some-clause-stops
returns-in-Some-clause-stops c =
    let follows = rw c.in-Some.is at c.in_ok-happened.ensures.follows in
    let did = rw c.in-Some.is at (c.in_ok-happened.ensures.told c.requires.knows) in
    stops_by c.add.result (places_of c.args.narrator.now) c.args.hub.now.course (plain_stack c.args.stack.now) c.args.item c.tell.new.hub.course c.in-Some.happened
    follows.course did c.add.ensures.refused
