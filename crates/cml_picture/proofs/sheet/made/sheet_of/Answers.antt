use Rattle.std.proofs.Common.{length, refl}
use Rattle.cml_facts.specs.Narrators.{places_of}
use Rattle.cml_phrase.specs.Spots.{all_places}
use Rattle.cml_picture.specs.Views.{plain_sheet, plain_stack}
use Rattle.cml_picture.proofs.Made.{sheet_made}
use Rattle.cml_picture.proofs.sheet.made.sheet_of.Goals as goal

pub returns-clause-shows : goal.returns-clause-shows
returns-clause-shows c =
    sheet_made (all_places c.args.text.now c.args.forms.now) (places_of c.in_ok-narrator.narrator) c.args.hub.now.course c.args.items.now c.items_within-shown.result.now
    c.args.from c.args.to (length c.args.items.now) c.in_ok-before.before c.show_range.new.hub.course (plain_stack c.show_range.new.stack) (plain_sheet c.in_ok-sheet.sheet)
    c.in_ok-narrator.ensures.places c.items_within-shown.ensures refl c.in_ok-before.ensures.shown c.in_ok-sheet.ensures
