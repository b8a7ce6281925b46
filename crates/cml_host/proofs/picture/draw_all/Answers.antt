use Rattle.std.proofs.Common.{refl}
use Rattle.cml_host.proofs.PictureLemmas.{no_bad_item, too_many}
use Rattle.cml_host.proofs.picture.draw_all.Goals as goal

-- each of the items can happen
pub unreachable-requires : goal.unreachable-requires
unreachable-requires c =
    no_bad_item c.args.hub.now.budget c.args.hub.now c.args.items.now _ _ c.draw.new.hub.course _ c.requires.opens c.requires.leads refl
    c.in-Err-BadItem.field-0-is c.in-Err-BadItem.ensures.refused

pub returns-in-Err-TooMany : goal.returns-in-Err-TooMany
returns-in-Err-TooMany c =
    too_many c.args.hub.now c.args.items.now _ c.draw.new.hub.course _ refl c.in-Err-TooMany.field-0-is c.in-Err-TooMany.ensures.refused
