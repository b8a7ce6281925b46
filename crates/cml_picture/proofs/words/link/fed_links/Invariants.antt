use Rattle.std.proofs.Common.{◌≡◌, take}
use Rattle.cml_picture.specs.Links.{fed_links}
use Rattle.cml_picture.proofs.words.link.fed_links.Given as goal

-- those so far
abbrev pub invariant-loop-fed : goal.invariant-loop-fed
invariant-loop-fed l = l.links.items ≡ fed_links l.marks (take l.fed-index l.fn.all)
