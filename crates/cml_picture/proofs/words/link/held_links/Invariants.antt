use Rattle.std.proofs.Common.{◌≡◌, take}
use Rattle.cml_picture.specs.Links.{held_links}
use Rattle.cml_picture.proofs.words.link.held_links.Given as goal

-- those so far
abbrev pub invariant-loop-held : goal.invariant-loop-held
invariant-loop-held l = l.links.items ≡ held_links l.marks l.bottom (take l.held-index l.fn.all)
