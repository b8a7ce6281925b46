use Rattle.std.proofs.Common.{◌≡◌, take}
use Rattle.cml_picture.specs.Feeds.{feeders}
use Rattle.cml_picture.proofs.sheet.feed.feeders.Given as goal

-- those so far
abbrev pub invariant-loop-happened : goal.invariant-loop-happened
invariant-loop-happened l = l.all.items ≡ feeders l.hub.course.world l.taken (take l.happened-index l.shown)
