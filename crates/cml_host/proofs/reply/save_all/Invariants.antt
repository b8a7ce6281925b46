use Rattle.std.proofs.Common.{map, take}
use Rattle.cml_host.specs.Replies.{AreSaved, plain_file}
use Rattle.cml_host.proofs.reply.save_all.Given as goal

-- the files so far were saved
abbrev pub invariant-loop-count : goal.invariant-loop-count
invariant-loop-count g l = AreSaved (map plain_file (take l.count l.files)) (g.S.Store.holds l.fn.store) (g.S.Store.holds l.store)
